-- 01, "State test", before number 13 of a state itself: a stream as twenty words, the receiver's and then the sender's.
use Rattle.std.specs.Prelude.{ℕ, Bool, ◌&&◌, List, ◌++◌, length, take, drop, eqb}
use Rattle.packet.specs.Bytes.{spliced}
use Rattle.receiver.specs.declared.receiver.Receiver.{Receiver}
use Rattle.sender.specs.declared.sender.Sender.{Sender}
use Rattle.stream.specs.declared.stream.DataStream.{DataStream}
use Rattle.c_state.specs.Receiver.{receiver_words, receiver_of, receiver_holds}
use Rattle.c_state.specs.Sender.{sender_words, sender_of, sender_holds}

abbrev pub stream_words : ℕ
stream_words = 20

-- the words of each end
abbrev pub receiver_part : List ℕ → List ℕ
receiver_part ws = take 7 ws

abbrev pub sender_part : List ℕ → List ℕ
sender_part ws = drop 7 ws

-- ---- which words are a stream's
unfoldable pub receiver_fits : List ℕ → Bool
receiver_fits ws = eqb (length ws) stream_words && receiver_holds (receiver_part ws)

unfoldable pub sender_fits : List ℕ → Bool
sender_fits ws = eqb (length ws) stream_words && sender_holds (sender_part ws)

unfoldable pub fits : List ℕ → Bool
fits ws = receiver_fits ws && sender_fits ws

-- ---- from the words
abbrev pub receiver_in : List ℕ → Receiver
receiver_in ws = receiver_of (receiver_part ws)

abbrev pub sender_in : List ℕ → Sender
sender_in ws = sender_of (sender_part ws)

unfoldable pub loaded : List ℕ → DataStream
loaded ws = record { sender = sender_in ws; receiver = receiver_in ws }

-- ---- into the words
unfoldable pub stored : DataStream → List ℕ
stored d = receiver_words d.receiver ++ sender_words d.sender

-- the words after a call of one end: those of the other end stay
abbrev pub with_receiver : List ℕ → Receiver → List ℕ
with_receiver ws r = spliced ws 0 (receiver_words r)

abbrev pub with_sender : List ℕ → Sender → List ℕ
with_sender ws s = spliced ws 7 (sender_words s)
