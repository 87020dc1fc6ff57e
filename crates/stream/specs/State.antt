-- 01, "Numbers of each operation": Start and State test, of both ends of a stream.
use Rattle.std.specs.Prelude.{ℕ, Bool, ◌&&◌, List}
use Rattle.receiver.specs.Receiver.{valid_of as receiver_valid, fresh_of}
use Rattle.receiver.specs.declared.receiver.Receiver.{Receiver}
use Rattle.sender.specs.State.{valid_of as sender_valid, fresh as fresh_sender}
use Rattle.sender.specs.declared.sender.Sender.{Sender}
use Rattle.stream.specs.declared.stream.DataStream.{DataStream}

-- the state test: that of each end
unfoldable pub valid_of : DataStream → List ℕ → Bool
valid_of s ring = receiver_valid s.receiver && sender_valid s.sender ring

-- a start with this window, history and request queue: both ends fresh
abbrev pub fresh : ℕ → ℕ → ℕ → DataStream
fresh window words places = record { sender = fresh_sender words places; receiver = fresh_of window }

-- what stands in for a stream where the start is refused: one that every call refuses
abbrev pub unstarted : DataStream
unstarted = fresh 0 0 0

-- one end changes, and the other is as it was
abbrev pub with_sender : DataStream → Sender → DataStream
with_sender s e = record { sender = e; receiver = s.receiver }

abbrev pub with_receiver : DataStream → Receiver → DataStream
with_receiver s e = record { sender = s.sender; receiver = e }
