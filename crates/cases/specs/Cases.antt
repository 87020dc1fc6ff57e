-- 01, "Session cases": those marked P, as one table of the definitions; "State test": payloads and histories that no call leaves; "Numbers of each operation": words that no command has (4), a reason that isn't defined (11), a stream's answers as numbers;
-- reading at a payload's end, messages by their types, places of a ring past its end, what a stream hears and asks for, how a stream and a window lie in words.
use Rattle.std.specs.Prelude.{ℕ, zero, suc, ◌+◌, ◌≤◌, true, false, List, [], ◌∷◌, ◌++◌, ◌≡◌, take, replicate, set, get_or, Option, Some, None, Result, Ok, Err, ⊤}
use Rattle.config.specs.declared.refusal.Refusal.{Refusal}
use Rattle.idle.specs.declared.idle.Idle.{Idle}
use Rattle.receiver.specs.declared.receiver.Delivery.{Delivery}
use Rattle.sender.specs.declared.sender.SenderAnswer.{SenderAnswer}
use Rattle.stream.specs.declared.stream.StreamAnswer.{StreamAnswer}
use Rattle.window.specs.declared.window.SeqRange.{SeqRange}
use Rattle.writing.specs.declared.writing.Written.{Written}
use Rattle.config.specs.Settings.{defaults}
use Rattle.config.specs.Refusals.{number_of}
use Rattle.config.specs.declared.refusal.Refusal.TheVariants.{TooLarge, InvalidValue, ReasonNotAllowed, InvalidState, InvalidRecord, DivisionsNotAllowed}
use Rattle.packet.specs.Bytes.{bytes_of, words_of}
use Rattle.packet.specs.Layout.{packet}
use Rattle.packet.specs.Read.{header, next_of}
use Rattle.packet.specs.declared.cursor.PacketItem.TheVariants.{Command, Truncated, End}
use Rattle.packet.specs.Write.{refused_of, written_of}
use Rattle.packet.specs.declared.writer.PayloadWriter.{PayloadWriter}
use Rattle.packet.specs.declared.writer.Wrote.{Wrote as PayloadWrote}
use Rattle.command.specs.Write.{request_packet, error_written}
use Rattle.command.specs.Messages.{messages_of, walked}
use Rattle.window.specs.Answers.{new_answer, accept_answer, missing_answer, request_answer}
use Rattle.window.specs.Window.{fresh}
use Rattle.window.specs.declared.window.Class.{Class}
use Rattle.window.specs.declared.window.Class.TheVariants.{New, Late, Duplicate}
use Rattle.window.specs.declared.window.ReceiveWindow.{ReceiveWindow}
use Rattle.history.specs.Ring.{slot_of, ring_stored, ring_read}
use Rattle.sender.specs.State.{fresh as fresh_sender}
use Rattle.sender.specs.Answers.{send_answer}
use Rattle.writing.specs.Answers.{write_answer}
use Rattle.sender.specs.declared.sender.Sender.{Sender}
use Rattle.writing.specs.declared.writing.Wrote.{Wrote}
use Rattle.receiver.specs.Answers.{data_answer as receiver_data}
use Rattle.receiver.specs.declared.receiver.Request.TheVariants.{More}
use Rattle.stream.specs.State.{unstarted, fresh as fresh_stream}
use Rattle.stream.specs.Ends.{data_answer, poll_answer}
use Rattle.stream.specs.Answers.{wants_answer}
use Rattle.stream.specs.Writing.{write_answer as stream_write}
use Rattle.stream.specs.Sending.{send_and_write_answer}
use Rattle.stream.specs.declared.stream.DataStream.{DataStream}
use Rattle.stream.specs.declared.stream.Wrote.{Wrote as StreamWrote}
use Rattle.stream.specs.declared.sending.SendAndWrite.{SendAndWrite}
use Rattle.stream.specs.declared.sending.SendAndWrite.TheVariants.{Queued}
use Rattle.c_answers.specs.Answers.{written_of as written_numbers, request_of, deadline_of, wants_of}
use Rattle.c_answers.specs.Sending.{sent_written_of}
use Rattle.c_state.specs.Receiver.{receiver_holds}
use Rattle.c_state.specs.Sender.{requests_in}
use Rattle.c_state.specs.Stream.{receiver_in}
use Rattle.c_state.specs.Receiving.{heard_into, waits_of}
use Rattle.c_window.specs.Window.{window_fits, start_export}

-- ---- the receive window
-- the window after a number has arrived
abbrev pub next : ReceiveWindow → ℕ → ReceiveWindow
next w seq = (accept_answer w seq).window

-- first and count
abbrev pub range : ℕ → ℕ → Option SeqRange
range first count = Some record { first = first; count = count }

-- ---- payloads
abbrev pub empty : ℕ → PayloadWriter
empty max = record { len = 0; max = max }

-- ---- the sender: 01 names no sizes for its cases; here a history of 65 words and a request queue of 4
-- the first word, queued, and written at 1000
abbrev pub queued : SenderAnswer ⊤ × List ℕ
queued = send_answer (fresh_sender 65 4) defaults (replicate 65 0) (0x20903C40 ∷ [])

abbrev pub first : Wrote × List ℕ × List ℕ
first = write_answer queued.0.sender defaults 1000 (empty 1400) (replicate 1400 0) queued.1

-- the second word, queued, and written at 1050
abbrev pub again : SenderAnswer ⊤ × List ℕ
again = send_answer first.0.sender defaults first.2 (0x20803C00 ∷ [])

abbrev pub second : ℕ → Wrote × List ℕ × List ℕ
second max = write_answer again.0.sender defaults 1050 (empty max) (replicate 1400 0) again.1

abbrev pub bytes : Wrote × List ℕ × List ℕ → List ℕ
bytes w = take w.0.payload.len w.1

-- so many commands, and no more to write
abbrev pub commands : ℕ → Result Written Refusal
commands n = Ok record { commands = n; more = false }

-- ---- the table
pub record Table : Type 0 where
  -- fresh is what starting answers
  pub start : (W : ℕ) → 1 ≤ W → W ≤ 128 → new_answer W ≡ Ok (fresh W)
  -- P1. W 64, fresh, 0: New, gap 0, no loss.
  pub P1 : (accept_answer (fresh 64) 0).answer ≡ Ok record { class = New 0; lost = None }
  -- P2. 0 again: Duplicate.
  pub P2 : (accept_answer (next (fresh 64) 0) 0).answer ≡ Ok record { class = Duplicate; lost = None }
  -- P3. W 4, fresh, 5: gap 5, loss first 0 count 1.
  pub P3 : (accept_answer (fresh 4) 5).answer ≡ Ok record { class = New 5; lost = range 0 1 }
  -- P4. W 4, fresh, 4: gap 4, no loss; request 0 count 4.
  pub P4 : ((accept_answer (fresh 4) 4).answer ≡ Ok record { class = New 4; lost = None }) × ((request_answer (next (fresh 4) 4)).answer ≡ Ok (range 0 4))
  -- P5. After P4, 2: Late; missing first 0 count 4.
  pub P5 : ((accept_answer (next (fresh 4) 4) 2).answer ≡ Ok record { class = Late; lost = None }) × ((missing_answer (next (next (fresh 4) 4) 2)).answer ≡ Ok (range 0 4))
  -- P6. Then 6: gap 1, loss first 0 count 2.
  pub P6 : (accept_answer (next (next (fresh 4) 4) 2) 6).answer ≡ Ok record { class = New 1; lost = range 0 2 }
  -- P7. W 64, fresh, 0x7FFE: gap 32,766, loss first 0 count 32,702.
  pub P7 : (accept_answer (fresh 64) 0x7FFE).answer ≡ Ok record { class = New 32766; lost = range 0 32702 }
  -- P8. Fresh, 0x7FFF: Duplicate.
  pub P8 : (W : ℕ) → 1 ≤ W → W ≤ 128 → (accept_answer (fresh W) 0x7FFF).answer ≡ Ok record { class = Duplicate; lost = None }
  -- P9. Request 0x0102 count 3, limit 12: 4D494449 80010102 00030000. Limit 11: 3, nothing written.
  pub P9 : (written_of (empty 12) (replicate 16 0xAA) (request_packet record { seq = 0x0102; count = 3 })
      ≡ (
        record { payload = record { len = 12; max = 12 }; answer = Ok tt },
        0x4D ∷ 0x49 ∷ 0x44 ∷ 0x49 ∷ 0x80 ∷ 0x01 ∷ 0x01 ∷ 0x02 ∷ 0x00 ∷ 0x03 ∷ 0x00 ∷ 0x00 ∷ 0xAA ∷ 0xAA ∷ 0xAA ∷ 0xAA ∷ [],
      ))
      × (written_of (empty 11) (replicate 16 0xAA) (request_packet record { seq = 0x0102; count = 3 }) ≡ (refused_of (empty 11) TooLarge, replicate 16 0xAA))
  -- P10. Default settings, fresh, word 20903C40, written at 1000, limit 1,400: 4D494449 FF010000 20903C40, idle due 1100.
  pub P10 : (first.0.answer ≡ commands 1) × (bytes first ≡ bytes_of (0x4D494449 ∷ 0xFF010000 ∷ 0x20903C40 ∷ []))
      × (first.0.sender.idle ≡ Some record { due = 1100; step = 0; interval = 100 })
  -- P11. Then 20803C00 at 1050, limit 1,400: the same two words after the signature, then FF010001 20803C00; two commands.
  pub P11 : ((second 1400).0.answer ≡ commands 2) × (bytes (second 1400) ≡ bytes_of (0x4D494449 ∷ 0xFF010000 ∷ 0x20903C40 ∷ 0xFF010001 ∷ 0x20803C00 ∷ []))
  -- P12. With limit 16 instead: only the second, 12 bytes.
  pub P12 : ((second 16).0.answer ≡ commands 1) × (bytes (second 16) ≡ bytes_of (0x4D494449 ∷ 0xFF010001 ∷ 0x20803C00 ∷ []))

-- ---- payloads that no call leaves
abbrev pub unmade : ℕ → ℕ → PayloadWriter
unmade len max = record { len = len; max = max }

-- a raw command into such a payload, in a buffer of 16 bytes: 13, and no byte is written
abbrev pub Refuses : PayloadWriter → Type 0
Refuses p = written_of p (replicate 16 0xAA) (packet 0x77 1 2 (0xDEADBEEF ∷ [])) ≡ (refused_of p InvalidState, replicate 16 0xAA)

-- "a nonempty payload length is below 8, above its limit or lent buffer, or no multiple of 4", or a limit that opening refuses
pub record PayloadTest : Type 0 where
  pub below : Refuses (unmade 4 1400)
  pub above_limit : Refuses (unmade 16 12)
  pub above_buffer : Refuses (unmade 20 1400)
  pub uneven : Refuses (unmade 10 1400)
  pub limit_below : Refuses (unmade 0 7)
  pub limit_above : Refuses (unmade 0 1401)

-- ---- words of a command: 255 are written, and 256 are refused with 4, and no byte is written
abbrev pub wrote : ℕ → PayloadWrote × List ℕ
wrote n = written_of (empty 1400) (replicate 1400 0) (packet 0x77 1 2 (replicate n 7))

pub record WordsTest : Type 0 where
  pub most : (wrote 255).0.answer ≡ Ok tt
  pub above : wrote 256 ≡ (refused_of (empty 1400) InvalidValue, replicate 1400 0)

-- ---- reasons of a Retransmit Error: 1 is the last that is defined, 2 is refused with 11, and no byte is written
abbrev pub wrote_error : ℕ → PayloadWrote × List ℕ
wrote_error reason = error_written record { reason = reason; seq = 7 } (empty 12) (replicate 12 0)

pub record ReasonsTest : Type 0 where
  pub last : wrote_error 1 ≡ (record { payload = record { len = 12; max = 12 }; answer = Ok tt }, bytes_of (0x4D494449 ∷ 0x81010100 ∷ 0x00070000 ∷ []))
  pub above : wrote_error 2 ≡ (refused_of (empty 12) ReasonNotAllowed, replicate 12 0)

-- ---- histories that no call leaves: of two commands of one word, number 0 at place 0 and number 1 at place 2, one has another number
-- what queueing answers where the header at a place is this one
abbrev pub queued_over : ℕ → ℕ → Result ⊤ Refusal
queued_over place header = (send_answer again.0.sender defaults (set again.1 place header) (0x20903C40 ∷ [])).0.answer

pub record HistoryTest : Type 0 where
  pub as_left : (queued_over 0 0x00000001 ≡ Ok tt) × (queued_over 2 0x00010001 ≡ Ok tt)
  pub oldest : queued_over 0 0x00020001 ≡ Err InvalidState
  pub newest : queued_over 2 0x00020001 ≡ Err InvalidState

-- ---- places of a ring: past its end they go on from its first
pub record RingTest : Type 0 where
  pub last : slot_of 65 62 2 ≡ 64
  pub past : slot_of 65 62 3 ≡ 0
  -- three words from the last place but one on
  pub stored : ring_stored (replicate 5 0) 3 (7 ∷ 8 ∷ 9 ∷ []) ≡ (9 ∷ 0 ∷ 0 ∷ 7 ∷ 8 ∷ [])
  pub read : ring_read (9 ∷ 0 ∷ 0 ∷ 7 ∷ 8 ∷ []) 3 3 ≡ (7 ∷ 8 ∷ 9 ∷ [])

-- ---- reading: a payload of 12 bytes with one command, and one whose command is cut
abbrev pub one_payload : List ℕ
one_payload = bytes_of (0x4D494449 ∷ 0xFF010000 ∷ 0x20903C40 ∷ [])

abbrev pub cut_payload : List ℕ
cut_payload = bytes_of (0x4D494449 ∷ 0xFF020000 ∷ 0x20903C40 ∷ [])

pub record ReadTest : Type 0 where
  pub whole : next_of one_payload 4 ≡ Command (header 0xFF 1 0 0) 4 record { at = 12 }
  pub cut : next_of cut_payload 4 ≡ Truncated (header 0xFF 2 0 0)
  -- at the end and past it there is nothing
  pub end : next_of one_payload 12 ≡ End
  pub past : next_of one_payload 13 ≡ End

-- ---- messages: the type is in the top four bits of the first word, and a message that is cut has no words
-- two of one word each; the word at an index of their bytes, as `word_at` of `command` answers it
abbrev pub on_and_off : List ℕ
on_and_off = 0x20903C40 ∷ 0x20803C00 ∷ []

abbrev pub word_in : List ℕ → ℕ → ℕ
word_in ws at = get_or (words_of (bytes_of ws)) at 0

pub record MessagesTest : Type 0 where
  -- of type 2, one word; of type 4, two; of type B, two of its three
  pub cut_last : messages_of (0x2090003B ∷ 0x4090000B ∷ 7 ∷ 0xB0000002 ∷ 7 ∷ []) ≡ record { whole = (0x2090003B ∷ []) ∷ (0x4090000B ∷ 7 ∷ []) ∷ []; cut = true }
  pub whole_last : messages_of (0xB0000002 ∷ 7 ∷ 8 ∷ []) ≡ record { whole = (0xB0000002 ∷ 7 ∷ 8 ∷ []) ∷ []; cut = false }
  -- a walk begins at word 0
  pub walk : walked 2 on_and_off 0 ≡ record { whole = (0x20903C40 ∷ []) ∷ (0x20803C00 ∷ []) ∷ []; cut = false }
  -- past the last word there is 0
  pub words : (word_in on_and_off 1 ≡ 0x20803C00) × (word_in on_and_off 2 ≡ 0)

-- ---- a stream: number 0 arrives at 1000; a word is queued and written in one call
abbrev pub started : DataStream
started = fresh_stream 64 65 4

abbrev pub hears : DataStream → StreamAnswer Delivery
hears s = data_answer s defaults 1000 0

abbrev pub handed_on : Class → Result Delivery Refusal
handed_on c = Ok record { seq = 0; class = c; gap = None; lost = None }

abbrev pub sent_into : PayloadWriter → SendAndWrite
sent_into p = (send_and_write_answer started defaults 1000 (0x20903C40 ∷ []) p (replicate 16 0) (replicate 65 0)).0.answer

-- number 4 arrives at 1000, and a poll at 1010 makes a request for 0 to 3 due
abbrev pub asking : DataStream
asking = (poll_answer (data_answer started defaults 1000 4).stream defaults 1010).stream

abbrev pub asks : StreamWrote × List ℕ × List ℕ
asks = stream_write asking defaults 1010 (empty 1400) (replicate 16 0) (replicate 65 0)

pub record StreamTest : Type 0 where
  pub new : (hears started).answer ≡ handed_on (New 0)
  -- what was heard stays with the receiver
  pub heard : (hears (hears started).stream).answer ≡ handed_on Duplicate
  -- a request that is due is written, and counted
  pub asked : asks.0.answer ≡ commands 1
  pub request : take 12 asks.1 ≡ bytes_of (0x4D494449 ∷ 0x80010000 ∷ 0x00040000 ∷ [])
  -- a payload that no call leaves is refused with 13 behind queued words too
  pub behind : sent_into (unmade 10 1400) ≡ Queued (Err InvalidState)

-- ---- a stream's answers as numbers: 0 or the refusal's, and words that are queued are told of where the write is refused
pub record NumbersTest : Type 0 where
  pub sent : sent_written_of (sent_into (empty 1400)) ≡ record { commands = 1; refusal = 0; more = 0; queued = 1 }
  pub behind : sent_written_of (sent_into (unmade 10 1400)) ≡ record { commands = 0; refusal = 13; more = 0; queued = 1 }
  -- of a start that was refused
  pub wants : wants_of (wants_answer unstarted [] 1000) ≡ record { refusal = 13; wants = 0 }
  -- a stream that wants to write, commands that are left, a request that does not fit, a deadline
  pub yes : wants_of (Ok true) ≡ record { refusal = 0; wants = 1 }
  pub left : written_numbers (Ok record { commands = 2; more = true }) ≡ record { commands = 2; refusal = 0; more = 1 }
  pub asked : request_of (Ok More) ≡ record { refusal = 0; kind = 2 }
  pub due : deadline_of (Ok (Some 1100)) ≡ record { time = 1100; refusal = 0; kind = 1 }
  -- of the products
  pub products : (number_of InvalidRecord ≡ 17) × (number_of DivisionsNotAllowed ≡ 18)

-- ---- words that a caller in C lends: a stream's, of which the first seven are its receiver's, and a window's
-- a window of 64 whose highest is this number, with nothing missing, and nothing asked for
abbrev pub at_rest : ℕ → List ℕ
at_rest highest = 0xFFFFFFFFFFFFFFFF ∷ 0 ∷ 0 ∷ 0 ∷ 0 ∷ (0x00400000 + highest) ∷ 0 ∷ replicate 13 0

-- a window of 128 with numbers missing, a due time of 1000, requests made so far and flags, and a request from 256 on for 3 numbers
abbrev pub receiver_asked : ℕ → List ℕ
receiver_asked sentAndFlags = 5 ∷ 1 ∷ 0 ∷ 0 ∷ 1000 ∷ 0x0003010000800102 ∷ sentAndFlags ∷ []

-- a timer that runs, with two requests made, and one unanswered
abbrev pub running : List ℕ
running = receiver_asked 0x0902 ++ replicate 13 0

pub record LayoutTest : Type 0 where
  -- a number that moves the window up is stored
  pub moved : (heard_into (at_rest 65535) (receiver_data (receiver_in (at_rest 65535)) defaults 1000 0)).1 ≡ at_rest 0
  -- a poll at the due time is not early
  pub early : waits_of 999 running ≡ true
  pub due : waits_of 1000 running ≡ false
  -- a due time stands only beside the timer's flag: the request's is not enough
  pub timed : receiver_holds (receiver_asked 0x0900) ≡ true
  pub untimed : receiver_holds (receiver_asked 0x0800) ≡ false
  -- two requests to a word, the first lowest
  pub requests : requests_in (0x0002000900010007 ∷ []) ≡ (record { seq = 7; count = 1 } ∷ record { seq = 9; count = 2 } ∷ [])
  -- a window's size, highest, bits low and high
  pub window : start_export (replicate 4 0) 64 7 ≡ (0, 64 ∷ 7 ∷ 0xFFFFFFFFFFFFFFFF ∷ 0 ∷ [])
  -- one of 128 numbers fits
  pub largest : window_fits (128 ∷ 7 ∷ 0 ∷ 0 ∷ []) ≡ true
  pub larger : window_fits (129 ∷ 7 ∷ 0 ∷ 0 ∷ []) ≡ false

-- ---- the idle times: data written at 0, and an idle command written at each due time
abbrev pub wrote_at : Sender × List ℕ → ℕ → Sender × List ℕ
wrote_at s time = let w = write_answer s.0 defaults time (empty 1400) (replicate 40 0) s.1 in (w.0.sender, w.2)

abbrev pub due_in : Option Idle → ℕ
due_in None = 0
due_in (Some i) = i.due

unfoldable pub dues_from : ℕ → Sender × List ℕ → List ℕ
dues_from zero s = []
dues_from (suc n) s = due_in s.0.idle ∷ dues_from n (wrote_at s (due_in s.0.idle))

-- Idle commands at 100, 200, 300, 500, 900, 1700, 3300, 6500, then none.
abbrev pub IdleTimes : Type 0
IdleTimes = dues_from 9 (wrote_at (queued.0.sender, queued.1) 0) ≡ (100 ∷ 200 ∷ 300 ∷ 500 ∷ 900 ∷ 1700 ∷ 3300 ∷ 6500 ∷ 0 ∷ [])
