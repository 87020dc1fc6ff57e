-- 01, "The runs of demand 3": a console's end of the line. A fresh sender with its history, and the payloads that are opened, lent, written and sent: the calls, the log that
-- a list of calls leaves, and what was accepted and written, over that log alone.
use Rattle.std.specs.Prelude.{ℕ, suc, ◌≡◌, false, cond, ◌&&◌, List, [], ◌∷◌, ◌++◌, eqb, ltb, length, get_or, drop, set, Result, Ok, Err, ⊤}
use Rattle.config.specs.declared.refusal.Refusal.{Refusal}
use Rattle.writing.specs.declared.writing.Written.{Written}
use Rattle.config.specs.Settings.{check_of}
use Rattle.config.specs.declared.settings.StreamConfig.{StreamConfig}
use Rattle.packet.specs.Layout.{Words32}
use Rattle.packet.specs.Write.{opened_of, bytes_in, valid_of as payload_valid}
use Rattle.packet.specs.declared.writer.PayloadWriter.{PayloadWriter}
use Rattle.command.specs.Calls.{call_of, command_of, Typed as WriteTyped}
use Rattle.command.specs.Calls as Writes
use Rattle.command.specs.declared.retransmit.RetransmitRequest.{RetransmitRequest}
use Rattle.sender.specs.Answers.{new_answer, send_answer, request_answer}
use Rattle.writing.specs.Answers.{write_answer}
use Rattle.sender.specs.declared.sender.Sender.{Sender}
use Rattle.sender_log.specs.Calls.{TypedConfig}
use Rattle.delivery.specs.Commands.{Command, is_data, data_of}
use Rattle.delivery.specs.Positions.{contents, position}

-- ---- payloads

-- a payload with every byte of the buffer that is lent for it
pub record Lent : Type 0 where
  pub payload : PayloadWriter
  pub buffer : List ℕ

-- what goes on the line: the bytes that the payload holds
abbrev pub bytes : Lent → List ℕ
bytes v = bytes_in v.payload v.buffer

abbrev pub no_payload : Lent
no_payload = record { payload = record { len = 0; max = 0 }; buffer = [] }

-- ---- calls

-- each argument is free; a payload's name is how many were opened before it
pub data Call : Type 0 where
  -- limit, lent buffer
  open_payload : ℕ → List ℕ → Call
  -- the caller does as it likes with the bytes past a payload's length, and with the buffer's length
  lend_again : ℕ → List ℕ → Call
  -- settings, words
  queue_words : StreamConfig → List ℕ → Call
  -- settings, request
  retransmit_request : StreamConfig → RetransmitRequest → Call
  -- payload, settings, time
  write_into : ℕ → StreamConfig → ℕ → Call
  -- payload, and a call that writes one command into it: a request, an error, a raw command
  put_in : ℕ → Writes.Call → Call
  -- payload, buffer, settings, time: a write into whatever payload, refused for its settings or for the payload's state
  write_astray : PayloadWriter → List ℕ → StreamConfig → ℕ → Call

-- the log: calls with what they were given, answered and left
pub data Entry : Type 0 where
  queued : StreamConfig → List ℕ → Result ⊤ Refusal → Entry
  -- payload, as the write found it, as the write left it
  wrote : ℕ → Lent → Lent → Result Written Refusal → Entry
  -- payload, as another call left it
  stood : ℕ → Lent → Entry
  -- a call that touches no payload
  noted : Entry

-- the sender, the words of its history, and the payloads opened so far
pub record Console : Type 0 where
  pub sender : Sender
  pub ring : List ℕ
  pub payloads : List Lent

pub record Step : Type 0 where
  pub console : Console
  pub entry : Entry

abbrev pub noting : Console → Step
noting c = record { console = c; entry = noted }

abbrev pub payload_at : Console → ℕ → Lent
payload_at c k = get_or c.payloads k no_payload

abbrev pub with_payload : Console → ℕ → Lent → Console
with_payload c k v = record { sender = c.sender; ring = c.ring; payloads = set c.payloads k v }

abbrev pub open_step : Console → List ℕ → Result PayloadWriter Refusal → Step
open_step c buffer (Err why) = noting c
open_step c buffer (Ok p) =
    let v : Lent = record { payload = p; buffer = buffer } in
    record { console = record { sender = c.sender; ring = c.ring; payloads = c.payloads ++ (v ∷ []) }; entry = stood (length c.payloads) v }

-- the bytes past the payload's length are others now
abbrev pub lent_again : List ℕ → Lent → Lent
lent_again rest v = record { payload = v.payload; buffer = bytes v ++ rest }

abbrev pub put_step : Console → ℕ → Lent → Step
put_step c k v = record { console = with_payload c k v; entry = stood k v }

-- one command more, where the call isn't refused
abbrev pub put_into : Writes.Call → Lent → Lent
put_into call v = let w = call_of call v.payload v.buffer in record { payload = w.0.payload; buffer = w.1 }

abbrev pub write_step : Console → ℕ → StreamConfig → ℕ → Step
write_step c k cfg time =
    let v : Lent = payload_at c k in
    let w = write_answer c.sender cfg time v.payload v.buffer c.ring in
    let u : Lent = record { payload = w.0.payload; buffer = w.1 } in
    record { console = record { sender = w.0.sender; ring = w.2; payloads = set c.payloads k u }; entry = wrote k v u w.0.answer }

-- a call takes what the last one left, of refused calls too: sender, history, payload and buffer. A payload that isn't open can't be named.
unfoldable pub step_of : Console → Call → Step
step_of c (open_payload limit buffer) = open_step c buffer (opened_of limit)
step_of c (lend_again k rest) = cond (ltb k (length c.payloads)) (put_step c k (lent_again rest (payload_at c k))) (noting c)
step_of c (queue_words cfg ws) =
    let a = send_answer c.sender cfg c.ring ws in
    record { console = record { sender = a.0.sender; ring = a.1; payloads = c.payloads }; entry = queued cfg ws a.0.answer }
step_of c (retransmit_request cfg r) =
    noting record { sender = (request_answer c.sender cfg c.ring r).sender; ring = c.ring; payloads = c.payloads }
step_of c (write_into k cfg time) = cond (ltb k (length c.payloads)) (write_step c k cfg time) (noting c)
step_of c (put_in k call) = cond (ltb k (length c.payloads)) (put_step c k (put_into call (payload_at c k))) (noting c)
step_of c (write_astray p b cfg time) =
    let w = write_answer c.sender cfg time p b c.ring in
    noting record { sender = w.0.sender; ring = w.2; payloads = c.payloads }

-- the log after a list of calls, newest first
unfoldable pub log_from : Console → List Entry → List Call → List Entry
log_from c t [] = t
log_from c t (call ∷ calls) = log_from (step_of c call).console ((step_of c call).entry ∷ t) calls

-- a start over a lent history of `words` words, with `places` places for requests; no payload is open
abbrev pub fresh_console : ℕ → ℕ → List ℕ → Console
fresh_console words places ring₀ = record { sender = (new_answer words places ring₀).0.sender; ring = (new_answer words places ring₀).1; payloads = [] }

-- arguments lie in their types: words have 32 bits, R and K 8; and a payload's only data commands are the sender's: no other call writes one
abbrev pub Allowed : Call → Type 0
Allowed (open_payload limit buffer) = Unit {0}
Allowed (lend_again k rest) = Unit {0}
Allowed (queue_words cfg ws) = Words32 ws
Allowed (retransmit_request cfg r) = Unit {0}
Allowed (write_into k cfg time) = TypedConfig cfg
Allowed (put_in k call) = WriteTyped call × (is_data (command_of call) ≡ false)
Allowed (write_astray p b cfg time) = check_of cfg ≡ Ok tt → payload_valid p (length b) ≡ false

abbrev pub AllAllowed : List Call → Type 0
AllAllowed [] = Unit {0}
AllAllowed (call ∷ calls) = Allowed call × AllAllowed calls

-- ---- over the log

-- accepted: the words of unrefused queue calls, joined in order
abbrev pub taken : Result ⊤ Refusal → List ℕ → List ℕ
taken (Ok _) ws = ws
taken (Err why) ws = []

abbrev pub accepted : List Entry → List ℕ
accepted [] = []
accepted (queued cfg ws a ∷ t) = accepted t ++ taken a ws
accepted (wrote k u v a ∷ t) = accepted t
accepted (stood k v ∷ t) = accepted t
accepted (noted ∷ t) = accepted t

-- a data command that a write added: which one of which payload
pub record Tag : Type 0 where
  pub payload : ℕ
  pub index : ℕ
  pub what : Command

-- the data commands that a write added: what reading the payload finds after it and did not find before it
abbrev pub held : Lent → ℕ
held v = length (data_of (bytes v))

abbrev pub added : Lent → Lent → List Command
added u v = drop (held u) (data_of (bytes v))

abbrev pub tagged : ℕ → ℕ → List Command → List Tag → List Tag
tagged k i [] w = w
tagged k i (c ∷ cs) w = tagged k (suc i) cs (record { payload = k; index = i; what = c } ∷ w)

-- all of them, newest first
abbrev pub written : List Entry → List Tag
written [] = []
written (queued cfg ws a ∷ t) = written t
written (wrote k u v a ∷ t) = tagged k (held u) (added u v) (written t)
written (stood k v ∷ t) = written t
written (noted ∷ t) = written t

abbrev pub commands : List Tag → List Command
commands [] = []
commands (g ∷ w) = g.what ∷ commands w

-- the words of each of the sender's positions, from position 0 on
abbrev pub positions : List Entry → List (List ℕ)
positions t = contents (commands (written t))

-- the sender's position of the i-th data command of payload k
abbrev pub position_of : List Tag → ℕ → ℕ → ℕ
position_of [] k i = 0
position_of (g ∷ w) k i = cond (eqb k g.payload && eqb i g.index) (position (commands w) g.what) (position_of w k i)

-- payload k was v at some moment: the bytes that a sending at that moment puts on the line
pub data Was : List Entry → ℕ → Lent → Type 0 where
  was_wrote : (t : List Entry) (k : ℕ) (u v : Lent) (a : Result Written Refusal) → Was (wrote k u v a ∷ t) k v
  was_stood : (t : List Entry) (k : ℕ) (v : Lent) → Was (stood k v ∷ t) k v
  was : {t : List Entry} {k : ℕ} {v : Lent} (e : Entry) → Was t k v → Was (e ∷ t) k v
