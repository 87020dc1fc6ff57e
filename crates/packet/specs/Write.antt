-- 01, "Numbers of each operation": Open a payload, Write one command; "State test", its part on payloads.
use Rattle.std.specs.Prelude.{ℕ, ◌+◌, ◌-◌, ◌/◌, ◌%◌, ◌≤◌, min, Bool, cond, not, ◌&&◌, ◌||◌, List, ◌++◌, length, take, ltb, eqb, Result, Ok, Err}
use Rattle.config.specs.Range.{within, outside}
use Rattle.config.specs.declared.refusal.Refusal.{Refusal}
use Rattle.config.specs.declared.refusal.Refusal.TheVariants.{Overflow, TooLarge, InvalidValue, InvalidState}
use Rattle.packet.specs.Bytes.{spliced}
use Rattle.packet.specs.Layout.{Packet, signature, encoded, size_of}
use Rattle.packet.specs.declared.writer.PayloadWriter.{PayloadWriter}
use Rattle.packet.specs.declared.writer.Wrote.{Wrote}

-- 4 when the limit isn't 8 to 1,400 bytes
unfoldable pub opened_of : ℕ → Result PayloadWriter Refusal
opened_of max = cond (outside 8 1400 max) (Err InvalidValue) (Ok record { len = 0; max = max })

-- the smaller of payload limit and buffer length
abbrev pub limit_of : PayloadWriter → ℕ → ℕ
limit_of p room = min p.max room

-- the state test: the limit is one that opening takes, and a nonempty length is at least 8, at most the limit and a multiple of 4
unfoldable pub valid_of : PayloadWriter → ℕ → Bool
valid_of p room =
    within 8 1400 p.max
    && (eqb p.len 0 || (within 8 (limit_of p room) p.len && eqb (p.len % 4) 0))

-- where the next header goes
abbrev pub start_of : PayloadWriter → ℕ
start_of p = cond (eqb p.len 0) 4 p.len

-- the words that still fit, a header among them
abbrev pub free_of : PayloadWriter → ℕ → ℕ
free_of p room = (limit_of p room - start_of p) / 4

-- the signature goes before the first command
abbrev pub begun_of : PayloadWriter → List ℕ → List ℕ
begun_of p b = cond (eqb p.len 0) (spliced b 0 signature) b

-- 3 when the payload is empty, 2 otherwise
abbrev pub no_fit : PayloadWriter → Refusal
no_fit p = cond (eqb p.len 0) TooLarge Overflow

abbrev pub refused_of : PayloadWriter → Refusal → Wrote
refused_of p r = record { payload = p; answer = Err r }

abbrev pub done_of : PayloadWriter → Packet → Wrote
done_of p c = record { payload = record { len = start_of p + size_of c; max = p.max }; answer = Ok tt }

-- the buffer with the command's bytes
abbrev pub placed_of : PayloadWriter → List ℕ → Packet → List ℕ
placed_of p b c = cond (eqb p.len 0) (spliced b 0 (signature ++ encoded c)) (spliced b p.len (encoded c))

-- the answer, the payload and the buffer after one command
unfoldable pub written_of : PayloadWriter → List ℕ → Packet → Wrote × List ℕ
written_of p b c =
    cond (not (valid_of p (length b))) (refused_of p InvalidState, b)
    (cond (ltb (limit_of p (length b)) (start_of p + size_of c)) (refused_of p (no_fit p), b)
    (cond (ltb 255 (length c.words)) (refused_of p InvalidValue, b)
    (done_of p c, placed_of p b c)))

-- the bytes that a payload holds
abbrev pub bytes_in : PayloadWriter → List ℕ → List ℕ
bytes_in p b = take p.len b

-- what a write can come to: a refusal, which changes nothing, or the command written
pub data WriteEnds (p : PayloadWriter) (b : List ℕ) (c : Packet) : Wrote × List ℕ → Type 0 where
  refused : (r : Refusal) → WriteEnds p b c (refused_of p r, b)
  done : start_of p + size_of c ≤ limit_of p (length b) → length c.words ≤ 255 → WriteEnds p b c (done_of p c, placed_of p b c)
