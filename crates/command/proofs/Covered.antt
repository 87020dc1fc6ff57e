-- What the theorems are said of: every call with any arguments of its types, refused ones too, every limit, and every list of words.
use mathlib.Core.Path.{◌≡◌}
use Rattle.std.proofs.Common.{Ok}
use mathlib.Core.Bool.{true, false}
use mathlib.Core.List.{List, [], ◌∷◌}
use Prim.Native.Nat.{ℕ, ◌+◌, ◌≤◌, ◌<◌}
use lib.ListN.{length}
use borrow.Author.Tests.{le-leb, le-ltb, lt-ltb}
use Rattle.config.specs.declared.refusal.Refusal.{Refusal}
use Rattle.config.specs.declared.refusal.Refusal.TheVariants.{InvalidValue, InvalidUmpData, ReasonNotAllowed}
use Rattle.packet.specs.Layout.{Packet, packet, size_of, Words32}
use Rattle.packet.specs.Write.{limit_of, start_of, valid_of, refused_of, written_of, opened_of}
use Rattle.packet.specs.declared.writer.PayloadWriter.{PayloadWriter}
use Rattle.command.specs.Messages.{messages_of, walked, MessagesWalk}
use Rattle.command.specs.Write.{is_defined, error_written, data_written}
use Rattle.command.specs.Calls.{Call, raw, ump_data, request, error, call_of, Typed, AllTyped, run, RoundTrip, RoundTrips}
use Rattle.command.specs.declared.retransmit.RetransmitRequest.{RetransmitRequest}
use Rattle.command.specs.declared.retransmit.RetransmitError.{RetransmitError}

-- Any code, number, reason and count of words: nothing is asked of them but the width of words, counts and numbers.
pub every_call : (code csd1 csd2 seq : ℕ) (ws : List ℕ) (q : RetransmitRequest) (e : RetransmitError)
    → Words32 ws → q.count < 65536 → e.seq < 65536 → AllTyped (raw code csd1 csd2 ws ∷ ump_data seq ws ∷ request q ∷ error e ∷ [])
unfolding AllTyped Typed
every_call code csd1 csd2 seq ws q e w c s = (w, (w, (c, (s, tt))))

-- every limit that opening takes
pub every_limit : RoundTrips → (max : ℕ) → 8 ≤ max → max ≤ 1400 → (b : List ℕ) (calls : List Call) → AllTyped calls
    → RoundTrip (run calls record { len = 0; max = max } b [])
unfolding opened_of
every_limit t max low high b calls typed = t max record { len = 0; max = max } b calls opens typed
  where
    opens : opened_of max ≡ Ok record { len = 0; max = max }
    opens = rw (le-leb _ _ low, le-leb _ _ high)

-- A refused call stands in the list, and what follows takes the payload as it was.
pub refused_stands : (c : Call) (calls : List Call) (p : PayloadWriter) (b : List ℕ) (cs : List Packet) (why : Refusal)
    → call_of c p b ≡ (refused_of p why, b) → run (c ∷ calls) p b cs ≡ run calls p b cs
unfolding run
refused_stands c calls p b cs why e = rw e

-- such are a raw command of over 255 words, data of over 64, and an error whose reason is not defined
pub raw_too_long : (p : PayloadWriter) (b : List ℕ) (code csd1 csd2 : ℕ) (ws : List ℕ) → valid_of p (length b) ≡ true → 255 < length ws
    → start_of p + size_of (packet code csd1 csd2 ws) ≤ limit_of p (length b) → call_of (raw code csd1 csd2 ws) p b ≡ (refused_of p InvalidValue, b)
unfolding written_of
raw_too_long p b code csd1 csd2 ws v l f = rw (v, le-ltb _ _ f, lt-ltb _ _ l)

pub data_too_long : (p : PayloadWriter) (b : List ℕ) (seq : ℕ) (ws : List ℕ) → valid_of p (length b) ≡ true → 64 < length ws
    → call_of (ump_data seq ws) p b ≡ (refused_of p InvalidUmpData, b)
unfolding data_written
data_too_long p b seq ws v l = rw (v, lt-ltb _ _ l)

pub undefined_reason : (p : PayloadWriter) (b : List ℕ) (e : RetransmitError) → valid_of p (length b) ≡ true → is_defined e ≡ false
    → call_of (error e) p b ≡ (refused_of p ReasonNotAllowed, b)
unfolding error_written
undefined_reason p b e v d = rw (v, d)

-- any words, cut or whole
pub every_list : MessagesWalk → (ws : List ℕ) → walked (length ws) ws 0 ≡ messages_of ws
every_list t = t
