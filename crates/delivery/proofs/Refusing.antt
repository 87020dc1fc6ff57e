-- The lists of calls hold every refused write: its settings are refused or its payload isn't valid (`write_astray`), or its payload is empty, and so one that was opened.
use Prim.Native.Nat.{ℕ, ◌+◌}
use Rattle.std.proofs.Common.{Result, Ok, Err}
use Rattle.writing.specs.declared.writing.Written.{Written}
use Rattle.std.specs.Bool.{⊤}
use mathlib.Core.Path.{◌≡◌, refl, ap, sym, ◌∙◌}
use mathlib.Core.Logic.{◌⊎◌, inl, inr}
use mathlib.Core.Bool.{Bool, true, false, not, ◌||◌}
use mathlib.Core.List.{List, [], ◌∷◌}
use native.Mathlib.Omega.{arith}
use lib.Dec.{leb, eqb}
use lib.ListN.{length}
use Rattle.config.specs.Entry.{entry}
use Rattle.config.specs.Settings.{check_of}
use Rattle.config.specs.declared.refusal.Refusal.{Refusal}
use Rattle.config.specs.declared.settings.StreamConfig.{StreamConfig}
use Rattle.config.specs.inner.Tests.{tests, lifts}
use Rattle.packet.specs.Layout.{Packet, size_of}
use Rattle.packet.specs.Write.{opened_of, start_of, done_of, placed_of, written_of, valid_of as payload_valid, WriteEnds, refused, done}
use Rattle.packet.specs.declared.writer.PayloadWriter.{PayloadWriter}
use Rattle.packet.specs.declared.writer.Wrote.{Wrote}
use Rattle.packet.proofs.Outcomes.{outcome, valid_max}
use Rattle.command.specs.declared.retransmit.RetransmitRequest.{RetransmitRequest}
use Rattle.rows.specs.Rows.{one_more, row_of, fit_all}
use Rattle.writing.specs.Answers.{write_answer}
use Rattle.sender_log.specs.Answers.{book_of}
use Rattle.sender_log.specs.Book.{Book, with_waiting}
use Rattle.sender_log.specs.Calls.{Call, run, AllTyped, TypedConfig}
use Rattle.sender_log.specs.Promise.{Started}
use Rattle.sender_log.specs.Writes.{answer_in, ServedIn, served_in, idled_in, WriteIn, new_in, new_by, new_written, written_in, write_in}
use Rattle.sender_log.specs.Writes as Sender
use Rattle.sender_log.proofs.Follows.{write_follows}
use Rattle.sender_log.proofs.Runs.{run_ok}
use Rattle.config.specs.inner.Choices.{by_cond, never}
use Rattle.delivery.specs.Console.{Allowed, write_astray}

-- ---- a payload that is empty after a write was empty before it

row_empty : (cs : List Packet) (p : PayloadWriter) (by : List ℕ) → (row_of p by cs).payload.len ≡ 0 → p.len ≡ 0
unfolding row_of
row_empty [] p by z = z
row_empty (c ∷ cs) p by z = go (written_of p by c) (outcome p by c) (λ q bytes y. row_empty cs q bytes y) z
  where
    go : (w : Wrote × List ℕ) → WriteEnds p by c w → ((q : PayloadWriter) (bytes : List ℕ) → (row_of q bytes cs).payload.len ≡ 0 → q.len ≡ 0)
        → (one_more w.0.answer w.0.payload w.1 (row_of w.0.payload w.1 cs)).payload.len ≡ 0 → p.len ≡ 0
    go w (refused r) rest z = z
    go w (done f l) rest z = let n : start_of p + size_of c ≡ 0 = rest (done_of p c).payload (placed_of p by c) z in let y : ⊥ = omega arith in absurd y

served_empty : (b : Book) (rs : List RetransmitRequest) (p : PayloadWriter) (by : List ℕ) → (served_in b rs p by).payload.len ≡ 0 → p.len ≡ 0
unfolding served_in
served_empty b [] p by z = z
served_empty b (r ∷ rs) p by z =
    let out = row_of p by (answer_in b r) in
    by_cond (λ (s : ServedIn). s.payload.len ≡ 0 → p.len ≡ 0) (out.whole || eqb out.payload.len 0) _ _
    (λ all y. row_empty (answer_in b r) p by (served_empty b rs out.payload out.bytes y)) (λ cut y. row_empty (answer_in b r) p by y) z

-- ---- a refused write, once settings and payload are taken

abbrev is_refused : Result Written Refusal → Bool
is_refused (Ok w) = false
is_refused (Err why) = true

module _ (cfg : StreamConfig) (time : ℕ) where
  new_refused : (n : ℕ) (b : Book) (p : PayloadWriter) (by : List ℕ) (new : List Packet) → is_refused (new_by cfg time n b p by new).answer ≡ true → p.len ≡ 0
  new_refused n b p by [] e = absurd (never e refl)
  new_refused n b p by (first ∷ others) e =
      by_cond Fine (not (fit_all p by (first ∷ []))) _ _
      (λ over. by_cond Fine (eqb p.len 0) _ _ (λ empty x. omega (arith, tests)) (λ some x. absurd (never x refl)))
      (λ fits x. absurd (never x refl)) e
    where
      Fine : WriteIn → Type 0
      Fine a = is_refused a.answer ≡ true → p.len ≡ 0

  new_written_refused : (n : ℕ) (b : Book) (p : PayloadWriter) (by : List ℕ) → is_refused (new_written cfg time n b p by).answer ≡ true → p.len ≡ 0
  unfolding new_written
  new_written_refused n b p by e = new_refused n b p by (new_in b) e

  written_refused_lem : (c : ℕ) (b : Book) (p : PayloadWriter) (by : List ℕ) → is_refused (written_in c cfg time b p by).answer ≡ true → p.len ≡ 0
  unfolding written_in
  written_refused_lem c b p by e =
      let s = served_in b b.waiting p by in
      by_cond (λ (a : WriteIn). is_refused a.answer ≡ true → p.len ≡ 0) s.more _ _ (λ more x. absurd (never x refl))
      (λ all x. served_empty b b.waiting p by (new_written_refused s.commands (idled_in c cfg time (with_waiting b s.waiting)) s.payload s.bytes x)) e

-- ---- any refused write

empty_opened : (p : PayloadWriter) (room : ℕ) → payload_valid p room ≡ true → p.len ≡ 0 → opened_of p.max ≡ Ok p
unfolding opened_of
empty_opened p room v z =
    let m = valid_max p room v in
    let a : leb 8 p.max ≡ true = omega (arith, lifts, m.0) in
    let b : leb p.max 1400 ≡ true = omega (arith, lifts, m.1) in
    rw (a, b) (ap (λ (n : ℕ). Ok record { len = n; max = p.max }) (sym z))

abbrev Listed : StreamConfig → ℕ → PayloadWriter → List ℕ → Type 0
Listed cfg time p by = Allowed (write_astray p by cfg time) ⊎ (opened_of p.max ≡ Ok p)

in_lists : (c : ℕ) (cfg : StreamConfig) (time : ℕ) (b : Book) (p : PayloadWriter) (by : List ℕ) → is_refused (write_in c cfg time b p by).answer ≡ true → Listed cfg time p by
unfolding write_in
in_lists c cfg time b p by e = go (check_of cfg) (payload_valid p (length by)) refl refl e
  where
    go : (k : Result ⊤ Refusal) (v : Bool) → check_of cfg ≡ k → payload_valid p (length by) ≡ v
        → is_refused (entry k v (Sender.refused b p by) (written_in c cfg time b p by)).answer ≡ true → Listed cfg time p by
    go (Err why) v s i x = inl (λ passed. let z : ⊥ = (let y : ◌≡◌ {A = ℕ} 0 1 = cc in omega arith) in absurd z)
    go (Ok _) false s i x = inl (λ passed. i)
    go (Ok _) true s i x = inr (empty_opened p (length by) i (written_refused_lem cfg time c b p by x))

-- after any list of calls on a fresh sender
pub every_refused_write : (c q : ℕ) (ring₀ : List ℕ) → Started c q ring₀ → (calls : List Call) → AllTyped calls
    → (cfg : StreamConfig) → TypedConfig cfg → (time : ℕ) (p : PayloadWriter) (by : List ℕ) (why : Refusal)
    → (write_answer (run c q ring₀ calls).sender cfg time p by (run c q ring₀ calls).ring).0.answer ≡ Err why
    → Listed cfg time p by
every_refused_write c q ring₀ started calls typed cfg settings time p by why e =
    let f = write_follows c q (run c q ring₀ calls).sender (run c q ring₀ calls).ring (book_of c q calls) (run_ok c q ring₀ started calls typed) cfg settings time p by in
    in_lists c cfg time (book_of c q calls) p by (ap is_refused (sym f.1 ∙ e))
