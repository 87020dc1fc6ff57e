-- Requests, two to a word.
use mathlib.Core.Path.{◌≡◌, refl, ap, sym}
use mathlib.Core.List.{List, [], ◌∷◌}
use Prim.Native.Nat.{ℕ, zero, suc, ◌+◌, ◌<◌}
use native.Mathlib.Omega.{arith}
use lib.ListN.{length, get_or, drop}
use lib.Seq.{get_or-drop}
use Rattle.command.specs.declared.retransmit.RetransmitRequest.{RetransmitRequest}
use Rattle.history.specs.Queue.{blank}
use Rattle.c_words.proofs.Runs.{run_all}
use Rattle.c_state.specs.Pack.{four_in}
use Rattle.c_state.specs.Sender.{both_in, first_in, second_in, requests_in, request_words}
use Rattle.c_state.specs.declared.pack.Quarters.{Quarters}
use Rattle.c_state.proofs.Packed.{word_four, four_word}

-- ---- there and back
pub words_requests : (n : ℕ) (ws : List ℕ) → length ws ≡ n → request_words n (requests_in ws) ≡ ws
unfolding request_words requests_in first_in second_in
words_requests zero [] e = refl
words_requests zero (w ∷ ws) e = absurd (let z : ⊥ = omega arith in z)
words_requests (suc n) [] e = absurd (let z : ⊥ = omega arith in z)
words_requests (suc n) (w ∷ ws) e = let l : length ws ≡ n = omega arith in rw (word_four w, words_requests n ws l)

-- numbers and counts have 16 bits
abbrev pub Narrow : List RetransmitRequest → Type 0
Narrow rs = (k : ℕ) → ((get_or rs k blank).seq < 65536) × ((get_or rs k blank).count < 65536)

pub requests_words : (n : ℕ) (rs : List RetransmitRequest) → length rs ≡ n + n → Narrow rs → requests_in (request_words n rs) ≡ rs
unfolding request_words requests_in first_in second_in
requests_words zero [] e h = refl
requests_words zero (r ∷ rs) e h = absurd (let z : ⊥ = omega arith in z)
requests_words (suc n) [] e h = absurd (let z : ⊥ = omega arith in z)
requests_words (suc n) (r ∷ []) e h = absurd (let z : ⊥ = omega arith in z)
requests_words (suc n) (r ∷ s ∷ rs) e h =
    let l : length rs ≡ n + n = omega arith in
    rw (four_word r.seq r.count s.seq s.count (h 0).0 (h 0).1 (h 1).0, requests_words n rs l (λ k. h (suc (suc k))))

pub length_words : (n : ℕ) (rs : List RetransmitRequest) → length (request_words n rs) ≡ n
unfolding request_words
length_words zero rs = refl
length_words (suc n) rs = ap suc (length_words n (drop 2 rs))

-- ---- what the code makes
pub first_made : (w : ℕ) (q : Quarters) → q ≡ four_in w → record { seq = q.a; count = q.b } ≡ first_in w
unfolding first_in
first_made w q e = rw e

pub second_made : (w : ℕ) (q : Quarters) → q ≡ four_in w → record { seq = q.c; count = q.d } ≡ second_in w
unfolding second_in
second_made w q e = rw e

pub requests_made : (ws : List ℕ) → length ws ≡ 8 → {a0 b0 a1 b1 a2 b2 a3 b3 a4 b4 a5 b5 a6 b6 a7 b7 : RetransmitRequest}
    → a0 ≡ first_in (get_or ws 0 0) → b0 ≡ second_in (get_or ws 0 0)
    → a1 ≡ first_in (get_or ws 1 0) → b1 ≡ second_in (get_or ws 1 0)
    → a2 ≡ first_in (get_or ws 2 0) → b2 ≡ second_in (get_or ws 2 0)
    → a3 ≡ first_in (get_or ws 3 0) → b3 ≡ second_in (get_or ws 3 0)
    → a4 ≡ first_in (get_or ws 4 0) → b4 ≡ second_in (get_or ws 4 0)
    → a5 ≡ first_in (get_or ws 5 0) → b5 ≡ second_in (get_or ws 5 0)
    → a6 ≡ first_in (get_or ws 6 0) → b6 ≡ second_in (get_or ws 6 0)
    → a7 ≡ first_in (get_or ws 7 0) → b7 ≡ second_in (get_or ws 7 0)
    → a0 ∷ b0 ∷ a1 ∷ b1 ∷ a2 ∷ b2 ∷ a3 ∷ b3 ∷ a4 ∷ b4 ∷ a5 ∷ b5 ∷ a6 ∷ b6 ∷ a7 ∷ b7 ∷ [] ≡ requests_in ws
unfolding requests_in
requests_made ws l e0 f0 e1 f1 e2 f2 e3 f3 e4 f4 e5 f5 e6 f6 e7 f7 =
    rw (e0, f0, e1, f1, e2, f2, e3, f3, e4, f4, e5, f5, e6, f6, e7, f7) (ap requests_in (run_all ws 8 (sym l)))

pub words_made : (rs : List RetransmitRequest) {w0 w1 w2 w3 w4 w5 w6 w7 : ℕ}
    → w0 ≡ both_in (get_or rs 0 blank) (get_or rs 1 blank)
    → w1 ≡ both_in (get_or rs 2 blank) (get_or rs 3 blank)
    → w2 ≡ both_in (get_or rs 4 blank) (get_or rs 5 blank)
    → w3 ≡ both_in (get_or rs 6 blank) (get_or rs 7 blank)
    → w4 ≡ both_in (get_or rs 8 blank) (get_or rs 9 blank)
    → w5 ≡ both_in (get_or rs 10 blank) (get_or rs 11 blank)
    → w6 ≡ both_in (get_or rs 12 blank) (get_or rs 13 blank)
    → w7 ≡ both_in (get_or rs 14 blank) (get_or rs 15 blank)
    → w0 ∷ w1 ∷ w2 ∷ w3 ∷ w4 ∷ w5 ∷ w6 ∷ w7 ∷ [] ≡ request_words 8 rs
unfolding request_words
words_made rs e0 e1 e2 e3 e4 e5 e6 e7 = rw (e0, e1, e2, e3, e4, e5, e6, e7) (simp get_or-drop)
