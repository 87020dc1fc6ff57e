-- Queueing: the room of the newest command, words that join, and the further commands.
use mathlib.Core.Path.{◌≡◌, refl, sym, ap, ◌∙◌}
use Rattle.std.proofs.Common.{Result, Ok, Err}
use Rattle.std.specs.Bool.{⊤}
use mathlib.Core.Bool.{Bool, true, false, cond, not}
use mathlib.Core.List.{List, [], ◌∷◌}
use Prim.Native.Nat.{ℕ, zero, suc, ◌+◌, ◌-◌, ◌≤◌, ◌<◌}
use native.Mathlib.Omega.{arith}
use lib.ListN.{length, take, drop, length-take, length-drop}
use lib.Seq.{take_all}
use lib.Dec.{leb, ltb, eqb}
use mathlib.Core.Logic.{inl, inr}
use borrow.Author.Tests.{lt-ltb, le-ltb, eq-eqb, ne_eqb, eqb-true, eqb-false, leb-true, not-false}
use Rattle.config.specs.inner.Tests.{split as split_test, and_right}
use Rattle.config.specs.Range.{within, outside}
use Rattle.config.specs.Settings.{check_of}
use Rattle.config.specs.Sequence.{turn}
use Rattle.config.specs.declared.refusal.Refusal.{Refusal}
use Rattle.config.specs.declared.refusal.Refusal.TheVariants.{CommandWords, InvalidUmpData, TooLarge, Full}
use Rattle.config.specs.declared.settings.StreamConfig.{StreamConfig}
use Rattle.command.specs.Messages.{whole_of}
use Rattle.history.specs.Headers.{length_at}
use Rattle.history.specs.State.{Good, state_ok}
use Rattle.history.specs.Push.{pop_one, popped, pushed, appended, longer as history·longer}
use Rattle.history.specs.Entries.{entries_of}
use Rattle.history.specs.declared.history.SendHistory.{SendHistory}
use Rattle.history.proofs.Entries.{good_holds, holds_good}
use Rattle.history.proofs.Effects.{holds_pushed}
use Rattle.history.proofs.States.{state_good}
use Rattle.history.proofs.Reached.{appended_state}
use Rattle.history.proofs.Runs.{length_ring_stored}
use Rattle.fronts.specs.Commands.{front, behind, commands_of, above}
use Rattle.sender.specs.State.{valid_of}
use Rattle.sender.specs.Queueing.{room_of, joining, further, need_of, joined_to, pushed_all, queued_to, holding, unsent, sent, words_check, placed_of, queued_of, sent_of}
use Rattle.fronts.proofs.Fronts.{Divides, part_of, divides_behind, command_fits, command_rest, commands_turn, commands_end, commands_at_lem}
use Rattle.sender.proofs.Validity.{valid_history, valid_unsent}
use Rattle.sender.specs.declared.sender.Sender.{Sender}

-- ---- the room of the newest unwritten command
module _ (s : Sender) (ring : List ℕ) (max : ℕ) where
  pub room_none : s.unsent ≡ 0 → 0 ≡ room_of s ring max
  unfolding room_of
  room_none e = rw (eq-eqb _ _ e)

  module _ (some : s.unsent ≡ 0 → ⊥) (n : ℕ) (e : n ≡ length_at ring s.history.last) where
    pub room_some : max - n ≡ room_of s ring max
    unfolding room_of
    room_some = rw (ne_eqb _ _ some, e)

    pub room_full : max < n → 0 ≡ room_of s ring max
    room_full h = let z : 0 ≡ max - n = omega arith in z ∙ room_some

-- ---- words that join
pub joined_none : (h : SendHistory) (ring ws : List ℕ) → length ws ≡ 0 → (h, ring) ≡ joined_to h ring ws
unfolding joined_to
joined_none h ring [] e = refl
joined_none h ring (w ∷ ws) e = absurd (let z : ⊥ = omega arith in z)

pub joined_some : (h : SendHistory) (ring ws : List ℕ) → (length ws ≡ 0 → ⊥) → appended h ring ws ≡ joined_to h ring ws
unfolding joined_to
joined_some h ring [] e = absurd (e refl)
joined_some h ring (w ∷ ws) e = refl

-- ---- the tests of queued words
module _ (max : ℕ) (ws : List ℕ) where
  pub check_parts : whole_of ws ≡ false → Err InvalidUmpData ≡ words_check max ws
  unfolding words_check
  check_parts w = rw w

  pub check_long : whole_of ws ≡ true → (b : Bool) → b ≡ not (above max ws) → b ≡ false → Err TooLarge ≡ words_check max ws
  unfolding words_check
  check_long w b e f = rw w (by (above max ws) (sym e ∙ f))
    where
      by : (t : Bool) → not t ≡ false → Err TooLarge ≡ cond {A = Result ⊤ Refusal} t (Err TooLarge) (Ok tt)
      by true g = refl
      by false g = absurd (let y : ◌≡◌ {A = ℕ} 0 1 = cc in omega arith)

  pub check_passed : whole_of ws ≡ true → (b : Bool) → b ≡ not (above max ws) → b ≡ true → Ok tt ≡ words_check max ws
  unfolding words_check
  check_passed w b e f = rw w (by (above max ws) (sym e ∙ f))
    where
      by : (t : Bool) → not t ≡ true → Ok tt ≡ cond {A = Result ⊤ Refusal} t (Err TooLarge) (Ok tt)
      by true g = absurd (let y : ◌≡◌ {A = ℕ} 0 1 = cc in omega arith)
      by false g = refl

-- ---- the answers of `send_ump`
module _ (s : Sender) (ring : List ℕ) (max : ℕ) (ws : List ℕ) where
  pub sent_none : length ws ≡ 0 → (sent s (Ok tt), ring) ≡ sent_of s ring max ws
  unfolding sent_of
  sent_none e = rw (eq-eqb _ _ e)

  pub sent_refused : (length ws ≡ 0 → ⊥) → (why : Refusal) → words_check max ws ≡ Err why → unsent s ring why ≡ sent_of s ring max ws
  unfolding sent_of
  sent_refused n why e = rw (ne_eqb _ _ n, e)

  pub sent_placed : (length ws ≡ 0 → ⊥) → words_check max ws ≡ Ok tt → placed_of s ring max ws ≡ sent_of s ring max ws
  unfolding sent_of
  sent_placed n e = rw (ne_eqb _ _ n, e)

-- ---- a history stays good
module _ (h : SendHistory) (ring ws : List ℕ) (g : Good h ring) (o : h.oldest < turn) where
  pub pushed_good : length ws ≤ 64 → Good (pushed h ring ws).0 (pushed h ring ws).1 × ((pushed h ring ws).0.oldest < turn)
  pushed_good k = let a = holds_pushed h ring ws (entries_of h ring) (good_holds h ring g o) k in (holds_good _ _ _ a, a.number)

-- ---- a turn of the loop over the further commands
length_pushed : (h : SendHistory) (ring ws : List ℕ) → length (pushed h ring ws).1 ≡ length ring
unfolding pushed
length_pushed h ring ws = length_ring_stored _ ring _

module _ (h g : SendHistory) (ring next : List ℕ) (max : ℕ) (ws : List ℕ) (n : ℕ)
    (i : 0 < length ws) (d : Divides max ws) (e : n ≡ length (front max ws)) (few : max ≤ 64) where
  pub push_fits : (1 ≤ n) × (n ≤ length ws) × (length (take n ws) ≤ 64)
  push_fits = let f = command_fits max ws 0 n i d e in (f.0, omega (arith, f.1), simp length-take (omega (arith, f.2)))

  -- what is left is the next command's rest
  left_is : take (length ws - n) (drop n ws) ≡ drop (0 + n) ws
  left_is = let z : 0 + n ≡ n = omega arith in rw z (take_all (length ws - n) (drop n ws) (simp length-drop (omega arith)))

  pub push_left : Divides max (take (length ws - n) (drop n ws))
  push_left = rw left_is (command_rest max ws 0 n i d e)

  module _ (good : Good h ring) (o : h.oldest < turn) (p : (g, next) ≡ pushed h ring (take n ws)) where
    one : g ≡ (pushed h ring (take n ws)).0
    one = ap (λ (x : SendHistory × List ℕ). x.0) p

    two : next ≡ (pushed h ring (take n ws)).1
    two = ap (λ (x : SendHistory × List ℕ). x.1) p

    pub push_good : Good g next × (g.oldest < turn)
    push_good = rw (one, two) (pushed_good h ring (take n ws) good o push_fits.2)

    pub push_turn : (z : SendHistory × List ℕ) → pushed_all h ring (commands_of max ws) ≡ z → pushed_all g next (commands_of max (take (length ws - n) (drop n ws))) ≡ z
    unfolding pushed_all
    push_turn z inv = rw (left_is, one, two) (rw (commands_turn max ws 0 n i d e) at inv)

    pub push_length : length next ≡ length ring
    push_length = ap length two ∙ length_pushed h ring (take n ws)

pub push_end : (g : SendHistory) (ring : List ℕ) (max : ℕ) (ws : List ℕ) (z : SendHistory × List ℕ) → length ws ≤ 0
    → pushed_all g ring (commands_of max ws) ≡ z
    → (g, ring) ≡ z
unfolding pushed_all
push_end g ring max ws z h inv = rw (commands_end max ws 0 h) at inv

-- ---- words that passed the tests
pub check_divides : (max : ℕ) (ws : List ℕ) → words_check max ws ≡ Ok tt → Divides max ws
unfolding words_check
check_divides max ws e = by (whole_of ws) (above max ws) refl refl e
  where
    by : (w a : Bool) → whole_of ws ≡ w → above max ws ≡ a → cond {A = Result ⊤ Refusal} (not w) (Err InvalidUmpData) (cond a (Err TooLarge) (Ok tt)) ≡ Ok tt → Divides max ws
    by true false f g h = record { whole = f; small = g }
    by true true f g h = absurd (let z : ◌≡◌ {A = ℕ} 0 1 = cc in omega arith)
    by false a f g h = absurd (let z : ◌≡◌ {A = ℕ} 0 1 = cc in omega arith)

pub split_divides : (max n split : ℕ) (ws : List ℕ) → Divides max ws → split ≡ length (front n ws) → Divides max (drop split ws)
unfolding behind
split_divides max n split ws d e = rw e (divides_behind max n ws d)

pub settings_few : (cfg : StreamConfig) → check_of cfg ≡ Ok tt → cfg.max_command_words ≤ 64
unfolding check_of
settings_few cfg e = by _ (outside 1 64 cfg.max_command_words) refl e
  where
    by : (rest : Result ⊤ Refusal) (t : Bool) → outside 1 64 cfg.max_command_words ≡ t → cond t (Err CommandWords) rest ≡ Ok tt → cfg.max_command_words ≤ 64
    by rest true f h = absurd (let z : ◌≡◌ {A = ℕ} 0 1 = cc in omega arith)
    by rest false f h = leb-true _ _ (and_right (leb 1 cfg.max_command_words) _ (not-false (within 1 64 cfg.max_command_words) f))

-- ---- joining is safe, and leaves a good history
module _ (s : Sender) (ring : List ℕ) (max : ℕ) (v : valid_of s ring ≡ true) (few : max ≤ 64) (room split : ℕ) (e : room ≡ room_of s ring max) (f : split ≤ room) where
  pub join_some : (ws : List ℕ) → 0 < length (take split ws) → (0 < s.unsent) × (length_at ring s.history.last + length (take split ws) ≤ 64)
  join_some ws p = elim (split_test (eqb s.unsent 0)) [
    | inl k ↦
        let z : room ≡ 0 = e ∙ sym (room_none s ring max (eqb-true _ _ k)) in
        let l : length (take split ws) ≤ split = simp length-take (omega arith) in
        absurd (let y : ⊥ = omega arith in y)
    | inr k ↦
        let z : room ≡ max - length_at ring s.history.last = e ∙ sym (room_some s ring max (eqb-false _ _ k) _ refl) in
        let l : length (take split ws) ≤ split = simp length-take (omega arith) in
        let u : s.unsent ≡ 0 → ⊥ = eqb-false _ _ k in
        (omega arith, omega arith)
  ]

  pub join_ready : (ws : List ℕ) → 0 < length (take split ws) → (0 < s.history.count) × (length_at ring s.history.last + length (take split ws) ≤ 64)
  join_ready ws p = let j = join_some ws p in (omega (arith, valid_unsent s ring v), j.1)

-- ---- the history after words have joined passes the test
pub popped_number : (k need : ℕ) (b : List ℕ) (h : SendHistory) → h.oldest < turn → (popped k need b h).oldest < turn
unfolding popped pop_one
popped_number zero need b h o = o
popped_number (suc k) need b h o = by (ltb (h.size - h.used) need) (popped_number k need b (pop_one b h) (omega arith))
  where
    by : (t : Bool) → (popped k need b (pop_one b h)).oldest < turn → (cond t (popped k need b (pop_one b h)) h).oldest < turn
    by true r = r
    by false r = o

module _ (h : SendHistory) (ring : List ℕ) (unsent words : ℕ) (ok : state_ok h ring unsent words ≡ true) (o : h.oldest < turn) where
  pub joined_state : (xs : List ℕ) → (0 < length xs → (0 < unsent) × (length_at ring h.last + length xs ≤ 64)) → length xs + words ≤ h.size
      → state_ok (joined_to h ring xs).0 (joined_to h ring xs).1 unsent (words + length xs) ≡ true
  unfolding joined_to
  joined_state [] ready fits = let z : words + 0 ≡ words = omega arith in rw z ok
  joined_state (x ∷ xs) ready fits =
      let j = ready (omega arith) in appended_state h ring unsent words ok o (x ∷ xs) j.0 j.1 fits

  pub joined_number : (xs : List ℕ) → (joined_to h ring xs).0.oldest < turn
  unfolding joined_to appended history·longer
  joined_number [] = o
  joined_number (x ∷ xs) = popped_number (h.count - 1) (length (x ∷ xs)) ring h o

module _ (s : Sender) (ring : List ℕ) (max : ℕ) (v : valid_of s ring ≡ true) (few : max ≤ 64) (room split : ℕ) (e : room ≡ room_of s ring max) (f : split ≤ room) where
  pub join_good : (o : s.history.oldest < turn) (ws : List ℕ) (g : SendHistory) (next : List ℕ) → split + s.unsent_words ≤ s.history.size
      → (g, next) ≡ joined_to s.history ring (take split ws)
      → Good g next × (g.oldest < turn)
  join_good o ws g next fits p =
      let l : length (take split ws) ≤ split = simp length-take (omega arith) in
      let st = joined_state s.history ring s.unsent s.unsent_words (valid_history s ring v) o (take split ws) (join_some s ring max v few room split e f ws) (omega arith) in
      let one = ap (λ (x : SendHistory × List ℕ). x.0) p in
      let two = ap (λ (x : SendHistory × List ℕ). x.1) p in
      rw (one, two) (state_good _ _ _ _ st, joined_number s.history ring s.unsent s.unsent_words (valid_history s ring v) o (take split ws))

-- ---- the answers of `queue_words`
module _ (s : Sender) (ring : List ℕ) (max : ℕ) (ws : List ℕ) (room split k : ℕ) (e : room ≡ room_of s ring max) (f : split ≡ length (front room ws))
    (c : k ≡ length (commands_of max (take (length ws - split) (drop split ws)))) where
  further_of : commands_of max (drop split ws) ≡ further s ring max ws
  unfolding behind
  further_of = rw (f, e)

  pub further_many : k ≡ length (further s ring max ws)
  further_many = c ∙ ap length (commands_at_lem max ws split ∙ further_of)

  pub need_of_lem : length ws + k ≡ need_of s ring max ws
  unfolding need_of
  need_of_lem = rw further_many

  pub placed_full : s.history.size - s.unsent_words < length ws + k → unsent s ring Full ≡ placed_of s ring max ws
  unfolding placed_of
  placed_full h = rw (← need_of_lem, lt-ltb _ _ h)

  pub placed_queued : (j g : SendHistory) (next last : List ℕ) → whole_of ws ≡ true → length ws + k ≤ s.history.size - s.unsent_words
      → (j, next) ≡ joined_to s.history ring (take split ws)
      → (g, last) ≡ pushed_all j next (commands_of max (take (length ws - split) (drop split ws)))
      → (sent (holding s g k (length ws + k)) (Ok tt), last) ≡ placed_of s ring max ws
  unfolding placed_of queued_of queued_to
  placed_queued j g next last w h p q =
      let front-room : take split ws ≡ front room ws = rw f (sym (part_of room ws w).part) in
      let x : take split ws ≡ joining s ring max ws = front-room ∙ ap (λ (m : ℕ). front m ws) e in
      let y : commands_of max (take (length ws - split) (drop split ws)) ≡ further s ring max ws = commands_at_lem max ws split ∙ further_of in
      let r : (j, next) ≡ joined_to s.history ring (joining s ring max ws) = rw x at p in
      let j₀ = ap (λ (z : SendHistory × List ℕ). z.0) r in
      let j₁ = ap (λ (z : SendHistory × List ℕ). z.1) r in
      let t = rw (y, j₀, j₁) at q in
      let g₀ = ap (λ (z : SendHistory × List ℕ). z.0) t in
      let g₁ = ap (λ (z : SendHistory × List ℕ). z.1) t in
      rw (← need_of_lem, le-ltb _ _ h, g₀, g₁, ← further_many)
