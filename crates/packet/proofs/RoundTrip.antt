-- Reading gives back what was written, and the cursor walks all of it.
use mathlib.Core.Path.{◌≡◌, refl, sym, ap, ap₂, ◌∙◌}
use mathlib.Core.Bool.{true}
use mathlib.Core.Logic.{inl, inr}
use mathlib.Core.List.{List, [], ◌∷◌, ◌++◌, append_assoc}
use Prim.Native.Nat.{ℕ, zero, suc, ◌+◌, ◌*◌, ◌/◌, ◌%◌, ◌≤◌, ◌<◌}
use native.Mathlib.Omega.{arith}
use lib.Dec.{leb}
use lib.ListN.{length, drop, length-append, length-drop}
use lib.Seq.{take_at, drop_at, drop-drop}
use Rattle.config.specs.inner.Tests.{split, lifts}
use Rattle.packet.specs.Bytes.{bytes_of, word_of, words_of}
use Rattle.packet.specs.Layout.{Packet, signature, encoded, size_of, encoded_all, payload_of, Words32, AllEncodable}
use Rattle.packet.specs.Read.{signed, item_of, next_of, body_of, Item, whole, items_from, items_of, follow, walked, placed}
use Rattle.packet.proofs.Words.{length_bytes_of}

-- ---- words
word_back : (w : ℕ) → w < 4294967296 → word_of (w / 16777216) (w / 65536 % 256) (w / 256 % 256) (w % 256) ≡ w
word_back w h =
    let two : w / 256 / 256 ≡ w / 65536 = omega arith in
    let three : w / 65536 / 256 ≡ w / 16777216 = omega arith in
    join (w / 16777216) (w / 65536) (w / 65536 % 256) (w / 256) (w / 256 % 256) w (w % 256)
    (omega (arith, low (w / 65536))) (omega (arith, low (w / 256))) (low w)
  where
    low : (x : ℕ) → x / 256 * 256 + x % 256 ≡ x
    low x = omega arith

    join : (d c' c b' b w a : ℕ) → d * 256 + c ≡ c' → c' * 256 + b ≡ b' → b' * 256 + a ≡ w → word_of d c b a ≡ w
    join d c' c b' b w a e f g = omega arith

pub words_of_bytes_of : (ws : List ℕ) → Words32 ws → words_of (bytes_of ws) ≡ ws
unfolding words_of bytes_of Words32
words_of_bytes_of [] h = refl
words_of_bytes_of (w ∷ ws) h = ap₂ (λ (x : ℕ) (y : List ℕ). x ∷ y) (word_back w h.0) (words_of_bytes_of ws h.1)

-- ---- a list of commands
pub length_encoded : (c : Packet) → length (encoded c) ≡ size_of c
length_encoded c = omega (arith, length_bytes_of c.words)

pub encoded_all_append : (cs ds : List Packet) → encoded_all (cs ++ ds) ≡ encoded_all cs ++ encoded_all ds
unfolding encoded_all
encoded_all_append [] ds = refl
encoded_all_append (c ∷ cs) ds = rw (encoded_all_append cs ds) (sym (append_assoc (encoded c) (encoded_all cs) (encoded_all ds)))

pub all_encodable_append : (cs ds : List Packet) → AllEncodable cs → AllEncodable ds → AllEncodable (cs ++ ds)
unfolding AllEncodable
all_encodable_append [] ds h k = k
all_encodable_append (c ∷ cs) ds h k = (h.0, all_encodable_append cs ds h.1 k)

pub items_encoded : (cs : List Packet) (f at : ℕ) → length (encoded_all cs) ≤ f → AllEncodable cs → items_from f at (encoded_all cs) ≡ placed at cs
unfolding encoded_all AllEncodable items_from placed
items_encoded [] zero at h a = refl
items_encoded [] (suc f) at h a = refl
items_encoded (c ∷ cs) zero at h a = absurd (let z : ⊥ = omega arith in z)
items_encoded (c ∷ cs) (suc f) at h a =
    let n = length_bytes_of c.words in
    let long = length-append (bytes_of c.words) (encoded_all cs) in
    let fits : leb (4 * length c.words) (length (bytes_of c.words ++ encoded_all cs)) ≡ true = omega (arith, lifts) in
    let next : at + 4 + 4 * length c.words ≡ at + size_of c = omega arith in
    rw (
      fits,
      take_at (bytes_of c.words) (encoded_all cs) (4 * length c.words) n,
      drop_at (bytes_of c.words) (encoded_all cs) (4 * length c.words) n,
      words_of_bytes_of c.words a.0.words32,
      next,
    )
    (ap (λ (is : List Item). whole at c ∷ is) (items_encoded cs f (at + size_of c) (omega arith) a.1))

-- reading a payload's bytes gives its commands, each at its place, none cut
pub items_payload : (cs : List Packet) → AllEncodable cs → items_of (payload_of cs) ≡ placed 4 cs
unfolding items_of payload_of signed placed
items_payload [] a = refl
items_payload (c ∷ cs) a = items_encoded (c ∷ cs) (length (signature ++ encoded_all (c ∷ cs))) 4 (omega (arith, length-append signature (encoded_all (c ∷ cs)))) a

-- ---- two lists of commands
placed_injective : (cs ds : List Packet) (at : ℕ) → placed at cs ≡ placed at ds → cs ≡ ds
unfolding placed
placed_injective [] [] at e = refl
placed_injective [] (d ∷ ds) at e = absurd (let z : ◌≡◌ {A = ℕ} 0 1 = cc in let y : ⊥ = omega arith in y)
placed_injective (c ∷ cs) [] at e = absurd (let z : ◌≡◌ {A = ℕ} 0 1 = cc in let y : ⊥ = omega arith in y)
placed_injective (c ∷ cs) (d ∷ ds) at e =
    let same : c ≡ d = cc in
    let rest : placed (at + size_of c) cs ≡ placed (at + size_of d) ds = cc in
    ap₂ (λ (x : Packet) (xs : List Packet). x ∷ xs) same (placed_injective cs ds (at + size_of d) (rw same at rest))

-- two different lists never give the same bytes
pub payload_injective : (cs ds : List Packet) → AllEncodable cs → AllEncodable ds → payload_of cs ≡ payload_of ds → cs ≡ ds
payload_injective cs ds a b e = placed_injective cs ds 4 (sym (items_payload cs a) ∙ ap items_of e ∙ items_payload ds b)

-- ---- the cursor
step : (f at : ℕ) (b xs : List ℕ) → drop at b ≡ xs → ((next : ℕ) → walked f b next ≡ items_from f next (drop next b))
    → follow (item_of at xs) b (λ next. walked f b next) ≡ items_from (suc f) at xs
unfolding items_from body_of
step f at b [] e go = refl
step f at b (x ∷ []) e go = refl
step f at b (x ∷ y ∷ []) e go = refl
step f at b (x ∷ y ∷ z ∷ []) e go = refl
step f at b (x ∷ n ∷ y ∷ z ∷ rest) e go =
    let tail : drop (at + 4) b ≡ rest = sym (drop-drop 4 at b) ∙ ap (drop 4) e in
    let after : drop (at + 4 + 4 * n) b ≡ drop (4 * n) rest = sym (drop-drop (4 * n) (at + 4) b) ∙ ap (drop (4 * n)) tail in
    elim (split (leb (4 * n) (length rest))) [
      | inl k ↦ rw (k, tail, go (at + 4 + 4 * n), after)
      | inr k ↦ rw k
    ]

-- the cursor gives exactly the items, in order
pub walked_items : (f : ℕ) (b : List ℕ) (at : ℕ) → walked f b at ≡ items_from f at (drop at b)
unfolding walked items_from next_of
walked_items zero b at = refl
walked_items (suc f) b at = step f at b (drop at b) refl (λ next. walked_items f b next)

-- so many steps as there are bytes are always enough: more find nothing more
pub items_enough : (f g at : ℕ) (xs : List ℕ) → length xs ≤ f → length xs ≤ g → items_from f at xs ≡ items_from g at xs
unfolding items_from
items_enough zero zero at xs h k = refl
items_enough zero (suc g) at [] h k = refl
items_enough zero (suc g) at (x ∷ xs) h k = absurd (let z : ⊥ = omega arith in z)
items_enough (suc f) zero at [] h k = refl
items_enough (suc f) zero at (x ∷ xs) h k = absurd (let z : ⊥ = omega arith in z)
items_enough (suc f) (suc g) at [] h k = refl
items_enough (suc f) (suc g) at (x ∷ []) h k = refl
items_enough (suc f) (suc g) at (x ∷ y ∷ []) h k = refl
items_enough (suc f) (suc g) at (x ∷ y ∷ z ∷ []) h k = refl
items_enough (suc f) (suc g) at (x ∷ n ∷ y ∷ z ∷ rest) h k =
    let l = length-drop (4 * n) rest in
    elim (split (leb (4 * n) (length rest))) [
      | inl t ↦ rw (t, items_enough f g (at + 4 + 4 * n) (drop (4 * n) rest) (omega arith) (omega arith))
      | inr t ↦ rw t
    ]
