-- The test of a range, and the facts that it stands for.
use Rattle.std.specs.Prelude.{◌≡◌, ℕ, ◌<◌, ◌≤◌, Bool, true, false, not, nat_le, refl}
use Rattle.std.proofs.Common.{sym, inl, inr, leb-true, le-leb}
use Rattle.std.proofs.lemmas.Bool.{lt-leb}
use Rattle.config.specs.Range.{within, outside}
use Rattle.config.specs.inner.Tests.{split, and_left, and_right}

module _ (low high n : ℕ) where
  pub within_yes : low ≤ n → n ≤ high → within low high n ≡ true
  within_yes p q = rw (le-leb low n p, le-leb n high q)

  pub within_below : n < low → within low high n ≡ false
  within_below p = rw (lt-leb low n p)

  pub within_above : high < n → within low high n ≡ false
  within_above p = elim (split (nat_le low n)) [ inl e ↦ rw (e, lt-leb n high p) | inr e ↦ rw e ]

  pub within_range : within low high n ≡ true → (low ≤ n) × (n ≤ high)
  within_range e = (leb-true _ _ (and_left (nat_le low n) (nat_le n high) e), leb-true _ _ (and_right (nat_le low n) (nat_le n high) e))

  pub outside_not : outside low high n ≡ false → within low high n ≡ true
  outside_not e = go (within low high n) e
    where
      go : (t : Bool) → not t ≡ false → t ≡ true
      go true e = refl
      go false e = sym e

  pub low_passed : low ≤ n → nat_le n high ≡ within low high n
  low_passed p = rw (le-leb low n p)

  pub not_outside : outside low high n ≡ false → (low ≤ n) × (n ≤ high)
  not_outside e = within_range (outside_not e)
