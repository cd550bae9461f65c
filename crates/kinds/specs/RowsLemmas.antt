-- Rows of any lengths: each place is one of one row. Assumes nothing.
use Rattle.std.specs.Prelude.{◌≡◌, ℕ, zero, suc, ◌+◌, ◌-◌, ◌<◌, ◌≤◌}
use Rattle.std.specs.declared.cmp.Ordering.{Ordering}
use Rattle.std.specs.declared.cmp.Ordering.TheVariants.{Less, Equal, Greater}
use Rattle.std.specs.Ordering.{ordering_then, nat_cmp, MatchOrdering}
use Rattle.std.specs.Cmp.{nat_cmp_is, ranks}
use Rattle.std.proofs.Math.Path.{refl}
use Rattle.std.proofs.Common.{ap}
use Rattle.std.proofs.Math.Logic.{inl, inr}
use native.Mathlib.Omega.{arith}
use Rattle.std.proofs.lemmas.Bool.{cases_lt, cases_order}
use Rattle.kinds.specs.Rows.{before}

-- the row and the place in it, of place p of n rows
pub record Row (size : ℕ → ℕ) (n p : ℕ) : Type 0 where
  pub row : ℕ
  pub inner : ℕ
  pub row_below : row < n
  pub inner_below : inner < size row
  pub is : before size row + inner ≡ p

module _ (size : ℕ → ℕ) where
  pub before_next : (i : ℕ) → before size (suc i) ≡ before size i + size i
  unfolding before
  before_next i = refl

  before_plus : (i k j : ℕ) → k + i ≡ j → before size i ≤ before size j
  before_plus i zero j e = let same : i ≡ j = omega arith in omega (arith, ap (before size) same)
  before_plus i (suc k) j e =
      let next : suc (k + i) ≡ j = omega arith in
      omega (arith, before_plus i k (k + i) refl, before_next (k + i), ap (before size) next)

  pub before_le : (i j : ℕ) → i ≤ j → before size i ≤ before size j
  before_le i j h = before_plus i (j - i) j (omega arith)

  pub row_within : (n i s : ℕ) → i < n → s < size i → before size i + s < before size n
  row_within n i s h k = omega (arith, before_next i, before_le (suc i) n h)

  pub row_same : (i j s t : ℕ) → s < size i → t < size j → before size i + s ≡ before size j + t → i ≡ j
  row_same i j s t h k e =
      elim (cases_order i j) [
        | inl same ↦ same
        | inr (inl less) ↦ absurd (omega (arith, row_within j i s less h))
        | inr (inr more) ↦ absurd (omega (arith, row_within i j t more k))
      ]

  -- one place is at one place of one row
  pub row_place_same : (i j s t : ℕ) → s < size i → t < size j → before size i + s ≡ before size j + t → ◌≡◌ {A = ℕ × ℕ} (i, s) (j, t)
  row_place_same i j s t h k e =
      let rows : i ≡ j = row_same i j s t h k e in
      let inner : s ≡ t = omega (arith, ap (before size) rows) in
      λ z. (rows z, inner z)

  -- places lie as their rows do, and in one row as they stand in it
  pub row_order : (i j s t : ℕ) → s < size i → t < size j → ordering_then (nat_cmp i j) (nat_cmp s t) ≡ nat_cmp (before size i + s) (before size j + t)
  row_order i j s t h k = nat_cmp_is (before size i + s) (before size j + t) (ordering_then (nat_cmp i j) (nat_cmp s t)) (go (nat_cmp i j) (nat_cmp s t) (ranks i j) (ranks s t))
    where
      go : (q r : Ordering) → MatchOrdering q (i < j) (i ≡ j) (j < i) → MatchOrdering r (s < t) (s ≡ t) (t < s) →
          MatchOrdering (ordering_then q r) (before size i + s < before size j + t) (before size i + s ≡ before size j + t) (before size j + t < before size i + s)
      go Less r p m = omega (arith, row_within j i s p h)
      go Greater r p m = omega (arith, row_within i j t p k)
      go Equal Less p m = omega (arith, ap (before size) p)
      go Equal Equal p m = omega (arith, ap (before size) p)
      go Equal Greater p m = omega (arith, ap (before size) p)

  pub row_onto : (n p : ℕ) → p < before size n → Row size n p
  unfolding before
  row_onto zero p h = absurd (omega arith)
  row_onto (suc n) p h =
      elim (cases_lt p (before size n)) [
        | inl lower ↦ let r = row_onto n p lower in record { row = r.row; inner = r.inner; row_below = omega (arith, r.row_below); inner_below = r.inner_below; is = r.is }
        | inr here ↦ record { row = n; inner = p - before size n; row_below = omega arith; inner_below = omega (arith, before_next n); is = omega arith }
      ]
