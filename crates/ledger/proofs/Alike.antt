-- The size of what is held goes by what is held, up to equal values. Assumes nothing.
use Rattle.std.proofs.Common.{◌≡◌, ℕ, zero, suc, ◌<◌, Bool, true, cond, Some, None, Option, refl, ap, arith}
use Rattle.std.proofs.lemmas.Bool.{false≢true}
use Rattle.std.specs.Cmp.{IsEquivalence}
use Rattle.lawful.specs.Equals.{same}
use Rattle.ledger.specs.Values.{Held, SameBelow, before, begins, size}
use Rattle.lawful.specs.EqualsLemmas.{eq_cong}
use Rattle.ledger.proofs.Sums.{sum_eq}

module _ {V : Type 0} (eq : V → V → Bool) (law : IsEquivalence eq) where
  pub begins_same : (a b c d : Option V) → same eq a b ≡ true → same eq c d ≡ true → begins eq a c ≡ begins eq b d
  begins_same None None None None p q = refl
  begins_same None None None (Some d) p q = absurd (false≢true q)
  begins_same None None (Some c) None p q = absurd (false≢true q)
  begins_same None None (Some c) (Some d) p q = refl
  begins_same None (Some b) c d p q = absurd (false≢true p)
  begins_same (Some a) None c d p q = absurd (false≢true p)
  begins_same (Some a) (Some b) None None p q = refl
  begins_same (Some a) (Some b) None (Some d) p q = absurd (false≢true q)
  begins_same (Some a) (Some b) (Some c) None p q = absurd (false≢true q)
  begins_same (Some a) (Some b) (Some c) (Some d) p q = ap (λ t. cond t 0 1) (eq_cong eq law a b c d p q)

  pub before_same : (count : ℕ) (h k : Held V) → SameBelow eq count h k → (p : ℕ) → p < count → same eq (before h p) (before k p) ≡ true
  before_same count h k s zero l = refl
  before_same count h k s (suc p) l = s p (omega arith)

  -- the size goes by what is held, up to equal values
  pub size_same : (count : ℕ) (h k : Held V) → SameBelow eq count h k → size eq h count ≡ size eq k count
  size_same count h k s =
      sum_eq _ _ count (λ p l. begins_same (before h p) (before k p) (h p) (k p) (before_same count h k s p l) (s p l))
