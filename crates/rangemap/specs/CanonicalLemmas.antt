-- A list is canonical in one way at most. Assumes nothing.
use Rattle.std.specs.Prelude.{ℕ, Bool, List, [], ◌∷◌}
use Rattle.std.specs.Coded.{×_prop, Unit-prop, le_prop}
use Rattle.ledger.specs.Spans.{Span, Rises, Parted, AllParted, Canonical}
use Rattle.std.proofs.Props.{props}

module _ {V : Type 0} where
  Rises-prop : (from count : ℕ) (xs : List (Span V)) → IsProp (Rises from count xs)
  Rises-prop from count [] = le_prop
  Rises-prop from count (x ∷ xs) = λ a b i. (le_prop a.0 b.0 i, le_prop a.1 b.1 i, Rises-prop x.high count xs a.2 b.2 i)

  Parted-prop : (eq : V → V → Bool) (x : Span V) (xs : List (Span V)) → IsProp (Parted eq x xs)
  Parted-prop eq x [] = Unit-prop
  Parted-prop eq x (y ∷ ys) = Prim.hlevel props

  AllParted-prop : (eq : V → V → Bool) (xs : List (Span V)) → IsProp (AllParted eq xs)
  AllParted-prop eq [] = Unit-prop
  AllParted-prop eq (x ∷ xs) = ×_prop (Parted-prop eq x xs) (AllParted-prop eq xs)

  pub Canonical-prop : (eq : V → V → Bool) (count : ℕ) (xs : List (Span V)) → IsProp (Canonical eq count xs)
  Canonical-prop eq count xs a b = λ i. record { rises = Rises-prop 0 count xs a.rises b.rises i; parted = AllParted-prop eq xs a.parted b.parted i }
