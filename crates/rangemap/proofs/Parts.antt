-- The parts of a product, by the ends of two ranges that hold a place.
use Rattle.std.proofs.Common.{◌≡◌, ℕ, ◌<◌, ◌≤◌, min, max, Some, None, Option, refl, arith}
use Rattle.ranges.specs.declared.range.any.AnyRange.{AnyRange}
use Rattle.lawful.specs.declared.key.Key.{Ghosts}
use Rattle.ranges.specs.declared.range.ProductArg.{ProductArg}
use Rattle.ranges.specs.declared.range.ProductArg.TheVariants.{Subject, Object}
use Rattle.ranges.specs.declared.range.Product.{Product}
use Rattle.rangemap.specs.Ranges.{lo, hi, Full}

-- The range r has its ends at l and h, which are apart.
pub record Cut {K : Type 0} (g : Ghosts K) (r : AnyRange K) (l h : ℕ) : Type 0 where
  pub low : lo g r ≡ l
  pub high : hi g r ≡ h
  pub full : l < h

-- The places of the earlier-starting range below the other's start.
abbrev pub Before : {K : Type 0} → Ghosts K → AnyRange K → AnyRange K → Option (ProductArg K) → Type 0
Before g a b None = lo g a ≡ lo g b
Before g a b (Some (Subject r)) = (lo g a < lo g b) × Cut g r (lo g a) (min (hi g a) (lo g b))
Before g a b (Some (Object r)) = (lo g b < lo g a) × Cut g r (lo g b) (min (hi g b) (lo g a))

-- The places of the later-ending range from the other's end on.
abbrev pub After : {K : Type 0} → Ghosts K → AnyRange K → AnyRange K → Option (ProductArg K) → Type 0
After g a b None = hi g a ≡ hi g b
After g a b (Some (Subject r)) = (hi g b < hi g a) × Cut g r (max (lo g a) (hi g b)) (hi g a)
After g a b (Some (Object r)) = (hi g a < hi g b) × Cut g r (max (lo g b) (hi g a)) (hi g b)

abbrev pub Shared : {K : Type 0} → Ghosts K → AnyRange K → AnyRange K → Option (AnyRange K) → Type 0
Shared g a b None = min (hi g a) (hi g b) ≤ max (lo g a) (lo g b)
Shared g a b (Some r) = Cut g r (max (lo g a) (lo g b)) (min (hi g a) (hi g b))

-- The parts of a product of ranges that hold a place.
pub record Multiplied {K : Type 0} (g : Ghosts K) (a b : AnyRange K) (r : Product K) : Type 0 where
  pub before : Full g a → Full g b → Before g a b r.before
  pub shared : Full g a → Full g b → Shared g a b r.intersection
  pub after : Full g a → Full g b → After g a b r.after

pub none_some : {X : Type 0} (x : X) → ◌≡◌ {A = Option X} None (Some x) → ⊥
none_some x e = let z : ◌≡◌ {A = ℕ} 0 1 = cc in omega arith

pub some_same : {X : Type 0} (x y : X) → ◌≡◌ {A = Option X} (Some x) (Some y) → x ≡ y
some_same x y e = cc

-- where no part is the object's, it does not start first
pub not_object : {K : Type 0} (g : Ghosts K) (a b : AnyRange K) (p : Option (ProductArg K)) → Before g a b p → ((r : AnyRange K) → p ≡ Some (Object r) → ⊥) → lo g a ≤ lo g b
not_object g a b None is none = omega arith
not_object g a b (Some (Subject r)) is none = omega (arith, is.0)
not_object g a b (Some (Object r)) is none = absurd (none r refl)

-- where no part is the object's, it does not end last
pub after_none : {K : Type 0} (g : Ghosts K) (a b : AnyRange K) (p : Option (ProductArg K)) → After g a b p → ((r : AnyRange K) → p ≡ Some (Object r) → ⊥) → hi g b ≤ hi g a
after_none g a b None is none = omega arith
after_none g a b (Some (Subject r)) is none = omega (arith, is.0)
after_none g a b (Some (Object r)) is none = absurd (none r refl)
