-- The span of a range, and what the answers made of ranges say. Assumes nothing.
use Rattle.std.specs.Prelude.{◌≡◌, ◌+◌, ◌<◌, ◌⊎◌, Some, None, Option}
use Rattle.std.specs.declared.ops.Bound.{Bound}
use Rattle.lawful.specs.declared.key.Key.{Ghosts}
use Rattle.ranges.specs.declared.range.any.AnyRange.{AnyRange}
use Rattle.ranges.specs.declared.range.Difference.{Difference}
use Rattle.ranges.specs.declared.range.Difference.TheVariants.{Before, After, Split, Empty}
use Rattle.ranges.specs.declared.range.Product.{Product}
use Rattle.ranges.specs.declared.range.ProductArg.{ProductArg}
use Rattle.ranges.specs.declared.range.ProductArg.TheVariants.{Subject, Object}
use Rattle.ranges.specs.Places.{low, high}
use Rattle.ranges.specs.Ranges.{Span, Held, Bare, Same, shared, below, above}

-- the places from a start to an end
abbrev pub ends : {K : Type 0} → Ghosts K → Bound K → Bound K → Span
ends g s e = record { low = low g s; high = high g e }

-- the places of a range
abbrev pub span : {K : Type 0} → Ghosts K → AnyRange K → Span
span g r = ends g r.start r.end

-- the key at the first place, absent where there is none
abbrev pub First : {K : Type 0} → Ghosts K → Span → Option K → Type 0
First g x None = Bare x
First g x (Some k) = Held x × (g.place k ≡ x.low)

-- the key at the last place, absent where there is none
abbrev pub Last : {K : Type 0} → Ghosts K → Span → Option K → Type 0
Last g x None = Bare x
Last g x (Some k) = Held x × (g.place k + 1 ≡ x.high)

-- the span x as a range, absent where it has no place
abbrev pub Cropped : {K : Type 0} → Ghosts K → Span → Option (AnyRange K) → Type 0
Cropped g x None = Bare x
Cropped g x (Some r) = Held x × Same (span g r) x

-- What is left of x outside y: the part below, the part above, both or neither. Where y has no place, that is all of x,
-- as Before, and where x has none, Empty.
abbrev pub Leaves : {K : Type 0} → Ghosts K → Span → Span → Difference K → Type 0
Leaves g x y (Before r) =
    (Bare y × Held x × Same (span g r) x) ⊎ (Held y × Held (below x y) × Bare (above x y) × Same (span g r) (below x y))
Leaves g x y (After r) = Held y × Bare (below x y) × Held (above x y) × Same (span g r) (above x y)
Leaves g x y (Split l r) =
    Held y × Held (below x y) × Held (above x y) × Same (span g l) (below x y) × Same (span g r) (above x y)
Leaves g x y Empty = Bare x ⊎ (Held y × Bare (below x y) × Bare (above x y))

-- The part before: what the earlier starting span has below the other's start, marked by its owner. Absent where they
-- start together, and where either has no place.
abbrev pub Leads : {K : Type 0} → Ghosts K → Span → Span → Option (ProductArg K) → Type 0
Leads g x y None = (Bare x ⊎ Bare y) ⊎ (x.low ≡ y.low)
Leads g x y (Some (Subject r)) = Held x × Held y × (x.low < y.low) × Same (span g r) (below x y)
Leads g x y (Some (Object r)) = Held x × Held y × (y.low < x.low) × Same (span g r) (below y x)

-- The part after: what the later ending span has above the other's end, marked by its owner. Absent where they end
-- together, and where either has no place.
abbrev pub Trails : {K : Type 0} → Ghosts K → Span → Span → Option (ProductArg K) → Type 0
Trails g x y None = (Bare x ⊎ Bare y) ⊎ (x.high ≡ y.high)
Trails g x y (Some (Subject r)) = Held x × Held y × (y.high < x.high) × Same (span g r) (above x y)
Trails g x y (Some (Object r)) = Held x × Held y × (x.high < y.high) × Same (span g r) (above y x)

-- the part before, what both have, and the part after
pub record Multiplies {K : Type 0} (g : Ghosts K) (x y : Span) (p : Product K) : Type 0 where
  pub before : Leads g x y p.before
  pub intersection : Cropped g (shared x y) p.intersection
  pub after : Trails g x y p.after
