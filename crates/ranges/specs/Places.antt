-- What ends mean by places, and what the answers about ends say. Assumes nothing.
use Rattle.std.specs.Prelude.{◌≡◌, ℕ, ◌+◌, ◌-◌, ◌<◌, ◌≤◌, Some, None, Option, ◌==◌, ◌≢◌}
use Rattle.std.specs.declared.ops.Bound.{Bound}
use Rattle.std.specs.declared.ops.Bound.TheVariants.{Included, Excluded, Unbounded}
use Rattle.lawful.specs.declared.key.Key.{Ghosts}
use Rattle.ranges.specs.declared.range.bound.Directed.{Directed}
use Rattle.ranges.specs.declared.range.bound.Directed.TheVariants.{Start, End}
use Rattle.ranges.specs.declared.range.bound.Side.{Side}
use Rattle.std.specs.declared.cmp.Ordering.{Ordering}
use Rattle.std.specs.declared.cmp.Ordering.TheVariants.{Less, Greater}
use Rattle.ranges.specs.declared.range.ordering.BoundOrdering.{BoundOrdering}
use Rattle.ranges.specs.declared.range.ordering.BoundOrdering.TheVariants.{Included as Within, Excluded as Outside}

-- the first place that a start lets in
abbrev pub low : {K : Type 0} → Ghosts K → Bound K → ℕ
low g (Included k) = g.place k
low g (Excluded k) = g.place k + 1
low g Unbounded = 0

-- one more than the last place that an end lets in
abbrev pub high : {K : Type 0} → Ghosts K → Bound K → ℕ
high g (Included k) = g.place k + 1
high g (Excluded k) = g.place k
high g Unbounded = g.COUNT

-- The mark of a start or an end: one more than the first place let in, or than the last. An end may lie before place 0.
abbrev pub mark : {K : Type 0} → Ghosts K → Directed (Bound K) → ℕ
mark g (Start b) = low g b + 1
mark g (End b) = high g b

abbrev pub directed : {K : Type 0} → Side → Bound K → Directed (Bound K)
directed Side.Start b = Start b
directed Side.End b = End b

abbrev pub side_of : {X : Type 0} → Directed X → Side
side_of (Start b) = Side.Start
side_of (End b) = Side.End

abbrev pub opposite_of : Side → Side
opposite_of Side.Start = Side.End
opposite_of Side.End = Side.Start

-- a start lets in what comes after it, an end what comes before it
abbrev pub inward_of : Side → Ordering
inward_of Side.Start = Greater
inward_of Side.End = Less

-- the place of the first key, or of the last
abbrev pub limit_of : {K : Type 0} → Ghosts K → Side → ℕ
limit_of g Side.Start = 0
limit_of g Side.End = g.COUNT - 1

-- What an answer says of two ends with the marks u and v. Compared as starts the first is Included from v up, as
-- ends up to v, and the flag says that both are one place; else it is Excluded, and the flag says that it stands
-- right beside the second.
abbrev pub Compares : Side → ℕ → ℕ → BoundOrdering → Type 0
Compares Side.Start u v (Within f) = (v ≤ u) × (f ≡ (u == v))
Compares Side.Start u v (Outside f) = (u < v) × (f ≡ (u + 1 == v))
Compares Side.End u v (Within f) = (u ≤ v) × (f ≡ (u == v))
Compares Side.End u v (Outside f) = (v < u) × (f ≡ (u == v + 1))

-- An end turned round: as an end it stops where the start began, and as a start it begins where the end stopped.
-- Nothing stands beyond Unbounded.
abbrev pub Inverted : {K : Type 0} → Ghosts K → Bound K → Option (Bound K) → Type 0
Inverted g b None = b ≡ Unbounded
Inverted g b (Some c) = (b ≢ Unbounded) × (high g c ≡ low g b) × (low g c ≡ high g b)

-- how many places lie from the one to the other, whichever comes first
abbrev pub apart : ℕ → ℕ → ℕ
apart p q = (p - q) + (q - p)
