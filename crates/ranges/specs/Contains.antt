-- Which keys a range contains, by comparing keys, as the documentation of Rust's Bound and RangeBounds has it. Assumes nothing.
use Rattle.std.specs.Prelude.{◌≡◌, ℕ, ◌<◌, ◌≤◌, Bool, ◌&&◌, ◌⊎◌, nat_le, nat_lt}
use Rattle.std.specs.declared.ops.Bound.{Bound}
use Rattle.std.specs.declared.ops.Bound.TheVariants.{Included, Excluded, Unbounded}
use Rattle.lawful.specs.declared.key.Key.{Ghosts}
use Rattle.ranges.specs.declared.range.any.AnyRange.{AnyRange}
use Rattle.ranges.specs.Ranges.{Span}
use Rattle.ranges.specs.Parts.{span}

-- the key a comes before the key b
abbrev pub Precedes : {K : Type 0} → Ghosts K → K → K → Type 0
Precedes g a b = g.place a < g.place b

-- A key passes a start. Included: it is the start's key or comes after it; Excluded: it comes after it; Unbounded: always.
abbrev pub Starts : {K : Type 0} → Ghosts K → Bound K → K → Type 0
Starts g (Included a) k = (a ≡ k) ⊎ Precedes g a k
Starts g (Excluded a) k = Precedes g a k
Starts g Unbounded k = Unit {0}

-- A key passes an end. Included: it is the end's key or comes before it; Excluded: it comes before it; Unbounded: always.
abbrev pub Ends : {K : Type 0} → Ghosts K → Bound K → K → Type 0
Ends g (Included b) k = (b ≡ k) ⊎ Precedes g k b
Ends g (Excluded b) k = Precedes g k b
Ends g Unbounded k = Unit {0}

-- A range contains the keys that pass both ends.
abbrev pub Contains : {K : Type 0} → Ghosts K → AnyRange K → K → Type 0
Contains g r k = Starts g r.start k × Ends g r.end k

-- whether a place is in a span
abbrev pub holds : Span → ℕ → Bool
holds x p = nat_le x.low p && nat_lt p x.high

-- A range contains a key exactly where the key's place lies in the range's span.
pub record Placed {K : Type 0} (g : Ghosts K) (r : AnyRange K) (k : K) : Type 0 where
  pub inside : Contains g r k → ((span g r).low ≤ g.place k) × (g.place k < (span g r).high)
  pub contained : (span g r).low ≤ g.place k → g.place k < (span g r).high → Contains g r k
