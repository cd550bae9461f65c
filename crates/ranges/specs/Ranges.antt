-- Spans of places, and what the answers about two spans say. Assumes nothing.
use Rattle.std.specs.Prelude.{◌≡◌, ℕ, ◌-◌, ◌<◌, ◌≤◌, min, max, Bool, cond, ◌&&◌, ◌⊎◌, Some, None, Option, ◌==◌, nat_le, nat_lt}
use Rattle.ranges.specs.declared.range.ordering.RangeOrdering.{RangeOrdering}
use Rattle.ranges.specs.declared.range.ordering.RangeOrdering.TheVariants.{Before, Intersecting, After}

-- the places p with low ≤ p < high
pub record Span : Type 0 where
  pub low : ℕ
  pub high : ℕ

-- it has a place
abbrev pub Held : Span → Type 0
Held x = x.low < x.high

-- it has none
abbrev pub Bare : Span → Type 0
Bare x = x.high ≤ x.low

-- whether it has none
abbrev pub vacant : Span → Bool
vacant x = nat_le x.high x.low

-- how many places it has
abbrev pub size : Span → ℕ
size x = x.high - x.low

-- the same ends
abbrev pub Same : Span → Span → Type 0
Same x y = (x.low ≡ y.low) × (x.high ≡ y.high)

-- from the lower start to the higher end
abbrev pub joined : Span → Span → Span
joined x y = record { low = min x.low y.low; high = max x.high y.high }

-- the places in both
abbrev pub shared : Span → Span → Span
shared x y = record { low = max x.low y.low; high = min x.high y.high }

-- the places of x below p
abbrev pub upto : Span → ℕ → Span
upto x p = record { low = x.low; high = min x.high p }

-- the places of x from p up
abbrev pub onward : Span → ℕ → Span
onward x p = record { low = max x.low p; high = x.high }

-- what of x lies below the start of y
abbrev pub below : Span → Span → Span
below x y = upto x y.low

-- what of x lies above the end of y
abbrev pub above : Span → Span → Span
above x y = onward x y.high

-- whether a place is in both
abbrev pub meets : Span → Span → Bool
meets x y = nat_lt (shared x y).low (shared x y).high

-- whether both have places, and share one or touch
abbrev pub connects : Span → Span → Bool
connects x y = (nat_lt x.low x.high && nat_lt y.low y.high) && (nat_le y.low x.high && nat_le x.low y.high)

-- Of two spans with places: whether x ends before y starts; if touching counts as connected, with a place between.
abbrev pub precedes : Bool → Span → Span → Bool
precedes connected x y = cond connected (nat_lt x.high y.low) (nat_le x.high y.low)

-- Of two spans with places: whether they share one; if touching counts as connected, or touch.
abbrev pub reaches : Bool → Span → Span → Bool
reaches connected x y =
    cond connected (nat_le y.low x.high && nat_le x.low y.high) (nat_lt y.low x.high && nat_lt x.low y.high)

-- What an answer says of two spans, both with places. The flag of Before and After: they touch.
-- The flags of Intersecting: they start at one place, and they end at one place.
abbrev pub Lies : Span → Span → RangeOrdering → Type 0
Lies x y (Before t) = Held x × Held y × (x.high ≤ y.low) × (t ≡ (x.high == y.low))
Lies x y (After t) = Held x × Held y × (y.high ≤ x.low) × (t ≡ (y.high == x.low))
Lies x y (Intersecting s e) =
    Held x × Held y × (y.low < x.high) × (x.low < y.high) × (s ≡ (x.low == y.low)) × (e ≡ (x.high == y.high))

-- the same, absent exactly where either has no place
abbrev pub Ordered : Span → Span → Option RangeOrdering → Type 0
Ordered x y None = Bare x ⊎ Bare y
Ordered x y (Some o) = Lies x y o
