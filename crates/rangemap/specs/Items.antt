-- The spans of stored items.
use Rattle.std.specs.Prelude.{◌≡◌, ℕ, suc, ◌+◌, ◌<◌, ◌≤◌, Bool, List, ◌∷◌, map, length, take, drop, Some, None, Option, set, slice_index_or}
use Rattle.rangemap.specs.Contents.{Contents}
use Rattle.rangemap.specs.declared.item.Item.{Item}
use Rattle.ranges.specs.declared.range.any.AnyRange.{AnyRange}
use Rattle.lawful.specs.declared.key.Key.{Ghosts}
use Rattle.rangemap.specs.Ranges.{lo, hi}
use Rattle.ranges.specs.declared.range.ProductArg.{ProductArg}
use Rattle.ranges.specs.declared.range.ProductArg.TheVariants.{Subject, Object}
use Rattle.rangemap.specs.Ranges.{Connected}
use Rattle.ledger.specs.Spans.{Span}
use Rattle.rangemap.specs.Spans.{span, Tight, Ends, From, put_made, Changed}

abbrev pub span_of : {K V : Type 0} → Ghosts K → AnyRange K → V → Span V
span_of g r v = span (lo g r) (hi g r) v

abbrev pub span_at : {K V : Type 0} → Ghosts K → Item K V → Span V
span_at g i = span_of g i.key i.value

abbrev pub spans : {K V : Type 0} → Ghosts K → List (Item K V) → List (Span V)
spans g xs = map (span_at g) xs

-- The spans of what a list holds.
abbrev pub listed : {K V : Type 0} → Ghosts K → Contents K V → List (Span V)
listed g c = spans g c.items

-- A tight list is changed by m at the places of the key.
abbrev pub Reworks : {K V : Type 0} → Ghosts K → (V → V → Bool) → AnyRange K → (Option V → Option V) → Contents K V → Contents K V → Type 0
Reworks g eq key m old new = Tight eq (listed g old) → Changed eq (lo g key) (hi g key) m (listed g old) (listed g new)

-- What follows an item, with the part of a product after it: a value's range that it keeps, or what was made of the key's.
abbrev pub tail_after : {K V : Type 0} → Ghosts K → (V → V → Bool) → V → Option V → Option (ProductArg K) → List (Span V) → List (Span V)
tail_after g eq v blank None zs = zs
tail_after g eq v blank (Some (Subject r)) zs = put_made eq (lo g r) (hi g r) blank zs
tail_after g eq v blank (Some (Object r)) zs = span_of g r v ∷ zs

-- An item keeps the part of its range after the key as that is, in the form of its ends too; where it has none, and nothing is made of the key's, nothing is written.
abbrev pub Rests : {K V : Type 0} → ℕ → V → Option V → Option (ProductArg K) → Contents K V → Contents K V → Type 0
Rests i v blank None old new = new ≡ old
Rests i v blank (Some (Subject r)) old new = blank ≡ None → new ≡ old
Rests i v blank (Some (Object r)) old new = new ≡ record old { items = set old.items i (record { key = r; value = v }) }

-- And with what was made of a part, if there is one.
abbrev pub tail_made : {K V : Type 0} → Ghosts K → (V → V → Bool) → Option V → Option (AnyRange K) → List (Span V) → List (Span V)
tail_made g eq made None zs = zs
tail_made g eq made (Some r) zs = put_made eq (lo g r) (hi g r) made zs

-- The item at i is connected to the key.
abbrev pub ConnectedAt : {K V : Type 0} → Ghosts K → AnyRange K → List (Item K V) → ℕ → Type 0
ConnectedAt {K} {V} g key xs i = (x : Item K V) → x ≡ slice_index_or xs i x → Connected g x.key key

-- The item at addr is connected to the key, and what follows it starts past the key.
pub record Found {K V : Type 0} (g : Ghosts K) (key : AnyRange K) (xs : List (Item K V)) (addr : ℕ) : Type 0 where
  pub within : addr < length xs
  pub connected : ConnectedAt g key xs addr
  pub start : From (hi g key) (drop (addr + 1) (spans g xs))

-- Nothing is connected to the key, which would stand at addr.
pub record Free {K V : Type 0} (g : Ghosts K) (key : AnyRange K) (xs : List (Item K V)) (addr : ℕ) : Type 0 where
  pub within : addr ≤ length xs
  pub front : Ends (λ e. e < lo g key) (take addr (spans g xs))
  pub start : From (suc (hi g key)) (drop addr (spans g xs))
