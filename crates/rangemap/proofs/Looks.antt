-- The reads, linked to the ledger.
use Rattle.std.specs.Cmp.{IsEquivalence}
use Rattle.std.proofs.Common.{◌≡◌, ℕ, ◌+◌, ◌<◌, ◌≤◌, Bool, true, false, ltb, leb, List, ◌∷◌, length, get_or, take, drop, is_ok, Some, None, Ok, Err, Option, Result, sym, refl, ap, ◌∙◌, subst, arith}
use Rattle.std.specs.declared.ops.Bound.{Bound}
use Rattle.std.specs.declared.ops.Bound.TheVariants.{Included, Excluded, Unbounded}
use Rattle.ranges.specs.Places.{high}
use Rattle.std.proofs.lemmas.Bool.{and_parts, leb-true, ltb-true}
use Rattle.ledger.specs.Ledger.{Call, get, intersects, list, Answer, found, said, nothing, within, meets, outcome}
use Rattle.ledger.specs.Spans.{Span, held, Rises, Canonical}
use Rattle.lawful.specs.EqualsLemmas.{same_eq}
use Rattle.ledger.proofs.Lists.{within_in}
use Rattle.ledger.proofs.Calls.{book, Results, step_like, get_found, intersects_said, listed_nothing, meets_yes, meets_no}
use Rattle.std.proofs.lemmas.List.{length-map, drop_more}
use Rattle.rangemap.specs.declared.item.Item.{Item}
use Rattle.rangemap.specs.declared.store.Store.{Store}
use Rattle.rangemap.specs.Items.{span_at}
use Rattle.rangemap.specs.Maps.{stored, Does, RisesIn}
use Rattle.rangemap.specs.Search.{Found, Rising, Joins, Last, Stands, Index}
use Rattle.rangemap.proofs.Rising.{Parts, parts, span_read}
use Rattle.ranges.specs.Parts.{span as ends}
use Rattle.ranges.specs.declared.range.any.AnyRange.{AnyRange}
use Rattle.lawful.specs.declared.key.Key.{Ghosts}
use Rattle.rangemap.proofs.Helds.{held_at, held_stands, held_joined}

pub within_parts : (low high p : ℕ) → within low high p ≡ true → (low ≤ p) × (p < high)
within_parts low high p e = let b = and_parts (leb low p) (ltb p high) e in (leb-true low p b.0, ltb-true p high b.1)

module _ {V : Type 0} (count : ℕ) (xs : List (Span V)) where
  -- over no place there is nothing to meet
  pub meets_empty : (low high : ℕ) → high ≤ low → meets count (held xs) (within low high) ≡ false
  meets_empty low high l = meets_no count (held xs) (within low high) (λ p k e. let b = within_parts low high p e in let z : ⊥ = omega arith in absurd z)

  pub meets_found : (low high : ℕ) (r : Result ℕ ℕ) → low < high → Index (length xs) r → Rises 0 count xs → Found 0 low high xs r → meets count (held xs) (within low high) ≡ is_ok r
  meets_found low high (Ok i) l k r f =
      let p = held_joined 0 low high count xs i k r l f in
      meets_yes count (held xs) (within low high) p.0 p.1 (within_in low high p.0 (omega (arith, p.2)) (omega (arith, p.3))) p.4
  meets_found low high (Err i) l k r f =
      meets_no count (held xs) (within low high) (λ p k e. let b = within_parts low high p e in held_stands 0 low high xs i f p (omega arith) (omega arith))

-- an end is at the last key or earlier
pub high_within : {K : Type 0} (keys : Ghosts K) → ((k : K) → keys.place k < keys.COUNT) → (b : Bound K) → high keys b ≤ keys.COUNT
high_within keys within (Included k) = omega (arith, within k)
high_within keys within (Excluded k) = omega (arith, within k)
high_within keys within Unbounded = omega arith

-- a call on a map
module _ {K V : Type 0} (keys : Ghosts K) (eq : V → V → Bool) (law : IsEquivalence eq) (m : Store K V) where
  -- that leaves it as it was
  pub does_stay : (c : Call V) (a : Answer V) → (Canonical eq keys.COUNT (stored keys m) → Results eq law keys.COUNT m.slots (stored keys m) a (stored keys m) (outcome eq keys.COUNT (book eq law keys.COUNT m.slots (stored keys m)) c)) →
      Does keys eq m c a m
  does_stay c a like = record { slots = refl; link = λ canonical. step_like eq law keys.COUNT m.slots (stored keys m) c a (stored keys m) canonical (like canonical) }

  pub does_get : (p : ℕ) (r : Option V) → (RisesIn keys m → r ≡ held (stored keys m) p) → Does keys eq m (get p) (found r) m
  does_get p r e = does_stay (get p) (found r) (λ canonical. get_found eq law keys.COUNT m.slots (stored keys m) p r (same_eq eq law r (held (stored keys m) p) (e canonical.rises)))

  pub does_intersects : (low high : ℕ) (b : Bool) → (RisesIn keys m → b ≡ meets keys.COUNT (held (stored keys m)) (within low high)) → Does keys eq m (intersects low high) (said b) m
  does_intersects low high b e = does_stay (intersects low high) (said b) (λ canonical. intersects_said eq law keys.COUNT m.slots (stored keys m) low high b (e canonical.rises))

  pub does_list : Does keys eq m list nothing m
  does_list = does_stay list nothing (λ canonical. listed_nothing eq law keys.COUNT m.slots (stored keys m))

module _ {K V : Type 0} (keys : Ghosts K) (m : Store K V) where
  -- the list is as long as the Vec, and has the spans of its items
  pub len_listed : length m.items.items ≡ length (stored keys m)
  len_listed = sym (length-map m.items.items (span_at keys))

  pub span_listed : (i : ℕ) (x : Item K V) → i < length m.items.items → x ≡ get_or m.items.items i x → get_or (stored keys m) i (span_at keys x) ≡ span_at keys x
  span_listed i x l e = span_read keys m.items.items i x (omega arith) e

  pub index_listed : (r : Result ℕ ℕ) → Index (length m.items.items) r → Index (length (stored keys m)) r
  index_listed (Ok i) l = omega (arith, len_listed)
  index_listed (Err i) l = omega (arith, len_listed)

  module _ (i : ℕ) (x : Item K V) (l : i < length m.items.items) (e : x ≡ get_or m.items.items i x) where
    pub drop_listed : drop i (stored keys m) ≡ span_at keys x ∷ drop (i + 1) (stored keys m)
    drop_listed = drop_more (stored keys m) i (span_at keys x) (omega (arith, len_listed)) ∙ ap (λ y. y ∷ drop (i + 1) (stored keys m)) (span_listed i x l e)

    pub parts_listed : Rises 0 keys.COUNT (stored keys m) → Parts 0 keys.COUNT (span_at keys x) (take i (stored keys m)) (drop (i + 1) (stored keys m))
    parts_listed r =
        subst (λ (y : Span V). Parts 0 keys.COUNT y (take i (stored keys m)) (drop (i + 1) (stored keys m))) (span_listed i x l e)
        (parts 0 keys.COUNT (stored keys m) i (span_at keys x) (omega (arith, len_listed)) r)

-- what the search found is whether a place of the range has a value
pub intersects_found : {K V : Type 0} (keys : Ghosts K) (eq : V → V → Bool) (law : IsEquivalence eq) (m : Store K V) (key range : AnyRange K) (r : Result ℕ ℕ) (b : Bool) →
    range ≡ key → (ends keys range).low < (ends keys range).high → Index (length m.items.items) r → (Rising (stored keys m) → Found 0 (ends keys range).low (ends keys range).high (stored keys m) r) → b ≡ is_ok r → Does keys eq m (intersects (ends keys key).low (ends keys key).high) (said b) m
intersects_found keys eq law m key range r b same full index seen is =
    subst (λ x. Does keys eq m (intersects (ends keys x).low (ends keys x).high) (said b) m) same
    (does_intersects keys eq law m (ends keys range).low (ends keys range).high b
    (λ rises. is ∙ sym (meets_found keys.COUNT (stored keys m) (ends keys range).low (ends keys range).high r full (index_listed keys m r index) rises (seen (keys.COUNT, rises)))))

pub intersects_none : {K V : Type 0} (keys : Ghosts K) (eq : V → V → Bool) (law : IsEquivalence eq) (m : Store K V) (key : AnyRange K) →
    (ends keys key).high ≤ (ends keys key).low → Does keys eq m (intersects (ends keys key).low (ends keys key).high) (said false) m
intersects_none keys eq law m key bare =
    does_intersects keys eq law m (ends keys key).low (ends keys key).high false (λ rises. sym (meets_empty keys.COUNT (stored keys m) (ends keys key).low (ends keys key).high bare))

-- what the search for one key found is the value at its place
pub get_value : {K V : Type 0} (keys : Ghosts K) (m : Store K V) (p i : ℕ) (range : AnyRange K) (x : Item K V) → ends keys range ≡ record { low = p; high = p + 1 } →
    (Rising (stored keys m) → Last 0 (ends keys range).low (ends keys range).high (stored keys m) i) → i < length m.items.items → x ≡ get_or m.items.items i x → RisesIn keys m → Some x.value ≡ held (stored keys m) p
get_value keys m p i range x single seen l e rises =
    let last = seen (keys.COUNT, rises) in
    let k : i < length (stored keys m) = omega (arith, len_listed keys m) in
    let joins : Joins 0 p (p + 1) (span_at keys x) = subst (λ y. Joins 0 y.low y.high (span_at keys x)) single (subst (Joins 0 (ends keys range).low (ends keys range).high) (span_listed keys m i x l e) (last.here (span_at keys x))) in
    sym (subst (λ (y : Span _). y.low ≤ p → p < y.high → held (stored keys m) p ≡ Some y.value) (span_listed keys m i x l e) (held_at 0 keys.COUNT (stored keys m) i (span_at keys x) k rises p) (omega (arith, joins.0)) (omega (arith, joins.1)))

-- so the call answers as the ledger does
pub get_stored : {K V : Type 0} (keys : Ghosts K) (eq : V → V → Bool) (law : IsEquivalence eq) (m : Store K V) (p i : ℕ) (range : AnyRange K) (x : Item K V) → ends keys range ≡ record { low = p; high = p + 1 } →
    (Rising (stored keys m) → Last 0 (ends keys range).low (ends keys range).high (stored keys m) i) → i < length m.items.items → x ≡ get_or m.items.items i x → Does keys eq m (get p) (found (Some x.value)) m
get_stored keys eq law m p i range x single seen l e = does_get keys eq law m p (Some x.value) (get_value keys m p i range x single seen l e)

pub get_none : {K V : Type 0} (keys : Ghosts K) (m : Store K V) (p i : ℕ) (range : AnyRange K) → ends keys range ≡ record { low = p; high = p + 1 } → (Rising (stored keys m) → Stands 0 (ends keys range).low (ends keys range).high (stored keys m) i) → RisesIn keys m → None ≡ held (stored keys m) p
get_none keys m p i range single seen rises =
    sym (held_stands 0 p (p + 1) (stored keys m) i (subst (λ y. Stands 0 y.low y.high (stored keys m) i) single (seen (keys.COUNT, rises))) p (omega arith) (omega arith))

pub get_absent : {K V : Type 0} (keys : Ghosts K) (eq : V → V → Bool) (law : IsEquivalence eq) (m : Store K V) (p i : ℕ) (range : AnyRange K) → ends keys range ≡ record { low = p; high = p + 1 } →
    (Rising (stored keys m) → Stands 0 (ends keys range).low (ends keys range).high (stored keys m) i) → Does keys eq m (get p) (found None) m
get_absent keys eq law m p i range single seen = does_get keys eq law m p None (get_none keys m p i range single seen)
