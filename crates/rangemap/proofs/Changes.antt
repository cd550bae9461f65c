-- A turn of the walk of `update`, over the items as the code has them.
use Rattle.std.specs.Cmp.{IsEquivalence}
use Rattle.std.proofs.Common.{◌≡◌, ℕ, ◌+◌, ◌-◌, ◌*◌, ◌<◌, ◌≤◌, min, max, Bool, List, ◌∷◌, ◌++◌, length, get_or, take, drop, Some, None, Option, sym, ap, ap₂, ◌∙◌, subst, ⊎_elim, arith}
use Rattle.std.proofs.lemmas.List.{length-map, length-take-le, drop_at, take-append-le, take-take, get_or_default}
use Rattle.std.proofs.lemmas.Bool.{cases_lt}
use Rattle.rangemap.specs.declared.item.Item.{Item}
use Rattle.ranges.specs.declared.range.any.AnyRange.{AnyRange}
use Rattle.lawful.specs.declared.key.Key.{Ghosts}
use Rattle.rangemap.specs.Ranges.{lo, hi}
use Rattle.ranges.specs.declared.range.ProductArg.{ProductArg}
use Rattle.ranges.specs.declared.range.ProductArg.TheVariants.{Subject, Object}
use Rattle.ranges.specs.declared.range.Product.{Product}
use Rattle.rangemap.specs.Contents.{Contents}
use Rattle.rangemap.specs.Items.{ConnectedAt, Found, listed, span_at, span_of, tail_after, tail_made}
use Rattle.rangemap.specs.Ranges.{Connected, Full}
use Rattle.rangemap.proofs.Parts.{After, Before, Shared}
use Rattle.ledger.specs.Spans.{Span}
use Rattle.rangemap.specs.Spans.{span, Same, Tight, Ends, From, put, put_at, put_made, Rest, Changed, Walk, Turn}
use Rattle.rangemap.specs.declared.spot.Spot.{Spot}
use Rattle.rangemap.specs.Spots.{Steps, address, next, put_there}
use Rattle.rangemap.specs.declared.spot.Spot.TheVariants.{Spent}
use Rattle.ranges.specs.Parts.{span as ends, Multiplies}
use Rattle.rangemap.proofs.Bridges.{multiplied}
use Rattle.rangemap.proofs.Turns.{read_at, span_at_lem, same_here, rest_object, turn_apart}
use Rattle.rangemap.proofs.Updates.{made_after, made_within, update_before, update_clear, update_first, update_level}
use Rattle.rangemap.proofs.Walks.{walk_full, walk_back_canonical, walk_whole, turn_from, walk_back}

-- `update`: the walk stands at the item at addr, and the key is what is left of the range.
pub record Stands {K V : Type 0} (g : Ghosts K) (eq : V → V → Bool) (l h : ℕ) (m : Option V → Option V) (key : AnyRange K) (old : List (Span V)) (xs : Contents K V) (addr : ℕ) : Type 0 where
  pub full : Full g key
  pub low : lo g key ≡ l
  pub high : hi g key ≤ h
  pub at : (s : Span V) × (w : Walk eq l h m (hi g key) old (listed g xs) addr s) × From (hi g key) w.back

-- The walk over the items that were `old` and are `now`: it began at `from` with the range, and stands at addr with the key.
pub record UpdateWalk {K V : Type 0} (g : Ghosts K) (eq : V → V → Bool) (m : Option V → Option V) (range : AnyRange K) (old : Contents K V) (from : ℕ) (key : AnyRange K) (now : Contents K V) (addr : ℕ) : Type 0 where
  pub within : addr < length now.items
  pub room : now.room ≡ old.room
  pub len : length now.items + addr + 1 ≤ 2 * length old.items
  pub stands : Tight eq (listed g old) → Found g range old.items from → Stands g eq (lo g range) (hi g range) m key (listed g old) now addr

-- The item's parts from the key's start on are settled.
pub record Settled {K V : Type 0} (g : Ghosts K) (eq : V → V → Bool) (l h : ℕ) (m : Option V → Option V) (key : AnyRange K) (old : List (Span V)) (ys : Contents K V) (at : Spot) (item : Item K V) (part : Option (ProductArg K)) : Type 0 where
  pub full : Full g key
  pub left : lo g key ≡ l
  pub right : hi g key ≤ h
  pub tight : Tight eq old
  pub turn : Turn eq l h m (max (lo g key) (lo g item.key)) (span_at g item) old (listed g ys) (address at) (next at)
  pub low : lo g item.key ≤ hi g key
  pub before : Before g key item.key part

-- A turn, up to what was made of the shared part.
module _ {K V : Type 0} (g : Ghosts K) {eq : V → V → Bool} (laws : IsEquivalence eq) {l h : ℕ} {m : Option V → Option V} {old : List (Span V)} {addr : ℕ} (key : AnyRange K) (item : Item K V) (blank made : Option V) (xs : Contents K V) (stands : Stands g eq l h m key old xs addr) (tight : Tight eq old) (lt : addr < length xs.items) (read : item ≡ get_or xs.items addr item) (blank_same : Same eq blank (m None)) (made_same : Same eq made (m (Some item.value))) where
  le : l ≤ h
  le = omega (arith, stands.full, stands.low, stands.high)

  here : (w : Walk eq l h m (hi g key) old (listed g xs) addr (span_at g item)) × From (hi g key) w.back
  here = subst (λ s. (w : Walk eq l h m (hi g key) old (listed g xs) addr s) × From (hi g key) w.back) (same_here g xs.items item stands.at.1 lt read) (stands.at.1, stands.at.2)

  pub item_full : Full g item.key
  item_full = walk_full here.0 tight

  rest_after : (part : Option (ProductArg K)) → After g key item.key part → Rest eq l h m (min (hi g key) (hi g item.key)) (span_at g item ∷ here.0.back) (tail_after g eq item.value blank part (drop (addr + 1) (listed g xs)))
  rest_after None is =
      let b : hi g key ≡ min (hi g key) (hi g item.key) = omega arith in
      subst (λ k. Rest eq l h m k (span_at g item ∷ here.0.back) (drop (addr + 1) (listed g xs))) b
      (walk_whole laws here.0 (omega arith))
  rest_after (Some (Subject r)) is =
      let w = here.0 in
      let b : hi g item.key ≡ min (hi g key) (hi g item.key) = omega (arith, is.0) in
      let start_is : hi g item.key ≡ lo g r = omega (arith, is.1.low, w.high) in
      let end_is : hi g key ≡ hi g r = sym is.1.high in
      let rest = made_after laws l h m le (hi g key) (span_at g item) w.back (drop (addr + 1) (listed g xs)) blank is.0 w.high stands.high (walk_back_canonical w tight) here.1 blank_same (walk_whole laws w (omega (arith, is.0))) in
      subst (λ k. Rest eq l h m k (span_at g item ∷ w.back) (put_made eq (lo g r) (hi g r) blank (drop (addr + 1) (listed g xs)))) b
      (subst (λ k. Rest eq l h m (hi g item.key) (span_at g item ∷ w.back) (put_made eq k (hi g r) blank (drop (addr + 1) (listed g xs)))) start_is
      (subst (λ k. Rest eq l h m (hi g item.key) (span_at g item ∷ w.back) (put_made eq (hi g item.key) k blank (drop (addr + 1) (listed g xs)))) end_is rest))
  rest_after (Some (Object r)) is =
      let b : hi g key ≡ min (hi g key) (hi g item.key) = omega (arith, is.0) in
      subst (λ k. Rest eq l h m k (span_at g item ∷ here.0.back) (span_of g r item.value ∷ drop (addr + 1) (listed g xs))) b
      (rest_object g laws key xs.items item here.0 le r is)

  rest_shared : (shared : Option (AnyRange K)) (zs : List (Span V)) → Shared g key item.key shared → Rest eq l h m (min (hi g key) (hi g item.key)) (span_at g item ∷ here.0.back) zs → Rest eq l h m (max (lo g key) (lo g item.key)) (span_at g item ∷ here.0.back) (tail_made g eq made shared zs)
  rest_shared None zs is rest =
      let b : min (hi g key) (hi g item.key) ≡ max (lo g key) (lo g item.key) = omega (arith, here.0.low, here.0.high, item_full) in
      subst (λ k. Rest eq l h m k (span_at g item ∷ here.0.back) zs) b rest
  rest_shared (Some r) zs is rest =
      subst (λ k. Rest eq l h m (max (lo g key) (lo g item.key)) (span_at g item ∷ here.0.back) (put_made eq k (hi g r) made zs)) (sym is.low)
      (subst (λ k. Rest eq l h m (max (lo g key) (lo g item.key)) (span_at g item ∷ here.0.back) (put_made eq (max (lo g key) (lo g item.key)) k made zs)) (sym is.high)
      (made_within laws l h m le (min (hi g key) (hi g item.key)) (max (lo g key) (lo g item.key)) (span_at g item) here.0.back zs made is.full (omega arith) (omega arith) (omega arith) (omega arith) made_same rest))

  pub settled_of : (product : Product K) → Multiplies g (ends g key) (ends g item.key) product → (ys : Contents K V) (at : Spot) → Steps g 1 (Spent addr) xs at ys (tail_made g eq made product.intersection (tail_after g eq item.value blank product.after (drop (addr + 1) (listed g xs)))) → Settled g eq l h m key old ys at item product.before
  settled_of product parts ys at steps =
      let is = multiplied g key item.key product parts in
      record {
        full = stands.full;
        left = stands.low;
        right = stands.high;
        tight = tight;
        turn = subst (λ k. Turn eq l h m (max (lo g key) (lo g item.key)) (span_at g item) old (listed g ys) k (next at)) (sym steps.same) (turn_from here.0 (max (lo g key) (lo g item.key)) (listed g ys) _ (next at) (omega arith) steps.front steps.tail (rest_shared product.intersection _ (is.shared stands.full item_full) (rest_after product.after (is.after stands.full item_full))));
        low = here.0.low;
        before = is.before stands.full item_full;
      }

-- The ends of the walk, and the way on.
module _ {K V : Type 0} (g : Ghosts K) {eq : V → V → Bool} (laws : IsEquivalence eq) {l h : ℕ} {m : Option V → Option V} {key : AnyRange K} {old : List (Span V)} {ys : Contents K V} {at : Spot} {item : Item K V} {part : Option (ProductArg K)} (t : Settled g eq l h m key old ys at item part) (zs : Contents K V) where
  ordered : l ≤ h
  ordered = omega (arith, t.full, t.left, t.right)

  turn_at : (b : ℕ) → max (lo g key) (lo g item.key) ≡ b → Turn eq l h m b (span_at g item) old (listed g ys) (address at) (next at)
  turn_at b e = subst (λ k. Turn eq l h m k (span_at g item) old (listed g ys) (address at) (next at)) e t.turn

  part_is : (p : Option (ProductArg K)) → part ≡ p → Before g key item.key p
  part_is p e = subst (Before g key item.key) e t.before

  -- the item keeps its part before the key
  pub settled_object : (r : AnyRange K) → part ≡ Some (Object r) → listed g zs ≡ put_there eq (listed g ys) at (span_of g r item.value) → Changed eq l h m old (listed g zs)
  settled_object r some edit =
      let is = part_is (Some (Object r)) some in
      let end_is : hi g r ≡ l = omega (arith, is.1.high, t.turn.high, t.left) in
      let done = update_before laws l h ordered t.tight (turn_at l (omega (arith, is.0, t.left))) (omega (arith, is.0, t.left)) in
      subst (Changed eq l h m old) (sym (edit ∙ ap (λ k. put_there eq (listed g ys) at (span k (hi g r) item.value)) is.1.low ∙ ap (λ k. put_there eq (listed g ys) at (span (lo g item.key) k item.value)) end_is)) done

  -- the key starts before the item
  module _ (r : AnyRange K) (some : part ≡ Some (Subject r)) where
    subject_part : Before g key item.key (Some (Subject r))
    subject_part = part_is (Some (Subject r)) some

    pub subject_is : Full g r × (lo g r ≡ l) × (hi g r ≡ lo g item.key)
    subject_is = (omega (arith, subject_part.1.low, subject_part.1.high, subject_part.1.full), omega (arith, subject_part.1.low, t.left), omega (arith, subject_part.1.high, t.low))

    -- nothing before is connected
    pub settled_clear : (blank : Option V) → Same eq blank (m None) → address at < length ys.items → ((x : Item K V) → 0 < address at → x ≡ get_or ys.items (address at - 1) x → Connected g x.key r → ⊥) → {n : ℕ} (ws : Contents K V) (to : Spot) → Steps g n at ys to ws (tail_made g eq blank (Some r) (drop (next at) (listed g ys))) → listed g zs ≡ take (address to) (listed g ws) ++ drop (next to) (listed g ws) → Changed eq l h m old (listed g zs)
    settled_clear blank same lt apart ws to steps dropped =
        let edit = dropped ∙ ap₂ (λ (us vs : List (Span V)). us ++ vs) (ap (λ k. take k (listed g ws)) steps.same ∙ steps.front) steps.tail in
        let turn = turn_at (lo g item.key) (omega (arith, subject_part.0)) in
        let apart_is = turn_apart g r subject_is.0 ys.items item t.tight turn (omega (arith, subject_is.2)) lt apart in
        let done = update_clear laws l h ordered t.tight blank turn (omega (arith, subject_part.0, t.left)) (omega (arith, t.low, t.right)) same (subst (λ k. Ends (λ e. e < k) (take (address at) (listed g ys))) subject_is.1 apart_is) in
        subst (Changed eq l h m old) (sym (edit ∙ ap (λ k. take (address at) (listed g ys) ++ put_made eq k (hi g r) blank (drop (next at) (listed g ys))) subject_is.1 ∙ ap (λ k. take (address at) (listed g ys) ++ put_made eq l k blank (drop (next at) (listed g ys))) subject_is.2)) done

    -- on to the connected item before
    pub settled_back : (prev : ℕ) → listed g zs ≡ take (address at) (listed g ys) ++ drop (next at) (listed g ys) → prev + 1 ≡ address at → address at < length ys.items → ConnectedAt g r ys.items prev → Stands g eq l h m r old zs prev
    settled_back prev edit step lt connected =
        let turn = turn_at (hi g r) (omega (arith, subject_part.0, subject_is.2)) in
        let x = get_or ys.items prev item in
        let within : prev < length ys.items = omega arith in
        let read = read_at g ys.items prev item within in
        let near = connected x read in
        let back = walk_back (span_at g x) prev turn t.tight step (simp length-map within) (span_at_lem g ys.items prev x within read) (listed g zs) edit near.left (omega (arith, near.right, subject_is.1)) in
        let start : hi g r ≤ lo g item.key = omega (arith, subject_is.2) in
        record {
          full = subject_is.0;
          low = subject_is.1;
          high = omega (arith, subject_is.2, t.low, t.right);
          at = (span_at g x, back.0, subst (From (hi g r)) (sym back.1) start);
        }

  -- the key and the item start together
  pub settled_level : part ≡ None → address at < length ys.items → (address at ≡ 0 → listed g zs ≡ take (address at) (listed g ys) ++ drop (next at) (listed g ys)) → ((x : Item K V) → 0 < address at → x ≡ get_or ys.items (address at - 1) x → listed g zs ≡ take (address at - 1) (listed g ys) ++ put eq (span_at g x) (drop (next at) (listed g ys))) → Changed eq l h m old (listed g zs)
  settled_level none lt first later = ⊎_elim some first_of (cases_lt 0 (address at))
    where
      level : lo g key ≡ lo g item.key
      level = part_is None none

      turn : Turn eq l h m l (span_at g item) old (listed g ys) (address at) (next at)
      turn = turn_at l (omega (arith, level, t.left))

      first_of : address at ≤ 0 → Changed eq l h m old (listed g zs)
      first_of none_before =
          let zero : address at ≡ 0 = omega arith in
          subst (Changed eq l h m old) (sym (first zero)) (update_first laws l h ordered t.tight turn (omega (arith, level, t.left)) zero)

      some : (0 < address at → Changed eq l h m old (listed g zs))
      some pos =
          let x = get_or ys.items (address at - 1) item in
          let within : address at - 1 < length ys.items = omega arith in
          let read = read_at g ys.items (address at - 1) item within in
          subst (Changed eq l h m old) (sym (later x pos read)) (update_level laws l h ordered t.tight turn (omega (arith, level, t.left)) (span_at g x) (address at - 1) (omega arith) (simp length-map within) (span_at_lem g ys.items (address at - 1) x within read))

-- What is left once the item at an index is gone, unless it is kept.
module _ {K V : Type 0} (g : Ghosts K) (eq : V → V → Bool) (xs zs : Contents K V) (at : Spot) (prev : ℕ) (edit : listed g zs ≡ take (address at) (listed g xs) ++ drop (next at) (listed g xs)) (step : prev + 1 ≡ address at) (lt : address at < length xs.items) where
  long : length (take (address at) (listed g xs)) ≡ address at
  long = length-take-le (address at) (listed g xs) (simp length-map (omega arith))

  pub left_tail : drop (prev + 1) (listed g zs) ≡ drop (next at) (listed g xs)
  left_tail = ap (λ k. drop k (listed g zs)) step ∙ ap (drop (address at)) edit ∙ drop_at (take (address at) (listed g xs)) (drop (next at) (listed g xs)) (address at) long

  left_front : take prev (listed g zs) ≡ take (address at - 1) (listed g xs)
  left_front =
      let same : prev ≡ address at - 1 = omega arith in
      ap (take prev) edit ∙ take-append-le prev (take (address at) (listed g xs)) (drop (next at) (listed g xs)) (omega (arith, long)) ∙ take-take prev (address at) (listed g xs) (omega arith) ∙ ap (λ k. take k (listed g xs)) same

  -- the item before, put anew
  pub left_put : (ws : Contents K V) (item x : Item K V) → item ≡ get_or xs.items prev item → x ≡ get_or xs.items (address at - 1) x → listed g ws ≡ put_at eq (listed g zs) prev (prev + 1) (span_at g item) → listed g ws ≡ take (address at - 1) (listed g xs) ++ put eq (span_at g x) (drop (next at) (listed g xs))
  left_put ws item x read again put-anew =
      let same : address at - 1 ≡ prev = omega arith in
      let is : item ≡ x = read ∙ get_or_default xs.items prev item x (omega arith) ∙ ap (λ k. get_or xs.items k x) (sym same) ∙ sym again in
      put-anew ∙ ap (λ ys. ys ++ put eq (span_at g item) (drop (prev + 1) (listed g zs))) left_front ∙ ap (λ ys. take (address at - 1) (listed g xs) ++ put eq (span_at g item) ys) left_tail ∙ ap (λ y. take (address at - 1) (listed g xs) ++ put eq (span_at g y) (drop (next at) (listed g xs))) is
