-- A turn of the walk, over the items as the code has them.
use Rattle.std.specs.Cmp.{IsEquivalence}
use Rattle.std.proofs.Common.{◌≡◌, ℕ, ◌+◌, ◌-◌, ◌<◌, ◌≤◌, min, max, Bool, true, false, List, [], ◌∷◌, ◌++◌, length, get_or, take, drop, set, Some, None, MatchBool, Option, sym, ap, ◌∙◌, refl, subst, ⊎_elim, rules, arith}
use Rattle.std.proofs.lemmas.List.{get_or_default, get_or-map, length-map, length-set, map-set, take-set, drop-set}
use Rattle.std.proofs.lemmas.Bool.{cases_lt, cases_Bool}
use Rattle.std.proofs.lemmas.Bool.Decides.{when_true, when_false}
use Rattle.rangemap.specs.declared.item.Item.{Item}
use Rattle.ranges.specs.declared.range.any.AnyRange.{AnyRange}
use Rattle.lawful.specs.declared.key.Key.{Ghosts}
use Rattle.rangemap.specs.Ranges.{lo, hi}
use Rattle.ranges.specs.declared.range.ProductArg.{ProductArg}
use Rattle.ranges.specs.declared.range.ProductArg.TheVariants.{Subject, Object}
use Rattle.ranges.specs.declared.range.Product.{Product}
use Rattle.rangemap.specs.Items.{ConnectedAt, Found, listed, span_at, span_of, spans, tail_after}
use Rattle.rangemap.specs.Ranges.{Connected, Full}
use Rattle.rangemap.proofs.Parts.{After, Before}
use Rattle.ledger.specs.Spans.{Span}
use Rattle.rangemap.specs.Spans.{span, joined, Tight, Ends, From, Rest, Changed, Walk, Turn}
use Rattle.rangemap.specs.Contents.{Contents, Grows}
use Rattle.rangemap.specs.Spots.{Steps, address, next, put_there}
use Rattle.rangemap.specs.declared.spot.Spot.{Spot}
use Rattle.ranges.specs.Parts.{span as ends, Multiplies}
use Rattle.rangemap.proofs.Bridges.{multiplied}
use Rattle.rangemap.specs.declared.spot.Spot.TheVariants.{Kept, Spent}
use Rattle.rangemap.proofs.Walks.{walk_start, walk_reads, walk_full, walk_whole, walk_cut, turn_from, walk_back, last_full, last_order, last_ends, turn_clear, turn_joined, turn_split}

module _ {K V : Type 0} (g : Ghosts K) where
  -- what stands at an index, by itself
  pub read_at : (xs : List (Item K V)) (i : ℕ) (d : Item K V) → i < length xs → get_or xs i d ≡ get_or xs i (get_or xs i d)
  read_at xs i d lt = get_or_default xs i d (get_or xs i d) lt

  pub span_at_lem : (xs : List (Item K V)) (i : ℕ) (x : Item K V) → i < length xs → x ≡ get_or xs i x → span_at g x ≡ get_or (spans g xs) i (span_at g x)
  span_at_lem xs i x lt read = ap (span_at g) read ∙ sym (get_or-map (span_at g) xs i x (span_at g x) lt)

  -- the list with another item at an index
  pub set_front : (xs : List (Item K V)) (i : ℕ) (x : Item K V) → take i (spans g (set xs i x)) ≡ take i (spans g xs)
  set_front xs i x = ap (take i) (map-set (span_at g) xs i x) ∙ take-set (spans g xs) i (span_at g x)

  pub set_tail : (xs : List (Item K V)) (i : ℕ) (x : Item K V) → i < length xs → drop i (spans g (set xs i x)) ≡ span_at g x ∷ drop (i + 1) (spans g xs)
  set_tail xs i x lt = ap (drop i) (map-set (span_at g) xs i x) ∙ drop-set (spans g xs) i (span_at g x) (simp length-map lt)

-- An item in the place of another: it stands, and what follows it stays.
pub kept_steps : {K V : Type 0} (g : Ghosts K) (xs ys : Contents K V) (addr : ℕ) (key : AnyRange K) (value : V) → addr < length xs.items → ys ≡ record xs { items = set xs.items addr (record { key = key; value = value }) } → Steps g 0 (Spent addr) xs (Kept addr) ys (span_of g key value ∷ drop (addr + 1) (listed g xs))
kept_steps g xs ys addr key value lt edit = rw edit (record {
  same = refl;
  within = search (rules, length-set);
  front = set_front g xs.items addr _;
  tail = set_tail g xs.items addr _ lt;
  grows = record { room = refl; len = search (rules, length-set) };
})

-- The item that is read at a walk's index.
pub same_here : {K V : Type 0} (g : Ghosts K) {eq : V → V → Bool} {l h : ℕ} {m : Option V → Option V} {b : ℕ} {old : List (Span V)} (xs : List (Item K V)) {addr : ℕ} {s : Span V} (item : Item K V) → Walk eq l h m b old (spans g xs) addr s → addr < length xs → item ≡ get_or xs addr item → s ≡ span_at g item
same_here g xs item w lt read = sym (span_at_lem g xs _ item lt read ∙ walk_reads w (span_at g item))

-- What the item has after the key stays, from the key's end on.
pub rest_object : {K V : Type 0} (g : Ghosts K) {eq : V → V → Bool} (laws : IsEquivalence eq) {l h : ℕ} {m : Option V → Option V} (key : AnyRange K) {old : List (Span V)} (xs : List (Item K V)) {addr : ℕ} (item : Item K V) (w : Walk eq l h m (hi g key) old (spans g xs) addr (span_at g item)) → l ≤ h → (r : AnyRange K) → After g key item.key (Some (Object r)) → Rest eq l h m (hi g key) (span_at g item ∷ w.back) (span_of g r item.value ∷ drop (addr + 1) (spans g xs))
rest_object g {eq} laws {l} {h} {m} key xs {addr} item w le r is =
    let start_is : hi g key ≡ lo g r = omega (arith, is.1.low, w.low) in
    let end_is : hi g item.key ≡ hi g r = sym is.1.high in
    subst (λ k. Rest eq l h m (hi g key) (span_at g item ∷ w.back) (span k (hi g r) item.value ∷ drop (addr + 1) (spans g xs))) start_is
    (subst (λ k. Rest eq l h m (hi g key) (span_at g item ∷ w.back) (span (hi g key) k item.value ∷ drop (addr + 1) (spans g xs))) end_is (walk_cut laws w le is.0))

-- some element of a list that has one
element : {X : Type 0} (xs : List X) (i : ℕ) → i < length xs → X
element [] i lt = absurd (omega arith)
element (x ∷ xs) i lt = x

-- The walk begins at the item that was found.
pub found_start : {K V : Type 0} (g : Ghosts K) {eq : V → V → Bool} (laws : IsEquivalence eq) (key : AnyRange K) (m : Option V → Option V) (xs : List (Item K V)) (addr : ℕ) → Full g key → Tight eq (spans g xs) → Found g key xs addr → (s : Span V) × (w : Walk eq (lo g key) (hi g key) m (hi g key) (spans g xs) (spans g xs) addr s) × From (hi g key) w.back
found_start g laws key m xs addr full canonical found =
    let d = element xs addr found.within in
    let x = get_or xs addr d in
    let read = read_at g xs addr d found.within in
    let connected = found.connected x read in
    let start = walk_start laws (lo g key) (hi g key) m (omega arith) (spans g xs) addr (span_at g x) canonical (simp length-map found.within) (span_at_lem g xs addr x found.within read) connected.left connected.right found.start in
    (span_at g x, start.0, start.1)

-- No item before is connected to the key, so all before ends before it.
pub turn_apart : {K V : Type 0} (g : Ghosts K) {eq : V → V → Bool} {l h : ℕ} {m : Option V → Option V} {b : ℕ} (key : AnyRange K) (full : Full g key) {old : List (Span V)} (ys : List (Item K V)) {addr j : ℕ} (item : Item K V) (canonical : Tight eq old) (t : Turn eq l h m b (span_at g item) old (spans g ys) addr j) → lo g item.key ≤ hi g key → addr < length ys → ((x : Item K V) → 0 < addr → x ≡ get_or ys (addr - 1) x → Connected g x.key key → ⊥) → Ends (λ e. e < lo g key) (take addr (spans g ys))
turn_apart g key full ys {addr} item canonical t low lt apart = ⊎_elim some none (cases_lt 0 addr)
  where
    none : addr ≤ 0 → Ends (λ e. e < lo g key) (take addr (spans g ys))
    none le = let zero : addr ≡ 0 = omega arith in subst (λ k. Ends (λ e. e < lo g key) (take k (spans g ys))) (sym zero) tt

    some : (0 < addr → Ends (λ e. e < lo g key) (take addr (spans g ys)))
    some pos =
        let x = get_or ys (addr - 1) item in
        let within : addr - 1 < length ys = omega arith in
        let step : addr - 1 + 1 ≡ addr = omega arith in
        let long : addr - 1 < length (spans g ys) = simp length-map within in
        let read = read_at g ys (addr - 1) item within in
        let span_read = span_at_lem g ys (addr - 1) x within read in
        let x_full : lo g x.key < hi g x.key = last_full (span_at g x) (addr - 1) t canonical step long span_read in
        let order : hi g x.key ≤ lo g item.key = last_order (span_at g x) (addr - 1) t canonical step long span_read in
        last_ends (span_at g x) (addr - 1) t canonical step long span_read (lo g key)
        (⊎_elim (λ before. before) (λ touch. absurd (apart x pos read (record { subject = x_full; object = full; left = omega arith; right = touch }))) (cases_lt (hi g x.key) (lo g key)))

-- `insert`: the walk over the items that were `old` and are `now` stands at addr.
pub record InsertWalk {K V : Type 0} (g : Ghosts K) (eq : V → V → Bool) (key : AnyRange K) (value : V) (old : Contents K V) (from : ℕ) (now : Contents K V) (addr : ℕ) : Type 0 where
  pub within : addr < length now.items
  pub grows : Grows 0 old now
  pub stands : Tight eq (listed g old) → Found g key old.items from → (s : Span V) × Walk eq (lo g key) (hi g key) (λ _. Some value) (hi g key) (listed g old) (listed g now) addr s

-- `insert`: the item has kept what it has after the key.
pub record Left {K V : Type 0} (g : Ghosts K) (eq : V → V → Bool) (key : AnyRange K) (value : V) (old : List (Span V)) (ys : Contents K V) (at : Spot) (item : Item K V) (part : Option (ProductArg K)) : Type 0 where
  pub full : Full g key
  pub tight : Tight eq old
  pub turn : Turn eq (lo g key) (hi g key) (λ _. Some value) (hi g key) (span_at g item) old (listed g ys) (address at) (next at)
  pub before : Before g key item.key part

module _ {K V : Type 0} (g : Ghosts K) {eq : V → V → Bool} (laws : IsEquivalence eq) (key : AnyRange K) (value : V) (item : Item K V) (xs : Contents K V) {old : List (Span V)} {addr : ℕ} (full : Full g key) (tight : Tight eq old) (stands : (s : Span V) × Walk eq (lo g key) (hi g key) (λ _. Some value) (hi g key) old (listed g xs) addr s) (lt : addr < length xs.items) (read : item ≡ get_or xs.items addr item) where
  here : Walk eq (lo g key) (hi g key) (λ _. Some value) (hi g key) old (listed g xs) addr (span_at g item)
  here = subst (Walk eq (lo g key) (hi g key) (λ _. Some value) (hi g key) old (listed g xs) addr) (same_here g xs.items item stands.1 lt read) stands.1

  here_full : Full g item.key
  here_full = walk_full here tight

  rest_kept : (part : Option (ProductArg K)) → After g key item.key part → Rest eq (lo g key) (hi g key) (λ _. Some value) (hi g key) (span_at g item ∷ here.back) (tail_after g eq item.value None part (drop (addr + 1) (listed g xs)))
  rest_kept None is = walk_whole laws here (omega arith)
  rest_kept (Some (Subject r)) is = walk_whole laws here (omega (arith, is.0))
  rest_kept (Some (Object r)) is = rest_object g laws key xs.items item here (omega arith) r is

  pub left_of : (product : Product K) → Multiplies g (ends g key) (ends g item.key) product → (ys : Contents K V) (at : Spot) → Steps g 0 (Spent addr) xs at ys (tail_after g eq item.value None product.after (drop (addr + 1) (listed g xs))) → Left g eq key value old ys at item product.before
  left_of product parts ys at steps =
      let is = multiplied g key item.key product parts in
      record {
        full = full;
        tight = tight;
        turn = subst (λ k. Turn eq (lo g key) (hi g key) (λ _. Some value) (hi g key) (span_at g item) old (listed g ys) k (next at)) (sym steps.same) (turn_from here (hi g key) (listed g ys) _ (next at) here.low steps.front steps.tail (rest_kept product.after (is.after full here_full)));
        before = is.before full here_full;
      }

module _ {K V : Type 0} (g : Ghosts K) {eq : V → V → Bool} (laws : IsEquivalence eq) {key : AnyRange K} {value : V} {old : List (Span V)} {ys : Contents K V} {at : Spot} {item : Item K V} {part : Option (ProductArg K)} (t : Left g eq key value old ys at item part) (zs : Contents K V) where
  -- on to the connected item before
  pub left_back : (prev : ℕ) → listed g zs ≡ take (address at) (listed g ys) ++ drop (next at) (listed g ys) → prev + 1 ≡ address at → address at < length ys.items → ConnectedAt g key ys.items prev → (s : Span V) × Walk eq (lo g key) (hi g key) (λ _. Some value) (hi g key) old (listed g zs) prev s
  left_back prev edit step lt connected =
      let x = get_or ys.items prev item in
      let within : prev < length ys.items = omega arith in
      let read = read_at g ys.items prev item within in
      let is = connected x read in
      (span_at g x, (walk_back (span_at g x) prev t.turn t.tight step (simp length-map within) (span_at_lem g ys.items prev x within read) (listed g zs) edit is.left is.right).0)

  -- nothing of the item, or of what stands before it, is left to keep
  pub left_clear : lo g key ≤ lo g item.key → address at < length ys.items → ((x : Item K V) → 0 < address at → x ≡ get_or ys.items (address at - 1) x → Connected g x.key key → ⊥) → listed g zs ≡ put_there eq (listed g ys) at (span_of g key value) → Changed eq (lo g key) (hi g key) (λ _. Some value) old (listed g zs)
  left_clear starts lt apart edit =
      subst (Changed eq (lo g key) (hi g key) (λ _. Some value) old) (sym edit)
      (turn_clear laws value t.full t.turn t.tight starts (turn_apart g key t.full ys.items item t.tight t.turn t.turn.low lt apart))

  -- the item keeps what it has before the key
  pub left_before : (before : AnyRange K) → part ≡ Some (Object before) → MatchBool (eq item.value value) (listed g zs ≡ put_there eq (listed g ys) at (joined (span_of g before item.value) (span_of g key value))) (listed g zs ≡ put_there eq (put_there eq (listed g ys) at (span_of g key value)) (Kept (address at)) (span_of g before item.value)) → Changed eq (lo g key) (hi g key) (λ _. Some value) old (listed g zs)
  left_before before some edit = ⊎_elim joins splits (cases_Bool (eq item.value value))
    where
      object : Before g key item.key (Some (Object before))
      object = subst (Before g key item.key) some t.before

      joins : eq item.value value ≡ true → Changed eq (lo g key) (hi g key) (λ _. Some value) old (listed g zs)
      joins same =
          let e = when_true _ _ same edit in
          let low : min (lo g key) (lo g before) ≡ lo g item.key = omega (arith, object.0, object.1.low) in
          let high : max (hi g key) (hi g before) ≡ hi g key = omega (arith, object.1.high) in
          subst (Changed eq (lo g key) (hi g key) (λ _. Some value) old) (sym (e ∙ ap (λ k. put_there eq (listed g ys) at (span k (max (hi g key) (hi g before)) value)) low ∙ ap (λ k. put_there eq (listed g ys) at (span (lo g item.key) k value)) high))
          (turn_joined laws value t.full t.turn t.tight object.0 same)

      splits : eq item.value value ≡ false → Changed eq (lo g key) (hi g key) (λ _. Some value) old (listed g zs)
      splits differ =
          let e = when_false _ _ differ edit in
          let high : hi g before ≡ lo g key = omega (arith, object.1.high, t.turn.high) in
          let whole = e ∙ ap (λ k. put_there eq (put_there eq (listed g ys) at (span_of g key value)) (Kept (address at)) (span k (hi g before) item.value)) object.1.low ∙ ap (λ k. put_there eq (put_there eq (listed g ys) at (span_of g key value)) (Kept (address at)) (span (lo g item.key) k item.value)) high in
          subst (Changed eq (lo g key) (hi g key) (λ _. Some value) old) (sym whole)
          (turn_split laws value t.full t.turn t.tight object.0)
