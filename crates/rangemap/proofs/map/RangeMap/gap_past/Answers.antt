use Rattle.std.proofs.Common.{◌≡◌, ℕ, ◌+◌, ◌<◌, ◌≤◌, ◌⊎◌, get_or, sym, ◌∙◌, subst, inl, inr, arith, length, drop, ◌-◌, length-drop, get_or-drop, get_or-take, ap}
use Rattle.std.proofs.lemmas.Bool.{leb-true, leb-false}
use Rattle.ranges.specs.Places.{low, high}
use Rattle.rangemap.proofs.Gapping.{LooksOn, looks_first, looks_found, looks_more, looks_last, looks_none}
use Rattle.rangemap.proofs.map.RangeMap.gap_past.Goals as goal
use Rattle.rangemap.proofs.map.RangeMap.gap_past.Goals.{After-end_before-end}
use Rattle.rangemap.proofs.map.RangeMap.gap_past.Goals.{else-not-is_empty-via-then-not-is_empty+else-place-end_place, else-not-is_empty-via-else-not-is_empty}
use Rattle.rangemap.proofs.map.RangeMap.gap_past.Goals.{else-not-is_empty-2-via-then-not-is_empty-2+else-place-COUNT, else-not-is_empty-2-via-else-not-is_empty-2}

pub loop-item-init : goal.loop-item-init
loop-item-init g c =
    let m = c.args.self.now in
    let zero : c.first_past-first.result ≡ c.first_past-first.result + 0 = omega arith in
    subst (λ i. LooksOn g.K.Key m.store c.args.place (low g.K.Key c.start_at-start.result) i) zero
    (looks_first g.K.Key m.store c.args.place c.first_past-first.result (low g.K.Key c.start_at-start.result) c.first_past-first.ensures.splits c.start_at-start.ensures)

-- the item stands in the list at the index
index : (g : _) (c : After-end_before-end g) → c.first_past-first.result + c.loop-item.item-index < length c.args.self.now.store.items.items
index g c = omega (arith, ap length c.as_slice.ensures, c.loop-item-test.true, length-drop c.first_past-first.result c.as_slice.result.now)

read : (g : _) (c : After-end_before-end g) → c.item-item.result ≡ get_or c.args.self.now.store.items.items (c.first_past-first.result + c.loop-item.item-index) c.item-item.result
read g c =
    let x = c.item-item.result in
    let i : ℕ = c.first_past-first.result + c.loop-item.item-index in
    let within : c.loop-item.item-index < length c.as_slice.result.now - c.first_past-first.result = omega (arith, ap length c.as_slice.ensures, index g c) in
    subst (λ xs. x ≡ get_or xs i x) c.as_slice.ensures (c.item-item.is ∙ get_or-take (length c.as_slice.result.now - c.first_past-first.result) (drop c.first_past-first.result c.as_slice.result.now) c.loop-item.item-index x within ∙ get_or-drop c.first_past-first.result c.as_slice.result.now c.loop-item.item-index x)

pub returns-then-place-end_place : goal.returns-then-place-end_place
returns-then-place-end_place g c =
    let m = c.args.self.now.store in
    let at = (goal.at.returns-then-place-end_place g c).After-end_before-end in
    let a = low g.K.Key c.loop-item.start in
    let b = high g.K.Key c.end_before-end.result in
    let l : a < b = leb-false b a (sym c.if-not-is_empty.ensures) in
    looks_found g.K.Key m c.args.place a _ c.loop-item.invariant c.item-item.result (index g at) (read g at)
    b c.end_before-end.ensures l (omega (arith, c.if-place-end_place.true, c.end_place.ensures))

pub loop-item-preserved : goal.loop-item-preserved
loop-item-preserved g c =
    let m = c.args.self.now.store in
    let at = (goal.at.loop-item-preserved g c).After-end_before-end in
    let x = c.item-item.result in
    let a = low g.K.Key c.loop-item.start in
    let b = high g.K.Key c.end_before-end.result in
    let e : b ≡ low g.K.Key x.key.start = c.end_before-end.ensures in
    let o : (low g.K.Key x.key.start ≤ a) ⊎ (low g.K.Key x.key.start ≤ c.args.place) =
    elim c.else-not-is_empty.branch [
      | else-not-is_empty-via-then-not-is_empty+else-place-end_place w ↦ inr (omega (arith, e, w.if-place-end_place.false, w.end_place.ensures))
      | else-not-is_empty-via-else-not-is_empty w ↦ let l : b ≤ a = leb-true b a (sym w.if-not-is_empty.ensures) in inl (omega (arith, e, l))
    ] in
    let next : c.first_past-first.result + c.loop-item.item-index + 1 ≡ c.first_past-first.result + (c.loop-item.item-index + 1) = omega arith in
    subst (λ i. LooksOn g.K.Key m c.args.place (low g.K.Key c.start_behind-start.result) i) next
    (looks_more g.K.Key m c.args.place a _ c.loop-item.invariant x (index g at) (read g at)
    (low g.K.Key c.start_behind-start.result) c.start_behind-start.ensures o)

pub returns-then-place-COUNT : goal.returns-then-place-COUNT
returns-then-place-COUNT g c =
    let a = low g.K.Key c.loop-item.start in
    let l : a < g.K.Key.COUNT = leb-false g.K.Key.COUNT a (sym c.if-not-is_empty-2.ensures) in
    looks_last g.K.Key c.args.self.now.store c.args.place a _ c.loop-item.invariant (omega (arith, ap length c.as_slice.ensures, c.loop-item-test.false, length-drop c.first_past-first.result c.as_slice.result.now))
    l (omega (arith, c.COUNT.ensures, c.if-place-COUNT.true))

pub returns-else-not-is_empty-2 : goal.returns-else-not-is_empty-2
returns-else-not-is_empty-2 g c =
    let a = low g.K.Key c.loop-item.start in
    let o : (g.K.Key.COUNT ≤ a) ⊎ (g.K.Key.COUNT ≤ c.args.place) =
    elim c.else-not-is_empty-2.branch [
      | else-not-is_empty-2-via-then-not-is_empty-2+else-place-COUNT w ↦ inr (omega (arith, w.COUNT.ensures, w.if-place-COUNT.false))
      | else-not-is_empty-2-via-else-not-is_empty-2 w ↦ inl (leb-true g.K.Key.COUNT a (sym w.if-not-is_empty-2.ensures))
    ] in
    looks_none g.K.Key c.args.self.now.store c.args.place a _ c.loop-item.invariant (omega (arith, ap length c.as_slice.ensures, c.loop-item-test.false, length-drop c.first_past-first.result c.as_slice.result.now)) o
