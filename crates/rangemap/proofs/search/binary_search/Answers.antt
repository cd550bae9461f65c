use Rattle.std.proofs.Common.{◌≡◌, ℕ, ◌+◌, ◌-◌, ◌/◌, ◌<◌, ◌≤◌, length, sym, ◌∙◌, subst, arith}
use Rattle.std.specs.List.{AllByRecursion}
use Rattle.std.proofs.lemmas.Bool.{eqb-true, eqb-false, leb-true, leb-false}
use Rattle.ranges.specs.Parts.{span as ends}
use Rattle.rangemap.specs.Items.{spans}
use Rattle.rangemap.specs.Ranges.{slack}
use Rattle.rangemap.specs.Search.{Bracket, Rising}
use Rattle.rangemap.proofs.Rising.{full_at, all_none, all_first, bracket_all, bracket_left, bracket_right}
use Rattle.rangemap.proofs.search.binary_search.Goals as goal
use Rattle.rangemap.proofs.search.binary_search.Goals.{then-is_empty-via-then-is_empty, then-is_empty-via-else-is_empty+then-is_before}

pub returns-then-is_empty : goal.returns-then-is_empty
returns-then-is_empty g c =
    let b : ℕ = (ends g.K.Key c.args.key.now.range).high + slack c.args.connected in
    let xs = c.args.items.now in
    let f : Rising (spans g.K.Key xs) → AllByRecursion (λ x. b ≤ x.low) (spans g.K.Key xs) = elim c.then-is_empty.branch [
      | then-is_empty-via-then-is_empty w ↦ all_none g.K.Key b xs (eqb-true _ 0 (sym c.is_empty.ensures ∙ w.if-is_empty.true))
      | then-is_empty-via-else-is_empty+then-is_before w ↦
          let l : 0 < length xs = omega (arith, eqb-false (length xs) 0 (sym w.if-is_empty.ensures)) in
          λ r. all_first g.K.Key b xs w.index-items-0.result l
          (leb-true b _ (sym (w.if-is_before.ensures c.args.key.now.held (full_at g.K.Key xs 0 w.index-items-0.result l r)))) r
    ] in
    record { within = tt; found = f }

pub loop-j-init : goal.loop-j-init
loop-j-init g c =
    let b : ℕ = (ends g.K.Key c.args.key.now.range).high + slack c.args.connected in
    let xs = c.args.items.now in
    let l : 0 < length xs = omega (arith, eqb-false (length xs) 0 (sym c.if-is_empty.ensures)) in (
      l,
      omega arith,
      λ r. bracket_all g.K.Key b xs c.index-items-0.result l
          (leb-false b _ (sym (c.if-is_before.ensures c.args.key.now.held (full_at g.K.Key xs 0 c.index-items-0.result l r)))),
    )

pub loop-j-preserved-then-is_before-2 : goal.loop-j-preserved-then-is_before-2
loop-j-preserved-then-is_before-2 g c =
    let b : ℕ = (ends g.K.Key c.args.key.now.range).high + slack c.args.connected in
    let xs = c.args.items.now in
    let i : ℕ = c.loop-j.i in
    let k : ℕ = i + (c.loop-j.j - i) / 2 in
    let l : k < length xs = omega arith in (
      omega arith,
      omega arith,
      λ r. bracket_left g.K.Key b xs i c.loop-j.j k c.index-items-k.result l
          (leb-true b _ (sym (c.if-is_before-2.ensures c.args.key.now.held (full_at g.K.Key xs k c.index-items-k.result l r)))) (c.loop-j.invariant.2 r),
    )

pub loop-j-preserved : goal.loop-j-preserved
loop-j-preserved g c =
    let b : ℕ = (ends g.K.Key c.args.key.now.range).high + slack c.args.connected in
    let xs = c.args.items.now in
    let i : ℕ = c.loop-j.i in
    let k : ℕ = i + (c.loop-j.j - i) / 2 in
    let l : k < length xs = omega arith in (
      omega arith,
      omega arith,
      λ r. bracket_right g.K.Key b xs i c.loop-j.j k c.index-items-k.result l
          (leb-false b _ (sym (c.if-is_before-2.ensures c.args.key.now.held (full_at g.K.Key xs k c.index-items-k.result l r)))) (c.loop-j.invariant.2 r),
    )

pub returns : goal.returns
returns g c =
    let b : ℕ = (ends g.K.Key c.args.key.now.range).high + slack c.args.connected in
    let xs = spans g.K.Key c.args.items.now in
    let e : c.loop-j.j ≡ c.loop-j.i + 1 = omega arith in
    record { within = omega arith; found = λ r. subst (λ j. Bracket b xs c.loop-j.i j) e (c.loop-j.invariant.2 r) }
