use Rattle.std.proofs.Common.{◌≡◌, ℕ, ◌∷◌, ◌∙◌, sym, refl, subst, arith}
use Rattle.ledger.specs.Spans.{gaps}
use Rattle.rangemap.specs.Maps.{stored}
use Rattle.rangemap.specs.Walks.{gap_end, gap_of, past}
use Rattle.rangemap.proofs.Gapping.{gaps_next, gaps_reach}
use Rattle.rangemap.proofs.map.walkers.Gaps.next.Goals as goal

pub returns-in_err-move_to : goal.returns-in_err-move_to
returns-in_err-move_to g c =
    let m = c.args.map.now in
    let stays = c.in_err-move_to.ensures in
    rw (stays.0, c.from_residual-in_err-move_to.ensures)
    (record { place = refl; left = refl; none = λ ready. let r = gaps_reach g.K.Key m.store ready.1 c.args.self.now.at.place c.in_ok-gap.gap (c.in_ok-gap.ensures ready.1) in absurd (stays.1 (omega (arith, r.0, c.end_place.ensures)) (omega (arith, r.1, ready.0, c.end_place.ensures))) })

pub returns : goal.returns
returns g c =
    let m = c.args.map.now in
    let p : ℕ = c.args.self.now.at.place in
    let all = gaps g.K.Key.COUNT (stored g.K.Key m.store) in
    let step = c.in_ok-move_to.ensures in
    let moves = step.0 ∙ c.end_place.ensures in
    record {
      falls = step.1;
      total = omega (arith, step.0, step.2);
      moves = moves;
      next = λ ready. subst (λ q. past gap_end p all ≡ gap_of g.K.Key c.in_ok-gap.gap ∷ past gap_end q all) (sym moves) (gaps_next g.K.Key m.store ready.1 p c.in_ok-gap.gap (c.in_ok-gap.ensures ready.1));
    }
