use Rattle.std.proofs.Common.{◌≡◌, ◌<◌, true, false, length, get_or, sym, ap, ◌∙◌, subst, arith, rules}
use Rattle.std.proofs.lemmas.Bool.{both_ways}
use Rattle.ranges.specs.Ranges.{connects}
use Rattle.ranges.specs.Parts.{span as ends}
use Rattle.rangemap.specs.Items.{listed}
use Rattle.rangemap.specs.Spots.{next}
use Rattle.rangemap.proofs.Listed.{next_stays, next_joins}
use Rattle.rangemap.proofs.items.Items.join_next.Goals as goal
use Rattle.rangemap.proofs.items.Items.join_next.Goals.{then-not-connected_to-via-then-not-connected_to, then-not-connected_to-via-else-not-connected_to+then-not-equals}

pub returns-then-not-connected_to-clause-spans : goal.returns-then-not-connected_to-clause-spans
returns-then-not-connected_to-clause-spans g c =
    let xs = c.args.self.now.items in
    let x = c.get_at-next.result in
    let lt : next c.args.at < length xs = omega (arith, c.in-Some.ensures.1) in
    let read = subst (λ k. x ≡ get_or xs k x) c.in-Some.ensures.0 c.get_at-next.ensures in
    let apart : connects (ends g.K.Key c.args.item.key) (ends g.K.Key x.key) ≡ true → g.V.Value.equals x.value c.args.item.value ≡ false = λ close. elim c.then-not-connected_to.branch [
      | then-not-connected_to-via-then-not-connected_to w ↦ absurd (both_ways _ w.if-not-connected_to.true (c.connected_to.ensures ∙ close))
      | then-not-connected_to-via-else-not-connected_to+then-not-equals w ↦ search rules
    ] in
    next_stays g.K.Key g.met.V.Value.lawful xs (next c.args.at) x c.args.item.key c.args.item.value lt read apart

pub returns-clause-spans : goal.returns-clause-spans
returns-clause-spans g c =
    let xs = c.args.self.now.items in
    let x = c.get_at-next.result in
    let lt : c.in-Some.next_addr < length xs = omega (arith, c.in-Some.ensures.0, c.in-Some.ensures.1) in
    let close = sym c.connected_to.ensures ∙ c.if-not-connected_to.false in
    rw (sym c.in-Some.ensures.0) (next_joins g.K.Key g.met.V.Value.lawful xs c.in-Some.next_addr x c.args.item.key c.args.item.value lt c.get_at-next.ensures c.add.new.self close (search rules) c.add.ensures ∙ sym (ap (listed g.K.Key) c.set_at.ensures))
