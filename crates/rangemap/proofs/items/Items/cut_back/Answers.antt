use Rattle.std.proofs.Common.{refl, ◌∙◌, arith}
use Rattle.std.proofs.lemmas.Bool.{false≢true}
use Rattle.std.proofs.lemmas.Result.{err_from_is_err_and}
use Rattle.rangemap.specs.Items.{span_at}
use Rattle.rangemap.proofs.Walked.{Begun, walked_first, walked_on, walked_start, walked_done, walked_miss_read, walked_full}
use Rattle.ranges.specs.Parts.{span as ends}
use Rattle.rangemap.proofs.items.Items.cut_back.Goals as goal
use Rattle.rangemap.proofs.items.Items.cut_back.Goals.{Start}

begun : (g : _) (c : Start g) → Begun g.K.Key (ends g.K.Key c.args.key.now.range).low (ends g.K.Key c.args.key.now.range).high c.args.self.now.items c.args.from
begun g c = record { full = c.args.key.now.held; within = c.requires.within; found = c.requires.found }

pub loop-addr-init : goal.loop-addr-init
loop-addr-init g c = (c.requires.within, c.requires.few, refl, walked_first (begun g c))

pub get_at-requires : goal.get_at-requires
get_at-requires g c = c.loop-addr.invariant.0

pub cut_item-requires-clause-within : goal.cut_item-requires-clause-within
cut_item-requires-clause-within g c = c.loop-addr.invariant.0

pub loop-addr-preserved : goal.loop-addr-preserved
loop-addr-preserved g c =
    let e = c.cut_item.ensures in (
      omega (arith, e.long, c.loop-addr.invariant.0),
      e.few,
      e.room ∙ c.loop-addr.invariant.2,
      walked_on (begun g (goal.at.loop-addr-preserved g c).Start) c.loop-addr.invariant.3 (span_at g.K.Key c.get_at.result) c.cut_item.new.self.items (λ zero. omega arith) (rw c.in_default.is at c.in_ok-cut_item.ensures.turned),
    )

pub returns-in_err-cut_item-clause-taken : goal.returns-in_err-cut_item-clause-taken
returns-in_err-cut_item-clause-taken g c =
    let p = err_from_is_err_and c.from_residual.result c.from_residual.ensures.1 in
    let turned = c.in_err-cut_item.ensures.turned in
    let t = walked_full (begun g (goal.at.returns-in_err-cut_item-clause-taken g c).Start) c.loop-addr.invariant.3 (span_at g.K.Key c.get_at.result) c.args.slots turned.3 turned.2 in
    rw (p.1, p.2) (turned.0, λ r. (turned.1 ∙ (t r).0, (t r).1))

pub returns-then-not-matches-clause-taken : goal.returns-then-not-matches-clause-taken
returns-then-not-matches-clause-taken g c =
    walked_miss_read (begun g (goal.at.returns-then-not-matches-clause-taken g c).Start) c.loop-addr.invariant.3 (span_at g.K.Key c.get_at.result) c.get_at.result refl c.loop-addr.invariant.0 c.get_at.ensures
    (λ n j. false≢true ((c.if-not-matches.ensures n c.args.key.now.held).1 (record { starts = j.1; ends = j.0 })))

pub returns-in-Break-clause-taken : goal.returns-in-Break-clause-taken
returns-in-Break-clause-taken g c =
    let turned = rw c.in-Break.is at c.in_ok-cut_item.ensures.turned in
    walked_done (begun g (goal.at.returns-in-Break-clause-taken g c).Start) c.loop-addr.invariant.3 (span_at g.K.Key c.get_at.result) c.cut_item.new.self.items turned.0 turned.1

pub returns-in_default-clause-taken : goal.returns-in_default-clause-taken
returns-in_default-clause-taken g c =
    walked_start (begun g (goal.at.returns-in_default-clause-taken g c).Start) c.loop-addr.invariant.3 (span_at g.K.Key c.get_at.result) c.cut_item.new.self.items (omega arith) (rw c.in_default.is at c.in_ok-cut_item.ensures.turned)
