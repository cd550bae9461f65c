use Rattle.std.proofs.Common.{◌∙◌, arith}
use Rattle.rangemap.proofs.Gapping.{end_take}
use Rattle.rangemap.proofs.map.RangeMap.start_at.Goals as goal

pub returns-else-i-eq0 : goal.returns-else-i-eq0
returns-else-i-eq0 g c = c.start_behind.ensures ∙ end_take g.K.Key c.args.self.now.store c.args.i c.get_at.result (omega arith) c.requires c.get_at.ensures
