use Rattle.std.proofs.Common.{◌≡◌, ◌<◌, ◌≤◌, length}
use Rattle.rangemap.specs.Cuts.{Walked}
use Rattle.ranges.specs.Parts.{span as ends}
use Rattle.rangemap.proofs.items.Items.cut_back.Given as goal

abbrev pub invariant-loop-addr : goal.invariant-loop-addr
invariant-loop-addr g l =
    (l.addr < length l.self.items) × (length l.self.items ≤ l.slots) × (l.self.room ≡ l.initial.self.room) ×
    Walked g.K.Key (ends g.K.Key l.key.range).low (ends g.K.Key l.key.range).high l.initial.self.items l.self.items l.from l.addr
