use Rattle.std.proofs.Common.{take}
use Rattle.std.specs.List.{flat_map}
use Rattle.tally.specs.Input.{Tallied}
use Rattle.tally.proofs.tally.tally_of.Given as goal

abbrev pub invariant-loop-chunk : goal.invariant-loop-chunk
invariant-loop-chunk l = Tallied (flat_map (λ chunk. chunk.now) (take l.chunk-index l.chunks)) l.tally
