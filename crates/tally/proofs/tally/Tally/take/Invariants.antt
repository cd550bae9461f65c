use Rattle.std.proofs.Common.{ℕ, List, ◌++◌, take}
use Rattle.tally.specs.Input.{Tallied}
use Rattle.tally.proofs.tally.Tally.take.Given as goal

-- what has come so far is the bytes before this turn
abbrev pub invariant-loop-byte : goal.invariant-loop-byte
invariant-loop-byte l = (seen : List ℕ) → Tallied seen l.initial.self → Tallied (seen ++ take l.byte-index l.chunk) l.self
