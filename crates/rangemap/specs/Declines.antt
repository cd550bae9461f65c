-- The number of each decline, and what a change answered to the ledger. Assumes nothing.
use Rattle.std.specs.Prelude.{ℕ, Ok, Err, Result}
use Rattle.ledger.specs.Ledger.{Answer, ranges, declined}
use Rattle.ranges.specs.declared.range.any.AnyRange.{AnyRange}
use Rattle.rangemap.specs.declared.decline.Decline.{Decline}
use Rattle.rangemap.specs.declared.decline.Decline.TheVariants.{EmptyRange, Connected, Full}
use Rattle.rangemap.specs.declared.decline.MakeDecline.{MakeDecline}
use Rattle.rangemap.specs.declared.decline.MakeDecline.TheVariants.{SlotLimit}

abbrev pub number : Decline → ℕ
number EmptyRange = 9
number Connected = 10
number Full = 11

abbrev pub make_number : MakeDecline → ℕ
make_number SlotLimit = 1

-- what a change answered
abbrev pub answer : {V : Type 0} → Result ℕ Decline → Answer V
answer (Ok n) = ranges n
answer (Err why) = declined (number why)

-- what insert_disconnected answered, with the range and the value handed back
abbrev pub answer_or : {K V : Type 0} → Result ℕ (Decline × (AnyRange K × V)) → Answer V
answer_or (Ok n) = ranges n
answer_or (Err e) = declined (number e.0)
