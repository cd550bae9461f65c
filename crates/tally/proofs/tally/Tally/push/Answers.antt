use Rattle.std.proofs.Common.{refl}
use Rattle.tally.specs.Input.{samples}
use Rattle.tally.proofs.Countings.{counted_more}
use Rattle.tally.proofs.Pushes.{tallied_part, tallied_whole}
use Rattle.tally.proofs.tally.Tally.push.Goals as goal

pub returns-in-Some : goal.returns-in-Some
returns-in-Some c =
    let h = c.in-Some.ensures in
    let add = c.add.ensures in
    λ seen t.
    tallied_whole seen _ _ _ t _ _ h.0 h.1 h.2 c.from-count.ensures
    (counted_more (samples seen) c.from-count.result _ _ t.counts add.number _ c.band_of.ensures.found add.gains add.others)

pub returns-in_default : goal.returns-in_default
returns-in_default c = λ seen t. tallied_part seen _ _ _ t c.in_default.ensures refl
