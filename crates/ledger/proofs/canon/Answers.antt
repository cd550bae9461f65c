use Rattle.std.proofs.Common.{arith}
use Rattle.ledger.proofs.Ends.{matched_canonical}
use Rattle.ledger.proofs.Gaps.{listed_rises}
use Rattle.ledger.proofs.Lists.{size_canonical, least_canonical}
use Rattle.ledger.proofs.canon.Goals as goal

pub returns : goal.returns
returns g c = λ count.
    let eq = g.V.Value.equals in
    let law = g.met.V.Value.lawful in
    record {
      sized = size_canonical eq law count;
      one = matched_canonical eq law count;
      least = least_canonical eq law count;
      parted = λ xs k p h. listed_rises eq law 0 count xs k.rises p (omega arith) h;
    }
