use Rattle.std.proofs.Common.{ℕ, subst, ap, length}
use Rattle.ranges.specs.Parts.{span as ends}
use Rattle.rangemap.specs.Items.{spans}
use Rattle.rangemap.specs.Search.{Index, Rising, Searched}
use Rattle.rangemap.proofs.map.RangeMap.address_of.Goals as goal

pub returns : goal.returns
returns g c =
    let key = ends g.K.Key c.args.key.now.range in
    record {
      within = subst (λ (n : ℕ). Index n c.address.result) (ap length c.as_slice.ensures) c.address.ensures.within;
      found =
          subst (λ xs. Rising (spans g.K.Key xs) → Searched c.args.connected key.low key.high (spans g.K.Key xs) c.address.result)
          c.as_slice.ensures c.address.ensures.found;
    }
