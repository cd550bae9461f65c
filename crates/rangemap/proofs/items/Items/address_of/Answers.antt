use Rattle.std.proofs.Common.{true, length, subst}
use Rattle.rangemap.specs.Items.{spans}
use Rattle.rangemap.specs.Ranges.{lo, hi}
use Rattle.rangemap.specs.Search.{Index, Rising, Searched}
use Rattle.rangemap.proofs.Finds.{searched}
use Rattle.rangemap.proofs.items.Items.address_of.Goals as goal

pub returns : goal.returns
returns g c =
    let keys = g.K.Key in
    let key = c.args.key.now.range in
    let r = c.address.result in
    let within = subst (λ xs. Index (length xs) r) c.as_slice.ensures c.address.ensures.within in
    record {
      within = within;
      found = λ tight.
          searched keys g.V.Value.equals key c.args.key.now.held c.args.self.now.items tight r within
          (subst (λ xs. Rising (spans keys xs) → Searched true (lo keys key) (hi keys key) (spans keys xs) r) c.as_slice.ensures c.address.ensures.found);
    }
