use Rattle.std.proofs.Common.{ap, ◌∙◌, arith}
use Rattle.rangemap.specs.Maps.{stored}
use Rattle.rangemap.specs.declared.store.Store.{Store}
use Rattle.rangemap.proofs.Empties.{none_stored}
use Rattle.rangemap.proofs.map.RangeMap.make.Goals as goal

pub returns-clause-made : goal.returns-clause-made
returns-clause-made g c =
    let after = c.replace-store.ensures.after in (
      omega arith,
      ap (stored g.K.Key) after ∙ none_stored g.K.Key c.args.slots.store.items.items c.args.slots.empty,
      ap (λ (m : Store _ _). m.slots) after,
      ap (λ (m : Store _ _). m.slots) c.replace-store.ensures.value,
    )
