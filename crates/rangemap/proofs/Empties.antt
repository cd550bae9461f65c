-- Nothing is stored where there are no items. Assumes nothing.
use Rattle.std.proofs.Common.{◌≡◌, [], List, length, ap}
use Rattle.std.proofs.lemmas.List.{nil_from_length}
use Rattle.lawful.specs.declared.key.Key.{Ghosts}
use Rattle.rangemap.specs.declared.item.Item.{Item}
use Rattle.rangemap.specs.Items.{spans}

pub none_stored : {K V : Type 0} (g : Ghosts K) (xs : List (Item K V)) → length xs ≡ 0 → spans g xs ≡ []
none_stored g xs e = ap (spans g) (nil_from_length xs e)
