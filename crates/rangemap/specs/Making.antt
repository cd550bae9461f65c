-- What making a map does. Assumes nothing.
use Rattle.std.specs.Prelude.{◌≡◌, ◌<◌, ◌≤◌, [], Ok, Err, Result}
use Rattle.lawful.specs.declared.key.Key.{Ghosts}
use Rattle.rangemap.specs.declared.decline.MakeDecline.{MakeDecline}
use Rattle.rangemap.specs.declared.decline.MakeDecline.TheVariants.{SlotLimit}
use Rattle.rangemap.specs.declared.store.Store.{Store}
use Rattle.rangemap.specs.declared.slots.Slots.{Slots}
use Rattle.rangemap.specs.Maps.{stored}

-- The map m became n, which is empty and has the slots given, at most 4,096; the slots that m had come back. Declined,
-- there were more, they come back as they are, and the map is as it was.
abbrev pub Made : {K V : Type 0} → Ghosts K → Store K V → Slots K V → Result (Slots K V) (MakeDecline × Slots K V) → Store K V → Type 0
Made g m s (Ok old) n = (s.store.slots ≤ 4096) × (stored g n ≡ []) × (n.slots ≡ s.store.slots) × (old.store.slots ≡ m.slots)
Made g m s (Err e) n = (4096 < s.store.slots) × (e.0 ≡ SlotLimit) × (e.1 ≡ s) × (n ≡ m)
