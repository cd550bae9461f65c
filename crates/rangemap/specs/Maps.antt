-- A map by its spans, and what a call on it does. Assumes nothing.
use Rattle.std.specs.Prelude.{◌≡◌, ℕ, ◌<◌, ◌≤◌, Bool, List, Ok, Err, length, Result}
use Rattle.std.specs.List.{insert}
use Rattle.lawful.specs.declared.key.Key.{Ghosts}
use Rattle.ranges.specs.declared.range.any.AnyRange.{AnyRange}
use Rattle.ledger.specs.Ledger.{Call, Answer}
use Rattle.ledger.specs.Spans.{Span, Rises}
use Rattle.ledger.specs.Promise.{Link}
use Rattle.rangemap.specs.declared.decline.Decline.{Decline}
use Rattle.rangemap.specs.declared.decline.Decline.TheVariants.{EmptyRange, Connected, Full}
use Rattle.rangemap.specs.declared.store.Store.{Store}
use Rattle.rangemap.specs.Items.{spans}

-- the stored ranges with their values
abbrev pub stored : {K V : Type 0} → Ghosts K → Store K V → List (Span V)
stored g m = spans g m.items.items

-- The call c, answered by a, took the map m to n: what the ledger does, if the list was canonical.
pub record Does {K V : Type 0} (g : Ghosts K) (eq : V → V → Bool) (m : Store K V) (c : Call V) (a : Answer V) (n : Store K V) : Type 0 where
  pub slots : n.slots ≡ m.slots
  pub link : Link eq g.COUNT m.slots (stored g m) (record { call = c; answer = a }) (stored g n)

-- Declined, a change leaves the items as they were.
abbrev pub Keeps : {K V : Type 0} → Store K V → Result ℕ Decline → Store K V → Type 0
Keeps m (Ok k) n = Unit {0}
Keeps m (Err why) n = n.items.items ≡ m.items.items

-- The item is stored as given; declined, the range and the value come back, and the map is as it was.
abbrev pub Placed : {K V : Type 0} → Store K V → AnyRange K → V → Result ℕ (Decline × (AnyRange K × V)) → Store K V → Type 0
Placed m key value (Ok k) n = (i : ℕ) × (n.items.items ≡ insert m.items.items i (record { key = key; value = value }))
Placed m key value (Err e) n = (e.1 ≡ (key, value)) × (n ≡ m)

-- The work list is taken for the items, or is longer than the slots.
abbrev pub Took : {K V : Type 0} → Store K V → Result ℕ Decline → Store K V → Type 0
Took m (Ok k) n = (n.items.items ≡ m.work.items) × (k ≡ length m.work.items) × (length m.work.items ≤ m.slots)
Took m (Err Full) n = (n.items.items ≡ m.items.items) × (m.slots < length m.work.items)
Took m (Err EmptyRange) n = ⊥
Took m (Err Connected) n = ⊥

-- The work list has what the items have, and the items stay.
pub record Copied {K V : Type 0} (m n : Store K V) : Type 0 where
  pub slots : n.slots ≡ m.slots
  pub items : n.items.items ≡ m.items.items
  pub work : n.work.items ≡ m.items.items

pub record Settled {K V : Type 0} (m : Store K V) (r : Result ℕ Decline) (n : Store K V) : Type 0 where
  pub slots : n.slots ≡ m.slots
  pub took : Took m r n

-- the stored ranges rise
abbrev pub RisesIn : {K V : Type 0} → Ghosts K → Store K V → Type 0
RisesIn g m = Rises 0 g.COUNT (stored g m)

-- the list rises, and a walker's places add up to those of the keys
abbrev pub Ready : {K V : Type 0} → Ghosts K → Store K V → ℕ → Type 0
Ready g m n = (n ≡ g.COUNT) × RisesIn g m
