-- What a list of items in memory of its own holds.
use denote.RawPtr.{Ptr}
use Rattle.std.specs.Prelude.{◌≡◌, ℕ, ◌+◌, ◌≤◌, List, length}
use Rattle.rangemap.specs.declared.item.Item.{Item}

-- the items, how many there is memory for, and where that memory lies
pub record Contents (K V : Type 0) : Type 0 where
  pub items : List (Item K V)
  pub room : ℕ
  pub block : Ptr

-- n more items fit in
abbrev pub HasRoom : {K V : Type 0} → ℕ → Contents K V → Type 0
HasRoom n c = length c.items + n ≤ c.room

-- the room stays, and there are at most n items more
pub record Grows {K V : Type 0} (n : ℕ) (old new : Contents K V) : Type 0 where
  pub room : new.room ≡ old.room
  pub len : length new.items ≤ length old.items + n
