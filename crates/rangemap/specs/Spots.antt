-- Where a walk stands in a list, and what a step there makes of the list.
use Rattle.std.specs.Prelude.{◌≡◌, ℕ, ◌+◌, ◌<◌, Bool, List, length, take, drop}
use Rattle.ledger.specs.Spans.{Span}
use Rattle.lawful.specs.declared.key.Key.{Ghosts}
use Rattle.rangemap.specs.declared.spot.Spot.{Spot}
use Rattle.rangemap.specs.declared.spot.Spot.TheVariants.{Kept, Spent}
use Rattle.rangemap.specs.Contents.{Contents, Grows}
use Rattle.rangemap.specs.Items.{listed}
use Rattle.rangemap.specs.Spans.{put_at}

-- the index of the item
abbrev pub address : Spot → ℕ
address (Kept i) = i
address (Spent i) = i

-- where what follows begins: with the item, or right behind it if that is used up
abbrev pub next : Spot → ℕ
next (Kept i) = i
next (Spent i) = i + 1

-- how many items more there can be once one is put there
abbrev pub more : Spot → ℕ
more (Kept i) = 1
more (Spent i) = 0

-- The list with s put at the spot, before what follows.
abbrev pub put_there : {V : Type 0} → (V → V → Bool) → List (Span V) → Spot → Span V → List (Span V)
put_there eq ss at s = put_at eq ss (address at) (next at) s

-- A step from one spot to another at the same address: what stands before stays, what follows is zs now, and there are at most n items more.
pub record Steps {K V : Type 0} (g : Ghosts K) (n : ℕ) (at : Spot) (old : Contents K V) (to : Spot) (new : Contents K V) (zs : List (Span V)) : Type 0 where
  pub same : address to ≡ address at
  pub within : address to < length new.items
  pub front : take (address at) (listed g new) ≡ take (address at) (listed g old)
  pub tail : drop (next to) (listed g new) ≡ zs
  pub grows : Grows n old new
