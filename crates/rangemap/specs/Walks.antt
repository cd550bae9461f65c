-- Walkers: what is left of a list past a place, and one step.
use Rattle.std.specs.Prelude.{◌≡◌, ℕ, ◌+◌, ◌<◌, cond, List, [], ◌∷◌, Some, None, Option, nat_lt}
use Rattle.ledger.specs.Spans.{Span, Gap}
use Rattle.rangemap.specs.declared.item.Item.{Item}
use Rattle.ranges.specs.Parts.{span as ends}
use Rattle.lawful.specs.declared.key.Key.{Ghosts}
use Rattle.ranges.specs.declared.range.any.AnyRange.{AnyRange}

abbrev pub end : {K V : Type 0} → Ghosts K → Item K V → ℕ
end keys x = (ends keys x.key).high

abbrev pub gap_of : {K : Type 0} → Ghosts K → AnyRange K → Gap
gap_of keys r = record { low = (ends keys r).low; high = (ends keys r).high; value = tt }

abbrev pub gap_end : Gap → ℕ
gap_end x = x.high

-- where the last span ends, or `from` if there is none
abbrev pub end_of : {V : Type 0} → ℕ → List (Span V) → ℕ
end_of from [] = from
end_of from (x ∷ xs) = end_of x.high xs

-- what comes first
abbrev pub First : {X : Type 0} → List X → Option X → Type 0
First xs None = xs ≡ []
First {X} xs (Some x) = (ys : List X) × (xs ≡ x ∷ ys)

-- the first that ends past the place, and those behind it
abbrev pub past : {X : Type 0} → (X → ℕ) → ℕ → List X → List X
past high p [] = []
past high p (x ∷ xs) = cond (nat_lt p (high x)) (x ∷ xs) (past high p xs)

-- A step of a walker from the place p, with l places left, to q, with k left; `total` is p + l, and the fact holds where it is the number of places
pub record Moved {X : Type 0} (high : X → ℕ) (Ready : ℕ → Type 0) (xs : List X) (p l : ℕ) (x : X) (q k : ℕ) : Type 0 where
  pub falls : k < l
  pub total : q + k ≡ p + l
  pub moves : q ≡ high x
  pub next : Ready (p + l) → past high p xs ≡ x ∷ past high q xs

pub record Stays {X : Type 0} (high : X → ℕ) (Ready : ℕ → Type 0) (xs : List X) (p l q k : ℕ) : Type 0 where
  pub place : q ≡ p
  pub left : k ≡ l
  pub none : Ready (p + l) → past high p xs ≡ []

abbrev pub Walks : {X : Type 0} → (X → ℕ) → (ℕ → Type 0) → List X → ℕ → ℕ → Option X → ℕ → ℕ → Type 0
Walks high Ready xs p l None q k = Stays high Ready xs p l q k
Walks high Ready xs p l (Some x) q k = Moved high Ready xs p l x q k
