-- A range taken out of another, and out of each span of a list.
use Rattle.std.specs.Prelude.{◌≡◌, ℕ, ◌+◌, ◌<◌, ◌≤◌, min, max, cond, List, [], ◌∷◌, ◌++◌, length, take, drop, Ok, Err, Result, nat_lt, slice_index_or}
use Rattle.ledger.specs.Spans.{Span}
use Rattle.std.specs.List.{HoldsAt}
use Rattle.rangemap.specs.Items.{spans}
use Rattle.rangemap.specs.Search.{Rising}
use Rattle.rangemap.specs.declared.item.Item.{Item}
use Rattle.ranges.specs.Ranges.{Span as Ends}
use Rattle.lawful.specs.declared.key.Key.{Ghosts}
use Rattle.rangemap.specs.declared.decline.Decline.{Decline}
use Rattle.rangemap.specs.declared.decline.Decline.TheVariants.{Full}
use Rattle.std.specs.declared.ops.ControlFlow.{ControlFlow}
use Rattle.std.specs.declared.ops.ControlFlow.TheVariants.{Continue, Break}

-- r is what a has before b, or there is nothing of it; so for what it has after b
pub record Left (a b r : Ends) : Type 0 where
  pub low : r.low ≡ a.low
  pub high : r.high ≡ min a.high b.low
  pub full : r.low < r.high

pub record Right (a b r : Ends) : Type 0 where
  pub low : r.low ≡ max a.low b.high
  pub high : r.high ≡ a.high
  pub full : r.low < r.high

abbrev pub NoLeft : Ends → Ends → Type 0
NoLeft a b = min a.high b.low ≤ a.low

abbrev pub NoRight : Ends → Ends → Type 0
NoRight a b = a.high ≤ max a.low b.high

-- a span in front of a list, if it holds a place
abbrev pub piece : {V : Type 0} → ℕ → ℕ → V → List (Span V) → List (Span V)
piece low high v xs = cond (nat_lt low high) (record { low = low; high = high; value = v } ∷ xs) xs

-- the list without the places from low to high
abbrev pub cut_span : {V : Type 0} → ℕ → ℕ → Span V → List (Span V) → List (Span V)
cut_span low high x xs = piece x.low (min x.high low) x.value (piece (max x.low high) x.high x.value xs)

abbrev pub cut : {V : Type 0} → ℕ → ℕ → List (Span V) → List (Span V)
cut low high [] = []
cut low high (x ∷ xs) = cut_span low high x (cut low high xs)

-- the list was `old`, and the spans from i on are cut
abbrev pub Cutting : {V : Type 0} → ℕ → ℕ → List (Span V) → List (Span V) → ℕ → Type 0
Cutting low high old xs i = xs ≡ take i old ++ cut low high (drop i old)

-- one turn of a removal: the item at addr gave way, and those before it may have to (Continue) or not (Break); or there is no slot for its two parts
pub record Gave {V : Type 0} (low high : ℕ) (xs : List (Span V)) (i : ℕ) (ys : List (Span V)) : Type 0 where
  pub is : (d : Span V) → ys ≡ take i xs ++ cut_span low high (slice_index_or xs i d) (drop (i + 1) xs)

abbrev pub Turned : {K V : Type 0} → Ghosts K → ℕ → ℕ → ℕ → List (Item K V) → ℕ → List (Item K V) → Result (ControlFlow (Unit {0}) (Unit {0})) Decline → Type 0
Turned keys low high slots xs i ys (Ok (Continue u)) = Gave low high (spans keys xs) i (spans keys ys)
Turned keys low high slots xs i ys (Ok (Break u)) = Gave low high (spans keys xs) i (spans keys ys) × HoldsAt (λ x. x.low < low) (spans keys xs) i
Turned keys low high slots xs i ys (Err why) = (why ≡ Full) × (ys ≡ xs) × (slots ≤ length xs) × HoldsAt (λ x. (x.low < low) × (high < x.high)) (spans keys xs) i

-- A walk back over the items that were `old` and are `xs`: it began at `from` and stands at `addr`, and what stands behind addr is cut
pub record Walked {K V : Type 0} (keys : Ghosts K) (low high : ℕ) (old xs : List (Item K V)) (from addr : ℕ) : Type 0 where
  pub back : addr ≤ from
  pub same : addr ≡ from → xs ≡ old
  pub cutting : Rising (spans keys old) → Cutting low high (spans keys old) (spans keys xs) (addr + 1)

-- of a list that rises: the walk took the places from low to high out of it; or there was no slot for the result, and it is as it was
abbrev pub Taken : {K V : Type 0} → Ghosts K → ℕ → ℕ → ℕ → List (Item K V) → List (Item K V) → Result (Unit {0}) Decline → Type 0
Taken keys low high slots old xs (Ok u) = Rising (spans keys old) → spans keys xs ≡ cut low high (spans keys old)
Taken keys low high slots old xs (Err why) = (why ≡ Full) × (Rising (spans keys old) → (xs ≡ old) × (slots < length (cut low high (spans keys old))))
