-- The plain ledger: the number of slots and, for each place, a value or none.
use Rattle.std.specs.Prelude.{◌≡◌, ℕ, suc, ◌<◌, ◌≤◌, Bool, true, false, cond, ◌&&◌, is_some, Some, None, Option, nat_le, nat_lt}
use Rattle.lawful.specs.Equals.{same}
use Rattle.ledger.specs.Values.{Held, size, any_below}

-- A call on the map. Two numbers low and high are a range: it holds the places p with low ≤ p < high
pub data Call (V : Type 0) : Type 0 where
  insert : ℕ → ℕ → V → Call V
  insert_disconnected : ℕ → ℕ → V → Call V
  update : ℕ → ℕ → (Option V → Option V) → Call V
  remove : ℕ → ℕ → Call V
  get : ℕ → Call V
  intersects : ℕ → ℕ → Call V
  -- iter or gaps
  list : Call V

-- what a call answers
pub data Answer (V : Type 0) : Type 0 where
  -- a change was accepted; the number of ranges now stored
  ranges : ℕ → Answer V
  -- 9 EmptyRange, 10 Connected, 11 Full
  declined : ℕ → Answer V
  said : Bool → Answer V
  found : Option V → Answer V
  nothing : Answer V

-- two answers are alike: equal, or both what was found and that the same
pub data Alike {V : Type 0} (eq : V → V → Bool) : Answer V → Answer V → Type 0 where
  alike_ranges : {n : ℕ} → Alike eq (ranges n) (ranges n)
  alike_declined : {n : ℕ} → Alike eq (declined n) (declined n)
  alike_said : {b : Bool} → Alike eq (said b) (said b)
  alike_found : {a b : Option V} → same eq a b ≡ true → Alike eq (found a) (found b)
  alike_nothing : Alike eq nothing nothing

-- a call that a map over `count` keys can be given: its key is there, its range ends at the last key or earlier, and its change gives the same to the same
abbrev pub Proper : {V : Type 0} → (V → V → Bool) → ℕ → Call V → Type 0
Proper eq count (insert low high v) = high ≤ count
Proper eq count (insert_disconnected low high v) = high ≤ count
Proper {V} eq count (update low high f) = (high ≤ count) × ((a b : Option V) → same eq a b ≡ true → same eq (f a) (f b) ≡ true)
Proper eq count (remove low high) = high ≤ count
Proper eq count (get p) = p < count
Proper eq count (intersects low high) = high ≤ count
Proper eq count list = Unit {0}

abbrev pub within : ℕ → ℕ → ℕ → Bool
within low high p = nat_le low p && nat_lt p high

-- p is within the range, or just before or after it
abbrev pub reaches : ℕ → ℕ → ℕ → Bool
reaches low high p = nat_le low (suc p) && nat_le p high

-- whether a change would alter the place p
abbrev pub covers : {V : Type 0} → Call V → ℕ → Bool
covers (insert low high v) p = within low high p
covers (insert_disconnected low high v) p = within low high p
covers (update low high f) p = within low high p
covers (remove low high) p = within low high p
covers (get q) p = false
covers (intersects low high) p = false
covers list p = false

-- what a change makes of what is at a place that it covers
abbrev pub effect : {V : Type 0} → Call V → Option V → Option V
effect (insert low high v) o = Some v
effect (insert_disconnected low high v) o = Some v
effect (update low high f) o = f o
effect (remove low high) o = None
effect (get q) o = o
effect (intersects low high) o = o
effect list o = o

abbrev pub changed : {V : Type 0} → Call V → Held V → Held V
changed c h p = cond (covers c p) (effect c (h p)) (h p)

pub record Ledger (V : Type 0) : Type 0 where
  pub slots : ℕ
  pub held : Held V

-- a ledger and the answer that it gave last
pub record Outcome (V : Type 0) : Type 0 where
  pub answer : Answer V
  pub held : Held V

abbrev pub new : {V : Type 0} → ℕ → Ledger V
new slots = record { slots = slots; held = λ p. None }

-- declined, a call alters nothing
abbrev pub decline : {V : Type 0} → Ledger V → ℕ → Outcome V
decline l n = record { answer = declined n; held = l.held }

-- accepted, a change answers the new size
abbrev pub accept : {V : Type 0} → (V → V → Bool) → ℕ → Held V → Outcome V
accept eq count h = record { answer = ranges (size eq h count); held = h }

-- a change whose result has a size above the slots is declined
abbrev pub offer : {V : Type 0} → (V → V → Bool) → ℕ → Ledger V → Held V → Outcome V
offer eq count l h = cond (nat_le (size eq h count) l.slots) (accept eq count h) (decline l 11)

-- whether a place that passes the test has a value
abbrev pub meets : {V : Type 0} → ℕ → Held V → (ℕ → Bool) → Bool
meets count h t = any_below (λ p. t p && is_some (h p)) count

abbrev pub outcome : {V : Type 0} → (V → V → Bool) → ℕ → Ledger V → Call V → Outcome V
outcome eq count l (insert low high v) = offer eq count l (changed (insert low high v) l.held)
outcome eq count l (insert_disconnected low high v) =
    cond (nat_le high low) (decline l 9)
    (cond (meets count l.held (reaches low high)) (decline l 10)
    (offer eq count l (changed (insert_disconnected low high v) l.held)))
outcome eq count l (update low high f) = offer eq count l (changed (update low high f) l.held)
outcome eq count l (remove low high) = offer eq count l (changed (remove low high) l.held)
outcome eq count l (get p) = record { answer = found (l.held p); held = l.held }
outcome eq count l (intersects low high) =
    record { answer = said (meets count l.held (within low high)); held = l.held }
outcome eq count l list = record { answer = nothing; held = l.held }

-- the ledger after a call
abbrev pub after : {V : Type 0} → (V → V → Bool) → ℕ → Ledger V → Call V → Ledger V
after eq count l c = record { slots = l.slots; held = (outcome eq count l c).held }
