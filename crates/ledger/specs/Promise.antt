-- What holds after any list of calls on a map that was new.
use Rattle.std.specs.Prelude.{◌≡◌, ℕ, ◌+◌, ◌-◌, ◌*◌, ◌<◌, ◌≤◌, Bool, true, false, cond, ◌&&◌, List, [], ◌∷◌, ◌++◌, length, Some, None, Option, ◌≢◌}
use Rattle.lawful.specs.Equals.{same}
use Rattle.ledger.specs.Values.{SameBelow}
use Rattle.ledger.specs.Ledger.{Call, Answer, ranges, declined, said, found, nothing, Alike, Proper, covers, effect, Ledger, new, outcome, after}
use Rattle.ledger.specs.Spans.{Span, Gap, bearing, held, Rises, Canonical, gaps}

-- a call, and what the map answered
pub record Event (V : Type 0) : Type 0 where
  pub call : Call V
  pub answer : Answer V

abbrev pub accepted : {V : Type 0} → Answer V → Bool
accepted (ranges n) = true
accepted (declined n) = false
accepted (said b) = false
accepted (found o) = false
accepted nothing = false

-- how many changes were accepted
abbrev pub changes : {V : Type 0} → List (Event V) → ℕ
changes [] = 0
changes (e ∷ es) = cond (accepted e.answer) 1 0 + changes es

-- One call takes the list xs to the canonical list ys: a ledger that holds what xs holds answers alike, and then holds what ys holds
pub record Step {V : Type 0} (eq : V → V → Bool) (count slots : ℕ) (xs : List (Span V)) (e : Event V) (ys : List (Span V)) : Type 0 where
  pub canonical : Canonical eq count ys
  pub answers : Alike eq e.answer (outcome eq count (record { slots = slots; held = held xs }) e.call).answer
  pub holds : SameBelow eq count (held ys) (outcome eq count (record { slots = slots; held = held xs }) e.call).held

-- what a call does to the lists before and after it, where the one before is canonical
abbrev pub Link : {V : Type 0} → (V → V → Bool) → ℕ → ℕ → List (Span V) → Event V → List (Span V) → Type 0
Link eq count slots xs e ys = Canonical eq count xs → Step eq count slots xs e ys

-- the calls of a run, each one that the map can be given, one after the other
abbrev pub Run : {V : Type 0} → (V → V → Bool) → ℕ → ℕ → List (Span V) → List (Event V) → List (Span V) → Type 0
Run eq count slots xs [] ys = xs ≡ ys
Run {V} eq count slots xs (e ∷ es) ys = (zs : List (Span V)) × Proper eq count e.call × Link eq count slots xs e zs × Run eq count slots zs es ys

-- fed the same calls, the ledger gives like answers, call by call
abbrev pub AnswersAlike : {V : Type 0} → (V → V → Bool) → ℕ → Ledger V → List (Event V) → Type 0
AnswersAlike eq count l [] = Unit {0}
AnswersAlike eq count l (e ∷ es) =
    Alike eq e.answer (outcome eq count l e.call).answer × AnswersAlike eq count (after eq count l e.call) es

-- what the accepted changes that cover the place p make of o, in their order
abbrev pub made : {V : Type 0} → Option V → List (Event V) → ℕ → Option V
made o [] p = o
made o (e ∷ es) p = made (cond (accepted e.answer && covers e.call p) (effect e.call o) o) es p

-- a place with this value stands in one listed range, which bears an equal value, and in no gap; one with none stands in one gap, and in no range
abbrev pub Listed : {V : Type 0} → (V → V → Bool) → Option V → List V → ℕ → Type 0
Listed eq None vs n = (vs ≡ []) × (n ≡ 1)
Listed {V} eq (Some v) vs n = (w : V) × (vs ≡ w ∷ []) × (eq v w ≡ true) × (n ≡ 0)

-- no two gaps touch: the next begins past the end of the one before
abbrev pub Apart : List Gap → Type 0
Apart [] = Unit {0}
Apart (x ∷ []) = Unit {0}
Apart (x ∷ (y ∷ ys)) = (x.high < y.low) × Apart (y ∷ ys)

pub record Promise {V : Type 0} (eq : V → V → Bool) (count slots : ℕ) (es : List (Event V)) (xs : List (Span V)) : Type 0 where
  -- the map and the ledger answered alike, and the value at a place is what the accepted changes made of none
  pub answers : AnswersAlike eq count (new slots) es
  pub values : (p : ℕ) → p < count → same eq (held xs p) (made None es p) ≡ true
  -- the ranges and the gaps part the places
  pub listed : (p : ℕ) → p < count → Listed eq (made None es p) (bearing xs p) (length (bearing (gaps count xs) p))
  pub ranges_rise : Rises 0 count xs
  pub gaps_rise : Rises 0 count (gaps count xs)
  pub gaps_apart : Apart (gaps count xs)
  -- no list that holds no place twice, and the same at each, is shorter
  pub least :
      (ys : List (Span V)) → ((p : ℕ) → p < count → length (bearing ys p) ≤ 1) →
      ((p : ℕ) → p < count → same eq (held ys p) (made None es p) ≡ true) → length xs ≤ length ys
  -- n changes leave at most 2n - 1 ranges
  pub few : (n : ℕ) → 1 ≤ n → changes es ≡ n → length xs ≤ 2 * n - 1
  -- with 2n - 1 slots, no change before which fewer than n were accepted is declined as Full; so none of the first n is
  pub room :
      (n : ℕ) → 1 ≤ n → 2 * n - 1 ≤ slots → (earlier later : List (Event V)) (e : Event V) →
      es ≡ earlier ++ (e ∷ later) → changes earlier < n → e.answer ≢ declined 11

-- every run from the empty list keeps the promise
abbrev pub EveryRunKeeps : {V : Type 0} → (V → V → Bool) → Type 0
EveryRunKeeps {V} eq =
    (count slots : ℕ) (es : List (Event V)) (xs : List (Span V)) → Run eq count slots [] es xs → Promise eq count slots es xs

-- whatever calls led to the list xs, the promise holds after one call more
abbrev pub Keeps : {V : Type 0} → (V → V → Bool) → ℕ → ℕ → List (Span V) → Event V → List (Span V) → Type 0
Keeps {V} eq count slots xs e ys =
    (es : List (Event V)) → Run eq count slots [] es xs → Promise eq count slots (es ++ (e ∷ [])) ys
