-- Stretches of places with a value each, and what a list of them says of each place.
use Rattle.std.specs.Prelude.{◌≡◌, ℕ, ◌<◌, ◌≤◌, min, max, Bool, true, false, cond, ◌&&◌, List, [], ◌∷◌, ◌++◌, length, take, drop, Some, None, Option}
use Rattle.lawful.specs.Equals.{same}
use Rattle.ledger.specs.Spans.{Span, held}
use Rattle.ranges.specs.Ranges.{connects}

abbrev pub span : {V : Type 0} → ℕ → ℕ → V → Span V
span l h v = record { low = l; high = h; value = v }

-- Equal values, or none on both sides.
abbrev pub Same : {V : Type 0} → (V → V → Bool) → Option V → Option V → Type 0
Same eq a b = same eq a b ≡ true

-- What ends at h with the value u may stand right before what starts at l with the value v: where they touch, the values differ.
pub record Precedes {V : Type 0} (eq : V → V → Bool) (h : ℕ) (u : V) (l : ℕ) (v : V) : Type 0 where
  pub order : h ≤ l
  pub apart : h ≡ l → eq u v ≡ false

-- What ends at h with the value u may stand right before the list.
abbrev pub Leads : {V : Type 0} → (V → V → Bool) → ℕ → V → List (Span V) → Type 0
Leads eq h u [] = Unit {0}
Leads eq h u (t ∷ ts) = Precedes eq h u t.low t.value

-- What the ledger calls canonical, with no end set: no span is empty, they rise, and none can be joined to the next.
abbrev pub Tight : {V : Type 0} → (V → V → Bool) → List (Span V) → Type 0
Tight eq [] = Unit {0}
Tight eq (s ∷ ss) = (s.low < s.high) × Leads eq s.high s.value ss × Tight eq ss

-- No span of a tight list starts below b.
abbrev pub From : {V : Type 0} → ℕ → List (Span V) → Type 0
From b [] = Unit {0}
From b (s ∷ ss) = b ≤ s.low

-- Each span's end is so.
abbrev pub Ends : {V : Type 0} → (ℕ → Type 0) → List (Span V) → Type 0
Ends P [] = Unit {0}
Ends P (s ∷ ss) = P s.high × Ends P ss

-- The second list may follow the first.
abbrev pub Meets : {V : Type 0} → (V → V → Bool) → List (Span V) → List (Span V) → Type 0
Meets eq [] ys = Unit {0}
Meets eq (s ∷ []) ys = Leads eq s.high s.value ys
Meets eq (s ∷ t ∷ ss) ys = Meets eq (t ∷ ss) ys

-- Two spans hold a place each, and they share one or touch.
abbrev pub near : {V : Type 0} → Span V → Span V → Bool
near s t = connects (record { low = s.low; high = s.high }) (record { low = t.low; high = t.high })

-- One span in the place of both, with the value of t.
abbrev pub joined : {V : Type 0} → Span V → Span V → Span V
joined s t = span (min t.low s.low) (max t.high s.high) t.value

-- The list with s in front, joined to the first span where they are connected at equal values.
abbrev pub put : {V : Type 0} → (V → V → Bool) → Span V → List (Span V) → List (Span V)
put eq s [] = s ∷ []
put eq s (t ∷ ts) = cond (near s t && eq s.value t.value) (joined s t ∷ ts) (s ∷ t ∷ ts)

-- The list from i to before j gives way to s, which is put before what follows.
abbrev pub put_at : {V : Type 0} → (V → V → Bool) → List (Span V) → ℕ → ℕ → Span V → List (Span V)
put_at eq ss i j s = take i ss ++ put eq s (drop j ss)

-- The list with what was made of the places from l to below h in front.
abbrev pub put_made : {V : Type 0} → (V → V → Bool) → ℕ → ℕ → Option V → List (Span V) → List (Span V)
put_made eq l h None zs = zs
put_made eq l h (Some v) zs = put eq (span l h v) zs

-- At the place p, where a was held, b is held after a change by m of the places from l to below h.
pub record Alters {V : Type 0} (eq : V → V → Bool) (l h : ℕ) (m : Option V → Option V) (p : ℕ) (a b : Option V) : Type 0 where
  pub below : p < l → Same eq b a
  pub inside : l ≤ p → p < h → Same eq b (m a)
  pub above : h ≤ p → Same eq b a

-- zs holds what a walk that has come down to b makes of ys.
pub record Rest {V : Type 0} (eq : V → V → Bool) (l h : ℕ) (m : Option V → Option V) (b : ℕ) (ys zs : List (Span V)) : Type 0 where
  pub canonical : Tight eq zs
  pub start : From b zs
  pub alters : (p : ℕ) → b ≤ p → Alters eq l h m p (held ys p) (held zs p)

-- A list changed throughout.
pub record Changed {V : Type 0} (eq : V → V → Bool) (l h : ℕ) (m : Option V → Option V) (old new : List (Span V)) : Type 0 where
  pub canonical : Tight eq new
  pub alters : (p : ℕ) → Alters eq l h m p (held old p) (held new p)

-- A backward walk over the list that was old and is now, at the span s of the index addr: what follows is done down to b, and the rest is untouched.
pub record Walk {V : Type 0} (eq : V → V → Bool) (l h : ℕ) (m : Option V → Option V) (b : ℕ) (old now : List (Span V)) (addr : ℕ) (s : Span V) : Type 0 where
  pub front : List (Span V)
  pub back : List (Span V)
  pub rest : List (Span V)
  pub was : old ≡ front ++ s ∷ back
  pub is : now ≡ front ++ s ∷ rest
  pub index : length front ≡ addr
  pub low : s.low ≤ b
  pub high : l ≤ s.high
  pub leads : b < s.high → (b ≡ h) × Leads eq s.high s.value rest
  pub done : Rest eq l h m b back rest

-- The same with s done with too: what follows now starts at j.
pub record Turn {V : Type 0} (eq : V → V → Bool) (l h : ℕ) (m : Option V → Option V) (b : ℕ) (s : Span V) (old now : List (Span V)) (addr j : ℕ) : Type 0 where
  pub back : List (Span V)
  pub was : old ≡ take addr now ++ s ∷ back
  pub index : length (take addr now) ≡ addr
  pub low : s.low ≤ b
  pub high : l ≤ s.high
  pub done : Rest eq l h m b (s ∷ back) (drop j now)
