-- What a rising list holds at and around what the search found.
use Rattle.std.proofs.Common.{◌≡◌, ℕ, zero, suc, ◌+◌, ◌-◌, ◌<◌, ◌≤◌, true, ◌⊎◌, List, [], ◌∷◌, length, get_or, take, drop, is_some, Some, None, refl, ap, ◌∙◌, subst, inl, inr, arith}
use Rattle.std.specs.List.{AllByRecursion}
use Rattle.std.proofs.lemmas.List.{take-append-drop}
use Rattle.std.proofs.ByRecursion.{All-append, All-weaker}
use Rattle.std.proofs.lemmas.Bool.{cases_lt}
use Rattle.ledger.specs.Spans.{Span, held, Rises}
use Rattle.ledger.proofs.Lists.{held_in, held_out, rises_from}
use Rattle.rangemap.specs.Search.{Joins, Last, Stands}
use Rattle.rangemap.proofs.Rising.{parts}

module _ {V : Type 0} where
  -- the span at an index gives its places their value
  pub held_at : (from count : ℕ) (xs : List (Span V)) (i : ℕ) (d : Span V) → i < length xs → Rises from count xs → (p : ℕ) →
      (get_or xs i d).low ≤ p → p < (get_or xs i d).high → held xs p ≡ Some (get_or xs i d).value
  held_at from count [] i d l r p a b = let z : ⊥ = omega arith in absurd z
  held_at from count (x ∷ xs) zero d l r p a b = held_in x xs p a b
  held_at from count (x ∷ xs) (suc i) d l r p a b =
      let k : i < length xs = omega arith in
      let q = parts x.high count xs i d k r.2 in
      held_out x xs p (inr (omega (arith, rises_from x.high _ (take i xs) q.front))) ∙ held_at x.high count xs i d k r.2 p a b

  -- a place that each span misses has no value
  pub held_missed : (xs : List (Span V)) (p : ℕ) → AllByRecursion (λ x. (p < x.low) ⊎ (x.high ≤ p)) xs → held xs p ≡ None
  held_missed [] p h = refl
  held_missed (x ∷ xs) p h = held_out x xs p h.0 ∙ held_missed xs p h.1

  -- a range that stands between the spans meets no value
  pub held_stands : (t low high : ℕ) (xs : List (Span V)) (i : ℕ) → Stands t low high xs i → (p : ℕ) → low ≤ p + t → p < high + t → held xs p ≡ None
  held_stands t low high xs i s p a b =
      held_missed xs p (subst (λ ys. AllByRecursion (λ x. (p < x.low) ⊎ (x.high ≤ p)) ys) (take-append-drop i xs)
      (All-append _ (take i xs) (drop i xs)
      (All-weaker (λ x. x.high + t ≤ low) (λ x. (p < x.low) ⊎ (x.high ≤ p)) (λ x e. inr (omega arith)) (take i xs) s.earlier)
      (All-weaker (λ x. high + t ≤ x.low) (λ x. (p < x.low) ⊎ (x.high ≤ p)) (λ x e. inl (omega arith)) (drop i xs) s.later)))

  -- a place of x at which the range meets it
  joins_place : (t low high : ℕ) (x : Span V) → low < high → x.low < x.high → Joins t low high x →
      (p : ℕ) × (x.low ≤ p) × (p < x.high) × (low ≤ p + t) × (p < high + t)
  joins_place t low high x l h (a, b) = go (cases_lt (x.low + t) low)
    where
      go : (x.low + t < low) ⊎ (low ≤ x.low + t) → (p : ℕ) × (x.low ≤ p) × (p < x.high) × (low ≤ p + t) × (p < high + t)
      go (inl k) = (low - t, omega arith, omega arith, omega arith, omega arith)
      go (inr k) = (x.low, omega arith, h, k, a)

  -- a span that the range meets gives it a value
  pub held_last : (t low high count : ℕ) (xs : List (Span V)) (i : ℕ) (d : Span V) → i < length xs → Rises 0 count xs → low < high → Last t low high xs i →
      (p : ℕ) × (p < count) × (low ≤ p + t) × (p < high + t) × (held xs p ≡ Some (get_or xs i d).value)
  held_last t low high count xs i d l r n f =
      let q = parts 0 count xs i d l r in
      let p = joins_place t low high (get_or xs i d) n q.here (f.here d) in
      (p.0, omega (arith, rises_from _ count _ q.back, p.2), p.3, p.4, held_at 0 count xs i d l r p.0 p.1 p.2)

  pub held_joined : (t low high count : ℕ) (xs : List (Span V)) (i : ℕ) → i < length xs → Rises 0 count xs → low < high → Last t low high xs i →
      (p : ℕ) × (p < count) × (low ≤ p + t) × (p < high + t) × (is_some (held xs p) ≡ true)
  held_joined t low high count [] i l r n f = let z : ⊥ = omega arith in absurd z
  held_joined t low high count (x ∷ xs) i l r n f =
      let p = held_last t low high count (x ∷ xs) i x l r n f in
      (p.0, p.1, p.2, p.3, ap is_some p.4)
