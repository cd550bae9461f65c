-- A span put between those of a canonical list, touching none.
use Rattle.std.proofs.Common.{◌≡◌, ℕ, zero, suc, ◌+◌, ◌<◌, ◌≤◌, Bool, cond, ◌⊎◌, List, [], ◌∷◌, take, drop, Some, sym, refl, ap, ◌∙◌, inl, inr, arith}
use Rattle.std.specs.List.{insert, AllByRecursion}
use Rattle.std.proofs.lemmas.Bool.{cond-false}
use Rattle.ledger.specs.Ledger.{within}
use Rattle.ledger.specs.Spans.{Span, held, Rises, Parted, AllParted, Canonical}
use Rattle.ledger.proofs.Lists.{within_out, within_cases, held_in, held_out}
use Rattle.rangemap.specs.Search.{Stands}

module _ {V : Type 0} (s : Span V) (count : ℕ) (full : s.low < s.high) (fits : s.high ≤ count) where
  rises_put : (from : ℕ) (xs : List (Span V)) (i : ℕ) → from ≤ s.low → AllByRecursion (λ x. x.high + 1 ≤ s.low) (take i xs) → AllByRecursion (λ x. s.high + 1 ≤ x.low) (drop i xs) → Rises from count xs →
      Rises from count (insert xs i s)
  rises_put from [] zero f a b r = (f, full, fits)
  rises_put from [] (suc i) f a b r = (f, full, fits)
  rises_put from (x ∷ xs) zero f a b r = (f, full, (omega (arith, b.0), r.1, r.2))
  rises_put from (x ∷ xs) (suc i) f a b r = (r.0, r.1, rises_put x.high xs i (omega (arith, a.0)) a.1 b r.2)

  module _ (eq : V → V → Bool) where
    parted_front : (x : Span V) (xs : List (Span V)) (i : ℕ) → x.high + 1 ≤ s.low → Parted eq x xs → Parted eq x (insert xs i s)
    parted_front x [] zero a d = λ e. let z : ⊥ = omega arith in absurd z
    parted_front x [] (suc i) a d = λ e. let z : ⊥ = omega arith in absurd z
    parted_front x (y ∷ ys) zero a d = λ e. let z : ⊥ = omega arith in absurd z
    parted_front x (y ∷ ys) (suc i) a d = d

    parted_put : (xs : List (Span V)) (i : ℕ) → AllByRecursion (λ x. x.high + 1 ≤ s.low) (take i xs) → AllByRecursion (λ x. s.high + 1 ≤ x.low) (drop i xs) → AllParted eq xs → AllParted eq (insert xs i s)
    parted_put [] zero a b d = (tt, tt)
    parted_put [] (suc i) a b d = (tt, tt)
    parted_put (x ∷ xs) zero a b d = (λ e. let z : ⊥ = omega (arith, b.0) in absurd z, d)
    parted_put (x ∷ xs) (suc i) a b d = (parted_front x xs i a.0 d.0, parted_put xs i a.1 b d.1)

    pub canonical_put : (xs : List (Span V)) (i : ℕ) → Stands 1 s.low s.high xs i → Canonical eq count xs → Canonical eq count (insert xs i s)
    canonical_put xs i t c =
        record { rises = rises_put 0 xs i (omega arith) t.earlier t.later c.rises; parted = parted_put xs i t.earlier t.later c.parted }

  -- the places of the span hold its value, the others what they held
  held_put : (xs : List (Span V)) (i : ℕ) → AllByRecursion (λ x. x.high + 1 ≤ s.low) (take i xs) → (p : ℕ) → held (insert xs i s) p ≡ cond (within s.low s.high p) (Some s.value) (held xs p)
  held_put xs zero a p = refl
  held_put [] (suc i) a p = refl
  held_put (x ∷ xs) (suc i) a p = go (held_put xs i a.1 p) (within_cases x.low x.high p)
    where
      go : held (insert xs i s) p ≡ cond (within s.low s.high p) (Some s.value) (held xs p) → ((x.low ≤ p) × (p < x.high)) ⊎ ((p < x.low) ⊎ (x.high ≤ p)) →
          held (x ∷ insert xs i s) p ≡ cond (within s.low s.high p) (Some s.value) (held (x ∷ xs) p)
      go r (inl k) =
          held_in x (insert xs i s) p k.0 k.1 ∙
          (sym (held_in x xs p k.0 k.1) ∙ sym (cond-false _ _ _ (within_out s.low s.high p (inl (omega (arith, a.0, k.1))))))
      go r (inr o) =
          held_out x (insert xs i s) p o ∙ (r ∙ ap (cond (within s.low s.high p) (Some s.value)) (sym (held_out x xs p o)))

  pub held_stored : (xs : List (Span V)) (i : ℕ) → Stands 1 s.low s.high xs i → (p : ℕ) → held (insert xs i s) p ≡ cond (within s.low s.high p) (Some s.value) (held xs p)
  held_stored xs i t p = held_put xs i t.earlier p
