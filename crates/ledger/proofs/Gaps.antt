-- The ranges and the gaps of a rising list part the places.
use Rattle.std.proofs.Common.{◌≡◌, ℕ, suc, ◌<◌, ◌≤◌, Bool, true, ◌⊎◌, List, [], ◌∷◌, length, Some, None, Option, sym, refl, ap, ◌∙◌, subst, inl, inr, arith}
use Rattle.std.proofs.lemmas.Bool.{cases_lt, lt-ltb, le-ltb, cond-true, cond-false, false≢true}
use Rattle.std.specs.Cmp.{IsEquivalence}
use Rattle.lawful.specs.Equals.{same}
use Rattle.ledger.specs.Spans.{Span, Gap, bearing, held, Rises, gap, gaps_from}
use Rattle.ledger.specs.Promise.{Listed, Apart}
use Rattle.ledger.proofs.Lists.{within_in, within_out, within_cases, held_in, held_out, held_early, rises_lower}

module _ {V : Type 0} where
  pub bearing_in : (x : Span V) (xs : List (Span V)) (p : ℕ) → x.low ≤ p → p < x.high → bearing (x ∷ xs) p ≡ x.value ∷ bearing xs p
  bearing_in x xs p h k = cond-true _ _ _ (within_in x.low x.high p h k)

  pub bearing_out : (x : Span V) (xs : List (Span V)) (p : ℕ) → (p < x.low) ⊎ (x.high ≤ p) → bearing (x ∷ xs) p ≡ bearing xs p
  bearing_out x xs p h = cond-false _ _ _ (within_out x.low x.high p h)

  pub bearing_early : (from count : ℕ) (xs : List (Span V)) → Rises from count xs → (p : ℕ) → p < from → bearing xs p ≡ []
  bearing_early from count [] r p h = refl
  bearing_early from count (x ∷ xs) r p h =
      let f = r.0 in let o : p < x.low = omega arith in
      bearing_out x xs p (inl o) ∙ bearing_early x.high count xs r.2 p (omega (arith, r.1))

-- a gap between two ends: there where they are apart
pub gap_there : (low high : ℕ) (gs : List Gap) → low < high → gap low high gs ≡ record { low = low; high = high; value = tt } ∷ gs
gap_there low high gs h = cond-true _ _ _ (lt-ltb low high h)

pub gap_not : (low high : ℕ) (gs : List Gap) → high ≤ low → gap low high gs ≡ gs
gap_not low high gs h = cond-false _ _ _ (le-ltb low high h)

gap_in : (low high p : ℕ) (gs : List Gap) → low ≤ p → p < high → length (bearing (gap low high gs) p) ≡ suc (length (bearing gs p))
gap_in low high p gs h k =
    ap (λ (l : List Gap). length (bearing l p)) (gap_there low high gs (omega arith)) ∙
    ap length (bearing_in (record { low = low; high = high; value = tt }) gs p h k)

gap_out : (low high p : ℕ) (gs : List Gap) → high ≤ p → length (bearing (gap low high gs) p) ≡ length (bearing gs p)
gap_out low high p gs h = go (cases_lt low high)
  where
    go : (low < high) ⊎ (high ≤ low) → length (bearing (gap low high gs) p) ≡ length (bearing gs p)
    go (inl l) =
        ap (λ (l : List Gap). length (bearing l p)) (gap_there low high gs l) ∙
        ap length (bearing_out (record { low = low; high = high; value = tt }) gs p (inr h))
    go (inr l) = ap (λ (l : List Gap). length (bearing l p)) (gap_not low high gs l)

gap_rises : (low high count : ℕ) (gs : List Gap) → low ≤ high → Rises high count gs → Rises low count (gap low high gs)
gap_rises low high count gs e r = go (cases_lt low high)
  where
    go : (low < high) ⊎ (high ≤ low) → Rises low count (gap low high gs)
    go (inl l) = subst (λ (s : List Gap). Rises low count s) (sym (gap_there low high gs l)) (omega arith, l, r)
    go (inr l) = subst (λ (s : List Gap). Rises low count s) (sym (gap_not low high gs l)) (rises_lower high low count gs e r)

-- a gap stands apart from those that rise past its end
apart_cons : (from count : ℕ) (g : Gap) (gs : List Gap) → g.high < from → Rises from count gs → Apart gs → Apart (g ∷ gs)
apart_cons from count g [] l r a = tt
apart_cons from count g (y ∷ ys) l r a = (omega (arith, r.0), a)

gap_apart : (low high from count : ℕ) (gs : List Gap) → high < from → Rises from count gs → Apart gs → Apart (gap low high gs)
gap_apart low high from count gs l r a = go (cases_lt low high)
  where
    go : (low < high) ⊎ (high ≤ low) → Apart (gap low high gs)
    go (inl k) = subst Apart (sym (gap_there low high gs k)) (apart_cons from count (record { low = low; high = high; value = tt }) gs l r a)
    go (inr k) = subst Apart (sym (gap_not low high gs k)) a

module _ {V : Type 0} where
  pub gaps_rise : (from count : ℕ) (xs : List (Span V)) → Rises from count xs → Rises from count (gaps_from from count xs)
  gaps_rise from count [] r = gap_rises from count count [] r (omega arith)
  gaps_rise from count (x ∷ xs) r =
      gap_rises from x.low count (gaps_from x.high count xs) r.0
      (rises_lower x.high x.low count (gaps_from x.high count xs) (omega (arith, r.1)) (gaps_rise x.high count xs r.2))

  pub gaps_apart : (from count : ℕ) (xs : List (Span V)) → Rises from count xs → Apart (gaps_from from count xs)
  gaps_apart from count [] r = gap_apart from count (suc count) (suc count) [] (omega arith) (omega arith) tt
  gaps_apart from count (x ∷ xs) r =
      gap_apart from x.low x.high count (gaps_from x.high count xs) r.1 (gaps_rise x.high count xs r.2) (gaps_apart x.high count xs r.2)

module _ {V : Type 0} (eq : V → V → Bool) (law : IsEquivalence eq) where
  listed_none : (o : Option V) (vs : List V) (n : ℕ) → o ≡ None → vs ≡ [] → n ≡ 1 → Listed eq o vs n
  listed_none o vs n e f g = subst (λ (o : Option V). Listed eq o vs n) (sym e) (f, g)

  listed_some : (o : Option V) (vs : List V) (n : ℕ) (v : V) → o ≡ Some v → vs ≡ v ∷ [] → n ≡ 0 → Listed eq o vs n
  listed_some o vs n v e f g = subst (λ (o : Option V). Listed eq o vs n) (sym e) (v, f, law.refl v, g)

  -- each place from the start on lies in one range or one gap
  pub listed_rises : (from count : ℕ) (xs : List (Span V)) → Rises from count xs → (p : ℕ) → from ≤ p → p < count →
      Listed eq (held xs p) (bearing xs p) (length (bearing (gaps_from from count xs) p))
  listed_rises from count [] r p a b = (refl, gap_in from count p [] a b)
  listed_rises from count (x ∷ xs) r p a b =
      go (λ l. listed_rises x.high count xs r.2 p l b) (within_cases x.low x.high p)
    where
      G : List Gap
      G = gaps_from x.high count xs

      early : p < x.high → length (bearing G p) ≡ 0
      early l = ap length (bearing_early x.high count G (gaps_rise x.high count xs r.2) p l)

      go : (x.high ≤ p → Listed eq (held xs p) (bearing xs p) (length (bearing G p))) →
          ((x.low ≤ p) × (p < x.high)) ⊎ ((p < x.low) ⊎ (x.high ≤ p)) →
          Listed eq (held (x ∷ xs) p) (bearing (x ∷ xs) p) (length (bearing (gap from x.low G) p))
      go rest (inl i) =
          listed_some _ _ _ x.value (held_in x xs p i.0 i.1)
          (bearing_in x xs p i.0 i.1 ∙ ap (λ l. x.value ∷ l) (bearing_early x.high count xs r.2 p i.1))
          (gap_out from x.low p G i.0 ∙ early i.1)
      go rest (inr (inl o)) =
          let l : p < x.high = omega (arith, r.1) in
          listed_none _ _ _ (held_out x xs p (inl o) ∙ held_early x.high count xs r.2 p l)
          (bearing_out x xs p (inl o) ∙ bearing_early x.high count xs r.2 p l)
          (gap_in from x.low p G a o ∙ ap suc (early l))
      go rest (inr (inr o)) =
          let l : x.low ≤ p = omega (arith, r.1) in
          let F : Option V → List V → ℕ → Type 0 = λ u vs n. Listed eq u vs n in
          mathlib.Core.Path.subst₃ F (sym (held_out x xs p (inr o))) (sym (bearing_out x xs p (inr o))) (sym (gap_out from x.low p G l)) (rest o)

  pub listed_same : (a b : Option V) (vs : List V) (n : ℕ) → same eq a b ≡ true → Listed eq a vs n → Listed eq b vs n
  listed_same None None vs n e l = l
  listed_same None (Some b) vs n e l = absurd (false≢true e)
  listed_same (Some a) None vs n e l = absurd (false≢true e)
  listed_same (Some a) (Some b) vs n e l = (l.0, l.1, law.congr b a l.0 (law.symm b a ∙ e) ∙ l.2, l.3)
