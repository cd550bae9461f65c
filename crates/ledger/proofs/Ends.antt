-- Canonical lists that hold the same are matched span by span.
use Rattle.std.proofs.Common.{◌≡◌, ℕ, ◌<◌, ◌≤◌, Bool, true, ◌⊎◌, List, [], ◌∷◌, Some, None, Option, sym, refl, ◌∙◌, subst₂, inl, inr, arith}
use Rattle.std.proofs.lemmas.Bool.{cases_lt, false≢true, true≢false}
use Rattle.std.specs.Cmp.{IsEquivalence}
use Rattle.lawful.specs.Equals.{same}
use Rattle.ledger.specs.Values.{SameBelow}
use Rattle.ledger.specs.Spans.{Span, held, Parted, Rises, AllParted, Canonical, Matched}
use Rattle.ledger.proofs.Lists.{held_in, held_out, held_early, held_late, behind}
use Rattle.lawful.specs.EqualsLemmas.{same_sym}

module _ {V : Type 0} (eq : V → V → Bool) (law : IsEquivalence eq) where
  -- `same` at what two places are known to hold
  same_at : (a b c d : Option V) → a ≡ c → b ≡ d → same eq a b ≡ true → same eq c d ≡ true
  same_at a b c d e f h = subst₂ (λ (u v : Option V). same eq u v ≡ true) e f h

  -- the first span of one list begins no earlier than that of the other
  low_le : (count : ℕ) (x y : Span V) (xs ys : List (Span V)) → x.low < x.high → Rises y.low count (y ∷ ys) →
      ((p : ℕ) → same eq (held (x ∷ xs) p) (held (y ∷ ys) p) ≡ true) → y.low ≤ x.low
  low_le count x y xs ys lt r s = go (cases_lt x.low y.low)
    where
      go : (x.low < y.low) ⊎ (y.low ≤ x.low) → y.low ≤ x.low
      go (inl l) =
          absurd (false≢true (same_at _ _ _ _ (held_in x xs x.low (omega arith) lt) (held_early y.low count (y ∷ ys) r x.low l) (s x.low)))
      go (inr l) = l

  high_le : (count : ℕ) (x y : Span V) (xs ys : List (Span V)) → x.low ≡ y.low → x.low < x.high → Rises x.high count xs → Parted eq x xs →
      ((p : ℕ) → same eq (held (x ∷ xs) p) (held (y ∷ ys) p) ≡ true) → y.high ≤ x.high
  high_le count x y xs ys e lt r d s = go (cases_lt x.high y.high)
    where
      -- right behind x stands an equal value
      clash : (o : Option V) → held xs x.high ≡ o → same eq o (Some y.value) ≡ true → eq x.value y.value ≡ true → ⊥
      clash None h k v = false≢true k
      clash (Some w) h k v =
          true≢false (sym (law.congr x.value y.value w v ∙ (law.symm y.value w ∙ k)) ∙ behind eq law count x xs r d w h)

      go : (x.high < y.high) ⊎ (y.high ≤ x.high) → y.high ≤ x.high
      go (inl l) =
          let v = same_at _ _ _ _ (held_in x xs x.low (omega arith) lt) (held_in y ys x.low (omega arith) (omega arith)) (s x.low) in
          let k = same_at _ _ _ _ (held_out x xs x.high (inr (omega arith))) (held_in y ys x.high (omega arith) l) (s x.high) in
          absurd (clash (held xs x.high) refl k v)
      go (inr l) = l

  rest : (count : ℕ) (x y : Span V) (xs ys : List (Span V)) → x.high ≡ y.high → Rises x.high count xs → Rises y.high count ys →
      ((p : ℕ) → same eq (held (x ∷ xs) p) (held (y ∷ ys) p) ≡ true) → (p : ℕ) → same eq (held xs p) (held ys p) ≡ true
  rest count x y xs ys e r q s p = go (cases_lt p x.high)
    where
      go : (p < x.high) ⊎ (x.high ≤ p) → same eq (held xs p) (held ys p) ≡ true
      go (inl l) = same_at None None _ _ (sym (held_early x.high count xs r p l)) (sym (held_early y.high count ys q p (omega arith))) refl
      go (inr l) = same_at _ _ _ _ (held_out x xs p (inr l)) (held_out y ys p (inr (omega arith))) (s p)

  matched_rises : (from to count : ℕ) (xs ys : List (Span V)) → Rises from count xs → Rises to count ys → AllParted eq xs → AllParted eq ys →
      ((p : ℕ) → same eq (held xs p) (held ys p) ≡ true) → Matched eq xs ys
  matched_rises from to count [] [] r q c d s = tt
  matched_rises from to count [] (y ∷ ys) r q c d s =
      false≢true (same_at None _ None _ refl (held_in y ys y.low (omega arith) q.1) (s y.low))
  matched_rises from to count (x ∷ xs) [] r q c d s =
      false≢true (same_at _ None _ None (held_in x xs x.low (omega arith) r.1) refl (s x.low))
  matched_rises from to count (x ∷ xs) (y ∷ ys) r q c d s =
      let t : (p : ℕ) → same eq (held (y ∷ ys) p) (held (x ∷ xs) p) ≡ true = λ p. same_sym eq law (held (x ∷ xs) p) (held (y ∷ ys) p) (s p) in
      let a = low_le count x y xs ys r.1 (omega arith, q.1, q.2) s in
      let b = low_le count y x ys xs q.1 (omega arith, r.1, r.2) t in
      let low : x.low ≡ y.low = omega arith in
      let e = high_le count x y xs ys low r.1 r.2 c.0 s in
      let f = high_le count y x ys xs (sym low) q.1 q.2 d.0 t in
      let high : x.high ≡ y.high = omega arith in
      let v = same_at _ _ _ _ (held_in x xs x.low (omega arith) r.1) (held_in y ys x.low (omega arith) (omega (arith, r.1))) (s x.low) in
      (low, high, v, matched_rises x.high y.high count xs ys r.2 q.2 c.1 d.1 (rest count x y xs ys high r.2 q.2 s))

  -- two canonical lists that hold the same have the same ends and equal values
  pub matched_canonical : (count : ℕ) (xs ys : List (Span V)) → Canonical eq count xs → Canonical eq count ys →
      SameBelow eq count (held xs) (held ys) → Matched eq xs ys
  matched_canonical count xs ys c d s =
      matched_rises 0 0 count xs ys c.rises d.rises c.parted d.parted (λ p. go p (cases_lt p count))
    where
      go : (p : ℕ) → (p < count) ⊎ (count ≤ p) → same eq (held xs p) (held ys p) ≡ true
      go p (inl l) = s p l
      go p (inr l) = same_at None None _ _ (sym (held_late 0 count xs c.rises p l)) (sym (held_late 0 count ys d.rises p l)) refl
