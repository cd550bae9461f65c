-- The ends of the walk of `insert`: v is put at the places from l to below h.
use Rattle.std.specs.Cmp.{IsEquivalence}
use Rattle.std.proofs.Common.{◌≡◌, ℕ, ◌<◌, ◌≤◌, Bool, true, List, ◌∷◌, ◌++◌, Some, ◌∙◌, ⊎_elim, arith}
use Rattle.std.proofs.lemmas.Bool.{cases_lt}
use Rattle.ledger.specs.Spans.{Span, held}
use Rattle.rangemap.specs.Spans.{span, Tight, From, Ends, put, Alters, Rest, Changed}
use Rattle.rangemap.proofs.Held.{canonical_meets, meets_like, meets_apart, ends_like, ends_before}
use Rattle.rangemap.proofs.Put.{same_held, unequal_like, put_from, put_leads}
use Rattle.rangemap.proofs.Rests.{alters_below, alters_inside, rest_put, rest_end}

module _ {V : Type 0} {eq : V → V → Bool} (laws : IsEquivalence eq) (l h : ℕ) (v : V) (full : l < h) where
  -- nothing before touches l
  pub insert_clear : (xs ys zs : List (Span V)) → Tight eq (xs ++ ys) → From l ys → Ends (λ e. e < l) xs → Rest eq l h (λ _. Some v) h ys zs → Changed eq l h (λ _. Some v) (xs ++ ys) (xs ++ put eq (span l h v) zs)
  insert_clear xs ys zs canonical from ends rest =
      let at_l = rest_put laws l h (λ _. Some v) (span l h v) ys zs full (λ p le lt. alters_inside laws l h (λ _. Some v) (held ys p) (Some v) le lt (laws.refl v)) rest in
      rest_end laws l h (λ _. Some v) l xs ys (put eq (span l h v) zs) (omega arith) (omega arith) canonical from
      (ends_like (λ e. e < l) (λ e. e ≤ l) xs (λ e lt. omega arith) ends)
      (meets_apart eq l xs (put eq (span l h v) zs) ends (put_from laws l (span l h v) zs rest.start (omega arith)))
      at_l

  -- s starts before l, and its part up to there is put before the new span
  pub insert_split : (xs : List (Span V)) (s : Span V) (ys zs : List (Span V)) → Tight eq (xs ++ s ∷ ys) → s.low < l → l ≤ s.high → Rest eq l h (λ _. Some v) h (s ∷ ys) zs → Changed eq l h (λ _. Some v) (xs ++ s ∷ ys) (xs ++ put eq (span s.low l s.value) (put eq (span l h v) zs))
  insert_split xs s ys zs canonical low high rest =
      let at_l = rest_put laws l h (λ _. Some v) (span l h v) (s ∷ ys) zs full (λ p le lt. alters_inside laws l h (λ _. Some v) (held (s ∷ ys) p) (Some v) le lt (laws.refl v)) rest in
      let at_low = rest_put laws l h (λ _. Some v) (span s.low l s.value) (s ∷ ys) (put eq (span l h v) zs) low (λ p le lt. alters_below laws l h (λ _. Some v) (held (s ∷ ys) p) (Some s.value) (omega arith) lt (same_held laws s.value s ys p le (omega arith) (laws.refl s.value))) at_l in
      rest_end laws l h (λ _. Some v) s.low xs (s ∷ ys) _ (omega arith) (omega arith) canonical (omega arith)
      (ends_like (λ e. e ≤ s.low) (λ e. e ≤ l) xs (λ e le. omega arith) (ends_before eq xs s ys canonical))
      (meets_like eq xs (s ∷ ys) _ (λ k u leads. put_leads laws k u (span s.low l s.value) (put eq (span l h v) zs) at_l.start leads) (canonical_meets eq xs (s ∷ ys) canonical))
      at_low

  -- s starts before l with an equal value, and the new span takes its start
  pub insert_joined : (xs : List (Span V)) (s : Span V) (ys zs : List (Span V)) → Tight eq (xs ++ s ∷ ys) → s.low < l → l ≤ s.high → eq s.value v ≡ true → Rest eq l h (λ _. Some v) h (s ∷ ys) zs → Changed eq l h (λ _. Some v) (xs ++ s ∷ ys) (xs ++ put eq (span s.low h v) zs)
  insert_joined xs s ys zs canonical low high same rest =
      rest_end laws l h (λ _. Some v) s.low xs (s ∷ ys) (put eq (span s.low h v) zs) (omega arith) (omega arith) canonical (omega arith)
      (ends_like (λ e. e ≤ s.low) (λ e. e ≤ l) xs (λ e le. omega arith) (ends_before eq xs s ys canonical))
      (meets_like eq xs (s ∷ ys) _ (λ k u leads. put_leads laws k u (span s.low h v) zs rest.start (record { order = leads.order; apart = λ e. unequal_like laws u s.value v (leads.apart e) same })) (canonical_meets eq xs (s ∷ ys) canonical))
      (rest_put laws l h (λ _. Some v) (span s.low h v) (s ∷ ys) zs (omega arith) here rest)
    where
      here : (p : ℕ) → s.low ≤ p → p < h → Alters eq l h (λ _. Some v) p (held (s ∷ ys) p) (Some v)
      here p le lt = ⊎_elim (λ early. alters_below laws l h (λ _. Some v) (held (s ∷ ys) p) (Some v) (omega arith) early (same_held laws v s ys p le (omega arith) (laws.symm v s.value ∙ same))) (λ past. alters_inside laws l h (λ _. Some v) (held (s ∷ ys) p) (Some v) past lt (laws.refl v)) (cases_lt p l)
