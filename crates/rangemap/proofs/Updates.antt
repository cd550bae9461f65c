-- The walk of `update`: the steps of a turn, and the walk's ends.
use Rattle.std.specs.Cmp.{IsEquivalence}
use Rattle.std.proofs.Common.{◌≡◌, ℕ, ◌+◌, ◌<◌, ◌≤◌, Bool, List, [], ◌∷◌, ◌++◌, length, get_or, take, drop, Some, None, Option, sym, refl, ap, ◌∙◌, subst, arith}
use Rattle.ledger.specs.Spans.{Span, held}
use Rattle.rangemap.specs.Spans.{span, Same, Tight, From, Ends, Meets, put, put_at, put_made, Rest, Changed, Turn}
use Rattle.rangemap.proofs.Held.{held_at, held_high, held_before, canonical_meets, canonical_right, meets_like, meets_apart, ends_like, ends_before}
use Rattle.rangemap.proofs.Put.{same_at, same_by, same_held, put_leads}
use Rattle.rangemap.proofs.Rests.{alters_below, alters_inside, rest_drop, rest_skip, rest_put, rest_made, rest_end}
use Rattle.rangemap.proofs.Walks.{was_is, last_order}

module _ {V : Type 0} {eq : V → V → Bool} (laws : IsEquivalence eq) (l h : ℕ) (m : Option V → Option V) (le : l ≤ h) where
  -- what the change makes of none, between the end of s and b, where the next span starts or the key ends
  pub made_after : (b : ℕ) (s : Span V) (ys zs : List (Span V)) (blank : Option V) → s.high < b → l ≤ s.high → b ≤ h → Tight eq ys → From b ys → Same eq blank (m None) → Rest eq l h m b (s ∷ ys) zs → Rest eq l h m s.high (s ∷ ys) (put_made eq s.high b blank zs)
  made_after b s ys zs blank lt low high canonical from same =
      rest_made laws l h m b s.high blank (s ∷ ys) zs lt
      (λ p ge less. alters_inside laws l h m (held (s ∷ ys) p) blank (omega arith) (omega arith) (same_at laws refl (ap m (held_high s ys p ge ∙ held_before eq b ys p canonical from less)) same))

  -- what the change makes of the value of s, within s
  pub made_within : (b c : ℕ) (s : Span V) (ys zs : List (Span V)) (made : Option V) → c < b → s.low ≤ c → b ≤ s.high → l ≤ c → b ≤ h → Same eq made (m (Some s.value)) → Rest eq l h m b (s ∷ ys) zs → Rest eq l h m c (s ∷ ys) (put_made eq c b made zs)
  made_within b c s ys zs made lt low high from to same =
      rest_made laws l h m b c made (s ∷ ys) zs lt
      (λ p ge less. alters_inside laws l h m (held (s ∷ ys) p) made (omega arith) (omega arith) (same_at laws refl (ap m (held_at s ys p (omega arith) (omega arith))) same))

-- The ends.
module _ {V : Type 0} {eq : V → V → Bool} (laws : IsEquivalence eq) (l h : ℕ) {m : Option V → Option V} (le : l ≤ h) {s : Span V} {old now : List (Span V)} {addr j : ℕ} (canonical : Tight eq old) where
  -- s keeps what it has before l
  pub update_before : (t : Turn eq l h m l s old now addr j) → s.low < l → Changed eq l h m old (put_at eq now addr j (span s.low l s.value))
  update_before t low =
      let split = subst (Tight eq) t.was canonical in
      subst (λ ys. Changed eq l h m ys (put_at eq now addr j (span s.low l s.value))) (sym t.was)
      (rest_end laws l h m s.low (take addr now) (s ∷ t.back) (put eq (span s.low l s.value) (drop j now)) (omega arith) le split (omega arith)
      (ends_like (λ e. e ≤ s.low) (λ e. e ≤ l) (take addr now) (λ e le. omega arith) (ends_before eq (take addr now) s t.back split))
      (meets_like eq (take addr now) (s ∷ t.back) _ (λ k u leads. put_leads laws k u (span s.low l s.value) (drop j now) t.done.start leads) (canonical_meets eq (take addr now) (s ∷ t.back) split))
      (rest_put laws l h m (span s.low l s.value) (s ∷ t.back) (drop j now) low
      (λ p ge lt. alters_below laws l h m (held (s ∷ t.back) p) (Some s.value) le lt (same_held laws s.value s t.back p ge (omega (arith, t.high)) (laws.refl s.value)))
      t.done))

  -- nothing before s is connected, and the key starts before s
  pub update_clear : (blank : Option V) (t : Turn eq l h m s.low s old now addr j) → l < s.low → s.low ≤ h → Same eq blank (m None) → Ends (λ e. e < l) (take addr now) → Changed eq l h m old (take addr now ++ put_made eq l s.low blank (drop j now))
  update_clear blank t low high same ends =
      let split = subst (Tight eq) t.was canonical in
      let none : (p : ℕ) → p < s.low → held (s ∷ t.back) p ≡ None = λ p lt. held_before eq s.low (s ∷ t.back) p (canonical_right eq (take addr now) (s ∷ t.back) split) (omega arith) lt in
      let rest = rest_made laws l h m s.low l blank (s ∷ t.back) (drop j now) low (λ p ge lt. alters_inside laws l h m (held (s ∷ t.back) p) blank ge (omega arith) (same_at laws refl (ap m (none p lt)) same)) t.done in
      subst (λ ys. Changed eq l h m ys (take addr now ++ put_made eq l s.low blank (drop j now))) (sym t.was)
      (rest_end laws l h m l (take addr now) (s ∷ t.back) (put_made eq l s.low blank (drop j now)) (omega arith) le split (omega arith)
      (ends_like (λ e. e < l) (λ e. e ≤ l) (take addr now) (λ e lt. omega arith) ends)
      (meets_apart eq l (take addr now) _ ends rest.start)
      rest)

  -- the key and s start together, and nothing stands before
  pub update_first : (t : Turn eq l h m l s old now addr j) → s.low ≡ l → addr ≡ 0 → Changed eq l h m old (take addr now ++ drop j now)
  update_first t level zero =
      let split = subst (Tight eq) t.was canonical in
      let none : take addr now ≡ [] = ap (λ k. take k now) zero in
      subst (λ ys. Changed eq l h m ys (take addr now ++ drop j now)) (sym t.was)
      (rest_end laws l h m l (take addr now) (s ∷ t.back) (drop j now) (omega arith) le split (omega arith)
      (subst (Ends (λ e. e ≤ l)) (sym none) tt) (subst (λ xs. Meets eq xs (drop j now)) (sym none) tt) t.done)

  -- the key and s start together, and x stands right before: it is put anew
  pub update_level : (t : Turn eq l h m l s old now addr j) → s.low ≡ l → (x : Span V) (prev : ℕ) → prev + 1 ≡ addr → prev < length now → x ≡ get_or now prev x → Changed eq l h m old (take prev now ++ put eq x (drop j now))
  update_level t level x prev step lt read =
      let was = was_is x prev t canonical step lt read in
      let order : x.high ≤ s.low = last_order x prev t canonical step lt read in
      let split = subst (Tight eq) was canonical in
      let tail = canonical_right eq (take prev now) (x ∷ s ∷ t.back) split in
      let none : (p : ℕ) → x.high ≤ p → p < l → held (x ∷ s ∷ t.back) p ≡ None = λ p ge less. held_high x (s ∷ t.back) p ge ∙ held_before eq s.low (s ∷ t.back) p tail.2 (omega arith) (omega arith) in
      let skipped = rest_skip laws l h m l x.high (x ∷ s ∷ t.back) (drop j now) (omega arith) (λ p ge less. alters_below laws l h m (held (x ∷ s ∷ t.back) p) None le less (same_by laws (sym (none p ge less)))) (rest_drop laws l h m l x (s ∷ t.back) (drop j now) (omega arith) t.done) in
      let put-x = rest_put laws l h m x (x ∷ s ∷ t.back) (drop j now) tail.0 (λ p ge less. alters_below laws l h m (held (x ∷ s ∷ t.back) p) (Some x.value) le (omega arith) (same_held laws x.value x (s ∷ t.back) p ge less (laws.refl x.value))) skipped in
      subst (λ ys. Changed eq l h m ys (take prev now ++ put eq x (drop j now))) (sym was)
      (rest_end laws l h m x.low (take prev now) (x ∷ s ∷ t.back) (put eq x (drop j now)) (omega (arith, tail.0)) le split (omega arith)
      (ends_like (λ e. e ≤ x.low) (λ e. e ≤ l) (take prev now) (λ e less. omega (arith, tail.0)) (ends_before eq (take prev now) x (s ∷ t.back) split))
      (meets_like eq (take prev now) (x ∷ s ∷ t.back) _ (λ k u leads. put_leads laws k u x (drop j now) skipped.start leads) (canonical_meets eq (take prev now) (x ∷ s ∷ t.back) split))
      put-x)
