-- A span put in front of a list, and a list's end replaced.
use Rattle.std.specs.Cmp.{IsEquivalence}
use Rattle.std.proofs.Common.{◌≡◌, ℕ, suc, ◌<◌, ◌≤◌, min, max, Bool, true, false, cond, ◌&&◌, ltb, leb, List, [], ◌∷◌, ◌++◌, Some, Option, sym, refl, ap, ◌∙◌, subst, ⊎_elim, arith}
use Rattle.std.proofs.lemmas.Bool.{and_from, and_left, and_right, and_parts, and_cases, leb-true, ltb-true, le-leb, lt-ltb, cond-true, cond-false, cond_both, cases_lt, cases_Bool, both_ways}
use Rattle.ledger.specs.Ledger.{within}
use Rattle.ledger.specs.Spans.{Span, held}
use Rattle.rangemap.specs.Spans.{span, joined, near, Same, Precedes, Leads, Tight, From, put}
use Rattle.lawful.specs.EqualsLemmas.{same_refl as alike_refl, same_sym as alike_sym, same_trans as alike_trans}
use Rattle.rangemap.proofs.Held.{held_at, held_low, held_high}

-- What it is to be near, in numbers.
module _ {V : Type 0} (s t : Span V) where
  pub near_parts : near s t ≡ true → (s.low < s.high) × (t.low < t.high) × (s.low ≤ t.high) × (t.low ≤ s.high)
  near_parts e =
      let both = and_parts (ltb s.low s.high && ltb t.low t.high) (leb t.low s.high && leb s.low t.high) e in
      let full = and_parts (ltb s.low s.high) (ltb t.low t.high) both.0 in
      let meet = and_parts (leb t.low s.high) (leb s.low t.high) both.1 in
      (ltb-true s.low s.high full.0, ltb-true t.low t.high full.1, leb-true s.low t.high meet.1, leb-true t.low s.high meet.0)

  pub near_from : s.low < s.high → t.low < t.high → s.low ≤ t.high → t.low ≤ s.high → near s t ≡ true
  near_from x y z w =
      and_from _ _ (and_from _ _ (lt-ltb s.low s.high x) (lt-ltb t.low t.high y)) (and_from _ _ (le-leb t.low s.high w) (le-leb s.low t.high z))

module _ {V : Type 0} {eq : V → V → Bool} (laws : IsEquivalence eq) where
  pub same_refl : (a : Option V) → Same eq a a
  same_refl a = alike_refl eq laws a

  pub same_sym : (a b : Option V) → Same eq a b → Same eq b a
  same_sym a b e = alike_sym eq laws a b e

  pub same_trans : (a b c : Option V) → Same eq a b → Same eq b c → Same eq a c
  same_trans a b c e f = alike_trans eq laws a b c e f

  pub same_at : {a b x y : Option V} → x ≡ a → y ≡ b → Same eq a b → Same eq x y
  same_at {a} {b} {x} {y} p q e = subst (λ z. Same eq z y) (sym p) (subst (λ z. Same eq a z) (sym q) e)

  pub same_by : {a b : Option V} → a ≡ b → Same eq a b
  same_by {b = b} p = same_at p refl (same_refl b)

  -- a value that equals the first span's, at a place of that span
  pub same_held : (w : V) (s : Span V) (ss : List (Span V)) (p : ℕ) → s.low ≤ p → p < s.high → eq w s.value ≡ true → Same eq (Some w) (held (s ∷ ss) p)
  same_held w s ss p le lt e = same_at {a = Some w} {b = Some s.value} refl (held_at s ss p le lt) e

  -- what differs from v differs from what equals v
  pub unequal_like : (u v w : V) → eq u v ≡ false → eq v w ≡ true → eq u w ≡ false
  unequal_like u v w ne e =
      ⊎_elim (λ t. absurd (both_ways (eq u v) ne (laws.congr u w v t ∙ (laws.symm w v ∙ e)))) (λ f. f) (cases_Bool (eq u w))

  -- the same front keeps lists the same
  pub same_after : (xs ys zs : List (Span V)) (p : ℕ) → Same eq (held ys p) (held zs p) → Same eq (held (xs ++ ys) p) (held (xs ++ zs) p)
  same_after [] ys zs p e = e
  same_after (s ∷ ss) ys zs p e =
      elim (within s.low s.high p)
      as (λ b. Same eq (cond b (Some s.value) (held (ss ++ ys) p)) (cond b (Some s.value) (held (ss ++ zs) p)))
      [ true ↦ laws.refl s.value | false ↦ same_after ss ys zs p e ]

  -- `put`, by whether it joins
  pub put_joins : (s t : Span V) (ts : List (Span V)) → near s t ≡ true → eq s.value t.value ≡ true → put eq s (t ∷ ts) ≡ joined s t ∷ ts
  put_joins s t ts near same = cond-true _ _ _ (and_from _ _ near same)

  pub put_stays : (s t : Span V) (ts : List (Span V)) → (near s t ≡ true → eq s.value t.value ≡ false) → put eq s (t ∷ ts) ≡ s ∷ t ∷ ts
  put_stays s t ts apart =
      let close = near s t in
      let same = eq s.value t.value in
      let no : (close && same) ≡ false = ⊎_elim (λ e. and_right close same (apart e)) (λ e. and_left close same e) (cases_Bool close) in
      cond-false (close && same) (joined s t ∷ ts) (s ∷ t ∷ ts) no

  -- where t starts no earlier than s ends, they join where they touch
  touching : (s t : Span V) → s.high ≤ t.low → near s t ≡ true → (s.high ≡ t.low) × (joined s t ≡ span s.low t.high t.value)
  touching s t from close =
      let parts = near_parts s t close in
      let low : min t.low s.low ≡ s.low = omega (arith, parts.0, from) in
      let high : max t.high s.high ≡ t.high = omega (arith, parts.1, from) in
      (omega (arith, parts.3, from), ap (λ k. span k (max t.high s.high) t.value) low ∙ ap (λ k. span s.low k t.value) high)

  pub put_cases : (P : List (Span V) → Type 0) (s t : Span V) (ts : List (Span V)) → s.high ≤ t.low → (s.high ≡ t.low → t.low < t.high → eq s.value t.value ≡ true → P (span s.low t.high t.value ∷ ts)) → ((s.low < s.high → t.low < t.high → s.high ≡ t.low → eq s.value t.value ≡ false) → P (s ∷ t ∷ ts)) → P (put eq s (t ∷ ts))
  put_cases P s t ts from joins stays = cond_both (near s t && eq s.value t.value) _ _ P
      (λ b. let both = and_parts _ _ b in let is = touching s t from both.0 in subst (λ x. P (x ∷ ts)) (sym is.1) (joins is.0 (near_parts s t both.0).1 both.1))
      (λ b. stays (λ full next touch. ⊎_elim (λ far. absurd (both_ways _ far (near_from s t full next (omega arith) (omega arith)))) (λ f. f) (and_cases _ _ b)))

  pub put_canonical : (s : Span V) (ys : List (Span V)) → s.low < s.high → From s.high ys → Tight eq ys → Tight eq (put eq s ys)
  put_canonical s [] full from canonical = (full, tt, tt)
  put_canonical s (t ∷ ts) full from canonical =
      put_cases (Tight eq) s t ts from
      (λ e next _. (omega arith, canonical.1, canonical.2))
      (λ ne. (full, record { order = from; apart = ne full canonical.0 }, canonical))

  -- what s follows, the whole may follow too
  pub put_leads : (h : ℕ) (u : V) (s : Span V) (ys : List (Span V)) → From s.high ys → Precedes eq h u s.low s.value → Leads eq h u (put eq s ys)
  put_leads h u s [] from leads = leads
  put_leads h u s (t ∷ ts) from leads =
      put_cases (Leads eq h u) s t ts from
      (λ _ _ e. record { order = leads.order; apart = λ touch. unequal_like u s.value t.value (leads.apart touch) e })
      (λ _. leads)

  pub put_from : (b : ℕ) (s : Span V) (ys : List (Span V)) → From s.high ys → b ≤ s.low → From b (put eq s ys)
  put_from b s [] from le = le
  put_from b s (t ∷ ts) from le = put_cases (From b) s t ts from (λ _ _ _. le) (λ _. le)

  -- a span that ends before the list is simply put in front
  pub put_apart : (s : Span V) (ys : List (Span V)) → From (suc s.high) ys → put eq s ys ≡ s ∷ ys
  put_apart s [] from = refl
  put_apart s (t ∷ ts) from = put_stays s t ts (λ close. let parts = near_parts s t close in absurd (omega (arith, parts.3, from)))

  -- two spans that touch, as one
  held_joined : (s t : Span V) (ts : List (Span V)) (p : ℕ) → s.low < s.high → s.high ≡ t.low → t.low < t.high → eq s.value t.value ≡ true → Same eq (held (span s.low t.high t.value ∷ ts) p) (held (s ∷ t ∷ ts) p)
  held_joined s t ts p full touch next same =
      ⊎_elim before (λ from. ⊎_elim (first from) (λ past. ⊎_elim (second past) after (cases_lt p t.high)) (cases_lt p s.high)) (cases_lt p s.low)
    where
      before : p < s.low → Same eq (held (span s.low t.high t.value ∷ ts) p) (held (s ∷ t ∷ ts) p)
      before lt =
          let past : p < t.low = omega arith in
          same_by (held_low (span s.low t.high t.value) ts p lt ∙ sym (held_low s (t ∷ ts) p lt ∙ held_low t ts p past))

      first : s.low ≤ p → p < s.high → Same eq (held (span s.low t.high t.value ∷ ts) p) (held (s ∷ t ∷ ts) p)
      first le lt = same_at (held_at (span s.low t.high t.value) ts p le (omega arith)) (held_at s (t ∷ ts) p le lt) (laws.symm t.value s.value ∙ same)

      second : s.high ≤ p → p < t.high → Same eq (held (span s.low t.high t.value ∷ ts) p) (held (s ∷ t ∷ ts) p)
      second le lt = same_by (held_at (span s.low t.high t.value) ts p (omega arith) lt ∙ sym (held_high s (t ∷ ts) p le ∙ held_at t ts p (omega arith) lt))

      after : t.high ≤ p → Same eq (held (span s.low t.high t.value ∷ ts) p) (held (s ∷ t ∷ ts) p)
      after le = same_by (held_high (span s.low t.high t.value) ts p le ∙ sym (held_high s (t ∷ ts) p (omega arith) ∙ held_high t ts p le))

  pub held_put : (s : Span V) (ys : List (Span V)) (p : ℕ) → s.low < s.high → From s.high ys → Same eq (held (put eq s ys) p) (held (s ∷ ys) p)
  held_put s [] p full from = same_refl (held (s ∷ []) p)
  held_put s (t ∷ ts) p full from =
      put_cases (λ zs. Same eq (held zs p) (held (s ∷ t ∷ ts) p)) s t ts from
      (λ e next same. held_joined s t ts p full e next same)
      (λ _. same_refl (held (s ∷ t ∷ ts) p))
