-- The steps of a backward walk over a canonical list, and its end.
use Rattle.std.specs.Cmp.{IsEquivalence}
use Rattle.std.proofs.Common.{◌≡◌, ℕ, ◌<◌, ◌≤◌, Bool, List, ◌∷◌, ◌++◌, Some, None, Option, sym, refl, ap, ◌∙◌, ⊎_elim, arith}
use Rattle.std.proofs.lemmas.Bool.{cases_lt}
use Rattle.ledger.specs.Spans.{Span, held}
use Rattle.rangemap.specs.Spans.{span, Same, Leads, Tight, From, Ends, Meets, put, put_made, Alters, Rest, Changed}
use Rattle.rangemap.proofs.Held.{held_at, held_high, held_past, held_before, from_less, canonical_left, canonical_right, canonical_append}
use Rattle.rangemap.proofs.Put.{same_refl, same_at, same_by, same_trans, same_after, put_canonical, put_from, held_put}

module _ {V : Type 0} {eq : V → V → Bool} (laws : IsEquivalence eq) (l h : ℕ) (m : Option V → Option V) where
  -- a change seen at other names of what is held
  alters_at : {p : ℕ} {a b x y : Option V} → x ≡ a → y ≡ b → Alters eq l h m p a b → Alters eq l h m p x y
  alters_at e f a = record {
    below = λ lt. same_at laws f e (a.below lt);
    inside = λ le lt. same_at laws f (ap m e) (a.inside le lt);
    above = λ le. same_at laws f e (a.above le);
  }

  -- what is held may be put by an equal value
  alters_like : {p : ℕ} (a b x : Option V) → Same eq x b → Alters eq l h m p a b → Alters eq l h m p a x
  alters_like a b x e alters = record {
    below = λ lt. same_trans laws x b a e (alters.below lt);
    inside = λ le lt. same_trans laws x b (m a) e (alters.inside le lt);
    above = λ le. same_trans laws x b a e (alters.above le);
  }

  -- outside the changed places
  pub alters_above : {p : ℕ} (a b : Option V) → l ≤ h → h ≤ p → Same eq b a → Alters eq l h m p a b
  alters_above a b le past e = record {
    below = λ lt. absurd (omega arith);
    inside = λ _ lt. absurd (omega arith);
    above = λ _. e;
  }

  pub alters_below : {p : ℕ} (a b : Option V) → l ≤ h → p < l → Same eq b a → Alters eq l h m p a b
  alters_below a b le before e = record {
    below = λ _. e;
    inside = λ from _. absurd (omega arith);
    above = λ past. absurd (omega arith);
  }

  pub alters_inside : {p : ℕ} (a b : Option V) → l ≤ p → p < h → Same eq b (m a) → Alters eq l h m p a b
  alters_inside a b from before e = record {
    below = λ lt. absurd (omega arith);
    inside = λ _ _. e;
    above = λ past. absurd (omega arith);
  }

  -- where the walk begins
  pub rest_start : (ys : List (Span V)) → l ≤ h → Tight eq ys → From h ys → Rest eq l h m h ys ys
  rest_start ys le canonical from = record {
    canonical = canonical;
    start = from;
    alters = λ p past. alters_above _ _ le past (same_refl laws (held ys p));
  }

  -- a span that ends by b goes
  pub rest_drop : (b : ℕ) (s : Span V) (ys zs : List (Span V)) → s.high ≤ b → Rest eq l h m b ys zs → Rest eq l h m b (s ∷ ys) zs
  rest_drop b s ys zs le rest = record {
    canonical = rest.canonical;
    start = rest.start;
    alters = λ p past. alters_at (held_high s ys p (omega arith)) refl (rest.alters p past);
  }

  -- a span that passes b, past the changed places, keeps its part from there on
  pub rest_cut : (b : ℕ) (s : Span V) (ys zs : List (Span V)) → l ≤ h → h ≤ b → s.low ≤ b → b < s.high → Leads eq s.high s.value zs → Rest eq l h m b ys zs → Rest eq l h m b (s ∷ ys) (span b s.high s.value ∷ zs)
  rest_cut b s ys zs le over low high leads rest = record {
    canonical = (high, leads, rest.canonical);
    start = omega arith;
    alters = λ p past. ⊎_elim (kept p past) (λ beyond. alters_at (held_high s ys p beyond) (held_high (span b s.high s.value) zs p beyond) (rest.alters p past)) (cases_lt p s.high);
  }
    where
      kept : (p : ℕ) → b ≤ p → p < s.high → Alters eq l h m p (held (s ∷ ys) p) (held (span b s.high s.value ∷ zs) p)
      kept p past lt = alters_above _ _ le (omega arith) (same_by laws (held_at (span b s.high s.value) zs p past lt ∙ sym (held_at s ys p (omega arith) lt)))

  -- down to c nothing is held
  pub rest_skip : (b c : ℕ) (ys zs : List (Span V)) → c ≤ b → ((p : ℕ) → c ≤ p → p < b → Alters eq l h m p (held ys p) None) → Rest eq l h m b ys zs → Rest eq l h m c ys zs
  rest_skip b c ys zs le none rest = record {
    canonical = rest.canonical;
    start = from_less eq c b zs le rest.start;
    alters = λ p past. ⊎_elim (λ lt. alters_at refl (held_before eq b zs p rest.canonical rest.start lt) (none p past lt)) (rest.alters p) (cases_lt p b);
  }

  -- a span is put in front
  pub rest_put : (x : Span V) (ys zs : List (Span V)) → x.low < x.high → ((p : ℕ) → x.low ≤ p → p < x.high → Alters eq l h m p (held ys p) (Some x.value)) → Rest eq l h m x.high ys zs → Rest eq l h m x.low ys (put eq x zs)
  rest_put x ys zs full here rest = record {
    canonical = put_canonical laws x zs full rest.start rest.canonical;
    start = put_from laws x.low x zs rest.start (omega arith);
    alters = λ p past. alters_like (held ys p) (held (x ∷ zs) p) (held (put eq x zs) p) (held_put laws x zs p full rest.start) (⊎_elim (λ lt. alters_at refl (held_at x zs p past lt) (here p past lt)) (λ over. alters_at refl (held_high x zs p over) (rest.alters p over)) (cases_lt p x.high));
  }

  -- what was made of the places from c to below b is put in front
  pub rest_made : (b c : ℕ) (made : Option V) (ys zs : List (Span V)) → c < b → ((p : ℕ) → c ≤ p → p < b → Alters eq l h m p (held ys p) made) → Rest eq l h m b ys zs → Rest eq l h m c ys (put_made eq c b made zs)
  rest_made b c None ys zs lt here rest = rest_skip b c ys zs (omega arith) here rest
  rest_made b c (Some v) ys zs lt here rest = rest_put (span c b v) ys zs lt here rest

  -- the walk's end: the front stays
  pub rest_end : (b : ℕ) (xs ys zs : List (Span V)) → b ≤ l → l ≤ h → Tight eq (xs ++ ys) → From b ys → Ends (λ e. e ≤ l) xs → Meets eq xs zs → Rest eq l h m b ys zs → Changed eq l h m (xs ++ ys) (xs ++ zs)
  rest_end b xs ys zs low le canonical from ends meets rest = record {
    canonical = canonical_append eq xs zs (canonical_left eq xs ys canonical) meets rest.canonical;
    alters = λ p. ⊎_elim (early p) (λ le. record {
      below = λ lt. same_after laws xs zs ys p ((rest.alters p le).below lt);
      inside = λ past lt. same_at laws (held_past l xs zs p ends past) (ap m (held_past l xs ys p ends past)) ((rest.alters p le).inside past lt);
      above = λ past. same_after laws xs zs ys p ((rest.alters p le).above past);
    }) (cases_lt p b);
  }
    where
      early : (p : ℕ) → p < b → Alters eq l h m p (held (xs ++ ys) p) (held (xs ++ zs) p)
      early p lt = alters_below _ _ le (omega arith) (same_after laws xs zs ys p (same_by laws (held_before eq b zs p rest.canonical rest.start lt ∙ sym (held_before eq b ys p (canonical_right eq xs ys canonical) from lt))))
