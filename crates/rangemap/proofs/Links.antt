-- The ledger's canonical lists and the walk's tight ones, and a changed list as a step of the ledger.
use Rattle.std.proofs.Common.{◌≡◌, ℕ, ◌-◌, ◌<◌, ◌≤◌, Bool, true, cond, List, [], ◌∷◌, length, Some, None, Option, sym, refl, ◌∙◌, subst, ⊎_elim, arith}
use Rattle.std.proofs.lemmas.Bool.{cases_lt, cond-true, cond-false, false≢true}
use Rattle.std.specs.Cmp.{IsEquivalence}
use Rattle.lawful.specs.Equals.{same}
use Rattle.ledger.specs.Values.{Held, SameBelow}
use Rattle.ledger.specs.Ledger.{Call, within, ranges, declined, offer, outcome}
use Rattle.ledger.specs.Spans.{Span, held, Rises, AllParted, Canonical}
use Rattle.ledger.specs.Promise.{Step}
use Rattle.ledger.proofs.Lists.{held_late, within_cases, within_in, within_out}
use Rattle.ledger.proofs.Calls.{book, Results, step_like, offer_accepted, offer_full}
use Rattle.rangemap.specs.Spans.{Tight, From, Changed}
use Rattle.rangemap.proofs.Held.{held_at, held_high, leads_from}
use Rattle.rangemap.proofs.Parts.{none_some}

module _ {V : Type 0} (eq : V → V → Bool) where
  rises_tight : (from count : ℕ) (xs : List (Span V)) → Rises from count xs → AllParted eq xs → Tight eq xs
  rises_tight from count [] rises parted = tt
  rises_tight from count (x ∷ []) rises parted = (rises.1, tt, tt)
  rises_tight from count (x ∷ y ∷ ys) rises parted =
      (rises.1, record { order = rises.2.0; apart = parted.0 }, rises_tight x.high count (y ∷ ys) rises.2 parted.1)

  pub canonical_tight : (count : ℕ) (xs : List (Span V)) → Canonical eq count xs → Tight eq xs
  canonical_tight count xs canonical = rises_tight 0 count xs canonical.rises canonical.parted

  tight_parted : (xs : List (Span V)) → Tight eq xs → AllParted eq xs
  tight_parted [] tight = tt
  tight_parted (x ∷ []) tight = (tt, tt)
  tight_parted (x ∷ y ∷ ys) tight = (tight.1.apart, tight_parted (y ∷ ys) tight.2)

  tight_rises : (from count : ℕ) (xs : List (Span V)) → from ≤ count → From from xs → Tight eq xs → ((p : ℕ) → count ≤ p → held xs p ≡ None) → Rises from count xs
  tight_rises from count [] le starts tight none = le
  tight_rises from count (x ∷ xs) le starts tight none =
      let last = x.high - 1 in
      let ends : x.high ≤ count = ⊎_elim (λ past. absurd (none_some x.value (sym (none last (omega arith)) ∙ held_at x xs last (omega (arith, tight.0)) (omega (arith, tight.0))))) (λ e. e) (cases_lt count x.high) in
      (starts, tight.0, tight_rises x.high count xs ends (leads_from eq x.high x.value xs tight.1) tight.2 (λ p past. sym (held_high x xs p (omega arith)) ∙ none p past))

  pub from_zero : (xs : List (Span V)) → From 0 xs
  from_zero [] = tt
  from_zero (x ∷ xs) = omega arith

  -- a tight list that holds nothing from `count` on
  pub tight_canonical : (count : ℕ) (xs : List (Span V)) → Tight eq xs → ((p : ℕ) → count ≤ p → held xs p ≡ None) → Canonical eq count xs
  tight_canonical count xs tight none = record { rises = tight_rises 0 count xs (omega arith) (from_zero xs) tight none; parted = tight_parted xs tight }

  same_none : (a : Option V) → same eq a None ≡ true → a ≡ None
  same_none None e = refl
  same_none (Some a) e = absurd (false≢true e)

-- The list xs, changed by f from l to below h, is ys.
module _ {V : Type 0} (eq : V → V → Bool) (laws : IsEquivalence eq) (count slots l h : ℕ) (f : Option V → Option V) (xs ys : List (Span V)) (canonical : Canonical eq count xs) (le : h ≤ count) (is : Changed eq l h f xs ys) where
  abbrev goal : Held V
  goal p = cond (within l h p) (f (held xs p)) (held xs p)

  pub changed_canonical : Canonical eq count ys
  changed_canonical = tight_canonical eq count ys is.canonical (λ p past. same_none eq (held ys p) (subst (λ o. same eq (held ys p) o ≡ true) (held_late 0 count xs canonical.rises p past) ((is.alters p).above (omega arith))))

  changed_holds : SameBelow eq count (held ys) goal
  changed_holds p below = ⊎_elim
      (λ in_it. subst (λ o. same eq (held ys p) o ≡ true) (sym (cond-true (within l h p) (f (held xs p)) (held xs p) (within_in l h p in_it.0 in_it.1))) ((is.alters p).inside in_it.0 in_it.1))
      (λ out. subst (λ o. same eq (held ys p) o ≡ true) (sym (cond-false (within l h p) (f (held xs p)) (held xs p) (within_out l h p out))) (⊎_elim (λ before. (is.alters p).below before) (λ past. (is.alters p).above past) out))
      (within_cases l h p)

  -- A call that offers this.
  module _ (c : Call V) (offers : outcome eq count (book eq laws count slots xs) c ≡ offer eq count (book eq laws count slots xs) goal) where
    pub step_accepted : length ys ≤ slots → Step eq count slots xs (record { call = c; answer = ranges (length ys) }) ys
    step_accepted fits =
        step_like eq laws count slots xs c (ranges (length ys)) ys changed_canonical
        (subst (Results eq laws count slots xs (ranges (length ys)) ys) (sym offers) (offer_accepted eq laws count slots xs goal ys changed_canonical changed_holds fits))

    pub step_full : slots < length ys → Step eq count slots xs (record { call = c; answer = declined 11 }) xs
    step_full over =
        step_like eq laws count slots xs c (declined 11) xs canonical
        (subst (Results eq laws count slots xs (declined 11) xs) (sym offers) (offer_full eq laws count slots xs goal ys changed_canonical changed_holds over))
