-- Every run from the empty list keeps the promise.
use Rattle.std.specs.Cmp.{IsEquivalence}
use Rattle.std.proofs.Common.{◌≡◌, ℕ, suc, ◌+◌, ◌-◌, ◌*◌, ◌<◌, ◌≤◌, Bool, true, false, cond, ◌&&◌, List, [], ◌∷◌, ◌++◌, length, None, sym, refl, ap, ◌∙◌, subst, arith}
use mathlib.Core.Path.{fun_ext}
use Rattle.ledger.specs.Values.{Held, SameBelow}
use Rattle.ledger.specs.Ledger.{declined, Alike, Proper, covers, effect, changed, outcome}
use Rattle.ledger.specs.Spans.{Span, held, Canonical}
use Rattle.ledger.specs.Promise.{Event, accepted, changes, Step, Link, Run, AnswersAlike, made, Promise, EveryRunKeeps}
use Rattle.lawful.specs.EqualsLemmas.{same_sym, same_trans}
use Rattle.ledger.proofs.Alike.{size_same}
use Rattle.ledger.proofs.Lists.{size_canonical, least_canonical}
use Rattle.ledger.proofs.Turns.{turns, turns_none, size_few}
use Rattle.ledger.proofs.Gaps.{gaps_rise, gaps_apart, listed_rises, listed_same}
use Rattle.ledger.proofs.Steps.{alike_trans, alike_accepted, alike_declines, same_below_trans, changed_same, outcome_like, outcome_moved, outcome_fulls, changed_turns}

module _ {V : Type 0} (eq : V → V → Bool) (law : IsEquivalence eq) (count slots : ℕ) where
  -- what an event makes of what is held
  abbrev moved : Event V → Held V → Held V
  moved e h p = cond (accepted e.answer && covers e.call p) (effect e.call (h p)) (h p)

  -- a ledger that held h, and a list that held the same, after the events
  record Follows (h : Held V) (es : List (Event V)) (ys : List (Span V)) : Type 0 where
    answers : AnswersAlike eq count (record { slots = slots; held = h }) es
    canonical : Canonical eq count ys
    holds : SameBelow eq count (held ys) (λ p. made (h p) es p)
    few : turns eq (λ p. made (h p) es p) count ≤ turns eq h count + 2 * changes es

  moved_turns : (e : Event V) → Proper eq count e.call → (h : Held V) → turns eq (moved e h) count ≤ turns eq h count + 2 * cond (accepted e.answer) 1 0
  moved_turns e q h = go (accepted e.answer)
    where
      go : (t : Bool) → turns eq (λ p. cond (t && covers e.call p) (effect e.call (h p)) (h p)) count ≤ turns eq h count + 2 * cond t 1 0
      go true = changed_turns eq law count e.call q h
      go false = omega arith

  -- after one call, the ledger holds what the event makes
  moved_is : (e : Event V) (h : Held V) → Alike eq e.answer (outcome eq count (record { slots = slots; held = h }) e.call).answer →
      (outcome eq count (record { slots = slots; held = h }) e.call).held ≡ moved e h
  moved_is e h a =
      fun_ext (λ p. outcome_moved eq law count slots e.call h p ∙
      ap (λ t. cond (t && covers e.call p) (effect e.call (h p)) (h p)) (sym (alike_accepted eq law a)))

  follows : (es : List (Event V)) (xs ys : List (Span V)) (h : Held V) → Canonical eq count xs → SameBelow eq count (held xs) h →
      Run eq count slots xs es ys → Follows h es ys
  follows [] xs ys h c s r =
      record {
        answers = tt;
        canonical = subst (Canonical eq count) r c;
        holds = subst (λ (zs : List (Span V)). SameBelow eq count (held zs) h) r s;
        few = omega arith;
      }
  follows (e ∷ es) xs ys h c s r =
      let step : Step eq count slots xs e r.0 = r.2 c in
      let like = outcome_like eq law count slots e.call r.1 (held xs) h s in
      let a = alike_trans eq law step.answers like.answers in
      let i =
      follows es r.0 ys (then h) step.canonical (same_below_trans eq law count (held r.0) (then (held xs)) (then h) step.holds like.holds) r.3 in
      let j : Follows (moved e h) es ys = subst (λ (k : Held V). Follows k es ys) (moved_is e h a) i in
      let t = moved_turns e r.1 h in
      let f = j.few in
      record { answers = (a, i.answers); canonical = j.canonical; holds = j.holds; few = omega arith }
    where
      then : Held V → Held V
      then k = (outcome eq count (record { slots = slots; held = k }) e.call).held

  -- the run up to an event, and the event
  pub split : (es : List (Event V)) (e : Event V) (fs : List (Event V)) (xs ys : List (Span V)) → Run eq count slots xs (es ++ (e ∷ fs)) ys →
      (us : List (Span V)) × (vs : List (Span V)) × Run eq count slots xs es us × Proper eq count e.call × Link eq count slots us e vs
  split [] e fs xs ys r = (xs, r.0, refl, r.1, r.2)
  split (d ∷ es) e fs xs ys r =
      let i = split es e fs r.0 ys r.3 in
      (i.0, i.1, (r.0, r.1, r.2, i.2), i.3, i.4)

  canonical_new : Canonical eq count []
  canonical_new = record { rises = omega arith; parted = tt }

  from_new : (es : List (Event V)) (ys : List (Span V)) → Run eq count slots [] es ys → Follows (λ p. None) es ys
  from_new es ys r = follows es [] ys (λ p. None) canonical_new (λ p l. refl) r

  -- the list at the end of a run is canonical
  pub run_canonical : (es : List (Event V)) (ys : List (Span V)) → Run eq count slots [] es ys → Canonical eq count ys
  run_canonical es ys r = (from_new es ys r).canonical

  -- the length of the list is at most twice the changes less one
  few_ranges : (es : List (Event V)) (ys : List (Span V)) → Follows (λ p. None) es ys → length ys ≤ 2 * changes es - 1
  few_ranges es ys f =
      let a = size_canonical eq law count ys f.canonical in
      let b = size_same eq law count (held ys) (λ p. made None es p) f.holds in
      let t = f.few in
      let z = turns_none eq law count in
      let d = size_few eq law (λ p. made None es p) count (changes es) (omega arith) in
      omega arith

  -- a change that is declined as Full came after many
  full_late : (es : List (Event V)) (e : Event V) (us vs : List (Span V)) → Follows (λ p. None) es us → Proper eq count e.call → Step eq count slots us e vs →
      e.answer ≡ declined 11 → slots < 2 * suc (changes es) - 1
  full_late es e us vs f q s d =
      let k : Held V = λ p. made None es p in
      let a = outcome_fulls eq law count slots e.call (held us) (alike_declines eq law 11 s.answers d) in
      let b = size_same eq law count (changed e.call (held us)) (changed e.call k) (changed_same eq law count e.call q (held us) k f.holds) in
      let t = f.few in
      let z = turns_none eq law count in
      let u = changed_turns eq law count e.call q k in
      let c = size_few eq law (changed e.call k) count (suc (changes es)) (omega arith) in
      omega arith

  pub keeps : (es : List (Event V)) (xs : List (Span V)) → Run eq count slots [] es xs → Promise eq count slots es xs
  keeps es xs r =
      let f = from_new es xs r in
      let rises = f.canonical.rises in
      record {
        answers = f.answers;
        values = f.holds;
        listed = λ p l. listed_same eq law (held xs p) (made None es p) _ _ (f.holds p l) (listed_rises eq law 0 count xs rises p (omega arith) l);
        ranges_rise = rises;
        gaps_rise = gaps_rise 0 count xs rises;
        gaps_apart = gaps_apart 0 count xs rises;
        least = λ ys once s.
            least_canonical eq law count xs ys f.canonical once
            (λ p l. same_trans eq law (held ys p) (made None es p) (held xs p) (s p l) (same_sym eq law (held xs p) (made None es p) (f.holds p l)));
        few = λ n l e. let a = few_ranges es xs f in omega arith;
        room = λ n l m earlier later e q c d.
            let s = split earlier e later [] xs (subst (λ (fs : List (Event V)). Run eq count slots [] fs xs) q r) in
            let f = from_new earlier s.0 s.2 in
            let a = full_late earlier e s.0 s.1 f s.3 (s.4 f.canonical) d in omega arith;
      }

pub every_run_keeps_lem : {V : Type 0} (eq : V → V → Bool) → IsEquivalence eq → EveryRunKeeps eq
every_run_keeps_lem eq law count slots es xs r = keeps eq law count slots es xs r
