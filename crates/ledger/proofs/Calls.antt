-- What a call's own proof shows, and the step that it makes.
use Rattle.std.proofs.Common.{◌≡◌, ℕ, ◌<◌, ◌≤◌, Bool, true, false, cond, ◌&&◌, leb, ◌⊎◌, List, [], ◌∷◌, ◌++◌, length, is_some, None, Option, sym, refl, ap, ◌∙◌, subst, inl, inr, arith}
use Rattle.std.proofs.lemmas.Bool.{cases_Bool, cond-true, cond-false, le-leb, lt-leb, and_from, and_parts, false≢true}
use Rattle.std.specs.Cmp.{IsEquivalence}
use Rattle.lawful.specs.Equals.{same}
use Rattle.ledger.specs.Values.{Held, SameBelow, size}
use Rattle.ledger.specs.Ledger.{Call, insert_disconnected, get, intersects, list, Answer, ranges, declined, said, found, nothing, Alike, alike_ranges, alike_declined, alike_said, alike_found, alike_nothing, Proper, within, reaches, changed, Ledger, Outcome, accept, decline, offer, meets, outcome}
use Rattle.ledger.specs.Spans.{Span, held, Canonical}
use Rattle.ledger.specs.Promise.{Event, Step, Link, Run, Keeps}
use Rattle.ledger.proofs.Sums.{any_decides}
use Rattle.lawful.specs.EqualsLemmas.{same_refl}
use Rattle.ledger.proofs.Alike.{size_same}
use Rattle.ledger.proofs.Lists.{size_canonical}
use Rattle.ledger.proofs.Steps.{Like}
use Rattle.ledger.proofs.Runs.{every_run_keeps_lem}

-- a place that passes the test and has a value; none that does
pub meets_yes : {V : Type 0} (count : ℕ) (h : Held V) (t : ℕ → Bool) (p : ℕ) → p < count → t p ≡ true → is_some (h p) ≡ true → meets count h t ≡ true
meets_yes count h t p l e f = (any_decides (λ p. t p && is_some (h p)) count).1 (p, l, and_from (t p) (is_some (h p)) e f)

pub meets_no : {V : Type 0} (count : ℕ) (h : Held V) (t : ℕ → Bool) → ((p : ℕ) → p < count → t p ≡ true → h p ≡ None) → meets count h t ≡ false
meets_no count h t n = go (cases_Bool (meets count h t))
  where
    go : (meets count h t ≡ true) ⊎ (meets count h t ≡ false) → meets count h t ≡ false
    go (inl e) =
        let w = (any_decides (λ p. t p && is_some (h p)) count).0 e in
        let b = and_parts (t w.0) (is_some (h w.0)) w.2 in
        absurd (false≢true (sym (ap is_some (n w.0 w.1 b.0)) ∙ b.1))
    go (inr e) = e

module _ {V : Type 0} (eq : V → V → Bool) (law : IsEquivalence eq) (count slots : ℕ) (xs : List (Span V)) where
  abbrev pub book : Ledger V
  book = record { slots = slots; held = held xs }

  abbrev pub Results : Answer V → List (Span V) → Outcome V → Type 0
  Results a ys o = Like eq count (record { answer = a; held = held ys }) o

  pub step_like : (c : Call V) (a : Answer V) (ys : List (Span V)) → Canonical eq count ys → Results a ys (outcome eq count book c) →
      Step eq count slots xs (record { call = c; answer = a }) ys
  step_like c a ys k l = record { canonical = k; answers = l.answers; holds = l.holds }

  declines : (n : ℕ) → Results (declined n) xs (decline book n)
  declines n = record { answers = alike_declined; holds = λ p l. same_refl eq law (held xs p) }

  -- a change is accepted with the list ys, if that is no longer than the slots
  pub offer_accepted : (m : Held V) (ys : List (Span V)) → Canonical eq count ys → SameBelow eq count (held ys) m → length ys ≤ slots →
      Results (ranges (length ys)) ys (offer eq count book m)
  offer_accepted m ys k s l =
      subst (Results (ranges (length ys)) ys) (sym (cond-true (leb (size eq m count) slots) (accept eq count m) (decline book 11) (le-leb (size eq m count) slots (omega (arith, e)))))
      (record { answers = subst (λ (n : ℕ). Alike eq (ranges (length ys)) (ranges n)) (sym e) alike_ranges; holds = s })
    where
      e : size eq m count ≡ length ys
      e = sym (size_same eq law count (held ys) m s) ∙ size_canonical eq law count ys k

  -- and else declined as Full, with the list as it was
  pub offer_full : (m : Held V) (zs : List (Span V)) → Canonical eq count zs → SameBelow eq count (held zs) m → slots < length zs →
      Results (declined 11) xs (offer eq count book m)
  offer_full m zs k s l =
      subst (Results (declined 11) xs) (sym (cond-false (leb (size eq m count) slots) (accept eq count m) (decline book 11) (lt-leb (size eq m count) slots (omega (arith, e)))))
      (declines 11)
    where
      e : size eq m count ≡ length zs
      e = sym (size_same eq law count (held zs) m s) ∙ size_canonical eq law count zs k

  module _ (low high : ℕ) (v : V) where
    abbrev rest : Outcome V
    rest = cond (meets count (held xs) (reaches low high)) (decline book 10) (offer eq count book (changed (insert_disconnected low high v) (held xs)))

    pub disconnected_empty : high ≤ low → Results (declined 9) xs (outcome eq count book (insert_disconnected low high v))
    disconnected_empty l = subst (Results (declined 9) xs) (sym (cond-true (leb high low) (decline book 9) rest (le-leb high low l))) (declines 9)

    disconnected_rest : (a : Answer V) (ys : List (Span V)) → low < high → Results a ys rest → Results a ys (outcome eq count book (insert_disconnected low high v))
    disconnected_rest a ys l r = subst (Results a ys) (sym (cond-false (leb high low) (decline book 9) rest (lt-leb high low l))) r

    pub disconnected_connected : low < high → meets count (held xs) (reaches low high) ≡ true →
        Results (declined 10) xs (outcome eq count book (insert_disconnected low high v))
    disconnected_connected l m = disconnected_rest (declined 10) xs l (subst (Results (declined 10) xs) (sym (cond-true _ _ _ m)) (declines 10))

    pub disconnected_offer : (a : Answer V) (ys : List (Span V)) → low < high → meets count (held xs) (reaches low high) ≡ false →
        Results a ys (offer eq count book (changed (insert_disconnected low high v) (held xs))) → Results a ys (outcome eq count book (insert_disconnected low high v))
    disconnected_offer a ys l m r = disconnected_rest a ys l (subst (Results a ys) (sym (cond-false _ _ _ m)) r)

  pub get_found : (p : ℕ) (o : Option V) → same eq o (held xs p) ≡ true → Results (found o) xs (outcome eq count book (get p))
  get_found p o e = record { answers = alike_found e; holds = λ p l. same_refl eq law (held xs p) }

  pub intersects_said : (low high : ℕ) (b : Bool) → b ≡ meets count (held xs) (within low high) → Results (said b) xs (outcome eq count book (intersects low high))
  intersects_said low high b e =
      record { answers = subst (λ (c : Bool). Alike eq (said b) (said c)) e alike_said; holds = λ p l. same_refl eq law (held xs p) }

  pub listed_nothing : Results nothing xs (outcome eq count book list)
  listed_nothing = record { answers = alike_nothing; holds = λ p l. same_refl eq law (held xs p) }

-- a link after a run makes a longer run
pub run_more : {V : Type 0} (eq : V → V → Bool) (count slots : ℕ) (es : List (Event V)) (e : Event V) (us xs ys : List (Span V)) →
    Run eq count slots us es xs → Proper eq count e.call → Link eq count slots xs e ys → Run eq count slots us (es ++ (e ∷ [])) ys
run_more eq count slots [] e us xs ys r q s = (ys, q, subst (λ (zs : List (Span _)). Link eq count slots zs e ys) (sym r) s, refl)
run_more eq count slots (d ∷ es) e us xs ys r q s = (r.0, r.1, r.2, run_more eq count slots es e r.0 xs ys r.3 q s)

-- so a call whose contract is a link keeps the promise, whatever led to it
pub link_keeps : {V : Type 0} (eq : V → V → Bool) → IsEquivalence eq → (count slots : ℕ) (xs : List (Span V)) (e : Event V) (ys : List (Span V)) →
    Proper eq count e.call → Link eq count slots xs e ys → Keeps eq count slots xs e ys
link_keeps eq law count slots xs e ys q s es r = every_run_keeps_lem eq law count slots (es ++ (e ∷ [])) ys (run_more eq count slots es e [] xs ys r q s)
