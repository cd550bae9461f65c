-- One call: ledgers that hold the same answer alike and then hold the same; and what a call makes of the turns.
use Rattle.std.proofs.Common.{◌≡◌, ℕ, ◌+◌, ◌<◌, ◌≤◌, Bool, true, false, cond, ◌&&◌, leb, Some, None, Option, sym, refl, ap, ◌∙◌, subst, arith}
use Rattle.std.proofs.lemmas.Bool.{false≢true, true≢false, cond-true, cond-false, cond_both, leb-true, leb-false}
use Rattle.std.specs.Cmp.{IsEquivalence}
use Rattle.lawful.specs.Equals.{same}
use Rattle.ledger.specs.Values.{Held, SameBelow, size}
use Rattle.ledger.specs.Ledger.{Call, insert, insert_disconnected, update, remove, get, intersects, list, Answer, ranges, declined, said, found, nothing, Alike, alike_ranges, alike_declined, alike_said, alike_found, alike_nothing, Proper, within, reaches, covers, effect, changed, Ledger, Outcome, accept, decline, offer, meets, outcome}
use Rattle.ledger.specs.Promise.{accepted}
use Rattle.ledger.proofs.Sums.{any_eq}
use Rattle.lawful.specs.EqualsLemmas.{same_refl, same_trans, same_is_some}
use Rattle.ledger.proofs.Alike.{size_same}
use Rattle.ledger.proofs.Lists.{within_in, within_out}
use Rattle.ledger.proofs.Turns.{turns, turns_made, Made}

-- two outcomes: like answers, and the same held
pub record Like {V : Type 0} (eq : V → V → Bool) (count : ℕ) (o u : Outcome V) : Type 0 where
  pub answers : Alike eq o.answer u.answer
  pub holds : SameBelow eq count o.held u.held

module _ {V : Type 0} (eq : V → V → Bool) (law : IsEquivalence eq) where
  pub alike_refl : (a : Answer V) → Alike eq a a
  alike_refl (ranges n) = alike_ranges
  alike_refl (declined n) = alike_declined
  alike_refl (said b) = alike_said
  alike_refl (found o) = alike_found (same_refl eq law o)
  alike_refl nothing = alike_nothing

  found_trans : {o u : Option V} {c : Answer V} → same eq o u ≡ true → Alike eq (found u) c → Alike eq (found o) c
  found_trans {o} {u} e (alike_found {b = w} f) = alike_found (same_trans eq law o u w e f)

  pub alike_trans : {a b c : Answer V} → Alike eq a b → Alike eq b c → Alike eq a c
  alike_trans alike_ranges k = k
  alike_trans alike_declined k = k
  alike_trans alike_said k = k
  alike_trans (alike_found e) k = found_trans e k
  alike_trans alike_nothing k = k

  pub alike_accepted : {a b : Answer V} → Alike eq a b → accepted a ≡ accepted b
  alike_accepted alike_ranges = refl
  alike_accepted alike_declined = refl
  alike_accepted alike_said = refl
  alike_accepted (alike_found e) = refl
  alike_accepted alike_nothing = refl

  pub alike_declines : {a b : Answer V} (n : ℕ) → Alike eq a b → a ≡ declined n → b ≡ declined n
  alike_declines n alike_ranges e = e
  alike_declines n alike_declined e = e
  alike_declines n alike_said e = e
  alike_declines n (alike_found f) e = let z : ◌≡◌ {A = ℕ} 0 1 = cc in let y : ⊥ = omega arith in absurd y
  alike_declines n alike_nothing e = e

  pub effect_same : (count : ℕ) (c : Call V) → Proper eq count c → (a b : Option V) → same eq a b ≡ true → same eq (effect c a) (effect c b) ≡ true
  effect_same count (insert low high v) l a b e = law.refl v
  effect_same count (insert_disconnected low high v) l a b e = law.refl v
  effect_same count (update low high f) l a b e = l.1 a b e
  effect_same count (remove low high) l a b e = refl
  effect_same count (get q) l a b e = e
  effect_same count (intersects low high) l a b e = e
  effect_same count list l a b e = e

  cond_same : (t : Bool) (a b c d : Option V) → same eq a b ≡ true → same eq c d ≡ true → same eq (cond t a c) (cond t b d) ≡ true
  cond_same true a b c d e f = e
  cond_same false a b c d e f = f

module _ {V : Type 0} (eq : V → V → Bool) (law : IsEquivalence eq) (count : ℕ) where
  pub same_below_trans : (h k l : Held V) → SameBelow eq count h k → SameBelow eq count k l → SameBelow eq count h l
  same_below_trans h k l e f p i = same_trans eq law (h p) (k p) (l p) (e p i) (f p i)

  pub changed_same : (c : Call V) → Proper eq count c → (h k : Held V) → SameBelow eq count h k → SameBelow eq count (changed c h) (changed c k)
  changed_same c l h k s p i = cond_same eq law (covers c p) _ _ _ _ (effect_same eq law count c l (h p) (k p) (s p i)) (s p i)

  pub meets_same : (h k : Held V) (t : ℕ → Bool) → SameBelow eq count h k → meets count h t ≡ meets count k t
  meets_same h k t s = any_eq _ _ count (λ p i. ap (λ b. t p && b) (same_is_some eq law (h p) (k p) (s p i)))

  like_cond : (s t : Bool) (x y z w : Outcome V) → s ≡ t → Like eq count x z → Like eq count y w → Like eq count (cond s x y) (cond t z w)
  like_cond true true x y z w e p q = p
  like_cond true false x y z w e p q = absurd (true≢false e)
  like_cond false true x y z w e p q = absurd (false≢true e)
  like_cond false false x y z w e p q = q

  module _ (slots : ℕ) where
    abbrev with : Held V → Ledger V
    with h = record { slots = slots; held = h }

    offer_like : (h k m n : Held V) → SameBelow eq count h k → SameBelow eq count m n → Like eq count (offer eq count (with h) m) (offer eq count (with k) n)
    offer_like h k m n s t =
        like_cond _ _ _ _ _ _ (ap (λ i. leb i slots) e)
        (record { answers = subst (λ (i : ℕ). Alike eq (ranges (size eq m count)) (ranges i)) e alike_ranges; holds = t })
        (record { answers = alike_declined; holds = s })
      where
        e : size eq m count ≡ size eq n count
        e = size_same eq law count m n t

    pub outcome_like : (c : Call V) → Proper eq count c → (h k : Held V) → SameBelow eq count h k →
        Like eq count (outcome eq count (with h) c) (outcome eq count (with k) c)
    outcome_like (insert low high v) l h k s = offer_like h k _ _ s (changed_same (insert low high v) l h k s)
    outcome_like (insert_disconnected low high v) l h k s =
        like_cond _ _ _ _ _ _ refl (record { answers = alike_declined; holds = s })
        (like_cond _ _ _ _ _ _ (meets_same h k (reaches low high) s) (record { answers = alike_declined; holds = s })
        (offer_like h k _ _ s (changed_same (insert_disconnected low high v) l h k s)))
    outcome_like (update low high f) l h k s = offer_like h k _ _ s (changed_same (update low high f) l h k s)
    outcome_like (remove low high) l h k s = offer_like h k _ _ s (changed_same (remove low high) l h k s)
    outcome_like (get p) l h k s = record { answers = alike_found (s p l); holds = s }
    outcome_like (intersects low high) l h k s =
        record { answers = subst (λ (b : Bool). Alike eq (said (meets count h (within low high))) (said b)) (meets_same h k (within low high) s) alike_said; holds = s }
    outcome_like list l h k s = record { answers = alike_nothing; holds = s }

    -- the ways of an offer, and of insert_disconnected
    pub by_offer : (P : Outcome V → Type 0) (h m : Held V) → (size eq m count ≤ slots → P (accept eq count m)) →
        (slots < size eq m count → P (decline (with h) 11)) → P (offer eq count (with h) m)
    by_offer P h m f g =
        cond_both (leb (size eq m count) slots) (accept eq count m) (decline (with h) 11) P
        (λ e. f (leb-true (size eq m count) slots e)) (λ e. g (leb-false (size eq m count) slots e))

    pub by_disconnected : (P : Outcome V → Type 0) (h : Held V) (low high : ℕ) (v : V) → (high ≤ low → P (decline (with h) 9)) →
        (low < high → meets count h (reaches low high) ≡ true → P (decline (with h) 10)) →
        (low < high → meets count h (reaches low high) ≡ false → P (offer eq count (with h) (changed (insert_disconnected low high v) h))) →
        P (outcome eq count (with h) (insert_disconnected low high v))
    by_disconnected P h low high v f g k =
        let O : Outcome V = offer eq count (with h) (changed (insert_disconnected low high v) h) in
        let m : Bool = meets count h (reaches low high) in
        cond_both (leb high low) (decline (with h) 9) (cond m (decline (with h) 10) O) P (λ e. f (leb-true high low e))
        (λ e. cond_both m (decline (with h) 10) O P (g (leb-false high low e)) (k (leb-false high low e)))

    -- what an outcome holds: the change at the places that it covers, if it was accepted
    abbrev Moved : Call V → Held V → Outcome V → Type 0
    Moved c h o = (p : ℕ) → o.held p ≡ cond (accepted o.answer && covers c p) (effect c (h p)) (h p)

    offer_moved : (c : Call V) (h : Held V) → Moved c h (offer eq count (with h) (changed c h))
    offer_moved c h = by_offer (Moved c h) h (changed c h) (λ e p. refl) (λ e p. refl)

    pub outcome_moved : (c : Call V) (h : Held V) → Moved c h (outcome eq count (with h) c)
    outcome_moved (insert low high v) h = offer_moved (insert low high v) h
    outcome_moved (insert_disconnected low high v) h =
        by_disconnected (Moved (insert_disconnected low high v) h) h low high v (λ e p. refl) (λ e f p. refl) (λ e f. offer_moved (insert_disconnected low high v) h)
    outcome_moved (update low high f) h = offer_moved (update low high f) h
    outcome_moved (remove low high) h = offer_moved (remove low high) h
    outcome_moved (get q) h = λ p. refl
    outcome_moved (intersects low high) h = λ p. refl
    outcome_moved list h = λ p. refl

    -- declined as Full, the result of the change had a size above the slots
    abbrev Fulls : Call V → Held V → Outcome V → Type 0
    Fulls c h o = o.answer ≡ declined 11 → slots < size eq (changed c h) count

    differ : (m n : ℕ) → (m ≡ n → ⊥) → ◌≡◌ {A = Answer V} (declined m) (declined n) → ⊥
    differ m n d e = d (cc)

    never : (a : Answer V) (P : Type 0) → accepted a ≡ true → a ≡ declined 11 → P
    never a P t e = absurd (false≢true (sym (ap accepted e) ∙ t))

    offer_fulls : (c : Call V) (h : Held V) → Fulls c h (offer eq count (with h) (changed c h))
    offer_fulls c h = by_offer (Fulls c h) h (changed c h) (λ e. never (ranges (size eq (changed c h) count)) _ refl) (λ e f. e)

    pub outcome_fulls : (c : Call V) (h : Held V) → Fulls c h (outcome eq count (with h) c)
    outcome_fulls (insert low high v) h = offer_fulls (insert low high v) h
    outcome_fulls (insert_disconnected low high v) h =
        by_disconnected (Fulls (insert_disconnected low high v) h) h low high v (λ e f. absurd (differ 9 11 (omega arith) f))
        (λ e k f. absurd (differ 10 11 (omega arith) f)) (λ e k. offer_fulls (insert_disconnected low high v) h)
    outcome_fulls (update low high f) h = offer_fulls (update low high f) h
    outcome_fulls (remove low high) h = offer_fulls (remove low high) h
    outcome_fulls (get q) h = λ e. let z : ◌≡◌ {A = ℕ} 0 1 = cc in let y : ⊥ = omega arith in absurd y
    outcome_fulls (intersects low high) h = λ e. let z : ◌≡◌ {A = ℕ} 0 1 = cc in let y : ⊥ = omega arith in absurd y
    outcome_fulls list h = λ e. let z : ◌≡◌ {A = ℕ} 0 1 = cc in let y : ⊥ = omega arith in absurd y

  -- a call adds at most two turns
  range_made : (low high : ℕ) (f : Option V → Option V) (h : Held V) → Made count (λ p. cond (within low high p) (f (h p)) (h p)) h low high f
  range_made low high f h =
      record { inside = λ p i a b. cond-true _ _ _ (within_in low high p a b); outside = λ p i o. cond-false _ _ _ (within_out low high p o) }

  range_turns : (low high : ℕ) (f : Option V → Option V) (h : Held V) → ((a b : Option V) → same eq a b ≡ true → same eq (f a) (f b) ≡ true) →
      turns eq (λ p. cond (within low high p) (f (h p)) (h p)) count ≤ turns eq h count + 2
  range_turns low high f h r = turns_made eq law count (λ p. cond (within low high p) (f (h p)) (h p)) h low high f (range_made low high f h) r

  pub changed_turns : (c : Call V) → Proper eq count c → (h : Held V) → turns eq (changed c h) count ≤ turns eq h count + 2
  changed_turns (insert low high v) l h = range_turns low high (λ o. Some v) h (effect_same eq law count (insert low high v) l)
  changed_turns (insert_disconnected low high v) l h = range_turns low high (λ o. Some v) h (effect_same eq law count (insert_disconnected low high v) l)
  changed_turns (update low high f) l h = range_turns low high f h l.1
  changed_turns (remove low high) l h = range_turns low high (λ o. None) h (λ a b e. refl)
  changed_turns (get q) l h = omega arith
  changed_turns (intersects low high) l h = omega arith
  changed_turns list l h = omega arith
