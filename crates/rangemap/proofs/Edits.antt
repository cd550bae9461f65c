-- The changes, linked to the ledger.
use Rattle.std.specs.Cmp.{IsEquivalence}
use Rattle.std.proofs.Common.{◌≡◌, ℕ, suc, ◌+◌, ◌<◌, ◌≤◌, Bool, true, false, cond, leb, ◌⊎◌, List, ◌∷◌, ◌++◌, length, take, None, Ok, Err, sym, ap, ◌∙◌, subst, ap₂, inl, inr, arith}
use Rattle.rangemap.specs.declared.decline.Decline.{Decline}
use Rattle.std.proofs.lemmas.Bool.{cases_Bool, cond-true, cond-false, and_parts, and_from, leb-true, le-leb}
use Rattle.std.proofs.lemmas.List.{map-append, take-map, drop-map}
use Rattle.std.proofs.lemmas.List.Edits.{length-insert}
use Rattle.std.specs.List.{insert}
use Rattle.ledger.specs.Values.{SameBelow}
use Rattle.ledger.specs.Ledger.{Call, remove, insert_disconnected, ranges, declined, within, reaches, meets, changed}
use Rattle.ledger.specs.Spans.{Span, held, Rises, Canonical}
use Rattle.ledger.specs.Promise.{Step}
use Rattle.lawful.specs.EqualsLemmas.{same_eq}
use Rattle.ledger.proofs.Calls.{step_like, offer_accepted, offer_full, meets_yes, meets_no, disconnected_empty, disconnected_connected, disconnected_offer}
use Rattle.ranges.specs.declared.range.any.AnyRange.{AnyRange}
use Rattle.rangemap.specs.declared.store.Store.{Store}
use Rattle.rangemap.specs.declared.item.Item.{Item}
use Rattle.rangemap.specs.Items.{span_at, spans}
use Rattle.rangemap.specs.Maps.{stored, Does}
use Rattle.rangemap.specs.Search.{Rising, Last, Stands, Searched}
use Rattle.rangemap.specs.Cuts.{Taken, cut}
use Rattle.rangemap.proofs.Helds.{held_stands, held_joined}
use Rattle.rangemap.proofs.Looks.{does_stay, len_listed, within_parts}
use Rattle.rangemap.proofs.Puts.{canonical_put, held_stored}
use Rattle.ranges.specs.Parts.{span as ends}
use Rattle.lawful.specs.declared.key.Key.{Ghosts}
use Rattle.rangemap.proofs.Takes.{held_cut, canonical_cut}

-- the places of the key are taken out of a map; `range` is the key, which holds a place
module _ {K V : Type 0} (keys : Ghosts K) (eq : V → V → Bool) (law : IsEquivalence eq) (m : Store K V) (key : AnyRange K) where
  abbrev taken_out : Call V
  taken_out = remove (ends keys key).low (ends keys key).high

  abbrev rest : List (Span V)
  rest = cut (ends keys key).low (ends keys key).high (stored keys m)

  -- nothing is held at those places, and the map stays
  remove_none : (k : ℕ) → k ≡ length m.items.items → (Rising (stored keys m) → (p : ℕ) → (ends keys key).low ≤ p → p < (ends keys key).high → held (stored keys m) p ≡ None) → Does keys eq m taken_out (ranges k) m
  remove_none k e n =
      subst (λ i. Does keys eq m taken_out (ranges i) m) (sym (e ∙ len_listed keys m))
      (does_stay keys eq law m taken_out (ranges (length (stored keys m)))
      (λ canonical. offer_accepted eq law keys.COUNT m.slots (stored keys m) (changed taken_out (held (stored keys m))) (stored keys m) canonical
      (λ p i. same_eq eq law _ _ (go (n (keys.COUNT, canonical.rises)) p (cases_Bool (within (ends keys key).low (ends keys key).high p)))) (omega (arith, len_listed keys m, m.few))))
    where
      go : ((p : ℕ) → (ends keys key).low ≤ p → p < (ends keys key).high → held (stored keys m) p ≡ None) → (p : ℕ) → (within (ends keys key).low (ends keys key).high p ≡ true) ⊎ (within (ends keys key).low (ends keys key).high p ≡ false) →
          held (stored keys m) p ≡ cond (within (ends keys key).low (ends keys key).high p) None (held (stored keys m) p)
      go none p (inl t) = let b = within_parts (ends keys key).low (ends keys key).high p t in none p b.0 b.1 ∙ sym (cond-true _ _ _ t)
      go none p (inr t) = sym (cond-false _ _ _ t)

  pub remove_bare : (k : ℕ) → (ends keys key).high ≤ (ends keys key).low → k ≡ length m.items.items → Does keys eq m taken_out (ranges k) m
  remove_bare k bare e = remove_none k e (λ rising p a b. let z : ⊥ = omega arith in absurd z)

  pub remove_missed : (range : AnyRange K) (i k : ℕ) → range ≡ key → (Rising (stored keys m) → Stands 0 (ends keys range).low (ends keys range).high (stored keys m) i) → k ≡ length m.items.items → Does keys eq m taken_out (ranges k) m
  remove_missed range i k same seen e =
      let there = subst (λ x. Rising (stored keys m) → Stands 0 (ends keys x).low (ends keys x).high (stored keys m) i) same seen in
      remove_none k e (λ rising p a b. held_stands 0 (ends keys key).low (ends keys key).high (stored keys m) i (there rising) p (omega arith) (omega arith))

  module _ (range : AnyRange K) (same : range ≡ key) (full : (ends keys range).low < (ends keys range).high) where
    abbrev key_full : (ends keys key).low < (ends keys key).high
    key_full = subst (λ x. (ends keys x).low < (ends keys x).high) same full

    rest_canonical : Canonical eq keys.COUNT (stored keys m) → Canonical eq keys.COUNT rest
    rest_canonical canonical = canonical_cut (ends keys key).low (ends keys key).high key_full eq keys.COUNT (stored keys m) canonical

    -- the places are cut out
    pub remove_taken : (n : Store K V) (k : ℕ) → n.slots ≡ m.slots → k ≡ length n.items.items → (Rising (stored keys m) → stored keys n ≡ rest) → Does keys eq m taken_out (ranges k) n
    remove_taken n k b e walked =
        record {
          slots = b;
          link = λ canonical.
              let f = walked (keys.COUNT, canonical.rises) in
              let d : Canonical eq keys.COUNT (stored keys n) = subst (Canonical eq keys.COUNT) (sym f) (rest_canonical canonical) in
              subst (λ i. Step eq keys.COUNT m.slots (stored keys m) (record { call = taken_out; answer = ranges i }) (stored keys n)) (sym (e ∙ len_listed keys n))
              (step_like eq law keys.COUNT m.slots (stored keys m) taken_out (ranges (length (stored keys n))) (stored keys n) d
              (offer_accepted eq law keys.COUNT m.slots (stored keys m) (changed taken_out (held (stored keys m))) (stored keys n) d
              (λ p i. same_eq eq law _ _ (ap (λ ys. held ys p) f ∙ held_cut (ends keys key).low (ends keys key).high (stored keys m) p)) (omega (arith, len_listed keys n, n.few, b))));
        }

    -- there is no slot for the result
    pub remove_full : (n : Store K V) (slots : ℕ) → n.slots ≡ m.slots → (Rising (stored keys m) → (n.items.items ≡ m.items.items) × (slots < length rest)) → m.slots ≤ slots → Does keys eq m taken_out (declined 11) n
    remove_full n slots b walked le =
        record {
          slots = b;
          link = λ canonical.
              let t = walked (keys.COUNT, canonical.rises) in
              subst (λ ys. Step eq keys.COUNT m.slots (stored keys m) (record { call = taken_out; answer = declined 11 }) ys) (sym (ap (spans keys) t.0))
              (step_like eq law keys.COUNT m.slots (stored keys m) taken_out (declined 11) (stored keys m) canonical
              (offer_full eq law keys.COUNT m.slots (stored keys m) (changed taken_out (held (stored keys m))) rest (rest_canonical canonical)
              (λ p i. same_eq eq law _ _ (held_cut (ends keys key).low (ends keys key).high (stored keys m) p)) (omega (arith, t.1))));
        }

-- declined, the items stay
pub remove_keeps : {K V : Type 0} (keys : Ghosts K) (low high slots : ℕ) (m : Store K V) (ys : List (Item K V)) (why : Decline) → Taken keys low high slots m.items.items ys (Err why) → Rises 0 keys.COUNT (stored keys m) → ys ≡ m.items.items
remove_keeps keys low high slots m ys why taken rises = (taken.1 (keys.COUNT, rises)).0

-- p is within the range, or just before or after it
reaches_parts : (low high p : ℕ) → reaches low high p ≡ true → (low ≤ p + 1) × (p < high + 1)
reaches_parts low high p e =
    let b = and_parts (leb low (suc p)) (leb p high) e in let l = leb-true low (suc p) b.0 in let h = leb-true p high b.1 in (omega arith, omega arith)

reaches_from : (t low high p : ℕ) → t ≤ 1 → low ≤ p + t → p < high + t → reaches low high p ≡ true
reaches_from t low high p k a b = and_from (leb low (suc p)) (leb p high) (le-leb low (suc p) (omega arith)) (le-leb p high (omega arith))

module _ {V : Type 0} (count low high : ℕ) (xs : List (Span V)) (r : Rises 0 count xs) (lt : low < high) where
  meets_last : (t i : ℕ) → t ≤ 1 → i < length xs → Last t low high xs i → meets count (held xs) (reaches low high) ≡ true
  meets_last t i k l f =
      let p = held_joined t low high count xs i l r lt f in
      meets_yes count (held xs) (reaches low high) p.0 p.1 (reaches_from t low high p.0 k p.2 p.3) p.4

  -- what the search found is connected to the range
  pub meets_connected : (i : ℕ) → i < length xs → Searched true low high xs (Ok i) → meets count (held xs) (reaches low high) ≡ true
  meets_connected i l (inl f) = meets_last 0 i (omega arith) l f
  meets_connected i l (inr f) = meets_last 1 i (omega arith) l f.0

  pub meets_apart : (i : ℕ) → Stands 1 low high xs i → meets count (held xs) (reaches low high) ≡ false
  meets_apart i s = meets_no count (held xs) (reaches low high) (λ p k e. let b = reaches_parts low high p e in held_stands 1 low high xs i s p b.0 b.1)

-- the range is stored with the value v, unless that is declined
module _ {K V : Type 0} (keys : Ghosts K) (eq : V → V → Bool) (law : IsEquivalence eq) (m : Store K V) (key : AnyRange K) (v : V) (h : (ends keys key).high ≤ keys.COUNT) where
  abbrev call : Call V
  call = insert_disconnected (ends keys key).low (ends keys key).high v

  pub does_empty : (ends keys key).high ≤ (ends keys key).low → Does keys eq m call (declined 9) m
  does_empty l = does_stay keys eq law m call (declined 9) (λ canonical. disconnected_empty eq law keys.COUNT m.slots (stored keys m) (ends keys key).low (ends keys key).high v l)

  module _ (lt : (ends keys key).low < (ends keys key).high) where
    pub does_connected : (i : ℕ) → i < length m.items.items → (Rising (stored keys m) → Searched true (ends keys key).low (ends keys key).high (stored keys m) (Ok i)) → Does keys eq m call (declined 10) m
    does_connected i l f =
        does_stay keys eq law m call (declined 10) (λ canonical. disconnected_connected eq law keys.COUNT m.slots (stored keys m) (ends keys key).low (ends keys key).high v lt
        (meets_connected keys.COUNT (ends keys key).low (ends keys key).high (stored keys m) canonical.rises lt i (omega (arith, len_listed keys m)) (f (keys.COUNT, canonical.rises))))

    module _ (i : ℕ) (within : i ≤ length m.items.items) (found : Rising (stored keys m) → Stands 1 (ends keys key).low (ends keys key).high (stored keys m) i) where
      abbrev new : List (Span V)
      new = insert (stored keys m) i (span_at keys (record { key = key; value = v }))

      new_spans : (ys : List (Item K V)) → ys ≡ insert m.items.items i (record { key = key; value = v }) → spans keys ys ≡ new
      new_spans ys f =
          ap (spans keys) f ∙ (map-append (span_at keys) (take i m.items.items) _ ∙
          ap₂ (λ (us ws : List (Span V)). us ++ span_at keys (record { key = key; value = v }) ∷ ws) (sym (take-map (span_at keys) i m.items.items)) (sym (drop-map (span_at keys) i m.items.items)))

      new_length : length new ≡ length (stored keys m) + 1
      new_length = length-insert (stored keys m) i _ (omega (arith, len_listed keys m))

      new_canonical : Canonical eq keys.COUNT (stored keys m) → Canonical eq keys.COUNT new
      new_canonical canonical = canonical_put (span_at keys (record { key = key; value = v })) keys.COUNT lt h eq (stored keys m) i (found (keys.COUNT, canonical.rises)) canonical

      new_held : Rising (stored keys m) → SameBelow eq keys.COUNT (held new) (changed call (held (stored keys m)))
      new_held rising p k = same_eq eq law _ _ (held_stored (span_at keys (record { key = key; value = v })) keys.COUNT lt h (stored keys m) i (found rising) p)

      apart : Rises 0 keys.COUNT (stored keys m) → meets keys.COUNT (held (stored keys m)) (reaches (ends keys key).low (ends keys key).high) ≡ false
      apart rises = meets_apart keys.COUNT (ends keys key).low (ends keys key).high (stored keys m) rises lt i (found (keys.COUNT, rises))

      pub does_full : m.slots ≤ length m.items.items → Does keys eq m call (declined 11) m
      does_full n =
          does_stay keys eq law m call (declined 11) (λ canonical. disconnected_offer eq law keys.COUNT m.slots (stored keys m) (ends keys key).low (ends keys key).high v (declined 11) (stored keys m) lt (apart canonical.rises)
          (offer_full eq law keys.COUNT m.slots (stored keys m) (changed call (held (stored keys m))) new (new_canonical canonical) (new_held (keys.COUNT, canonical.rises)) (omega (arith, new_length, len_listed keys m))))

      pub does_store : (n : Store K V) (k : ℕ) → n.slots ≡ m.slots → k ≡ length n.items.items → n.items.items ≡ insert m.items.items i (record { key = key; value = v }) →
          Does keys eq m call (ranges k) n
      does_store n k b e f =
          record {
            slots = b;
            link = λ canonical.
                subst (λ (j : ℕ). Step eq keys.COUNT m.slots (stored keys m) (record { call = call; answer = ranges j }) (stored keys n)) (sym (e ∙ len_listed keys n))
                (subst (λ (ys : List (Span V)). length ys ≤ m.slots → Step eq keys.COUNT m.slots (stored keys m) (record { call = call; answer = ranges (length ys) }) ys) (sym (new_spans n.items.items f))
                (λ j. step_like eq law keys.COUNT m.slots (stored keys m) call (ranges (length new)) new (new_canonical canonical)
                (disconnected_offer eq law keys.COUNT m.slots (stored keys m) (ends keys key).low (ends keys key).high v (ranges (length new)) new lt (apart canonical.rises)
                (offer_accepted eq law keys.COUNT m.slots (stored keys m) (changed call (held (stored keys m))) new (new_canonical canonical) (new_held (keys.COUNT, canonical.rises)) j)))
                (omega (arith, len_listed keys n, n.few, b)));
          }
