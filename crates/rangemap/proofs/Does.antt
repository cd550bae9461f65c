-- What a walk on the items, or on their copy, does to a map.
use Rattle.std.specs.Cmp.{IsEquivalence}
use Rattle.std.proofs.Common.{◌≡◌, ℕ, ◌<◌, ◌≤◌, Bool, cond, List, length, Ok, Err, Option, Result, sym, ap, ◌∙◌, subst, arith}
use Rattle.rangemap.specs.Contents.{Contents}
use Rattle.std.proofs.lemmas.List.{length-map}
use Rattle.ledger.specs.Ledger.{Call, within, ranges, offer, outcome}
use Rattle.ledger.specs.Spans.{held, Canonical}
use Rattle.ledger.specs.Promise.{Step}
use Rattle.ledger.proofs.Calls.{book}
use Rattle.rangemap.specs.declared.decline.Decline.{Decline}
use Rattle.rangemap.specs.declared.decline.Decline.TheVariants.{EmptyRange, Connected, Full}
use Rattle.rangemap.specs.declared.item.Item.{Item}
use Rattle.rangemap.specs.declared.store.Store.{Store}
use Rattle.rangemap.specs.Declines.{answer}
use Rattle.rangemap.specs.Items.{listed, spans}
use Rattle.rangemap.specs.Maps.{Copied, Does, Keeps, Settled, Took, stored}
use Rattle.rangemap.specs.Spans.{Tight, Changed}
use Rattle.rangemap.proofs.Links.{canonical_tight, step_accepted, step_full}
use Rattle.lawful.specs.declared.key.Key.{Ghosts}

-- A call on m that changes by f the places from l to below h.
module _ {K V : Type 0} (g : Ghosts K) (eq : V → V → Bool) (laws : IsEquivalence eq) (m : Store K V) (l h : ℕ) (f : Option V → Option V) (c : Call V) (ends : h ≤ g.COUNT)
    (offers : outcome eq g.COUNT (book eq laws g.COUNT m.slots (stored g m)) c ≡ offer eq g.COUNT (book eq laws g.COUNT m.slots (stored g m)) (λ p. cond (within l h p) (f (held (stored g m) p)) (held (stored g m) p))) where
  accepted : (ys : List (Item K V)) (k : ℕ) → (Tight eq (stored g m) → Changed eq l h f (stored g m) (spans g ys)) → k ≡ length ys → k ≤ m.slots → Canonical eq g.COUNT (stored g m) → Step eq g.COUNT m.slots (stored g m) (record { call = c; answer = ranges k }) (spans g ys)
  accepted ys k walked is fits canonical =
      let n : length (spans g ys) ≡ k = simp length-map (sym is) in
      subst (λ j. Step eq g.COUNT m.slots (stored g m) (record { call = c; answer = ranges j }) (spans g ys)) n
      (step_accepted eq laws g.COUNT m.slots l h f (stored g m) (spans g ys) canonical ends (walked (canonical_tight eq g.COUNT (stored g m) canonical)) c offers (omega arith))

  -- walked in place
  pub does_walked : (n : Store K V) (k : ℕ) → n.slots ≡ m.slots → (Tight eq (stored g m) → Changed eq l h f (stored g m) (stored g n)) → k ≡ length n.items.items → Does g eq m c (ranges k) n
  does_walked n k slots walked is = record {
    slots = slots;
    link = accepted n.items.items k walked (omega arith) (omega (arith, n.few));
  }

  -- walked on the copy of the items in q, which makes p of q, then settled
  module _ (q p n : Store K V) (copied : Copied m q) (slots : p.slots ≡ q.slots) (items : p.items ≡ q.items) (walked : Tight eq (listed g q.work) → Changed eq l h f (listed g q.work) (listed g p.work)) where
    changed : Tight eq (stored g m) → Changed eq l h f (stored g m) (listed g p.work)
    changed = subst (λ xs. Tight eq (spans g xs) → Changed eq l h f (spans g xs) (listed g p.work)) copied.work walked

    stays : p.items.items ≡ m.items.items
    stays = ap (λ (c : Contents _ _). c.items) items ∙ copied.items

    does : (r : Result ℕ Decline) → Settled p r n → Does g eq m c (answer r) n
    does r settled = record { slots = settled.slots ∙ slots ∙ copied.slots; link = go r settled.took }
      where
        go : (r : Result ℕ Decline) → Took p r n → Canonical eq g.COUNT (stored g m) → Step eq g.COUNT m.slots (stored g m) (record { call = c; answer = answer r }) (stored g n)
        go (Ok k) took canonical =
            subst (Step eq g.COUNT m.slots (stored g m) (record { call = c; answer = ranges k })) (sym (ap (spans g) took.0))
            (accepted p.work.items k changed (omega (arith, took.1)) (omega (arith, took.1, took.2, slots, copied.slots)) canonical)
        go (Err Full) took canonical =
            let over : m.slots < length (listed g p.work) = simp length-map (omega (arith, took.1, slots, copied.slots)) in
            subst (Step eq g.COUNT m.slots (stored g m) (record { call = c; answer = answer (Err Full) })) (sym (ap (spans g) (took.0 ∙ stays)))
            (step_full eq laws g.COUNT m.slots l h f (stored g m) (listed g p.work) canonical ends (changed (canonical_tight eq g.COUNT (stored g m) canonical)) c offers over)
        go (Err EmptyRange) took canonical = absurd took
        go (Err Connected) took canonical = absurd took

    -- Declined, the items stay.
    keeps : (r : Result ℕ Decline) → Settled p r n → Keeps m r n
    keeps (Ok k) settled = tt
    keeps (Err Full) settled = settled.took.0 ∙ stays
    keeps (Err EmptyRange) settled = absurd settled.took
    keeps (Err Connected) settled = absurd settled.took

    pub does_settled : (r : Result ℕ Decline) → Settled p r n → Does g eq m c (answer r) n × Keeps m r n
    does_settled r settled = (does r settled, keeps r settled)
