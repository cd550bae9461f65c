-- The key stands alone: nothing stored is connected to it. Assumes nothing.
use Rattle.std.specs.Cmp.{IsEquivalence}
use Rattle.std.proofs.Common.{◌≡◌, ℕ, suc, ◌<◌, ◌≤◌, Bool, List, ◌++◌, take, drop, Some, None, Option, sym, refl, ap, ◌∙◌, subst, arith}
use Rattle.std.proofs.lemmas.List.{take-append-drop}
use Rattle.std.specs.List.{insert}
use Rattle.rangemap.specs.declared.item.Item.{Item}
use Rattle.ranges.specs.declared.range.any.AnyRange.{AnyRange}
use Rattle.lawful.specs.declared.key.Key.{Ghosts}
use Rattle.rangemap.specs.Ranges.{lo, hi}
use Rattle.rangemap.specs.Items.{Free, span_of, spans}
use Rattle.rangemap.specs.Ranges.{Full}
use Rattle.ledger.specs.Spans.{held}
use Rattle.rangemap.specs.Spans.{Same, Tight, put_made, Changed}
use Rattle.rangemap.proofs.Held.{canonical_right, ends_like, from_less, held_before, meets_apart}
use Rattle.rangemap.proofs.Listed.{spans_inserted}
use Rattle.rangemap.proofs.Put.{put_apart, same_at}
use Rattle.rangemap.proofs.Rests.{alters_inside, rest_start, rest_made, rest_end}

-- The key stands alone: what is made of none is put, if it is a value.
module _ {K V : Type 0} (g : Ghosts K) {eq : V → V → Bool} (laws : IsEquivalence eq) (key : AnyRange K) (full : Full g key) (m : Option V → Option V) (xs : List (Item K V)) (addr : ℕ) (canonical : Tight eq (spans g xs)) (free : Free g key xs addr) where
  pub change_free : (made : Option V) → Same eq made (m None) → Changed eq (lo g key) (hi g key) m (spans g xs) (take addr (spans g xs) ++ put_made eq (lo g key) (hi g key) made (drop addr (spans g xs)))
  change_free made same =
      let whole = take-append-drop addr (spans g xs) in
      let parts = subst (Tight eq) (sym whole) canonical in
      let back = drop addr (spans g xs) in
      let tail = canonical_right eq (take addr (spans g xs)) back parts in
      let none : (p : ℕ) → p < hi g key → held back p ≡ None = λ p lt. held_before eq (suc (hi g key)) back p tail free.start (omega arith) in
      let rest = rest_made laws (lo g key) (hi g key) m (hi g key) (lo g key) made back back full (λ p ge lt. alters_inside laws (lo g key) (hi g key) m (held back p) made ge lt (same_at laws refl (ap m (none p lt)) same)) (rest_start laws (lo g key) (hi g key) m back (omega arith) tail (from_less eq (hi g key) (suc (hi g key)) back (omega arith) free.start)) in
      subst (λ zs. Changed eq (lo g key) (hi g key) m zs (take addr (spans g xs) ++ put_made eq (lo g key) (hi g key) made back)) whole
      (rest_end laws (lo g key) (hi g key) m (lo g key) (take addr (spans g xs)) back (put_made eq (lo g key) (hi g key) made back) (omega arith) (omega arith) parts
      (from_less eq (lo g key) (suc (hi g key)) back (omega arith) free.start)
      (ends_like (λ e. e < lo g key) (λ e. e ≤ lo g key) (take addr (spans g xs)) (λ e lt. omega arith) free.front)
      (meets_apart eq (lo g key) (take addr (spans g xs)) _ free.front rest.start)
      rest)

  pub free_some : (value : V) (ys : List (Item K V)) → Same eq (Some value) (m None) → ys ≡ insert xs addr (record { key = key; value = value }) → Changed eq (lo g key) (hi g key) m (spans g xs) (spans g ys)
  free_some value ys same edit =
      subst (Changed eq (lo g key) (hi g key) m (spans g xs)) (sym (ap (spans g) edit ∙ spans_inserted g xs addr (record { key = key; value = value }) ∙ ap (λ zs. take addr (spans g xs) ++ zs) (sym (put_apart laws (span_of g key value) (drop addr (spans g xs)) free.start)))) (change_free (Some value) same)

  pub free_none : Same eq None (m None) → Changed eq (lo g key) (hi g key) m (spans g xs) (spans g xs)
  free_none same = subst (Changed eq (lo g key) (hi g key) m (spans g xs)) (take-append-drop addr (spans g xs)) (change_free None same)
