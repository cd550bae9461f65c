-- The spans of a list of items, after the list is edited.
use Rattle.std.specs.Cmp.{IsEquivalence}
use Rattle.std.proofs.Common.{◌≡◌, ℕ, suc, ◌+◌, ◌<◌, max, Bool, true, false, List, ◌∷◌, ◌++◌, map, length, get_or, take, drop, set, sym, ap, ◌∙◌, add-one, drop-cons}
use Rattle.std.specs.List.{insert, remove}
use Rattle.std.proofs.lemmas.List.{append_cancel_left, map-append, map-set, take-map, drop-map, length-map, set_split}
use Rattle.rangemap.specs.declared.item.Item.{Item}
use Rattle.ranges.specs.declared.range.any.AnyRange.{AnyRange}
use Rattle.lawful.specs.declared.key.Key.{Ghosts}
use Rattle.rangemap.specs.Ranges.{lo, hi}
use Rattle.rangemap.specs.Items.{span_at, span_of, spans}
use Rattle.ledger.specs.Spans.{Span}
use Rattle.rangemap.specs.Spans.{span, joined, near, put, put_at}
use Rattle.ranges.specs.Ranges.{Same, connects, joined as whole}
use Rattle.ranges.specs.Parts.{span as ends}
use Rattle.rangemap.proofs.Put.{put_joins, put_stays}

module _ {K V : Type 0} (g : Ghosts K) where
  pub spans_inserted : (xs : List (Item K V)) (i : ℕ) (x : Item K V) → spans g (insert xs i x) ≡ insert (spans g xs) i (span_at g x)
  spans_inserted xs i x = simp (map-append, take-map, drop-map)

  pub spans_removed : (xs : List (Item K V)) (i : ℕ) → spans g (remove xs i) ≡ remove (spans g xs) i
  spans_removed xs i = simp (map-append, take-map, drop-map)

  -- the item that was read at i
  pub spans_at : (xs : List (Item K V)) (i : ℕ) (x : Item K V) → i < length xs → x ≡ get_or xs i x → drop i (spans g xs) ≡ span_at g x ∷ drop (suc i) (spans g xs)
  spans_at xs i x lt read = rw (drop-map (span_at g) i xs, drop-map (span_at g) (suc i) xs, drop-cons xs i x) (ap (λ y. span_at g y ∷ map (span_at g) (drop (suc i) xs)) (sym read))

-- A span put at an index, by what stands there.
module _ {V : Type 0} {eq : V → V → Bool} (laws : IsEquivalence eq) where
  pub put_at_stays : (ss : List (Span V)) (i : ℕ) (s t : Span V) → drop i ss ≡ t ∷ drop (suc i) ss → (near s t ≡ true → eq s.value t.value ≡ false) → put_at eq ss i i s ≡ insert ss i s
  put_at_stays ss i s t here apart = ap (λ zs. take i ss ++ zs) (ap (put eq s) here ∙ put_stays laws s t (drop (suc i) ss) apart ∙ ap (λ zs. s ∷ zs) (sym here))

  pub put_at_joins : (ss : List (Span V)) (i : ℕ) (s t : Span V) → i < length ss → drop i ss ≡ t ∷ drop (suc i) ss → near s t ≡ true → eq s.value t.value ≡ true → put_at eq ss i i s ≡ set ss i (joined s t)
  put_at_joins ss i s t lt here close same = ap (λ zs. take i ss ++ zs) (ap (put eq s) here ∙ put_joins laws s t (drop (suc i) ss) close same) ∙ sym (set_split ss i (joined s t) lt)

-- The item at i takes the range in, or does not.
module _ {K V : Type 0} (g : Ghosts K) {eq : V → V → Bool} (laws : IsEquivalence eq) (xs : List (Item K V)) (i : ℕ) (next : Item K V) (range : AnyRange K) (value : V) (lt : i < length xs) (read : next ≡ get_or xs i next) where
  here : drop i (spans g xs) ≡ span_at g next ∷ drop (suc i) (spans g xs)
  here = spans_at g xs i next lt read

  pub next_stays : (connects (ends g range) (ends g next.key) ≡ true → eq next.value value ≡ false) → put_at eq (spans g xs) i i (span_of g range value) ≡ insert (spans g xs) i (span_of g range value)
  next_stays apart = put_at_stays laws (spans g xs) i (span_of g range value) (span_at g next) here (λ close. laws.symm value next.value ∙ apart close)

  pub next_joins : (r : AnyRange K) → connects (ends g range) (ends g next.key) ≡ true → eq next.value value ≡ true → Same (ends g r) (whole (ends g next.key) (ends g range)) → put_at eq (spans g xs) i i (span_of g range value) ≡ spans g (set xs i (record { key = r; value = next.value }))
  next_joins r close same both =
      put_at_joins laws (spans g xs) i (span_of g range value) (span_at g next) (simp length-map lt) here close (laws.symm value next.value ∙ same)
      ∙ ap (λ k. set (spans g xs) i (span k (max (hi g next.key) (hi g range)) next.value)) (sym both.0)
      ∙ ap (λ k. set (spans g xs) i (span (lo g r) k next.value)) (sym both.1)
      ∙ sym (map-set (span_at g) xs i (record { key = r; value = next.value }))

-- The list with an item put where no join happened.
module _ {K V : Type 0} (g : Ghosts K) (eq : V → V → Bool) (xs : List (Item K V)) (range : AnyRange K) (value : V) (i : ℕ) where
  pub inserted_unjoined : put_at eq (spans g xs) i i (span_of g range value) ≡ insert (spans g xs) i (span_of g range value) → spans g (insert xs i (record { key = range; value = value })) ≡ put_at eq (spans g xs) i i (span_of g range value)
  inserted_unjoined apart = spans_inserted g xs i (record { key = range; value = value }) ∙ sym apart

  pub set_unjoined : i < length xs → put_at eq (spans g xs) (i + 1) (i + 1) (span_of g range value) ≡ insert (spans g xs) (i + 1) (span_of g range value) → spans g (set xs i (record { key = range; value = value })) ≡ put_at eq (spans g xs) i (i + 1) (span_of g range value)
  set_unjoined lt apart =
      map-set (span_at g) xs i (record { key = range; value = value })
      ∙ set_split (spans g xs) i (span_of g range value) (simp length-map lt)
      ∙ ap (λ k. take i (spans g xs) ++ (span_of g range value ∷ drop k (spans g xs))) (sym (add-one i))
      ∙ ap (λ ws. take i (spans g xs) ++ ws) (sym (append_cancel_left (take (i + 1) (spans g xs)) _ _ apart))

-- The item at i goes.
pub spans_dropped : {K V : Type 0} (g : Ghosts K) (xs : List (Item K V)) (i : ℕ) → spans g (remove xs i) ≡ take i (spans g xs) ++ drop (i + 1) (spans g xs)
spans_dropped g xs i = spans_removed g xs i ∙ ap (λ k. take i (spans g xs) ++ drop k (spans g xs)) (sym (add-one i))
