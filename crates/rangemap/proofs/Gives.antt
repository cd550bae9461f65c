-- One turn of the removal: what becomes of the item at an index.
use Rattle.std.proofs.Common.{◌≡◌, ℕ, suc, ◌+◌, ◌<◌, ◌≤◌, min, max, List, ◌∷◌, ◌++◌, length, get_or, take, drop, set, sym, ap, ◌∙◌, subst, ap₂, inl, inr, add-one, arith}
use Rattle.ranges.specs.Ranges.{Span as Ends, Held}
use Rattle.ranges.specs.Parts.{Leaves}
use Rattle.ranges.specs.declared.range.Difference.TheVariants.{Before, After, Split, Empty}
use Rattle.std.specs.List.{insert, remove, HoldsAt}
use Rattle.std.proofs.lemmas.List.{get_or-map, map-append, take-map, drop-map, set_split, take-set, drop-set}
use Rattle.std.proofs.lemmas.Bool.{lt-ltb, le-ltb, cond-true, cond-false}
use Rattle.ledger.specs.Spans.{Span}
use Rattle.rangemap.specs.declared.item.Item.{Item}
use Rattle.ranges.specs.declared.range.any.AnyRange.{AnyRange}
use Rattle.rangemap.specs.Items.{span_at, spans}
use Rattle.rangemap.specs.Cuts.{Left, Right, NoLeft, NoRight, piece, cut_span, Gave}
use Rattle.ranges.specs.Parts.{span as ends}
use Rattle.lawful.specs.declared.key.Key.{Ghosts}
use Rattle.rangemap.proofs.Rising.{at_span}

pub piece_there : {V : Type 0} (l h : ℕ) (v : V) (xs : List (Span V)) → l < h → piece l h v xs ≡ record { low = l; high = h; value = v } ∷ xs
piece_there l h v xs e = cond-true _ _ _ (lt-ltb l h e)

pub piece_not : {V : Type 0} (l h : ℕ) (v : V) (xs : List (Span V)) → h ≤ l → piece l h v xs ≡ xs
piece_not l h v xs e = cond-false _ _ _ (le-ltb l h e)

-- what is left of a range without another that holds a place
module _ {K : Type 0} (keys : Ghosts K) (x y : Ends) (full : Held y) where
  pub leaves_before : (r : AnyRange K) → Leaves keys x y (Before r) → Left x y (ends keys r) × NoRight x y
  leaves_before r (inl (bare, h, s)) = let z : ⊥ = omega arith in absurd z
  leaves_before r (inr (a, b, c, (low, high))) = (record { low = low; high = high; full = omega (arith, low, high, b) }, c)

  pub leaves_after : (r : AnyRange K) → Leaves keys x y (After r) → NoLeft x y × Right x y (ends keys r)
  leaves_after r (a, b, c, (low, high)) = (b, record { low = low; high = high; full = omega (arith, low, high, c) })

  pub leaves_split : (l r : AnyRange K) → Leaves keys x y (Split l r) → Left x y (ends keys l) × Right x y (ends keys r)
  leaves_split l r (a, b, c, (low, high), (low', high')) =
      (record { low = low; high = high; full = omega (arith, low, high, b) }, record { low = low'; high = high'; full = omega (arith, low', high', c) })

  pub leaves_empty : Leaves keys x y Empty → NoLeft x y × NoRight x y
  leaves_empty (inl bare) = (omega (arith, bare), omega (arith, bare))
  leaves_empty (inr (a, b, c)) = (b, c)

module _ {K V : Type 0} (keys : Ghosts K) (xs : List (Item K V)) (i : ℕ) (x : Item K V) (l : i < length xs) (e : x ≡ get_or xs i x) (key : AnyRange K) where
  -- the parts of the span of x
  abbrev part : AnyRange K → Span V
  part r = span_at keys (record { key = r; value = x.value })

  left_there : (r : AnyRange K) (zs : List (Span V)) → Left (ends keys x.key) (ends keys key) (ends keys r) → piece (ends keys x.key).low (min (ends keys x.key).high (ends keys key).low) x.value zs ≡ part r ∷ zs
  left_there r zs h =
      let a = h.low in let b = h.high in
      ap₂ (λ m n. piece m n x.value zs) (sym a) (sym b) ∙ piece_there (ends keys r).low (ends keys r).high x.value zs h.full

  right_there : (r : AnyRange K) (zs : List (Span V)) → Right (ends keys x.key) (ends keys key) (ends keys r) → piece (max (ends keys x.key).low (ends keys key).high) (ends keys x.key).high x.value zs ≡ part r ∷ zs
  right_there r zs h =
      ap₂ (λ m n. piece m n x.value zs) (sym h.low) (sym h.high) ∙ piece_there (ends keys r).low (ends keys r).high x.value zs h.full

  abbrev rest : List (Span V)
  rest = drop (i + 1) (spans keys xs)

  gave : (ys zs : List (Span V)) → ys ≡ take i (spans keys xs) ++ zs → zs ≡ cut_span (ends keys key).low (ends keys key).high (span_at keys x) rest → Gave (ends keys key).low (ends keys key).high (spans keys xs) i ys
  gave ys zs f g =
      record { is = λ d. f ∙ ap (λ ws. take i (spans keys xs) ++ ws) (g ∙ ap (λ (y : Span V). cut_span (ends keys key).low (ends keys key).high y rest) (ap (span_at keys) e ∙ sym (get_or-map (span_at keys) xs i x d l))) }

  -- x gives way to one part
  set_spans : (r : AnyRange K) → spans keys (set xs i (record { key = r; value = x.value })) ≡ take i (spans keys xs) ++ part r ∷ rest
  set_spans r =
      ap (spans keys) (set_split xs i _ l) ∙ (map-append (span_at keys) (take i xs) _ ∙
      ap₂ (λ (us ws : List (Span V)). us ++ part r ∷ ws) (sym (take-map (span_at keys) i xs)) (sym (drop-map (span_at keys) (suc i) xs) ∙ ap (λ n. drop n (spans keys xs)) (sym (add-one i))))

  pub gave_before : (r : AnyRange K) → Left (ends keys x.key) (ends keys key) (ends keys r) → NoRight (ends keys x.key) (ends keys key) → Gave (ends keys key).low (ends keys key).high (spans keys xs) i (spans keys (set xs i (record { key = r; value = x.value })))
  gave_before r h n = gave _ (part r ∷ rest) (set_spans r) (sym (left_there r _ h ∙ ap (λ ws. part r ∷ ws) (piece_not _ _ _ rest n)))

  pub gave_after : (r : AnyRange K) → NoLeft (ends keys x.key) (ends keys key) → Right (ends keys x.key) (ends keys key) (ends keys r) → Gave (ends keys key).low (ends keys key).high (spans keys xs) i (spans keys (set xs i (record { key = r; value = x.value })))
  gave_after r n h = gave _ (part r ∷ rest) (set_spans r) (sym (piece_not _ _ _ _ n ∙ right_there r rest h))

  pub gave_split : (a b : AnyRange K) → Left (ends keys x.key) (ends keys key) (ends keys a) → Right (ends keys x.key) (ends keys key) (ends keys b) →
      Gave (ends keys key).low (ends keys key).high (spans keys xs) i (spans keys (insert (set xs i (record { key = b; value = x.value })) i (record { key = a; value = x.value })))
  gave_split a b h k =
      gave _ (part a ∷ part b ∷ rest)
      (map-append (span_at keys) (take i _) _ ∙
      ap₂ (λ (us ws : List (Span V)). us ++ part a ∷ ws) (ap (spans keys) (take-set xs i _) ∙ sym (take-map (span_at keys) i xs)) (ap (spans keys) (drop-set xs i _ l) ∙ ap (λ (ws : List (Span V)). part b ∷ ws) (sym (drop-map (span_at keys) (i + 1) xs))))
      (sym (left_there a _ h ∙ ap (λ ws. part a ∷ ws) (right_there b rest k)))

  pub gave_empty : NoLeft (ends keys x.key) (ends keys key) → NoRight (ends keys x.key) (ends keys key) → Gave (ends keys key).low (ends keys key).high (spans keys xs) i (spans keys (remove xs i))
  gave_empty h k =
      gave _ rest
      (map-append (span_at keys) (take i xs) _ ∙
      ap₂ (λ (us ws : List (Span V)). us ++ ws) (sym (take-map (span_at keys) i xs)) (sym (drop-map (span_at keys) (suc i) xs) ∙ ap (λ n. drop n (spans keys xs)) (sym (add-one i))))
      (sym (piece_not _ _ _ _ h ∙ piece_not _ _ _ rest k))

  pub starts_before : (r : AnyRange K) → Left (ends keys x.key) (ends keys key) (ends keys r) → HoldsAt (λ y. y.low < (ends keys key).low) (spans keys xs) i
  starts_before r h = at_span keys (λ y. y.low < (ends keys key).low) xs i x l (subst (λ (y : Item K V). (span_at keys y).low < (ends keys key).low) e (omega (arith, h.low, h.high, h.full)))

  pub reaches_past : (a b : AnyRange K) → Left (ends keys x.key) (ends keys key) (ends keys a) → Right (ends keys x.key) (ends keys key) (ends keys b) → HoldsAt (λ y. (y.low < (ends keys key).low) × ((ends keys key).high < y.high)) (spans keys xs) i
  reaches_past a b h k =
      at_span keys (λ y. (y.low < (ends keys key).low) × ((ends keys key).high < y.high)) xs i x l
      (subst (λ (y : Item K V). ((span_at keys y).low < (ends keys key).low) × ((ends keys key).high < (span_at keys y).high)) e (omega (arith, h.low, h.high, h.full), omega (arith, k.low, k.high, k.full)))

  -- the turn, from what is left of the item without the key
  module _ (full : Held (ends keys key)) where
    pub turned_before : (r : AnyRange K) → Leaves keys (ends keys x.key) (ends keys key) (Before r) → Gave (ends keys key).low (ends keys key).high (spans keys xs) i (spans keys (set xs i (record { key = r; value = x.value }))) × HoldsAt (λ y. y.low < (ends keys key).low) (spans keys xs) i
    turned_before r is = let w = leaves_before keys (ends keys x.key) (ends keys key) full r is in (gave_before r w.0 w.1, starts_before r w.0)

    pub turned_after : (r : AnyRange K) → Leaves keys (ends keys x.key) (ends keys key) (After r) → Gave (ends keys key).low (ends keys key).high (spans keys xs) i (spans keys (set xs i (record { key = r; value = x.value })))
    turned_after r is = let w = leaves_after keys (ends keys x.key) (ends keys key) full r is in gave_after r w.0 w.1

    pub turned_split : (a b : AnyRange K) → Leaves keys (ends keys x.key) (ends keys key) (Split a b) → Gave (ends keys key).low (ends keys key).high (spans keys xs) i (spans keys (insert (set xs i (record { key = b; value = x.value })) i (record { key = a; value = x.value }))) × HoldsAt (λ y. y.low < (ends keys key).low) (spans keys xs) i
    turned_split a b is = let w = leaves_split keys (ends keys x.key) (ends keys key) full a b is in (gave_split a b w.0 w.1, starts_before a w.0)

    pub turned_empty : Leaves keys (ends keys x.key) (ends keys key) Empty → Gave (ends keys key).low (ends keys key).high (spans keys xs) i (spans keys (remove xs i))
    turned_empty is = let w = leaves_empty keys (ends keys x.key) (ends keys key) full is in gave_empty w.0 w.1
