-- Rising lists, taken apart at an index.
use Rattle.std.proofs.Common.{◌≡◌, ℕ, zero, suc, ◌+◌, ◌<◌, ◌≤◌, ◌⊎◌, List, [], ◌∷◌, length, get_or, take, drop, sym, ap, ◌∙◌, subst, inl, inr, add-one, arith}
use Rattle.std.specs.List.{HoldsAt, AllByRecursion}
use Rattle.std.proofs.lemmas.List.{get_or-map, length-map, drop_more, drop_all, nil_from_length}
use Rattle.std.proofs.lemmas.Bool.{cases_lt}
use Rattle.std.proofs.ByRecursion.{All-more}
use Rattle.ledger.proofs.Lists.{rises_from}
use Rattle.ledger.specs.Spans.{Span, Rises}
use Rattle.rangemap.specs.declared.item.Item.{Item}
use Rattle.rangemap.specs.Items.{span_at, spans}
use Rattle.ranges.specs.Parts.{span as ends}
use Rattle.lawful.specs.declared.key.Key.{Ghosts}
use Rattle.rangemap.specs.Search.{Rising, Bracket, Joins, Last, Stands}

-- what holds of the item at an index holds of its span
pub at_span : {K V : Type 0} (keys : Ghosts K) (P : Span V → Type 0) (xs : List (Item K V)) (i : ℕ) (d : Item K V) → i < length xs → P (span_at keys (get_or xs i d)) → HoldsAt P (spans keys xs) i
at_span keys P xs i d l p e = subst P (sym (get_or-map (span_at keys) xs i d e l)) p

-- the span of an item that was read
pub span_read : {K V : Type 0} (keys : Ghosts K) (xs : List (Item K V)) (i : ℕ) (x : Item K V) → i < length xs → x ≡ get_or xs i x → get_or (spans keys xs) i (span_at keys x) ≡ span_at keys x
span_read keys xs i x l e = get_or-map (span_at keys) xs i x (span_at keys x) l ∙ ap (span_at keys) (sym e)

-- two facts of each element make a third
pub all_both : {X : Type 0} (P Q R : X → Type 0) → ((x : X) → P x → Q x → R x) → (xs : List X) → AllByRecursion P xs → AllByRecursion Q xs → AllByRecursion R xs
all_both P Q R f [] p q = tt
all_both P Q R f (x ∷ xs) p q = (f x p.0 q.0, all_both P Q R f xs p.1 q.1)

-- a rising list before, at and after an index
pub record Parts {V : Type 0} (from count : ℕ) (x : Span V) (xs ys : List (Span V)) : Type 0 where
  pub front : Rises from x.low xs
  pub here : x.low < x.high
  pub back : Rises x.high count ys

module _ {V : Type 0} where
  parts_suc : (from count : ℕ) (xs : List (Span V)) (i : ℕ) (d : Span V) → i < length xs → Rises from count xs →
      Parts from count (get_or xs i d) (take i xs) (drop (suc i) xs)
  parts_suc from count [] i d l r = let z : ⊥ = omega arith in absurd z
  parts_suc from count (x ∷ xs) zero d l r = record { front = r.0; here = r.1; back = r.2 }
  parts_suc from count (x ∷ xs) (suc i) d l r =
      let p = parts_suc x.high count xs i d (omega arith) r.2 in
      record { front = (r.0, r.1, p.front); here = p.here; back = p.back }

  pub parts : (from count : ℕ) (xs : List (Span V)) (i : ℕ) (d : Span V) → i < length xs → Rises from count xs →
      Parts from count (get_or xs i d) (take i xs) (drop (i + 1) xs)
  parts from count xs i d l r = rw add-one (parts_suc from count xs i d l r)

  pub starts_later : (b from count : ℕ) (xs : List (Span V)) → b ≤ from → Rises from count xs → AllByRecursion (λ x. b ≤ x.low) xs
  starts_later b from count [] l r = tt
  starts_later b from count (x ∷ xs) l r = (omega (arith, r.0), starts_later b x.high count xs (omega (arith, r.0, r.1)) r.2)

  pub ends_earlier : (t b from count : ℕ) (xs : List (Span V)) → count + t ≤ b → Rises from count xs → AllByRecursion (λ x. x.high + t ≤ b) xs
  ends_earlier t b from count [] l r = tt
  ends_earlier t b from count (x ∷ xs) l r =
      (omega (arith, rises_from x.high count xs r.2), ends_earlier t b x.high count xs l r.2)

  pub ends_later : (b from count : ℕ) (xs : List (Span V)) → b ≤ from → Rises from count xs → AllByRecursion (λ x. b < x.high) xs
  ends_later b from count [] l r = tt
  ends_later b from count (x ∷ xs) l r = (omega (arith, r.0, r.1), ends_later b x.high count xs (omega (arith, r.0, r.1)) r.2)

  -- each span of a rising list holds a place
  pub all_full : (from count : ℕ) (xs : List (Span V)) → Rises from count xs → AllByRecursion (λ x. x.low < x.high) xs
  all_full from count [] r = tt
  all_full from count (x ∷ xs) r = (r.1, all_full x.high count xs r.2)

  -- in a rising list, each span up to that at i ends where that does, or earlier
  pub all_earlier : (t b : ℕ) (xs : List (Span V)) (i : ℕ) → i < length xs → HoldsAt (λ x. x.high + t ≤ b) xs i → Rising xs → AllByRecursion (λ x. x.high + t ≤ b) (take (i + 1) xs)
  all_earlier t b [] i l h r = let z : ⊥ = omega arith in absurd z
  all_earlier t b (x ∷ xs) i l h (count, r) =
      let p = parts 0 count (x ∷ xs) i x l r in
      let s = ends_earlier t b 0 (get_or (x ∷ xs) i x).low (take i (x ∷ xs)) (omega (arith, h x, p.here)) p.front in
      All-more (λ x. x.high + t ≤ b) (x ∷ xs) i x l s (h x)

  -- in a rising list, each span from i on starts where that at i does, or later
  pub all_later : (b : ℕ) (xs : List (Span V)) (i : ℕ) → i < length xs → HoldsAt (λ x. b ≤ x.low) xs i → Rising xs → AllByRecursion (λ x. b ≤ x.low) (drop i xs)
  all_later b [] i l h r = let z : ⊥ = omega arith in absurd z
  all_later b (x ∷ xs) i l h (count, r) =
      let p = parts 0 count (x ∷ xs) i x l r in
      let s = starts_later b (get_or (x ∷ xs) i x).high count (drop (i + 1) (x ∷ xs)) (omega (arith, h x, p.here)) p.back in
      rw (drop_more (x ∷ xs) i x l) (h x, s)

-- an item of a rising list holds a place
pub full_at : {K V : Type 0} (keys : Ghosts K) (xs : List (Item K V)) (i : ℕ) (d : Item K V) → i < length xs → Rising (spans keys xs) → (ends keys (get_or xs i d).key).low < (ends keys (get_or xs i d).key).high
full_at keys xs i d l (count, r) = subst (λ y. y.low < y.high) (get_or-map (span_at keys) xs i d (span_at keys d) l) (parts 0 count (spans keys xs) i (span_at keys d) (rw length-map l) r).here

module _ {K V : Type 0} (keys : Ghosts K) (b : ℕ) (xs : List (Item K V)) where
  -- a search between the two indices
  pub bracket_left : (i j k : ℕ) (d : Item K V) → k < length xs → b ≤ (ends keys (get_or xs k d).key).low → Bracket b (spans keys xs) i j → Bracket b (spans keys xs) i k
  bracket_left i j k d l le h =
      record { here = h.here; later = all_later b (spans keys xs) k (rw length-map l) (at_span keys (λ y. b ≤ y.low) xs k d l le) }

  pub bracket_right : (i j k : ℕ) (d : Item K V) → k < length xs → (ends keys (get_or xs k d).key).low < b → Bracket b (spans keys xs) i j → Bracket b (spans keys xs) k j
  bracket_right i j k d l lt h = record { here = at_span keys (λ y. y.low < b) xs k d l lt; later = h.later }

  pub bracket_all : (d : Item K V) → 0 < length xs → (ends keys (get_or xs 0 d).key).low < b → Bracket b (spans keys xs) 0 (length xs)
  bracket_all d l lt =
      record { here = at_span keys (λ y. y.low < b) xs 0 d l lt; later = λ r. rw (drop_all (length xs) (spans keys xs) (omega (arith, length-map xs (span_at keys)))) tt }

  -- in a rising list whose first span starts at b or later, each does
  pub all_first : (d : Item K V) → 0 < length xs → b ≤ (ends keys (get_or xs 0 d).key).low → Rising (spans keys xs) → AllByRecursion (λ y. b ≤ y.low) (spans keys xs)
  all_first d l le = all_later b (spans keys xs) 0 (rw length-map l) (at_span keys (λ y. b ≤ y.low) xs 0 d l le)

  pub all_none : length xs ≡ 0 → Rising (spans keys xs) → AllByRecursion (λ y. b ≤ y.low) (spans keys xs)
  all_none e r = rw (nil_from_length xs e) tt

  -- what the search answers from the last span that starts before the end of the range
  pub last_found : (t low high i : ℕ) (d : Item K V) → b ≡ high + t → i < length xs → Bracket b (spans keys xs) i (i + 1) → Joins t low high (span_at keys (get_or xs i d)) → Rising (spans keys xs) →
      Last t low high (spans keys xs) i
  last_found t low high i d e l h j r = record { here = at_span keys (Joins t low high) xs i d l j; later = subst (λ n. AllByRecursion (λ x. n ≤ x.low) (drop (i + 1) (spans keys xs))) e (h.later r) }

  pub stands_found : (t low high i : ℕ) (d : Item K V) → b ≡ high + t → i < length xs → Bracket b (spans keys xs) i (i + 1) → (Joins t low high (span_at keys (get_or xs i d)) → ⊥) → Rising (spans keys xs) →
      Stands t low high (spans keys xs) (i + 1)
  stands_found t low high i d e l h j r =
      record {
        earlier = all_earlier t low (spans keys xs) i (rw length-map l) (at_span keys (λ x. x.high + t ≤ low) xs i d l (go (cases_lt low ((ends keys (get_or xs i d).key).high + t)))) r;
        later = subst (λ n. AllByRecursion (λ x. n ≤ x.low) (drop (i + 1) (spans keys xs))) e (h.later r);
      }
    where
      go : (low < (ends keys (get_or xs i d).key).high + t) ⊎ ((ends keys (get_or xs i d).key).high + t ≤ low) → (ends keys (get_or xs i d).key).high + t ≤ low
      go (inl k) = absurd (j (subst (λ y. y.low < high + t) (get_or-map (span_at keys) xs i d (span_at keys d) l) (rw e at (h.here (span_at keys d))), k))
      go (inr k) = k
