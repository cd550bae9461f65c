-- A list without the places of a range: what it holds, that it stays canonical, and where it is as before.
use Rattle.std.proofs.Common.{◌≡◌, ℕ, ◌<◌, ◌≤◌, min, max, Bool, cond, ltb, ◌⊎◌, List, [], ◌∷◌, ◌++◌, Some, None, sym, refl, ap, ◌∙◌, subst, inl, inr, arith}
use Rattle.std.specs.List.{AllByRecursion}
use Rattle.std.proofs.lemmas.Bool.{cases_lt, cond-true, cond-false, cond_both, ltb-true, ltb-false}
use Rattle.ledger.specs.Ledger.{within}
use Rattle.ledger.specs.Spans.{Span, held, Rises, Parted, AllParted, Canonical}
use Rattle.ledger.proofs.Lists.{within_in, within_out, within_cases, held_in, held_out, rises_lower}
use Rattle.rangemap.specs.Cuts.{piece, cut_span, cut}
use Rattle.rangemap.proofs.Gives.{piece_there, piece_not}

module _ {V : Type 0} where
  -- a fact of a list with a piece in front, by whether the piece is there
  pub by_piece : (P : List (Span V) → Type 0) (l h : ℕ) (v : V) (xs : List (Span V)) → (l < h → P (record { low = l; high = h; value = v } ∷ xs)) → (h ≤ l → P xs) → P (piece l h v xs)
  by_piece P l h v xs f g = cond_both (ltb l h) (record { low = l; high = h; value = v } ∷ xs) xs P (λ e. f (ltb-true l h e)) (λ e. g (ltb-false l h e))

  held_piece_in : (l h : ℕ) (v : V) (xs : List (Span V)) (p : ℕ) → l ≤ p → p < h → held (piece l h v xs) p ≡ Some v
  held_piece_in l h v xs p a b = ap (λ ys. held ys p) (piece_there l h v xs (omega arith)) ∙ held_in (record { low = l; high = h; value = v }) xs p a b

  held_piece_out : (l h : ℕ) (v : V) (xs : List (Span V)) (p : ℕ) → (p < l) ⊎ (h ≤ p) → held (piece l h v xs) p ≡ held xs p
  held_piece_out l h v xs p o = by_piece (λ ys. held ys p ≡ held xs p) l h v xs (λ e. held_out (record { low = l; high = h; value = v }) xs p o) (λ e. refl)

  piece-++ : (l h : ℕ) (v : V) (xs ys : List (Span V)) → piece l h v (xs ++ ys) ≡ piece l h v xs ++ ys
  piece-++ l h v xs ys = by_piece (λ zs. piece l h v (xs ++ ys) ≡ zs ++ ys) l h v xs (λ e. piece_there l h v (xs ++ ys) e) (λ e. piece_not l h v (xs ++ ys) e)

module _ {V : Type 0} (low high : ℕ) where
  pub cut-++ : (xs ys : List (Span V)) → cut low high (xs ++ ys) ≡ cut low high xs ++ cut low high ys
  cut-++ [] ys = refl
  cut-++ (x ∷ xs) ys =
      let a = piece-++ (max x.low high) x.high x.value (cut low high xs) (cut low high ys) in
      ap (cut_span low high x) (cut-++ xs ys) ∙
      (ap (piece x.low (min x.high low) x.value) a ∙ piece-++ x.low (min x.high low) x.value _ (cut low high ys))

  -- spans that the range does not reach stay
  pub cut_below : (xs : List (Span V)) → low < high → AllByRecursion (λ x. x.low < x.high) xs → AllByRecursion (λ x. x.high ≤ low) xs → cut low high xs ≡ xs
  cut_below [] l f b = refl
  cut_below (x ∷ xs) l f b =
      let a : min x.high low ≡ x.high = omega (arith, b.0) in
      ap (λ n. piece x.low n x.value (piece (max x.low high) x.high x.value (cut low high xs))) a ∙
      (piece_there x.low x.high x.value _ f.0 ∙
      ap (λ ys. x ∷ ys) (piece_not (max x.low high) x.high x.value (cut low high xs) (omega (arith, b.0)) ∙ cut_below xs l f.1 b.1))

  pub cut_above : (xs : List (Span V)) → low < high → AllByRecursion (λ x. x.low < x.high) xs → AllByRecursion (λ x. high ≤ x.low) xs → cut low high xs ≡ xs
  cut_above [] l f b = refl
  cut_above (x ∷ xs) l f b =
      let a : max x.low high ≡ x.low = omega (arith, b.0) in
      piece_not x.low (min x.high low) x.value _ (omega (arith, b.0)) ∙
      (ap (λ n. piece n x.high x.value (cut low high xs)) a ∙
      (piece_there x.low x.high x.value (cut low high xs) f.0 ∙ ap (λ ys. x ∷ ys) (cut_above xs l f.1 b.1)))

  -- the places of the range hold nothing, the others what they held
  pub held_cut : (xs : List (Span V)) (p : ℕ) → held (cut low high xs) p ≡ cond (within low high p) None (held xs p)
  held_cut xs p = go (within_cases low high p)
    where
      inside : (ys : List (Span V)) → low ≤ p → p < high → held (cut low high ys) p ≡ None
      inside [] a b = refl
      inside (y ∷ ys) a b =
          held_piece_out y.low (min y.high low) y.value _ p (inr (omega arith)) ∙
          (held_piece_out (max y.low high) y.high y.value (cut low high ys) p (inl (omega arith)) ∙ inside ys a b)

      outside : (ys : List (Span V)) → (p < low) ⊎ (high ≤ p) → held (cut low high ys) p ≡ held ys p
      outside [] o = refl
      outside (y ∷ ys) o = at_y (within_cases y.low y.high p) o (outside ys o)
        where
          at_y : ((y.low ≤ p) × (p < y.high)) ⊎ ((p < y.low) ⊎ (y.high ≤ p)) → (p < low) ⊎ (high ≤ p) → held (cut low high ys) p ≡ held ys p →
              held (cut low high (y ∷ ys)) p ≡ held (y ∷ ys) p
          at_y (inl i) (inl k) r =
              held_piece_in y.low (min y.high low) y.value _ p i.0 (omega (arith, i.1)) ∙ sym (held_in y ys p i.0 i.1)
          at_y (inl i) (inr k) r = go_right (cases_lt p (min y.high low))
            where
              go_right : (p < min y.high low) ⊎ (min y.high low ≤ p) → held (cut low high (y ∷ ys)) p ≡ held (y ∷ ys) p
              go_right (inl q) = held_piece_in y.low (min y.high low) y.value _ p i.0 q ∙ sym (held_in y ys p i.0 i.1)
              go_right (inr q) =
                  held_piece_out y.low (min y.high low) y.value _ p (inr q) ∙
                  (held_piece_in (max y.low high) y.high y.value (cut low high ys) p (omega (arith, i.0)) i.1 ∙ sym (held_in y ys p i.0 i.1))
          at_y (inr (inl j)) o r =
              held_piece_out y.low (min y.high low) y.value _ p (inl j) ∙
              (held_piece_out (max y.low high) y.high y.value (cut low high ys) p (inl (omega arith)) ∙ (r ∙ sym (held_out y ys p (inl j))))
          at_y (inr (inr j)) o r =
              held_piece_out y.low (min y.high low) y.value _ p (inr (omega arith)) ∙
              (held_piece_out (max y.low high) y.high y.value (cut low high ys) p (inr j) ∙ (r ∙ sym (held_out y ys p (inr j))))

      go : ((low ≤ p) × (p < high)) ⊎ ((p < low) ⊎ (high ≤ p)) → held (cut low high xs) p ≡ cond (within low high p) None (held xs p)
      go (inl i) = inside xs i.0 i.1 ∙ sym (cond-true _ _ _ (within_in low high p i.0 i.1))
      go (inr o) = outside xs o ∙ sym (cond-false _ _ _ (within_out low high p o))

  module _ (lt : low < high) where
    pub rises_cut : (from count : ℕ) (xs : List (Span V)) → Rises from count xs → Rises from count (cut low high xs)
    rises_cut from count [] r = r
    rises_cut from count (x ∷ xs) r =
        let i = rises_cut x.high count xs r.2 in
        let second : (n : ℕ) → n ≤ max x.low high → n ≤ x.high → Rises n count (piece (max x.low high) x.high x.value (cut low high xs)) =
        λ n a b. by_piece (Rises n count) (max x.low high) x.high x.value (cut low high xs) (λ e. (a, e, i)) (λ e. rises_lower x.high n count (cut low high xs) b i) in
        by_piece (Rises from count) x.low (min x.high low) x.value _ (λ e. (r.0, e, second (min x.high low) (omega arith) (omega arith)))
        (λ e. second from (omega (arith, r.0)) (omega (arith, r.0, r.1)))

    module _ (eq : V → V → Bool) where
      -- a span that ends before a list starts does not touch it
      parted_far : (x : Span V) (from count : ℕ) (ys : List (Span V)) → x.high < from → Rises from count ys → Parted eq x ys
      parted_far x from count [] l r = tt
      parted_far x from count (y ∷ ys) l r = λ e. let z : ⊥ = omega (arith, r.0) in absurd z

      -- a span before a list is parted from what is left of it
      parted_cut_before : (w : Span V) (from count : ℕ) (xs : List (Span V)) → w.high ≤ from → Rises from count xs → Parted eq w xs → Parted eq w (cut low high xs)
      parted_cut_before w from count [] l r d = tt
      parted_cut_before w from count (x ∷ xs) l r d =
          by_piece (Parted eq w) x.low (min x.high low) x.value _ (λ e. d)
          (λ e. by_piece (Parted eq w) (max x.low high) x.high x.value (cut low high xs) (λ f g. d (omega (arith, r.0)))
          (λ f. parted_far w x.high count (cut low high xs) (omega (arith, r.0, r.1)) (rises_cut x.high count xs r.2)))

      -- so is a part of the span that ends where it ends, or earlier
      parted_part : (l h count : ℕ) (x : Span V) (xs : List (Span V)) → h ≤ x.high → Rises x.high count xs → Parted eq x xs →
          Parted eq (record { low = l; high = h; value = x.value }) (cut low high xs)
      parted_part l h count x xs k r d = go (cases_lt h x.high)
        where
          go : (h < x.high) ⊎ (x.high ≤ h) → Parted eq (record { low = l; high = h; value = x.value }) (cut low high xs)
          go (inl a) = parted_far (record { low = l; high = h; value = x.value }) x.high count (cut low high xs) a (rises_cut x.high count xs r)
          go (inr a) =
              let e : x.high ≡ h = omega arith in
              subst (λ n. Parted eq (record { low = l; high = n; value = x.value }) (cut low high xs)) e
              (parted_cut_before (record { low = l; high = x.high; value = x.value }) x.high count xs (omega arith) r (parted_like x xs l d))
            where
              parted_like : (x : Span V) (xs : List (Span V)) (l : ℕ) → Parted eq x xs → Parted eq (record { low = l; high = x.high; value = x.value }) xs
              parted_like x [] l d = tt
              parted_like x (y ∷ ys) l d = d

      pub parted_cut : (from count : ℕ) (xs : List (Span V)) → Rises from count xs → AllParted eq xs → AllParted eq (cut low high xs)
      parted_cut from count [] r d = tt
      parted_cut from count (x ∷ xs) r d =
          let i = parted_cut x.high count xs r.2 d.1 in
          let m : ℕ = max x.low high in
          let n : ℕ = min x.high low in
          by_piece (AllParted eq) x.low n x.value _
          (λ e. (
            by_piece (Parted eq (record { low = x.low; high = n; value = x.value })) m x.high x.value (cut low high xs)
                (λ f g. let z : ⊥ = omega arith in absurd z) (λ f. parted_part x.low n count x xs (omega arith) r.2 d.0),
            by_piece (AllParted eq) m x.high x.value (cut low high xs) (λ f. (parted_part m x.high count x xs (omega arith) r.2 d.0, i)) (λ f. i),
          ))
          (λ e. by_piece (AllParted eq) m x.high x.value (cut low high xs) (λ f. (parted_part m x.high count x xs (omega arith) r.2 d.0, i)) (λ f. i))

      pub canonical_cut : (count : ℕ) (xs : List (Span V)) → Canonical eq count xs → Canonical eq count (cut low high xs)
      canonical_cut count xs c = record { rises = rises_cut 0 count xs c.rises; parted = parted_cut 0 count xs c.rises c.parted }
