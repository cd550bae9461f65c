-- Lists of spans: the length of a canonical list is the size of what it holds, and no list that holds the same is shorter.
use Rattle.std.specs.Cmp.{IsEquivalence}
use Rattle.std.proofs.Common.{◌≡◌, ℕ, zero, suc, ◌+◌, ◌<◌, ◌≤◌, Bool, true, false, cond, ltb, leb, ◌⊎◌, List, [], ◌∷◌, length, Some, None, Option, sym, refl, ap, ◌∙◌, subst, ap₂, inl, inr, arith}
use Rattle.std.proofs.lemmas.Bool.{cases_lt, le-leb, lt-leb, lt-ltb, le-ltb, and_from, and_left, and_right, cond-true, cond-false}
use Rattle.ledger.specs.Values.{Held, SameBelow, before, begins, size, sum_below}
use Rattle.ledger.specs.Ledger.{within}
use Rattle.ledger.specs.Spans.{Span, bearing, held, Parted, Rises, AllParted, Canonical}
use Rattle.ledger.proofs.Sums.{sum_le_at, sum_eq_at, at, at_here, at_away}
use Rattle.ledger.proofs.Alike.{size_same}

pub within_in : (low high p : ℕ) → low ≤ p → p < high → within low high p ≡ true
within_in low high p h k = and_from (leb low p) (ltb p high) (le-leb low p h) (lt-ltb p high k)

pub within_before : (low high p : ℕ) → p < low → within low high p ≡ false
within_before low high p h = and_left (leb low p) (ltb p high) (lt-leb low p h)

pub within_after : (low high p : ℕ) → high ≤ p → within low high p ≡ false
within_after low high p h = and_right (leb low p) (ltb p high) (le-ltb p high h)

-- p is in the range, or before it, or after it
pub within_cases : (low high p : ℕ) → ((low ≤ p) × (p < high)) ⊎ ((p < low) ⊎ (high ≤ p))
within_cases low high p = go (cases_lt p low) (cases_lt p high)
  where
    go : (p < low) ⊎ (low ≤ p) → (p < high) ⊎ (high ≤ p) → ((low ≤ p) × (p < high)) ⊎ ((p < low) ⊎ (high ≤ p))
    go (inl a) _ = inr (inl a)
    go (inr a) (inl b) = inl (a, b)
    go (inr a) (inr b) = inr (inr b)

pub within_out : (low high p : ℕ) → (p < low) ⊎ (high ≤ p) → within low high p ≡ false
within_out low high p (inl h) = within_before low high p h
within_out low high p (inr h) = within_after low high p h

module _ {V : Type 0} where
  -- a span holds its own places, and leaves the others to the rest
  pub held_in : (x : Span V) (xs : List (Span V)) (p : ℕ) → x.low ≤ p → p < x.high → held (x ∷ xs) p ≡ Some x.value
  held_in x xs p h k = cond-true _ _ _ (within_in x.low x.high p h k)

  pub held_out : (x : Span V) (xs : List (Span V)) (p : ℕ) → (p < x.low) ⊎ (x.high ≤ p) → held (x ∷ xs) p ≡ held xs p
  held_out x xs p h = cond-false _ _ _ (within_out x.low x.high p h)

  pub rises_from : (from count : ℕ) (xs : List (Span V)) → Rises from count xs → from ≤ count
  rises_from from count [] r = r
  rises_from from count (x ∷ xs) r = let i = rises_from x.high count xs r.2 in omega arith

  pub rises_lower : (from to count : ℕ) (xs : List (Span V)) → to ≤ from → Rises from count xs → Rises to count xs
  rises_lower from to count [] h r = omega arith
  rises_lower from to count (x ∷ xs) h r = (omega arith, r.1, r.2)

  -- nothing is held before the start, or behind the end
  pub held_early : (from count : ℕ) (xs : List (Span V)) → Rises from count xs → (p : ℕ) → p < from → held xs p ≡ None
  held_early from count [] r p h = refl
  held_early from count (x ∷ xs) r p h =
      let f = r.0 in let o : p < x.low = omega arith in
      held_out x xs p (inl o) ∙ held_early x.high count xs r.2 p (omega arith)

  pub held_late : (from count : ℕ) (xs : List (Span V)) → Rises from count xs → (p : ℕ) → count ≤ p → held xs p ≡ None
  held_late from count [] r p h = refl
  held_late from count (x ∷ xs) r p h =
      let f = rises_from x.high count xs r.2 in let o : x.high ≤ p = omega arith in
      held_out x xs p (inr o) ∙ held_late x.high count xs r.2 p h

  -- a place that no span holds has no value
  pub held_none : (xs : List (Span V)) (p : ℕ) → length (bearing xs p) ≤ 0 → held xs p ≡ None
  held_none [] p h = refl
  held_none (x ∷ xs) p h = go (λ i. held_none xs p i) (within_cases x.low x.high p)
    where
      go : (length (bearing xs p) ≤ 0 → held xs p ≡ None) → ((x.low ≤ p) × (p < x.high)) ⊎ ((p < x.low) ⊎ (x.high ≤ p)) → held (x ∷ xs) p ≡ None
      go rest (inl i) =
          let e = cond-true (within x.low x.high p) (x.value ∷ bearing xs p) (bearing xs p) (within_in x.low x.high p i.0 i.1) in
          let z : ⊥ = omega (arith, ap length e) in absurd z
      go rest (inr o) =
          let e = cond-false (within x.low x.high p) (x.value ∷ bearing xs p) (bearing xs p) (within_out x.low x.high p o) in
          held_out x xs p o ∙ rest (omega (arith, ap length e))

-- h is k with the value v put at the places of a range where k has none
record Put {V : Type 0} (n : ℕ) (h k : Held V) (low high : ℕ) (v : V) : Type 0 where
  inside : (p : ℕ) → p < n → low ≤ p → p < high → h p ≡ Some v
  cleared : (p : ℕ) → p < n → low ≤ p → p < high → k p ≡ None
  outside : (p : ℕ) → p < n → (p < low) ⊎ (high ≤ p) → h p ≡ k p

module _ {V : Type 0} (eq : V → V → Bool) (law : IsEquivalence eq) where
  pub begins_none : (a : Option V) → begins eq a None ≡ 0
  begins_none None = refl
  begins_none (Some a) = refl

  begins_le : (a b : Option V) → begins eq a b ≤ begins eq None b
  begins_le None b = omega arith
  begins_le (Some a) None = omega arith
  begins_le (Some a) (Some b) = go (eq a b)
    where
      go : (t : Bool) → cond t 0 1 ≤ 1
      go true = omega arith
      go false = omega arith

  begins_one : (a b : Option V) → begins eq a b ≤ 1
  begins_one a None = rw begins_none (omega arith)
  begins_one a (Some b) = begins_le a (Some b)

  begins_like : (v : V) → begins eq (Some v) (Some v) ≡ 0
  begins_like v = ap (λ t. cond t 0 1) (law.refl v)

  module _ (n : ℕ) (h k : Held V) (low high : ℕ) (v : V) (put : Put n h k low high v) where
    -- away from the range, and in it but for its start, a range begins in h only where one begins in k
    begins_put : (p : ℕ) → p < n → begins eq (before h p) (h p) ≤ begins eq (before k p) (k p) + at low p
    begins_put zero l = go (within_cases low high 0)
      where
        go : ((low ≤ 0) × (0 < high)) ⊎ ((0 < low) ⊎ (high ≤ 0)) → begins eq None (h 0) ≤ begins eq None (k 0) + at low 0
        go (inl i) = let a = at_here low 0 (omega arith) in let b = begins_one None (h 0) in omega arith
        go (inr o) = let e = ap (begins eq None) (put.outside 0 l o) in omega arith
    begins_put (suc q) l = go (within_cases low high (suc q)) (within_cases low high q)
      where
        go : ((low ≤ suc q) × (suc q < high)) ⊎ ((suc q < low) ⊎ (high ≤ suc q)) → ((low ≤ q) × (q < high)) ⊎ ((q < low) ⊎ (high ≤ q)) →
            begins eq (h q) (h (suc q)) ≤ begins eq (k q) (k (suc q)) + at low (suc q)
        go (inl i) (inl j) =
            let e = ap₂ (begins eq) (put.inside q (omega arith) j.0 j.1) (put.inside (suc q) l i.0 i.1) ∙ begins_like v in
            omega arith
        go (inl i) (inr (inl o)) =
            let a = at_here low (suc q) (omega arith) in let b = begins_one (h q) (h (suc q)) in omega arith
        go (inl i) (inr (inr o)) = let z : ⊥ = omega arith in absurd z
        go (inr o) (inl j) =
            let e = put.outside (suc q) l o in let f = put.cleared q (omega arith) j.0 j.1 in
            let b = begins_le (h q) (h (suc q)) in
            let c = ap₂ (begins eq) (sym f) e in
            omega arith
        go (inr o) (inr u) =
            let e = ap₂ (begins eq) (put.outside q (omega arith) u) (put.outside (suc q) l o) in omega arith

    -- so it adds at most one to the size
    size_put : size eq h n ≤ size eq k n + 1
    size_put = sum_le_at _ _ low n begins_put

    -- with nothing in k before the range's end, and no equal value in h right behind it, it adds one
    begins_first : ((p : ℕ) → p < n → p < high → k p ≡ None) → ((w : V) → h high ≡ Some w → eq v w ≡ false) → low < high →
        (p : ℕ) → p < n → begins eq (before h p) (h p) ≡ begins eq (before k p) (k p) + at low p
    begins_first early parted lt zero l = go (within_cases low high 0)
      where
        go : ((low ≤ 0) × (0 < high)) ⊎ ((0 < low) ⊎ (high ≤ 0)) → begins eq None (h 0) ≡ begins eq None (k 0) + at low 0
        go (inl i) =
            let a = at_here low 0 (omega arith) in let b = ap (begins eq None) (put.inside 0 l i.0 i.1) in
            let c = ap (begins eq None) (put.cleared 0 l i.0 i.1) in omega arith
        go (inr o) =
            let a = at_away low 0 (omega arith) in let e = ap (begins eq None) (put.outside 0 l o) in omega arith
    begins_first early parted lt (suc q) l = go (within_cases low high (suc q)) (within_cases low high q)
      where
        edge : (o : Option V) → h high ≡ o → begins eq (Some v) o ≡ begins eq None o
        edge None e = refl
        edge (Some w) e = ap (λ t. cond t 0 1) (parted w e)

        go : ((low ≤ suc q) × (suc q < high)) ⊎ ((suc q < low) ⊎ (high ≤ suc q)) → ((low ≤ q) × (q < high)) ⊎ ((q < low) ⊎ (high ≤ q)) →
            begins eq (h q) (h (suc q)) ≡ begins eq (k q) (k (suc q)) + at low (suc q)
        go (inl i) (inl j) =
            let e = ap₂ (begins eq) (put.inside q (omega arith) j.0 j.1) (put.inside (suc q) l i.0 i.1) ∙ begins_like v in
            let f = ap (begins eq (k q)) (put.cleared (suc q) l i.0 i.1) ∙ begins_none (k q) in
            let a = at_away low (suc q) (omega arith) in omega arith
        go (inl i) (inr (inl o)) =
            let e = ap₂ (begins eq) (put.outside q (omega arith) (inl o) ∙ early q (omega arith) (omega arith)) (put.inside (suc q) l i.0 i.1) in
            let f = ap (begins eq (k q)) (put.cleared (suc q) l i.0 i.1) ∙ begins_none (k q) in
            let a = at_here low (suc q) (omega arith) in omega arith
        go (inl i) (inr (inr o)) = let z : ⊥ = omega arith in absurd z
        go (inr o) (inl j) =
            let end : suc q ≡ high = omega arith in
            let e = ap (λ o. begins eq o (h (suc q))) (put.inside q (omega arith) j.0 j.1) in
            let f = edge (h (suc q)) (ap h (sym end)) in
            let c = ap₂ (begins eq) (put.cleared q (omega arith) j.0 j.1) (sym (put.outside (suc q) l o)) in
            let a = at_away low (suc q) (omega arith) in omega arith
        go (inr o) (inr u) =
            let e = ap₂ (begins eq) (put.outside q (omega arith) u) (put.outside (suc q) l o) in
            let a = at_away low (suc q) (omega arith) in omega arith

    size_first : ((p : ℕ) → p < n → p < high → k p ≡ None) → ((w : V) → h high ≡ Some w → eq v w ≡ false) → low < high → low < n →
        size eq h n ≡ size eq k n + 1
    size_first early parted lt ln = sum_eq_at _ _ low n ln (begins_first early parted lt)

  pub size_none : (n : ℕ) → size eq (held {V = V} []) n ≡ 0
  unfolding sum_below
  size_none zero = refl
  size_none (suc n) = let a = size_none n in let b = begins_none (before (held []) n) in omega arith

  -- any list that holds no place twice is at least as long as the size of what it holds
  pub size_least : (n : ℕ) (ys : List (Span V)) → ((p : ℕ) → p < n → length (bearing ys p) ≤ 1) → size eq (held ys) n ≤ length ys
  size_least n [] s = omega (arith, size_none n)
  size_least n (y ∷ ys) s =
      let put : Put n (held (y ∷ ys)) (held ys) y.low y.high y.value =
      record { inside = λ p l a b. held_in y ys p a b; cleared = λ p l a b. held_none ys p (inner p l a b); outside = λ p l o. held_out y ys p o } in
      let i = size_least n ys once in
      let j = size_put n (held (y ∷ ys)) (held ys) y.low y.high y.value put in
      omega arith
    where
      inner : (p : ℕ) → p < n → y.low ≤ p → p < y.high → length (bearing ys p) ≤ 0
      inner p l a b =
          let e = cond-true (within y.low y.high p) (y.value ∷ bearing ys p) (bearing ys p) (within_in y.low y.high p a b) in
          let f = s p l in omega (arith, ap length e)

      once : (p : ℕ) → p < n → length (bearing ys p) ≤ 1
      once p l = go (within_cases y.low y.high p)
        where
          go : ((y.low ≤ p) × (p < y.high)) ⊎ ((p < y.low) ⊎ (y.high ≤ p)) → length (bearing ys p) ≤ 1
          go (inl i) = omega (arith, inner p l i.0 i.1)
          go (inr o) =
              let e = cond-false (within y.low y.high p) (y.value ∷ bearing ys p) (bearing ys p) (within_out y.low y.high p o) in
              let f = s p l in omega (arith, ap length e)

  -- what stands right behind a span is no equal value
  pub behind : (count : ℕ) (x : Span V) (xs : List (Span V)) → Rises x.high count xs → Parted eq x xs → (w : V) → held xs x.high ≡ Some w → eq x.value w ≡ false
  behind count x [] r d w e = let z : ◌≡◌ {A = ℕ} 0 1 = cc in let y : ⊥ = omega arith in absurd y
  behind count x (y ∷ ys) r d w e = go (cases_lt x.high y.low)
    where
      go : (x.high < y.low) ⊎ (y.low ≤ x.high) → eq x.value w ≡ false
      go (inl l) =
          let f = held_early y.low count (y ∷ ys) (omega arith, r.1, r.2) x.high l in
          let z : ◌≡◌ {A = ℕ} 0 1 = cc in let y : ⊥ = omega arith in absurd y
      go (inr l) =
          let r0 = r.0 in let r1 = r.1 in
          let f = held_in y ys x.high l (omega arith) in
          let g : y.value ≡ w = cc in
          subst (λ (u : V). eq x.value u ≡ false) g (d (omega arith))

  pub size_rises : (from count : ℕ) (xs : List (Span V)) → Rises from count xs → AllParted eq xs → size eq (held xs) count ≡ length xs
  size_rises from count [] r d = size_none count
  size_rises from count (x ∷ xs) r d =
      let i = size_rises x.high count xs r.2 d.1 in
      let r1 = r.1 in let e = rises_from x.high count xs r.2 in
      let put : Put count (held (x ∷ xs)) (held xs) x.low x.high x.value =
      record { inside = λ p l a b. held_in x xs p a b; cleared = λ p l a b. held_early x.high count xs r.2 p b; outside = λ p l o. held_out x xs p o } in
      let j = size_first count (held (x ∷ xs)) (held xs) x.low x.high x.value put
      (λ p l b. held_early x.high count xs r.2 p b)
      (λ w h. behind count x xs r.2 d.0 w (sym (held_out x xs x.high (inr (omega arith))) ∙ h))
      r1 (omega arith) in
      omega arith

  -- the length of a canonical list is the size of what it holds
  pub size_canonical : (count : ℕ) (xs : List (Span V)) → Canonical eq count xs → size eq (held xs) count ≡ length xs
  size_canonical count xs c = size_rises 0 count xs c.rises c.parted

  -- a canonical list is the shortest of those that hold the same, and no place twice
  pub least_canonical : (count : ℕ) (xs ys : List (Span V)) → Canonical eq count xs → ((p : ℕ) → p < count → length (bearing ys p) ≤ 1) →
      SameBelow eq count (held ys) (held xs) → length xs ≤ length ys
  least_canonical count xs ys c s e =
      let a = size_canonical count xs c in let b = size_least count ys s in let d = size_same eq law count (held ys) (held xs) e in omega arith

  pub length_canonical : (count : ℕ) (xs ys : List (Span V)) → Canonical eq count xs → Canonical eq count ys →
      SameBelow eq count (held xs) (held ys) → length xs ≡ length ys
  length_canonical count xs ys c d e =
      sym (size_canonical count xs c) ∙ (size_same eq law count (held xs) (held ys) e ∙ size_canonical count ys d)
