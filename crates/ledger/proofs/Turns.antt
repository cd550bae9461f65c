-- Turns: the places that hold another thing than the place before, with none on both outsides.
-- A change of one range adds at most two, and of the turns at least one begins no range.
use Rattle.std.proofs.Common.{◌≡◌, ℕ, zero, suc, ◌+◌, ◌-◌, ◌*◌, ◌<◌, ◌≤◌, Bool, true, false, cond, ◌⊎◌, Some, None, Option, sym, refl, ap, ◌∙◌, ap₂, inl, inr, arith}
use Rattle.std.proofs.lemmas.Bool.{cases_Bool}
use Rattle.std.specs.Cmp.{IsEquivalence}
use Rattle.lawful.specs.Equals.{same}
use Rattle.ledger.specs.Values.{Held, before, begins, size, sum_below}
use Rattle.ledger.proofs.Sums.{sum_le, sum_add, sum_at_le, sum_at_none, at, at_here}
use Rattle.ledger.proofs.Lists.{within_cases}

-- 1 unless both are the same
abbrev pub turn : {V : Type 0} → (V → V → Bool) → Option V → Option V → ℕ
turn eq a b = cond (same eq a b) 0 1

abbrev pub turns : {V : Type 0} → (V → V → Bool) → Held V → ℕ → ℕ
turns eq h n = sum_below (λ p. turn eq (before h p) (h p)) n + turn eq (before h n) None

bit : (t : Bool) → cond t 0 1 ≤ 1
bit true = omega arith
bit false = omega arith

bit_true : (t : Bool) → t ≡ true → ◌≡◌ {A = ℕ} (cond t 0 1) 0
bit_true t e = ap (λ t. cond t 0 1) e

bit_false : (t : Bool) → t ≡ false → ◌≡◌ {A = ℕ} (cond t 0 1) 1
bit_false t e = ap (λ t. cond t 0 1) e

-- h is k, changed at the places of a range by f
pub record Made {V : Type 0} (n : ℕ) (h k : Held V) (low high : ℕ) (f : Option V → Option V) : Type 0 where
  pub inside : (p : ℕ) → p < n → low ≤ p → p < high → h p ≡ f (k p)
  pub outside : (p : ℕ) → p < n → (p < low) ⊎ (high ≤ p) → h p ≡ k p

module _ {V : Type 0} (eq : V → V → Bool) (law : IsEquivalence eq) where
  turn_le : (a b : Option V) → turn eq a b ≤ 1
  turn_le a b = bit (same eq a b)

  turn_some : (a : Option V) (v : V) → begins eq a (Some v) ≡ turn eq a (Some v)
  turn_some None v = refl
  turn_some (Some a) v = refl

  turn_none : (a : Option V) → begins eq a None ≡ 0
  turn_none None = refl
  turn_none (Some a) = refl

  -- a size of one or more is below the turns
  pub size_turns : (h : Held V) (n : ℕ) → (size eq h n ≤ sum_below (λ p. turn eq (before h p) (h p)) n) × ((size eq h n ≡ 0) ⊎ (size eq h n + 1 ≤ turns eq h n))
  unfolding sum_below
  size_turns h zero = (omega arith, inl refl)
  size_turns h (suc n) = go (h n) refl (size_turns h n)
    where
      S : ℕ
      S = size eq h n

      P : ℕ
      P = sum_below (λ p. turn eq (before h p) (h p)) n

      go : (o : Option V) → h n ≡ o → (S ≤ P) × ((S ≡ 0) ⊎ (S + 1 ≤ P + turn eq (before h n) None)) →
          (S + begins eq (before h n) (h n) ≤ P + turn eq (before h n) (h n)) ×
          ((S + begins eq (before h n) (h n) ≡ 0) ⊎ (S + begins eq (before h n) (h n) + 1 ≤ P + turn eq (before h n) (h n) + turn eq (h n) None))
      go None e (i, j) =
          let b = ap (begins eq (before h n)) e ∙ turn_none (before h n) in
          let t = ap (turn eq (before h n)) e in
          let u = ap (λ o. turn eq o None) e in
          (omega arith, next j)
        where
          next : (S ≡ 0) ⊎ (S + 1 ≤ P + turn eq (before h n) None) →
              (S + begins eq (before h n) (h n) ≡ 0) ⊎ (S + begins eq (before h n) (h n) + 1 ≤ P + turn eq (before h n) (h n) + turn eq (h n) None)
          next (inl z) = inl (let b = ap (begins eq (before h n)) e ∙ turn_none (before h n) in omega arith)
          next (inr z) =
              inr (let b = ap (begins eq (before h n)) e ∙ turn_none (before h n) in let t = ap (turn eq (before h n)) e in omega arith)
      go (Some v) e (i, j) =
          let b = ap (begins eq (before h n)) e ∙ (turn_some (before h n) v ∙ ap (turn eq (before h n)) (sym e)) in
          let u = ap (λ o. turn eq o None) e in
          (omega arith, inr (omega arith))

  module _ (n : ℕ) (h k : Held V) (low high : ℕ) (f : Option V → Option V) (m : Made n h k low high f) (resp : (a b : Option V) → same eq a b ≡ true → same eq (f a) (f b) ≡ true) where
    turn_f : (a b : Option V) → turn eq (f a) (f b) ≤ turn eq a b
    turn_f a b = go (cases_Bool (same eq a b))
      where
        go : (same eq a b ≡ true) ⊎ (same eq a b ≡ false) → turn eq (f a) (f b) ≤ turn eq a b
        go (inl e) = let z = bit_true (same eq (f a) (f b)) (resp a b e) in omega arith
        go (inr e) = let z = bit_false (same eq a b) e in let y = turn_le (f a) (f b) in omega arith

    turn_made : (p : ℕ) → p < n → turn eq (before h p) (h p) ≤ turn eq (before k p) (k p) + at low p + at high p
    turn_made zero l = go (within_cases low high 0)
      where
        go : ((low ≤ 0) × (0 < high)) ⊎ ((0 < low) ⊎ (high ≤ 0)) → turn eq None (h 0) ≤ turn eq None (k 0) + at low 0 + at high 0
        go (inl i) = let a = at_here low 0 (omega arith) in let b = turn_le None (h 0) in omega arith
        go (inr o) = let e = ap (turn eq None) (m.outside 0 l o) in omega arith
    turn_made (suc q) l = go (within_cases low high (suc q)) (within_cases low high q)
      where
        go : ((low ≤ suc q) × (suc q < high)) ⊎ ((suc q < low) ⊎ (high ≤ suc q)) → ((low ≤ q) × (q < high)) ⊎ ((q < low) ⊎ (high ≤ q)) →
            turn eq (h q) (h (suc q)) ≤ turn eq (k q) (k (suc q)) + at low (suc q) + at high (suc q)
        go (inl i) (inl j) =
            let e = ap₂ (turn eq) (m.inside q (omega arith) j.0 j.1) (m.inside (suc q) l i.0 i.1) in
            let t = turn_f (k q) (k (suc q)) in omega arith
        go (inl i) (inr (inl o)) = let a = at_here low (suc q) (omega arith) in let b = turn_le (h q) (h (suc q)) in omega arith
        go (inl i) (inr (inr o)) = let z : ⊥ = omega arith in absurd z
        go (inr o) (inl j) = let a = at_here high (suc q) (omega arith) in let b = turn_le (h q) (h (suc q)) in omega arith
        go (inr o) (inr u) = let e = ap₂ (turn eq) (m.outside q (omega arith) u) (m.outside (suc q) l o) in omega arith

    sum_made : sum_below (λ p. turn eq (before h p) (h p)) n ≤ sum_below (λ p. turn eq (before k p) (k p)) n + sum_below (at low) n + sum_below (at high) n
    sum_made =
        let T : ℕ → ℕ = λ p. turn eq (before k p) (k p) in
        let a = sum_le (λ p. turn eq (before h p) (h p)) (λ p. T p + at low p + at high p) n turn_made in
        let b = sum_add (λ p. T p + at low p) (at high) n in
        let c = sum_add T (at low) n in omega arith

    -- where the range reaches the end, no turn stands at its end
    end_made : turn eq (before h n) None + sum_below (at high) n ≤ turn eq (before k n) None + 1
    end_made = go n refl
      where
        go : (j : ℕ) → n ≡ j → turn eq (before h n) None + sum_below (at high) n ≤ turn eq (before k n) None + 1
        go zero e =
            let a = ap (λ i. turn eq (before h i) None) e in let b = sum_at_le high n in omega arith
        go (suc q) e = at_q (within_cases low high q)
          where
            at_q : ((low ≤ q) × (q < high)) ⊎ ((q < low) ⊎ (high ≤ q)) → turn eq (before h n) None + sum_below (at high) n ≤ turn eq (before k n) None + 1
            at_q (inl i) = let a = turn_le (before h n) None in let b = sum_at_none high n (omega arith) in omega arith
            at_q (inr o) =
                let a = ap (λ i. turn eq (before h i) None) e in
                let b = ap (λ i. turn eq (before k i) None) e in
                let c = ap (λ o. turn eq o None) (m.outside q (omega arith) o) in
                let d = sum_at_le high n in omega arith

    -- a change of one range adds at most two turns
    pub turns_made : turns eq h n ≤ turns eq k n + 2
    turns_made = let a = sum_made in let b = end_made in let c = sum_at_le low n in omega arith

  pub turns_none : (n : ℕ) → turns eq (λ p. None) n ≡ 0
  unfolding sum_below
  turns_none zero = refl
  turns_none (suc n) = go n (turns_none n)
    where
      go : (n : ℕ) → turns eq (λ p. None) n ≡ 0 → turns eq (λ p. None) (suc n) ≡ 0
      go zero h = refl
      go (suc n) h = omega arith

  pub size_few : (h : Held V) (n c : ℕ) → turns eq h n ≤ 2 * c → size eq h n ≤ 2 * c - 1
  size_few h n c l = go (size_turns h n).1
    where
      go : (size eq h n ≡ 0) ⊎ (size eq h n + 1 ≤ turns eq h n) → size eq h n ≤ 2 * c - 1
      go (inl e) = omega arith
      go (inr e) = omega arith
