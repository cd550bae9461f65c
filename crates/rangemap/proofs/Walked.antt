-- The backward walk of the removal.
use Rattle.std.proofs.Common.{◌≡◌, ℕ, ◌+◌, ◌-◌, ◌<◌, ◌≤◌, min, max, ◌⊎◌, List, [], ◌∷◌, ◌++◌, length, get_or, take, drop, sym, refl, ap, ◌∙◌, subst, ap₂, inl, inr, arith}
use Rattle.std.specs.List.{HoldsAt, AllByRecursion}
use Rattle.std.proofs.lemmas.List.{append_assoc, length-append, length-map, length-take-le, take_more, drop_more, take_at, drop_at, get_or_at, get_or-take, get_or_default, take-append-drop}
use Rattle.std.proofs.ByRecursion.{All-get_or, All-drop, All-take, All-weaker}
use Rattle.std.proofs.lemmas.Bool.{cases_lt}
use Rattle.ledger.specs.Spans.{Span, Rises}
use Rattle.rangemap.specs.declared.item.Item.{Item}
use Rattle.rangemap.specs.Items.{span_at, spans}
use Rattle.rangemap.specs.Search.{Rising, Last, Joins}
use Rattle.rangemap.specs.Cuts.{piece, cut, cut_span, Cutting, Gave, Walked}
use Rattle.rangemap.proofs.Rising.{parts, all_full, all_earlier, ends_earlier, span_read}
use Rattle.rangemap.proofs.Gives.{piece_there}
use Rattle.lawful.specs.declared.key.Key.{Ghosts}
use Rattle.rangemap.proofs.Takes.{cut-++, cut_below, cut_above}

module _ {V : Type 0} (low high : ℕ) (old xs : List (Span V)) (i : ℕ) (d : Span V) (l : i < length old) (c : Cutting low high old xs (i + 1)) where
  -- what stands at i and before it is as it was, and what stands behind it is cut
  whole : xs ≡ take i old ++ get_or old i d ∷ cut low high (drop (i + 1) old)
  whole = c ∙ (ap (λ ys. ys ++ cut low high (drop (i + 1) old)) (take_more old i d l) ∙ append_assoc (take i old) (get_or old i d ∷ []) _)

  front : take i xs ≡ take i old
  front = ap (take i) whole ∙ take_at (take i old) _ i (length-take-le i old (omega arith))

  pub stood : get_or xs i d ≡ get_or old i d
  stood = ap (λ ys. get_or ys i d) whole ∙ get_or_at (take i old) (get_or old i d) _ d i (length-take-le i old (omega arith))

  behind : drop (i + 1) xs ≡ cut low high (drop (i + 1) old)
  behind = ap (drop (i + 1)) c ∙ drop_at (take (i + 1) old) _ (i + 1) (length-take-le (i + 1) old (omega arith))

  -- the span at i gives way too
  pub cutting_more : (ys : List (Span V)) → Gave low high xs i ys → Cutting low high old ys i
  cutting_more ys g =
      g.is d ∙ (ap₂ (λ (us ws : List (Span V)). us ++ ws) front (ap₂ (cut_span low high) stood behind) ∙ ap (λ ws. take i old ++ cut low high ws) (sym (drop_more old i d l)))

-- where the spans before i end before the range, the cut is whole
module _ {V : Type 0} (low high : ℕ) (lt : low < high) (old xs : List (Span V)) where
  pub cutting_all : (i : ℕ) → Rising old → AllByRecursion (λ x. x.high ≤ low) (take i old) → Cutting low high old xs i → xs ≡ cut low high old
  cutting_all i (count, r) b c =
      c ∙ sym (ap (cut low high) (sym (take-append-drop i old)) ∙ (cut-++ low high (take i old) (drop i old) ∙
      ap (λ ys. ys ++ cut low high (drop i old)) (cut_below low high (take i old) lt (All-take (λ x. x.low < x.high) i old (all_full 0 count old r)) b)))

at_one : {X : Type 0} (P : X → Type 0) (xs : List X) (i : ℕ) (d : X) → i < length xs → P (get_or xs i d) → HoldsAt P xs i
at_one P xs i d l p e = subst P (get_or_default xs i d e l) p

-- in a rising list, a span ends before a later one starts
rises_order : {V : Type 0} (count : ℕ) (xs : List (Span V)) (i j : ℕ) (d : Span V) → i < j → j < length xs → Rises 0 count xs → (get_or xs i d).high ≤ (get_or xs j d).low
rises_order count xs i j d a b r =
    let p = parts 0 count xs j d b r in
    let n = (get_or xs j d).low in
    let h = All-get_or (λ x. x.high + 0 ≤ n) (take j xs) i d (omega (arith, length-take-le j xs (omega arith))) (ends_earlier 0 n 0 n (take j xs) (omega arith) p.front) in
    omega (arith, h, ap (λ x. x.high) (get_or-take j xs i d a))

-- a span that reaches past the range on both sides becomes two
length_split : {V : Type 0} (low high : ℕ) (x : Span V) (zs : List (Span V)) → low < high → x.low < low → high < x.high → length (cut_span low high x zs) ≡ length zs + 2
length_split low high x zs lt a b =
    let m = ap length (piece_there x.low (min x.high low) x.value (piece (max x.low high) x.high x.value zs) (omega arith)) in
    let n = ap length (piece_there (max x.low high) x.high x.value zs (omega arith)) in
    omega (arith, m, n)

-- what the walk begins with: a key that holds a place, and the last item that shares one with it
pub record Begun {K V : Type 0} (keys : Ghosts K) (low high : ℕ) (old : List (Item K V)) (from : ℕ) : Type 0 where
  pub full : low < high
  pub within : from < length old
  pub found : Rising (spans keys old) → Last 0 low high (spans keys old) from

module _ {K V : Type 0} {keys : Ghosts K} {low high : ℕ} {old : List (Item K V)} {from : ℕ} (begun : Begun keys low high old from) where
  later : Rising (spans keys old) → AllByRecursion (λ x. high ≤ x.low) (drop (from + 1) (spans keys old))
  later r = All-weaker (λ x. high + 0 ≤ x.low) (λ x. high ≤ x.low) (λ x e. omega arith) (drop (from + 1) (spans keys old)) (begun.found r).later

  -- the cut leaves what stands behind the found span
  cut_later : Rising (spans keys old) → cut low high (drop (from + 1) (spans keys old)) ≡ drop (from + 1) (spans keys old)
  cut_later (count, r) =
      cut_above low high (drop (from + 1) (spans keys old)) begun.full (All-drop (λ x. x.low < x.high) (from + 1) (spans keys old) (all_full 0 count (spans keys old) r)) (later (count, r))

  pub walked_first : Walked keys low high old old from from
  walked_first =
      record {
        back = omega arith;
        same = λ e. refl;
        cutting = λ r. sym (take-append-drop (from + 1) (spans keys old)) ∙ ap (λ ys. take (from + 1) (spans keys old) ++ ys) (sym (cut_later r));
      }

  module _ {xs : List (Item K V)} {addr : ℕ} (w : Walked keys low high old xs from addr) (d : Span V) where
    inside : addr < length (spans keys old)
    inside = omega (arith, length-map old (span_at keys), begun.within, w.back)

    is : Rising (spans keys old) → get_or (spans keys xs) addr d ≡ get_or (spans keys old) addr d
    is r = stood low high (spans keys old) (spans keys xs) addr d inside (w.cutting r)

    given : (ys : List (Item K V)) → Gave low high (spans keys xs) addr (spans keys ys) → Rising (spans keys old) → Cutting low high (spans keys old) (spans keys ys) addr
    given ys g r = cutting_more low high (spans keys old) (spans keys xs) addr d inside (w.cutting r) (spans keys ys) g

    -- the item at addr gave way, and the walk goes on
    pub walked_on : (ys : List (Item K V)) → (addr ≡ 0 → ⊥) → Gave low high (spans keys xs) addr (spans keys ys) → Walked keys low high old ys from (addr - 1)
    walked_on ys z g =
        let e : addr ≡ addr - 1 + 1 = omega arith in
        record {
          back = omega (arith, w.back);
          same = λ e. let y : ⊥ = omega (arith, w.back) in absurd y;
          cutting = λ r. subst (λ n. Cutting low high (spans keys old) (spans keys ys) n) e (given ys g r);
        }

    -- it was the first
    pub walked_start : (ys : List (Item K V)) → addr ≡ 0 → Gave low high (spans keys xs) addr (spans keys ys) → Rising (spans keys old) → spans keys ys ≡ cut low high (spans keys old)
    walked_start ys z g r = subst (λ n. Cutting low high (spans keys old) (spans keys ys) n) z (given ys g r)

    -- it starts before the key
    pub walked_done : (ys : List (Item K V)) → Gave low high (spans keys xs) addr (spans keys ys) → HoldsAt (λ x. x.low < low) (spans keys xs) addr → Rising (spans keys old) → spans keys ys ≡ cut low high (spans keys old)
    walked_done ys g a (count, r) =
        let p = parts 0 count (spans keys old) addr d inside r in
        let h = ap (λ x. x.low) (is (count, r)) in
        let b = ends_earlier 0 low 0 (get_or (spans keys old) addr d).low (take addr (spans keys old)) (omega (arith, a d, h)) p.front in
        cutting_all low high begun.full (spans keys old) (spans keys ys) addr (count, r) (All-weaker (λ x. x.high + 0 ≤ low) (λ x. x.high ≤ low) (λ x e. omega arith) (take addr (spans keys old)) b)
        (given ys g (count, r))

    -- each span up to the found one starts before the key's end
    starts : Rising (spans keys old) → (get_or (spans keys old) addr d).low < high
    starts (count, r) = go (cases_lt addr from)
      where
        h : (get_or (spans keys old) from d).low < high
        h = omega (arith, ((begun.found (count, r)).here d).0)

        go : (addr < from) ⊎ (from ≤ addr) → (get_or (spans keys old) addr d).low < high
        go (inl k) =
            let o = rises_order count (spans keys old) addr from d k (omega (arith, length-map old (span_at keys))) r in
            let p = parts 0 count (spans keys old) addr d inside r in
            omega (arith, p.here, h)
        go (inr k) = let e : from ≡ addr = omega (arith, w.back) in subst (λ n. (get_or (spans keys old) n d).low < high) e h

    -- it ends before the key starts
    pub walked_miss : ((get_or (spans keys xs) addr d).low < (get_or (spans keys xs) addr d).high → Joins 0 low high (get_or (spans keys xs) addr d) → ⊥) → Rising (spans keys old) → spans keys xs ≡ cut low high (spans keys old)
    walked_miss z r = go (cases_lt low (get_or (spans keys old) addr d).high)
      where
        go : (low < (get_or (spans keys old) addr d).high) ⊎ ((get_or (spans keys old) addr d).high ≤ low) → spans keys xs ≡ cut low high (spans keys old)
        go (inl k) =
            let p = parts 0 r.0 (spans keys old) addr d inside r.1 in
            let a = ap (λ x. x.low) (is r) in
            let b = ap (λ x. x.high) (is r) in
            absurd (z (omega (arith, p.here, a, b)) (omega (arith, starts r, a), omega (arith, b)))
        go (inr k) =
            let b = all_earlier 0 low (spans keys old) addr inside (at_one (λ x. x.high + 0 ≤ low) (spans keys old) addr d inside (omega arith)) r in
            cutting_all low high begun.full (spans keys old) (spans keys xs) (addr + 1) r
            (All-weaker (λ x. x.high + 0 ≤ low) (λ x. x.high ≤ low) (λ x e. omega arith) (take (addr + 1) (spans keys old)) b) (w.cutting r)

    -- the same of the item that was read
    pub walked_miss_read : (x : Item K V) → d ≡ span_at keys x → addr < length xs → x ≡ get_or xs addr x → ((span_at keys x).low < (span_at keys x).high → Joins 0 low high (span_at keys x) → ⊥) → Rising (spans keys old) → spans keys xs ≡ cut low high (spans keys old)
    walked_miss_read x f l e z =
        let h : get_or (spans keys xs) addr d ≡ span_at keys x = ap (get_or (spans keys xs) addr) f ∙ span_read keys xs addr x l e in
        walked_miss (λ n j. z (subst (λ (y : Span V). y.low < y.high) h n) (subst (Joins 0 low high) h j))

    -- it has a part on both sides of the key, so that it is the found one, and nothing was changed yet
    pub walked_full : (slots : ℕ) → HoldsAt (λ x. (x.low < low) × (high < x.high)) (spans keys xs) addr → slots ≤ length xs → Rising (spans keys old) →
        (xs ≡ old) × (slots < length (cut low high (spans keys old)))
    walked_full slots a n (count, r) = (w.same same, omega (arith, size, length-map old (span_at keys), ap length (w.same same)))
      where
        low_is : (get_or (spans keys old) addr d).low < low
        low_is = omega (arith, (a d).0, ap (λ x. x.low) (is (count, r)))

        high_is : high < (get_or (spans keys old) addr d).high
        high_is = omega (arith, (a d).1, ap (λ x. x.high) (is (count, r)))

        same : addr ≡ from
        same = go (cases_lt addr from)
          where
            go : (addr < from) ⊎ (from ≤ addr) → addr ≡ from
            go (inl k) =
                let o = rises_order count (spans keys old) addr from d k (omega (arith, length-map old (span_at keys))) r in
                let z : ⊥ = omega (arith, high_is, ((begun.found (count, r)).here d).0) in absurd z
            go (inr k) = omega (arith, w.back)

        -- before, at and behind the found span
        size : length (cut low high (spans keys old)) ≡ length (spans keys old) + 1
        size =
            let p = parts 0 count (spans keys old) addr d inside r in
            let x : Span V = get_or (spans keys old) addr d in
            let back : List (Span V) = drop (addr + 1) (spans keys old) in
            let b = ends_earlier 0 low 0 x.low (take addr (spans keys old)) (omega (arith, low_is)) p.front in
            let f = cut_below low high (take addr (spans keys old)) begun.full (All-take (λ x. x.low < x.high) addr (spans keys old) (all_full 0 count (spans keys old) r))
            (All-weaker (λ x. x.high + 0 ≤ low) (λ x. x.high ≤ low) (λ x e. omega arith) (take addr (spans keys old)) b) in
            let e : spans keys old ≡ take addr (spans keys old) ++ x ∷ back = sym (take-append-drop addr (spans keys old)) ∙ ap (λ ys. take addr (spans keys old) ++ ys) (drop_more (spans keys old) addr d inside) in
            let c : cut low high back ≡ back = subst (λ n. cut low high (drop (n + 1) (spans keys old)) ≡ drop (n + 1) (spans keys old)) (sym same) (cut_later (count, r)) in
            let h : cut low high (spans keys old) ≡ take addr (spans keys old) ++ cut_span low high x back =
            ap (cut low high) e ∙ (cut-++ low high (take addr (spans keys old)) (x ∷ back) ∙ ap₂ (λ (us ws : List (Span V)). us ++ cut_span low high x ws) f c) in
            let s = length_split low high x back begun.full low_is high_is in
            let m = ap length h ∙ length-append (take addr (spans keys old)) (cut_span low high x back) in
            let k = ap length e ∙ length-append (take addr (spans keys old)) (x ∷ back) in
            omega arith
