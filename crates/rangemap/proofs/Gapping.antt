-- Steps of the walker over the gaps.
use Rattle.std.proofs.Common.{◌≡◌, ℕ, zero, suc, ◌+◌, ◌-◌, ◌<◌, ◌≤◌, ◌⊎◌, List, [], ◌∷◌, ◌++◌, get_or, take, drop, Some, None, length, sym, refl, ap, ◌∙◌, subst, inl, inr, arith}
use Rattle.std.specs.List.{AllByRecursion}
use Rattle.std.proofs.lemmas.List.{drop_all, take_more}
use Rattle.std.proofs.lemmas.Bool.{cases_lt}
use Rattle.ledger.specs.Spans.{Span, Gap, Rises, gap, gaps_from, gaps}
use Rattle.ledger.proofs.Gaps.{gap_there, gap_not, gaps_rise}
use Rattle.rangemap.specs.declared.item.Item.{Item}
use Rattle.ranges.specs.declared.range.any.AnyRange.{AnyRange}
use Rattle.rangemap.specs.declared.store.Store.{Store}
use Rattle.rangemap.specs.Items.{span_at}
use Rattle.rangemap.specs.Maps.{stored, RisesIn}
use Rattle.rangemap.specs.Search.{Splits}
use Rattle.rangemap.specs.Walks.{past, end_of, gap_end, gap_of, First}
use Rattle.rangemap.proofs.Looks.{len_listed, span_listed, drop_listed}
use Rattle.rangemap.proofs.Rising.{ends_earlier}
use Rattle.ranges.specs.Parts.{span as ends}
use Rattle.lawful.specs.declared.key.Key.{Ghosts}
use Rattle.rangemap.proofs.Walking.{past_in, past_out, past_next, past_holds, climbs_gaps}

-- a gap that is not there, or ends at the place or earlier, is passed over
pub gap_passed : (p low high : ℕ) (gs : List Gap) → (high ≤ low) ⊎ (high ≤ p) → past gap_end p (gap low high gs) ≡ past gap_end p gs
gap_passed p low high gs o = go (cases_lt low high) o
  where
    go : (low < high) ⊎ (high ≤ low) → (high ≤ low) ⊎ (high ≤ p) → past gap_end p (gap low high gs) ≡ past gap_end p gs
    go (inr l) o = ap (past gap_end p) (gap_not low high gs l)
    go (inl l) (inl k) = let z : ⊥ = omega arith in absurd z
    go (inl l) (inr k) = ap (past gap_end p) (gap_there low high gs l) ∙ past_out gap_end p (record { low = low; high = high; value = tt }) gs k

-- a gap that ends past the place comes first
pub gap_first : (p low high : ℕ) (gs : List Gap) → low < high → p < high → past gap_end p (gap low high gs) ≡ record { low = low; high = high; value = tt } ∷ gs
gap_first p low high gs l k = ap (past gap_end p) (gap_there low high gs l) ∙ past_in gap_end p (record { low = low; high = high; value = tt }) gs k

module _ {V : Type 0} where
  -- the gaps before spans that end at the place or earlier are passed over
  pub gaps_skip : (p from count : ℕ) (xs : List (Span V)) (i : ℕ) → Rises from count xs → AllByRecursion (λ x. x.high ≤ p) (take i xs) →
      past gap_end p (gaps_from from count xs) ≡ past gap_end p (gaps_from (end_of from (take i xs)) count (drop i xs))
  gaps_skip p from count xs zero r a = refl
  gaps_skip p from count [] (suc i) r a = refl
  gaps_skip p from count (x ∷ xs) (suc i) r a =
      gap_passed p from x.low (gaps_from x.high count xs) (inr (omega (arith, a.0, r.1))) ∙ gaps_skip p x.high count xs i r.2 a.1

  end_push : (from : ℕ) (xs : List (Span V)) (x : Span V) → end_of from (xs ++ x ∷ []) ≡ x.high
  end_push from [] x = refl
  end_push from (y ∷ xs) x = end_push y.high xs x

  -- the last of the first spans
  pub end_take : {K : Type 0} (keys : Ghosts K) (m : Store K V) (i : ℕ) (x : Item K V) → 0 < i → i ≤ length m.items.items → x ≡ get_or m.items.items (i - 1) x → (ends keys x.key).high ≡ end_of 0 (take i (stored keys m))
  end_take keys m i x z l e =
      let k : i - 1 + 1 ≡ i = omega arith in
      let f = subst (λ n. take n (stored keys m) ≡ take (i - 1) (stored keys m) ++ get_or (stored keys m) (i - 1) (span_at keys x) ∷ []) k (take_more (stored keys m) (i - 1) (span_at keys x) (omega (arith, len_listed keys m))) in
      sym (ap (end_of 0) f ∙ (end_push 0 (take (i - 1) (stored keys m)) (get_or (stored keys m) (i - 1) (span_at keys x)) ∙ ap (λ y. y.high) (span_listed keys m (i - 1) x (omega arith) e)))

-- where a look for the first gap past the place stands: what is left from the end `low` on, and the index i
abbrev pub LooksOn : {K V : Type 0} → Ghosts K → Store K V → ℕ → ℕ → ℕ → Type 0
LooksOn keys m p low i = RisesIn keys m → past gap_end p (gaps keys.COUNT (stored keys m)) ≡ past gap_end p (gaps_from low keys.COUNT (drop i (stored keys m)))

module _ {K V : Type 0} (keys : Ghosts K) (m : Store K V) (p : ℕ) where
  pub looks_first : (i low : ℕ) → (RisesIn keys m → Splits p (stored keys m) i) → low ≡ end_of 0 (take i (stored keys m)) → LooksOn keys m p low i
  looks_first i low s e r =
      gaps_skip p 0 keys.COUNT (stored keys m) i r (s r).earlier ∙ ap (λ n. past gap_end p (gaps_from n keys.COUNT (drop i (stored keys m)))) (sym e)

  module _ (low i : ℕ) (h : LooksOn keys m p low i) where
    module _ (x : Item K V) (l : i < length m.items.items) (e : x ≡ get_or m.items.items i x) where
      here : RisesIn keys m → past gap_end p (gaps keys.COUNT (stored keys m)) ≡ past gap_end p (gap low (ends keys x.key).low (gaps_from (ends keys x.key).high keys.COUNT (drop (i + 1) (stored keys m))))
      here r = h r ∙ ap (λ ys. past gap_end p (gaps_from low keys.COUNT ys)) (drop_listed keys m i x l e)

      pub looks_found : (high : ℕ) → high ≡ (ends keys x.key).low → low < high → p < high → RisesIn keys m →
          First (past gap_end p (gaps keys.COUNT (stored keys m))) (Some (record { low = low; high = high; value = tt }))
      looks_found high f a b r =
          (_, here r ∙ (ap (λ n. past gap_end p (gap low n (gaps_from (ends keys x.key).high keys.COUNT (drop (i + 1) (stored keys m))))) (sym f) ∙ gap_first p low high _ a b))

      pub looks_more : (next : ℕ) → next ≡ (ends keys x.key).high → ((ends keys x.key).low ≤ low) ⊎ ((ends keys x.key).low ≤ p) → LooksOn keys m p next (i + 1)
      looks_more next f o r = here r ∙ (gap_passed p low (ends keys x.key).low _ o ∙ ap (λ n. past gap_end p (gaps_from n keys.COUNT (drop (i + 1) (stored keys m)))) (sym f))

    module _ (l : length m.items.items ≤ i) where
      last : RisesIn keys m → past gap_end p (gaps keys.COUNT (stored keys m)) ≡ past gap_end p (gap low keys.COUNT [])
      last r = h r ∙ ap (λ ys. past gap_end p (gaps_from low keys.COUNT ys)) (drop_all i (stored keys m) (omega (arith, len_listed keys m)))

      pub looks_last : low < keys.COUNT → p < keys.COUNT → RisesIn keys m →
          First (past gap_end p (gaps keys.COUNT (stored keys m))) (Some (record { low = low; high = keys.COUNT; value = tt }))
      looks_last a b r = (_, last r ∙ gap_first p low keys.COUNT [] a b)

      pub looks_none : (keys.COUNT ≤ low) ⊎ (keys.COUNT ≤ p) → RisesIn keys m → First (past gap_end p (gaps keys.COUNT (stored keys m))) None
      looks_none o r = last r ∙ gap_passed p low keys.COUNT [] o

module _ {K V : Type 0} (keys : Ghosts K) (m : Store K V) (rises : Rises 0 keys.COUNT (stored keys m)) (p : ℕ) (x : AnyRange K) (first : First (past gap_end p (gaps keys.COUNT (stored keys m))) (Some (gap_of keys x))) where
  abbrev all : List Gap
  all = gaps keys.COUNT (stored keys m)

  abbrev rise : Rises 0 keys.COUNT all
  rise = gaps_rise 0 keys.COUNT (stored keys m) rises

  abbrev behind : (p < (ends keys x).high) × (past gap_end (ends keys x).high all ≡ first.0)
  behind = past_next gap_end 0 p all (gap_of keys x) first.0 (climbs_gaps 0 keys.COUNT all rise) first.1

  -- the first gap past the place ends past it, and at the last place or earlier
  pub gaps_reach : (p < (ends keys x).high) × ((ends keys x).high ≤ keys.COUNT)
  gaps_reach =
      let b = subst (λ ys. AllByRecursion (λ x. x.high + 0 ≤ keys.COUNT) ys) first.1
      (past_holds gap_end (λ x. x.high + 0 ≤ keys.COUNT) p all (ends_earlier 0 keys.COUNT 0 keys.COUNT all (omega arith) rise)) in
      (behind.0, omega (arith, b.0))

  -- it is next
  pub gaps_next : past gap_end p all ≡ gap_of keys x ∷ past gap_end (ends keys x).high all
  gaps_next = first.1 ∙ ap (λ ys. gap_of keys x ∷ ys) (sym behind.1)
