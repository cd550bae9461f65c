-- Steps of the walkers.
use Rattle.std.proofs.Common.{◌≡◌, ℕ, zero, suc, ◌+◌, ◌<◌, ◌≤◌, ltb, ◌⊎◌, List, [], ◌∷◌, ◌++◌, length, get_or, take, drop, sym, refl, ap, ◌∙◌, subst, inl, inr, arith}
use Rattle.std.specs.List.{AllByRecursion}
use Rattle.std.proofs.lemmas.List.{drop_all, drop_more, take_all, append_assoc, append-nil}
use Rattle.std.proofs.ByRecursion.{All-weaker, All-drop}
use Rattle.std.proofs.lemmas.Bool.{cases_lt, lt-ltb, le-ltb, cond-true, cond-false, cond_both}
use Rattle.ledger.proofs.Lists.{rises_from}
use Rattle.ledger.specs.Spans.{Span, Gap, Rises}
use Rattle.rangemap.specs.declared.item.Item.{Item}
use Rattle.rangemap.specs.declared.store.Store.{Store}
use Rattle.rangemap.specs.Items.{spans}
use Rattle.rangemap.specs.Maps.{stored}
use Rattle.rangemap.specs.Search.{Last, Stands, Splits}
use Rattle.rangemap.specs.Walks.{past, end}
use Rattle.rangemap.proofs.Rising.{parts, ends_earlier, ends_later, all_full, all_both}
use Rattle.ranges.specs.Parts.{span as ends}
use Rattle.lawful.specs.declared.key.Key.{Ghosts}
use Rattle.rangemap.proofs.Looks.{drop_listed, parts_listed}

module _ {X : Type 0} (high : X → ℕ) where
  -- each ends past the one before
  abbrev pub Climbs : ℕ → List X → Type 0
  Climbs from [] = Unit {0}
  Climbs from (x ∷ xs) = (from < high x) × Climbs (high x) xs

  pub past_in : (p : ℕ) (x : X) (xs : List X) → p < high x → past high p (x ∷ xs) ≡ x ∷ xs
  past_in p x xs l = cond-true _ _ _ (lt-ltb p (high x) l)

  pub past_out : (p : ℕ) (x : X) (xs : List X) → high x ≤ p → past high p (x ∷ xs) ≡ past high p xs
  past_out p x xs l = cond-false _ _ _ (le-ltb p (high x) l)

  -- nothing of a list that climbs from p on is behind p
  pub past_all : (p : ℕ) (xs : List X) → Climbs p xs → past high p xs ≡ xs
  past_all p [] c = refl
  past_all p (x ∷ xs) c = past_in p x xs c.0

  -- past the end of what comes first past p, the rest is left
  pub past_next : (from p : ℕ) (xs : List X) (y : X) (ys : List X) → Climbs from xs → past high p xs ≡ y ∷ ys → (p < high y) × (past high (high y) xs ≡ ys)
  past_next from p [] y ys c e = let z : ◌≡◌ {A = ℕ} 0 1 = cc in let w : ⊥ = omega arith in absurd w
  past_next from p (x ∷ xs) y ys c e = go (λ f. past_next (high x) p xs y ys c.1 f) (cases_lt p (high x))
    where
      go : (past high p xs ≡ y ∷ ys → (p < high y) × (past high (high y) xs ≡ ys)) → (p < high x) ⊎ (high x ≤ p) → (p < high y) × (past high (high y) (x ∷ xs) ≡ ys)
      go rest (inl l) =
          let f = past_in p x xs l in
          let a : x ≡ y = cc in let b : xs ≡ ys = cc in
          let h = ap high a in
          (omega arith, subst (λ n. past high n (x ∷ xs) ≡ ys) h (past_out (high x) x xs (omega arith) ∙ (past_all (high x) xs c.1 ∙ b)))
      go rest (inr l) =
          let i = rest (sym (past_out p x xs l) ∙ e) in
          (i.0, past_out (high y) x xs (omega (arith, i.0)) ∙ i.1)

  -- what holds of each holds of each that is left
  pub past_holds : (P : X → Type 0) (p : ℕ) (xs : List X) → AllByRecursion P xs → AllByRecursion P (past high p xs)
  past_holds P p [] a = tt
  past_holds P p (x ∷ xs) a = cond_both (ltb p (high x)) (x ∷ xs) (past high p xs) (AllByRecursion P) (λ e. a) (λ e. past_holds P p xs a.1)

pub climbs_spans : {K V : Type 0} (keys : Ghosts K) (from count : ℕ) (xs : List (Item K V)) → Rises from count (spans keys xs) → Climbs (end keys) from xs
climbs_spans keys from count [] r = tt
climbs_spans keys from count (x ∷ xs) r = (omega (arith, r.0, r.1), climbs_spans keys (ends keys x.key).high count xs r.2)

pub climbs_gaps : (from count : ℕ) (xs : List Gap) → Rises from count xs → Climbs (λ x. x.high) from xs
climbs_gaps from count [] r = tt
climbs_gaps from count (x ∷ xs) r = (omega (arith, r.0, r.1), climbs_gaps x.high count xs r.2)

-- what stands past a place, by an index
pub past_splits : {K V : Type 0} (keys : Ghosts K) (p : ℕ) (xs : List (Item K V)) (i : ℕ) → Splits p (spans keys xs) i → past (end keys) p xs ≡ drop i xs
past_splits keys p [] zero s = refl
past_splits keys p [] (suc i) s = refl
past_splits keys p (x ∷ xs) zero s = past_in (end keys) p x xs s.later.0
past_splits keys p (x ∷ xs) (suc i) s = past_out (end keys) p x xs s.earlier.0 ∙ past_splits keys p xs i (record { earlier = s.earlier.1; later = s.later })

module _ {V : Type 0} (count p : ℕ) (xs : List (Span V)) (r : Rises 0 count xs) where
  -- behind the last place nothing stands
  pub splits_count : (i : ℕ) → count ≤ p → length xs ≤ i → Splits p xs i
  splits_count i l n =
      record {
        earlier = rw take_all (All-weaker (λ x. x.high + 0 ≤ p) (λ x. x.high ≤ p) (λ x e. omega arith) xs (ends_earlier 0 p 0 count xs (omega arith) r));
        later = rw drop_all tt;
      }

  -- the place lies in the span at i
  pub splits_last : (i : ℕ) → i < length xs → Last 0 p (p + 1) xs i → Splits p xs i
  splits_last i l f = go xs r l f
    where
      go : (ys : List (Span V)) → Rises 0 count ys → i < length ys → Last 0 p (p + 1) ys i → Splits p ys i
      go [] r l f = let z : ⊥ = omega arith in absurd z
      go (y ∷ ys) r l f =
          let q = parts 0 count (y ∷ ys) i y l r in
          let x : Span V = get_or (y ∷ ys) i y in
          let h = f.here y in
          let e = ends_earlier 0 p 0 x.low (take i (y ∷ ys)) (omega (arith, h.0)) q.front in
          let b : AllByRecursion (λ x. p < x.high) (x ∷ drop (i + 1) (y ∷ ys)) = (omega (arith, h.1), ends_later p x.high count (drop (i + 1) (y ∷ ys)) (omega (arith, h.1)) q.back) in
          record {
            earlier = All-weaker (λ x. x.high + 0 ≤ p) (λ x. x.high ≤ p) (λ x e. omega arith) (take i (y ∷ ys)) e;
            later = rw (drop_more (y ∷ ys) i y l) b;
          }

  -- the place lies between the spans
  pub splits_stands : (i : ℕ) → Stands 0 p (p + 1) xs i → Splits p xs i
  splits_stands i s =
      record {
        earlier = All-weaker (λ x. x.high + 0 ≤ p) (λ x. x.high ≤ p) (λ x e. omega arith) (take i xs) s.earlier;
        later =
            all_both (λ x. x.low < x.high) (λ x. p + 1 + 0 ≤ x.low) (λ x. p < x.high) (λ x a b. omega arith) (drop i xs)
            (All-drop (λ x. x.low < x.high) i xs (all_full 0 count xs r)) s.later;
      }

module _ {K V : Type 0} (keys : Ghosts K) (m : Store K V) (rises : Rises 0 keys.COUNT (stored keys m)) (p i : ℕ) (s : Splits p (stored keys m) i) where
  -- nothing is left past the place
  pub ranges_none : length m.items.items ≤ i → past (end keys) p m.items.items ≡ []
  ranges_none n = past_splits keys p m.items.items i s ∙ drop_all i m.items.items (omega arith)

  module _ (x : Item K V) (n : i < length m.items.items) (e : x ≡ get_or m.items.items i x) where
    -- the range at i ends past the place, and at the last place or earlier
    pub ranges_reach : (p < end keys x) × (end keys x ≤ keys.COUNT)
    ranges_reach =
        let h = subst (λ ys. AllByRecursion (λ y. p < y.high) ys) (drop_listed keys m i x n e) s.later in
        let q = parts_listed keys m i x n e rises in
        (h.0, rises_from (ends keys x.key).high keys.COUNT _ q.back)

    -- the range at i is next
    pub ranges_next : past (end keys) p m.items.items ≡ x ∷ past (end keys) (end keys x) m.items.items
    ranges_next =
        let xs = m.items.items in
        let f : past (end keys) p xs ≡ x ∷ drop (i + 1) xs =
        past_splits keys p xs i s ∙ (drop_more xs i x (omega arith) ∙ ap (λ (y : Item K V). y ∷ drop (i + 1) xs) (sym e)) in
        f ∙ ap (λ ys. x ∷ ys) (sym (past_next (end keys) 0 p xs x (drop (i + 1) xs) (climbs_spans keys 0 keys.COUNT xs rises) f).1)

-- a loop that gathers what a walker hands out
module _ {X : Type 0} (high : X → ℕ) (xs : List X) where
  pub gather_none : (p : ℕ) (ys : List X) → p ≡ 0 → ys ≡ [] → Climbs high 0 xs → ys ++ past high p xs ≡ xs
  gather_none p ys e f c = ap (λ zs. zs ++ past high p xs) f ∙ (ap (λ n. past high n xs) e ∙ past_all high 0 xs c)

  pub gather_more : (p q : ℕ) (x : X) (ys zs : List X) → zs ≡ ys ++ x ∷ [] → past high p xs ≡ x ∷ past high q xs → ys ++ past high p xs ≡ xs → zs ++ past high q xs ≡ xs
  gather_more p q x ys zs e f h =
      ap (λ ws. ws ++ past high q xs) e ∙ (append_assoc ys (x ∷ []) (past high q xs) ∙ (ap (λ ws. ys ++ ws) (sym f) ∙ h))

  pub gather_all : (p : ℕ) (ys : List X) → past high p xs ≡ [] → ys ++ past high p xs ≡ xs → ys ≡ xs
  gather_all p ys e h = sym (append-nil ys) ∙ (ap (λ ws. ys ++ ws) (sym e) ∙ h)
