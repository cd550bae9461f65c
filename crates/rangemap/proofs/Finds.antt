-- What the search answers, in the words of the walks. Assumes nothing.
use Rattle.std.proofs.Common.{ℕ, suc, ◌+◌, ◌<◌, ◌≤◌, Bool, true, List, [], ◌∷◌, length, take, drop, Ok, Err, Result, subst, inl, inr, arith, MatchResult}
use Rattle.std.proofs.ByRecursion.{All-get_or}
use Rattle.std.proofs.lemmas.List.{length-map}
use Rattle.std.specs.List.{AllByRecursion}
use Rattle.lawful.specs.declared.key.Key.{Ghosts}
use Rattle.ranges.specs.declared.range.any.AnyRange.{AnyRange}
use Rattle.ledger.specs.Spans.{Span, Rises}
use Rattle.rangemap.specs.declared.item.Item.{Item}
use Rattle.rangemap.specs.Items.{Found, Free, span_at, spans}
use Rattle.rangemap.specs.Ranges.{lo, hi, Full}
use Rattle.rangemap.specs.Search.{Index, Rising, Joins, Last, Searched}
use Rattle.rangemap.specs.Spans.{Tight, From, Ends}
use Rattle.rangemap.specs.Walks.{end_of}
use Rattle.rangemap.proofs.Held.{leads_from}
use Rattle.rangemap.proofs.Links.{from_zero}
use Rattle.rangemap.proofs.Rising.{span_read}

module _ {V : Type 0} (eq : V → V → Bool) where
  rises_end : (from : ℕ) (xs : List (Span V)) → From from xs → Tight eq xs → Rises from (end_of from xs) xs
  rises_end from [] starts tight = omega arith
  rises_end from (x ∷ xs) starts tight =
      (starts, tight.0, rises_end x.high xs (leads_from eq x.high x.value xs tight.1) tight.2)

  tight_full : (xs : List (Span V)) → Tight eq xs → AllByRecursion (λ x. x.low < x.high) xs
  tight_full [] tight = tt
  tight_full (x ∷ xs) tight = (tight.0, tight_full xs tight.2)

  -- a tight list rises
  pub tight_rising : (xs : List (Span V)) → Tight eq xs → Rising xs
  tight_rising xs tight = (end_of 0 xs, rises_end 0 xs (from_zero eq xs) tight)

module _ {V : Type 0} where
  all_from : (b c : ℕ) (xs : List (Span V)) → b ≤ c → AllByRecursion (λ x. c ≤ x.low) xs → From b xs
  all_from b c [] le all = tt
  all_from b c (x ∷ xs) le all = omega (arith, all.0)

  all_ends : (b : ℕ) (xs : List (Span V)) → AllByRecursion (λ x. x.high + 1 ≤ b) xs → Ends (λ e. e < b) xs
  all_ends b [] all = tt
  all_ends b (x ∷ xs) all = (omega (arith, all.0), all_ends b xs all.1)

module _ {K V : Type 0} (g : Ghosts K) (eq : V → V → Bool) (key : AnyRange K) (full : Full g key) (xs : List (Item K V)) (tight : Tight eq (spans g xs)) where
  last_found : (i t : ℕ) → t ≤ 1 → i < length xs → Last t (lo g key) (hi g key) (spans g xs) i → Found g key xs i
  last_found i t le lt last =
      record {
        within = lt;
        connected = λ x read.
            let joins : Joins t (lo g key) (hi g key) (span_at g x) = subst (Joins t (lo g key) (hi g key)) (span_read g xs i x lt read) (last.here (span_at g x)) in
            let long : i < length (spans g xs) = simp length-map lt in
            let x_full : lo g x.key < hi g x.key = subst (λ (y : Span V). y.low < y.high) (span_read g xs i x lt read) (All-get_or (λ y. y.low < y.high) (spans g xs) i (span_at g x) long (tight_full eq (spans g xs) tight)) in
            record { subject = x_full; object = full; left = omega (arith, joins.0); right = omega (arith, joins.1) };
        start = all_from (hi g key) (hi g key + t) (drop (i + 1) (spans g xs)) (omega arith) last.later;
      }

  pub searched : (r : Result ℕ ℕ) → Index (length xs) r → (Rising (spans g xs) → Searched true (lo g key) (hi g key) (spans g xs) r)
      → MatchResult r (Found g key xs) (Free g key xs)
  searched (Ok i) lt is =
      elim (is (tight_rising eq (spans g xs) tight)) [
        | inl sharing ↦ last_found i 0 (omega arith) lt sharing
        | inr touching ↦ last_found i 1 (omega arith) lt touching.0
      ]
  searched (Err i) le is =
      let stands = is (tight_rising eq (spans g xs) tight) in
      record {
        within = le;
        front = all_ends (lo g key) (take i (spans g xs)) stands.earlier;
        start = all_from (suc (hi g key)) (hi g key + 1) (drop i (spans g xs)) (omega arith) stands.later;
      }
