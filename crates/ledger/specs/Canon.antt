-- What holds of canonical lists. Assumes nothing.
use Rattle.std.specs.Prelude.{◌≡◌, ℕ, ◌<◌, ◌≤◌, Bool, List, length}
use Rattle.ledger.specs.Values.{SameBelow, size}
use Rattle.ledger.specs.Spans.{Span, bearing, held, Canonical, Matched, gaps}
use Rattle.ledger.specs.Promise.{Listed}

pub record Canon {V : Type 0} (eq : V → V → Bool) (count : ℕ) : Type 0 where
  -- it is as long as the size of what it holds
  pub sized : (xs : List (Span V)) → Canonical eq count xs → size eq (held xs) count ≡ length xs
  -- two that hold the same have the same ends, and equal values
  pub one : (xs ys : List (Span V)) → Canonical eq count xs → Canonical eq count ys →
      SameBelow eq count (held xs) (held ys) → Matched eq xs ys
  -- no list that holds the same, and no place twice, is shorter
  pub least : (xs ys : List (Span V)) → Canonical eq count xs → ((p : ℕ) → p < count → length (bearing ys p) ≤ 1) →
      SameBelow eq count (held ys) (held xs) → length xs ≤ length ys
  -- each place lies in one of its ranges or in one of its gaps
  pub parted : (xs : List (Span V)) → Canonical eq count xs → (p : ℕ) → p < count →
      Listed eq (held xs p) (bearing xs p) (length (bearing (gaps count xs) p))
