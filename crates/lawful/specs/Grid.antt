-- Row a and column b of a grid whose rows have n places: the number a * n + b. Assumes nothing.
use Rattle.std.specs.Prelude.{◌≡◌, ℕ, ◌+◌, ◌*◌, ◌/◌, ◌%◌, ◌<◌, ◌≤◌}
use Rattle.std.specs.declared.cmp.Ordering.{Ordering}
use Rattle.std.specs.declared.cmp.Ordering.TheVariants.{Less, Equal, Greater}
use Rattle.std.specs.Ordering.{ordering_then, nat_cmp, MatchOrdering}
use Rattle.std.specs.Cmp.{nat_cmp_is, ranks}
use Rattle.std.proofs.Common.{sym, ap, ◌∙◌, mul_comm, mul-le-mul_right, arith}
use Rattle.std.proofs.lemmas.Nat.{mul-add-lt, mul-lt, div-mul-add, mod-mul-add, div_below, div-add-mod'}

pub grid_positive : (m n : ℕ) → 0 < m → 0 < n → 0 < m * n
grid_positive m n h k = mul-lt 0 0 m n h k

pub grid_within : (m n a b : ℕ) → a < m → b < n → a * n + b < m * n
grid_within m n a b h k = omega (arith, mul-add-lt a n b m h k, mul_comm n m)

-- every place below m * n has its row and its column
pub grid_row : (m n p : ℕ) → 0 < n → p < m * n → p / n < m
grid_row m n p h k = div_below p n m h k

-- no row from m on has a place below m * n
pub grid_past : (m n p : ℕ) → m ≤ p / n → m * n ≤ p
grid_past m n p h = omega (arith, div-add-mod' p n, mul-le-mul_right n h)

pub grid_same_row : (n a b c d : ℕ) → b < n → d < n → a * n + b ≡ c * n + d → a ≡ c
grid_same_row n a b c d h k e = sym (div-mul-add a n b h) ∙ ap (λ x. x / n) e ∙ div-mul-add c n d k

pub grid_same_column : (n a b c d : ℕ) → b < n → d < n → a * n + b ≡ c * n + d → b ≡ d
grid_same_column n a b c d h k e = sym (mod-mul-add a n b h) ∙ ap (λ x. x % n) e ∙ mod-mul-add c n d k

-- places lie as their rows do, and in one row as their columns do
pub grid_order : (n a b c d : ℕ) → b < n → d < n → ordering_then (nat_cmp a c) (nat_cmp b d) ≡ nat_cmp (a * n + b) (c * n + d)
grid_order n a b c d h k = nat_cmp_is (a * n + b) (c * n + d) (ordering_then (nat_cmp a c) (nat_cmp b d)) (go (nat_cmp a c) (nat_cmp b d) (ranks a c) (ranks b d))
  where
    go : (r s : Ordering) → MatchOrdering r (a < c) (a ≡ c) (c < a) → MatchOrdering s (b < d) (b ≡ d) (d < b) →
        MatchOrdering (ordering_then r s) (a * n + b < c * n + d) (a * n + b ≡ c * n + d) (c * n + d < a * n + b)
    go Less s p q = omega (arith, mul-le-mul_right n p)
    go Greater s p q = omega (arith, mul-le-mul_right n p)
    go Equal Less p q = omega (arith, ap (λ x. x * n) p)
    go Equal Equal p q = omega (arith, ap (λ x. x * n) p)
    go Equal Greater p q = omega (arith, ap (λ x. x * n) p)
