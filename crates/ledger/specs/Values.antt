-- Values with an equality of their own, and what is held at each place: a value or none.
use Rattle.std.specs.Prelude.{◌≡◌, ℕ, zero, suc, ◌+◌, ◌<◌, Bool, true, false, cond, ◌||◌, Some, None, Option}
use Rattle.lawful.specs.Equals.{same}

-- what each place holds
abbrev pub Held : Type 0 → Type 0
Held V = ℕ → Option V

-- each place below `count` holds the same in both
abbrev pub SameBelow : {V : Type 0} → (V → V → Bool) → ℕ → Held V → Held V → Type 0
SameBelow eq count h k = (p : ℕ) → p < count → same eq (h p) (k p) ≡ true

-- what the place before p holds: nothing where it is missing
abbrev pub before : {V : Type 0} → Held V → ℕ → Option V
before h zero = None
before h (suc p) = h p

-- 1 where a range begins: at a value, if the place before has none or an unequal one
abbrev pub begins : {V : Type 0} → (V → V → Bool) → Option V → Option V → ℕ
begins eq None None = 0
begins eq None (Some v) = 1
begins eq (Some u) None = 0
begins eq (Some u) (Some v) = cond (eq u v) 0 1

-- the sum of f over the numbers below n. Not opened by itself, since n may be a large numeral
unfoldable pub sum_below : (ℕ → ℕ) → ℕ → ℕ
sum_below f zero = 0
sum_below f (suc n) = sum_below f n + f n

-- whether a number below n passes the test
unfoldable pub any_below : (ℕ → Bool) → ℕ → Bool
any_below t zero = false
any_below t (suc n) = t n || any_below t n

-- the number of places below `count` with a value whose place before has none, an unequal one, or is missing
abbrev pub size : {V : Type 0} → (V → V → Bool) → Held V → ℕ → ℕ
size eq h count = sum_below (λ p. begins eq (before h p) (h p)) count
