-- When two answers are the same, and what fill and retire make of a value or none. Assumes nothing.
use Rattle.std.specs.Prelude.{Bool, cond, Some, None, Option}
-- two answers are the same: both none, or equal values
pub use Rattle.std.specs.Option.{option_eq as same}

-- fill v gives v where there is none, and keeps values
abbrev pub filled : {V : Type 0} → V → Option V → Option V
filled v None = Some v
filled v (Some a) = Some a

-- retire v makes values equal to v none, and keeps others
abbrev pub retired : {V : Type 0} → (V → V → Bool) → V → Option V → Option V
retired eq v None = None
retired eq v (Some a) = cond (eq a v) None (Some a)
