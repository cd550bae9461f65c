-- What the ranges' answers say, in the walks' words.
use Rattle.std.proofs.Common.{◌<◌, ◌≤◌, Some, None, Option, inl, inr, arith}
use Rattle.lawful.specs.declared.key.Key.{Ghosts}
use Rattle.ranges.specs.declared.range.any.AnyRange.{AnyRange}
use Rattle.ranges.specs.declared.range.ProductArg.{ProductArg}
use Rattle.ranges.specs.declared.range.ProductArg.TheVariants.{Subject, Object}
use Rattle.ranges.specs.declared.range.Product.{Product}
use Rattle.ranges.specs.Ranges.{shared}
use Rattle.ranges.specs.Parts.{span, Leads, Trails, Cropped, Multiplies}
use Rattle.rangemap.proofs.Looks.{high_within}
use Rattle.rangemap.specs.Ranges.{hi, Full}
use Rattle.rangemap.proofs.Parts.{Before, After, Shared, Multiplied}

module _ {K : Type 0} (g : Ghosts K) (a b : AnyRange K) where
  before_part : (p : Option (ProductArg K)) → Leads g (span g a) (span g b) p → Full g a → Full g b → Before g a b p
  before_part None (inl (inl bare)) full other = absurd (omega arith)
  before_part None (inl (inr bare)) full other = absurd (omega arith)
  before_part None (inr e) full other = e
  before_part (Some (Subject r)) is full other = (is.2, record { low = is.3.0; high = is.3.1; full = omega (arith, is.2) })
  before_part (Some (Object r)) is full other = (is.2, record { low = is.3.0; high = is.3.1; full = omega (arith, is.2) })

  after_part : (p : Option (ProductArg K)) → Trails g (span g a) (span g b) p → Full g a → Full g b → After g a b p
  after_part None (inl (inl bare)) full other = absurd (omega arith)
  after_part None (inl (inr bare)) full other = absurd (omega arith)
  after_part None (inr e) full other = e
  after_part (Some (Subject r)) is full other = (is.2, record { low = is.3.0; high = is.3.1; full = omega (arith, is.2) })
  after_part (Some (Object r)) is full other = (is.2, record { low = is.3.0; high = is.3.1; full = omega (arith, is.2) })

  shared_part : (p : Option (AnyRange K)) → Cropped g (shared (span g a) (span g b)) p → Shared g a b p
  shared_part None is = is
  shared_part (Some r) is = record { low = is.1.0; high = is.1.1; full = is.0 }

  pub multiplied : (p : Product K) → Multiplies g (span g a) (span g b) p → Multiplied g a b p
  multiplied p is = record {
    before = before_part p.before is.before;
    shared = λ _ _. shared_part p.intersection is.intersection;
    after = after_part p.after is.after;
  }

-- no range ends past the last key
pub ends_within : {K : Type 0} (g : Ghosts K) → ((k : K) → g.place k < g.COUNT) → (r : AnyRange K) → hi g r ≤ g.COUNT
ends_within g within r = high_within g within r.end
