-- The bytes that are held of a sample that is not whole yet. Assumes nothing.
use Rattle.std.specs.Prelude.{ℕ, List, [], ◌∷◌}
use Rattle.tally.specs.declared.part.Part.{Part}
use Rattle.tally.specs.declared.part.Part.TheVariants.{Nothing, One, Two}

abbrev pub part_bytes : Part → List ℕ
part_bytes Nothing = []
part_bytes (One a) = a ∷ []
part_bytes (Two a b) = a ∷ (b ∷ [])
