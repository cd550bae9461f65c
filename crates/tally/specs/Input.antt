-- A recorder's input: samples of three bytes, most significant first, one after the other; what is left over at its end is no sample. Assumes nothing.
use Rattle.std.specs.Prelude.{◌≡◌, ℕ, List, [], ◌∷◌, ℤ}
use Rattle.kinds.specs.RawCount.{from_bytes}
use Rattle.tally.specs.declared.tally.Tally.{Tally}
use Rattle.tally.specs.Counting.{Counted}
use Rattle.tally.specs.Parts.{part_bytes}

abbrev pub samples : List ℕ → List ℤ
samples [] = []
samples (a ∷ []) = []
samples (a ∷ (b ∷ [])) = []
samples (a ∷ (b ∷ (c ∷ rest))) = from_bytes (a ∷ (b ∷ (c ∷ []))) ∷ samples rest

abbrev pub left_over_bytes : List ℕ → List ℕ
left_over_bytes [] = []
left_over_bytes (a ∷ []) = a ∷ []
left_over_bytes (a ∷ (b ∷ [])) = a ∷ (b ∷ [])
left_over_bytes (a ∷ (b ∷ (c ∷ rest))) = left_over_bytes rest

-- t is the tally of an input
pub record Tallied (input : List ℕ) (t : Tally) : Type 0 where
  pub counts : Counted (samples input) t.counts
  pub left_over : part_bytes t.part ≡ left_over_bytes input
