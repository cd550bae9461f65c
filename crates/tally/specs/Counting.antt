-- What the counts over a list of raw counts are: how many of each band, and which is a band's first. Assumes nothing.
use Rattle.std.specs.Prelude.{◌≡◌, ℕ, ◌+◌, ◌-◌, ◌^◌, min, Bool, true, List, ◌∷◌, ◌++◌, length, ℤ, Some, MatchOption, nat_eq, count_by}
use Rattle.std.specs.Option.{option_or}
use Rattle.lawful.specs.Equals.{same}
use Rattle.kinds.specs.Bands.{band_table, band_in}
use Rattle.kinds.specs.Values.{band_number}
use Rattle.kinds.specs.declared.band.Band.{Band}
use Rattle.kinds.specs.declared.band.Band.TheVariants.{Usable, NearRail, Rail}
use Rattle.kinds.specs.declared.raw_count.RawCount.{RawCount}
use Rattle.tally.specs.declared.counts.First.{First}
use Rattle.tally.specs.declared.counts.BandTally.{BandTally}
use Rattle.tally.specs.declared.counts.Counts.{Counts}

-- a number that stops at the largest of 64 bits
abbrev pub capped : ℕ → ℕ
capped n = min n (2 ^ 64 - 1)

-- whether a raw count has the band, by the band table
abbrev pub in_band : Band → ℤ → Bool
in_band b count = same (λ x y. nat_eq (band_number x) (band_number y)) (band_in band_table count) (Some b)

abbrev pub how_many : Band → List ℤ → ℕ
how_many b samples = count_by (in_band b) samples

-- f is the first sample of its band: it has the band, and no earlier one has
pub record IsFirst (b : Band) (samples : List ℤ) (f : First) : Type 0 where
  pub earlier : List ℤ
  pub later : List ℤ
  pub stands : samples ≡ earlier ++ (f.count.value ∷ later)
  pub index : f.index ≡ capped (length earlier)
  pub bears : in_band b f.count.value ≡ true
  pub none_earlier : how_many b earlier ≡ 0

pub record BandCounted (b : Band) (samples : List ℤ) (t : BandTally) : Type 0 where
  pub number : t.samples ≡ capped (how_many b samples)
  pub first : MatchOption t.first (how_many b samples ≡ 0) (IsFirst b samples)

-- the tally of a band among the counts
abbrev pub tally_in : Counts → Band → BandTally
tally_in c Usable = c.usable
tally_in c NearRail = c.near_rail
tally_in c Rail = c.rail

-- one sample more has come, which is the first if none came before
pub record GainsSample (old new : BandTally) (index : ℕ) (count : RawCount) : Type 0 where
  pub number : new.samples ≡ capped (old.samples + 1)
  pub first : new.first ≡ option_or old.first (Some (record { index = index; count = count }))

pub record Counted (samples : List ℤ) (c : Counts) : Type 0 where
  pub number : c.samples ≡ capped (length samples)
  pub usable : BandCounted Usable samples c.usable
  pub near_rail : BandCounted NearRail samples c.near_rail
  pub rail : BandCounted Rail samples c.rail
