-- The band table: which raw counts lie near the digitiser's rail. Assumes nothing.
use Rattle.std.specs.Prelude.{ℕ, Bool, ◌&&◌, List, [], ◌∷◌, ℤ, pos, neg_ℤ, Option, int_le, count_by, option_map}
use Rattle.std.specs.List.{find}
use Rattle.kinds.specs.declared.band.Band.{Band}
use Rattle.kinds.specs.declared.band.Band.TheVariants.{Usable, NearRail, Rail}
use Rattle.kinds.specs.declared.band.BandRow.{BandRow}

abbrev pub row : ℤ → ℤ → Band → BandRow
row first last band = record { first = first; last = last; band = band }

abbrev pub band_table : List BandRow
band_table =
    row (neg_ℤ (pos 8388608)) (neg_ℤ (pos 8388600)) Rail
    ∷ row (neg_ℤ (pos 8388599)) (neg_ℤ (pos 8000000)) NearRail
    ∷ row (neg_ℤ (pos 7999999)) (pos 7999999) Usable
    ∷ row (pos 8000000) (pos 8388599) NearRail
    ∷ row (pos 8388600) (pos 8388607) Rail
    ∷ []

-- a row holds the counts from its first to its last
abbrev pub holds : BandRow → ℤ → Bool
holds r count = int_le r.first count && int_le count r.last

-- the band of the first row that holds a count
abbrev pub band_in : List BandRow → ℤ → Option Band
band_in rows count = option_map (λ r. r.band) (find (λ r. holds r count) rows)

-- how many rows hold a count
abbrev pub rows_with : List BandRow → ℤ → ℕ
rows_with rows count = count_by (λ r. holds r count) rows
