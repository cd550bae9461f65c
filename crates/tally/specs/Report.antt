-- The text that is printed of a tally: fields parted by one space, a line feed after each line. Assumes nothing.
use Rattle.std.specs.Prelude.{ℕ, zero, suc, List, [], ◌++◌, length, Some, None, codes, decimal, Option}
use Rattle.std.specs.Fmt.{signed_decimal}
use Rattle.kinds.specs.Values.{band_number}
use Rattle.kinds.specs.declared.band.Band.{Band}
use Rattle.kinds.specs.declared.band.Band.TheVariants.{Usable, NearRail, Rail}
use Rattle.tally.specs.declared.counts.First.{First}
use Rattle.tally.specs.declared.tally.Tally.{Tally}
use Rattle.tally.specs.Parts.{part_bytes}

-- a band and how many samples it has
abbrev pub band_line : Band → ℕ → List ℕ
band_line band samples = codes "band " ++ (decimal (band_number band) ++ (codes " " ++ (decimal samples ++ codes "\n")))

-- band, index and raw count of a band's first sample, where there is one
abbrev pub first_line : Band → Option First → List ℕ
first_line band None = []
first_line band (Some f) =
    codes "first "
    ++ (decimal (band_number band) ++ (codes " " ++ (decimal f.index ++ (codes " " ++ (signed_decimal f.count.value ++ codes "\n")))))

-- how many bytes are left over, where there are some
abbrev pub left_line : ℕ → List ℕ
left_line zero = []
left_line (suc n) = codes "left over " ++ (decimal (suc n) ++ codes "\n")

abbrev pub report_text : Tally → List ℕ
report_text t =
    codes "samples " ++ (decimal t.counts.samples
    ++ (codes "\n" ++ (band_line Usable t.counts.usable.samples
    ++ (band_line NearRail t.counts.near_rail.samples
    ++ (band_line Rail t.counts.rail.samples
    ++ (first_line NearRail t.counts.near_rail.first
    ++ (first_line Rail t.counts.rail.first
    ++ left_line (length (part_bytes t.part)))))))))
