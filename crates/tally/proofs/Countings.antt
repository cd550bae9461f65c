-- The counts over one sample more. Assumes nothing.
use Rattle.std.proofs.Common.{◌≡◌, ℕ, ◌+◌, Bool, true, false, cond, eqb, List, [], ◌∷◌, ◌++◌, length, ℤ, Some, None, Option, sym, refl, ap, ◌∙◌, arith, MatchOption, subst, inl, inr}
use Rattle.std.specs.Option.{option_or}
use Rattle.std.proofs.lemmas.List.{append_assoc, length_push}
use Rattle.std.proofs.lemmas.Bool.Decides.{eqb_tells}
use mathlib.Core.Logic.{◌≢◌}
use Rattle.std.proofs.lemmas.List.Sums.{sum_by-append}
use Rattle.lawful.specs.Equals.{same}
use Rattle.kinds.specs.Bands.{band_table, band_in}
use Rattle.kinds.specs.Values.{band_number}
use Rattle.kinds.specs.declared.band.Band.{Band}
use Rattle.kinds.specs.declared.band.Band.TheVariants.{Usable, NearRail, Rail}
use Rattle.kinds.specs.declared.raw_count.RawCount.{RawCount}
use Rattle.tally.specs.declared.counts.First.{First}
use Rattle.tally.specs.declared.counts.BandTally.{BandTally}
use Rattle.tally.specs.declared.counts.Counts.{Counts}
use Rattle.tally.specs.Counting.{capped, in_band, how_many, IsFirst, BandCounted, tally_in, GainsSample, Counted}

capped_more : (n : ℕ) → capped (capped n + 1) ≡ capped (n + 1)
capped_more n = omega arith

number_more : (xs : List ℤ) (x : ℤ) (n : ℕ) → n ≡ capped (length xs) → capped (n + 1) ≡ capped (length (xs ++ x ∷ []))
number_more xs x n h = ap (λ k. capped (k + 1)) h ∙ capped_more (length xs) ∙ ap capped (sym (length_push xs x))

-- the band of the table's row is the count's only one
bears : (x : ℤ) (b c : Band) → band_in band_table x ≡ Some b → in_band c x ≡ eqb (band_number b) (band_number c)
bears x b c e = ap (λ (o : Option Band). same (λ x y. eqb (band_number x) (band_number y)) o (Some c)) e

number_same : (a b : Band) → band_number a ≡ band_number b → a ≡ b
number_same a b e = grind arith

module _ (b : Band) (xs : List ℤ) (x : ℤ) where
  how_many_more : how_many b (xs ++ x ∷ []) ≡ how_many b xs + cond (in_band b x) 1 0
  how_many_more = omega (arith, sum_by-append (λ y. cond (in_band b y) 1 0) xs (x ∷ []))

  first_more : (f : First) → IsFirst b xs f → IsFirst b (xs ++ x ∷ []) f
  first_more f h =
      record {
        earlier = h.earlier;
        later = h.later ++ x ∷ [];
        stands = ap (λ (l : List ℤ). l ++ x ∷ []) h.stands ∙ append_assoc h.earlier (f.count.value ∷ h.later) (x ∷ []);
        index = h.index;
        bears = h.bears;
        none_earlier = h.none_earlier;
      }

  -- a sample of another band
  module _ (other : in_band b x ≡ false) where
    same_many : how_many b (xs ++ x ∷ []) ≡ how_many b xs
    same_many = how_many_more ∙ ap (λ (t : Bool). how_many b xs + cond t 1 0) other ∙ omega arith

    first_other : (o : Option First) → MatchOption o (how_many b xs ≡ 0) (IsFirst b xs) → MatchOption o (how_many b (xs ++ x ∷ []) ≡ 0) (IsFirst b (xs ++ x ∷ []))
    first_other None h = same_many ∙ h
    first_other (Some f) h = first_more f h

    pub counted_other : (t : BandTally) → BandCounted b xs t → BandCounted b (xs ++ x ∷ []) t
    counted_other t h =
        record { number = h.number ∙ ap capped (sym same_many); first = first_other t.first h.first }

-- a sample of this band
module _ (b : Band) (xs : List ℤ) (count : RawCount) (this : in_band b count.value ≡ true) (index : ℕ) (at : index ≡ capped (length xs)) where
  one_more : how_many b (xs ++ count.value ∷ []) ≡ how_many b xs + 1
  one_more = how_many_more b xs count.value ∙ ap (λ (t : Bool). how_many b xs + cond t 1 0) this

  first_this : (o p : Option First) → p ≡ option_or o (Some (record { index = index; count = count })) → MatchOption o (how_many b xs ≡ 0) (IsFirst b xs)
      → MatchOption p (how_many b (xs ++ count.value ∷ []) ≡ 0) (IsFirst b (xs ++ count.value ∷ []))
  first_this None p e h = rw e (record { earlier = xs; later = []; stands = refl; index = at; bears = this; none_earlier = h })
  first_this (Some f) p e h = rw e (first_more b xs count.value f h)

  pub counted_this : (t u : BandTally) → GainsSample t u index count → BandCounted b xs t → BandCounted b (xs ++ count.value ∷ []) u
  counted_this t u gains h =
      record {
        number = gains.number ∙ ap (λ n. capped (n + 1)) h.number ∙ capped_more (how_many b xs) ∙ ap capped (sym one_more);
        first = first_this t.first u.first gains.first h.first;
      }

module _ (xs : List ℤ) (count : RawCount) (c u : Counts) (h : Counted xs c) (number : u.samples ≡ capped (c.samples + 1)) where
  pub counted_more : (b : Band) → band_in band_table count.value ≡ Some b → GainsSample (tally_in c b) (tally_in u b) c.samples count
      → ((k : Band) → k ≢ b → tally_in u k ≡ tally_in c k) → Counted (xs ++ count.value ∷ []) u
  counted_more b e gains others =
      record {
        number = number ∙ number_more xs count.value c.samples h.number;
        usable = each Usable h.usable;
        near_rail = each NearRail h.near_rail;
        rail = each Rail h.rail;
      }
    where
      each : (k : Band) → BandCounted k xs (tally_in c k) → BandCounted k (xs ++ count.value ∷ []) (tally_in u k)
      each k t =
          elim (eqb_tells (band_number b) (band_number k)) [
            | inl one ↦
                let same : b ≡ k = number_same b k one.1 in
                let gained : GainsSample (tally_in c k) (tally_in u k) c.samples count = subst (λ (j : Band). GainsSample (tally_in c j) (tally_in u j) c.samples count) same gains in
                counted_this k xs count (bears count.value b k e ∙ one.0) c.samples h.number (tally_in c k) (tally_in u k) gained t
            | inr two ↦
                rw (others k (λ same. two.1 (ap band_number (sym same)))) (counted_other k xs count.value (bears count.value b k e ∙ two.0) (tally_in c k) t)
          ]
