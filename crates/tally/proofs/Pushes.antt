-- A tally after one byte more. Assumes nothing.
use Rattle.std.proofs.Common.{◌≡◌, ℕ, ◌+◌, ◌<◌, List, [], ◌∷◌, ◌++◌, length, get_or, take, ℤ, sym, ap, ◌∙◌, subst, arith}
use Rattle.std.proofs.lemmas.List.{append_assoc, take_more, length_push}
use Rattle.kinds.specs.RawCount.{from_bytes}
use Rattle.tally.specs.declared.counts.Counts.{Counts}
use Rattle.tally.specs.declared.part.Part.{Part}
use Rattle.tally.specs.declared.part.Part.TheVariants.{Nothing, One, Two}
use Rattle.tally.specs.declared.tally.Tally.{Tally}
use Rattle.tally.specs.Counting.{Counted}
use Rattle.tally.specs.Input.{samples, left_over_bytes, Tallied}
use Rattle.tally.specs.Parts.{part_bytes}
use Rattle.tally.proofs.Inputs.{more_left, more_whole}

part_short : (p : Part) → length (part_bytes p) < 3
part_short Nothing = omega arith
part_short (One a) = omega arith
part_short (Two a b) = omega arith

module _ (seen : List ℕ) (t u : Tally) (byte : ℕ) (h : Tallied seen t) where
  -- the byte does not complete a sample
  pub tallied_part : part_bytes u.part ≡ part_bytes t.part ++ byte ∷ [] → u.counts ≡ t.counts → Tallied (seen ++ byte ∷ []) u
  tallied_part parts counts =
      let grown : part_bytes u.part ≡ left_over_bytes seen ++ byte ∷ [] = parts ∙ ap (λ (l : List ℕ). l ++ byte ∷ []) h.left_over in
      let short : length (left_over_bytes seen) < 2 = omega (arith, part_short u.part, ap length grown, length_push (left_over_bytes seen) byte) in
      let more = more_left seen byte short in
      record {
        counts =
            subst (λ (c : Counts). Counted (samples (seen ++ byte ∷ [])) c) (sym counts)
            (subst (λ (xs : List ℤ). Counted xs t.counts) (sym more.0) h.counts);
        left_over = grown ∙ sym more.1;
      }

  -- the byte completes a sample
  pub tallied_whole : (bytes : List ℕ) (x : ℤ) → length (part_bytes t.part) ≡ 2 → bytes ≡ part_bytes t.part ++ byte ∷ [] → part_bytes u.part ≡ []
      → x ≡ from_bytes bytes → Counted (samples seen ++ x ∷ []) u.counts → Tallied (seen ++ byte ∷ []) u
  tallied_whole bytes x two whole none value counts =
      let more = more_whole seen byte (ap length (sym h.left_over) ∙ two) in
      let read : x ≡ from_bytes (left_over_bytes seen ++ byte ∷ []) = value ∙ ap from_bytes (whole ∙ ap (λ (l : List ℕ). l ++ byte ∷ []) h.left_over) in
      let listed : samples seen ++ x ∷ [] ≡ samples (seen ++ byte ∷ []) = ap (λ (y : ℤ). samples seen ++ y ∷ []) read ∙ sym more.0 in
      record {
        counts = subst (λ (xs : List ℤ). Counted xs u.counts) listed counts;
        left_over = none ∙ sym more.1;
      }

-- one turn of a walk along a chunk
pub one_further : (seen chunk : List ℕ) (i d : ℕ) → i < length chunk → (seen ++ take i chunk) ++ get_or chunk i d ∷ [] ≡ seen ++ take (i + 1) chunk
one_further seen chunk i d h =
    append_assoc seen (take i chunk) (get_or chunk i d ∷ []) ∙ ap (λ (l : List ℕ). seen ++ l) (sym (take_more chunk i d h))
