-- An input with one byte more: its samples and what is left over. Assumes nothing.
use Rattle.std.proofs.Common.{◌≡◌, ℕ, ◌<◌, List, [], ◌∷◌, ◌++◌, length, ℤ, refl, ap, arith}
use Rattle.kinds.specs.RawCount.{from_bytes}
use Rattle.tally.specs.Input.{samples, left_over_bytes}

-- the byte does not complete a sample
pub more_left : (seen : List ℕ) (b : ℕ) → length (left_over_bytes seen) < 2
    → (samples (seen ++ b ∷ []) ≡ samples seen) × (left_over_bytes (seen ++ b ∷ []) ≡ left_over_bytes seen ++ b ∷ [])
more_left [] b h = (refl, refl)
more_left (x ∷ []) b h = (refl, refl)
more_left (x ∷ (y ∷ [])) b h = absurd (omega arith)
more_left (x ∷ (y ∷ (z ∷ rest))) b h =
    let more = more_left rest b h in
    (ap (λ (l : List ℤ). from_bytes (x ∷ (y ∷ (z ∷ []))) ∷ l) more.0, more.1)

-- the byte completes a sample
pub more_whole : (seen : List ℕ) (b : ℕ) → length (left_over_bytes seen) ≡ 2
    → (samples (seen ++ b ∷ []) ≡ samples seen ++ from_bytes (left_over_bytes seen ++ b ∷ []) ∷ []) × (left_over_bytes (seen ++ b ∷ []) ≡ [])
more_whole [] b h = absurd (omega arith)
more_whole (x ∷ []) b h = absurd (omega arith)
more_whole (x ∷ (y ∷ [])) b h = (refl, refl)
more_whole (x ∷ (y ∷ (z ∷ rest))) b h =
    let more = more_whole rest b h in
    (ap (λ (l : List ℤ). from_bytes (x ∷ (y ∷ (z ∷ []))) ∷ l) more.0, more.1)
