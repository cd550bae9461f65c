-- Laws of an equality of values, and of values or none. Assumes nothing.
use Rattle.std.specs.Prelude.{◌≡◌, Bool, true, false, cond, is_some, Some, None, Option, refl}
use Rattle.std.proofs.Common.{sym, ◌∙◌, subst}
use Rattle.std.proofs.lemmas.Bool.{false≢true}
use Rattle.std.specs.Cmp.{IsEquivalence}
use Rattle.std.specs.Cmp.Lexicographic.{options_equiv}
use Rattle.lawful.specs.Equals.{same, filled, retired}

-- equal values are equal to the same values
pub eq_cong : {V : Type 0} (eq : V → V → Bool) → IsEquivalence eq → (a b c d : V) → eq a b ≡ true → eq c d ≡ true → eq a c ≡ eq b d
eq_cong eq law a b c d p q = law.congr a b c p ∙ law.symm b c ∙ law.congr c d b q ∙ law.symm d b

module _ {V : Type 0} (eq : V → V → Bool) (law : IsEquivalence eq) where
  abbrev answers : IsEquivalence (same eq)
  answers = options_equiv law

  pub same_refl : (a : Option V) → same eq a a ≡ true
  same_refl a = answers.refl a

  pub same_sym : (a b : Option V) → same eq a b ≡ true → same eq b a ≡ true
  same_sym a b h = answers.symm b a ∙ h

  pub same_trans : (a b c : Option V) → same eq a b ≡ true → same eq b c ≡ true → same eq a c ≡ true
  same_trans a b c h k = answers.congr a b c h ∙ k

  pub same_eq : (a b : Option V) → a ≡ b → same eq a b ≡ true
  same_eq a b e = subst (λ (o : Option V). same eq a o ≡ true) e (same_refl a)

  pub same_cong : (a b c d : Option V) → same eq a b ≡ true → same eq c d ≡ true → same eq a c ≡ same eq b d
  same_cong a b c d p q = eq_cong (same eq) answers a b c d p q

  pub same_is_some : (a b : Option V) → same eq a b ≡ true → is_some a ≡ is_some b
  same_is_some None None h = refl
  same_is_some None (Some b) h = h
  same_is_some (Some a) None h = sym h
  same_is_some (Some a) (Some b) h = refl

  pub filled_respects : (v : V) (a b : Option V) → same eq a b ≡ true → same eq (filled v a) (filled v b) ≡ true
  filled_respects v None None h = law.refl v
  filled_respects v None (Some b) h = absurd (false≢true h)
  filled_respects v (Some a) None h = absurd (false≢true h)
  filled_respects v (Some a) (Some b) h = h

  pub retired_respects : (v : V) (a b : Option V) → same eq a b ≡ true → same eq (retired eq v a) (retired eq v b) ≡ true
  retired_respects v None None h = refl
  retired_respects v None (Some b) h = absurd (false≢true h)
  retired_respects v (Some a) None h = absurd (false≢true h)
  retired_respects v (Some a) (Some b) h =
      subst (λ (t : Bool). same eq (cond (eq a v) None (Some a)) (cond t None (Some b)) ≡ true) (eq_cong eq law a b v v h (law.refl v))
      (elim (eq a v) as (λ t. same eq (cond t None (Some a)) (cond t None (Some b)) ≡ true) [ true ↦ refl | false ↦ h ])
