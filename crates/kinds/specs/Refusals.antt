-- The number and the text of each refusal of a key or value. Assumes nothing.
use Rattle.std.specs.Prelude.{ℕ, List, codes}
use Rattle.kinds.specs.declared.refusal.KindRefusal.{KindRefusal}
use Rattle.kinds.specs.declared.refusal.KindRefusal.TheVariants.{BadKey}

abbrev pub kind_refusal_number : KindRefusal → ℕ
kind_refusal_number BadKey = 8

abbrev pub kind_refusal_text : KindRefusal → List ℕ
kind_refusal_text BadKey = codes "a field is outside its limits"
