-- Values that are told as one are one.
use Rattle.std.specs.Prelude.{◌≡◌, true, refl}
use Rattle.std.proofs.Common.{ap}
use Rattle.std.proofs.lemmas.Bool.{false≢true}
use Rattle.std.proofs.lemmas.Slice.Eq.{bytes_eq-Decides}
use Rattle.std.proofs.lemmas.Bool.Decides.{Decides-int_eq}
use Rattle.formula_tree.specs.Values.{same_value}
use Rattle.formula_tree.specs.declared.value.Value.{Value}
use Rattle.formula_tree.specs.declared.value.Value.TheVariants as value

-- two values that are told as one are one
pub same_value_is : (a b : Value) → same_value a b ≡ true → a ≡ b
same_value_is value.Blank value.Blank same = refl
same_value_is (value.Num x) (value.Num y) same = ap value.Num ((Decides-int_eq x y).0 same)
same_value_is (value.Str s) (value.Str t) same = ap value.Str ((bytes_eq-Decides s t).0 same)
same_value_is value.Err value.Err same = refl
same_value_is value.Na value.Na same = refl
same_value_is a b same = absurd (false≢true same)
