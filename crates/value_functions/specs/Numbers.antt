-- When a value is a number that a condition wants.
use Rattle.std.specs.Prelude.{◌==◌, nat_abs, not, ℤ, Bool, true, false}
use Rattle.std.specs.Ordering.{int_eq}
use Rattle.formula_tree.specs.declared.value.Value.{Value}
use Rattle.formula_tree.specs.declared.value.Value.TheVariants as value

-- a number that is equal
abbrev pub equals_number : ℤ → Value → Bool
equals_number x (value.Num y) = int_eq x y
equals_number x _ = false

-- a number other than 0
abbrev pub is_true : Value → Bool
is_true (value.Num x) = not (nat_abs x == 0)
is_true _ = false
