-- Values of cells.
use Rattle.std.specs.Ordering.{int_eq}
use Rattle.std.specs.Prelude.{Bool, true, false, bytes_eq}
use Rattle.formula_tree.specs.declared.value.Value.{Value}
use Rattle.formula_tree.specs.declared.value.Value.TheVariants.{Blank, Num, Str, Err, Na}

-- all but a blank: an empty text and the errors are values too
abbrev pub is_filled : Value → Bool
is_filled Blank = false
is_filled _ = true

-- whether two values are one
abbrev pub same_value : Value → Value → Bool
same_value Blank Blank = true
same_value (Num x) (Num y) = int_eq x y
same_value (Str s) (Str t) = bytes_eq s t
same_value Err Err = true
same_value Na Na = true
same_value a b = false
