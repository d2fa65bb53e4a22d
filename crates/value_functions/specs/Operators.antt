-- Operators between two values, and in front of one.
use Rattle.std.specs.Char.{to_ascii_uppercase}
use Rattle.std.specs.Prelude.{ℕ, ◌++◌, ◌+ℤ◌, ◌-ℤ◌, neg_ℤ, nat_abs, ◌==◌, ◌&&◌, ◌||◌, not, ℤ, pos, Bool, Option, Some, None, List, [], map}
use Rattle.std.specs.Ordering.{nat_cmp, int_cmp, is_lt, is_eq, is_gt}
use Rattle.std.specs.declared.cmp.Ordering.{Ordering}
use Rattle.std.specs.declared.cmp.Ordering.TheVariants.{Less, Greater}
use Rattle.std.specs.Cmp.Lexicographic.{slice_cmp}
use Rattle.fixed_value.specs.Numbers.{product, quotient, within}
use Rattle.fixed_value.specs.Powers.{power}
use Rattle.formula_tree.specs.declared.ast.Op.{Op}
use Rattle.formula_tree.specs.declared.ast.Op.TheVariants.{Pow, Mul, Div, Add, Sub, Eq, Ne, Lt, Gt, Le, Ge, And, Or, Join}
use Rattle.formula_tree.specs.declared.value.Value.{Value}
use Rattle.formula_tree.specs.declared.value.Value.TheVariants as value
use Rattle.value_functions.specs.Values.{answer, number_in, on_number, stop_one, stop_two, texted, truth, unless_stopped}

-- a number that counts as false
abbrev pub is_zero : ℤ → Bool
is_zero x = nat_abs x == 0

-- texts by their bytes, letters of either case being the same; any number is less than any text
abbrev pub order_of_texts : List ℕ → List ℕ → Ordering
order_of_texts a b = slice_cmp nat_cmp (map to_ascii_uppercase a) (map to_ascii_uppercase b)

-- a number beside another value; a Blank, ERR and NA count as 0 here
abbrev pub order_with_number : ℤ → Value → Ordering
order_with_number x (value.Str t) = Less
order_with_number x (value.Num y) = int_cmp x y
order_with_number x _ = int_cmp x (pos 0)

-- a text beside another value
abbrev pub order_with_text : List ℕ → Value → Ordering
order_with_text s (value.Str t) = order_of_texts s t
order_with_text s _ = Greater

-- how any two values stand to one another
abbrev pub order : Value → Value → Ordering
order (value.Str s) b = order_with_text s b
order (value.Num x) b = order_with_number x b
order _ b = order_with_number (pos 0) b

-- a Blank joins as the empty text, and a number doesn't join
abbrev pub joined_with : List ℕ → Value → Value
joined_with s (value.Str t) = texted (s ++ t)
joined_with s value.Blank = texted (s ++ [])
joined_with s _ = value.Err

-- two texts, one behind the other
abbrev pub joined : Value → Value → Value
joined (value.Str s) b = joined_with s b
joined value.Blank b = joined_with [] b
joined _ b = value.Err

-- two numbers are wanted
abbrev pub both_by : Option ℤ → Option ℤ → Option (ℤ × ℤ)
both_by (Some x) (Some y) = Some (x, y)
both_by (Some x) None = None
both_by None (Some y) = None
both_by None None = None

-- the numbers of both values, if both have one
abbrev pub both_numbers : Value → Value → Option (ℤ × ℤ)
both_numbers a b = both_by (number_in a) (number_in b)

-- one row for each operator that takes numbers
abbrev pub of_numbers : Op → ℤ → ℤ → Value
of_numbers Pow x y = answer (power x y)
of_numbers Mul x y = answer (product x y)
of_numbers Div x y = answer (quotient x y)
of_numbers Add x y = answer (within (x +ℤ y))
of_numbers Sub x y = answer (within (x -ℤ y))
of_numbers And x y = truth (not (is_zero x) && not (is_zero y))
of_numbers Or x y = truth (not (is_zero x) || not (is_zero y))
of_numbers _ x y = value.Err

-- ERR where one side is no number
abbrev pub computed_by : Op → Option (ℤ × ℤ) → Value
computed_by op (Some p) = of_numbers op p.0 p.1
computed_by op None = value.Err

-- an operator that takes numbers, between any two values
abbrev pub computed : Op → Value → Value → Value
computed op a b = computed_by op (both_numbers a b)

-- one row for each operator, where neither side is ERR or NA
abbrev pub combined : Op → Value → Value → Value
combined Pow a b = computed Pow a b
combined Mul a b = computed Mul a b
combined Div a b = computed Div a b
combined Add a b = computed Add a b
combined Sub a b = computed Sub a b
combined And a b = computed And a b
combined Or a b = computed Or a b
combined Eq a b = truth (is_eq (order a b))
combined Ne a b = truth (not (is_eq (order a b)))
combined Lt a b = truth (is_lt (order a b))
combined Gt a b = truth (is_gt (order a b))
combined Le a b = truth (not (is_gt (order a b)))
combined Ge a b = truth (not (is_lt (order a b)))
combined Join a b = joined a b

-- an operator between two values; ERR and NA pass through it
unfoldable pub binary_value : Op → Value → Value → Value
binary_value op a b = unless_stopped (stop_two a b) (combined op a b)

-- a minus in front
unfoldable pub negated : Value → Value
negated a = unless_stopped (stop_one a) (on_number (number_in a) (λ x. value.Num (neg_ℤ x)))

-- #NOT# in front
unfoldable pub denied : Value → Value
denied a = unless_stopped (stop_one a) (on_number (number_in a) (λ x. truth (is_zero x)))
