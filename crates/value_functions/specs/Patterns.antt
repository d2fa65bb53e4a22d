-- When a value fits a label that stands as a condition.
use Rattle.std.specs.Char.{to_ascii_uppercase}
use Rattle.std.specs.Prelude.{ℕ, ◌==◌, ◌||◌, ◌&&◌, drop, not, Bool, true, false, List, [], ◌∷◌, if◌then◌else◌}
use Rattle.lics_text.specs.Ascii as ascii
use Rattle.formula_tree.specs.declared.value.Value.{Value}
use Rattle.formula_tree.specs.declared.value.Value.TheVariants as value

-- equal letters, folded
abbrev pub same_letter : ℕ → ℕ → Bool
same_letter a b = to_ascii_uppercase a == to_ascii_uppercase b

-- ? is any one byte, * is the rest
abbrev pub is_like : List ℕ → List ℕ → Bool
is_like [] [] = true
is_like [] (b ∷ bs) = false
is_like (p ∷ ps) [] = p == ascii.star
is_like (p ∷ ps) (b ∷ bs) = p == ascii.star || ((p == ascii.question_mark || same_letter p b) && is_like ps bs)

-- only a text is like a pattern
abbrev pub value_is_like : List ℕ → Value → Bool
value_is_like pattern (value.Str t) = is_like pattern t
value_is_like pattern _ = false

-- a leading ~ negates
abbrev pub is_negated : List ℕ → Bool
is_negated [] = false
is_negated (p ∷ ps) = p == ascii.tilde

-- a value is like the pattern, or with ~ is not like the rest of it
abbrev pub fits : List ℕ → Value → Bool
fits pattern v = if is_negated pattern then not (value_is_like (drop 1 pattern) v) else value_is_like pattern v
