-- Values as arguments and as answers.
use Rattle.std.specs.Prelude.{ℕ, ◌*◌, ◌||◌, nat_le, ℤ, pos, Bool, true, false, Option, Some, None, Result, Ok, Err, List, if◌then◌else◌}
use Rattle.lics_text.specs.declared.faults.TextFault.{TextFault}
use Rattle.lics_text.specs.Texts.{text_of}
use Rattle.formula_tree.specs.declared.value.Value.{Value}
use Rattle.formula_tree.specs.declared.value.Value.TheVariants as value

-- a value that can't be had
abbrev pub is_err : Value → Bool
is_err value.Err = true
is_err _ = false

-- a value that isn't available
abbrev pub is_na : Value → Bool
is_na value.Na = true
is_na _ = false

-- a label, or the text of a formula
abbrev pub is_text : Value → Bool
is_text (value.Str t) = true
is_text _ = false

-- Blank counts as 0
abbrev pub number_in : Value → Option ℤ
number_in value.Blank = Some (pos 0)
number_in (value.Num x) = Some x
number_in _ = None

-- a text alone has one
abbrev pub text_in : Value → Option (List ℕ)
text_in (value.Str t) = Some t
text_in _ = None

-- a number, and ERR where there is none
abbrev pub answer : Option ℤ → Value
answer (Some x) = value.Num x
answer None = value.Err

-- a text, and ERR where there is none
abbrev pub worded : Option (List ℕ) → Value
worded (Some t) = value.Str t
worded None = value.Err

-- the text of these bytes, and ERR where they are no text
abbrev pub texted_by : Result (List ℕ) TextFault → Value
texted_by (Ok t) = value.Str t
texted_by (Err fault) = value.Err

-- the text of these bytes as a value
abbrev pub texted : List ℕ → Value
texted bytes = texted_by (text_of bytes)

-- 1 for true, and 0 for false
abbrev pub truth : Bool → Value
truth true = value.Num (pos 1000000)
truth false = value.Num (pos 0)

-- a whole number, and ERR past the size
abbrev pub counted : ℕ → Value
counted n = if nat_le n 999999999 then value.Num (pos (n * 1000000)) else value.Err

-- ERR wins over NA, and NA over all else
abbrev pub stop : Bool → Bool → Option Value
stop err na = if err then Some value.Err else if na then Some value.Na else None

-- what stops a function of one value
abbrev pub stop_one : Value → Option Value
stop_one a = stop (is_err a) (is_na a)

-- what stops a function of two values
abbrev pub stop_two : Value → Value → Option Value
stop_two a b = stop (is_err a || is_err b) (is_na a || is_na b)

-- what stops a function of three values
abbrev pub stop_three : Value → Value → Value → Option Value
stop_three a b c = stop (is_err a || (is_err b || is_err c)) (is_na a || (is_na b || is_na c))

-- what stops a function of four values
abbrev pub stop_four : Value → Value → Value → Value → Option Value
stop_four a b c d =
    stop (is_err a || (is_err b || (is_err c || is_err d))) (is_na a || (is_na b || (is_na c || is_na d)))

-- what stops a function, and otherwise its value
abbrev pub unless_stopped : Option Value → Value → Value
unless_stopped (Some v) other = v
unless_stopped None other = other

-- a number is wanted
abbrev pub on_number : Option ℤ → (ℤ → Value) → Value
on_number (Some x) f = f x
on_number None f = value.Err

-- a text is wanted
abbrev pub on_text : Option (List ℕ) → (List ℕ → Value) → Value
on_text (Some t) f = f t
on_text None f = value.Err
