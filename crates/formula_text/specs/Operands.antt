-- Numbers, texts and functions in a formula.
use Rattle.std.specs.Char.{is_ascii_alphabetic, is_ascii_digit}
use Rattle.std.specs.Prelude.{ℕ, ◌+◌, ◌==◌, ◌&&◌, ◌||◌, nat_le, get_or, position, Bool, Option, Some, None, Result, Ok, Err, List, [], ◌∷◌, length, take, drop, if◌then◌else◌}
use Rattle.std.specs.List.{prefix_len}
use Rattle.lics_text.specs.Ascii as ascii
use Rattle.lics_text.specs.Texts.{text_of}
use Rattle.lics_text.specs.declared.faults.TextFault.{TextFault}
use Rattle.fixed_value.specs.declared.decimal.Decimal.{Decimal}
use Rattle.fixed_value.specs.declared.decimal.Decimal.TheVariants.{Num as decimal, TooLarge, NotNumber}
use Rattle.fixed_value.specs.Decimals.{behind_digits, decimal_of, whole_digits}
use Rattle.formula_tree.specs.Table.{counts_of, takes}
use Rattle.formula_tree.specs.declared.function.Function.{Function as AtFunction}
use Rattle.formula_tree.specs.declared.function.Function.TheVariants as function
use Rattle.formula_text.specs.Functions.{function_named, is_among, left_out}
use Rattle.formula_text.specs.declared.fault.ParseFault.TheVariants.{BadNumber, FunctionOutside, Unexpected, UnknownFunction}
use Rattle.formula_text.specs.declared.lexeme.Found.{Found}
use Rattle.formula_text.specs.declared.lexeme.LexemeKind.{LexemeKind}
use Rattle.formula_text.specs.declared.lexeme.LexemeKind.TheVariants.{Bad, Constant, Function, Num, Str, Unclosed}

-- a point and the digits behind it
abbrev pub point_len : List ℕ → ℕ
point_len [] = 0
point_len (b ∷ bs) = if b == ascii.dot then 1 + length (whole_digits bs) else 0

-- so many digits, and so many bytes from the point on; at least one digit is wanted
abbrev pub digits_len : ℕ → ℕ → ℕ
digits_len whole point = if whole == 0 && nat_le point 1 then 0 else whole + point

-- the longest decimal without a sign, 0 where there is none
abbrev pub number_len : List ℕ → ℕ
number_len bytes = digits_len (length (whole_digits bytes)) (point_len (behind_digits bytes))

-- a decimal that is read is a number, or a fault of this place
abbrev pub number_kind : ℕ → Decimal → LexemeKind
number_kind at (decimal v) = Num v
number_kind at TooLarge = Bad (BadNumber at)
number_kind at NotNumber = Bad (Unexpected at)

-- the longest decimal that stands first
abbrev pub number_found : ℕ → List ℕ → Found
number_found at bytes =
    record { kind = number_kind at (decimal_of (take (number_len bytes) bytes)); len = number_len bytes }

-- no text holds a byte below 32
abbrev pub text_kind : ℕ → Result (List ℕ) TextFault → LexemeKind
text_kind at (Ok t) = Str t
text_kind at (Err f) = Bad (Unexpected at)

-- up to the next quote, behind the first
abbrev pub closed : ℕ → List ℕ → Option ℕ → Found
closed at bytes None = record { kind = Unclosed; len = 1 + length bytes }
closed at bytes (Some end) = record { kind = text_kind at (text_of (take end bytes)); len = end + 2 }

-- the text that stands first, from its quote on
abbrev pub text_found : ℕ → List ℕ → Found
text_found at bytes = closed at (drop 1 bytes) (position (λ b. b == ascii.quote) (drop 1 bytes))

-- the bytes of a function's name: letters and digits
abbrev pub is_name_byte : ℕ → Bool
is_name_byte b = is_ascii_alphabetic b || is_ascii_digit b

-- a function that 1-2-3 has and this program leaves out, or one that neither has
abbrev pub outside_kind : ℕ → Bool → LexemeKind
outside_kind at left = if left then Bad (FunctionOutside at) else Bad (UnknownFunction at)

-- a function by its name: a constant where it takes no arguments
abbrev pub function_kind : ℕ → List ℕ → Option AtFunction → LexemeKind
function_kind at name None = outside_kind at (is_among left_out name)
function_kind at name (Some f) = if takes (counts_of f) 0 then Constant f else Function f

-- a function has a name of at least one byte
abbrev pub called_kind : ℕ → List ℕ → LexemeKind
called_kind at [] = Bad (Unexpected at)
called_kind at (b ∷ bs) = function_kind at (b ∷ bs) (function_named (b ∷ bs))

-- how many bytes a function's name has that stands first
abbrev pub name_len : List ℕ → ℕ
name_len bytes = prefix_len is_name_byte bytes

-- @@, or @ and a name
abbrev pub function_found : ℕ → List ℕ → Found
function_found at bytes =
    if get_or bytes 1 0 == ascii.at_sign then record { kind = Function function.Pointed; len = 2 }
    else record {
      kind = called_kind at (take (name_len (drop 1 bytes)) (drop 1 bytes));
      len = 1 + name_len (drop 1 bytes);
    }
