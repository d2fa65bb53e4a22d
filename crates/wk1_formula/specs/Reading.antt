-- The codes in bytes.
use Rattle.std.specs.Int.{from_le_bytes, w16, w64}
use Rattle.std.specs.Prelude.{ℕ, zero, suc, ◌+◌, ◌-◌, ◌*◌, ◌%◌, ◌==◌, ◌&&◌, Bool, true, false, nat_le, nat_lt, Option, Some, None, List, [], ◌∷◌, length, take, drop, if◌then◌else◌, ℤ}
use Rattle.fixed_value.specs.Doubles.{double_of}
use Rattle.fixed_value.specs.Numbers.{signed}
use Rattle.fixed_value.specs.declared.doubles.DoubleRead.{DoubleRead}
use Rattle.fixed_value.specs.declared.doubles.DoubleRead.TheVariants as double
use Rattle.grid_address.specs.Axes.{Reference}
use Rattle.grid_address.specs.Limits.{COLUMNS, ROWS}
use Rattle.grid_address.specs.declared.reference.Axis.{Axis}
use Rattle.grid_address.specs.declared.reference.Axis.TheVariants.{Fixed, Offset}
use Rattle.formula_tree.specs.Ranges.{is_text}
use Rattle.formula_tree.specs.Shape.{has_no_quote}
use Rattle.formula_tree.specs.Table.{call_size, counts_of, takes}
use Rattle.formula_tree.specs.declared.table.Counts.{Counts}
use Rattle.formula_tree.specs.declared.table.Counts.TheVariants.{Exactly, AtLeast}
use Rattle.formula_tree.specs.declared.function.Function.{Function}
use Rattle.wk1_formula.specs.Codes.{Code, number, error, missing, reference, range, text, brackets, minus, plus, negation, operator, function}
use Rattle.wk1_formula.specs.Kinds.{kind_of}
use Rattle.wk1_formula.specs.declared.kind.CodeKind.{CodeKind}
use Rattle.wk1_formula.specs.declared.kind.CodeKind.TheVariants as kind

-- what stands at the front of bytes: a code and how many bytes it has, the end, or why it is no code
pub data Front : Type 0 where
  whole : Code → ℕ → Front
  finish : Front
  faulty : Front
  left_out : ℕ → Front
  too_large : Front

-- a number of two bytes at a place, low byte first
abbrev pub short_at : ℕ → List ℕ → ℕ
short_at at bytes = from_le_bytes w16 (take 2 (drop at bytes))

-- a whole number of two bytes, of which those from 32768 on are negative
abbrev pub short_value : ℕ → ℤ
short_value n = if nat_lt n 32768 then signed false (n * 1000000) else signed true ((65536 - n) * 1000000)

-- two bytes of a whole number
abbrev pub short_front : List ℕ → Front
short_front bytes = if nat_lt (length bytes) 2 then faulty else whole (number (short_value (short_at 0 bytes))) 3

-- what a double stands for
abbrev pub double_code : DoubleRead → Front
double_code (double.Num v) = whole (number v) 9
double_code double.Na = whole missing 9
double_code double.Err = whole error 9
double_code double.TooLarge = too_large

-- eight bytes of a double
abbrev pub double_front : List ℕ → Front
double_front bytes =
    if nat_lt (length bytes) 8 then faulty else double_code (double_of (from_le_bytes w64 (take 8 bytes)))

-- bit 15 makes an offset, of which the low bits count; an absolute number must be in the sheet
abbrev pub axis_of : ℕ → ℕ → Option Axis
axis_of n count =
    if nat_le 32768 n then Some (Offset (n % count)) else (if nat_lt n count then Some (Fixed n) else None)

-- a reference, where both coordinates are in the sheet
abbrev pub both_axes : Option Axis → Option Axis → Option Reference
both_axes (Some col) (Some row) = Some (record { col = col; row = row })
both_axes (Some col) None = None
both_axes None row = None

-- the reference in four bytes
abbrev pub reference_at : ℕ → List ℕ → Option Reference
reference_at at bytes = both_axes (axis_of (short_at at bytes) COLUMNS) (axis_of (short_at (at + 2) bytes) ROWS)

-- a reference with its five bytes
abbrev pub one_reference : Option Reference → Front
one_reference (Some r) = whole (reference r) 5
one_reference None = faulty

-- a range with its nine bytes
abbrev pub two_references : Option Reference → Option Reference → Front
two_references (Some a) (Some b) = whole (range a b) 9
two_references _ _ = faulty

-- four bytes of a reference
abbrev pub reference_front : List ℕ → Front
reference_front bytes = if nat_lt (length bytes) 4 then faulty else one_reference (reference_at 0 bytes)

-- eight bytes of two references
abbrev pub range_front : List ℕ → Front
range_front bytes =
    if nat_lt (length bytes) 8 then faulty else two_references (reference_at 0 bytes) (reference_at 4 bytes)

-- a byte in front of others
abbrev pub with_byte : ℕ → Option (List ℕ) → Option (List ℕ)
with_byte b None = None
with_byte b (Some t) = Some (b ∷ t)

-- the bytes before the first 00, where there is one
abbrev pub before_zero : List ℕ → Option (List ℕ)
before_zero [] = None
before_zero (b ∷ bs) = if b == 0 then Some [] else with_byte b (before_zero bs)

-- a formula's text holds no quote
abbrev pub is_formula_text : List ℕ → Bool
is_formula_text t = is_text t && has_no_quote t

-- a text with its code and its 00
abbrev pub text_code : Option (List ℕ) → Front
text_code None = faulty
text_code (Some t) = if is_formula_text t then whole (text t) (length t + 2) else faulty

-- a count behind the code must be one that the function takes
abbrev pub counted_front : Function → List ℕ → Front
counted_front f [] = faulty
counted_front f (n ∷ bytes) = if takes (counts_of f) n then whole (function f n) 2 else faulty

-- how many arguments are taken at least
abbrev pub least_of : Counts → ℕ
least_of (Exactly n) = n
least_of (AtLeast n) = n

-- a function, with a count behind it where that is free
abbrev pub function_front : Function → List ℕ → Front
function_front f bytes =
    if call_size f == 2 then counted_front f bytes else whole (function f (least_of (counts_of f))) 1

-- what a code of this kind and the bytes behind it are
abbrev pub front_by : CodeKind → ℕ → List ℕ → Front
front_by kind.Double code bytes = double_front bytes
front_by kind.Reference code bytes = reference_front bytes
front_by kind.Range code bytes = range_front bytes
front_by kind.Finish code bytes = finish
front_by kind.Brackets code bytes = whole brackets 1
front_by kind.Short code bytes = short_front bytes
front_by kind.Text code bytes = text_code (before_zero bytes)
front_by kind.Minus code bytes = whole minus 1
front_by kind.Not code bytes = whole negation 1
front_by kind.Plus code bytes = whole plus 1
front_by (kind.Operator op) code bytes = whole (operator op) 1
front_by (kind.Function f) code bytes = function_front f bytes
front_by kind.LeftOut code bytes = left_out code
front_by kind.Unknown code bytes = faulty

-- the code at the front of bytes
unfoldable pub front_of : List ℕ → Front
front_of [] = faulty
front_of (code ∷ bytes) = front_by (kind_of code) code bytes

-- how many bytes belong to a front
abbrev pub size_of : Front → ℕ
size_of (whole c n) = n
size_of _ = 1

-- a front and where it stands
pub record Placed : Type 0 where
  pub at : ℕ
  pub front : Front

-- the codes in bytes, where so many bytes belong to a code that stands before
abbrev pub codes_in : ℕ → ℕ → List ℕ → List Placed
codes_in skipped at [] = []
codes_in (suc k) at (b ∷ bs) = codes_in k (at + 1) bs
codes_in zero at (b ∷ bs) =
    record { at = at; front = front_of (b ∷ bs) } ∷ codes_in (size_of (front_of (b ∷ bs)) - 1) (at + 1) bs
