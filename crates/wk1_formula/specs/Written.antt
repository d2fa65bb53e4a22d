-- The bytes of codes (worksheet file format; the layout of coordinates is this project's profile).
use Rattle.std.specs.Int.{to_le_bytes, w16, w64}
use Rattle.std.specs.Prelude.{ℕ, ◌+◌, ◌-◌, ◌/◌, ◌%◌, ℤ, nat_abs, ◌==◌, List, [], ◌∷◌, ◌++◌, flat_map, if◌then◌else◌}
use Rattle.grid_address.specs.Axes.{Reference}
use Rattle.grid_address.specs.Limits.{COLUMNS, ROWS}
use Rattle.grid_address.specs.Place.{Place}
use Rattle.grid_address.specs.declared.reference.Axis.{Axis}
use Rattle.grid_address.specs.declared.reference.Axis.TheVariants.{Fixed, Offset}
use Rattle.formula_tree.specs.Shape.{is_short}
use Rattle.formula_tree.specs.Table.{call_size}
use Rattle.formula_tree.specs.declared.function.Function.{Function}
use Rattle.formula_tree.specs.Tree.{Tree}
use Rattle.wk1_formula.specs.FunctionCodes as table
use Rattle.wk1_formula.specs.Codes.{Code, number, error, missing, reference, range, text, brackets, minus, plus, negation, operator, function, postfix}
use Rattle.wk1_formula.specs.Doubles.{bits_of, ERR_BITS, NA_BITS}
use Rattle.wk1_formula.specs.Kinds.{op_code}
use Rattle.wk1_formula.specs.Opcodes as opcode

-- a coordinate: an absolute number, or bit 15 with 14 bits of how far the target lies from its own place, among so many
abbrev pub coordinate : Axis → ℕ → ℕ → ℕ
coordinate (Fixed n) own count = n
coordinate (Offset n) own count = 32768 + ((own + n) % count + 16384 - own) % 16384

-- the column, and then the row
abbrev pub reference_bytes : Reference → Place → List ℕ
reference_bytes r at =
    to_le_bytes w16 (coordinate r.col at.col COLUMNS) ++ to_le_bytes w16 (coordinate r.row at.row ROWS)

-- a whole number of at most 32767 takes two bytes, any other the eight of a double
abbrev pub number_bytes : ℤ → List ℕ
number_bytes v =
    if is_short v then opcode.SHORT ∷ to_le_bytes w16 (nat_abs v / 1000000)
    else opcode.DOUBLE ∷ to_le_bytes w64 (bits_of v)

-- a function whose arguments are free in number is followed by their count
abbrev pub function_bytes : Function → ℕ → List ℕ
function_bytes f n = if call_size f == 2 then table.code_of f ∷ n ∷ [] else table.code_of f ∷ []

-- the bytes of a code that stands in a cell
abbrev pub bytes_of : Place → Code → List ℕ
bytes_of at (number v) = number_bytes v
bytes_of at error = opcode.DOUBLE ∷ to_le_bytes w64 ERR_BITS
bytes_of at missing = opcode.DOUBLE ∷ to_le_bytes w64 NA_BITS
bytes_of at (reference r) = opcode.REFERENCE ∷ reference_bytes r at
bytes_of at (range a b) = opcode.RANGE ∷ (reference_bytes a at ++ reference_bytes b at)
bytes_of at (text t) = opcode.TEXT ∷ (t ++ 0 ∷ [])
bytes_of at brackets = opcode.BRACKETS ∷ []
bytes_of at minus = opcode.MINUS ∷ []
bytes_of at plus = opcode.PLUS ∷ []
bytes_of at negation = opcode.NOT ∷ []
bytes_of at (operator op) = op_code op ∷ []
bytes_of at (function f n) = function_bytes f n

-- the bytes of a list of codes
abbrev pub spelled : Place → List Code → List ℕ
spelled at cs = flat_map (bytes_of at) cs

-- the code of a formula in a cell: its codes, and 03
abbrev pub code_of : Tree → Place → List ℕ
code_of t at = spelled at (postfix t) ++ opcode.FINISH ∷ []
