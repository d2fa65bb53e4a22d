-- What a byte of code stands for (worksheet file format).
use Rattle.std.specs.List.{list_any}
use Rattle.std.specs.Prelude.{ℕ, Bool, ◌==◌, List, Option, Some, None, [], ◌∷◌, if◌then◌else◌}
use Rattle.formula_tree.specs.declared.function.Function.{Function}
use Rattle.wk1_formula.specs.FunctionCodes.{function_of}
use Rattle.formula_tree.specs.declared.ast.Op.{Op}
use Rattle.formula_tree.specs.declared.ast.Op.TheVariants.{Pow, Mul, Div, Add, Sub, Eq, Ne, Lt, Gt, Le, Ge, And, Or, Join}
use Rattle.wk1_formula.specs.Opcodes as opcode
use Rattle.wk1_formula.specs.declared.kind.CodeKind.{CodeKind}
use Rattle.wk1_formula.specs.declared.kind.CodeKind.TheVariants as kind

-- the code of an operator between two operands
abbrev pub op_code : Op → ℕ
op_code Add = 0x09
op_code Sub = 0x0A
op_code Mul = 0x0B
op_code Div = 0x0C
op_code Pow = 0x0D
op_code Eq = 0x0E
op_code Ne = 0x0F
op_code Le = 0x10
op_code Ge = 0x11
op_code Lt = 0x12
op_code Gt = 0x13
op_code And = 0x14
op_code Or = 0x15
op_code Join = 0x18

-- the operator of a code
unfoldable pub operator_of : ℕ → Option Op
operator_of code =
    if code == op_code Add then Some Add
    else if code == op_code Sub then Some Sub
    else if code == op_code Mul then Some Mul
    else if code == op_code Div then Some Div
    else if code == op_code Pow then Some Pow
    else if code == op_code Eq then Some Eq
    else if code == op_code Ne then Some Ne
    else if code == op_code Le then Some Le
    else if code == op_code Ge then Some Ge
    else if code == op_code Lt then Some Lt
    else if code == op_code Gt then Some Gt
    else if code == op_code And then Some And
    else if code == op_code Or then Some Or
    else if code == op_code Join then Some Join
    else None

-- a double, a cell, a range, the end, brackets, a short number, a text, minus, NOT and plus
unfoldable pub front_kind : ℕ → CodeKind
front_kind code =
    if code == opcode.DOUBLE then kind.Double
    else if code == opcode.REFERENCE then kind.Reference
    else if code == opcode.RANGE then kind.Range
    else if code == opcode.FINISH then kind.Finish
    else if code == opcode.BRACKETS then kind.Brackets
    else if code == opcode.SHORT then kind.Short
    else if code == opcode.TEXT then kind.Text
    else if code == opcode.MINUS then kind.Minus
    else if code == opcode.NOT then kind.Not
    else if code == opcode.PLUS then kind.Plus
    else kind.Unknown

-- The functions of 1-2-3 that this program leaves out: @SQRT, @LOG, @LN, @PI, @SIN, @COS, @TAN, @ATAN2, @ATAN, @ASIN,
-- @ACOS and @EXP; @RAND, @PMT, @PV, @FV, @NPV, @VAR, @STD and @IRR; @DVAR, @DSTD, @S, @N, those of an add-in, @RATE,
-- @TERM, @CTERM, @SLN, @SYD and @DDB.
abbrev pub left_out : List ℕ
left_out =
    0x23 ∷ 0x24 ∷ 0x25 ∷ 0x26 ∷ 0x27 ∷ 0x28 ∷ 0x29 ∷ 0x2A ∷ 0x2B ∷ 0x2C ∷ 0x2D ∷ 0x2E
    ∷ 0x35 ∷ 0x38 ∷ 0x39 ∷ 0x3A ∷ 0x56 ∷ 0x57 ∷ 0x58 ∷ 0x59
    ∷ 0x60 ∷ 0x61 ∷ 0x6F ∷ 0x70 ∷ 0x72 ∷ 0x74 ∷ 0x75 ∷ 0x76 ∷ 0x77 ∷ 0x78 ∷ 0x79 ∷ []

-- whether a code is one of them
abbrev pub is_left_out : ℕ → Bool
is_left_out code = list_any (λ c. c == code) left_out

-- a function that a formula may call, one that is left out, or another code
abbrev pub function_kind : Option Function → ℕ → CodeKind
function_kind (Some f) code = kind.Function f
function_kind None code = if is_left_out code then kind.LeftOut else front_kind code

-- an operator, or a function, or another code
abbrev pub operator_kind : Option Op → ℕ → CodeKind
operator_kind (Some op) code = kind.Operator op
operator_kind None code = function_kind (function_of code) code

-- an operator, a function, a function left out, or one of the others
unfoldable pub kind_of : ℕ → CodeKind
kind_of code = operator_kind (operator_of code) code
