-- Signs in a formula.
use Rattle.std.specs.Prelude.{ℕ, ◌==◌, min, get_or, Bool, List, length, take, codes, if◌then◌else◌}
use Rattle.std.specs.Str.{str_eq_ignore_ascii_case}
use Rattle.lics_text.specs.Ascii as ascii
use Rattle.formula_tree.specs.declared.ast.Op.TheVariants.{Pow, Mul, Div, Add, Sub, Eq, Ne, Lt, Gt, Le, Ge, And, Or, Join}
use Rattle.formula_text.specs.declared.fault.ParseFault.TheVariants.{Unexpected}
use Rattle.formula_text.specs.declared.lexeme.Found.{Found}
use Rattle.formula_text.specs.declared.lexeme.LexemeKind.{LexemeKind}
use Rattle.formula_text.specs.declared.lexeme.LexemeKind.TheVariants.{Bad, Close, Comma, Infix, Not, Open}

-- whether bytes begin with this word, in letters of either case
abbrev pub begins_with : List ℕ → List ℕ → Bool
begins_with bytes word = str_eq_ignore_ascii_case (take (min (length word) (length bytes)) bytes) word

-- #AND#, #OR# or #NOT#, in letters of either case
unfoldable pub hash_found : ℕ → List ℕ → Found
hash_found at bytes =
    if begins_with bytes (codes "#AND#") then record { kind = Infix And; len = 5 }
    else if begins_with bytes (codes "#OR#") then record { kind = Infix Or; len = 4 }
    else if begins_with bytes (codes "#NOT#") then record { kind = Not; len = 5 }
    else record { kind = Bad (Unexpected at); len = 1 }

-- a sign of one byte; ; is read as ,
unfoldable pub single_kind : ℕ → ℕ → LexemeKind
single_kind at b =
    if b == ascii.opening_parenthesis then Open
    else if b == ascii.closing_parenthesis then Close
    else if b == ascii.comma then Comma
    else if b == ascii.semicolon then Comma
    else if b == ascii.caret then Infix Pow
    else if b == ascii.star then Infix Mul
    else if b == ascii.slash then Infix Div
    else if b == ascii.plus then Infix Add
    else if b == ascii.minus then Infix Sub
    else if b == ascii.equals then Infix Eq
    else if b == ascii.less then Infix Lt
    else if b == ascii.greater then Infix Gt
    else if b == ascii.ampersand then Infix Join
    else Bad (Unexpected at)

-- a sign, and the byte behind it
unfoldable pub sign_of : ℕ → ℕ → ℕ → Found
sign_of at b next =
    if b == ascii.less then (
    if next == ascii.greater then record { kind = Infix Ne; len = 2 }
    else if next == ascii.equals then record { kind = Infix Le; len = 2 }
    else record { kind = Infix Lt; len = 1 })
    else if b == ascii.greater then (
    if next == ascii.equals then record { kind = Infix Ge; len = 2 } else record { kind = Infix Gt; len = 1 })
    else record { kind = single_kind at b; len = 1 }

-- the sign that stands first, which has one byte or two
abbrev pub sign_found : ℕ → List ℕ → Found
sign_found at bytes = sign_of at (get_or bytes 0 0) (get_or bytes 1 0)
