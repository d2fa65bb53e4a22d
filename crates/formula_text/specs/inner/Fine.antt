-- What the parts of a text keep.
use Rattle.std.specs.Prelude.{Bool, true, ◌&&◌, nat_le, List, length}
use Rattle.std.specs.List.{list_all}
use Rattle.lics_text.specs.Limits.{MAX_LEN}
use Rattle.formula_tree.specs.Shape.{has_no_quote, not_negative}
use Rattle.formula_tree.specs.Table.{counts_of, takes}
use Rattle.formula_text.specs.declared.lexeme.LexemeKind.{LexemeKind}
use Rattle.formula_text.specs.declared.lexeme.LexemeKind.TheVariants.{Bad, Cell, Close, Comma, Constant, Function, Infix, Not, Num, Open, Span, Str, Unclosed}
use Rattle.formula_text.specs.declared.lexeme.Lexeme.{Lexeme}
use Rattle.formula_text.specs.Tokens.{Token, number, text, place, places, constant, called, opening, closing, comma, front_minus, front_not, infix_op}

-- a number isn't negative, a text has no quote and at most 240 bytes, and a constant takes no arguments
abbrev pub is_fine_kind : LexemeKind → Bool
is_fine_kind (Num v) = not_negative v
is_fine_kind (Str t) = has_no_quote t && nat_le (length t) MAX_LEN
is_fine_kind (Constant f) = takes (counts_of f) 0
is_fine_kind (Cell r) = true
is_fine_kind (Span a b) = true
is_fine_kind (Function f) = true
is_fine_kind (Infix op) = true
is_fine_kind Not = true
is_fine_kind Open = true
is_fine_kind Close = true
is_fine_kind Comma = true
is_fine_kind Unclosed = true
is_fine_kind (Bad f) = true

-- each part is fine
abbrev pub are_fine : List Lexeme → Bool
are_fine ls = list_all (λ l. is_fine_kind l.kind) ls

-- a token that can stand in a formula: no number below zero, no text with a quote or too many bytes, no constant that
-- wants arguments
abbrev pub is_fine_token : Token → Bool
is_fine_token (number v) = not_negative v
is_fine_token (text t) = has_no_quote t && nat_le (length t) MAX_LEN
is_fine_token (constant f) = takes (counts_of f) 0
is_fine_token (place r) = true
is_fine_token (places a b) = true
is_fine_token (called f) = true
is_fine_token opening = true
is_fine_token closing = true
is_fine_token comma = true
is_fine_token front_minus = true
is_fine_token front_not = true
is_fine_token (infix_op op) = true
