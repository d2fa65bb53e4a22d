-- The part that stands first: why it is refused, and how tightly it binds.
use Rattle.std.specs.Prelude.{ℕ, List, [], ◌∷◌, Option, Some, None}
use Rattle.formula_tree.specs.declared.ast.Op.{Op}
use Rattle.formula_tree.specs.Shape.{level}
use Rattle.formula_text.specs.declared.fault.ParseFault.{ParseFault}
use Rattle.formula_text.specs.declared.fault.ParseFault.TheVariants.{Unexpected}
use Rattle.formula_text.specs.declared.lexeme.LexemeKind.{LexemeKind}
use Rattle.formula_text.specs.declared.lexeme.LexemeKind.TheVariants.{Bad, Infix}
use Rattle.formula_text.specs.declared.lexeme.Lexeme.{Lexeme}

-- why a part is refused that isn't wanted where it stands
abbrev pub refusal : LexemeKind → ℕ → ParseFault
refusal (Bad f) at = f
refusal other at = Unexpected at

-- the binary operator that a part may be
abbrev pub operator_in : LexemeKind → Option Op
operator_in (Infix op) = Some op
operator_in other = None

-- the binary operator that stands first, if one does
abbrev pub operator_of : List Lexeme → Option Op
operator_of [] = None
operator_of (l ∷ ls) = operator_in l.kind

-- how tightly an operator binds, 0 for none
abbrev pub level_of : Option Op → ℕ
level_of None = 0
level_of (Some op) = level op

-- the level of the operator that stands first, or 0
abbrev pub next_level : List Lexeme → ℕ
next_level ls = level_of (operator_of ls)
