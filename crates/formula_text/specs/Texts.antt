-- What a text spells.
use Rattle.std.specs.Prelude.{◌≡◌, ◌≤◌, ℕ, true, List, [], length, Ok}
use Rattle.lics_text.specs.Limits.{MAX_LEN}
use Rattle.formula_tree.specs.Shape.{every, is_bracketed}
use Rattle.formula_tree.specs.Tree.{Tree}
use Rattle.grid_address.specs.Place.{Place}
use Rattle.range_names.specs.Names.{NameMap}
use Rattle.formula_text.specs.declared.lexeme.Lexeme.{Lexeme}
use Rattle.formula_text.specs.Accepts.{operand_first}
use Rattle.formula_text.specs.Lexed.{lexed}
use Rattle.formula_text.specs.Tokens.{tokens}

-- these parts are those of a tree: they are its tokens, and no operator takes what an operator beside it should have
pub record ArePartsOf (ls : List Lexeme) (t : Tree) : Type 0 where
  pub same : operand_first ls [] ≡ Ok (tokens t)
  pub well : every is_bracketed t ≡ true

-- a text of at most 240 bytes spells a tree where it stands in a cell, with these names
abbrev pub Spells : NameMap → Place → List ℕ → Tree → Type 0
Spells names cell text t = (length text ≤ MAX_LEN) × ArePartsOf (lexed names cell 0 0 text) t
