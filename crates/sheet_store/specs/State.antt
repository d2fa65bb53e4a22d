-- What a cell has.
use Rattle.grid_address.specs.declared.format.Format.{Format}
use Rattle.formula_tree.specs.declared.value.Content.{Content}
use Rattle.formula_tree.specs.declared.value.Value.{Value}

-- a content with its value, and a format byte
pub record CellState : Type 0 where
  pub content : Content
  pub value : Value
  pub format : Format
