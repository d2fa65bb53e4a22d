-- How it is kept what a cell has: a formula with a number stands beside other states.
use Rattle.std.specs.Prelude.{Option, None, Some}
use Rattle.formula_tree.specs.declared.value.Content.TheVariants as content
use Rattle.formula_tree.specs.declared.value.Value.TheVariants as value
use Rattle.sheet_store.specs.State.{CellState}
use Rattle.edit_log.specs.declared.change.Had.{Had}
use Rattle.edit_log.specs.declared.change.Had.TheVariants.{Nothing, Computed, Other}

-- the state that is kept; none where nothing is
abbrev pub state_had : Had → Option CellState
state_had Nothing = None
state_had (Computed f t x) = Some (record { content = content.Formula t; value = value.Num x; format = f })
state_had (Other s) = Some s
