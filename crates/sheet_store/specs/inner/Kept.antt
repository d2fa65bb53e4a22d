-- How a cell's state is kept: a constant's value is told by its content.
use Rattle.formula_tree.specs.declared.value.Content.TheVariants as content
use Rattle.formula_tree.specs.declared.value.Value.TheVariants as value
use Rattle.sheet_store.specs.State.{CellState}
use Rattle.sheet_store.specs.declared.state.Kept.{Kept}
use Rattle.sheet_store.specs.declared.state.Kept.TheVariants.{Blank, Number, Formula, In13, In22, In55, In119, In183, In240}

-- the state that is kept
abbrev pub state_kept : Kept → CellState
state_kept (Blank f) = record { content = content.Blank; value = value.Blank; format = f }
state_kept (Number f x) = record { content = content.Number x; value = value.Num x; format = f }
state_kept (Formula f c) = record { content = content.Formula c.value.formula; value = c.value.value; format = f }
state_kept (In13 f p t) = record { content = content.Label p t; value = value.Str t; format = f }
state_kept (In22 f p t) = record { content = content.Label p t.value; value = value.Str t.value; format = f }
state_kept (In55 f p t) = record { content = content.Label p t.value; value = value.Str t.value; format = f }
state_kept (In119 f p t) = record { content = content.Label p t.value; value = value.Str t.value; format = f }
state_kept (In183 f p t) = record { content = content.Label p t.value; value = value.Str t.value; format = f }
state_kept (In240 f p t) = record { content = content.Label p t.value; value = value.Str t.value; format = f }
