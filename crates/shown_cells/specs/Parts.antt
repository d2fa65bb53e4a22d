-- How the code hands on what a cell shows: as a text that runs on, or as what is put within the column.
use Rattle.std.specs.Prelude.{ℕ, List, take, Some, codes}
use Rattle.cell_format.specs.Labels.{shown_label}
use Rattle.cell_format.specs.Numbers.{placed, shown_number}
use Rattle.formula_text.specs.Printed.{printed}
use Rattle.shown_cells.specs.declared.fitting.Fitting.{Fitting}
use Rattle.shown_cells.specs.declared.fitting.Fitting.TheVariants.{Number, Label, Err, Na, Printed}
use Rattle.shown_cells.specs.declared.shown.Shown.{Shown}
use Rattle.shown_cells.specs.declared.shown.Shown.TheVariants.{RunsOn, Fits}

-- the text of what fits a column
abbrev pub fitting_text : Fitting → ℕ → List ℕ
fitting_text (Number v format) width = shown_number v format.0 width
fitting_text (Label prefix text) width = shown_label prefix text.now width
fitting_text Err width = placed (Some (codes "ERR")) width
fitting_text Na width = placed (Some (codes "NA")) width
fitting_text (Printed formula c names) width = take width (printed names.now c formula.now)

-- the text of what a cell shows
abbrev pub shown_text : Shown → ℕ → List ℕ
shown_text (RunsOn text) width = text.now
shown_text (Fits shown) width = fitting_text shown width
