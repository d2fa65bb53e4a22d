-- Edits of a cell, and which formulas they make dirty.
use Rattle.std.specs.Prelude.{false, not, ◌≡◌, ◌⊎◌, ◌↔◌, Bool, true, ◌&&◌, pos}
use Rattle.std.specs.FinMap as map
use Rattle.grid_address.specs.Formats.{has_protection}
use Rattle.grid_address.specs.Place.{same_place, Place}
use Rattle.formula_tree.specs.declared.value.Content.{Content}
use Rattle.formula_tree.specs.declared.value.Content.TheVariants as content
use Rattle.formula_tree.specs.declared.value.Value.{Value}
use Rattle.formula_tree.specs.declared.value.Value.TheVariants as value
use Rattle.depend_graph.specs.Network.{reads, Network, ReachesCell}
use Rattle.sheet_store.specs.Choices.{Choices}
use Rattle.sheet_store.specs.Grid.{is_formula, put_state, Grid}
use Rattle.sheet_store.specs.State.{CellState}
use Rattle.recalculation.specs.Context.{format_of, Context}
use Rattle.recalculation.specs.Passes.{evaluated, Meaning}
use Rattle.recalculation.specs.Reading.{is_formula_at, reads_at}

-- a newly written formula has the value 0
abbrev pub first_value : Content → Value
first_value content.Blank = value.Blank
first_value (content.Number x) = value.Num x
first_value (content.Label p t) = value.Str t
first_value (content.Formula f) = value.Num (pos 0)

-- a cell takes a content, and keeps its format
abbrev pub written_state : Grid → Place → Content → CellState
written_state g c x =
    record { content = x; value = first_value x; format = record { 0 = format_of (map.get g.cells c) } }

-- the grid after a content is written into a cell
abbrev pub written : Grid → Place → Content → Grid
written g c x = put_state g c (written_state g c x)

-- protection is on, and the mark is set in the cell's format
abbrev pub is_protected : Choices → Grid → Place → Bool
is_protected s g c = s.protection && has_protection (format_of (map.get g.cells c))

-- the cell alone
abbrev pub just : Place → Place → Bool
just cell c = same_place c cell

-- the formula at c reads a written cell, or a formula that reaches one
abbrev pub ReachesWritten : Grid → (Place → Bool) → Place → Type 0
ReachesWritten g written c = (w : Place) × (written w ≡ true) × ReachesCell (reads_at g) c w

-- the formulas that are dirty after cells were written: those that were, the cells, and what reaches one of them
pub record IsDirtied (new : Grid) (old written : Place → Bool) (c : Place) : Type 0 where
  pub formula : is_formula_at new c ≡ true
  pub why : (old c ≡ true) ⊎ ((written c ≡ true) ⊎ ReachesWritten new written c)

-- these are dirty after the edit, and no other cell is
abbrev pub AreDirtied : Grid → (Place → Bool) → (Place → Bool) → (Place → Bool) → Type 0
AreDirtied new old written now = (c : Place) → (now c ≡ true) ↔ IsDirtied new old written c

-- a formula that reads one of these, as the graph tells it, is one of these
abbrev pub AreUpward : Network → (Place → Bool) → Type 0
AreUpward n these = (c d : Place) → reads n c d ≡ true → these d ≡ true → these c ≡ true

-- in Manual mode a formula that a line spells is evaluated once
abbrev pub is_evaluated : Choices → Content → Bool
is_evaluated s x = not s.automatic && is_formula x

-- the grid after a content is entered in a cell, with its formula evaluated at once or not
abbrev pub entered : Meaning → Context → Bool → Grid → Place → Content → Grid
entered mean x true g c content = evaluated mean x (written g c content) c
entered mean x false g c content = written g c content
