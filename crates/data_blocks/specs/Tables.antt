-- The two tables: what formulas are after one input or two are tried.
use Rattle.std.specs.Prelude.{ℕ, ◌+◌, ◌-◌, ◌||◌, Bool, Option, None, Some, List, [], ◌∷◌, ◌++◌, map, nat_eq, if◌then◌else◌}
use Rattle.std.specs.List.{find, flat_map}
use Rattle.grid_address.specs.Place.{is_within, Extent, Place}
use Rattle.formula_tree.specs.declared.value.Value.{Value}
use Rattle.sheet_store.specs.declared.writes.SheetFault.TheVariants as sheet_fault
use Rattle.block_writes.specs.Writing.{as_content, at, numbers_from, rows_below, written}
use Rattle.sheet_store.specs.declared.writes.Write.{Write}
use Rattle.data_blocks.specs.declared.fault.BlockFault.{BlockFault}
use Rattle.data_blocks.specs.declared.fault.BlockFault.TheVariants as fault

-- an input that is tried: a value is entered into a cell, and all is recalculated
pub record Trial : Type 0 where
  pub cell : Place
  pub value : Value

-- the answer of one cell is written into another
pub record Answer : Type 0 where
  pub from : Place
  pub to : Place

-- inputs that are tried one after another, and the answers that are then written
pub record Scenario : Type 0 where
  pub trials : List Trial
  pub answers : List Answer

-- the columns behind the first
abbrev pub columns_behind : Extent → List ℕ
columns_behind s = numbers_from (s.first.col + 1) (s.last.col - s.first.col)

-- one row or one column is no table
abbrev pub is_no_table : Extent → Bool
is_no_table s = nat_eq s.first.row s.last.row || nat_eq s.first.col s.last.col

-- an input cell that lies in its table is a fault
abbrev pub inside_fault : Option Place → Option BlockFault
inside_fault None = None
inside_fault (Some p) = Some (fault.InputInTable p)

-- why a span is no table with these input cells: of those that lie in it the first is told
abbrev pub shape_fault : Extent → List Place → Option BlockFault
shape_fault s inputs = if is_no_table s then Some fault.NoTable else inside_fault (find (is_within s) inputs)

-- the first protected input cell is a fault behind that
abbrev pub or_guarded : Option BlockFault → Option Place → Option BlockFault
or_guarded (Some f) cell = Some f
or_guarded None (Some p) = Some (fault.Sheet (sheet_fault.Protected p))
or_guarded None None = None

-- why a table with these input cells is refused, by which cells are protected
abbrev pub table_fault : Extent → List Place → (Place → Bool) → Option BlockFault
table_fault s inputs guarded = or_guarded (shape_fault s inputs) (find guarded inputs)

-- table 1: each cell below the first of its column holds an input, and the cells beside it take the answers of the top
-- row
abbrev pub row_answers : Extent → ℕ → List Answer
row_answers s row = map (λ col. record { from = at s.first.row col; to = at row col }) (columns_behind s)

-- a row's input is tried, and its answers are taken
abbrev pub row_scenario : Extent → Place → (Place → Value) → ℕ → Scenario
row_scenario s input values row = record {
  trials = record { cell = input; value = values (at row s.first.col) } ∷ [];
  answers = row_answers s row;
}

-- row by row
abbrev pub scenarios_one : Extent → Place → (Place → Value) → List Scenario
scenarios_one s input values = map (row_scenario s input values) (rows_below s)

-- table 2: a cell takes the answer of the corner, after its row's input and then its column's were tried
abbrev pub cell_scenario : Extent → Place → Place → (Place → Value) → ℕ → ℕ → Scenario
cell_scenario s down across values row col = record {
  trials = record { cell = down; value = values (at row s.first.col) }
      ∷ record { cell = across; value = values (at s.first.row col) } ∷ [];
  answers = record { from = s.first; to = at row col } ∷ [];
}

-- the cells of a row, one after another
abbrev pub row_scenarios : Extent → Place → Place → (Place → Value) → ℕ → List Scenario
row_scenarios s down across values row = map (cell_scenario s down across values row) (columns_behind s)

-- row by row
abbrev pub scenarios_two : Extent → Place → Place → (Place → Value) → List Scenario
scenarios_two s down across values = flat_map (row_scenarios s down across values) (rows_below s)

-- an answer as it is written, by the values of the cells
abbrev pub answer_written : (Place → Value) → Answer → Write
answer_written values a = written a.to (as_content (values a.from))

module _ {Sheet : Type 0} (tried : Trial → Sheet → Sheet) where
  -- a sheet after some inputs were tried, one after another
  abbrev pub after_trials : List Trial → Sheet → Sheet
  after_trials [] sheet = sheet
  after_trials (t ∷ ts) sheet = after_trials ts (tried t sheet)

  -- the same of the inputs of some scenarios
  abbrev pub after_scenarios : List Scenario → Sheet → Sheet
  after_scenarios [] sheet = sheet
  after_scenarios (t ∷ ts) sheet = after_scenarios ts (after_trials t.trials sheet)

module _ {Sheet : Type 0} (tried : Trial → Sheet → Sheet) (values : Sheet → Place → Value) where
  -- what some scenarios write: the answers of each, on the sheet after its inputs were tried
  abbrev pub scenarios_written : List Scenario → Sheet → List Write
  scenarios_written [] sheet = []
  scenarios_written (t ∷ ts) sheet =
      map (answer_written (values (after_trials tried t.trials sheet))) t.answers
      ++ scenarios_written ts (after_trials tried t.trials sheet)
