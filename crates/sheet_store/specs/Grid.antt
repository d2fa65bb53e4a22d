-- What a store holds: a finite map from cells to states, and each column's own width and whether it is hidden.
use Rattle.std.specs.Prelude.{ℕ, ◌≡◌, Bool, true, false, cond, not, ◌&&◌, nat_eq, max, set, get_or, List, [], ◌∷◌, Option, None, Some}
use Rattle.std.specs.FinMap as map
use Rattle.std.specs.FinMap.{FinMap}
use Rattle.grid_address.specs.Formats.{default_format}
use Rattle.grid_address.specs.Place.{is_within, place_cmp, Extent, InSheet, Place}
use Rattle.grid_address.specs.declared.format.Format.{Format}
use Rattle.formula_tree.specs.declared.value.Content.{Content}
use Rattle.formula_tree.specs.declared.value.Content.TheVariants as content
use Rattle.formula_tree.specs.declared.value.Value.{Value}
use Rattle.formula_tree.specs.declared.value.Value.TheVariants as value
use Rattle.sheet_store.specs.State.{CellState}

-- the states of the cells that are kept; every other cell is blank and in the default format
abbrev pub Cells : Type 0
Cells = FinMap place_cmp CellState

-- the cells, and of each column its own width, 0 for none, and whether it is hidden
pub record Grid : Type 0 where
  pub cells : Cells
  pub widths : List ℕ
  pub hidden : List Bool

-- nothing is held, in whatever format
abbrev pub is_blank : Content → Bool
is_blank content.Blank = true
is_blank _ = false

-- what is held has its value from a recalculation
abbrev pub is_formula : Content → Bool
is_formula (content.Formula f) = true
is_formula _ = false

-- a value that a content may have
abbrev pub Fits : Content → Value → Type 0
Fits content.Blank v = v ≡ value.Blank
Fits (content.Number x) v = v ≡ value.Num x
Fits (content.Label p t) v = v ≡ value.Str t
Fits (content.Formula f) v = v ≡ value.Blank → ⊥

-- a state whose value may stand with its content
abbrev pub IsSound : CellState → Type 0
IsSound s = Fits s.content s.value

-- a blank cell in the default format isn't kept
abbrev pub is_kept : CellState → Bool
is_kept s = cond (is_blank s.content) (not (nat_eq s.format.0 default_format)) true

-- what every cell of a store keeps
pub record IsHeld (p : Place) (s : CellState) : Type 0 where
  pub inside : InSheet p
  pub sound : IsSound s
  pub kept : is_kept s ≡ true

-- each state in the map is one that a store may hold where it stands
abbrev pub AreHeld : Cells → Type 0
AreHeld m = (p : Place) (s : CellState) → map.get m p ≡ Some s → IsHeld p s

-- the value of what is held of a cell, blank where nothing is
abbrev pub value_of : Option CellState → Value
value_of None = value.Blank
value_of (Some s) = s.value

-- the value that a cell has among the cells
abbrev pub value_in : Cells → Place → Value
value_in m c = value_of (map.get m c)

-- the value that a cell has in the grid
abbrev pub value_at : Grid → Place → Value
value_at g = value_in g.cells

-- the cell has the state; where the state isn't kept, the cell goes from the map
abbrev pub put_state : Grid → Place → CellState → Grid
put_state g c s = record g { cells = cond (is_kept s) (map.insert g.cells c s) (map.remove g.cells c) }

-- the cell is blank and in the default format
abbrev pub clear_cell : Grid → Place → Grid
clear_cell g c = record g { cells = map.remove g.cells c }

-- the cell keeps its content and its format, and takes the value
abbrev pub valued : Option CellState → Cells → Place → Value → Cells
valued None m c v = m
valued (Some s) m c v = map.insert m c (record s { value = v })

-- the value of a cell that is in the map; no other changes
abbrev pub set_value_at : Grid → Place → Value → Grid
set_value_at g c v = record g { cells = valued (map.get g.cells c) g.cells c v }

-- the cell holds a formula
abbrev pub HasFormula : Grid → Place → Type 0
HasFormula g c = (s : CellState) × (map.get g.cells c ≡ Some s) × (is_formula s.content ≡ true)

-- a blank cell in a format
abbrev pub blank_state : Format → CellState
blank_state f = record { content = content.Blank; value = value.Blank; format = f }

-- the cell keeps its content and its value; one that isn't there is blank
abbrev pub formatted : Option CellState → Format → CellState
formatted None f = blank_state f
formatted (Some s) f = record s { format = f }

-- the cell has the format; a blank one goes from the map with the default format
abbrev pub set_format_of : Grid → Place → Format → Grid
set_format_of g c f = put_state g c (formatted (map.get g.cells c) f)

-- the cells among the entries that lie in the span and pass a test, in their order
abbrev pub picked : (CellState → Bool) → Extent → List (Place × CellState) → List Place
picked test p [] = []
picked test p (e ∷ es) = cond (is_within p e.0 && test e.1) (e.0 ∷ picked test p es) (picked test p es)

-- every cell of the map passes, a blank one with a format too
abbrev pub any_state : CellState → Bool
any_state s = true

-- only formulas pass
abbrev pub holds_formula : CellState → Bool
holds_formula s = is_formula s.content

-- the cells of the map in the span, by row and then by column
abbrev pub cells_within : Grid → Extent → List Place
cells_within g p = picked any_state p (map.entries g.cells)

-- the formulas in the span, by row and then by column
abbrev pub formulas_within : Grid → Extent → List Place
formulas_within g p = picked holds_formula p (map.entries g.cells)

-- the formulas among the entries, in their order
abbrev pub formulas_among : List (Place × CellState) → List Place
formulas_among [] = []
formulas_among (e ∷ es) = cond (is_formula e.1.content) (e.0 ∷ formulas_among es) (formulas_among es)

-- every formula, by row and then by column
abbrev pub formulas : Grid → List Place
formulas g = formulas_among (map.entries g.cells)

-- the last row and the last column that hold a cell
abbrev pub further : Option Place → Place → Option Place
further None p = Some p
further (Some q) p = Some (record { row = max q.row p.row; col = max q.col p.col })

-- the last row and the last column of the entries, and of the place that was found before
abbrev pub last_among : Option Place → List (Place × CellState) → Option Place
last_among last [] = last
last_among last (e ∷ es) = last_among (further last e.0) es

-- the last row and the last column of all cells of the map; none where there is no cell
abbrev pub last_used : Grid → Option Place
last_used g = last_among None (map.entries g.cells)

-- an own width is 1 to 240, and 0 stands for none
abbrev pub own_width : ℕ → Option ℕ
own_width n = cond (nat_eq n 0) None (Some n)

-- a column's own width, where it has one
abbrev pub width_of : Grid → ℕ → Option ℕ
width_of g col = own_width (get_or g.widths col 0)

-- the number that stands for an own width
abbrev pub number_of_width : Option ℕ → ℕ
number_of_width None = 0
number_of_width (Some n) = n

-- the column has this width of its own, or none
abbrev pub set_width_of : Grid → ℕ → Option ℕ → Grid
set_width_of g col w = record g { widths = set g.widths col (number_of_width w) }

-- whether a column is hidden
abbrev pub is_hidden : Grid → ℕ → Bool
is_hidden g col = get_or g.hidden col false

-- the column is hidden, or shown
abbrev pub set_hidden_of : Grid → ℕ → Bool → Grid
set_hidden_of g col b = record g { hidden = set g.hidden col b }
