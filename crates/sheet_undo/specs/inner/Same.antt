-- When two states of a cell are one, by a test of each part. Two formulas are one where their codes in a worksheet file
-- are.
use Rattle.std.specs.Prelude.{◌≡◌, ℕ, nat_eq, Bool, true, false, ◌&&◌, bytes_eq, get_or, List}
use Rattle.std.specs.Ordering.{int_eq}
use Rattle.formula_tree.specs.Ranges.{is_ranged}
use Rattle.formula_tree.specs.Shape.{every, IsFormula}
use Rattle.formula_tree.specs.Values.{same_value}
use Rattle.formula_tree.specs.declared.value.Content.{Content}
use Rattle.formula_tree.specs.declared.value.Content.TheVariants as content
use Rattle.grid_address.specs.Place.{same_place, Extent, Place}
use Rattle.lics_text.specs.Prefixes.{prefix_byte}
use Rattle.range_names.specs.Names.{same_extent}
use Rattle.sheet_store.specs.Grid.{Grid}
use Rattle.sheet_store.specs.State.{CellState}
use Rattle.wk1_formula.specs.Written.{code_of}

-- whether two contents of a cell are one
abbrev pub same_content : Place → Content → Content → Bool
same_content at content.Blank content.Blank = true
same_content at (content.Number x) (content.Number y) = int_eq x y
same_content at (content.Label p s) (content.Label q t) = nat_eq (prefix_byte p) (prefix_byte q) && bytes_eq s t
same_content at (content.Formula f) (content.Formula g) = bytes_eq (code_of f at) (code_of g at)
same_content at x y = false

-- whether two states of a cell are one
abbrev pub same_state : Place → CellState → CellState → Bool
same_state at s t =
    same_content at s.content t.content && (same_value s.value t.value && nat_eq s.format.0 t.format.0)

-- whether two cells with their states are one
abbrev pub same_entry : Place → CellState → Place → CellState → Bool
same_entry c s d t = same_place c d && same_state c s t

-- whether two names with their spans are one
abbrev pub same_name : List ℕ → Extent → List ℕ → Extent → Bool
same_name k s l t = bytes_eq k l && same_extent s t

-- what a formula's tree keeps
abbrev pub IsWritten : Content → Type 0
IsWritten content.Blank = Unit {0}
IsWritten (content.Number x) = Unit {0}
IsWritten (content.Label p t) = Unit {0}
IsWritten (content.Formula f) = IsFormula f × (every is_ranged f ≡ true)

-- a cell with its state
abbrev pub entry : Place → CellState → Place × CellState
entry c s = (c, s)

-- a name with its span
abbrev pub named : List ℕ → Extent → List ℕ × Extent
named name span = (name, span)

-- A column has the same width of its own in two grids, or in neither, and is hidden in both or in neither.
pub record IsSameColumn (g h : Grid) (col : ℕ) : Type 0 where
  pub width : get_or g.widths col 0 ≡ get_or h.widths col 0
  pub hidden : get_or g.hidden col false ≡ get_or h.hidden col false

-- The columns of two grids have the same widths of their own, and the same ones are hidden.
pub record SameColumns (g h : Grid) : Type 0 where
  pub widths : g.widths ≡ h.widths
  pub hidden : g.hidden ≡ h.hidden
