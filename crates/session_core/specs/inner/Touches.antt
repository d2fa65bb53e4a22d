-- How the session keeps in mind what a key may have touched of the sheet: it paints no line that shows none of that.
use Rattle.std.specs.Prelude.{◌≡◌, ℕ, ◌+◌, ◌-◌, ◌&&◌, ⊤, Bool, true, false, get_or, if◌then◌else◌, nat_le, nat_lt, List, Option, None, Some}
use Rattle.formula_eval.specs.Mean.{mean}
use Rattle.formula_parts.specs.declared.look.Scene.{Scene}
use Rattle.macro_engine.specs.RowSpans.{is_in}
use Rattle.macro_engine.specs.declared.row_span.RowSpan.{RowSpan}
use Rattle.screen_layout.specs.inner.Alike.{AreAlike}
use Rattle.work_sheet.specs.Doing.{recalculated}
use Rattle.work_sheet.specs.Seen.{Sheet}
use Rattle.session_core.specs.Machine.{sheet_of, State}
use Rattle.session_core.specs.declared.touched.Touched.{Touched}
use Rattle.session_core.specs.declared.touched.Touched.TheVariants as touched

-- whether a row's line is in a set, where the screen shows twenty rows from one on: a row that isn't shown has no line
-- that would tell, and counts as one whose line is
abbrev pub is_row_in : List Bool → ℕ → ℕ → Bool
is_row_in lines first row =
    if nat_le first row && nat_lt row (first + 20) then get_or lines (4 + (row - first)) true else true

-- whether the cells of a row may be others than before, where the screen showed rows from one on
abbrev pub touches_row : Touched → ℕ → ℕ → Bool
touches_row touched.Nothing first row = false
touches_row touched.Pointer first row = false
touches_row (touched.Rows lines) first row = is_row_in lines first row
touches_row touched.Anything first row = true

-- a sheet became another by what was touched: of anything nothing is told
abbrev pub Touches : Touched → ℕ → Sheet → Sheet → Type 0
Touches touched.Nothing first s t = t ≡ s
Touches touched.Pointer first s t = AreAlike (touches_row touched.Pointer first) s t
Touches (touched.Rows lines) first s t = AreAlike (touches_row (touched.Rows lines) first) s t
Touches touched.Anything first s t = Unit {0}

-- the same of the sheet of a state, whose screen begins with the row at its top left
abbrev pub HasTouched : Touched → State → State → Type 0
HasTouched x a b = Touches x a.corner.row (sheet_of a) (sheet_of b)

-- a recalculation follows an edit by itself, and whenever it is it leaves all cells but those of some rows
pub record IsSettled (rows : ℕ → Bool) (s : Sheet) : Type 0 where
  pub automatic : s.settings.automatic ≡ true
  pub alike : (scene : Scene) → AreAlike rows s (recalculated mean scene s).sheet

-- a recalculation follows, and touches no more than this: of anything nothing is told
abbrev pub Settles : Touched → ℕ → Sheet → Type 0
Settles touched.Nothing first s = IsSettled (touches_row touched.Nothing first) s
Settles touched.Pointer first s = IsSettled (touches_row touched.Pointer first) s
Settles (touched.Rows lines) first s = IsSettled (touches_row (touched.Rows lines) first) s
Settles touched.Anything first s = Unit {0}

-- what a step touched that told these rows is their lines at least; one that told none may have touched anything
abbrev pub AreTouched : Option RowSpan → ℕ → Touched → Type 0
AreTouched None first touched.Anything = ⊤
AreTouched (Some span) first (touched.Rows lines) = (k : ℕ) → is_in span k ≡ true → is_row_in lines first k ≡ true
AreTouched rows first _ = ⊥
