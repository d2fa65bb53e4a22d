-- What evaluations keep for those behind them.
use Rattle.std.specs.Prelude.{ℕ, ◌≡◌, ◌≤◌, ◌<◌, true, false, ℤ, IfSome}
use Rattle.grid_address.specs.Place.{height_of, Extent, Place}
use Rattle.formula_tree.specs.declared.value.Value.{Value}
use Rattle.formula_parts.specs.declared.kept.Findings.{Findings}
use Rattle.formula_parts.specs.declared.kept.Kept.{Kept}
use Rattle.formula_parts.specs.declared.kept.Running.{Running}
use Rattle.formula_parts.specs.Lists.{items_in}
use Rattle.formula_parts.specs.Lookups.{line_cell, passes}
use Rattle.formula_parts.specs.Outlook.{cells_of}
use Rattle.formula_parts.specs.inner.Totals.{IsTotal}

-- the total is that of the cells of the range
abbrev pub IsRunning : (Place → Value) → Running → Type 0
IsRunning values r = IsTotal r.total (items_in values (cells_of r.span))

-- in the first column of so many rows what a number passes stands above what it doesn't
abbrev pub RisesTo : (Place → Value) → Extent → ℕ → Type 0
RisesTo values s rows =
    (x : ℤ) (i j : ℕ) → i ≤ j → j < rows → passes x (values (line_cell false s j 0)) ≡ true →
    passes x (values (line_cell false s i 0)) ≡ true

-- so it does in all rows of a range
abbrev pub IsRising : (Place → Value) → Extent → Type 0
IsRising values s = RisesTo values s (height_of s)

-- so it does in a column
abbrev pub IsColumn : (Place → Value) → Extent → Type 0
IsColumn values s = (s.first.col ≤ s.last.col) × IsRising values s

-- what was found is so with these values
pub record AreFound (values : Place → Value) (f : Findings) : Type 0 where
  pub last : IfSome f.last (IsRunning values)
  pub before : IfSome f.before (IsRunning values)
  pub rising : IfSome f.rising (IsColumn values)

-- what is kept is so with these values
abbrev pub IsKept : Kept → (Place → Value) → Type 0
IsKept k values = IfSome k.findings (AreFound values)
