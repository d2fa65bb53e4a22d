-- Where each way leads.
use Rattle.std.specs.Prelude.{ℕ, zero, suc, ◌+◌, ◌-◌, min, max, Bool, not, false, ◌&&◌, List, [], ◌∷◌, map, Option, Some, None, if◌then◌else◌}
use Rattle.std.specs.FinMap as finite
use Rattle.std.specs.List.{range_with_len}
use Rattle.grid_address.specs.Limits.{LAST_COLUMN, LAST_ROW}
use Rattle.grid_address.specs.Place.{Place}
use Rattle.sheet_store.specs.Grid.{is_blank, last_used, Grid}
use Rattle.sheet_store.specs.State.{CellState}
use Rattle.cell_pointer.specs.declared.way.Arrow.{Arrow}
use Rattle.cell_pointer.specs.declared.way.Arrow.TheVariants.{Up, Down, Left, Right}
use Rattle.cell_pointer.specs.declared.way.Way.{Way}
use Rattle.cell_pointer.specs.declared.way.Way.TheVariants.{Stay, Step, Run, PageUp, PageDown, WindowLeft, WindowRight, Home, LastUsed}
use Rattle.cell_pointer.specs.Steps.{stepped}

-- A1, where HOME leads
abbrev pub home : Place
home = record { row = 0; col = 0 }

-- the rows of a page
abbrev pub page : ℕ
page = 20

-- a cell with a content, which a run passes over
abbrev pub has_content : Option CellState → Bool
has_content None = false
has_content (Some s) = not (is_blank s.content)

-- the cell here has a content
abbrev pub is_filled : Grid → Place → Bool
is_filled g p = has_content (finite.get g.cells p)

-- the numbers below one, the greatest first
unfoldable pub down_from : ℕ → List ℕ
down_from zero = []
down_from (suc n) = n ∷ down_from n

-- the cells of a row in these columns
abbrev pub in_row : ℕ → List ℕ → List Place
in_row row cols = map (λ c. record { row = row; col = c }) cols

-- the cells of a column in these rows
abbrev pub in_column : ℕ → List ℕ → List Place
in_column col rows = map (λ r. record { row = r; col = col }) rows

-- the cells from the next one to the edge, hidden columns among them
abbrev pub ahead : Arrow → Place → List Place
ahead Up p = in_column p.col (down_from p.row)
ahead Down p = in_column p.col (range_with_len (p.row + 1) (LAST_ROW - p.row))
ahead Left p = in_row p.row (down_from p.col)
ahead Right p = in_row p.row (range_with_len (p.col + 1) (LAST_COLUMN - p.col))

-- the last cell of a filled run
unfoldable pub run_end : Grid → Place → List Place → Place
run_end g here [] = here
run_end g here (p ∷ ps) = if is_filled g p then run_end g p ps else here

-- the next filled cell, or the edge
unfoldable pub next_filled : Grid → Place → List Place → Place
next_filled g here [] = here
next_filled g here (p ∷ ps) = if is_filled g p then p else next_filled g p ps

-- the end of a filled run where this cell and the next are filled, else the next filled cell, else the edge
abbrev pub run_from : Grid → Place → List Place → Place
run_from g here [] = here
run_from g here (p ∷ ps) = if is_filled g here && is_filled g p then run_end g p ps else next_filled g here (p ∷ ps)

-- so many steps
unfoldable pub stepped_times : ℕ → Arrow → Grid → Place → Place
stepped_times zero arrow g p = p
stepped_times (suc n) arrow g p = stepped_times n arrow g (stepped arrow g p)

-- a cell, or A1 where there is none
abbrev pub or_home : Option Place → Place
or_home None = home
or_home (Some p) = p

-- where a way leads while so many columns are shown; each stops at the edge
abbrev pub moved : Way → ℕ → Grid → Place → Place
moved Stay shown g p = p
moved (Step arrow) shown g p = stepped arrow g p
moved (Run arrow) shown g p = run_from g p (ahead arrow p)
moved PageUp shown g p = record p { row = p.row - page }
moved PageDown shown g p = record p { row = min (p.row + page) LAST_ROW }
moved WindowLeft shown g p = stepped_times (max 1 shown) Left g p
moved WindowRight shown g p = stepped_times (max 1 shown) Right g p
moved Home shown g p = home
moved LastUsed shown g p = or_home (last_used g)
