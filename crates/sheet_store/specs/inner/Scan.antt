-- The entries from a place on, and how a scan goes over them.
use Rattle.std.specs.Prelude.{ℕ, ◌+◌, ◌*◌, ◌-◌, Bool, true, cond, List, [], ◌∷◌, Option, None, Some}
use Rattle.std.specs.List.{filter}
use Rattle.std.specs.Ordering.{is_le}
use Rattle.grid_address.specs.Limits.{COLUMNS}
use Rattle.grid_address.specs.Place.{place_cmp, Place}
use Rattle.sheet_store.specs.Grid.{holds_formula}
use Rattle.sheet_store.specs.State.{CellState}

-- whether a state is asked for: every one, or a formula's alone
abbrev pub wanted : Bool → CellState → Bool
wanted only_formulas s = cond only_formulas (holds_formula s) true

-- the entries from a place on
abbrev pub entries_from : Place → List (Place × CellState) → List (Place × CellState)
entries_from c es = filter (λ e. is_le (place_cmp c e.0)) es

-- a place, if what it has passes a test
abbrev pub passed_at : (CellState → Bool) → Place → Option CellState → List Place
passed_at test c None = []
passed_at test c (Some s) = cond (test s) (c ∷ []) []

-- the places in their order, as numbers
abbrev pub number_of : Place → ℕ
number_of p = p.row * COLUMNS + p.col

-- what is left from a place on, if there is one
abbrev pub left_from : Option Place → List (Place × CellState) → List (Place × CellState)
left_from None es = []
left_from (Some c) es = entries_from c es

-- how many places of the sheet are left
abbrev pub places_left : Option Place → ℕ
places_left None = 0
places_left (Some c) = 2097152 - number_of c
