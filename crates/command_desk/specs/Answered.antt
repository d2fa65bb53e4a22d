-- What the answers of a command mean.
use Rattle.std.specs.Prelude.{ℕ, ◌≤◌, ℤ, Bool, List, [], Option, Some, Result, Err, slice_get, unwrap_or}
use Rattle.std.specs.Result.{result_map_both}
use Rattle.desk_answers.specs.Readings.{decimal_answer, order_answer, span_answer, whole_answer}
use Rattle.desk_errors.specs.declared.error.CommandError.{CommandError}
use Rattle.desk_errors.specs.declared.error.CommandError.TheVariants as error
use Rattle.grid_address.specs.Place.{Extent, Place}
use Rattle.menu_tree.specs.Tree.{prompts}
use Rattle.menu_tree.specs.declared.menu.Action.{Action}
use Rattle.menu_tree.specs.declared.menu.Ask.{Ask}
use Rattle.menu_tree.specs.declared.menu.Ask.TheVariants as ask
use Rattle.range_names.specs.Names.{NameMap}

-- the answer at a place, or the empty line where none was given
abbrev pub line_at : List (List ℕ) → ℕ → List ℕ
line_at answers place = unwrap_or (slice_get answers place) []

-- the answer at a place as a span
abbrev pub span_at : NameMap → List (List ℕ) → ℕ → Result Extent CommandError
span_at names answers place = span_answer names (line_at answers place) place

-- the answer at a place as a cell; of a span its first one counts
abbrev pub cell_at : NameMap → List (List ℕ) → ℕ → Result Place CommandError
cell_at names answers place = result_map_both (λ span. span.first) (λ e. e) (span_at names answers place)

-- the answer at a place as a number, in millionths
abbrev pub decimal_at : List (List ℕ) → ℕ → Result ℤ CommandError
decimal_at answers place = decimal_answer (line_at answers place) place

-- the answer at a place as the order of a sort: whether it is descending
abbrev pub order_at : List (List ℕ) → ℕ → Result Bool CommandError
order_at answers place = order_answer (line_at answers place) place

-- a whole number within the bounds of its prompt
abbrev pub whole_by : Option Ask → List ℕ → ℕ → Result ℕ CommandError
whole_by (Some (ask.Whole low high)) line place = whole_answer low high line place
whole_by k line place = Err (error.InvalidNumber place)

-- the answer at a place as the whole number that its prompt asks for
abbrev pub whole_at : Action → List (List ℕ) → ℕ → Result ℕ CommandError
whole_at a answers place = whole_by (slice_get (prompts a) place) (line_at answers place) place

-- a number lies within the bounds of its prompt
abbrev pub IsWithin : Option Ask → ℕ → Type 0
IsWithin (Some (ask.Whole low high)) n = (low ≤ n) × (n ≤ high)
IsWithin k n = Unit {0}
