-- What a list of items comes to.
use Rattle.std.specs.Prelude.{ℕ, ◌≡◌, ◌+ℤ◌, None, List, fold, length}
use Rattle.std.specs.List.{list_any}
use Rattle.grid_address.specs.Place.{width_of, Extent, Place}
use Rattle.formula_tree.specs.declared.function.Function.{Function}
use Rattle.formula_tree.specs.declared.value.Value.{Value}
use Rattle.value_functions.specs.Values.{stop, unless_stopped}
use Rattle.formula_parts.specs.declared.items.Item.{Item}
use Rattle.formula_parts.specs.declared.totals.Held.{Held}
use Rattle.formula_parts.specs.declared.totals.Total.{Total}
use Rattle.formula_parts.specs.Lists.{is_err, is_na, items_in, larger, smaller, sum, told_by}
use Rattle.formula_parts.specs.Outlook.{block_cells}

-- the count, the sum, the least and the greatest of the items, and whether ERR and NA are among them
pub record IsTotal (t : Total) (items : List Item) : Type 0 where
  pub counted : t.count ≡ length items
  pub summed : t.sum ≡ sum items
  pub least : t.least ≡ fold smaller None items
  pub greatest : t.greatest ≡ fold larger None items
  pub errs : t.has_err ≡ list_any is_err items
  pub nas : t.has_na ≡ list_any is_na items

-- the same of a total on the way, whose sum stands in two parts
abbrev pub IsHeld : Held → List Item → Type 0
IsHeld h items = IsTotal (record h.total { sum = h.total.sum +ℤ h.apart }) items

-- SUM, AVG, COUNT, MIN and MAX by a total
abbrev pub row_by : Function → Total → Value
row_by f t = told_by f t.count t.sum t.least t.greatest

-- these, where ERR and NA pass through
abbrev pub value_by : Function → Total → Value
value_by f t = unless_stopped (stop t.has_err t.has_na) (row_by f t)

-- the items of the first rows of a range
abbrev pub so_far : (Place → Value) → Extent → ℕ → List Item
so_far values s rows = items_in values (block_cells s.first.row s.first.col rows (width_of s))
