-- What formulas read, and the orders in which they are evaluated.
use Rattle.std.specs.Prelude.{ℕ, zero, suc, ◌≡◌, ◌+◌, Bool, true, false, nat_eq, Option, None, Some, List, [], ◌∷◌, ◌++◌}
use Rattle.std.specs.List.{filter}
use Rattle.std.specs.Option.{is_some}
use Rattle.std.specs.FinMap as map
use Rattle.grid_address.specs.Limits.{COLUMNS}
use Rattle.grid_address.specs.Place.{same_place, Extent, Place}
use Rattle.formula_tree.specs.Spans.{is_volatile, spans_of}
use Rattle.formula_tree.specs.Tree.{Tree}
use Rattle.depend_graph.specs.Network.{Network}
use Rattle.depend_graph.specs.declared.node.Node.{Node}
use Rattle.natural_order.specs.Machine.{fuel}
use Rattle.cell_maps.specs.Sets.{has}
use Rattle.natural_order.specs.Walk.{order, Reaches, Walked}
use Rattle.range_index.specs.Owners.{hold}
use Rattle.sheet_store.specs.Grid.{formulas, formulas_within, Grid}
use Rattle.sheet_store.specs.declared.order.Order.{Order}
use Rattle.sheet_store.specs.declared.order.Order.TheVariants as orders
use Rattle.recalculation.specs.Context.{formula_at}

-- whether a cell holds a formula
abbrev pub is_formula_at : Grid → Place → Bool
is_formula_at g c = is_some (formula_at g c)

-- what a formula in a cell reads, from left to right; nothing where there is none
abbrev pub spans_in : Option Tree → Place → List Extent
spans_in None c = []
spans_in (Some t) c = spans_of t c

-- the spans that the formula of a cell reads, from left to right
abbrev pub spans_at : Grid → Place → List Extent
spans_at g c = spans_in (formula_at g c) c

-- one of the spans that the formula at c reads holds d
abbrev pub reads_at : Grid → Place → Place → Bool
reads_at g c d = hold (spans_at g c) d

-- the formulas of spans, span by span, those of a span in row order
abbrev pub formulas_in : Grid → List Extent → List Place
formulas_in g [] = []
formulas_in g (s ∷ ss) = formulas_within g s ++ formulas_in g ss

-- the formulas that the formula of a cell reads
abbrev pub pre : Grid → Place → List Place
pre g c = formulas_in g (spans_at g c)

-- whether there is a formula that has to be evaluated each time
abbrev pub volatile_of : Option Tree → Bool
volatile_of None = false
volatile_of (Some t) = is_volatile t

-- what a graph keeps of a formula in a cell
abbrev pub node_of : Option Tree → Place → Option Node
node_of None c = None
node_of (Some t) c = Some (record { reads = spans_of t c; volatile = is_volatile t })

-- the graph holds the formulas of the grid, each with what it reads
abbrev pub Matches : Network → Grid → Type 0
Matches n g = (c : Place) → map.get n.formulas c ≡ node_of (formula_at g c) c

-- those of a column, of as many columns, from one on
abbrev pub of_columns : ℕ → ℕ → List Place → List Place
of_columns zero col cells = []
of_columns (suc count) col cells = filter (λ (c : Place). nat_eq c.col col) cells ++ of_columns count (col + 1) cells

-- cells in row order, by column and then by row
abbrev pub by_columns : List Place → List Place
by_columns cells = of_columns COLUMNS 0 cells

-- each formula after those that it reads, as far as circles allow
abbrev pub natural_order : Grid → Walked Place
natural_order g = order same_place (pre g) (fuel (formulas g)) (formulas g)

-- by column and then by row, or by row and then by column
abbrev pub plain_order : Bool → Grid → List Place
plain_order true g = by_columns (formulas g)
plain_order false g = formulas g

-- the order of evaluation, and whether a circle is told
abbrev pub order_in : Order → Grid → Walked Place
order_in orders.Natural g = natural_order g
order_in orders.Columnwise g = record { done = plain_order true g; circular = false }
order_in orders.Rowwise g = record { done = plain_order false g; circular = false }

-- the formulas that stay dirty after a recalculation: a volatile one, one that reaches itself, and what reads one that
-- stays
pub data StaysDirty (g : Grid) : Place → Type 0 where
  volatile : {c : Place} {t : Tree} → formula_at g c ≡ Some t → is_volatile t ≡ true → StaysDirty g c
  circle : {c : Place} → Reaches same_place (pre g) c c → StaysDirty g c
  reading : {c d : Place} → has same_place (pre g c) d ≡ true → StaysDirty g d → StaysDirty g c
