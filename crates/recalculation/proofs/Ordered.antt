-- An order by what the graph tells is an order by what the grid's formulas read.
use Rattle.std.specs.Prelude.{◌≡◌, Bool, false, refl, List, [], ◌∷◌, Option, None, Some}
use Rattle.std.specs.FinMap.{get}
use Rattle.std.proofs.Common.{sym, ◌∙◌, ap}
use Rattle.formula_tree.specs.Tree.{Tree}
use Rattle.grid_address.specs.Place.{Place}
use Rattle.depend_graph.specs.InOrder as graph
use Rattle.depend_graph.specs.InOrder.{StandsFirst}
use Rattle.depend_graph.specs.Network.{holds, reads, Network}
use Rattle.range_index.specs.Owners.{hold}
use Rattle.sheet_store.specs.Grid.{Grid}
use Rattle.recalculation.specs.Context.{formula_at}
use Rattle.recalculation.specs.InOrder.{is_volatile_at, GoesInOrder}
use Rattle.recalculation.specs.Reading.{node_of, reads_at, spans_in, volatile_of, Matches}

volatile_told : (o : Option Tree) (c : Place) → graph.is_volatile (node_of o c) ≡ volatile_of o
volatile_told None c = refl
volatile_told (Some t) c = refl

-- what a formula's node holds is what its spans hold
pub held_told : (o : Option Tree) (c d : Place) → holds (node_of o c) d ≡ hold (spans_in o c) d
held_told None c d = refl
held_told (Some t) c d = refl

stands_first : (n : Network) (g : Grid) → Matches n g → (cells : List Place) (c : Place)
    → StandsFirst (graph.is_volatile_at n) (reads n) cells c → StandsFirst (is_volatile_at g) (reads_at g) cells c
stands_first n g m cells c h = record {
  steady = sym (volatile_told (formula_at g c) c) ∙ ap graph.is_volatile (sym (m c)) ∙ h.steady;
  ahead = λ d k. sym (held_told (formula_at g c) c d) ∙ ap (λ o. holds o d) (sym (m c)) ∙ h.ahead d k;
}

-- formulas in order by what the graph tells are so by what the grid holds
pub in_order : (n : Network) (g : Grid) → Matches n g → (cells : List Place) → graph.GoesInOrder n cells
    → GoesInOrder g cells
in_order n g m [] h = tt
in_order n g m (c ∷ cs) h = (stands_first n g m (c ∷ cs) c h.0, in_order n g m cs h.1)
