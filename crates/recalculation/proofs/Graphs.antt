-- What the graph tells is what the sheet's formulas read.
use Rattle.std.specs.Prelude.{◌≡◌, Bool, refl, List, Option, None, Some}
use Rattle.std.specs.FinMap.{get}
use Rattle.std.specs.List.{filter}
use Rattle.std.proofs.Common.{◌∙◌, ap}
use Rattle.grid_address.specs.Place.{same_place, Place}
use Rattle.formula_tree.specs.Tree.{Tree}
use Rattle.depend_graph.specs.Network.{Network}
use Rattle.natural_order.specs.Machine.{fuel}
use Rattle.natural_order.specs.Walk.{order}
use Rattle.sheet_store.specs.Grid.{formulas, Grid}
use Rattle.recalculation.proofs.First.{walked_dirty}
use Rattle.recalculation.specs.Context.{formula_at}
use Rattle.recalculation.specs.Reading.{formulas_in, node_of, spans_at, spans_in, Matches}
use Rattle.recalculation.specs.inner.Graphs.{spans_told}

module _ (n : Network) (g : Grid) (m : Matches n g) where
  told : (c : Place) → spans_told (get n.formulas c) ≡ spans_at g c
  told c = ap spans_told (m c) ∙ of_tree (formula_at g c)
    where
      of_tree : (o : Option Tree) → spans_told (node_of o c) ≡ spans_in o c
      of_tree None = refl
      of_tree (Some t) = refl

  module _ (dirty : Place → Bool) where
    -- a walk by the graph is the walk over the dirty formulas
    pub walk_told : (roots : List Place) → roots ≡ filter dirty (formulas g) → order same_place (λ c.
        filter dirty (formulas_in g (spans_told (get n.formulas c)))) (fuel (formulas g)) roots ≡ walked_dirty g dirty
    walk_told roots e = λ i. order same_place (λ c. filter dirty (formulas_in g (told c i))) (fuel (formulas g)) (e i)
