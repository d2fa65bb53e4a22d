use Rattle.std.specs.Prelude.{◌≡◌, ◌↔◌, true, [], ◌∷◌}
use Rattle.std.proofs.Common.{sym, subst, ◌∙◌}
use Rattle.cell_maps.specs.Sets.{has}
use Rattle.grid_address.specs.Place.{same_place, Place}
use Rattle.depend_graph.specs.Network.{IsSpread, Network}
use Rattle.depend_graph.specs.inner.Spreads.{list_of}
use Rattle.depend_graph.proofs.Spreads.{kept_is}
use Rattle.depend_graph.proofs.graph.Graph.spread_of.Goals as goal

pub returns-then-is_of-clause-list : goal.returns-then-is_of-clause-list
returns-then-is_of-clause-list c =
    subst (λ l. (x : Place) → (has same_place l x ≡ true) ↔ IsSpread c.args.self.now (c.args.cell ∷ []) x)
    (sym c.in_ok-list.ensures)
    (subst (λ (g : Network). (x : Place) → (has same_place (list_of c.self.inside.spread.last) x ≡ true) ↔ IsSpread g
    (c.args.cell ∷ []) x) c.self.view_is
    (kept_is _ c.self.inside.spread.last c.args.cell c.self.invariant.1.1.0 (sym c.is_of.ensures ∙ c.if-is_of.true)))

pub returns-then-is_of-2-clause-list : goal.returns-then-is_of-2-clause-list
returns-then-is_of-2-clause-list c =
    subst (λ l. (x : Place) → (has same_place l x ≡ true) ↔ IsSpread c.args.self.now (c.args.cell ∷ []) x)
    (sym c.in_ok-list-2.ensures)
    (subst (λ (g : Network). (x : Place) → (has same_place (list_of c.self.inside.spread.before) x ≡ true) ↔ IsSpread g
    (c.args.cell ∷ []) x) c.self.view_is
    (kept_is _ c.self.inside.spread.before c.args.cell c.self.invariant.1.1.1
    (sym c.is_of-2.ensures ∙ c.if-is_of-2.true)))
