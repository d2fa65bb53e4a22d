use Rattle.std.specs.Prelude.{[], drop}
use Rattle.std.specs.List.{fold}
use Rattle.std.proofs.Common.{ap, sym, ◌+◌, ◌∙◌}
use Rattle.std.proofs.Math.ListN.{drop_of_length-le}
use Rattle.cell_maps.specs.Sets.{has}
use Rattle.grid_address.specs.Place.{same_place, Place}
use Rattle.cell_maps.proofs.Members.{has_get}
use Rattle.natural_order.specs.Machine.{fuel, walked}
use Rattle.natural_order.specs.Walk.{walk, Walked}
use Rattle.natural_order.proofs.Machine.{walked_more}
use Rattle.natural_order.proofs.walker.order_of.Goals as goal

pub walk-requires-clause-known : goal.walk-requires-clause-known
walk-requires-clause-known g c = ap (has same_place (g.G.Precedents.all c.args.graph.now)) c.root-item.is
    ∙ c.requires.known _ (has_get c.args.roots.now c.loop-root.root-index c.root-item.result c.loop-root-test.true)

pub loop-root-preserved : goal.loop-root-preserved
loop-root-preserved g c =
    let f : Walked Place → Place → Walked Place =
    walk same_place (g.G.Precedents.pre c.args.graph.now) (fuel (g.G.Precedents.all c.args.graph.now)) [] in
    record {
      rest =
          ap (λ (s : Walked Place). fold f s (drop (c.loop-root.root-index + 1) c.args.roots.now))
          c.in_ok-walk.ensures.walked
          ∙ walked_more f (walked c.loop-root.walker.done c.loop-root.walker.circular) c.args.roots.now
          c.loop-root.root-index c.root-item.result c.loop-root-test.true c.root-item.is
          ∙ c.loop-root.invariant.rest;
      path = c.in_ok-walk.ensures.clear;
      stack = c.in_ok-walk.ensures.idle;
    }

pub returns-clause-order : goal.returns-clause-order
returns-clause-order g c =
    let f : Walked Place → Place → Walked Place =
    walk same_place (g.G.Precedents.pre c.args.graph.now) (fuel (g.G.Precedents.all c.args.graph.now)) [] in
    ap (fold f (walked c.loop-root.walker.done c.loop-root.walker.circular))
    (sym (drop_of_length-le c.args.roots.now c.loop-root-test.false))
    ∙ c.loop-root.invariant.rest
