use Rattle.grid_address.specs.Place.{same_place}
use Rattle.std.specs.Prelude.{◌≡◌, [], drop}
use Rattle.std.specs.List.{fold}
use Rattle.natural_order.specs.Walk.{walk, order}
use Rattle.natural_order.specs.Machine.{walked, fuel}
use Rattle.natural_order.proofs.walker.order_of.Given as goal

abbrev pub invariant-loop-root : goal.invariant-loop-root
invariant-loop-root g l =
    let pre = g.G.Precedents.pre l.graph in
    let all = g.G.Precedents.all l.graph in
    record {
      rest : fold (walk same_place pre (fuel all) []) (walked l.walker.done l.walker.circular)
          (drop l.root-index l.roots)
          ≡ order same_place pre (fuel all) l.roots;
      path : l.walker.path.keys ≡ [];
      stack : l.walker.stack.items ≡ [];
    }
