use Rattle.grid_address.specs.Place.{same_place}
use Rattle.std.specs.Prelude.{◌≡◌, []}
use Rattle.natural_order.specs.Walk.{walk}
use Rattle.natural_order.specs.Machine.{walked, fuel}
use Rattle.natural_order.specs.inner.Stack.{IsOnPath, finish, work_left}
use Rattle.natural_order.proofs.walker.Walker.walk.Given as goal

abbrev pub invariant-steps : goal.invariant-steps
invariant-steps g l =
    let pre = g.G.Precedents.pre l.graph in
    let all = g.G.Precedents.all l.graph in
    record {
      same : finish pre (fuel all) [] l.self.stack.items (walked l.self.done l.self.circular)
          ≡ walk same_place pre (fuel all) [] (walked l.fn.self.done l.fn.self.circular) l.fn.root;
      on : IsOnPath pre all l.self.done.keys l.self.path.keys l.self.stack.items;
    }

abbrev pub decreases-steps : goal.decreases-steps
decreases-steps g l =
    work_left (g.G.Precedents.pre l.graph) (g.G.Precedents.all l.graph) l.self.done.keys l.self.path.keys
    l.self.stack.items
