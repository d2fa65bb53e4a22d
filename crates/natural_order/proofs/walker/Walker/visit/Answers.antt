use Rattle.std.specs.Prelude.{◌≤◌, [], Bool, List}
use Rattle.std.proofs.Common.{sym, ◌∙◌, ap, subst}
use Rattle.natural_order.specs.Walk.{Walked}
use Rattle.grid_address.specs.Place.{Place}
use Rattle.natural_order.specs.Machine.{walked, fuel}
use Rattle.natural_order.specs.inner.Stack.{finish, work_left}
use Rattle.natural_order.proofs.Machine.{visited_on_path, visited_new, visited_less}
use Rattle.natural_order.proofs.walker.Walker.visit.Goals as goal

pub returns-then-is_in-2-clause-same : goal.returns-then-is_in-2-clause-same
returns-then-is_in-2-clause-same g c =
    visited_on_path _ _ _ _ _ c.requires.on c.args.self.now.circular c.args.cell (sym c.if-is_in.ensures)
    (sym c.if-is_in-2.ensures)

pub returns-clause-same : goal.returns-clause-same
returns-clause-same g c =
    let pre = g.G.Precedents.pre c.args.graph.now in
    let all = g.G.Precedents.all c.args.graph.now in
    let s : Walked Place = walked c.args.self.now.done c.args.self.now.circular in
    ap (λ (ds : List Place). finish pre (fuel all) [] c.enter.new.self.stack.items
    (record { done = ds; circular = c.enter.new.self.circular })) c.enter.ensures.done
    ∙ ap (λ (b : Bool). finish pre (fuel all) [] c.enter.new.self.stack.items
    (record { done = c.args.self.now.done.keys; circular = b })) c.enter.ensures.circular
    ∙ visited_new _ _ _ _ _ c.requires.on s c.args.cell c.enter.new.self.stack.items (sym c.if-is_in.ensures)
    (sym c.if-is_in-2.ensures) c.in_ok-enter.ensures.stack

pub returns-clause-less : goal.returns-clause-less
returns-clause-less g c =
    let pre = g.G.Precedents.pre c.args.graph.now in
    let all = g.G.Precedents.all c.args.graph.now in
    let h =
    visited_less _ _ _ _ _ c.requires.on c.args.cell c.enter.new.self.path.keys c.enter.new.self.stack.items
    c.requires.known (sym c.if-is_in.ensures) (sym c.if-is_in-2.ensures) c.in_ok-enter.ensures.path
    c.in_ok-enter.ensures.stack in
    subst (λ (ds : List Place). work_left pre all ds c.enter.new.self.path.keys c.enter.new.self.stack.items
    ≤ work_left pre all c.args.self.now.done.keys c.args.self.now.path.keys c.args.self.now.stack.items)
    (sym c.enter.ensures.done) h
