use Rattle.std.specs.Prelude.{◌≡◌, true, Bool, IfSome, Option}
use Rattle.std.proofs.Common.{subst}
use Rattle.depend_graph.specs.InOrder.{GoesInOrder}
use Rattle.depend_graph.specs.Network.{Network}
use Rattle.depend_graph.specs.inner.Readers.{network_of}
use Rattle.depend_graph.proofs.graph.Graph.is_in_order.Goals as goal

pub returns-in-Some : goal.returns-in-Some
returns-in-Some c =
    subst (λ (g : Network). c.in-Some.last ≡ true → GoesInOrder g c.args.cells.now) c.self.view_is
    (subst (λ (o : Option Bool).
    IfSome o (λ b. b ≡ true → GoesInOrder (network_of c.self.inside.slots) c.args.cells.now)) c.in-Some.is
    (c.order_kept.ensures (network_of c.self.inside.slots) c.self.invariant.1.1.0))

pub returns-in-Some-order_kept : goal.returns-in-Some-order_kept
returns-in-Some-order_kept c =
    subst (λ (g : Network). c.in-Some-order_kept.before ≡ true → GoesInOrder g c.args.cells.now) c.self.view_is
    (subst (λ (o : Option Bool). IfSome o
    (λ b. b ≡ true → GoesInOrder (network_of c.self.inside.slots) c.args.cells.now)) c.in-Some-order_kept.is
    (c.order_kept-2.ensures (network_of c.self.inside.slots) c.self.invariant.1.1.1))
