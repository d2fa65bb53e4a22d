use Rattle.std.specs.Prelude.{Option}
use Rattle.std.proofs.Common.{ap}
use Rattle.depend_graph.specs.inner.Slots.{side}
use Rattle.depend_graph.specs.declared.slots.Slot.{Slot}
use Rattle.depend_graph.proofs.slots.side.Goals as goal

pub returns-in-Some : goal.returns-in-Some
returns-in-Some c = ap (λ (o : Option Slot). side o) c.in-Some.ensures

pub returns-in-None : goal.returns-in-None
returns-in-None c = ap (λ (o : Option Slot). side o) c.in-None.ensures
