use Rattle.std.specs.Prelude.{Option, is_some}
use Rattle.std.proofs.Common.{ap, ◌∙◌}
use Rattle.depend_graph.specs.inner.Slots.{had, offer_in}
use Rattle.depend_graph.specs.declared.slots.Slot.{Slot}
use Rattle.depend_graph.proofs.slots.has_offer.Goals as goal

pub returns-in-Some : goal.returns-in-Some
returns-in-Some c = c.is_some.ensures ∙ ap (λ (o : Option Slot). is_some (had offer_in o)) c.in-Some.ensures

pub returns-in-None : goal.returns-in-None
returns-in-None c = ap (λ (o : Option Slot). is_some (had offer_in o)) c.in-None.ensures
