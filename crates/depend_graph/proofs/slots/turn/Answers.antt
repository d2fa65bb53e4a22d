use Rattle.std.specs.Prelude.{Option, None, Some}
use Rattle.std.proofs.Common.{ap, sym, ◌∙◌}
use Rattle.depend_graph.proofs.Placed.{placed_same}
use Rattle.depend_graph.specs.inner.Slots.{placed, turned}
use Rattle.depend_graph.specs.declared.slots.Slot.{Slot}
use Rattle.depend_graph.proofs.slots.turn.Goals as goal

pub returns-in-Some : goal.returns-in-Some
returns-in-Some c = ap (λ (s : Slot). placed c.args.slots.now c.args.cell (Some s)) c.turn_slot.ensures
    ∙ ap (λ (o : Option Slot). placed c.args.slots.now c.args.cell (turned o)) c.in-Some.ensures.value

pub returns-in-None : goal.returns-in-None
returns-in-None c = sym (ap (λ (o : Option Slot). placed c.args.slots.now c.args.cell (turned o))
    (sym c.in-None.ensures.value) ∙ placed_same c.args.slots.now c.args.cell None (sym c.in-None.ensures.value))
