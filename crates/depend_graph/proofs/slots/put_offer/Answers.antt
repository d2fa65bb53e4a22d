use Rattle.std.specs.Prelude.{Option, Some}
use Rattle.std.proofs.Common.{ap, ◌∙◌}
use Rattle.depend_graph.specs.inner.Slots.{offering, placed}
use Rattle.depend_graph.specs.declared.slots.Slot.{Slot}
use Rattle.depend_graph.proofs.slots.put_offer.Goals as goal

pub returns-in-Some-clause-ok : goal.returns-in-Some-clause-ok
returns-in-Some-clause-ok c =
    ap (λ (s : Slot). placed c.args.slots.now c.args.cell (Some s)) c.write_offer.ensures
    ∙ ap (λ (o : Option Slot). placed c.args.slots.now c.args.cell (Some (offering o c.args.node)))
    c.in-Some.ensures.value

pub returns-in_ok-insert-in-None-clause-ok : goal.returns-in_ok-insert-in-None-clause-ok
returns-in_ok-insert-in-None-clause-ok c =
    c.in_ok-insert-in-None.ensures.ok
    ∙ ap (λ (o : Option Slot). placed c.args.slots.now c.args.cell (Some (offering o c.args.node)))
    c.in-None.ensures.value
