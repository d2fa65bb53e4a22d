use Rattle.std.specs.Prelude.{◌≡◌, Option, None, Some, is_some, true, false}
use Rattle.std.specs.FinMap.{get}
use Rattle.std.proofs.Common.{ap, sym, ◌∙◌}
use Rattle.depend_graph.proofs.Placed.{part_cleared, part_out, placed_same}
use Rattle.depend_graph.specs.inner.Slots.{had, other_in, placed, without, Slots}
use Rattle.depend_graph.specs.declared.slots.Slot.{Slot}
use Rattle.depend_graph.proofs.slots.drop_part.Goals as goal

pub returns-then-not-has_other : goal.returns-then-not-has_other
returns-then-not-has_other c =
    let m : Slots = c.args.slots.now in
    let none : is_some (had (other_in c.args.part) (get m c.args.cell)) ≡ false = sym c.if-not-has_other.ensures in
    c.remove.ensures ∙ sym (ap (placed m c.args.cell) (part_out c.args.part (get m c.args.cell) none))

pub returns-in-Some : goal.returns-in-Some
returns-in-Some c =
    let m : Slots = c.args.slots.now in
    let s : Slot = c.in-Some.slot.now in
    let found : get m c.args.cell ≡ Some s = sym c.in-Some.ensures.value in
    let some : is_some (had (other_in c.args.part) (Some s)) ≡ true =
    ap (λ (o : Option Slot). is_some (had (other_in c.args.part) o)) (sym found) ∙ sym c.if-not-has_other.ensures in
    ap (λ (x : Slot). placed m c.args.cell (Some x)) c.clear.ensures ∙ sym (ap (λ (o : Option Slot). placed m
    c.args.cell (without c.args.part o)) found ∙ ap (placed m c.args.cell) (part_cleared c.args.part s some))

pub returns-in-None : goal.returns-in-None
returns-in-None c =
    let m : Slots = c.args.slots.now in
    let found : get m c.args.cell ≡ None = sym c.in-None.ensures.value in
    sym (ap (λ (o : Option Slot). placed m c.args.cell (without c.args.part o)) found
    ∙ placed_same m c.args.cell None found)
