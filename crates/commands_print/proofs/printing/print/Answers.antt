use Rattle.std.specs.Prelude.{ℕ, IfOk, OnErr, Option}
use Rattle.std.proofs.Common.{subst, sym}
use Rattle.command_desk.specs.Desks.{of_desk}
use Rattle.command_desk.specs.declared.ending.CommandEnd.{CommandEnd}
use Rattle.commands_file.specs.Calls.{shelf_view}
use Rattle.commands_file.specs.Commands.{HasActedOver, HasBrokenIn}
use Rattle.commands_print.specs.Commands.{printed}
use Rattle.grid_address.specs.Place.{Extent}
use Rattle.commands_print.proofs.printing.print.Goals as goal

pub returns-in-Some-clause-acted : goal.returns-in-Some-clause-acted
returns-in-Some-clause-acted g c =
    let v = c.args.desk.now in
    subst (λ (o : Option Extent). IfOk c.print_range.result (λ (end : CommandEnd). (n : ℕ) → HasActedOver
    (printed o c.args.scene.now (of_desk v)) end v v n n
    (shelf_view (g.S.Shelf.holds c.args.shelf.now) (g.S.Shelf.faults c.args.shelf.now))
    (shelf_view (g.S.Shelf.holds c.print_range.new.shelf) (g.S.Shelf.faults c.print_range.new.shelf))))
    (sym c.in-Some.is) c.print_range.ensures.acted

pub returns-in-Some-clause-memory : goal.returns-in-Some-clause-memory
returns-in-Some-clause-memory g c =
    let v = c.args.desk.now in
    subst (λ (o : Option Extent). OnErr c.print_range.result (HasBrokenIn (printed o c.args.scene.now (of_desk v))
    (shelf_view (g.S.Shelf.holds c.args.shelf.now) (g.S.Shelf.faults c.args.shelf.now))
    (shelf_view (g.S.Shelf.holds c.print_range.new.shelf) (g.S.Shelf.faults c.print_range.new.shelf))))
    (sym c.in-Some.is) c.print_range.ensures.memory
