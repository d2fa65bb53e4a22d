use Rattle.std.specs.Prelude.{ℕ, IfOk, List, OnErr, Result}
use Rattle.std.proofs.Common.{subst, sym}
use Rattle.command_desk.specs.Desks.{of_desk}
use Rattle.command_desk.specs.declared.ending.CommandEnd.{CommandEnd}
use Rattle.commands_file.proofs.Broken.{none_over}
use Rattle.commands_file.specs.Calls.{failed, shelf_view}
use Rattle.commands_file.specs.Commands.{HasActedOver, HasBrokenIn}
use Rattle.commands_print.specs.Commands.{reported}
use Rattle.print_report.specs.declared.settings.PrintFault.{PrintFault}
use Rattle.commands_print.proofs.printing.print_range.Goals as goal

pub returns-in-Ok-clause-acted : goal.returns-in-Ok-clause-acted
returns-in-Ok-clause-acted g c =
    let v = c.args.desk.now in
    subst (λ (r : Result (List ℕ) PrintFault). IfOk c.write_report.result (λ (end : CommandEnd). (n : ℕ) → HasActedOver
    (reported r (of_desk v)) end v v n n
    (shelf_view (g.S.Shelf.holds c.args.shelf.now) (g.S.Shelf.faults c.args.shelf.now))
    (shelf_view (g.S.Shelf.holds c.write_report.new.shelf) (g.S.Shelf.faults c.write_report.new.shelf))))
    (sym c.in-Ok.ensures) c.write_report.ensures.acted

pub returns-in-Ok-clause-memory : goal.returns-in-Ok-clause-memory
returns-in-Ok-clause-memory g c =
    let v = c.args.desk.now in
    subst (λ (r : Result (List ℕ) PrintFault). OnErr c.write_report.result (HasBrokenIn (reported r (of_desk v))
    (shelf_view (g.S.Shelf.holds c.args.shelf.now) (g.S.Shelf.faults c.args.shelf.now))
    (shelf_view (g.S.Shelf.holds c.write_report.new.shelf) (g.S.Shelf.faults c.write_report.new.shelf))))
    (sym c.in-Ok.ensures) c.write_report.ensures.memory

pub returns-in-Err-Memory-clause-memory : goal.returns-in-Err-Memory-clause-memory
returns-in-Err-Memory-clause-memory g c = none_over _ failed _
