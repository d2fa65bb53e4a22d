use Rattle.std.specs.Prelude.{IfOk}
use Rattle.std.proofs.Common.{subst, sym}
use Rattle.std.proofs.lemmas.Result.{IfOk-weaker}
use Rattle.list_lemmas.proofs.Results.{on_err_always}
use Rattle.command_desk.specs.Desks.{of_desk}
use Rattle.command_desk.specs.declared.ending.CommandEnd.{CommandEnd}
use Rattle.commands_file.proofs.Broken.{none_over}
use Rattle.commands_file.specs.Calls.{failed, shelf_view}
use Rattle.commands_file.specs.Commands.{HasActedOver}
use Rattle.menu_tree.specs.declared.menu.Action.{Action}
use Rattle.session_core.specs.Act.{act}
use Rattle.session_core.proofs.acting.act.Goals as goal

-- no call was made of the shelf
pub returns-in-Common-clause-memory : goal.returns-in-Common-clause-memory
returns-in-Common-clause-memory g c =
    on_err_always c.act_common.result (none_over _ failed _)

pub returns-in-Worksheet-clause-memory : goal.returns-in-Worksheet-clause-memory
returns-in-Worksheet-clause-memory g c =
    on_err_always c.act.result (none_over _ failed _)

pub returns-in-Range-clause-memory : goal.returns-in-Range-clause-memory
returns-in-Range-clause-memory g c =
    on_err_always c.act-in-Range.result (none_over _ failed _)

pub returns-in-Data-clause-memory : goal.returns-in-Data-clause-memory
returns-in-Data-clause-memory g c =
    on_err_always c.act-in-Data.result (none_over _ failed _)

-- no evaluation is made where a report is printed
pub returns-in-Print-clause-acted : goal.returns-in-Print-clause-acted
returns-in-Print-clause-acted g c =
    let n = c.args.tally.now.count in
    subst (λ (a : Action). IfOk c.act-in-Print.result (λ (end : CommandEnd). HasActedOver
    (act a c.args.command.now.answers c.args.scene.now (of_desk c.args.desk.now)) end c.args.desk.now
    c.act-in-Print.new.desk n n
    (shelf_view (g.S.Shelf.holds c.args.shelf.now) (g.S.Shelf.faults c.args.shelf.now))
    (shelf_view (g.S.Shelf.holds c.act-in-Print.new.shelf) (g.S.Shelf.faults c.act-in-Print.new.shelf))))
    (sym c.in-Print.is)
    (IfOk-weaker c.act-in-Print.result _ _ (λ end acted. acted n) c.act-in-Print.ensures.acted)
