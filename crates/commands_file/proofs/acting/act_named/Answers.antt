use Rattle.std.specs.Prelude.{IfOk}
use Rattle.std.proofs.Common.{subst, sym}
use Rattle.std.proofs.lemmas.Result.{IfOk-weaker}
use Rattle.command_desk.specs.Desks.{of_desk}
use Rattle.command_desk.specs.declared.ending.CommandEnd.{CommandEnd}
use Rattle.commands_file.specs.Calls.{shelf_view}
use Rattle.commands_file.specs.Commands.{act_named, HasActedOver}
use Rattle.menu_tree.specs.declared.menu.FileAction.{FileAction}
use Rattle.commands_file.proofs.acting.act_named.Goals as goal

pub returns-in-Save-clause-acted : goal.returns-in-Save-clause-acted
returns-in-Save-clause-acted g c =
    let n = c.args.tally.now.count in
    subst (λ (a : FileAction). IfOk c.save.result (λ (end : CommandEnd). HasActedOver
    (act_named a c.args.command.now.answers.now c.args.name c.args.scene.now (of_desk c.args.desk.now)) end
    c.args.desk.now c.save.new.desk n n
    (shelf_view (g.S.Shelf.holds c.args.shelf.now) (g.S.Shelf.faults c.args.shelf.now))
    (shelf_view (g.S.Shelf.holds c.save.new.shelf) (g.S.Shelf.faults c.save.new.shelf)))) (sym c.in-Save.is)
    (IfOk-weaker c.save.result _ _ (λ end acted. acted n) c.save.ensures.acted)

pub returns-in-XtractFormulas-clause-acted : goal.returns-in-XtractFormulas-clause-acted
returns-in-XtractFormulas-clause-acted g c =
    let v = c.args.desk.now in
    let n = c.args.tally.now.count in
    subst (λ (a : FileAction). IfOk c.extract.result (λ (end : CommandEnd). HasActedOver
    (act_named a c.args.command.now.answers.now c.args.name c.args.scene.now (of_desk v)) end v v n n
    (shelf_view (g.S.Shelf.holds c.args.shelf.now) (g.S.Shelf.faults c.args.shelf.now))
    (shelf_view (g.S.Shelf.holds c.extract.new.shelf) (g.S.Shelf.faults c.extract.new.shelf))))
    (sym c.in-XtractFormulas.is)
    (IfOk-weaker c.extract.result _ _ (λ end acted. acted n) c.extract.ensures.acted)

pub returns-in-XtractValues-clause-acted : goal.returns-in-XtractValues-clause-acted
returns-in-XtractValues-clause-acted g c =
    let v = c.args.desk.now in
    let n = c.args.tally.now.count in
    let x = c.extract-in-XtractValues in
    subst (λ (a : FileAction). IfOk x.result (λ (end : CommandEnd). HasActedOver
    (act_named a c.args.command.now.answers.now c.args.name c.args.scene.now (of_desk v)) end v v n n
    (shelf_view (g.S.Shelf.holds c.args.shelf.now) (g.S.Shelf.faults c.args.shelf.now))
    (shelf_view (g.S.Shelf.holds x.new.shelf) (g.S.Shelf.faults x.new.shelf)))) (sym c.in-XtractValues.is)
    (IfOk-weaker x.result _ _ (λ end acted. acted n) x.ensures.acted)
