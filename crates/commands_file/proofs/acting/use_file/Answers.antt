use Rattle.std.proofs.Common.{subst}
use Rattle.std.proofs.lemmas.Result.{IfOk-weaker}
use Rattle.list_lemmas.proofs.Results.{on_err_always}
use Rattle.command_desk.specs.Acting.{on_desk}
use Rattle.command_desk.specs.Desks.{of_desk}
use Rattle.commands_file.proofs.Broken.{called_in, unfinished_in}
use Rattle.commands_file.proofs.Ended.{acted_on, made_over, refused_over}
use Rattle.commands_file.specs.Calls.{gets, shelf_view}
use Rattle.commands_file.specs.Commands.{with_file}
use Rattle.commands_file.specs.Steps.{HasCalled}
use Rattle.commands_file.specs.inner.Placing.{loaded_as}
use Rattle.commands_file.specs.inner.Using.{used}
use Rattle.commands_file.specs.declared.loading.Loaded.{Loaded}
use Rattle.commands_file.proofs.acting.use_file.Goals as goal

pub returns-in-Sheet-clause-acted : goal.returns-in-Sheet-clause-acted
returns-in-Sheet-clause-acted g c =
    let v = c.args.desk.now in
    let how = c.args.how in
    let scene = c.args.scene.now in
    IfOk-weaker c.use_sheet.result _ _ (λ end acted.
    made_over (λ saved. on_desk (used how saved scene) (of_desk v)) c.args.name.now v _ _ c.in-Sheet.saved end _ _ _
    (acted_on (used how c.in-Sheet.saved scene) end v c.use_sheet.new.sheet _ _ acted)
    (subst (λ (l : Loaded). HasCalled (gets c.args.name.now) loaded_as l
    (shelf_view (g.S.Shelf.holds c.args.shelf.now) (g.S.Shelf.faults c.args.shelf.now))
    (shelf_view (g.S.Shelf.holds c.load.new.shelf) (g.S.Shelf.faults c.load.new.shelf))) c.in-Sheet.is
    c.in_ok-loaded.ensures.loaded)) c.use_sheet.ensures

pub returns-in-Sheet-clause-memory : goal.returns-in-Sheet-clause-memory
returns-in-Sheet-clause-memory g c =
    let d = of_desk c.args.desk.now in
    on_err_always c.use_sheet.result
    (called_in (gets c.args.name.now) (with_file (λ saved. on_desk (used c.args.how saved c.args.scene.now) d) d) _ _
    loaded_as _ c.in_ok-loaded.ensures.loaded)

pub returns-in-Refused-clause-acted : goal.returns-in-Refused-clause-acted
returns-in-Refused-clause-acted g c =
    let v = c.args.desk.now in
    refused_over (λ saved. on_desk (used c.args.how saved c.args.scene.now) (of_desk v)) c.args.name.now
    v _ _ c.in-Refused.error _
    (subst (λ (l : Loaded). HasCalled (gets c.args.name.now) loaded_as l
    (shelf_view (g.S.Shelf.holds c.args.shelf.now) (g.S.Shelf.faults c.args.shelf.now))
    (shelf_view (g.S.Shelf.holds c.load.new.shelf) (g.S.Shelf.faults c.load.new.shelf))) c.in-Refused.is
    c.in_ok-loaded.ensures.loaded)

-- memory ran out in the read
pub returns-in_err-loaded-clause-memory : goal.returns-in_err-loaded-clause-memory
returns-in_err-loaded-clause-memory g c =
    let d = of_desk c.args.desk.now in
    on_err_always _ (unfinished_in (gets c.args.name.now)
    (with_file (λ saved. on_desk (used c.args.how saved c.args.scene.now) d) d) _ _ c.in_err-loaded.ensures.memory)
