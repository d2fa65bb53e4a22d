use Rattle.std.proofs.Common.{None, false, rules, true}
use Rattle.commands_worksheet.specs.Commands.{act, hides, sets, widened, widens}
use Rattle.commands_worksheet.proofs.Acts.{named}
use Rattle.commands_worksheet.proofs.acting.act.Goals as goal
use Rattle.work_sheet.specs.Seen.{of_worksheet}

pub returns-in-SetWidth : goal.returns-in-SetWidth
returns-in-SetWidth c =
    let s = of_worksheet c.args.sheet.now in
    named (act c.args.action c.args.answers.now c.args.scene.now s) (widens c.args.answers.now s) _ _ _ _ _
    (search rules) (c.set_width.ensures _)

pub returns-in-ResetWidth : goal.returns-in-ResetWidth
returns-in-ResetWidth c =
    let s = of_worksheet c.args.sheet.now in
    named (act c.args.action c.args.answers.now c.args.scene.now s) (widened None s) _ _ _ _ _ (search rules)
    (c.widen.ensures _)

pub returns-in-Hide : goal.returns-in-Hide
returns-in-Hide c =
    let s = of_worksheet c.args.sheet.now in
    named (act c.args.action c.args.answers.now c.args.scene.now s) (hides true c.args.answers.now s) _ _ _ _ _
    (search rules) (c.hide.ensures _)

pub returns-in-Display : goal.returns-in-Display
returns-in-Display c =
    let s = of_worksheet c.args.sheet.now in
    named (act c.args.action c.args.answers.now c.args.scene.now s) (hides false c.args.answers.now s) _ _ _ _ _
    (search rules)
    (c.hide-in-Display.ensures _)

pub returns-in_default : goal.returns-in_default
returns-in_default c =
    let s = of_worksheet c.args.sheet.now in
    named (act c.args.action c.args.answers.now c.args.scene.now s) (sets c.args.action c.args.answers.now s) _ _ _ _ _
    (search rules)
    (c.set.ensures _)
