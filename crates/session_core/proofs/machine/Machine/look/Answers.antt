use Rattle.std.proofs.Common.{rules, refl, true, false}
use Rattle.std.proofs.lemmas.Result.{on_err_weaker, IfOk-weaker}
use Rattle.list_lemmas.proofs.Results.{on_err_always}
use Rattle.commands_file.proofs.Broken.{none_broken}
use Rattle.commands_file.specs.Calls.{failed}
use Rattle.commands_file.specs.declared.looking.Looked.TheVariants.{There, Unknown}
use Rattle.session_core.proofs.Alone.{looked_over}
use Rattle.session_core.proofs.Breaking.{looked_breaks, looking_breaks}
use Rattle.session_core.proofs.Failing.{failed_alone}
use Rattle.session_core.proofs.machine.Machine.look.Goals as goal

pub returns-in-There-true-clause-looked : goal.returns-in-There-true-clause-looked
returns-in-There-true-clause-looked g c =
    let h = c.in_ok-look.ensures.looked in
    looked_over c.args.command c.args.now.now false c.args.self.now c.enter_room.new.self _ _ _ h.reply failed
    (There true) (search rules) h.answered (search rules) refl

pub returns-in-There-false-clause-looked : goal.returns-in-There-false-clause-looked
returns-in-There-false-clause-looked g c =
    let h = c.in_ok-look.ensures.looked in
    IfOk-weaker c.act.result _ _
    (λ ends l. looked_over c.args.command c.args.now.now ends c.args.self.now c.act.new.self _ _ _
    h.reply l.replies.act (There false) (search rules) h.answered l.leads l.answered) c.act.ensures.acted

pub returns-in-There-false-clause-memory : goal.returns-in-There-false-clause-memory
returns-in-There-false-clause-memory g c =
    let h = c.in_ok-look.ensures.looked in
    on_err_weaker c.act.result
    (λ b. looked_breaks c.args.command c.args.now.now c.args.self.now.state _ _ _ h.reply b.answers.act (There false)
    (search rules) h.answered b.broke)
    c.act.ensures.memory

pub returns-in_ok-fail-in-Unknown-clause-looked : goal.returns-in_ok-fail-in-Unknown-clause-looked
returns-in_ok-fail-in-Unknown-clause-looked g c =
    let h = c.in_ok-look.ensures.looked in
    looked_over c.args.command c.args.now.now false c.args.self.now c.fail.new.self _ _ _ h.reply failed
    (Unknown c.in-Unknown.error) (search rules) h.answered (search rules) (failed_alone _ _ _ _)

pub returns-in_err-fail-in-Unknown-clause-memory : goal.returns-in_err-fail-in-Unknown-clause-memory
returns-in_err-fail-in-Unknown-clause-memory g c =
    let h = c.in_ok-look.ensures.looked in
    on_err_always _ (looked_breaks c.args.command c.args.now.now c.args.self.now.state _ _ _ h.reply failed
    (Unknown c.in-Unknown.error) (search rules) h.answered (none_broken _ _))

-- memory ran out in the look
pub returns-in_err-look-clause-memory : goal.returns-in_err-look-clause-memory
returns-in_err-look-clause-memory g c =
    on_err_always _
    (looking_breaks c.args.command c.args.now.now c.args.self.now.state _ _ c.in_err-look.ensures.memory)
