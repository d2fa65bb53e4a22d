use Rattle.std.proofs.lemmas.Result.{IfOk-weaker}
use Rattle.list_lemmas.proofs.Results.{on_err_always}
use Rattle.commands_file.proofs.Broken.{none_over}
use Rattle.commands_file.specs.Calls.{failed}
use Rattle.commands_print.proofs.Held.{printed_holds}
use Rattle.commands_print.proofs.Written.{alone}
use Rattle.commands_print.proofs.acting.act.Goals as goal

-- what is kept makes no call
pub returns-in-File-clause-acted : goal.returns-in-File-clause-acted
returns-in-File-clause-acted g c = rw c.in-File.is (λ n. alone _ _ _ _ _ _ _ (c.keep_file.ensures n))

pub returns-in-Range-clause-acted : goal.returns-in-Range-clause-acted
returns-in-Range-clause-acted g c = rw c.in-Range.is (λ n. alone _ _ _ _ _ _ _ (c.keep_range.ensures n))

pub returns-in-Header-clause-acted : goal.returns-in-Header-clause-acted
returns-in-Header-clause-acted g c =
    rw c.in-Header.is (IfOk-weaker c.keep_text.result _ _ (λ end acted n. alone _ _ _ _ _ _ _ (acted n))
    c.keep_text.ensures)

pub returns-in-Header-clause-memory : goal.returns-in-Header-clause-memory
returns-in-Header-clause-memory g c = rw c.in-Header.is (on_err_always c.keep_text.result (none_over _ failed _))

pub returns-in-Footer-clause-acted : goal.returns-in-Footer-clause-acted
returns-in-Footer-clause-acted g c =
    rw c.in-Footer.is (IfOk-weaker c.keep_text-in-Footer.result _ _ (λ end acted n. alone _ _ _ _ _ _ _ (acted n))
    c.keep_text-in-Footer.ensures)

pub returns-in-Footer-clause-memory : goal.returns-in-Footer-clause-memory
returns-in-Footer-clause-memory g c =
    rw c.in-Footer.is (on_err_always c.keep_text-in-Footer.result (none_over _ failed _))

pub returns-in-PageLength-clause-acted : goal.returns-in-PageLength-clause-acted
returns-in-PageLength-clause-acted g c = rw c.in-PageLength.is (λ n. alone _ _ _ _ _ _ _ (c.keep_number.ensures n))

pub returns-in-MarginLeft-clause-acted : goal.returns-in-MarginLeft-clause-acted
returns-in-MarginLeft-clause-acted g c =
    rw c.in-MarginLeft.is (λ n. alone _ _ _ _ _ _ _ (c.keep_number-in-MarginLeft.ensures n))

pub returns-in-MarginRight-clause-acted : goal.returns-in-MarginRight-clause-acted
returns-in-MarginRight-clause-acted g c =
    rw c.in-MarginRight.is (λ n. alone _ _ _ _ _ _ _ (c.keep_number-in-MarginRight.ensures n))

pub returns-in-MarginTop-clause-acted : goal.returns-in-MarginTop-clause-acted
returns-in-MarginTop-clause-acted g c =
    rw c.in-MarginTop.is (λ n. alone _ _ _ _ _ _ _ (c.keep_number-in-MarginTop.ensures n))

pub returns-in-MarginBottom-clause-acted : goal.returns-in-MarginBottom-clause-acted
returns-in-MarginBottom-clause-acted g c =
    rw c.in-MarginBottom.is (λ n. alone _ _ _ _ _ _ _ (c.keep_number-in-MarginBottom.ensures n))

-- Go makes one call, and its file then holds the report
pub returns-in-Go-clause-acted : goal.returns-in-Go-clause-acted
returns-in-Go-clause-acted g c = rw c.in-Go.is c.print.ensures.acted

pub returns-in-Go-clause-report : goal.returns-in-Go-clause-report
returns-in-Go-clause-report g c = IfOk-weaker c.print.result _ _
    (λ end acted was is. printed_holds c.args.scene.now c.args.desk.now end 0 _ _ was (acted 0)) c.print.ensures.acted
