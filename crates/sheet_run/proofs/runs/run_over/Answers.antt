use Rattle.std.proofs.Common.{refl}
use Rattle.sheet_run.specs.Status.{ran}
use Rattle.sheet_run.proofs.Completing.{completes}
use Rattle.sheet_run.proofs.Endings.{refused_run}
use Rattle.sheet_run.proofs.runs.run_over.Goals as goal

pub returns-in-Ok-clause-ran : goal.returns-in-Ok-clause-ran
returns-in-Ok-clause-ran g c =
    let is = ran c.in-Ok.options c.in-Ok.ensures c.run_with.ensures.ran in
    record { is_run = is; complete = completes c.args.words.now _ _ _ is }

pub returns-in-Err-clause-ran : goal.returns-in-Err-clause-ran
returns-in-Err-clause-ran g c =
    let is = refused_run c.args.words.now c.in-Err.refused c.refused_text.result.now _ _ _ c.in-Err.ensures.1
    c.refused_text.ensures refl c.tell_refused.ensures in
    record { is_run = is; complete = completes c.args.words.now _ _ _ is }
