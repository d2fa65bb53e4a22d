use Rattle.sheet_run.proofs.Begun.{generated_desk}
use Rattle.sheet_run.proofs.opening.generated_desk.Goals as goal

pub returns : goal.returns
returns c = generated_desk c.args.rows.now c.in_ok-saved.saved c.desk_over.result c.rows.result c.rows.ensures.rows
    c.in_ok-saved.ensures c.desk_over.ensures
