use Rattle.std.specs.FinMap.{get}
use Rattle.std.proofs.Common.{ap, ◌∙◌}
use Rattle.sheet_store.specs.Grid.{Grid}
use Rattle.sheet_edits.proofs.Beside.{beside}
use Rattle.sheet_edits.proofs.Listed.{not_pushed}
use Rattle.sheet_edits.proofs.many.put_new.Goals as goal

pub returns-in_ok-put-clause-others : goal.returns-in_ok-put-clause-others
returns-in_ok-put-clause-others c = λ x h. ap (λ (g : Grid). get g.cells x) c.in_ok-put.ensures.ok
    ∙ beside c.args.store.now c.args.cell c.in-Some.state x
    (not_pushed c.args.grown.now c.push.new.self c.args.cell c.in_ok-push.ensures.ok x h)
