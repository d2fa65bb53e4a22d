use Rattle.std.specs.Prelude.{refl}
use Rattle.std.proofs.lemmas.Result.{IfOk-weaker}
use Rattle.commands_range.proofs.Ended.{copy_acted}
use Rattle.sheet_edits.specs.Spans.{target_of}
use Rattle.commands_range.proofs.copying.copied_onto.Goals as goal

pub returns : goal.returns
returns c = IfOk-weaker c.settled.result _ _
    (λ end settles. record {
      same = record { sheet = refl; scene = refl; tally = refl };
      acted = copy_acted (target_of c.args.from c.args.to) c.args.from c.args.work.now.scene.now
          c.args.work.now.sheet.now c.copy_span-answer.new.self c.settled.new.sheet c.args.work.now.tally.now.count
          c.settled.new.tally.count
          c.copy_span-answer.result end c.copy_span-answer.ensures.outside c.copy_span-answer.ensures.answer
          c.copy_span-answer.ensures.did c.copy_span-answer.ensures.err settles;
    })
    c.settled.ensures
