use Rattle.std.proofs.Common.{sym, ◌∙◌}
use Rattle.std.proofs.lemmas.Result.{on_ok_weaker}
use Rattle.commands_data.proofs.Behind.{same_bench}
use Rattle.commands_data.proofs.bench.TableBenchBench.give_back.Goals as goal

-- what the cells hold is what was written, and stays it where that is written again
pub returns-clause-old : goal.returns-clause-old
returns-clause-old c =
    let kept = c.args.self.now.kept.now in
    let same =
    same_bench kept c.args.self.now.sheet.now c.write_out.new.sheet
    (c.write_out.ensures.same c.args.self.now.keeps_formats) in
    on_ok_weaker c.write_out.result (λ holds. holds ∙ sym same.kept) c.write_out.ensures.written

pub returns-clause-same : goal.returns-clause-same
returns-clause-same c =
    same_bench c.args.self.now.kept.now c.args.self.now.sheet.now c.write_out.new.sheet
    (c.write_out.ensures.same c.args.self.now.keeps_formats)
