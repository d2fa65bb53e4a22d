use Rattle.commands_data.proofs.Behind.{tried_same}
use Rattle.commands_data.proofs.bench.TableBenchBench.try_input.Goals as goal

pub returns-clause-same : goal.returns-clause-same
returns-clause-same c =
    tried_same c.args.self.now.kept.now c.args.cell c.args.self.now.sheet.now c.enter_out.new.sheet c.requires
    c.enter_out.ensures.same

pub returns-in_err-enter_out-clause-same : goal.returns-in_err-enter_out-clause-same
returns-in_err-enter_out-clause-same c =
    tried_same c.args.self.now.kept.now c.args.cell c.args.self.now.sheet.now c.enter_out.new.sheet c.requires
    c.enter_out.ensures.same
