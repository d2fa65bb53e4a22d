use Rattle.formula_tree.proofs.Redirected.{no_arguments}
use Rattle.block_writes.proofs.values.call_of.Goals as goal

pub returns : goal.returns
returns c = no_arguments c.args.function c.new.result c.new.ensures
