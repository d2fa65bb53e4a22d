use Rattle.sheet_store.specs.Grid.{value_at}
use Rattle.sheet_store.proofs.store.Store.take_kept.Goals as goal

pub returns-then-is_nothing-clause-kept : goal.returns-then-is_nothing-clause-kept
returns-then-is_nothing-clause-kept c = c.new.ensures (value_at c.args.self.now)
