use Rattle.std.proofs.Common.{◌≡◌}
use Rattle.wk1_file.specs.Saved.{last_marked}
use Rattle.wk1_file.proofs.put_settings.last_by_column.Given as goal

abbrev pub invariant-loop-col : goal.invariant-loop-col
invariant-loop-col l = l.last ≡ last_marked l.store l.col
