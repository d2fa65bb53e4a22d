use Rattle.std.proofs.Common.{◌≡◌, drop}
use Rattle.std.specs.List.{list_any}
use Rattle.commands_data.specs.Commands.{is_outside}
use Rattle.commands_data.proofs.sorting.any_outside.Given as goal

abbrev pub invariant-loop-key : goal.invariant-loop-key
invariant-loop-key l = list_any (is_outside l.range) (drop l.key-index l.keys) ≡ list_any (is_outside l.range) l.keys
