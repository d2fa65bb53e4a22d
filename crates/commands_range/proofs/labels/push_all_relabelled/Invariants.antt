use Rattle.std.specs.Prelude.{◌≡◌, ◌++◌, flat_map, take}
use Rattle.std.specs.FinMap as map
use Rattle.commands_range.specs.Commands.{relabelled_cell}
use Rattle.commands_range.proofs.labels.push_all_relabelled.Given as goal

abbrev pub invariant-loop-cell : goal.invariant-loop-cell
invariant-loop-cell l =
    l.writes ≡ l.fn.writes ++ flat_map (λ c. relabelled_cell l.prefix c (map.get l.store.cells c))
    (take l.cell-index l.cells)
