use Rattle.std.proofs.Common.{◌≡◌, ◌+◌, ◌-◌}
use Rattle.cell_format.specs.Numbers.{fitting}
use Rattle.cell_format.proofs.Fitting.{fitting_below}
use Rattle.cell_format.proofs.numbers.put_fewer.Given as goal

abbrev pub invariant-loop-less : goal.invariant-loop-less
invariant-loop-less l =
    (l.into ≡ l.initial.into) × (fitting_below (l.most + 1 - l.less) l.value l.room ≡ fitting l.most l.value l.room)
