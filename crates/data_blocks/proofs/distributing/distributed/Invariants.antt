use Rattle.std.proofs.Common.{◌≡◌, ◌++◌}
use Rattle.grid_address.specs.Place.{height_of}
use Rattle.formula_parts.specs.Outlook.{filled}
use Rattle.data_blocks.specs.Distribution.{distributed, numbers_in}
use Rattle.data_blocks.proofs.Shares.{left}
use Rattle.data_blocks.proofs.distributing.distributed.Given as goal

abbrev pub invariant-loop-row : goal.invariant-loop-row
invariant-loop-row g l =
    let values = (g.K.Look.sight l.look).values in
    (l.writes ++ left values (numbers_in values (filled values l.fn.values)) l.bins.first.row l.bins.first.col
    (height_of l.bins) l.row l.before ≡ distributed (g.K.Look.sight l.look) l.fn.values l.bins)
    × (l.height ≡ height_of l.bins)
