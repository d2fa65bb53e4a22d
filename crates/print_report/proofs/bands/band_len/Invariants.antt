use Rattle.std.proofs.Common.{◌≡◌, ◌≤◌, ◌+◌, ◌-◌, length, take, drop}
use Rattle.print_report.specs.Bands.{bands, cut, wide}
use Rattle.print_report.specs.Jobs.{sheet_of}
use Rattle.print_report.proofs.bands.band_len.Given as goal

abbrev pub invariant-loop-at : goal.invariant-loop-at
invariant-loop-at l =
    (1 ≤ l.at) × (l.at ≤ length l.columns) × (wide (sheet_of l.sheet) (take l.at l.columns) + l.room ≤ 255)
    × (bands (sheet_of l.sheet) l.width l.columns
    ≡ cut (sheet_of l.sheet) l.width (take l.at l.columns) l.room (drop l.at l.columns))

abbrev pub decreases-loop-at : goal.decreases-loop-at
decreases-loop-at l = length l.columns - l.at
