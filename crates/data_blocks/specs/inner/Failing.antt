-- How a table fails.
use Rattle.std.specs.Prelude.{◌≡◌, ◌⊎◌, Some, List}
use Rattle.std.specs.List.{find}
use Rattle.grid_address.specs.Place.{Place}
use Rattle.sheet_store.specs.declared.writes.SheetFault.TheVariants as sheet_fault
use Rattle.data_blocks.specs.declared.fault.BlockFault.{BlockFault}
use Rattle.data_blocks.specs.declared.fault.BlockFault.TheVariants as fault
use Rattle.data_blocks.specs.Benches.{OnBench}

-- a failed trial of one of these cells: want of memory, or the cell is protected
abbrev pub HasFailed : OnBench → List Place → BlockFault → Type 0
HasFailed b cells f =
    (f ≡ fault.Memory)
    ⊎ ((p : Place) × (find b.guarded cells ≡ Some p) × (f ≡ fault.Sheet (sheet_fault.Protected p)))
