use Rattle.std.proofs.Common.{◌≡◌, drop, take}
use Rattle.grid_address.specs.Progress.{address_in, read_by}
use Rattle.grid_address.specs.inner.Progress.{IsRead}
use Rattle.grid_address.proofs.reading.read_front.Given as goal

abbrev pub invariant-loop-at : goal.invariant-loop-at
invariant-loop-at l =
    IsRead l.progress (take l.at l.bytes) × (address_in l.bytes ≡ read_by l.progress (drop l.at l.bytes))
