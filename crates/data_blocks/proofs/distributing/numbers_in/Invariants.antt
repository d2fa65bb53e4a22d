use Rattle.std.proofs.Common.{◌≡◌, take}
use Rattle.data_blocks.specs.Distribution.{numbers_in}
use Rattle.data_blocks.proofs.distributing.numbers_in.Given as goal

abbrev pub invariant-loop-place : goal.invariant-loop-place
invariant-loop-place g l =
    l.numbers.items ≡ numbers_in (g.K.Look.sight l.look).values (take l.place l.cells-inside.items.items)
