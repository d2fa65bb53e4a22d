-- A fill: numbers at equal steps, column by column.
use Rattle.std.specs.Prelude.{ℕ, zero, suc, ◌&&◌, not, ◌==◌, nat_le, nat_abs, ℤ, pos, ◌+ℤ◌, Bool, List, [], ◌∷◌, length, map, Result, Ok, Err, if◌then◌else◌}
use Rattle.std.specs.Int.RustNames.{int_lt}
use Rattle.std.specs.List.{take_while, zip}
use Rattle.grid_address.specs.Place.{Extent, Place}
use Rattle.formula_tree.specs.declared.value.Content.TheVariants as content
use Rattle.block_writes.specs.Writing.{by_columns, written}
use Rattle.sheet_store.specs.declared.writes.Write.{Write}
use Rattle.data_blocks.specs.declared.fault.BlockFault.{BlockFault}
use Rattle.data_blocks.specs.declared.fault.BlockFault.TheVariants as fault

-- so many numbers, each a step behind the one before
abbrev pub steps_from : ℤ → ℤ → ℕ → List ℤ
steps_from x step zero = []
steps_from x step (suc count) = x ∷ steps_from (x +ℤ step) step count

-- a number is past the stop in the direction of the step
abbrev pub is_past : ℤ → ℤ → ℤ → Bool
is_past step stop x = if int_lt step (pos 0) then int_lt x stop else int_lt stop x

-- a number that a cell can hold, and that isn't past the stop
abbrev pub is_reached : ℤ → ℤ → ℤ → Bool
is_reached step stop x = nat_le (nat_abs x) 999999999999999 && not (is_past step stop x)

-- the numbers of a fill, at most so many
abbrev pub numbers_of : ℤ → ℤ → ℤ → ℕ → List ℤ
numbers_of start step stop count = take_while (is_reached step stop) (steps_from start step count)

-- each number for the cell beside it
abbrev pub numbered : List Place → List ℤ → List Write
numbered cells numbers = map (λ p. written p.0 (content.Number p.1)) (zip cells numbers)

-- the numbers from a start on by a step, column by column, up to a stop
abbrev pub filled_with : Extent → ℤ → ℤ → ℤ → List Write
filled_with s start step stop = numbered (by_columns s) (numbers_of start step stop (length (by_columns s)))

-- a fill by the step 0 is refused
abbrev pub fill : Extent → ℤ → ℤ → ℤ → Result (List Write) BlockFault
fill s start step stop = if nat_abs step == 0 then Err fault.ZeroStep else Ok (filled_with s start step stop)
