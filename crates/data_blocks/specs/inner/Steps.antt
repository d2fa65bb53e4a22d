-- How a fill goes on.
use Rattle.std.specs.Prelude.{ℤ, Option, None, Some, if◌then◌else◌}
use Rattle.data_blocks.specs.Filling.{is_past}

-- a number, where there is one that isn't past the stop
abbrev pub reached : ℤ → ℤ → Option ℤ → Option ℤ
reached step stop None = None
reached step stop (Some x) = if is_past step stop x then None else Some x
