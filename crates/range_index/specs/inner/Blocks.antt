-- Blocks of the sheet: it is cut into blocks of equal size, for each size.
use Rattle.std.specs.Prelude.{ℕ, zero, suc, ◌/◌, ◌^◌, Bool, cond, nat_eq, ◌&&◌}
use Rattle.grid_address.specs.Place.{Extent, Place}
use Rattle.range_index.specs.inner.Powers.{Powers}
use Rattle.range_index.specs.declared.block.Block.{Block}

-- the least power of two, from one on and within so many steps, that divides both numbers to the same number
abbrev pub power_from : ℕ → ℕ → ℕ → ℕ → ℕ
power_from zero k a b = k
power_from (suc n) k a b = cond (nat_eq (a / 2 ^ k) (b / 2 ^ k)) k (power_from n (suc k) a b)

-- the least power of two that divides both numbers to the same number, up to 13
abbrev pub power : ℕ → ℕ → ℕ
power a b = power_from 13 0 a b

-- the least size of which one block holds both corners
abbrev pub size_of : Extent → Powers
size_of s = record { rows = power s.first.row s.last.row; cols = power s.first.col s.last.col }

-- the block of a size that holds a place
abbrev pub block_at : Powers → Place → Block
block_at size p = record { size = size; row = p.row / 2 ^ size.rows; col = p.col / 2 ^ size.cols }

-- one block of that size holds both corners
abbrev pub are_one : Extent → Bool
are_one s = nat_eq (s.first.row / 2 ^ (size_of s).rows) (s.last.row / 2 ^ (size_of s).rows)
    && nat_eq (s.first.col / 2 ^ (size_of s).cols) (s.last.col / 2 ^ (size_of s).cols)
