-- The size of a block.
use Rattle.std.specs.Prelude.{ℕ}
use Rattle.std.specs.declared.cmp.Ordering.{Ordering}
use Rattle.std.specs.Ordering.{nat_cmp, ordering_then}

-- how many rows and columns, as powers of two
pub record Powers : Type 0 where
  pub rows : ℕ
  pub cols : ℕ

-- the order of sizes: by rows, and then by columns
abbrev pub powers_cmp : Powers → Powers → Ordering
powers_cmp a b = ordering_then (nat_cmp a.rows b.rows) (nat_cmp a.cols b.cols)
