use Rattle.std.proofs.Common.{◌≡◌, ◌-◌, ℕ, length, get_or}
use Rattle.cell_maps.specs.inner.Numbering.{used, AreWholeBands}
use Rattle.cell_maps.proofs.table.add_heads.Given as goal

abbrev pub invariant-loop-heads : goal.invariant-loop-heads
invariant-loop-heads l = record {
  whole : AreWholeBands l.heads.items;
  same : (j : ℕ) → get_or l.heads.items j 0 ≡ get_or l.fn.heads.items j 0;
  used : used l.heads.items ≡ used l.fn.heads.items;
}

abbrev pub decreases-loop-heads : goal.decreases-loop-heads
decreases-loop-heads l = 8192 - length l.heads.items
