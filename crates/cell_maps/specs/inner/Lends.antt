-- What a held cell ends as, where a `&mut` to its item is returned.
use Rattle.std.specs.Prelude.{Option}
use Rattle.std.specs.Borrow.{LendsIf, Fml, RattleType, MutBor}
use Rattle.cell_maps.specs.Filled.{cell_in}
use Rattle.cell_maps.specs.declared.held.Held.{Held}
use Rattle.cell_maps.specs.declared.held.Held.TheVariants as held
use Rattle.cell_maps.specs.contracts.held.Held.{the_row}

-- once the borrow of the item ends, the cell has the last item written through it; at `None` it is as it was
abbrev pub lends_item : (T : RattleType) → MutBor (Held T.Denot) → Option (MutBor T.Denot) → Fml
lends_item T s r = LendsIf (the_row T) T s r (λ w. held.Filled (cell_in s.now) w) s.now
