use Rattle.std.specs.Prelude.{◌≡◌, true}
use Rattle.std.proofs.Common.{subst}
use Rattle.grid_address.specs.Place.{Extent}
use Rattle.range_index.specs.inner.Blocks.{are_one}
use Rattle.range_index.proofs.Sizes.{one_block}
use Rattle.range_index.proofs.block.size_of.Goals as goal

pub returns-clause-one : goal.returns-clause-one
returns-clause-one c =
    let s : Extent = record { first = c.span.inside.first; last = c.span.inside.last } in
    subst (λ (x : Extent). are_one x ≡ true) c.span.view_is (one_block s c.is_on_sheet.ensures c.is_on_sheet-2.ensures)
