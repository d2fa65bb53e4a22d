use Rattle.std.proofs.Common.{ap, ◌∙◌}
use Rattle.cell_maps.specs.Filled.{filled}
use Rattle.sheet_store.specs.inner.Copies.{inserted_all}
use Rattle.sheet_store.proofs.Copies.{all_inserted}
use Rattle.sheet_store.proofs.store.copy_cells.Goals as goal

pub loop-held-init : goal.loop-held-init
loop-held-init c =
    let hs = c.held-held-items.result.now in
    ap (λ m. inserted_all m (filled hs)) c.new-copy.ensures ∙ all_inserted hs c.held-held-items.ensures.once
    ∙ c.held-held-items.ensures.items
