use Rattle.std.specs.Prelude.{List}
use Rattle.std.specs.List.Sorted.{IsPermutation}
use Rattle.std.proofs.Common.{◌∙◌, subst}
use Rattle.grid_address.specs.Place.{Place}
use Rattle.sheet_store.specs.inner.Scan.{wanted}
use Rattle.sheet_store.proofs.RowOrder.{sorted_picked}
use Rattle.sheet_store.proofs.scan.scan_held.Goals as goal

pub returns : goal.returns
returns c =
    let sorted = c.sort_unstable.new.self.items in
    c.in_ok-list.ensures ∙ c.as_slice.ensures.value
    ∙ sorted_picked (wanted c.args.only_formulas) c.args.span c.held.result.now c.args.cells.now sorted
    c.held.ensures.items c.held.ensures.once
    (subst (λ (l : List Place). IsPermutation l sorted) c.in_ok-found.ensures c.sort_unstable.ensures.permutation)
    c.sort_unstable.ensures.sorted
