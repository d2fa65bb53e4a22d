use Rattle.std.specs.Prelude.{List}
use Rattle.std.specs.List.{IsDistinct}
use Rattle.std.proofs.Common.{sym, ◌∙◌, ap, subst}
use Rattle.std.proofs.lemmas.List.Sorted.{list_any-IsPermutation}
use Rattle.grid_address.specs.Place.{same_place, Place}
use Rattle.cell_maps.specs.Sets.{has}
use Rattle.sheet_store.proofs.RowOrder.{sorted_ascends}
use Rattle.recalculation.proofs.recalculation.in_row_order.Goals as goal

pub returns-clause-ascends : goal.returns-clause-ascends
returns-clause-ascends c = sorted_ascends c.in_ok-list.list.items c.sort_unstable.new.self.items
    (subst (λ (ks : List Place). IsDistinct same_place ks) (sym (c.in_ok-list.ensures ∙ c.as_slice.ensures.keys))
    c.len-len.ensures.unique) c.sort_unstable.ensures.permutation c.sort_unstable.ensures.sorted

pub returns-clause-members : goal.returns-clause-members
returns-clause-members c = λ x. sym (list_any-IsPermutation (same_place x) c.in_ok-list.list.items
    c.sort_unstable.new.self.items c.sort_unstable.ensures.permutation)
    ∙ ap (λ ks. has same_place ks x) (c.in_ok-list.ensures ∙ c.as_slice.ensures.keys)
