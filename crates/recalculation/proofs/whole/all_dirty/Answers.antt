use Rattle.std.specs.Prelude.{◌≡◌, ◌||◌, List}
use Rattle.std.proofs.Common.{ap, ◌∙◌}
use Rattle.grid_address.specs.Place.{same_place, Place}
use Rattle.cell_maps.specs.Sets.{has}
use Rattle.recalculation.specs.inner.Laws.{has_formula}
use Rattle.recalculation.specs.Reading.{is_formula_at}
use Rattle.recalculation.proofs.Fresh.{sound_whole}
use Rattle.recalculation.proofs.whole.all_dirty.Goals as goal

pub returns-clause-members : goal.returns-clause-members
returns-clause-members c = λ x. c.in_ok-insert_all.ensures.members x
    ∙ ap (λ (ks : List Place). has same_place ks x || has same_place c.as_slice.result.now x) c.new-set.ensures
    ∙ ap (λ l. has same_place l x) (c.as_slice.ensures ∙ c.in_ok-cells.ensures) ∙ has_formula c.args.store.now x

pub returns-clause-sound : goal.returns-clause-sound
returns-clause-sound c =
    let members : (x : Place) → has same_place c.insert_all.new.set.keys x ≡ is_formula_at c.args.store.now x =
    λ x. c.in_ok-insert_all.ensures.members x
    ∙ ap (λ (ks : List Place). has same_place ks x || has same_place c.as_slice.result.now x) c.new-set.ensures
    ∙ ap (λ l. has same_place l x) (c.as_slice.ensures ∙ c.in_ok-cells.ensures) ∙ has_formula c.args.store.now x in
    sound_whole c.args.store.now (has same_place c.insert_all.new.set.keys) members
