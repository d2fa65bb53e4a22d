use Rattle.std.specs.FinMap.{get}
use Rattle.std.specs.Prelude.{◌≡◌, ◌++◌, ◌∷◌, [], false, refl, List, Option}
use Rattle.std.proofs.Common.{ap, sym, ◌∙◌}
use Rattle.std.proofs.lemmas.Result.{on_ok_weaker}
use Rattle.cell_maps.specs.Sets.{has}
use Rattle.edit_log.proofs.Changed.{either, noted_last, noted_more, same_put}
use Rattle.edit_log.specs.Changes.{all_changed, is_noted}
use Rattle.grid_address.specs.Place.{same_place, Place}
use Rattle.sheet_store.specs.State.{CellState}
use Rattle.edit_log.proofs.log.EditLog.note.Goals as goal

pub returns-clause-before : goal.returns-clause-before
returns-clause-before c =
    let m = c.args.store.now.cells in
    let now : List (Place × Option CellState) = c.self.inside.changes.items in
    let absent : is_noted now c.args.cell ≡ false =
    ap (λ l. is_noted l c.args.cell) (sym c.as_slice.ensures.value)
    ∙ ap (λ ks. has same_place ks c.args.cell) (sym c.in_ok-list_all.ensures.all)
    ∙ sym c.contains.ensures ∙ c.if-contains.false in
    either c.add.result c.add.ensures.ok c.add.ensures.err
    (λ e. ap (all_changed m) e
    ∙ ap (λ (x : Place × Option CellState). all_changed m (now ++ x ∷ [])) c.in_ok-change.ensures
    ∙ same_put m now c.args.cell (get m c.args.cell) absent refl ∙ ap (all_changed m) c.self.view_is)
    (λ e. ap (all_changed m) e ∙ ap (all_changed m) c.self.view_is)

pub returns-clause-more : goal.returns-clause-more
returns-clause-more c = λ q h.
    let old = ap (λ l. is_noted l q) c.self.view_is ∙ h in
    either c.add.result c.add.ensures.ok c.add.ensures.err
    (λ e. ap (λ l. is_noted l q) e ∙ noted_more c.self.inside.changes.items c.in_ok-change.change q old)
    (λ e. ap (λ l. is_noted l q) e ∙ old)

pub returns-clause-noted : goal.returns-clause-noted
returns-clause-noted c = on_ok_weaker c.add.result
    (λ e. ap (λ l. is_noted l c.args.cell) e
    ∙ ap (λ (k : Place). is_noted (c.self.inside.changes.items ++ c.in_ok-change.change ∷ []) k)
    (sym (ap (λ (x : Place × Option CellState). x.0) c.in_ok-change.ensures))
    ∙ noted_last c.self.inside.changes.items c.in_ok-change.change) c.add.ensures.ok
