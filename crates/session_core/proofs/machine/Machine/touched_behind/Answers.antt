use Rattle.std.proofs.Common.{◌≡◌, true, false, rules, ap, subst, ◌∙◌, ℕ, Bool, List}
use Rattle.cell_maps.specs.Sets.{has}
use Rattle.grid_address.specs.Place.{same_place, Place}
use Rattle.work_sheet.specs.Seen.{of_worksheet}
use Rattle.work_sheet.specs.Sheets.{Worksheet}
use Rattle.session_core.specs.Machine.{sheet_of}
use Rattle.session_core.specs.inner.Leading.{Worked}
use Rattle.session_core.specs.inner.Touches.{is_row_in, IsSettled}
use Rattle.session_core.specs.declared.machine.Machine.TheInside.{Inside}
use Rattle.session_core.proofs.Settled.{recalculated_alike}
use Rattle.session_core.proofs.ShownRows.{cells_out, row_in}
use Rattle.session_core.proofs.machine.Machine.touched_behind.Goals as goal

-- the row's line was put into the set
pub returns-clause-row : goal.returns-clause-row
returns-clause-row c =
    let lines : List Bool = c.insert_cells.new.lines in
    let corner = ap (λ (i : Inside). i.corner.row) c.self-inside.view_is
    ∙ ap (λ (v : Worked). v.state.corner.row) c.self.view_is in
    subst (λ (first : ℕ). is_row_in lines first c.args.row ≡ true) corner
    (row_in lines _ c.args.row
    (λ n least most out. c.insert_row.ensures.told n least most (c.insert_cells.ensures.stay n out)))

-- and those of the dirty formulas
pub returns-clause-settles : goal.returns-clause-settles
returns-clause-settles c =
    let w : Worksheet = c.self-inside.inside.0.0.sheet in
    let lines : List Bool = c.insert_cells.new.lines in
    let first : ℕ = c.self-inside.inside.0.1.1.0.row in
    let rows : ℕ → Bool = is_row_in lines first in
    let out : (d : Place) → rows d.row ≡ false → has same_place w.dirty d ≡ false =
    subst (λ (ds : List Place). (d : Place) → rows d.row ≡ false → has same_place ds d ≡ false) c.dirty_cells.ensures
    (cells_out lines first c.dirty_cells.result.now c.insert_cells.ensures.told) in
    subst (λ (v : Worked). IsSettled (is_row_in lines v.state.corner.row) (sheet_of v.state)) c.self.view_is
    (subst (λ (i : Inside). IsSettled (is_row_in lines i.corner.row) (of_worksheet i.desk.sheet))
    c.self-inside.view_is (record {
      automatic = search rules;
      alike = recalculated_alike (of_worksheet w) w.dirty rows c.recalculation_is_cut.ensures c.is_kept.ensures.sound
          c.is_kept.ensures.all out;
    }))
