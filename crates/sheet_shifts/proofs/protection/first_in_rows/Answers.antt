use Rattle.std.specs.Option.{option_or}
use Rattle.std.proofs.Common.{◌≡◌, ◌+◌, ◌-◌, ◌∙◌, ℕ, Bool, None, Some, ap, sym, arith}
use Rattle.grid_address.specs.Place.{Place}
use Rattle.sheet_shifts.specs.Refusals.{first_in_row, first_in_rows, is_marked_at}
use Rattle.sheet_shifts.proofs.Rows.{down_by, down_place, rows_end, rows_step}
use Rattle.sheet_shifts.proofs.protection.first_in_rows.Goals as goal

pub returns-in-Some : goal.returns-in-Some
returns-in-Some c =
    let test : Place → Bool = is_marked_at c.args.store.now.cells in
    let at : ℕ = c.loop-at.at in
    let here : Place = down_by c.args.first at in
    let place = down_place c.first.inside.row c.first.inside.col at c.args.first c.first.view_is in
    let found : first_in_row test c.args.width here ≡ Some c.in-Some.cell =
    sym (ap (first_in_row test c.args.width) place) ∙ sym c.first_in_row.ensures ∙ c.in-Some.is in
    sym (ap (λ o. option_or o
    (first_in_rows test (c.args.height - (at + 1)) c.args.width (down_by c.args.first (at + 1)))) found)
    ∙ sym (rows_step test c.args.height c.args.width at c.args.first c.loop-at-test.true) ∙ c.loop-at.invariant

pub loop-at-preserved : goal.loop-at-preserved
loop-at-preserved c =
    let test : Place → Bool = is_marked_at c.args.store.now.cells in
    let at : ℕ = c.loop-at.at in
    let here : Place = down_by c.args.first at in
    let place = down_place c.first.inside.row c.first.inside.col at c.args.first c.first.view_is in
    let none : first_in_row test c.args.width here ≡ None =
    sym (ap (first_in_row test c.args.width) place) ∙ sym c.first_in_row.ensures ∙ c.in_default.is in
    sym (ap (λ o. option_or o
    (first_in_rows test (c.args.height - (at + 1)) c.args.width (down_by c.args.first (at + 1)))) none)
    ∙ sym (rows_step test c.args.height c.args.width at c.args.first c.loop-at-test.true) ∙ c.loop-at.invariant

pub returns : goal.returns
returns c =
    sym (rows_end (is_marked_at c.args.store.now.cells) c.args.height c.args.width c.loop-at.at c.args.first
    (omega (arith, c.loop-at-test.false))) ∙ c.loop-at.invariant
