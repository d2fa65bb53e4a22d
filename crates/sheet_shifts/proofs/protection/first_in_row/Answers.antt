use Rattle.std.proofs.Common.{◌≡◌, ◌+◌, ◌-◌, ◌∙◌, ℕ, Bool, true, false, cond, Some, ap, sym, arith}
use Rattle.grid_address.specs.Place.{Place}
use Rattle.sheet_shifts.specs.Refusals.{first_in_row, is_marked_at}
use Rattle.sheet_shifts.proofs.Rows.{right_by, right_place, row_ends, row_step}
use Rattle.sheet_shifts.proofs.protection.first_in_row.Goals as goal

pub returns-then-is_marked : goal.returns-then-is_marked
returns-then-is_marked c =
    let test : Place → Bool = is_marked_at c.args.store.now.cells in
    let at : ℕ = c.loop-at.at in
    let here : Place = right_by c.args.first at in
    let place =
    right_place c.first.inside.row c.first.inside.col c.from.result at c.args.first c.first.view_is c.from.ensures in
    let marked : test here ≡ true = sym (ap test place) ∙ sym c.is_marked.ensures ∙ c.if-is_marked.true in
    ap Some place ∙ sym (ap
    (λ b. cond b (Some here) (first_in_row test (c.args.width - (at + 1)) (right_by c.args.first (at + 1)))) marked)
    ∙ sym (row_step test c.args.width at c.args.first c.loop-at-test.true) ∙ c.loop-at.invariant

pub loop-at-preserved : goal.loop-at-preserved
loop-at-preserved c =
    let test : Place → Bool = is_marked_at c.args.store.now.cells in
    let at : ℕ = c.loop-at.at in
    let here : Place = right_by c.args.first at in
    let place =
    right_place c.first.inside.row c.first.inside.col c.from.result at c.args.first c.first.view_is c.from.ensures in
    let unmarked : test here ≡ false = sym (ap test place) ∙ sym c.is_marked.ensures ∙ c.if-is_marked.false in
    sym (ap (λ b. cond b (Some here) (first_in_row test (c.args.width - (at + 1)) (right_by c.args.first (at + 1))))
    unmarked)
    ∙ sym (row_step test c.args.width at c.args.first c.loop-at-test.true) ∙ c.loop-at.invariant

pub returns : goal.returns
returns c =
    sym (row_ends (is_marked_at c.args.store.now.cells) c.args.width c.loop-at.at c.args.first
    (omega (arith, c.loop-at-test.false))) ∙ c.loop-at.invariant
