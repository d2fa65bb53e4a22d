use Rattle.std.specs.Prelude.{suc, ◌+◌, cond, length}
use Rattle.std.proofs.Common.{ap, arith, ◌∙◌}
use Rattle.list_lemmas.proofs.Results.{on_err_always}
use Rattle.grid_address.specs.Place.{same_place}
use Rattle.cell_maps.proofs.Above.{above_same, above_set, back}
use Rattle.cell_maps.proofs.set.add.Goals as goal

pub returns-in_err-make_room-clause-err_numbers : goal.returns-in_err-make_room-clause-err_numbers
returns-in_err-make_room-clause-err_numbers c =
    let same = c.in_err-make_room.ensures.same in
    on_err_always c.from_residual.result
    (λ d _. above_same c.args.gone c.args.table.now c.make_room.new.self d (same d))

pub returns-in-Ok-clause-numbers : goal.returns-in-Ok-clause-numbers
returns-in-Ok-clause-numbers c =
    let long = c.len.ensures in
    let ok = c.args.cells.now.ok.0 in
    let n = c.args.gone + c.len.result + 1 in
    let same = c.in_ok-make_room.ensures.same in
    above_set c.args.gone n (suc (length c.args.cells.now.items)) c.args.table.now c.set.new.self c.args.cell
    (omega (arith, long, ok)) (λ d inside. c.set.ensures d inside ∙ ap (cond (same_place c.args.cell d) n) (same d))

pub returns-in-Err-clause-err_numbers : goal.returns-in-Err-clause-err_numbers
returns-in-Err-clause-err_numbers c =
    let n = c.args.gone + c.len.result + 1 in
    let same = c.in_ok-make_room.ensures.same in
    back c.args.gone n c.args.table.now c.set.new.self c.set-in-Err.new.self c.args.cell c.requires.fresh
    (λ d inside. c.set.ensures d inside ∙ ap (cond (same_place c.args.cell d) n) (same d)) c.set-in-Err.ensures
