use Rattle.std.specs.Prelude.{List, refl, Some, ℕ}
use Rattle.std.proofs.Common.{subst}
use Rattle.list_lemmas.proofs.Results.{on_err_always}
use Rattle.commands_file.specs.Calls.{failed, shelf_view}
use Rattle.command_desk.specs.Desks.{of_desk}
use Rattle.commands_file.specs.Commands.{saved_as, sheet_bytes}
use Rattle.commands_file.specs.inner.Placing.{IsPlaced, IsUnplaced}
use Rattle.commands_file.specs.declared.calling.Placed.{Placed}
use Rattle.commands_file.proofs.Broken.{none_over, unplaced_in}
use Rattle.commands_file.proofs.Ended.{large_over, saved_so, unsaved_so}
use Rattle.work_sheet.specs.Seen.{of_worksheet}
use Rattle.commands_file.proofs.acting.save.Goals as goal

pub returns-in_err-bytes-clause-memory : goal.returns-in_err-bytes-clause-memory
returns-in_err-bytes-clause-memory g c = on_err_always c.from_residual.result (none_over _ failed _)

pub returns-in-Written-clause-acted : goal.returns-in-Written-clause-acted
returns-in-Written-clause-acted g c = λ n.
    let v = c.args.desk.now in
    let name = c.args.name in
    let before = shelf_view (g.S.Shelf.holds c.args.shelf.now) (g.S.Shelf.faults c.args.shelf.now) in
    let now = shelf_view (g.S.Shelf.holds c.place.new.shelf) (g.S.Shelf.faults c.place.new.shelf) in
    let bytes = sheet_bytes (of_worksheet v.sheet) in
    let placed = subst (λ (p : Placed). IsPlaced name bytes p before now) c.in-Written.is
    (subst (λ (b : List ℕ). IsPlaced name b c.in_ok-placed.placed before now) c.in_ok-bytes.ensures
    c.in_ok-placed.ensures.placed) in
    saved_so name bytes v n before now (record v { file_name = Some name })
    (record { end = refl; desk = refl; work = refl; history = refl }) placed

pub returns-in-Failed-clause-acted : goal.returns-in-Failed-clause-acted
returns-in-Failed-clause-acted g c = λ n.
    let v = c.args.desk.now in
    let name = c.args.name in
    let before = shelf_view (g.S.Shelf.holds c.args.shelf.now) (g.S.Shelf.faults c.args.shelf.now) in
    let now = shelf_view (g.S.Shelf.holds c.place.new.shelf) (g.S.Shelf.faults c.place.new.shelf) in
    let bytes = sheet_bytes (of_worksheet v.sheet) in
    let placed = subst (λ (p : Placed). IsPlaced name bytes p before now) c.in-Failed.is
    (subst (λ (b : List ℕ). IsPlaced name b c.in_ok-placed.placed before now) c.in_ok-bytes.ensures
    c.in_ok-placed.ensures.placed) in
    unsaved_so name bytes v n before now placed

pub returns-clause-acted : goal.returns-clause-acted
returns-clause-acted g c = λ n.
    let v = c.args.desk.now in
    let name = c.args.name in
    let before = shelf_view (g.S.Shelf.holds c.args.shelf.now) (g.S.Shelf.faults c.args.shelf.now) in
    let now = shelf_view (g.S.Shelf.holds c.place.new.shelf) (g.S.Shelf.faults c.place.new.shelf) in
    let bytes = sheet_bytes (of_worksheet v.sheet) in
    let placed = subst (λ (p : Placed). IsPlaced name bytes p before now) c.in-TooLarge.is
    (subst (λ (b : List ℕ). IsPlaced name b c.in_ok-placed.placed before now) c.in_ok-bytes.ensures
    c.in_ok-placed.ensures.placed) in
    large_over name bytes v n before now (saved_as name (of_desk v)) placed

-- memory ran out where the file was placed
pub returns-in_err-placed-clause-memory : goal.returns-in_err-placed-clause-memory
returns-in_err-placed-clause-memory g c =
    let v = c.args.desk.now in
    on_err_always _ (unplaced_in c.args.name _ (saved_as c.args.name (of_desk v)) (of_desk v) _ _
    (subst (λ (b : List ℕ). IsUnplaced c.args.name b
    (shelf_view (g.S.Shelf.holds c.args.shelf.now) (g.S.Shelf.faults c.args.shelf.now))
    (shelf_view (g.S.Shelf.holds c.place.new.shelf) (g.S.Shelf.faults c.place.new.shelf))) c.in_ok-bytes.ensures
    c.in_err-placed.ensures.memory))
