use Rattle.std.specs.Prelude.{IfOk, List, OnErr, refl, ℕ}
use Rattle.std.proofs.Common.{inl, subst}
use Rattle.list_lemmas.proofs.Results.{on_err_always}
use Rattle.commands_file.specs.Calls.{shelf_view}
use Rattle.commands_file.specs.inner.Placing.{IsPlaced, IsUnplaced}
use Rattle.commands_file.specs.declared.calling.Placed.{Placed}
use Rattle.commands_file.proofs.calling.put_sheet.Goals as goal

pub returns-in_err-bytes-clause-memory : goal.returns-in_err-bytes-clause-memory
returns-in_err-bytes-clause-memory g c = on_err_always c.from_residual.result (inl refl)

pub returns-clause-placed : goal.returns-clause-placed
returns-clause-placed g c =
    subst (λ (b : List ℕ). IfOk c.place.result (λ (placed : Placed). IsPlaced c.args.name.now b placed
    (shelf_view (g.S.Shelf.holds c.args.shelf.now) (g.S.Shelf.faults c.args.shelf.now))
    (shelf_view (g.S.Shelf.holds c.place.new.shelf) (g.S.Shelf.faults c.place.new.shelf))))
    c.in_ok-bytes.ensures c.place.ensures.placed

pub returns-clause-memory : goal.returns-clause-memory
returns-clause-memory g c =
    subst (λ (b : List ℕ). OnErr c.place.result (IsUnplaced c.args.name.now b
    (shelf_view (g.S.Shelf.holds c.args.shelf.now) (g.S.Shelf.faults c.args.shelf.now))
    (shelf_view (g.S.Shelf.holds c.place.new.shelf) (g.S.Shelf.faults c.place.new.shelf))))
    c.in_ok-bytes.ensures c.place.ensures.memory
