use Rattle.std.specs.Prelude.{IfOk, OnErr, refl}
use Rattle.std.proofs.Common.{inl, subst}
use Rattle.list_lemmas.proofs.Results.{on_err_always}
use Rattle.commands_file.specs.Calls.{shelf_view}
use Rattle.commands_file.specs.inner.Placing.{IsPlaced, IsUnplaced}
use Rattle.commands_file.specs.declared.calling.Placed.{Placed}
use Rattle.sheet_store.specs.declared.writes.SavedSheet.{SavedSheet}
use Rattle.wk1_file.specs.Saved.{file_bytes}
use Rattle.commands_file.proofs.acting.extract_span.Goals as goal

pub returns-in_err-saved-clause-memory : goal.returns-in_err-saved-clause-memory
returns-in_err-saved-clause-memory g c = on_err_always c.from_residual.result (inl refl)

pub returns-clause-placed : goal.returns-clause-placed
returns-clause-placed g c =
    subst (λ (x : SavedSheet). IfOk c.put_sheet.result
    (λ (placed : Placed). IsPlaced c.args.name.now (file_bytes x) placed
    (shelf_view (g.S.Shelf.holds c.args.shelf.now) (g.S.Shelf.faults c.args.shelf.now))
    (shelf_view (g.S.Shelf.holds c.put_sheet.new.shelf) (g.S.Shelf.faults c.put_sheet.new.shelf))))
    c.in_ok-saved.ensures c.put_sheet.ensures.placed

pub returns-clause-memory : goal.returns-clause-memory
returns-clause-memory g c =
    subst (λ (x : SavedSheet). OnErr c.put_sheet.result (IsUnplaced c.args.name.now (file_bytes x)
    (shelf_view (g.S.Shelf.holds c.args.shelf.now) (g.S.Shelf.faults c.args.shelf.now))
    (shelf_view (g.S.Shelf.holds c.put_sheet.new.shelf) (g.S.Shelf.faults c.put_sheet.new.shelf))))
    c.in_ok-saved.ensures c.put_sheet.ensures.memory
