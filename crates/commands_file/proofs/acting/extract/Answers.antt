use Rattle.std.specs.Prelude.{Result}
use Rattle.std.proofs.Common.{ap, subst, ◌∙◌}
use Rattle.list_lemmas.proofs.Results.{on_err_always}
use Rattle.command_desk.specs.Answered.{span_at}
use Rattle.command_desk.specs.Desks.{of_desk}
use Rattle.commands_file.proofs.Broken.{unplaced_in}
use Rattle.commands_file.specs.Calls.{shelf_view}
use Rattle.commands_file.specs.Commands.{extracted_to, written_out, HasBrokenIn}
use Rattle.desk_errors.specs.declared.error.CommandError.{CommandError}
use Rattle.grid_address.specs.Place.{Extent}
use Rattle.commands_file.proofs.acting.extract.Goals as goal

-- memory ran out where the file was placed
pub returns-in_err-placed-in-Ok-clause-memory : goal.returns-in_err-placed-in-Ok-clause-memory
returns-in_err-placed-in-Ok-clause-memory g c =
    let d = of_desk c.args.desk.now in
    on_err_always _
    (subst (λ (o : Result Extent CommandError). HasBrokenIn (extracted_to c.args.kind c.args.name.now o d)
    (shelf_view (g.S.Shelf.holds c.args.shelf.now) (g.S.Shelf.faults c.args.shelf.now))
    (shelf_view (g.S.Shelf.holds c.extract_span.new.shelf) (g.S.Shelf.faults c.extract_span.new.shelf)))
    (c.in-Ok.ensures ∙ ap (λ names. span_at names c.args.answers.now 1) c.names.ensures)
    (unplaced_in c.args.name.now _ (written_out d) d _ _ c.in_err-placed-in-Ok.ensures.memory))
