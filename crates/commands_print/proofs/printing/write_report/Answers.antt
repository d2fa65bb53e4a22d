use Rattle.std.specs.Prelude.{List, Option, ℕ}
use Rattle.std.proofs.Common.{subst, sym}
use Rattle.list_lemmas.proofs.Results.{on_err_always}
use Rattle.command_desk.specs.Desks.{of_desk}
use Rattle.commands_file.proofs.Broken.{unfinished_in}
use Rattle.commands_file.specs.Calls.{puts, shelf_view}
use Rattle.commands_file.specs.Commands.{written_out, HasBrokenIn}
use Rattle.commands_print.specs.Commands.{written_to}
use Rattle.commands_print.proofs.printing.write_report.Goals as goal

-- memory ran out in the put
pub returns-in_err-written-in-Some-clause-memory : goal.returns-in_err-written-in-Some-clause-memory
returns-in_err-written-in-Some-clause-memory g c =
    let v = c.args.desk.now in
    on_err_always _ (subst (λ (o : Option (List ℕ)). HasBrokenIn (written_to o c.args.bytes.now (of_desk v))
    (shelf_view (g.S.Shelf.holds c.args.shelf.now) (g.S.Shelf.faults c.args.shelf.now))
    (shelf_view (g.S.Shelf.holds c.put_bytes.new.shelf) (g.S.Shelf.faults c.put_bytes.new.shelf)))
    (sym c.in-Some.is)
    (unfinished_in (puts c.in-Some.name c.args.bytes.now) (written_out (of_desk v)) _ _
    c.in_err-written-in-Some.ensures.memory))
