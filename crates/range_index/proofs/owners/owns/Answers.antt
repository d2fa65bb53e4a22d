use Rattle.std.specs.Prelude.{List, Option}
use Rattle.std.proofs.Common.{ap, ◌∙◌, sym}
use Rattle.grid_address.proofs.Maps.{get_entries}
use Rattle.grid_address.proofs.Places.{cells_total}
use Rattle.grid_address.specs.Place.{Extent}
use Rattle.range_index.specs.Owners.{hold, spans_in}
use Rattle.range_index.proofs.owners.owns.Goals as goal

pub returns-in-Some : goal.returns-in-Some
returns-in-Some c = c.hold.ensures ∙ ap (λ (l : List Extent). hold l c.args.cell) c.as_slice.ensures
    ∙ ap (λ (o : Option (List Extent)). hold (spans_in o) c.args.cell)
    (c.in-Some.ensures.value ∙ sym (get_entries cells_total c.args.owners.now.entries c.args.owner))

pub returns-in-None : goal.returns-in-None
returns-in-None c = ap (λ (o : Option (List Extent)). hold (spans_in o) c.args.cell)
    (c.in-None.ensures.value ∙ sym (get_entries cells_total c.args.owners.now.entries c.args.owner))
