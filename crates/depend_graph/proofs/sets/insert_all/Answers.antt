use Rattle.std.specs.Prelude.{◌||◌, ◌++◌}
use Rattle.std.proofs.Common.{ap, sym, ◌∙◌}
use Rattle.cell_maps.specs.Sets.{has}
use Rattle.grid_address.specs.Place.{same_place}
use Rattle.depend_graph.proofs.sets.insert_all.Goals as goal

pub returns-then-put_back-clause-members : goal.returns-then-put_back-clause-members
returns-then-put_back-clause-members c = λ d.
    ap (λ l. has same_place l d) (c.put_back.ensures.yes c.if-put_back.true)
    ∙ ap (λ l. has same_place l d || has same_place c.args.cells.now d)
    (sym (c.put_back.ensures.was c.if-put_back.true))

pub returns-then-put_back-clause-extends : goal.returns-then-put_back-clause-extends
returns-then-put_back-clause-extends c = record {
  more = c.args.cells.now;
  is = c.put_back.ensures.yes c.if-put_back.true
      ∙ ap (λ l. l ++ c.args.cells.now) (sym (c.put_back.ensures.was c.if-put_back.true));
}
