use Rattle.std.specs.Prelude.{Option, OnOk, List, ◌≡◌, true}
use Rattle.std.specs.FinMap.{insert}
use Rattle.std.proofs.Common.{ap, subst, sym, ◌∙◌}
use Rattle.std.proofs.lemmas.Bool.{false≢true, or_left}
use Rattle.cell_maps.specs.Sets.{has}
use Rattle.grid_address.proofs.Places.{get_inserted, same_place_itself}
use Rattle.grid_address.specs.Place.{same_place, Place}
use Rattle.depend_graph.proofs.Listing.{kept_inserted, list_inserted}
use Rattle.depend_graph.specs.inner.Lists.{items_in, list_at, AreKept, Lists}
use Rattle.depend_graph.specs.declared.lists.Readers.{Readers}
use Rattle.depend_graph.proofs.lists.add.Goals as goal

pub returns-in-Some-clause-kept : goal.returns-in-Some-clause-kept
returns-in-Some-clause-kept c =
    let m : Lists = c.args.lists.now in
    kept_inserted m (insert m c.args.cell c.put_reader.new.readers) c.args.cell c.put_reader.new.readers
    (λ d. get_inserted m c.args.cell c.put_reader.new.readers d)
    (λ d h. c.put_reader.ensures.kept d
    (ap (λ (o : Option Readers). has same_place (items_in o) d) c.in-Some.ensures.value ∙ h))

pub returns-in-Some-clause-here : goal.returns-in-Some-clause-here
returns-in-Some-clause-here c =
    subst (λ (l : List Place). OnOk c.put_reader.result (has same_place l c.args.formula ≡ true))
    (sym (list_inserted c.args.lists.now c.args.cell c.put_reader.new.readers)) c.put_reader.ensures.here

pub returns-in_ok-insert-in-None-clause-kept : goal.returns-in_ok-insert-in-None-clause-kept
returns-in_ok-insert-in-None-clause-kept c =
    let m : Lists = c.args.lists.now in
    let v : Readers = record { first = c.args.formula; more = c.new.result } in
    subst (AreKept m) (sym c.in_ok-insert-in-None.ensures.ok)
    (kept_inserted m (insert m c.args.cell v) c.args.cell v (λ d. get_inserted m c.args.cell v d)
    (λ d h.
    absurd (false≢true (ap (λ (o : Option Readers). has same_place (items_in o) d) c.in-None.ensures.value ∙ h))))

pub returns-in_ok-insert-in-None-clause-here : goal.returns-in_ok-insert-in-None-clause-here
returns-in_ok-insert-in-None-clause-here c =
    ap (λ (m : Lists). has same_place (list_at m c.args.cell) c.args.formula) c.in_ok-insert-in-None.ensures.ok
    ∙ ap (λ l. has same_place l c.args.formula) (list_inserted c.args.lists.now c.args.cell
    (record { first = c.args.formula; more = c.new.result }))
    ∙ or_left _ _ (same_place_itself c.args.formula)
