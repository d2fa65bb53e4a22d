use Rattle.std.specs.Prelude.{◌≡◌, ◌<◌, ◌++◌, true, IfSome, List, Option}
use Rattle.std.specs.FinMap.{entries, entries_sorted, get-entries}
use Rattle.std.proofs.Common.{ap, subst, sym, ◌∙◌}
use Rattle.grid_address.specs.Place.{is_within, Extent, Place}
use Rattle.grid_address.proofs.Maps.{in_order}
use Rattle.grid_address.proofs.Places.{cells_total}
use Rattle.sheet_store.proofs.Scans.{first_within, scan_begins, scan_goes_on, scan_shrinks, within_from}
use Rattle.sheet_store.specs.Grid.{picked}
use Rattle.sheet_store.specs.inner.Scan.{entries_from, left_from, passed_at, places_left, wanted}
use Rattle.sheet_store.proofs.scan.scan_places.Goals as goal

pub next_place-from-requires : goal.next_place-from-requires
next_place-from-requires c =
    subst (λ (o : Option Place). IfSome o (λ p. is_within c.args.span p ≡ true)) c.in-Some.is
    c.loop-from.invariant.within

pub loop-from-init : goal.loop-from-init
loop-from-init c =
    let test = wanted c.args.only_formulas in
    record {
      within =
          subst (λ (s : Extent). is_within s c.span.inside.first ≡ true) c.span.view_is (first_within (record {
            first = c.span.inside.first;
            last = c.span.inside.last;
          }) c.span.invariant.0 c.span.invariant.1);
      whole =
          ap (λ (l : List Place). l
          ++ picked test c.args.span (entries_from c.span.inside.first (entries c.args.cells.now))) c.new-list.ensures
          ∙ ap (λ (s : Extent). picked test c.args.span (entries_from s.first (entries c.args.cells.now)))
          c.span.view_is
          ∙ scan_begins test c.args.span (entries c.args.cells.now) (within_from c.args.span);
    }

pub loop-from-smaller : goal.loop-from-smaller
loop-from-smaller c =
    subst (λ (o : Option Place). places_left c.next_place-from.result < places_left o) (sym c.in-Some.is)
    (scan_shrinks c.in-Some.place c.next_place-from.result c.is_on_sheet.ensures c.next_place-from.ensures.behind)

pub loop-from-preserved : goal.loop-from-preserved
loop-from-preserved c =
    let test = wanted c.args.only_formulas in
    let es = entries c.args.cells.now in
    let before : c.loop-from.list ++ picked test c.args.span (entries_from c.in-Some.place es)
    ≡ picked test c.args.span es =
    subst (λ (o : Option Place). c.loop-from.list ++ picked test c.args.span (left_from o es)
    ≡ picked test c.args.span es) c.in-Some.is c.loop-from.invariant.whole in
    let here : is_within c.args.span c.in-Some.place ≡ true =
    subst (λ (o : Option Place). IfSome o (λ p. is_within c.args.span p ≡ true)) c.in-Some.is
    c.loop-from.invariant.within in
    record {
      within = c.next_place-from.ensures.within;
      whole =
          scan_goes_on test c.args.span es c.loop-from.list c.pick_at.new.list c.in-Some.place c.next_place-from.result
          here (in_order cells_total es (entries_sorted c.args.cells.now)) c.next_place-from.ensures.some
          c.next_place-from.ensures.none (c.in_ok-pick_at.ensures
          ∙ ap (λ o. c.loop-from.list ++ passed_at test c.in-Some.place o)
          (get-entries c.args.cells.now c.in-Some.place)) before;
    }
