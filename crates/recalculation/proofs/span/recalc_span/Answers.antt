use Rattle.std.specs.Prelude.{◌≡◌, Bool, length}
use Rattle.std.proofs.Common.{sym, ◌∙◌, ap}
use Rattle.grid_address.proofs.Places.{same_place_is}
use Rattle.grid_address.specs.Place.{same_place, Place}
use Rattle.natural_order.proofs.Cut.{filter_passes}
use Rattle.cell_maps.specs.Sets.{has}
use Rattle.sheet_store.specs.Grid.{Grid}
use Rattle.recalculation.proofs.Cut.{pass_is_cut}
use Rattle.recalculation.proofs.Outside.{filtered_out, ordered_out}
use Rattle.recalculation.specs.Context.{seen_context, Context}
use Rattle.recalculation.specs.Passes.{pass, raised_by, Meaning}
use Rattle.recalculation.specs.inner.Meanings.{IsMeaning}
use Rattle.recalculation.specs.Spans.{span_order}
use Rattle.recalculation.proofs.span.recalc_span.Goals as goal

pub pass_over-requires : goal.pass_over-requires
pass_over-requires g c =
    let dirty : Place → Bool = has same_place c.args.dirty.now.keys in
    λ x m. c.requires.only x
    (filter_passes same_place same_place_is dirty (span_order c.args.is_by_column c.args.span c.args.store.now) x
    (sym (ap (λ ks. has same_place ks x) (c.as_slice.ensures.value ∙ c.in_ok-cells.ensures.list)) ∙ m))

pub returns-clause-values : goal.returns-clause-values
returns-clause-values g c =
    let mean : Meaning = g.E.Means.meaning in
    let ctx : Context = seen_context c.args.context.now in
    let meaning : IsMeaning mean = record { reads = g.met.E.Means.reads_alone } in
    let s : Grid = c.args.store.now in
    c.in_ok-pass_over.ensures.values ∙ ap (λ cs. pass mean ctx cs s)
    (c.as_slice.ensures.value ∙ c.in_ok-cells.ensures.list)
    ∙ sym (pass_is_cut mean ctx meaning s (has same_place c.args.dirty.now.keys) c.requires
    (span_order c.args.is_by_column c.args.span s))

pub returns-in_err-pass_over-clause-outside : goal.returns-in_err-pass_over-clause-outside
returns-in_err-pass_over-clause-outside g c = λ q f. c.pass_over.ensures.outside q
    (ap (λ ks. has same_place ks q) (c.as_slice.ensures.value ∙ c.in_ok-cells.ensures.list)
    ∙ filtered_out (has same_place c.args.dirty.now.keys) (span_order c.args.is_by_column c.args.span c.args.store.now)
    q (ordered_out c.args.is_by_column c.args.span c.args.store.now q f))

pub returns-clause-outside : goal.returns-clause-outside
returns-clause-outside g c = λ q f. c.pass_over.ensures.outside q
    (ap (λ ks. has same_place ks q) (c.as_slice.ensures.value ∙ c.in_ok-cells.ensures.list)
    ∙ filtered_out (has same_place c.args.dirty.now.keys) (span_order c.args.is_by_column c.args.span c.args.store.now)
    q (ordered_out c.args.is_by_column c.args.span c.args.store.now q f))
