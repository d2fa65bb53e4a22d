use Rattle.std.specs.Prelude.{◌≡◌, length}
use Rattle.std.proofs.Common.{sym, ◌∙◌, ap}
use Rattle.std.proofs.lemmas.Map.Made.{length-from_same_keys}
use Rattle.grid_address.specs.Place.{same_place}
use Rattle.grid_address.proofs.Places.{same_place_laws}
use Rattle.cell_maps.specs.Sets.{has}
use Rattle.sheet_store.specs.Grid.{Grid}
use Rattle.recalculation.proofs.Cut.{pass_is_cut}
use Rattle.recalculation.proofs.First.{split_of}
use Rattle.recalculation.specs.Context.{seen_context, Context}
use Rattle.recalculation.specs.Passes.{pass, raised_by, Meaning}
use Rattle.recalculation.specs.inner.Meanings.{IsMeaning}
use Rattle.recalculation.specs.Reading.{natural_order}
use Rattle.recalculation.proofs.recalculation.first_pass.Goals as goal

pub dirty_order-requires-clause-split : goal.dirty_order-requires-clause-split
dirty_order-requires-clause-split g c =
    split_of g.E.Means.meaning (seen_context c.args.context.now) c.args.store.now
    (has same_place c.args.dirty.now.keys) c.requires.sound

pub pass_over-requires : goal.pass_over-requires
pass_over-requires g c = λ x m. c.requires.sound.only x
    (sym (c.in_ok-order.ensures.same x) ∙ sym (ap (λ ks. has same_place ks x) c.as_slice.ensures.keys) ∙ m)

pub returns-clause-values : goal.returns-clause-values
returns-clause-values g c =
    let mean : Meaning = g.E.Means.meaning in
    let ctx : Context = seen_context c.args.context.now in
    let meaning : IsMeaning mean = record { reads = g.met.E.Means.reads_alone } in
    let s : Grid = c.args.store.now in
    c.in_ok-pass_over.ensures.values ∙ ap (λ cs. pass mean ctx cs s)
    (c.as_slice.ensures.keys ∙ c.in_ok-order.ensures.done)
    ∙ sym
    (pass_is_cut mean ctx meaning s (has same_place c.args.dirty.now.keys) c.requires.sound (natural_order s).done)

pub returns-clause-count : goal.returns-clause-count
returns-clause-count g c =
    let n : length c.as_slice.result.now ≡ length c.args.dirty.now.keys =
    ap length c.as_slice.ensures.keys
    ∙ length-from_same_keys same_place_laws c.in_ok-order.order.done.keys c.args.dirty.now.keys
    c.in_ok-order.ensures.unique c.len-len.ensures.unique c.in_ok-order.ensures.same in
    c.in_ok-pass_over.ensures.count ∙ ap (λ k. raised_by k (g.E.Means.count c.args.tally.now)) n

pub returns-in_err-pass_over-clause-outside : goal.returns-in_err-pass_over-clause-outside
returns-in_err-pass_over-clause-outside g c = λ q f. c.pass_over.ensures.outside q
    (ap (λ ks. has same_place ks q) c.as_slice.ensures.keys ∙ c.in_ok-order.ensures.same q ∙ f)

pub returns-clause-outside : goal.returns-clause-outside
returns-clause-outside g c = λ q f. c.pass_over.ensures.outside q
    (ap (λ ks. has same_place ks q) c.as_slice.ensures.keys ∙ c.in_ok-order.ensures.same q ∙ f)
