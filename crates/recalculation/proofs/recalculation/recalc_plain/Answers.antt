use Rattle.std.specs.Prelude.{◌≡◌, ◌*◌, Bool, length}
use Rattle.std.proofs.Common.{sym, ◌∙◌, ap}
use Rattle.grid_address.proofs.Places.{same_place_is}
use Rattle.grid_address.specs.Place.{same_place, Place}
use Rattle.natural_order.proofs.Cut.{filter_passes}
use Rattle.cell_maps.specs.Sets.{has}
use Rattle.sheet_store.specs.Grid.{Grid}
use Rattle.recalculation.proofs.Rest.{further}
use Rattle.recalculation.proofs.Ends.{as_many_dirty}
use Rattle.recalculation.proofs.Outside.{passed_out}
use Rattle.recalculation.specs.Context.{seen_context, Context}
use Rattle.recalculation.specs.Passes.{passes, raised_by, Meaning}
use Rattle.recalculation.specs.inner.Meanings.{IsMeaning}
use Rattle.recalculation.specs.Reading.{plain_order}
use Rattle.recalculation.proofs.recalculation.recalc_plain.Goals as goal

pub further-requires : goal.further-requires
further-requires g c =
    let dirty : Place → Bool = has same_place c.args.dirty.now.keys in
    λ x m. c.requires.sound.only x
    (filter_passes same_place same_place_is dirty (plain_order c.args.is_by_column c.args.store.now) x
    (sym (ap (λ ks. has same_place ks x) (c.as_slice.ensures.value ∙ c.in_ok-cells.ensures.list)) ∙ m))

pub returns-clause-values : goal.returns-clause-values
returns-clause-values g c =
    let mean : Meaning = g.E.Means.meaning in
    let ctx : Context = seen_context c.args.context.now in
    let meaning : IsMeaning mean = record { reads = g.met.E.Means.reads_alone } in
    let s : Grid = c.args.store.now in
    c.in_ok-further.ensures.values ∙ ap (λ cs. passes mean ctx c.args.times cs s)
    (c.as_slice.ensures.value ∙ c.in_ok-cells.ensures.list)
    ∙ sym (further mean ctx (has same_place c.args.dirty.now.keys) meaning c.args.times
    (plain_order c.args.is_by_column s) s c.requires.sound)

pub returns-clause-count : goal.returns-clause-count
returns-clause-count g c =
    let n : length c.as_slice.result.now ≡ length c.args.dirty.now.keys =
    ap length c.as_slice.ensures.value ∙ c.in_ok-cells.ensures.length
    ∙ as_many_dirty c.args.store.now c.args.dirty.now.keys c.len-len.ensures.unique c.requires.sound.only in
    c.in_ok-further.ensures.count ∙ ap (λ k. raised_by (c.args.times * k) (g.E.Means.count c.args.tally.now)) n

pub returns-in_err-further-clause-outside : goal.returns-in_err-further-clause-outside
returns-in_err-further-clause-outside g c = λ q f. c.further.ensures.outside q
    (ap (λ ks. has same_place ks q) (c.as_slice.ensures.value ∙ c.in_ok-cells.ensures.list)
    ∙ passed_out (has same_place c.args.dirty.now.keys) (plain_order c.args.is_by_column c.args.store.now) q f)

pub returns-clause-outside : goal.returns-clause-outside
returns-clause-outside g c = λ q f. c.further.ensures.outside q
    (ap (λ ks. has same_place ks q) (c.as_slice.ensures.value ∙ c.in_ok-cells.ensures.list)
    ∙ passed_out (has same_place c.args.dirty.now.keys) (plain_order c.args.is_by_column c.args.store.now) q f)
