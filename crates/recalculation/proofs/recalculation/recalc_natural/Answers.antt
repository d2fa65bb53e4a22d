use Rattle.std.specs.Prelude.{◌≡◌, ◌-◌, ◌*◌, suc, Bool, List, [], filter, length, ℕ}
use Rattle.std.proofs.Common.{sym, ◌∙◌, ap, subst, arith}
use Rattle.grid_address.specs.Place.{same_place, Place}
use Rattle.cell_maps.specs.Sets.{has}
use Rattle.natural_order.specs.Walk.{Precedes}
use Rattle.sheet_store.specs.Grid.{Grid}
use Rattle.recalculation.proofs.Contents.{matches_on}
use Rattle.recalculation.proofs.Counts.{raised_more}
use Rattle.recalculation.proofs.Ends.{all1, as_many_rest, formulas_rest, order1, sound_end, stays_end, values}
use Rattle.recalculation.proofs.Ordered.{in_order}
use Rattle.recalculation.proofs.Outside.{filtered_out}
use Rattle.recalculation.specs.Context.{seen_context, Context}
use Rattle.recalculation.specs.InOrder.{GoesInOrder}
use Rattle.recalculation.specs.Passes.{raised_by, IsWhatStays, Meaning}
use Rattle.recalculation.specs.inner.Meanings.{IsMeaning}
use Rattle.recalculation.specs.Reading.{pre}
use Rattle.recalculation.proofs.recalculation.recalc_natural.Goals as goal

pub recalc_in_order-requires-clause-order : goal.recalc_in_order-requires-clause-order
recalc_in_order-requires-clause-order g c =
    subst (λ (ks : List Place). GoesInOrder c.args.store.now ks) c.as_slice.ensures.keys
    (in_order c.args.graph.now c.args.store.now c.requires.matches c.as_slice.result.now
    (c.in_ok-is_in_order.ensures c.if-is_in_order.true))

pub rest_of-requires-clause-matches : goal.rest_of-requires-clause-matches
rest_of-requires-clause-matches g c =
    matches_on c.args.graph.now c.args.store.now c.first_pass.new.store c.first_pass.ensures.contents c.requires.matches

pub rest_of-requires-clause-order : goal.rest_of-requires-clause-order
rest_of-requires-clause-order g c =
    let mean : Meaning = g.E.Means.meaning in
    let ctx : Context = seen_context c.args.context.now in
    let meaning : IsMeaning mean = record { reads = g.met.E.Means.reads_alone } in
    let s1 : Grid = c.first_pass.new.store in
    let keys : List Place = c.in_ok-order.order.done.keys in
    let same : has same_place keys ≡ has same_place c.args.dirty.now.keys = λ i x. c.in_ok-order.ensures.same x i in
    subst (λ (d : Place → Bool). Precedes same_place (λ x. filter d (pre s1 x)) [] keys) (sym same)
    (order1 mean ctx meaning c.args.store.now s1 (has same_place c.args.dirty.now.keys) c.requires.sound
    c.in_ok-order.ensures.values keys c.in_ok-order.ensures.precedes)

pub rest_of-requires-clause-all : goal.rest_of-requires-clause-all
rest_of-requires-clause-all g c =
    let mean : Meaning = g.E.Means.meaning in
    let ctx : Context = seen_context c.args.context.now in
    let meaning : IsMeaning mean = record { reads = g.met.E.Means.reads_alone } in
    λ x s. c.in_ok-order.ensures.same x ∙ all1 mean ctx meaning c.args.store.now c.first_pass.new.store
    (has same_place c.args.dirty.now.keys) c.requires.sound c.in_ok-order.ensures.values x s

pub further-requires : goal.further-requires
further-requires g c =
    let mean : Meaning = g.E.Means.meaning in
    let ctx : Context = seen_context c.args.context.now in
    let meaning : IsMeaning mean = record { reads = g.met.E.Means.reads_alone } in
    λ x m. formulas_rest mean ctx meaning c.args.store.now c.first_pass.new.store
    (has same_place c.args.dirty.now.keys) c.requires.sound c.in_ok-order.ensures.values
    (has same_place c.in_ok-rest.rest.keys) c.in_ok-rest.ensures.stays
    c.in_ok-rest.again.items c.in_ok-order.order.done.keys c.in_ok-rest.ensures.cells x
    (sym (ap (λ (ks : List Place). has same_place ks x) c.as_slice-2.ensures.value) ∙ m)

pub returns-clause-values : goal.returns-clause-values
returns-clause-values g c =
    let mean : Meaning = g.E.Means.meaning in
    let ctx : Context = seen_context c.args.context.now in
    let meaning : IsMeaning mean = record { reads = g.met.E.Means.reads_alone } in
    let e : c.args.times ≡ suc (c.args.times - 1) = let h = c.requires.times in omega arith in
    c.in_ok-further.ensures.values
    ∙ values mean ctx meaning c.args.store.now c.first_pass.new.store
    (has same_place c.args.dirty.now.keys) c.requires.sound c.in_ok-order.ensures.values
    (has same_place c.in_ok-rest.rest.keys) c.in_ok-rest.ensures.stays c.args.times
    (c.args.times - 1) e c.in_ok-order.order.done.keys c.as_slice-2.result.now
    c.in_ok-order.ensures.done (c.as_slice-2.ensures.value ∙ c.in_ok-rest.ensures.cells)

pub returns-clause-stays : goal.returns-clause-stays
returns-clause-stays g c =
    let mean : Meaning = g.E.Means.meaning in
    let ctx : Context = seen_context c.args.context.now in
    let meaning : IsMeaning mean = record { reads = g.met.E.Means.reads_alone } in
    subst (λ (h : Grid). IsWhatStays h (has same_place c.in_ok-rest.rest.keys)) (sym c.in_ok-further.ensures.values)
    (stays_end mean ctx meaning c.args.store.now c.first_pass.new.store
    (has same_place c.args.dirty.now.keys) c.requires.sound c.in_ok-order.ensures.values
    (has same_place c.in_ok-rest.rest.keys) c.in_ok-rest.ensures.stays (c.args.times - 1) c.as_slice-2.result.now)

pub returns-clause-sound : goal.returns-clause-sound
returns-clause-sound g c =
    let mean : Meaning = g.E.Means.meaning in
    let ctx : Context = seen_context c.args.context.now in
    let meaning : IsMeaning mean = record { reads = g.met.E.Means.reads_alone } in
    c.further.ensures.sound (has same_place c.in_ok-rest.rest.keys)
    (sound_end mean ctx meaning c.args.store.now c.first_pass.new.store
    (has same_place c.args.dirty.now.keys) c.requires.sound c.in_ok-order.ensures.values
    (has same_place c.in_ok-rest.rest.keys) c.in_ok-rest.ensures.stays 0 [])

pub returns-clause-count : goal.returns-clause-count
returns-clause-count g c =
    let mean : Meaning = g.E.Means.meaning in
    let ctx : Context = seen_context c.args.context.now in
    let meaning : IsMeaning mean = record { reads = g.met.E.Means.reads_alone } in
    let rest : List Place = c.in_ok-rest.rest.keys in
    let more : ℕ = c.args.times - 1 in
    let n : length c.as_slice-2.result.now ≡ length rest =
    as_many_rest rest c.in_ok-order.order.done.keys c.as_slice-2.result.now c.in_ok-rest.ensures.unique
    c.in_ok-order.ensures.unique
    (c.as_slice-2.ensures.value ∙ c.in_ok-rest.ensures.cells)
    (λ x t. c.in_ok-order.ensures.same x
    ∙ all1 mean ctx meaning c.args.store.now c.first_pass.new.store (has same_place c.args.dirty.now.keys)
    c.requires.sound c.in_ok-order.ensures.values x ((c.in_ok-rest.ensures.stays x).0 t)) in
    c.in_ok-further.ensures.count
    ∙ ap (λ (k : ℕ). raised_by (more * k) (g.E.Means.count c.first_pass.new.tally)) n
    ∙ ap (raised_by (more * length rest)) c.in_ok-order.ensures.count
    ∙ raised_more (length c.args.dirty.now.keys) (more * length rest) (g.E.Means.count c.args.tally.now)

pub returns-in_err-further-clause-outside : goal.returns-in_err-further-clause-outside
returns-in_err-further-clause-outside g c = λ q f. c.further.ensures.outside q
    (ap (λ ks. has same_place ks q) (c.as_slice-2.ensures.value ∙ c.in_ok-rest.ensures.cells) ∙ filtered_out
    (has same_place c.in_ok-rest.rest.keys) c.in_ok-order.order.done.keys q (c.in_ok-order.ensures.same q ∙ f))
    ∙ c.first_pass.ensures.outside q f

pub returns-clause-outside : goal.returns-clause-outside
returns-clause-outside g c = λ q f. c.further.ensures.outside q
    (ap (λ ks. has same_place ks q) (c.as_slice-2.ensures.value ∙ c.in_ok-rest.ensures.cells) ∙ filtered_out
    (has same_place c.in_ok-rest.rest.keys) c.in_ok-order.order.done.keys q (c.in_ok-order.ensures.same q ∙ f))
    ∙ c.first_pass.ensures.outside q f
