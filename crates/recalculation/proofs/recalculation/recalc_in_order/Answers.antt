use Rattle.std.specs.Prelude.{◌≡◌, ◌-◌, suc, length, refl, List, []}
use Rattle.std.proofs.Common.{sym, ◌∙◌, ap, subst, arith}
use Rattle.grid_address.specs.Place.{same_place, Place}
use Rattle.cell_maps.specs.Sets.{has}
use Rattle.sheet_store.specs.Grid.{Grid}
use Rattle.recalculation.proofs.Along.{not_circular, sound_after, stays_after, values}
use Rattle.recalculation.specs.Context.{seen_context, Context}
use Rattle.recalculation.specs.Passes.{pass, raised_by, IsSound, IsWhatStays, Meaning}
use Rattle.recalculation.specs.inner.Meanings.{IsMeaning}
use Rattle.recalculation.proofs.recalculation.recalc_in_order.Goals as goal

-- where none is dirty, a pass along the dirty formulas leaves the grid
pub returns-then-is_clean-clause-values : goal.returns-then-is_clean-clause-values
returns-then-is_clean-clause-values g c =
    let mean : Meaning = g.E.Means.meaning in
    let ctx : Context = seen_context c.args.context.now in
    let meaning : IsMeaning mean = record { reads = g.met.E.Means.reads_alone } in
    let e : c.args.times ≡ suc (c.args.times - 1) = let h = c.requires.times in omega arith in
    let none : c.args.dirty.now.keys ≡ [] = c.is_clean.ensures c.if-is_clean.true in
    sym (ap (λ (cs : List Place). pass mean ctx cs c.args.store.now) none)
    ∙ values mean ctx meaning c.args.store.now c.args.dirty.now.keys c.requires.sound c.requires.order c.args.times
    (c.args.times - 1) e

pub returns-then-is_clean-clause-circular : goal.returns-then-is_clean-clause-circular
returns-then-is_clean-clause-circular g c =
    let mean : Meaning = g.E.Means.meaning in
    let ctx : Context = seen_context c.args.context.now in
    let meaning : IsMeaning mean = record { reads = g.met.E.Means.reads_alone } in
    not_circular mean ctx meaning c.args.store.now c.args.dirty.now.keys c.requires.sound c.requires.order

pub returns-then-is_clean-clause-stays : goal.returns-then-is_clean-clause-stays
returns-then-is_clean-clause-stays g c =
    let mean : Meaning = g.E.Means.meaning in
    let ctx : Context = seen_context c.args.context.now in
    let meaning : IsMeaning mean = record { reads = g.met.E.Means.reads_alone } in
    let none : c.args.dirty.now.keys ≡ [] = c.is_clean.ensures c.if-is_clean.true in
    subst (λ (ks : List Place). IsWhatStays c.args.store.now (has same_place ks)) (sym none)
    (subst (λ (h : Grid). IsWhatStays h (has same_place []))
    (ap (λ (cs : List Place). pass mean ctx cs c.args.store.now) none)
    (stays_after mean ctx meaning c.args.store.now c.args.dirty.now.keys c.requires.sound c.requires.order))

pub returns-then-is_clean-clause-contents : goal.returns-then-is_clean-clause-contents
returns-then-is_clean-clause-contents g c =
    record { contents = λ x. refl; formats = λ x. refl; widths = refl; hidden = refl }

pub returns-then-is_clean-clause-count : goal.returns-then-is_clean-clause-count
returns-then-is_clean-clause-count g c =
    let none : c.args.dirty.now.keys ≡ [] = c.is_clean.ensures c.if-is_clean.true in
    sym (ap (λ (ks : List Place). raised_by (length ks) (g.E.Means.count c.args.tally.now)) none)

pub returns-in_err-pass_over-clause-circular : goal.returns-in_err-pass_over-clause-circular
returns-in_err-pass_over-clause-circular g c =
    let mean : Meaning = g.E.Means.meaning in
    let ctx : Context = seen_context c.args.context.now in
    let meaning : IsMeaning mean = record { reads = g.met.E.Means.reads_alone } in
    not_circular mean ctx meaning c.args.store.now c.args.dirty.now.keys c.requires.sound c.requires.order

pub returns-clause-values : goal.returns-clause-values
returns-clause-values g c =
    let mean : Meaning = g.E.Means.meaning in
    let ctx : Context = seen_context c.args.context.now in
    let meaning : IsMeaning mean = record { reads = g.met.E.Means.reads_alone } in
    let e : c.args.times ≡ suc (c.args.times - 1) = let h = c.requires.times in omega arith in
    c.in_ok-pass_over.ensures.values ∙ ap (λ (cs : List Place). pass mean ctx cs c.args.store.now)
    c.as_slice.ensures.keys
    ∙ values mean ctx meaning c.args.store.now c.args.dirty.now.keys c.requires.sound c.requires.order c.args.times
    (c.args.times - 1) e

pub returns-clause-circular : goal.returns-clause-circular
returns-clause-circular g c =
    let mean : Meaning = g.E.Means.meaning in
    let ctx : Context = seen_context c.args.context.now in
    let meaning : IsMeaning mean = record { reads = g.met.E.Means.reads_alone } in
    not_circular mean ctx meaning c.args.store.now c.args.dirty.now.keys c.requires.sound c.requires.order

pub returns-clause-stays : goal.returns-clause-stays
returns-clause-stays g c =
    let mean : Meaning = g.E.Means.meaning in
    let ctx : Context = seen_context c.args.context.now in
    let meaning : IsMeaning mean = record { reads = g.met.E.Means.reads_alone } in
    let is : c.pass_over.new.store ≡ pass mean ctx c.args.dirty.now.keys c.args.store.now =
    c.in_ok-pass_over.ensures.values
    ∙ ap (λ (cs : List Place). pass mean ctx cs c.args.store.now) c.as_slice.ensures.keys in
    subst (λ (ks : List Place). IsWhatStays c.pass_over.new.store (has same_place ks)) (sym c.truncate.ensures)
    (subst (λ (h : Grid). IsWhatStays h (has same_place [])) (sym is)
    (stays_after mean ctx meaning c.args.store.now c.args.dirty.now.keys c.requires.sound c.requires.order))

pub returns-clause-sound : goal.returns-clause-sound
returns-clause-sound g c =
    let mean : Meaning = g.E.Means.meaning in
    let ctx : Context = seen_context c.args.context.now in
    let meaning : IsMeaning mean = record { reads = g.met.E.Means.reads_alone } in
    let is : c.pass_over.new.store ≡ pass mean ctx c.args.dirty.now.keys c.args.store.now =
    c.in_ok-pass_over.ensures.values
    ∙ ap (λ (cs : List Place). pass mean ctx cs c.args.store.now) c.as_slice.ensures.keys in
    subst (λ (ks : List Place). IsSound mean ctx c.pass_over.new.store (has same_place ks)) (sym c.truncate.ensures)
    (subst (λ (h : Grid). IsSound mean ctx h (has same_place [])) (sym is)
    (sound_after mean ctx meaning c.args.store.now c.args.dirty.now.keys c.requires.sound c.requires.order))

pub returns-in_err-pass_over-clause-outside : goal.returns-in_err-pass_over-clause-outside
returns-in_err-pass_over-clause-outside g c =
    λ q f. c.pass_over.ensures.outside q (ap (λ ks. has same_place ks q) c.as_slice.ensures.keys ∙ f)

pub returns-clause-outside : goal.returns-clause-outside
returns-clause-outside g c =
    λ q f. c.pass_over.ensures.outside q (ap (λ ks. has same_place ks q) c.as_slice.ensures.keys ∙ f)
