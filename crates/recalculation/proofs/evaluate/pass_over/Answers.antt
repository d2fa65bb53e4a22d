use Rattle.std.specs.Prelude.{◌≡◌, true, length, List}
use Rattle.std.proofs.Common.{refl, sym, ◌∙◌, ap, arith}
use Rattle.cell_maps.specs.Sets.{has}
use Rattle.grid_address.specs.Place.{same_place, Place}
use Rattle.sheet_store.specs.Grid.{Grid}
use Rattle.recalculation.proofs.Contents.{same_itself}
use Rattle.recalculation.proofs.Handed.{between, none_there, taken}
use Rattle.recalculation.proofs.Outside.{outside_itself}
use Rattle.recalculation.specs.Context.{seen_context, Context}
use Rattle.recalculation.specs.Passes.{pass, raised_by, IsSound, Meaning, SameContents, SameOutside}
use Rattle.recalculation.specs.Reading.{is_formula_at}
use Rattle.recalculation.proofs.evaluate.pass_over.Goals as goal

pub returns-then-cells-eq0-clause-values : goal.returns-then-cells-eq0-clause-values
returns-then-cells-eq0-clause-values g c =
    let none : length c.args.cells.now ≡ 0 = omega (arith, c.if-cells-eq0.true) in
    ap (λ (ps : List Place). pass g.E.Means.meaning (seen_context c.args.context.now) ps c.args.store.now)
    (none_there c.args.cells.now none)

pub returns-then-cells-eq0-clause-count : goal.returns-then-cells-eq0-clause-count
returns-then-cells-eq0-clause-count g c =
    let none : length c.args.cells.now ≡ 0 = omega (arith, c.if-cells-eq0.true) in
    ap (λ n. raised_by n (g.E.Means.count c.args.tally.now)) (sym none)

pub returns-then-cells-eq0-clause-contents : goal.returns-then-cells-eq0-clause-contents
returns-then-cells-eq0-clause-contents g c = same_itself c.args.store.now

pub returns-then-cells-eq0-clause-outside : goal.returns-then-cells-eq0-clause-outside
returns-then-cells-eq0-clause-outside g c = outside_itself (has same_place c.args.cells.now) c.args.store.now

pub pass_along-requires-clause-formulas : goal.pass_along-requires-clause-formulas
pass_along-requires-clause-formulas g c = λ x m.
    ap (λ (h : Grid). is_formula_at h x) c.take_kept-kept.ensures.same ∙ c.requires x m

pub pass_along-requires-clause-kept : goal.pass_along-requires-clause-kept
pass_along-requires-clause-kept g c =
    taken c.take_kept-kept.result c.args.store.now c.take_kept-kept.new.self c.take_kept-kept.ensures.same
    c.take_kept-kept.ensures.kept

pub give_kept-requires : goal.give_kept-requires
give_kept-requires g c = c.in_ok-pass_along.ensures.kept

pub returns-clause-values : goal.returns-clause-values
returns-clause-values g c =
    c.give_kept.ensures ∙ c.in_ok-pass_along.ensures.values
    ∙ ap (pass g.E.Means.meaning (seen_context c.args.context.now) c.args.cells.now) c.take_kept-kept.ensures.same

pub returns-clause-sound : goal.returns-clause-sound
returns-clause-sound g c = λ dirty.
    (let mean : Meaning = g.E.Means.meaning in
    let ctx : Context = seen_context c.args.context.now in
    between (λ x y. IsSound mean ctx x dirty → IsSound mean ctx y dirty) c.args.store.now c.take_kept-kept.new.self
    c.pass_along.new.store c.give_kept.new.self c.take_kept-kept.ensures.same c.give_kept.ensures
    (c.pass_along.ensures.sound dirty))

pub returns-clause-contents : goal.returns-clause-contents
returns-clause-contents g c =
    between SameContents c.args.store.now c.take_kept-kept.new.self c.pass_along.new.store c.give_kept.new.self
    c.take_kept-kept.ensures.same c.give_kept.ensures c.pass_along.ensures.contents

pub returns-clause-outside : goal.returns-clause-outside
returns-clause-outside g c =
    between (SameOutside (has same_place c.args.cells.now)) c.args.store.now c.take_kept-kept.new.self
    c.pass_along.new.store c.give_kept.new.self c.take_kept-kept.ensures.same c.give_kept.ensures
    c.pass_along.ensures.outside

pub returns-in_err-pass_along-clause-sound : goal.returns-in_err-pass_along-clause-sound
returns-in_err-pass_along-clause-sound g c = λ dirty.
    (let mean : Meaning = g.E.Means.meaning in
    let ctx : Context = seen_context c.args.context.now in
    between (λ x y. IsSound mean ctx x dirty → IsSound mean ctx y dirty) c.args.store.now c.take_kept-kept.new.self
    c.pass_along.new.store c.pass_along.new.store c.take_kept-kept.ensures.same refl
    (c.pass_along.ensures.sound dirty))

pub returns-in_err-pass_along-clause-contents : goal.returns-in_err-pass_along-clause-contents
returns-in_err-pass_along-clause-contents g c =
    between SameContents c.args.store.now c.take_kept-kept.new.self c.pass_along.new.store c.pass_along.new.store
    c.take_kept-kept.ensures.same refl c.pass_along.ensures.contents

pub returns-in_err-pass_along-clause-outside : goal.returns-in_err-pass_along-clause-outside
returns-in_err-pass_along-clause-outside g c =
    between (SameOutside (has same_place c.args.cells.now)) c.args.store.now c.take_kept-kept.new.self
    c.pass_along.new.store c.pass_along.new.store c.take_kept-kept.ensures.same refl c.pass_along.ensures.outside
