use Rattle.std.specs.Prelude.{◌≡◌, ◌-◌, ◌+◌, ◌*◌, suc, true, Option, ℕ, length}
use Rattle.std.specs.Option.{is_some}
use Rattle.std.proofs.Common.{sym, ◌∙◌, ap, arith, refl}
use Rattle.sheet_store.specs.Grid.{Grid}
use Rattle.cell_maps.specs.Sets.{has}
use Rattle.grid_address.specs.Place.{same_place, Place}
use Rattle.formula_tree.specs.Tree.{Tree}
use Rattle.recalculation.proofs.Contents.{same_itself, same_on}
use Rattle.recalculation.proofs.Counts.{one_more_turn, raised_more}
use Rattle.recalculation.proofs.Outside.{outside_both, outside_itself}
use Rattle.recalculation.proofs.Rest.{formulas_all}
use Rattle.recalculation.specs.Context.{seen_context, Context}
use Rattle.recalculation.specs.Passes.{passes, raised_by, Meaning}
use Rattle.recalculation.specs.inner.Meanings.{IsMeaning}
use Rattle.recalculation.specs.Reading.{is_formula_at}
use Rattle.recalculation.proofs.evaluate.further.Goals as goal

pub loop-turn-init : goal.loop-turn-init
loop-turn-init g c =
    let n : ℕ = length c.args.cells.now in
    let all : c.args.times - 0 ≡ c.args.times = omega arith in
    let none : 0 ≡ 0 * n = omega arith in
    record {
      values = ap (λ k. passes g.E.Means.meaning (seen_context c.args.context.now) k
          c.args.cells.now c.args.store.now) all;
      formulas = λ _. refl;
      sound = λ d s. s;
      contents = same_itself c.args.store.now;
      outside = outside_itself (has same_place c.args.cells.now) c.args.store.now;
      count = ap (λ k. raised_by k (g.E.Means.count c.args.tally.now)) none;
    }

pub loop-turn-preserved : goal.loop-turn-preserved
loop-turn-preserved g c =
    let mean : Meaning = g.E.Means.meaning in
    let ctx : Context = seen_context c.args.context.now in
    let meaning : IsMeaning mean = record { reads = g.met.E.Means.reads_alone } in
    let n : ℕ = length c.args.cells.now in
    let e : c.args.times - c.loop-turn._turn ≡ suc (c.args.times - (c.loop-turn._turn + 1)) = let h =
    c.loop-turn-test.true in omega arith in
    record {
      values = ap (passes mean ctx (c.args.times - (c.loop-turn._turn + 1)) c.args.cells.now)
          c.in_ok-pass_over.ensures.values
          ∙ sym (ap (λ n. passes mean ctx n c.args.cells.now c.loop-turn.store) e) ∙ c.loop-turn.invariant.values;
      formulas = λ x. ap (λ (h : Grid). is_formula_at h x) c.in_ok-pass_over.ensures.values
          ∙ ap (λ (k : Place → Option Tree). is_some (k x))
          (formulas_all mean ctx (λ _. true) meaning c.args.cells.now c.loop-turn.store)
          ∙ c.loop-turn.invariant.formulas x;
      sound = λ d s. c.pass_over.ensures.sound d (c.loop-turn.invariant.sound d s);
      contents = same_on _ _ _ c.loop-turn.invariant.contents c.pass_over.ensures.contents;
      outside = outside_both (has same_place c.args.cells.now) c.args.store.now c.loop-turn.store c.pass_over.new.store
          c.loop-turn.invariant.outside c.pass_over.ensures.outside;
      count = c.in_ok-pass_over.ensures.count ∙ ap (raised_by n) c.loop-turn.invariant.count
          ∙ raised_more (c.loop-turn._turn * n) n (g.E.Means.count c.args.tally.now)
          ∙ ap (λ k. raised_by k (g.E.Means.count c.args.tally.now)) (one_more_turn c.loop-turn._turn n);
    }
