use Rattle.std.specs.Prelude.{◌+◌, drop, Option, ◌∷◌, []}
use Rattle.std.specs.Option.{is_some}
use Rattle.std.proofs.Common.{sym, ◌∙◌, ap, refl, subst}
use Rattle.sheet_store.specs.Grid.{Grid}
use Rattle.cell_maps.specs.Sets.{has}
use Rattle.grid_address.specs.Place.{same_place, Place}
use Rattle.formula_tree.specs.Tree.{Tree}
use Rattle.recalculation.proofs.Contents.{same_evaluated, same_itself, same_on}
use Rattle.recalculation.proofs.Counts.{raised_more}
use Rattle.recalculation.proofs.Outside.{outside_itself, outside_more}
use Rattle.recalculation.proofs.Cut.{formulas_stay, pass_step, sound_all}
use Rattle.recalculation.specs.Context.{seen_context, Context}
use Rattle.recalculation.specs.Passes.{evaluated, pass, raised_by, IsSound, Meaning, SameContents}
use Rattle.recalculation.specs.inner.Meanings.{IsMeaning}
use Rattle.recalculation.specs.Reading.{is_formula_at}
use Rattle.recalculation.proofs.evaluate.pass_along.Goals as goal

pub loop-cell-init : goal.loop-cell-init
loop-cell-init g c = record {
  values = refl;
  formulas = λ _. refl;
  sound = λ d s. s;
  contents = same_itself c.args.store.now;
  outside = outside_itself (has same_place c.args.cells.now) c.args.store.now;
  kept = c.requires.kept;
  count = refl;
}

pub loop-cell-preserved : goal.loop-cell-preserved
loop-cell-preserved g c =
    let mean : Meaning = g.E.Means.meaning in
    let ctx : Context = seen_context c.args.context.now in
    let meaning : IsMeaning mean = record { reads = g.met.E.Means.reads_alone } in
    record {
      values =
          ap (pass mean ctx (drop (c.loop-cell.cell-index + 1) c.args.cells.now)) c.in_ok-evaluate_next.ensures.value
          ∙ ap (λ x. pass mean ctx (drop (c.loop-cell.cell-index + 1) c.args.cells.now)
          (evaluated mean ctx c.loop-cell.store x)) c.cell-item.is
          ∙ sym (pass_step mean ctx c.args.cells.now c.loop-cell.cell-index c.cell-item.result c.loop-cell.store
          c.loop-cell-test.true)
          ∙ c.loop-cell.invariant.values;
      formulas = λ x. ap (λ (h : Grid). is_formula_at h x) c.in_ok-evaluate_next.ensures.value
          ∙ ap (λ (k : Place → Option Tree). is_some (k x)) (formulas_stay mean ctx c.loop-cell.store _)
          ∙ c.loop-cell.invariant.formulas x;
      sound = λ d s. subst (λ (h : Grid). IsSound mean ctx h d) (sym c.in_ok-evaluate_next.ensures.value)
          (sound_all mean ctx d meaning c.loop-cell.store (c.loop-cell.invariant.sound d s) (c.cell-item.result ∷ []));
      contents = same_on _ _ _ c.loop-cell.invariant.contents (subst (SameContents c.loop-cell.store)
          (sym c.in_ok-evaluate_next.ensures.value) (same_evaluated mean ctx c.loop-cell.store c.cell-item.result));
      outside = outside_more mean ctx c.args.cells.now c.loop-cell.cell-index c.cell-item.result
          c.cell-item.is c.loop-cell-test.true c.args.store.now c.loop-cell.store c.evaluate_next.new.store
          c.in_ok-evaluate_next.ensures.value c.loop-cell.invariant.outside;
      kept = c.in_ok-evaluate_next.ensures.kept;
      count = c.in_ok-evaluate_next.ensures.count ∙ ap (raised_by 1) c.loop-cell.invariant.count
          ∙ raised_more c.loop-cell.cell-index 1 (g.E.Means.count c.args.tally.now);
    }
