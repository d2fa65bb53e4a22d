use Rattle.std.specs.Prelude.{◌≡◌, true}
use Rattle.std.proofs.Common.{sym, ◌∙◌, ap, subst}
use Rattle.sheet_store.specs.Grid.{Grid}
use Rattle.recalculation.proofs.Handed.{taken}
use Rattle.recalculation.specs.Context.{seen_context}
use Rattle.recalculation.specs.Passes.{evaluated}
use Rattle.recalculation.specs.Reading.{is_formula_at}
use Rattle.recalculation.proofs.evaluate.evaluate_at.Goals as goal

pub evaluate_next-requires-clause-formula : goal.evaluate_next-requires-clause-formula
evaluate_next-requires-clause-formula g c =
    subst (λ (h : Grid). is_formula_at h c.args.cell ≡ true) (sym c.take_kept-kept.ensures.same) c.requires

pub evaluate_next-requires-clause-kept : goal.evaluate_next-requires-clause-kept
evaluate_next-requires-clause-kept g c =
    taken c.take_kept-kept.result c.args.store.now c.take_kept-kept.new.self c.take_kept-kept.ensures.same
    c.take_kept-kept.ensures.kept

pub give_kept-requires : goal.give_kept-requires
give_kept-requires g c =
    c.in_ok-evaluate_next.ensures.kept

pub returns-clause-value : goal.returns-clause-value
returns-clause-value g c =
    c.give_kept.ensures ∙ c.in_ok-evaluate_next.ensures.value
    ∙ ap (λ (h : Grid). evaluated g.E.Means.meaning (seen_context c.args.context.now) h c.args.cell)
    c.take_kept-kept.ensures.same
