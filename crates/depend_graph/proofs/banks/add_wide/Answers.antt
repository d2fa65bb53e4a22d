use Rattle.std.specs.Prelude.{◌≡◌, false}
use Rattle.std.proofs.Common.{rules, subst, sym, ◌∙◌}
use Rattle.range_index.specs.Owners.{Owners}
use Rattle.depend_graph.proofs.Others.{more_others, wide_here}
use Rattle.depend_graph.specs.inner.Banks.{AreOthers}
use Rattle.depend_graph.proofs.banks.add_wide.Goals as goal

pub returns-in_ok-add-clause-is : goal.returns-in_ok-add-clause-is
returns-in_ok-add-clause-is c =
    let wide : c.is_one.result ≡ false = search rules in
    wide_here c.args.index.now c.add.new.self c.args.owner c.args.span
    (sym c.is_one.ensures ∙ wide) c.in_ok-add.ensures.ok

pub returns-in_ok-add-clause-others : goal.returns-in_ok-add-clause-others
returns-in_ok-add-clause-others c = subst (λ (m : Owners). AreOthers c.args.index.now m c.args.owner)
    (sym c.in_ok-add.ensures.ok) (more_others c.args.index.now c.args.owner c.args.span)
