use Rattle.std.proofs.Common.{◌≤◌, ◌⊎◌, inl, inr, length, sym, ◌∙◌, arith}
use Rattle.lics_text.proofs.Lists.{at_an_end}
use Rattle.lics_text.proofs.text.fold_cmp.Goals as goal
use Rattle.lics_text.proofs.text.fold_cmp.Goals.{then-loop-at-test+else-at-b, else-loop-at-test}

pub returns : goal.returns
returns c =
    let h : (length c.args.a.now ≤ c.loop-at.at) ⊎ (length c.args.b.now ≤ c.loop-at.at) =
    elim c.loop-at-test.branch
    [ then-loop-at-test+else-at-b w ↦ inr (omega arith) | else-loop-at-test w ↦ inl (omega arith) ] in
    c.cmp.ensures ∙ sym (c.loop-at.invariant.2 ∙ at_an_end _ _ _ c.loop-at.invariant.0 c.loop-at.invariant.1 h)
