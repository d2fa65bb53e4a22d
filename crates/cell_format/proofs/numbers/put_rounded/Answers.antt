use Rattle.std.proofs.Common.{◌-◌, ◌++◌, ℕ, List, Option, Some, None, refl, ap, sym, ◌∙◌}
use Rattle.cell_format.specs.Numbers.{fitting, placed}
use Rattle.cell_format.proofs.Fitting.{tried_fits, tried_more}
use Rattle.cell_format.proofs.numbers.put_rounded.Goals as goal

pub returns-in-Some : goal.returns-in-Some
returns-in-Some c =
    let fits =
    tried_fits c.args.most c.saturating_sub.result c.args.value (Some c.in-Some.text) c.in-Some.ensures refl in
    c.put_right.ensures
    ∙ ap (λ (t : Option (List ℕ)). c.args.into.now ++ placed t c.args.width)
    (ap (λ (l : List ℕ). Some l) c.bytes.ensures.bytes ∙ fits
    ∙ ap (λ room. fitting c.args.most c.args.value room) c.saturating_sub.ensures)

pub returns-in-None : goal.returns-in-None
returns-in-None c =
    let fewer = tried_more c.args.most c.saturating_sub.result c.args.value None c.in-None.ensures refl in
    c.put_fewer.ensures
    ∙ ap (λ (t : Option (List ℕ)). c.args.into.now ++ placed t c.args.width)
    (ap (λ most. fitting most c.args.value (c.args.width - 1)) c.saturating_sub-in-None.ensures
    ∙ ap (λ room. fitting (c.args.most - 1) c.args.value room) (sym c.saturating_sub.ensures) ∙ fewer
    ∙ ap (λ room. fitting c.args.most c.args.value room) c.saturating_sub.ensures)
