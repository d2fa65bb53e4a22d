use Rattle.std.proofs.Common.{◌≡◌, ◌∙◌, rules, sym}
use Rattle.screen_show.proofs.Fronts.{take_further}
use Rattle.screen_show.proofs.sender.equal_halves.Goals as goal

pub returns-then-eq-clause-equal : goal.returns-then-eq-clause-equal
returns-then-eq-clause-equal c =
    let same : c.half.result.now ≡ c.half-then-before-len-ge-HALF.result.now = search rules in
    take_further c.equal_parts-len.result 4 c.args.before.now c.args.after.now c.equal_parts-len.ensures.equal
    (sym c.half.ensures ∙ same ∙ c.half-then-before-len-ge-HALF.ensures)
