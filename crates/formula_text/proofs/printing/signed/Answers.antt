use Rattle.std.proofs.Common.{◌++◌, ap, ◌∙◌}
use Rattle.formula_text.specs.Printed.{sign_for, written}
use Rattle.formula_text.proofs.Outputs.{from_nothing, two}
use Rattle.formula_text.proofs.printing.signed.Goals as goal

pub returns-clause-line : goal.returns-clause-line
returns-clause-line c =
    let out = c.nothing-out.result in
    let text = c.args.text.now in
    let all = two out c.write.new.out c.write-2.new.out (sign_for text) text
    (c.write.ensures ∙ ap (written out) c.sign_for.ensures) c.write-2.ensures in
    ap (λ o. o.line) (from_nothing out c.write-2.new.out (sign_for text ++ text) c.nothing-out.ensures.line
    c.nothing-out.ensures.whole all)

pub returns-clause-whole : goal.returns-clause-whole
returns-clause-whole c =
    let out = c.nothing-out.result in
    let text = c.args.text.now in
    let all = two out c.write.new.out c.write-2.new.out (sign_for text) text
    (c.write.ensures ∙ ap (written out) c.sign_for.ensures) c.write-2.ensures in
    ap (λ o. o.whole) (from_nothing out c.write-2.new.out (sign_for text ++ text) c.nothing-out.ensures.line
    c.nothing-out.ensures.whole all)
