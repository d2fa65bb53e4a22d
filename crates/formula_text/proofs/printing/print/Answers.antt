use Rattle.std.proofs.Common.{◌≡◌, ◌≤◌, ◌++◌, ◌&&◌, true, false, nat_le, List, ℕ, length, take, sym, ap, ◌∙◌, subst}
use Rattle.std.proofs.Common.{arith}
use Rattle.std.proofs.lemmas.Bool.Decides.{nat_tests}
use Rattle.std.proofs.lemmas.List.{take_all}
use Rattle.std.proofs.lemmas.Bool.{and_parts, false≢true}
use Rattle.formula_tree.specs.Shape.{code_size, every, is_fine}
use Rattle.formula_text.specs.Printed.{printed, text_of}
use Rattle.formula_text.specs.Texts.{Spells}
use Rattle.formula_text.proofs.FormulasRead.{spelled}
use Rattle.formula_text.proofs.Spelling.{reads}
use Rattle.formula_text.proofs.CutTexts.{printed_line, printed_whole}
use Rattle.formula_text.proofs.printing.print.Goals as goal

pub returns-then-out-clause-line : goal.returns-then-out-clause-line
returns-then-out-clause-line c =
    let names = c.args.names.now in
    let text = text_of names c.args.at c.args.formula.now in
    let shown : c.bytes.result.now ≡ take 240 text = c.bytes.ensures.bytes ∙ c.text_of-text.ensures.line
    ∙ ap (λ x. take 240 (text_of names c.args.at x)) c.expr.ensures.value in
    c.put_all.ensures ∙ ap (λ x. x ++ c.bytes-2.result.now) c.requires ∙ c.bytes-2.ensures.bytes
    ∙ c.signed-out.ensures.line ∙ printed_line text c.bytes.result.now shown

pub returns-then-out-clause-whole : goal.returns-then-out-clause-whole
returns-then-out-clause-whole c =
    let names = c.args.names.now in
    let text = text_of names c.args.at c.args.formula.now in
    let shown : c.bytes.result.now ≡ take 240 text = c.bytes.ensures.bytes ∙ c.text_of-text.ensures.line
    ∙ ap (λ x. take 240 (text_of names c.args.at x)) c.expr.ensures.value in
    let told : c.signed-out.result.whole ≡ true = grind arith in
    c.text_of-text.ensures.whole ∙ ap (λ x. nat_le (length (text_of names c.args.at x)) 240) c.expr.ensures.value
    ∙ ap (λ b. b && nat_le (length text) 240) (sym (sym c.signed-out.ensures.whole ∙ told))
    ∙ printed_whole text c.bytes.result.now shown

pub returns-else-out-clause-line : goal.returns-else-out-clause-line
returns-else-out-clause-line c =
    let names = c.args.names.now in
    let text = text_of names c.args.at c.args.formula.now in
    let shown : c.bytes.result.now ≡ take 240 text = c.bytes.ensures.bytes ∙ c.text_of-text.ensures.line
    ∙ ap (λ x. take 240 (text_of names c.args.at x)) c.expr.ensures.value in
    c.put_all.ensures ∙ ap (λ x. x ++ c.bytes-2.result.now) c.requires ∙ c.bytes-2.ensures.bytes
    ∙ c.signed-out.ensures.line ∙ printed_line text c.bytes.result.now shown

pub returns-else-out-clause-whole : goal.returns-else-out-clause-whole
returns-else-out-clause-whole c =
    let names = c.args.names.now in
    let text = text_of names c.args.at c.args.formula.now in
    let shown : c.bytes.result.now ≡ take 240 text = c.bytes.ensures.bytes ∙ c.text_of-text.ensures.line
    ∙ ap (λ x. take 240 (text_of names c.args.at x)) c.expr.ensures.value in
    let told : c.signed-out.result.whole ≡ false = grind arith in
    told ∙ ap (λ b. b && nat_le (length text) 240) (sym (sym c.signed-out.ensures.whole ∙ told))
    ∙ printed_whole text c.bytes.result.now shown

pub returns-then-out-clause-again : goal.returns-then-out-clause-again
returns-then-out-clause-again c = λ told.
    (let names = c.args.names.now in
    let cell = c.args.at in
    let tree = c.args.formula.now in
    let text = printed names cell tree in
    let fits : nat_le (length text) 240 ≡ true = sym (returns-then-out-clause-whole c) ∙ told in
    let short : length text ≤ 240 = grind (arith, nat_tests, fits) in
    let line : c.put_all.new.self ≡ text = returns-then-out-clause-line c ∙ take_all 240 text short in
    let fine = (and_parts (every is_fine tree) (nat_le (code_size tree) 65520) c.expr.ensures.shape.shaped).0 in
    reads names cell c.put_all.new.self tree (subst (λ (l : List ℕ). Spells names cell l tree) (sym line)
    (spelled names cell c.are_keyed.ensures c.is_on_sheet.ensures tree fine c.expr.ensures.ranges short)))

pub returns-else-out-clause-again : goal.returns-else-out-clause-again
returns-else-out-clause-again c = λ told. absurd (false≢true (sym c.if-out.false ∙ told))
