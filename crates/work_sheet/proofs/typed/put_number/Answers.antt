use Rattle.std.specs.Prelude.{◌≡◌, ◌≤◌, ◌++◌, length, List, ℕ}
use Rattle.std.proofs.Common.{ap, arith, subst, sym, ◌∙◌}
use Rattle.std.proofs.lemmas.List.{take_all}
use Rattle.fixed_value.specs.Written.{short}
use Rattle.work_sheet.proofs.typed.put_number.Goals as goal

pub returns-clause-line : goal.returns-clause-line
returns-clause-line c =
    let digits : c.bytes.result.now ≡ short c.args.number 6 = c.bytes.ensures.bytes ∙ c.write_short-digits.ensures in
    let few : length (short c.args.number 6) ≤ 32 =
    subst (λ (l : List ℕ). length l ≤ 32) digits c.bytes.ensures.length in
    c.put_all.ensures ∙ ap (λ l. l ++ c.bytes.result.now) c.requires ∙ digits
    ∙ sym (take_all 240 (short c.args.number 6) (omega arith))
