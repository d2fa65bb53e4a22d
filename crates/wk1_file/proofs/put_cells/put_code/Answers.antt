use Rattle.std.proofs.Common.{◌≡◌, ◌+◌, ◌++◌, ◌∙◌, OnOk, ap, arith, length, subst}
use Rattle.std.specs.Int.{to_le_bytes, w16, w64}
use Rattle.wk1_records.specs.Bodies.{head}
use Rattle.wk1_records.specs.Kinds.{number_of}
use Rattle.wk1_records.specs.declared.kind.RecordKind.TheVariants as kind
use Rattle.wk1_file.specs.Saved.{value_bits}
use Rattle.wk1_file.proofs.Writing.{record_joined}
use Rattle.wk1_file.proofs.put_cells.put_code.Goals as goal

pub returns : goal.returns
returns c =
    let old = c.args.into.now.items in
    let code = c.args.code.now in
    let value = to_le_bytes w64 (value_bits c.args.state.now.value) in
    let start = head c.args.cell c.args.state.now ++ (value ++ to_le_bytes w16 (length code)) in
    let long : 15 + length code ≡ length (start ++ code) = omega arith in
    let begun = c.in_ok-put.ensures ∙ ap (λ l. old ++ l) c.formula_front.ensures in
    let all = record_joined old c.put.new.into.items start code (number_of kind.Formula) (15 + length code)
    begun long in
    subst (λ l. OnOk c.put-2.result (c.put-2.new.into.items ≡ l)) all c.put-2.ensures
