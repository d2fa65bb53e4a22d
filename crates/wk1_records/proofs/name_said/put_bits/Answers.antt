use Rattle.std.proofs.Common.{◌≡◌, ◌<◌, ◌++◌, Bool, List, take, drop, set, length, get_or, false, ap, ◌∙◌, sym, arith}
use Rattle.wk1_records.specs.Meanings.{bits_in}
use Rattle.wk1_records.proofs.BitsRead.{all_bits, bit_in, bits_in_long}
use Rattle.wk1_records.proofs.Marks.{one_mark}
use Rattle.wk1_records.proofs.name_said.put_bits.Goals as goal

pub loop-col-preserved : goal.loop-col-preserved
loop-col-preserved c =
    let body = c.args.body.now in
    let old = c.args.bits.now in
    let at = c.loop-col.col in
    let bits = bits_in body in
    let inside : at < length bits = omega (arith, c.loop-col-test.true, bits_in_long body) in
    let there : at < length old = omega (arith, c.loop-col-test.true, c.told-bits) in
    ap (λ (l : List Bool). set l at c.bit_at.result) c.loop-col.invariant
    ∙ ap (λ b. set (take at bits ++ drop at old) at b)
    (c.bit_at.ensures ∙ sym (bit_in body at (omega (arith, c.loop-col-test.true))))
    ∙ one_mark bits old at inside there

pub returns : goal.returns
returns c =
    let at = c.loop-col.col in
    let end : at ≡ 256 = omega (arith, c.loop-col-test.false, c.loop-col.auto.col-end) in
    c.loop-col.invariant
    ∙ all_bits (bits_in c.args.body.now) c.args.bits.now at (bits_in_long c.args.body.now ∙ sym end)
    (omega (arith, c.told-bits, end))
