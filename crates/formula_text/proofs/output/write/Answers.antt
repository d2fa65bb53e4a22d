use Rattle.std.proofs.Common.{◌≡◌, ◌-◌, ◌++◌, true, length, take, ap, ◌∙◌, arith}
use Rattle.formula_text.proofs.Outputs.{all_written, cut_written}
use Rattle.formula_text.proofs.output.write.Goals as goal

pub returns-then-bytes-room : goal.returns-then-bytes-room
returns-then-bytes-room c =
    let old = c.args.out.now in
    let w : old.whole ≡ true = grind arith in
    let n = ap length c.bytes.ensures.bytes in
    all_written old c.args.bytes.now c.put_all.new.self w
    (omega (arith, n, c.bytes.ensures.length, c.if-bytes-room.true)) c.put_all.ensures

pub returns-else-bytes-room : goal.returns-else-bytes-room
returns-else-bytes-room c =
    let old = c.args.out.now in
    let w : old.whole ≡ true = grind arith in
    let n = ap length c.bytes.ensures.bytes in
    cut_written old c.args.bytes.now c.put_all-else-bytes-room.new.self w
    (omega (arith, n, c.bytes.ensures.length)) (omega (arith, n, c.bytes.ensures.length, c.if-bytes-room.false))
    (c.put_all-else-bytes-room.ensures ∙ ap (λ m. old.line ++ take (240 - m) c.args.bytes.now) n)
