use Rattle.std.proofs.Common.{ℕ, ◌+◌, ◌++◌, length, take, drop, ap, ◌∙◌}
use Rattle.print_report.proofs.Lining.{at_end}
use Rattle.print_report.proofs.lines.append.Goals as goal

pub returns : goal.returns
returns c =
    c.in_ok-put_at.ensures.ok
    ∙ ap (λ (k : ℕ). take k c.args.out.now ++ c.args.bytes.now ++ drop (k + length c.args.bytes.now) c.args.out.now)
    c.len.ensures
    ∙ at_end c.args.out.now c.args.bytes.now
