use Rattle.std.proofs.Common.{◌≡◌, ℕ, ◌++◌, List, OnOk, take, replicate, ap, subst, ◌∙◌, arith}
use Rattle.print_report.specs.Lines.{line}
use Rattle.print_report.specs.Running.{overlaid}
use Rattle.print_report.proofs.Lining.{margin_front}
use Rattle.print_report.proofs.running.put_running.Goals as goal

pub returns : goal.returns
returns c =
    let blank : take {A = ℕ} c.from.result (replicate 255 32) ≡ replicate c.args.width 32 =
    ap (λ (k : ℕ). take {A = ℕ} k (replicate 255 32)) c.from.ensures
    ∙ margin_front c.args.width (omega (arith, c.ranges.width.fits)) in
    subst (λ (t : List ℕ). OnOk c.put_line.result (c.put_line.new.out ≡ c.args.out.now ++ line c.args.left t))
    (c.lay_all.ensures ∙ ap (overlaid c.args.number c.args.day c.args.text.now) blank) c.put_line.ensures
