use Rattle.std.proofs.Common.{◌≡◌, ap, ◌∙◌, arith}
use Rattle.sheet_gen.specs.Rows.{generated}
use Rattle.sheet_gen.proofs.Putting.{none_yet}
use Rattle.sheet_gen.proofs.generate.Goals as goal

pub loop-row-init : goal.loop-row-init
loop-row-init c = (λ p. none_yet _ p c.new-store.ensures.cells, c.new-store.ensures.widths, c.new-store.ensures.hidden)

pub returns : goal.returns
returns c =
    let all : c.loop-row.row ≡ c.args.rows = omega arith in
    record {
      cells = λ p. c.loop-row.invariant.0 p ∙ ap (λ n. generated n p) all;
      widths = c.loop-row.invariant.1;
      hidden = c.loop-row.invariant.2;
      names = c.new.ensures;
      settings = c.fresh.ensures;
    }
