use Rattle.std.proofs.Common.{◌≡◌, rules, ◌<◌, ℕ, ◌+◌, ◌-◌, ◌++◌, ◌∷◌, [], List, length, length-append, ap, sym, ◌∙◌}
use Rattle.std.proofs.Common.{arith}
use Rattle.print_report.specs.Bands.{columns_from, columns_of}
use Rattle.print_report.specs.Jobs.{sheet_of}
use Rattle.print_report.proofs.Banding.{column_passed, column_taken}
use Rattle.print_report.proofs.bands.columns_of.Goals as goal

pub loop-col-preserved-then-is_hidden : goal.loop-col-preserved-then-is_hidden
loop-col-preserved-then-is_hidden c =
    let end : ℕ = c.args.range.last.col + 1 in
    let last : c.from-col-end.result ≡ c.args.range.last.col = search rules in
    let less : c.loop-col.col < c.args.range.last.col + 1 = omega (arith, c.loop-col-test.true, last) in (
      omega (arith, c.loop-col.invariant.0),
      omega (arith, less),
      column_passed (sheet_of c.args.sheet.now) (columns_of (sheet_of c.args.sheet.now) c.args.range)
          c.loop-col.columns c.loop-col.col end less (sym c.is_hidden.ensures ∙ c.if-is_hidden.true)
          c.loop-col.invariant.2,
    )

pub loop-col-preserved : goal.loop-col-preserved
loop-col-preserved c =
    let end : ℕ = c.args.range.last.col + 1 in
    let last : c.from-col-end.result ≡ c.args.range.last.col = search rules in
    let less : c.loop-col.col < c.args.range.last.col + 1 = omega (arith, c.loop-col-test.true, last) in (
      omega (
        arith,
        c.loop-col.invariant.0,
        ap length c.put_all.ensures,
        length-append c.loop-col.columns (c.loop-col.col ∷ []),
      ),
      omega (arith, less),
      column_taken (sheet_of c.args.sheet.now) (columns_of (sheet_of c.args.sheet.now) c.args.range) c.loop-col.columns
          c.loop-col.col end less (sym c.is_hidden.ensures ∙ c.if-is_hidden.false) c.loop-col.invariant.2
          ∙ ap (λ (l : List ℕ). l
          ++ columns_from (sheet_of c.args.sheet.now) (c.loop-col.col + 1) (end - (c.loop-col.col + 1)))
          (sym c.put_all.ensures),
    )
