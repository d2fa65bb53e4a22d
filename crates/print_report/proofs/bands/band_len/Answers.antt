use Rattle.std.proofs.Common.{◌≡◌, ◌<◌, ◌≤◌, ℕ, ◌+◌, ◌-◌, length, take, drop, get_or, ap, sym, ◌∙◌, arith}
use Rattle.print_report.specs.Bands.{cut, width_in}
use Rattle.print_report.specs.Jobs.{sheet_of}
use Rattle.print_report.proofs.Banding.{column_fits, wide_taken}
use Rattle.print_report.proofs.bands.band_len.Goals as goal

pub loop-at-preserved : goal.loop-at-preserved
loop-at-preserved c =
    let at : ℕ = c.loop-at.at in
    let inside : c.loop-at.at < length c.args.columns.now = omega (arith, c.loop-at-test.true) in
    let width : c.width_in-column.result
    ≡ width_in (sheet_of c.args.sheet.now) (get_or c.args.columns.now c.loop-at.at 0) =
    c.width_in-column.ensures.width in
    let fits : width_in (sheet_of c.args.sheet.now) (get_or c.args.columns.now c.loop-at.at 0) ≤ c.loop-at.room =
    omega (arith, width, c.if-column-room.false) in (
      omega (arith, c.loop-at.invariant.0),
      omega (arith, inside),
      omega (
        arith,
        c.loop-at.invariant.2,
        wide_taken (sheet_of c.args.sheet.now) c.args.columns.now at 0 inside,
        width,
        fits,
      ),
      c.loop-at.invariant.3 ∙ column_fits (sheet_of c.args.sheet.now) c.args.width c.loop-at.room c.args.columns.now at
          0 inside fits
          ∙ ap (λ (k : ℕ). cut (sheet_of c.args.sheet.now) c.args.width (take (at + 1) c.args.columns.now)
          (c.loop-at.room - k) (drop (at + 1) c.args.columns.now)) (sym width),
    )
