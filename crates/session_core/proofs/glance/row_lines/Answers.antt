use Rattle.std.proofs.Common.{◌≡◌, ◌+◌, ◌-◌, false, rules, subst, sym}
use Rattle.session_core.specs.inner.Touches.{touches_row}
use Rattle.session_core.specs.declared.touched.Touched.{Touched}
use Rattle.session_core.proofs.ShownRows.{row_out}
use Rattle.session_core.proofs.Staying.{unheld}
use Rattle.session_core.proofs.glance.row_lines.Goals as goal

-- a row that is shown is out of the set where its line is
pub returns-in-Rows : goal.returns-in-Rows
returns-in-Rows c n least most out =
    unheld c.args.before.now.still.windows c.args.after.now.still.windows _ (search rules) (search rules) (
      subst (λ (x : Touched). touches_row x c.args.before.now.corner.row
          (c.args.before.now.corner.row + (n - 4)) ≡ false)
          (sym c.in-Rows.is)
          (row_out c.in-Rows.rows c.args.before.now.corner.row n least most out),
      search rules,
    )
