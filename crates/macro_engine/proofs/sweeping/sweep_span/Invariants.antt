use Rattle.std.specs.Prelude.{ℕ, ◌-◌}
use Rattle.work_sheet.specs.Did.{Did}
use Rattle.work_sheet.specs.Seen.{of_worksheet}
use Rattle.work_sheet.specs.Sheets.{Worksheet}
use Rattle.macro_engine.specs.Changes.{swept_within}
use Rattle.macro_engine.proofs.sweeping.sweep_span.Given as goal

-- whatever the passes that are left make of the sheet, all passes make of the first one
abbrev pub invariant-loop-pass : goal.invariant-loop-pass
invariant-loop-pass l = (b : Worksheet) (o : ℕ) →
    Did (swept_within (l.sweep.most - l.pass) l.scene l.sweep (of_worksheet l.sheet)) l.sheet b l.tally.count o →
    Did (swept_within l.sweep.most l.scene l.sweep (of_worksheet l.fn.sheet)) l.fn.sheet b l.fn.tally.count o
