-- A worksheet to which something was done.
use Rattle.std.specs.Prelude.{◌≡◌, ℕ}
use Rattle.work_sheet.specs.Doing.{Done}
use Rattle.work_sheet.specs.Seen.{of_worksheet, Sheet}
use Rattle.work_sheet.specs.Sheets.{Worksheet}
use Rattle.work_sheet.specs.Work.{HasWorked, Work}

-- the dirty formulas of a worksheet, beside a count of evaluations
abbrev pub work_of : Worksheet → ℕ → Work
work_of w n = record { dirty = w.dirty; count = n }

-- A worksheet became another and a count of evaluations another: what is seen is what was done, the work followed what
-- happened, and the history stayed.
pub record Did (d : Done) (a b : Worksheet) (m n : ℕ) : Type 0 where
  pub sheet : of_worksheet b ≡ d.sheet
  pub work : HasWorked d.log (work_of a m) (work_of b n)
  pub history : b.history ≡ a.history

-- a worksheet was edited, and no formula was evaluated: every count of evaluations stays
abbrev pub DidEdit : (Sheet → Done) → Worksheet → Worksheet → Type 0
DidEdit act a b = (n : ℕ) → Did (act (of_worksheet a)) a b n n
