-- What commands leave that evaluate no formula.
use Rattle.std.specs.Prelude.{ℕ}
use Rattle.command_desk.specs.Acting.{Acted, HasActedBy}
use Rattle.command_desk.specs.declared.ending.CommandEnd.{CommandEnd}
use Rattle.work_sheet.specs.Seen.{Sheet}
use Rattle.work_sheet.specs.Sheets.{Worksheet}

-- an act came to this end, and every count of evaluations stays
abbrev pub HasOnlyActed : (Sheet → Acted) → CommandEnd → Worksheet → Worksheet → Type 0
HasOnlyActed act end v w = (n : ℕ) → HasActedBy act end v w n n
