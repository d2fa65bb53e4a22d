-- What a part of the report adds, up to the most bytes that a report may have.
use Rattle.std.specs.Prelude.{ℕ, ◌≡◌, ◌≤◌, ◌<◌, ⊤, List, ◌++◌, length, Result, Ok, Err}
use Rattle.print_report.specs.declared.settings.PrintFault.{PrintFault}
use Rattle.print_report.specs.declared.settings.PrintFault.TheVariants.{PageTooSmall, TooLong, Memory}
use Rattle.print_report.specs.Pages.{limit}

-- the bytes were added, or they would be too many, or memory ran out
abbrev pub Adds : List ℕ → List ℕ → List ℕ → Result Unit PrintFault → Type 0
Adds old more new (Ok _) = (new ≡ old ++ more) × (length new ≤ limit)
Adds old more new (Err PageTooSmall) = ⊥
Adds old more new (Err TooLong) = limit < length (old ++ more)
Adds old more new (Err Memory) = ⊤
