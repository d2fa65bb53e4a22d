-- When a screen need not be sent to the displays.
use Rattle.std.specs.Prelude.{◌≡◌, List, None}
use Rattle.std.specs.List.{All}
use Rattle.screen_show.specs.Display.{View}
use Rattle.sheet_run.specs.Run.{Outside}

-- none of these displays tells what it shows, so that nothing is asked of what is sent to them
abbrev pub AreUntold : List View → Type 0
AreUntold displays = All (λ v. v.told ≡ None) displays

-- nothing was sent: the displays are as they were
abbrev pub IsUnsent : Outside → Outside → Type 0
IsUnsent before now = (now.displays ≡ before.displays) × (now.failed ≡ before.failed)
