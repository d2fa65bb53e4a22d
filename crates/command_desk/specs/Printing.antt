-- What the commands on reports keep.
use Rattle.std.specs.Prelude.{[], None}
use Rattle.command_desk.specs.declared.printing.PrintDesk.{PrintDesk}
use Rattle.print_report.specs.declared.settings.PrintSettings.{PrintSettings}

-- how pages are laid out before anything is set
abbrev pub default_settings : PrintSettings
default_settings = record { header = []; footer = []; left = 4; right = 76; top = 2; bottom = 2; length = 66 }

-- nothing is kept
abbrev pub nothing_to_print : PrintDesk
nothing_to_print = record { range = None; file = None; set = default_settings }
