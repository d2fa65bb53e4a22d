-- What is kept for reports.
use Rattle.std.specs.Prelude.{ℕ, List, Option, None, Some}
use Rattle.command_desk.specs.Acting.{DeskActed}
use Rattle.command_desk.specs.Answered.{whole_at}
use Rattle.command_desk.specs.Desks.{Desk}
use Rattle.command_desk.specs.OnDesk.{given, left, refused}
use Rattle.command_desk.specs.declared.printing.PrintDesk.{PrintDesk}
use Rattle.commands_print.specs.declared.keeping.NumberSetting.{NumberSetting}
use Rattle.commands_print.specs.declared.keeping.NumberSetting.TheVariants as number
use Rattle.commands_print.specs.declared.keeping.TextSetting.{TextSetting}
use Rattle.commands_print.specs.declared.keeping.TextSetting.TheVariants as text
use Rattle.desk_errors.specs.declared.error.CommandError.TheVariants as error
use Rattle.grid_address.specs.Place.{Extent}
use Rattle.menu_tree.specs.declared.menu.Action.TheVariants as action
use Rattle.menu_tree.specs.declared.menu.PrintAction.{PrintAction}
use Rattle.menu_tree.specs.declared.menu.PrintAction.TheVariants as print
use Rattle.print_report.specs.declared.settings.PrintSettings.{PrintSettings}

-- the range that is printed
abbrev pub with_range : Extent → PrintDesk → PrintDesk
with_range span p = record p { range = Some span }

-- a margin, or how many lines a page has
abbrev pub number_set : NumberSetting → ℕ → PrintSettings → PrintSettings
number_set number.Left n set = record set { left = n }
number_set number.Right n set = record set { right = n }
number_set number.Top n set = record set { top = n }
number_set number.Bottom n set = record set { bottom = n }
number_set number.Length n set = record set { length = n }

-- the text at the head or at the foot of each page
abbrev pub text_set : TextSetting → List ℕ → PrintSettings → PrintSettings
text_set text.Header line set = record set { header = line }
text_set text.Footer line set = record set { footer = line }

-- a margin, or how many lines a page has, of what is kept
abbrev pub with_number : NumberSetting → ℕ → PrintDesk → PrintDesk
with_number kind n p = record p { set = number_set kind n p.set }

-- the text at the head or at the foot of each page, of what is kept
abbrev pub with_text : TextSetting → List ℕ → PrintDesk → PrintDesk
with_text kind line p = record p { set = text_set kind line p.set }

-- something else is kept, and the sheet stays
abbrev pub kept : (PrintDesk → PrintDesk) → Desk → DeskActed
kept change d = left (record d { print = change d.print })

-- the file is kept that an answer names, and one that is no file's name refuses the command
abbrev pub file_kept : Option (List ℕ) → Desk → DeskActed
file_kept None d = refused (error.InvalidFileName 0) d
file_kept (Some name) d = kept (λ p. record p { file = Some name }) d

-- the item that keeps a number
abbrev pub item_of : NumberSetting → PrintAction
item_of number.Left = print.MarginLeft
item_of number.Right = print.MarginRight
item_of number.Top = print.MarginTop
item_of number.Bottom = print.MarginBottom
item_of number.Length = print.PageLength

-- the number is kept that an answer is, within the bounds of its prompt
abbrev pub number_kept : NumberSetting → List (List ℕ) → Desk → DeskActed
number_kept kind answers d =
    given (whole_at (action.Print (item_of kind)) answers 0) (λ n. kept (with_number kind n) d) d
