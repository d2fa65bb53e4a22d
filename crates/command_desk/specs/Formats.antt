-- The format codes that the menus set, without the protection mark (worksheet file format).
use Rattle.std.specs.Prelude.{ℕ, ◌+◌, ◌≤◌}
use Rattle.command_desk.specs.declared.formats.FormatChoice.{FormatChoice}
use Rattle.command_desk.specs.declared.formats.FormatChoice.TheVariants as choice

-- the kind in bits 4 to 6, and its decimals or its form in bits 0 to 3
abbrev pub code_of : FormatChoice → ℕ
code_of (choice.Fixed decimals) = 0x00 + decimals
code_of (choice.Currency decimals) = 0x20 + decimals
code_of (choice.Percent decimals) = 0x30 + decimals
code_of (choice.Comma decimals) = 0x40 + decimals
code_of choice.General = 0x71
code_of choice.Date1 = 0x72
code_of choice.Date2 = 0x73
code_of choice.Date3 = 0x74
code_of choice.Text = 0x75
code_of choice.Hidden = 0x76
code_of choice.Default = 0x7f

-- a format has at most 15 decimals
abbrev pub HasDecimals : FormatChoice → Type 0
HasDecimals (choice.Fixed decimals) = decimals ≤ 15
HasDecimals (choice.Currency decimals) = decimals ≤ 15
HasDecimals (choice.Percent decimals) = decimals ≤ 15
HasDecimals (choice.Comma decimals) = decimals ≤ 15
HasDecimals c = Unit {0}
