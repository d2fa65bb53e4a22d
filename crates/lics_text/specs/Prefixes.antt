-- Prefixes of labels and their bytes (Release 2 manual).
use Rattle.std.specs.Prelude.{ℕ, ◌==◌, Option, Some, None, if◌then◌else◌}
use Rattle.lics_text.specs.Ascii as ascii
use Rattle.lics_text.specs.declared.prefix.LabelPrefix.{LabelPrefix}
use Rattle.lics_text.specs.declared.prefix.LabelPrefix.TheVariants.{Left, Right, Center, Repeat, Unprinted}

-- ' " ^ \ and |
abbrev pub prefix_byte : LabelPrefix → ℕ
prefix_byte Left = ascii.apostrophe
prefix_byte Right = ascii.quote
prefix_byte Center = ascii.caret
prefix_byte Repeat = ascii.backslash
prefix_byte Unprinted = ascii.bar

-- none for a byte that is no prefix
unfoldable pub prefix_of : ℕ → Option LabelPrefix
prefix_of b =
    if b == prefix_byte Left then Some Left
    else if b == prefix_byte Right then Some Right
    else if b == prefix_byte Center then Some Center
    else if b == prefix_byte Repeat then Some Repeat
    else if b == prefix_byte Unprinted then Some Unprinted
    else None
