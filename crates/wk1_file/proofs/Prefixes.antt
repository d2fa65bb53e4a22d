-- A prefix is told by its byte.
use Rattle.std.specs.Prelude.{◌≡◌, ◌==◌, false, refl}
use Rattle.lics_text.specs.Prefixes.{prefix_byte}
use Rattle.lics_text.specs.declared.prefix.LabelPrefix.{LabelPrefix}
use Rattle.lics_text.specs.declared.prefix.LabelPrefix.TheVariants as label

-- no prefix's byte is 0
pub prefix_some : (p : LabelPrefix) → (prefix_byte p == 0) ≡ false
prefix_some label.Left = refl
prefix_some label.Right = refl
prefix_some label.Center = refl
prefix_some label.Repeat = refl
prefix_some label.Unprinted = refl
