-- Prefixes and their bytes.
use Rattle.std.specs.Prelude.{◌≡◌, Some, refl}
use Rattle.lics_text.specs.Prefixes.{prefix_byte, prefix_of}
use Rattle.lics_text.specs.declared.prefix.LabelPrefix.{LabelPrefix}
use Rattle.lics_text.specs.declared.prefix.LabelPrefix.TheVariants as label

-- the prefix of a prefix's byte is that prefix
pub prefix_back : (p : LabelPrefix) → prefix_of (prefix_byte p) ≡ Some p
unfolding prefix_of
prefix_back label.Left = refl
prefix_back label.Right = refl
prefix_back label.Center = refl
prefix_back label.Repeat = refl
prefix_back label.Unprinted = refl
