use Rattle.std.specs.Char.{to_ascii_uppercase}
use Rattle.std.proofs.Common.{◌≡◌, map, length}
use Rattle.std.specs.Str.{bytes_eq}
use Rattle.lics_text.proofs.names.is_name.Given as goal

abbrev pub invariant-loop-name : goal.invariant-loop-name
invariant-loop-name l =
    bytes_eq l.name (map to_ascii_uppercase l.letters) ≡ bytes_eq l.fn.name (map to_ascii_uppercase l.fn.letters)

abbrev pub decreases-loop-name : goal.decreases-loop-name
decreases-loop-name l = length l.name
