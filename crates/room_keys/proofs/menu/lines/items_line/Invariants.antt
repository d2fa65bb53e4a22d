use Rattle.std.specs.Prelude.{◌≡◌, map, take}
use Rattle.lics_text.specs.Limits.{MAX_LEN}
use Rattle.room_keys.specs.menu.Ring.{marked_from}
use Rattle.menu_tree.specs.Tree.{item_name}
use Rattle.room_keys.proofs.menu.lines.items_line.Given as goal

abbrev pub invariant-loop-place : goal.invariant-loop-place
invariant-loop-place l = l.line ≡ take MAX_LEN (marked_from 0 l.highlight (map item_name (take l.place l.items)))
