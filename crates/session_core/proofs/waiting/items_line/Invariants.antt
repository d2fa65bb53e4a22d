use Rattle.std.specs.Prelude.{◌≡◌, ◌≤◌, map, take}
use Rattle.std.specs.List.{range_with_len}
use Rattle.lics_text.specs.Limits.{MAX_LEN}
use Rattle.room_keys.specs.menu.Ring.{marked_from}
use Rattle.session_core.specs.Waiting.{item_of}
use Rattle.work_sheet.specs.Seen.{of_worksheet}
use Rattle.session_core.proofs.waiting.items_line.Given as goal

abbrev pub invariant-loop-place : goal.invariant-loop-place
invariant-loop-place l = record {
  within : l.place ≤ l.menu.count;
  line : l.line ≡ take MAX_LEN (marked_from 0 l.menu.highlight
      (map (item_of (of_worksheet l.sheet) l.menu) (take l.place (range_with_len 0 l.menu.count))));
}
