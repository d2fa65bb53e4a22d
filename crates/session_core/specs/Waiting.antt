-- What is shown of a macro that waits.
use Rattle.std.specs.Prelude.{ℕ, ◌+◌, nat_lt, List, [], map, take, Option, None, Some, if◌then◌else◌, unwrap_or}
use Rattle.std.specs.List.{range_with_len}
use Rattle.command_desk.specs.Writing.{sight_in}
use Rattle.session_rooms.specs.Panels.{line_panel, plain_panel}
use Rattle.session_rooms.specs.declared.panel.Mode.TheVariants as mode
use Rattle.session_rooms.specs.declared.panel.Panel.{Panel}
use Rattle.grid_address.specs.Place.{Place}
use Rattle.grid_address.specs.Limits.{ROWS}
use Rattle.lics_text.specs.Limits.{MAX_LEN}
use Rattle.macro_text.specs.Texts.{macro_text}
use Rattle.macro_words.specs.Items.{beside, item_text}
use Rattle.macro_words.specs.declared.running.Running.{Running}
use Rattle.macro_words.specs.declared.waiting.MacroMenu.{MacroMenu}
use Rattle.macro_words.specs.declared.waiting.Question.{Question}
use Rattle.macro_words.specs.declared.waiting.Waiting.{Waiting}
use Rattle.macro_words.specs.declared.waiting.Waiting.TheVariants as waiting
use Rattle.room_keys.specs.menu.Ring.{items_line}
use Rattle.work_sheet.specs.Seen.{Sheet}

-- the text of an item of a menu; nothing where none stands there
abbrev pub item_of : Sheet → MacroMenu → ℕ → List ℕ
item_of s m n = unwrap_or (item_text (sight_in s) m.first n) []

-- the texts of a menu's items
abbrev pub items_of : Sheet → MacroMenu → List (List ℕ)
items_of s m = map (item_of s m) (range_with_len 0 m.count)

-- the text of the cell below one; below the last row there is none
abbrev pub text_below : Sheet → Place → List ℕ
text_below s c =
    if nat_lt (c.row + 1) ROWS then unwrap_or (macro_text (sight_in s) (record { row = c.row + 1; col = c.col })) []
    else []

-- a menu: its items, of which the highlighted one is marked, and the text below that
abbrev pub menu_panel : Sheet → MacroMenu → Panel
menu_panel s m = record (plain_panel mode.Menu) {
  menu = take MAX_LEN (items_line m.highlight (items_of s m));
  below = text_below s (beside m.highlight m.first);
}

-- a line, behind its prompt
abbrev pub question_panel : Question → Panel
question_panel q = line_panel mode.Edit q.prompt q.line.text q.line.cursor

-- what is shown of what a macro waits for, or else what the session shows
abbrev pub panel_by : Sheet → Waiting → Panel → Panel
panel_by s (waiting.Line q) p = question_panel q
panel_by s (waiting.Item m) p = menu_panel s m
panel_by s _ p = p

-- what is shown of a macro that waits, or else what the session shows
abbrev pub waiting_panel : Sheet → Option Running → Panel → Panel
waiting_panel s None p = p
waiting_panel s (Some r) p = panel_by s r.waiting p
