-- What a prompt shows.
use Rattle.std.specs.Prelude.{ℕ, List, length, take, Option}
use Rattle.session_rooms.specs.Panels.{line_panel, plain_panel}
use Rattle.session_rooms.specs.declared.panel.Panel.{Panel}
use Rattle.session_rooms.specs.declared.panel.Mode.TheVariants as mode
use Rattle.lics_text.specs.Limits.{MAX_LEN}
use Rattle.menu_tree.specs.Tree.{prompt_name}
use Rattle.menu_tree.specs.declared.menu.Ask.{Ask}
use Rattle.room_keys.specs.menu.Ring.{items_line}
use Rattle.room_keys.specs.pointing.Pointing.{reference_text}
use Rattle.room_keys.specs.prompt.Opening.{next_ask}
use Rattle.room_keys.specs.prompt.Room.{choice_names}
use Rattle.session_rooms.specs.declared.answers.AnsweredCommand.{AnsweredCommand}
use Rattle.session_rooms.specs.declared.rooms.Answering.{Answering}
use Rattle.session_rooms.specs.declared.rooms.Answering.TheVariants as answering
use Rattle.session_rooms.specs.declared.rooms.PromptRoom.{PromptRoom}

-- the name of the present prompt
abbrev pub name_of : AnsweredCommand → List ℕ
name_of c = take MAX_LEN (prompt_name c.action (length c.answers))

-- the items of a choice
abbrev pub choice_line : Option Ask → ℕ → List ℕ
choice_line k h = items_line h (choice_names k)

-- what is shown while an answer is pointed at, typed or chosen
abbrev pub panel_by : Answering → AnsweredCommand → Panel
panel_by (answering.Pointing p) c = line_panel mode.Point (name_of c) (reference_text p) (length (reference_text p))
panel_by (answering.Typing e) c = line_panel mode.Edit (name_of c) e.text e.cursor
panel_by (answering.Kept e) c = line_panel mode.Edit (name_of c) e.text e.cursor
panel_by (answering.Choosing h) c = record (plain_panel mode.Menu) { menu = choice_line (next_ask c) h }

-- what a prompt shows
abbrev pub panel : PromptRoom → Panel
panel r = panel_by r.answering r.command
