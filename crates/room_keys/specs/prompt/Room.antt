-- What a key comes to in a prompt.
use Rattle.std.specs.Prelude.{ℕ, zero, suc, Bool, true, false, is_some, nat_eq, not, List, [], ◌∷◌, ◌++◌, codes, length}
use Rattle.std.specs.Prelude.{position, Option, None, Some, if◌then◌else◌}
use Rattle.lics_text.specs.Ascii as ascii
use Rattle.key_words.specs.declared.key.Key.{Key}
use Rattle.key_words.specs.declared.key.Key.TheVariants as key
use Rattle.entry_line.specs.Line.{after, event, Entry}
use Rattle.entry_line.specs.declared.event.LineEvent.{LineEvent}
use Rattle.entry_line.specs.declared.event.LineEvent.TheVariants as line
use Rattle.menu_tree.specs.Tree.{begins}
use Rattle.menu_tree.specs.declared.menu.Ask.{Ask}
use Rattle.menu_tree.specs.declared.menu.Ask.TheVariants as ask
use Rattle.range_names.specs.Names.{next_name, NameMap}
use Rattle.desk_errors.specs.declared.error.CommandError.{CommandError}
use Rattle.desk_answers.specs.Readings.{refusal_of}
use Rattle.room_keys.specs.menu.Ring.{highlighted}
use Rattle.room_keys.specs.pointing.Pointing.{answer_text, steered}
use Rattle.room_keys.specs.prompt.Opening.{line_in, next_ask}
use Rattle.session_rooms.specs.Lines.{line_of}
use Rattle.session_rooms.specs.declared.answers.AnsweredCommand.{AnsweredCommand}
use Rattle.session_rooms.specs.declared.pointed.Pointed.{Pointed}
use Rattle.session_rooms.specs.declared.rooms.Answering.{Answering}
use Rattle.session_rooms.specs.declared.rooms.Answering.TheVariants as answering
use Rattle.session_rooms.specs.declared.rooms.PromptRoom.{PromptRoom}
use Rattle.session_rooms.specs.declared.rooms.Room.TheVariants as room
use Rattle.session_rooms.specs.declared.turn.Turn.{Turn}
use Rattle.session_rooms.specs.declared.turn.Turn.TheVariants as turn
use Rattle.work_sheet.specs.Seen.{Sheet}

-- the command goes on asking so
abbrev pub asking : AnsweredCommand → Answering → Turn
asking c how = turn.Become (room.Asking (record { command = c; answering = how }))

-- why the answer to a prompt is refused; none where nothing was asked for
abbrev pub refusal_by : Option Ask → NameMap → List ℕ → ℕ → Option CommandError
refusal_by None names text place = None
refusal_by (Some k) names text place = refusal_of k names text place

-- a refused answer ends the command with its error, and after any other the command has one answer more
abbrev pub with_answer_by : Option CommandError → AnsweredCommand → List ℕ → Turn
with_answer_by (Some e) c text = turn.Fail e
with_answer_by None c text = turn.Ask (record c { answers = c.answers ++ text ∷ [] })

-- the present prompt has got its answer
abbrev pub with_answer : Sheet → AnsweredCommand → List ℕ → Turn
with_answer s c text = with_answer_by (refusal_by (next_ask c) s.names text (length c.answers)) c text

-- a range, a cell and a name can be given by a name
abbrev pub takes_names : Option Ask → Bool
takes_names (Some ask.Range) = true
takes_names (Some ask.Cell) = true
takes_names (Some ask.NewName) = true
takes_names (Some ask.OldName) = true
takes_names k = false

-- the first name after a text, and after the last name the first
abbrev pub or_first : Option (List ℕ) → NameMap → Option (List ℕ)
or_first None names = next_name names []
or_first (Some name) names = Some name

-- the range name that comes after a text, in a circle
abbrev pub name_behind : NameMap → List ℕ → Option (List ℕ)
name_behind names text = or_first (next_name names text) names

-- the name behind a text, where one can be given
abbrev pub name_line : Option Ask → NameMap → List ℕ → Option Entry
name_line k names text = if takes_names k then line_in (name_behind names text) else None

-- a name becomes the typed answer
abbrev pub shown : Option Entry → AnsweredCommand → Answering → Turn
shown None c how = asking c how
shown (Some e) c how = asking c (answering.Typing e)

-- NAME puts in the name behind a text
abbrev pub named : Sheet → AnsweredCommand → List ℕ → Answering → Turn
named s c text how = shown (name_line (next_ask c) s.names text) c how

-- a key steers the span that is pointed at
abbrev pub steered_prompt : Key → Sheet → AnsweredCommand → Pointed → Turn
steered_prompt k s c p = asking c (answering.Pointing (steered k s.grid s.settings.pointer p))

-- a dot anchors, and any other byte begins a typed answer
abbrev pub typed_byte : ℕ → Sheet → AnsweredCommand → Pointed → Turn
typed_byte b s c p =
    if nat_eq b ascii.dot then steered_prompt (key.Byte b) s c p else asking c (answering.Typing (line_of (b ∷ [])))

-- Enter takes the span
abbrev pub press_pointing : Key → Sheet → AnsweredCommand → Pointed → Turn
press_pointing key.Enter s c p = with_answer s c (answer_text p)
press_pointing (key.Byte b) s c p = typed_byte b s c p
press_pointing key.Name s c p = named s c [] (answering.Pointing p)
press_pointing k s c p = steered_prompt k s c p

-- a line that is typed, or one that is shown and kept
abbrev pub line_answering : Bool → Entry → Answering
line_answering true e = answering.Kept e
line_answering false e = answering.Typing e

-- what a key comes to, where the line has taken it
abbrev pub typed_by : LineEvent → Sheet → AnsweredCommand → Bool → Entry → Turn
typed_by line.GivenUp s c kept e = turn.Become room.Ready
typed_by line.Finished s c kept e = with_answer s c e.text
typed_by _ s c kept e = asking c (line_answering kept e)

-- an answer is typed as in EDIT, where UP, DOWN, PGUP and PGDN are passed over
abbrev pub press_line : Key → Sheet → AnsweredCommand → Bool → Entry → Turn
press_line key.Up s c kept e = asking c (line_answering kept e)
press_line key.Down s c kept e = asking c (line_answering kept e)
press_line key.PgUp s c kept e = asking c (line_answering kept e)
press_line key.PgDn s c kept e = asking c (line_answering kept e)
press_line key.Name s c kept e = named s c e.text (line_answering kept e)
press_line k s c kept e = typed_by (event k e) s c kept (after k e)

-- the first byte takes the place of a name that is shown
abbrev pub press_kept : Key → Sheet → AnsweredCommand → Entry → Turn
press_kept (key.Byte b) s c e = asking c (answering.Typing (line_of (b ∷ [])))
press_kept k s c e = press_line k s c true e

-- the two items of a choice
abbrev pub choice_names : Option Ask → List (List ℕ)
choice_names (Some ask.Replace) = codes "Cancel" ∷ codes "Replace" ∷ []
choice_names (Some ask.Confirm) = codes "No" ∷ codes "Yes" ∷ []
choice_names k = []

-- the first item does nothing, and the other goes on with the command
abbrev pub decided : ℕ → AnsweredCommand → Turn
decided zero c = turn.Become room.Ready
decided (suc n) c = turn.Act c

-- the place of the item that begins with a letter
abbrev pub item_for : ℕ → AnsweredCommand → Option ℕ
item_for b c = position (λ n. begins n b) (choice_names (next_ask c))

-- a letter takes the item that begins with it
abbrev pub decided_or : Option ℕ → AnsweredCommand → ℕ → Turn
decided_or None c h = asking c (answering.Choosing h)
decided_or (Some n) c h = decided n c

-- Enter takes the highlighted item, a letter its own, ESC gives the command up, and arrows highlight
abbrev pub press_choosing : Key → AnsweredCommand → ℕ → Turn
press_choosing key.Enter c h = decided h c
press_choosing (key.Byte b) c h = decided_or (item_for b c) c h
press_choosing key.Esc c h = turn.Become room.Ready
press_choosing k c h = asking c (answering.Choosing (highlighted k 2 h))

-- what a key comes to, by how the answer is given
abbrev pub press_by : Answering → Key → Sheet → AnsweredCommand → Turn
press_by (answering.Pointing p) k s c = press_pointing k s c p
press_by (answering.Typing e) k s c = press_line k s c false e
press_by (answering.Kept e) k s c = press_kept k s c e
press_by (answering.Choosing h) k s c = press_choosing k c h

-- one of two items is chosen, and a letter takes none of them
abbrev pub lacks_item_by : Answering → ℕ → AnsweredCommand → Bool
lacks_item_by (answering.Choosing h) b c = not (is_some (item_for b c))
lacks_item_by _ b c = false

-- a letter takes no item of a choice
abbrev pub lacks_item : ℕ → PromptRoom → Bool
lacks_item b r = lacks_item_by r.answering b r.command

-- what a key comes to over this sheet
abbrev pub press : Key → Sheet → PromptRoom → Turn
press k s r = press_by r.answering k s r.command
