-- What a key does to a macro that waits.
use Rattle.std.specs.Prelude.{ℕ, List, [], ◌∷◌, ◌++◌, codes, Option, None, Some}
use Rattle.entry_line.specs.Line.{after}
use Rattle.formula_parts.specs.Outlook.{Outlook}
use Rattle.formula_tree.specs.declared.value.Value.{Value}
use Rattle.formula_tree.specs.declared.value.Value.TheVariants as value
use Rattle.grid_address.specs.Place.{Place}
use Rattle.item_ring.specs.Ring.{highlighted}
use Rattle.key_words.specs.declared.key.Key.{Key}
use Rattle.key_words.specs.declared.key.Key.TheVariants as key
use Rattle.macro_text.specs.Arguments.{expression_value}
use Rattle.macro_text.specs.declared.position.Spot.{Spot}
use Rattle.macro_words.specs.Items.{beside, chosen_by}
use Rattle.macro_words.specs.Moves.{below}
use Rattle.macro_words.specs.Rows.{awaits, calls_at, moves, puts_value, Row}
use Rattle.macro_words.specs.declared.running.Move.TheVariants as move
use Rattle.macro_words.specs.declared.running.Running.{Running}
use Rattle.macro_words.specs.declared.waiting.MacroMenu.{MacroMenu}
use Rattle.macro_words.specs.declared.waiting.Question.{Question}
use Rattle.macro_words.specs.declared.waiting.Waiting.{Waiting}
use Rattle.macro_words.specs.declared.waiting.Waiting.TheVariants as waiting
use Rattle.macro_words.specs.declared.waiting.Wanted.{Wanted}
use Rattle.macro_words.specs.declared.waiting.Wanted.TheVariants as wanted

-- a byte and Enter as they stand in a macro's text, and any other key by its name in braces
abbrev pub key_text : Key → List ℕ
key_text (key.Byte b) = b ∷ []
key_text key.Enter = codes "~"
key_text key.Up = codes "{UP}"
key_text key.Down = codes "{DOWN}"
key_text key.Left = codes "{LEFT}"
key_text key.Right = codes "{RIGHT}"
key_text key.Home = codes "{HOME}"
key_text key.End = codes "{END}"
key_text key.PgUp = codes "{PGUP}"
key_text key.PgDn = codes "{PGDN}"
key_text key.BigLeft = codes "{BIGLEFT}"
key_text key.BigRight = codes "{BIGRIGHT}"
key_text key.Esc = codes "{ESC}"
key_text key.Bs = codes "{BS}"
key_text key.Del = codes "{DEL}"
key_text key.Edit = codes "{EDIT}"
key_text key.Name = codes "{NAME}"
key_text key.Abs = codes "{ABS}"
key_text key.Goto = codes "{GOTO}"
key_text key.Window = codes "{WINDOW}"
key_text key.Query = codes "{QUERY}"
key_text key.Table = codes "{TABLE}"
key_text key.Calc = codes "{CALC}"
key_text key.Graph = codes "{GRAPH}"
key_text key.Break = codes "{BREAK}"
key_text key.Undo = codes "{UNDO}"
key_text (key.Alt letter) = codes "{ALT " ++ letter ∷ codes "}"

-- GET: the key's text is put into the cell
abbrev pub one_key_row : Place → Key → Row
one_key_row c k = puts_value c (value.Str (key_text k)) move.Stay

-- a number, and else ERR
abbrev pub number_or_err : Option Value → Value
number_or_err (Some (value.Num n)) = value.Num n
number_or_err _ = value.Err

-- what a line is put into its cell as; a number is read in the macro's cell
abbrev pub line_value : Outlook → Place → Wanted → List ℕ → Value
line_value w at wanted.Label text = value.Str text
line_value w at wanted.Number text = number_or_err (expression_value w at text)

-- GETLABEL and GETNUMBER: Enter finishes the line, which is typed as in EDIT; keys that would leave it are passed over
abbrev pub line_row : Outlook → Place → Question → Key → Row
line_row w at q key.Enter = puts_value q.target (line_value w at q.wanted q.line.text) move.Stay
line_row w at q k = awaits (waiting.Line (record q { line = after k q.line }))

-- the macro goes to a place, or calls it by the word at another
abbrev pub gone_or_called : Running → Spot → Option Spot → Row
gone_or_called r s None = moves (move.Go s)
gone_or_called r s (Some word) = calls_at r word s

-- an item is chosen: the macro goes to the cell two below it, or calls that
abbrev pub choice_row : Running → MacroMenu → ℕ → Row
choice_row r m n = gone_or_called r (below 2 (beside n m.first)) m.caller

-- an item is highlighted
abbrev pub highlights : MacroMenu → ℕ → Row
highlights m n = awaits (waiting.Item (record m { highlight = n }))

-- where no item begins with the byte, it is passed over
abbrev pub byte_row : Running → MacroMenu → Option ℕ → Row
byte_row r m None = highlights m m.highlight
byte_row r m (Some n) = choice_row r m n

-- MENUBRANCH and MENUCALL: Enter chooses the highlighted item, a byte the first that begins with it, ESC none, and any
-- other key moves the highlight or is passed over
abbrev pub item_row : Outlook → Running → MacroMenu → Key → Row
item_row w r m key.Enter = choice_row r m m.highlight
item_row w r m (key.Byte b) = byte_row r m (chosen_by w.sight m b)
item_row w r m key.Esc = moves move.Stay
item_row w r m k = highlights m (highlighted k m.count m.highlight)

-- ?: Enter ends the waiting
abbrev pub enter_row : Key → Row
enter_row key.Enter = moves move.Stay
enter_row k = awaits waiting.Enter

-- a key, by what the macro waits for
abbrev pub waiting_row : Outlook → Running → Waiting → Key → Row
waiting_row w r waiting.Nothing k = awaits waiting.Nothing
waiting_row w r (waiting.Time n) k = awaits (waiting.Time n)
waiting_row w r (waiting.OneKey c) k = one_key_row c k
waiting_row w r (waiting.Line q) k = line_row w r.position.spot.cell q k
waiting_row w r (waiting.Item m) k = item_row w r m k
waiting_row w r waiting.Enter k = enter_row k

-- What a key does to a macro that waited for this, and waits no more. BREAK and UNDO are never a macro's, and leave it
-- waiting.
unfoldable pub key_row : Outlook → Running → Waiting → Key → Row
key_row w r x key.Break = awaits x
key_row w r x key.Undo = awaits x
key_row w r x k = waiting_row w r x k
