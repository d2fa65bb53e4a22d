-- What each word of a macro does: a row for each (Release 2 manual).
use Rattle.std.specs.Prelude.{ℕ, zero, ℤ, pos, ◌+◌, ◌&&◌, nat_le, nat_lt, Bool, true, false, List, [], ◌∷◌, codes, length, get_or, min, Option, None, Some, option_map, Result, Ok, Err, if◌then◌else◌, option_and_then}
use Rattle.std.specs.Int.RustNames.{int_lt}
use Rattle.std.specs.Option.{option_or}
use Rattle.std.specs.Str.{str_eq_ignore_ascii_case}
use Rattle.at_functions.specs.Numbers.{count_of}
use Rattle.block_writes.specs.Writing.{as_content, written}
use Rattle.entry_line.specs.Line.{nothing}
use Rattle.formula_parts.specs.Outlook.{Outlook}
use Rattle.formula_text.specs.Words.{named_span}
use Rattle.formula_tree.specs.Tree.{Tree}
use Rattle.formula_tree.specs.declared.ast.Op.TheVariants.{Add}
use Rattle.formula_tree.specs.declared.value.Value.{Value}
use Rattle.formula_tree.specs.declared.value.Value.TheVariants as value
use Rattle.grid_address.specs.Place.{height_of, width_of, Extent, Place}
use Rattle.key_words.specs.declared.command.Command.{Command}
use Rattle.key_words.specs.declared.command.Command.TheVariants as command
use Rattle.key_words.specs.declared.macro_word.MacroWord.{MacroWord}
use Rattle.key_words.specs.declared.macro_word.MacroWord.TheVariants as word
use Rattle.key_words.specs.MacroText.{unit_at}
use Rattle.lics_text.specs.Limits.{MAX_LEN}
use Rattle.outside_world.specs.FileNames.{file_name}
use Rattle.outside_world.specs.declared.file_name.Ext.TheVariants.{Prn, Txt}
use Rattle.range_names.specs.Names.{NameMap}
use Rattle.sheet_store.specs.Limits.{MOST_WIDTH}
use Rattle.sheet_store.specs.declared.writes.Write.{Write}
use Rattle.text_channel.specs.declared.attached.Access.{Access}
use Rattle.text_channel.specs.declared.attached.Access.TheVariants as access
use Rattle.value_functions.specs.Operators.{binary_value}
use Rattle.value_functions.specs.Scalars.{now_value}
use Rattle.value_functions.specs.Values.{text_in}
use Rattle.macro_words.specs.Items.{items_at}
use Rattle.macro_words.specs.Moves.{below, innermost}
use Rattle.macro_words.specs.Shown.{shown_cell}
use Rattle.macro_words.specs.Values.{as_string, as_value, ends_in, label, let_value, without}
use Rattle.macro_words.specs.declared.files.FileWord.{FileWord}
use Rattle.macro_words.specs.declared.files.FileWord.TheVariants as asked
use Rattle.macro_words.specs.declared.frames.Frame.{Frame}
use Rattle.macro_words.specs.declared.frames.Frame.TheVariants as frame
use Rattle.macro_words.specs.declared.frames.Loop.{Loop}
use Rattle.macro_words.specs.declared.running.Change.TheVariants as change
use Rattle.macro_words.specs.declared.running.Deed.{Deed}
use Rattle.macro_words.specs.declared.running.Move.{Move}
use Rattle.macro_words.specs.declared.running.Move.TheVariants as move
use Rattle.macro_words.specs.declared.running.Running.{Running}
use Rattle.macro_words.specs.declared.running.Sweep.{Sweep}
use Rattle.macro_words.specs.declared.waiting.Switches.{Switches}
use Rattle.macro_words.specs.declared.waiting.Waiting.{Waiting}
use Rattle.macro_words.specs.declared.waiting.Waiting.TheVariants as waiting
use Rattle.macro_words.specs.declared.waiting.Wanted.{Wanted}
use Rattle.macro_words.specs.declared.waiting.Wanted.TheVariants as wanted
use Rattle.macro_text.specs.Arguments.{expression_value, formula_in, number_of}
use Rattle.macro_text.specs.Listed.{arguments_of, ends_quoted}
use Rattle.macro_text.specs.Ranges.{place_of, range_of}
use Rattle.macro_text.specs.Texts.{macro_text, part}
use Rattle.macro_text.specs.Units.{start_of}
use Rattle.macro_text.specs.declared.position.Spot.{Spot}
use Rattle.macro_text.specs.declared.unit.MacroFault.{MacroFault}
use Rattle.macro_text.specs.declared.unit.MacroFault.TheVariants.{BadArgument, NotText, TooDeep}

-- what a word does, or why it is a fault
abbrev pub Row : Type 0
Row = Result Deed MacroFault

-- an argument isn't of its kind, or their number is wrong
abbrev pub bad : Row
bad = Err BadArgument

-- the sheet stays as it is
abbrev pub moves : Move → Row
moves m = Ok (record { change = change.Nothing; after = m })

-- contents are written
abbrev pub puts : List Write → Move → Row
puts ws m = Ok (record { change = change.Write ws; after = m })

-- a value is put into a cell
abbrev pub puts_value : Place → Value → Move → Row
puts_value c v m = puts (written c (as_content v) ∷ []) m

-- an argument by its place, from 0 on
abbrev pub arg : List (List ℕ) → ℕ → List ℕ
arg args k = get_or args k []

-- what isn't of its kind is a fault
abbrev pub on_some : {A : Type 0} → Option A → (A → Row) → Row
on_some None f = bad
on_some (Some x) f = f x

-- a place, a range, and a number
abbrev pub on_place : Outlook → List ℕ → (Place → Row) → Row
on_place w text f = on_some (place_of w.sight.names text) f

-- a range
abbrev pub on_range : Outlook → List ℕ → (Extent → Row) → Row
on_range w text f = on_some (range_of w.sight.names text) f

-- a number
abbrev pub on_number : Outlook → Place → List ℕ → (ℤ → Row) → Row
on_number w at text f = on_some (number_of w at text) f

-- a whole number that isn't below 0, cut toward zero
abbrev pub on_count : Outlook → Place → List ℕ → (ℕ → Row) → Row
on_count w at text f = on_some (option_and_then count_of (number_of w at text)) f

-- ---- going and calling

-- the macro goes on at a cell
abbrev pub goes : Place → Row
goes c = moves (move.Go (start_of c))

-- a text spells a place
abbrev pub dispatched : Outlook → Option (List ℕ) → Row
dispatched w None = Err NotText
dispatched w (Some text) = on_place w text goes

-- calls and loops nest so deep
abbrev pub most_frames : ℕ
most_frames = 31

-- one call or loop more may be inside the others
abbrev pub has_room : Running → Bool
has_room r = nat_lt (length r.frames) most_frames

-- the word at a place calls the routine at another
abbrev pub calls_at : Running → Spot → Spot → Row
calls_at r at s = if has_room r then moves (move.Call at s) else Err TooDeep

-- the word at a place calls a cell's routine
abbrev pub calls : Running → Spot → Place → Row
calls r at c = calls_at r at (start_of c)

-- a number is past a bound, by the sign of the step
abbrev pub is_past : ℤ → ℤ → ℤ → Bool
is_past n bound step = if int_lt (pos 0) step then int_lt bound n else int_lt n bound

-- a loop goes on where its count is a number that isn't past the bound, and else behind its word
abbrev pub round : Loop → Value → Move
round l (value.Num n) = if is_past n l.bound l.step then move.Leave l.behind else move.Go (start_of l.routine)
round l _ = move.Leave l.behind

-- the step is added to the count as by +
abbrev pub next_count : Outlook → Loop → Value
next_count w l = binary_value Add (w.sight.values l.counter) (value.Num l.step)

-- back to a frame
abbrev pub returned : Outlook → Option Frame → Row
returned w None = moves move.Stop
returned w (Some (frame.Call word back)) = moves (move.Leave back)
returned w (Some (frame.Loop l)) = puts_value l.counter (next_count w l) (round l (next_count w l))

-- RETURN, and the end of a routine: back to the caller, or on with the loop; without either the macro stops
abbrev pub return_row : Outlook → Running → Row
return_row w r = returned w (innermost r.frames)

-- a number other than 0
abbrev pub is_true : Value → Bool
is_true (value.Num (pos zero)) = false
is_true (value.Num n) = true
is_true _ = false

-- IF: where the condition isn't true the macro goes on in the cell below
abbrev pub if_row : Outlook → Spot → List (List ℕ) → Row
if_row w at args =
    on_some (expression_value w at.cell (arg args 0)) (λ v.
    moves (if is_true v then move.Stay else move.Go (below 1 at.cell)))

-- a loop begins where its first count isn't past the bound
abbrev pub begins : Running → ℤ → Loop → Row
begins r first l =
    if is_past first l.bound l.step then puts_value l.counter (value.Num first) move.Stay
    else if has_room r then puts_value l.counter (value.Num first) (move.Begin l)
    else Err TooDeep

-- FOR: a step of 0 is a fault
abbrev pub for_row : Outlook → Running → Spot → List (List ℕ) → Row
for_row w r at args =
    on_place w (arg args 0) (λ k. on_number w at.cell (arg args 1) (λ first. on_number w at.cell (arg args 2) (λ bound.
    on_number w at.cell (arg args 3) (λ step. on_place w (arg args 4) (λ p.
    if is_true (value.Num step)
    then begins r first (record { behind = r.position.spot; counter = k; routine = p; bound = bound; step = step })
    else bad)))))

-- FORBREAK: the innermost frame is a loop, which is left
abbrev pub broken : Option Frame → Row
broken (Some (frame.Loop l)) = moves (move.Leave l.behind)
broken _ = bad

-- ONERROR: a cell for the message may be given
abbrev pub message_row : Outlook → List (List ℕ) → Place → Row
message_row w args c =
    if nat_lt 1 (length args)
    then on_place w (arg args 1) (λ q. moves (move.Handle (record { place = c; message = Some q })))
    else moves (move.Handle (record { place = c; message = None }))

-- ---- writing

-- a cell of a range by its column and row, each from 0 on
abbrev pub cell_in : Extent → ℕ → ℕ → Option Place
cell_in s col row =
    if nat_lt col (width_of s) && nat_lt row (height_of s)
    then Some (record { row = s.first.row + row; col = s.first.col + col })
    else None

-- PUT
abbrev pub put_row : Outlook → Spot → List (List ℕ) → Row
put_row w at args =
    on_range w (arg args 0) (λ s. on_count w at.cell (arg args 1) (λ col. on_count w at.cell (arg args 2) (λ row.
    on_some (cell_in s col row) (λ c. puts_value c (let_value w at.cell (arg args 3)) move.Stay))))

-- a whole number within bounds
abbrev pub within : ℕ → ℕ → Option ℕ → Option ℕ
within low high None = None
within low high (Some n) = if nat_le low n && nat_le n high then Some n else None

-- an argument that may be left out: a whole number within bounds, cut toward zero
abbrev pub given_count : Outlook → Spot → List (List ℕ) → ℕ → ℕ → ℕ → ℕ → Option ℕ
given_count w at args k low high left_out =
    if nat_lt k (length args) then within low high (option_and_then count_of (number_of w at.cell (arg args k)))
    else Some left_out

-- CONTENTS: what a cell shows, in its column's width and its format or in those that are given
abbrev pub contents_row : Outlook → ℕ → Spot → List (List ℕ) → Row
contents_row w global at args =
    on_place w (arg args 0) (λ c. on_place w (arg args 1) (λ q.
    on_some (given_count w at args 2 1 MOST_WIDTH (w.sight.widths q.col)) (λ width.
    on_some (given_count w at args 3 0 255 (w.sight.formats q)) (λ byte.
    puts (written c (label (shown_cell w.sight global q (min width MOST_WIDTH) byte)) ∷ []) move.Stay))))

-- ---- the arguments of the present routine

-- the word of a call
abbrev pub call_of : Frame → Option Spot
call_of (frame.Call word back) = Some word
call_of (frame.Loop l) = None

-- the word of the innermost call
abbrev pub present_call : List Frame → Option Spot
present_call [] = None
present_call (f ∷ fs) = option_or (present_call fs) (call_of f)

-- a word is a call of a name that there is
abbrev pub given_in : NameMap → List ℕ → MacroWord → Option (List (List ℕ))
given_in names text (word.Call name args) =
    option_map (λ s. arguments_of (ends_quoted false (part text name)) text args) (named_span names (part text name))
given_in names text _ = None

-- the arguments of the call whose word stands at a place, as its text now stands
abbrev pub given_at : Outlook → Option Spot → Option (List (List ℕ))
given_at w None = None
given_at w (Some s) =
    option_and_then (λ text. given_in w.sight.names text (unit_at text s.offset).0) (macro_text w.sight s.cell)

-- a value for a cell, where both are there
abbrev pub entered : Option Place → Option Value → Option Write
entered (Some c) (Some v) = Some (written c (as_content v))
entered _ _ = None

-- without :string, which may stand behind a place
abbrev pub plain_target : List ℕ → List ℕ
plain_target target = if ends_in as_string target then without as_string target else target

-- a cell takes an argument as a label, or behind :value the value of its formula
abbrev pub defined : Outlook → Place → List ℕ → List ℕ → Option Write
defined w at target given =
    if ends_in as_value target
    then entered (place_of w.sight.names (without as_value target)) (expression_value w at given)
    else entered (place_of w.sight.names (plain_target target)) (Some (value.Str given))

-- one write more, where all can be made
abbrev pub in_front : Option Write → Option (List Write) → Option (List Write)
in_front (Some e) (Some ws) = Some (e ∷ ws)
in_front _ _ = None

-- as many cells as arguments
abbrev pub defined_all : Outlook → Place → List (List ℕ) → List (List ℕ) → Option (List Write)
defined_all w at [] [] = Some []
defined_all w at (t ∷ ts) (g ∷ gs) = in_front (defined w at t g) (defined_all w at ts gs)
defined_all w at _ _ = None

-- DEFINE
abbrev pub define_row : Outlook → Running → Spot → List (List ℕ) → Row
define_row w r at args =
    on_some (given_at w (present_call r.frames)) (λ given.
    on_some (defined_all w at.cell args given) (λ ws. puts ws move.Stay))

-- ---- waiting

-- the macro waits for this
abbrev pub awaits : Waiting → Row
awaits x = moves (move.Wait x)

-- a text, as LET takes one
abbrev pub on_text : Outlook → Place → List ℕ → (List ℕ → Row) → Row
on_text w at text f = on_some (text_in (let_value w at text)) f

-- GETLABEL and GETNUMBER
abbrev pub question_row : Outlook → Spot → Wanted → List (List ℕ) → Row
question_row w at wanted args =
    on_text w at.cell (arg args 0) (λ prompt. on_place w (arg args 1) (λ c.
    awaits (waiting.Line (record { prompt = prompt; line = nothing; target = c; wanted = wanted }))))

-- a menu of so many items, of which the first is highlighted
abbrev pub offers : Place → ℕ → Option Spot → Row
offers c count caller =
    if nat_lt 0 count
    then awaits (waiting.Item (record { first = c; count = count; highlight = 0; caller = caller }))
    else Err NotText

-- a number is below another; what is no number never is
abbrev pub is_before : Value → ℤ → Bool
is_before (value.Num now) n = int_lt now n
is_before _ n = false

-- the number of the word that is waited at
abbrev pub number_kept : Waiting → Option ℤ
number_kept (waiting.Time n) = Some n
number_kept _ = None

-- the number is read at the word's first step
abbrev pub kept_or_read : Outlook → Spot → List (List ℕ) → Option ℤ → Option ℤ
kept_or_read w at args (Some n) = Some n
kept_or_read w at args None = number_of w at.cell (arg args 0)

-- the macro stays at the word while @NOW is below the number, and then goes on behind it
abbrev pub pauses : Outlook → Running → Spot → ℤ → Row
pauses w r at n = moves (if is_before (now_value w.day w.second) n then move.Pause at n else move.Go r.position.spot)

-- ---- the switches, and the text in the mode's place

-- INDICATE: without an argument the mode is shown again
abbrev pub indicate_row : Outlook → Spot → List (List ℕ) → Row
indicate_row w at args =
    if nat_lt 0 (length args)
    then on_text w at.cell (arg args 0) (λ t. moves (move.Indicate t))
    else moves (move.Indicate [])

-- what is on behind a word that switches
abbrev pub switches_by : Command → Switches → Switches
switches_by command.PanelOn x = record x { panel = true }
switches_by command.PanelOff x = record x { panel = false }
switches_by command.WindowsOn x = record x { windows = true }
switches_by command.WindowsOff x = record x { windows = false }
switches_by command.BreakOn x = record x { breaks = true }
switches_by command.BreakOff x = record x { breaks = false }
switches_by _ x = x

-- ---- recalculation of a range

-- with a condition and no number the passes are at most so many
abbrev pub most_passes : ℕ
most_passes = 50

-- how many passes there are where no number is given
abbrev pub passes_left_out : List (List ℕ) → ℕ
passes_left_out args = if nat_lt 1 (length args) then most_passes else 1

-- a condition may be left out; one that is given is a formula
abbrev pub condition_in : Outlook → Spot → List (List ℕ) → Option (Option Tree)
condition_in w at args =
    if nat_lt 1 (length args) then option_map (λ t. Some t) (formula_in w at.cell (arg args 1)) else Some None

-- RECALC, and RECALCCOL by columns
abbrev pub recalc_row : Outlook → Spot → Bool → List (List ℕ) → Row
recalc_row w at by_columns args =
    on_range w (arg args 0) (λ s. on_some (condition_in w at args) (λ c.
    on_some (given_count w at args 2 1 most_passes (passes_left_out args)) (λ most.
    let sweep : Sweep = record { span = s; by_columns = by_columns; until = c; at = at.cell; most = most } in
    Ok (record { change = change.Recalculate sweep; after = move.Stay }))))

-- ---- text files

-- the text file that a text names: .TXT is added where no extension stands, and .TXT and .PRN may stand
abbrev pub text_file : List ℕ → Option (List ℕ)
text_file text = option_or (file_name Txt text) (file_name Prn text)

-- R, W or M, in either case, tells what may be done with a file
abbrev pub access_of : List ℕ → Option Access
access_of text =
    if str_eq_ignore_ascii_case text (codes "R") then Some access.Read
    else if str_eq_ignore_ascii_case text (codes "W") then Some access.Write
    else if str_eq_ignore_ascii_case text (codes "M") then Some access.Modify
    else None

-- where what is asked for was done the macro goes on in the cell below, and else where it stands
abbrev pub asks : Spot → FileWord → Row
asks at x = moves (move.Files (record { word = x; done = below 1 at.cell }))

-- OPEN
abbrev pub open_row : Outlook → Spot → List (List ℕ) → Row
open_row w at args =
    on_text w at.cell (arg args 0) (λ t. on_some (text_file t) (λ name.
    on_some (access_of (arg args 1)) (λ a. asks at (asked.Open name a))))

-- READ: so many bytes, cut toward zero, from 0 to 240
abbrev pub read_row : Outlook → Spot → List (List ℕ) → Row
read_row w at args =
    on_some (within 0 MAX_LEN (option_and_then count_of (number_of w at.cell (arg args 0)))) (λ count.
    on_place w (arg args 1) (λ c. asks at (asked.Read count c)))

-- ---- the table

-- the fewest and the most arguments of a command; a text has no more of them than bytes
abbrev pub counts : Command → ℕ × ℕ
counts command.Branch = (1, 1)
counts command.Dispatch = (1, 1)
counts command.Define = (1, MAX_LEN)
counts command.If = (1, 1)
counts command.For = (5, 5)
counts command.Let = (2, 2)
counts command.Put = (4, 4)
counts command.Blank = (1, 1)
counts command.Contents = (2, 4)
counts command.OnError = (1, 2)
counts command.Recalc = (1, 3)
counts command.RecalcCol = (1, 3)
counts command.Get = (1, 1)
counts command.GetLabel = (2, 2)
counts command.GetNumber = (2, 2)
counts command.Look = (1, 1)
counts command.MenuBranch = (1, 1)
counts command.MenuCall = (1, 1)
counts command.Wait = (1, 1)
counts command.Indicate = (0, 1)
counts command.Open = (2, 2)
counts command.Read = (2, 2)
counts command.ReadLn = (1, 1)
counts command.Write = (1, 1)
counts command.WriteLn = (1, 1)
counts command.FileSize = (1, 1)
counts command.GetPos = (1, 1)
counts command.SetPos = (1, 1)
counts _ = (0, 0)

-- A command with as many arguments as it takes, which PUT and SETPOS cut toward zero. LOOK puts an empty label,
-- since no key ever waits to be looked at.
unfoldable pub command_row : Outlook → ℕ → Running → Spot → Command → List (List ℕ) → Row
command_row w global r at command.Branch args = on_place w (arg args 0) goes
command_row w global r at command.Dispatch args =
    on_place w (arg args 0) (λ c. dispatched w (text_in (w.sight.values c)))
command_row w global r at command.Define args = define_row w r at args
command_row w global r at command.Return args = return_row w r
command_row w global r at command.Restart args = moves move.Forget
command_row w global r at command.Quit args = moves move.Stop
command_row w global r at command.If args = if_row w at args
command_row w global r at command.For args = for_row w r at args
command_row w global r at command.ForBreak args = broken (innermost r.frames)
command_row w global r at command.Let args =
    on_place w (arg args 0) (λ c. puts_value c (let_value w at.cell (arg args 1)) move.Stay)
command_row w global r at command.Put args = put_row w at args
command_row w global r at command.Blank args =
    on_range w (arg args 0) (λ s. Ok (record { change = change.Erase s; after = move.Stay }))
command_row w global r at command.Contents args = contents_row w global at args
command_row w global r at command.OnError args = on_place w (arg args 0) (message_row w args)
command_row w global r at command.Recalc args = recalc_row w at false args
command_row w global r at command.RecalcCol args = recalc_row w at true args
command_row w global r at command.Get args = on_place w (arg args 0) (λ c. awaits (waiting.OneKey c))
command_row w global r at command.GetLabel args = question_row w at wanted.Label args
command_row w global r at command.GetNumber args = question_row w at wanted.Number args
command_row w global r at command.Look args = on_place w (arg args 0) (λ c. puts_value c (value.Str []) move.Stay)
command_row w global r at command.MenuBranch args = on_place w (arg args 0) (λ c. offers c (items_at w.sight c) None)
command_row w global r at command.MenuCall args = on_place w (arg args 0) (λ c. offers c (items_at w.sight c) (Some at))
command_row w global r at command.Wait args =
    on_some (kept_or_read w at args (number_kept r.waiting)) (pauses w r at)
command_row w global r at command.Interact args = awaits waiting.Enter
command_row w global r at command.Beep args = moves move.Stay
command_row w global r at command.Indicate args = indicate_row w at args
command_row w global r at command.Open args = open_row w at args
command_row w global r at command.Close args = asks at asked.Close
command_row w global r at command.Read args = read_row w at args
command_row w global r at command.ReadLn args = on_place w (arg args 0) (λ c. asks at (asked.ReadLine c))
command_row w global r at command.Write args = on_text w at.cell (arg args 0) (λ t. asks at (asked.Write t))
command_row w global r at command.WriteLn args = on_text w at.cell (arg args 0) (λ t. asks at (asked.WriteLine t))
command_row w global r at command.FileSize args = on_place w (arg args 0) (λ c. asks at (asked.Size c))
command_row w global r at command.GetPos args = on_place w (arg args 0) (λ c. asks at (asked.Position c))
command_row w global r at command.SetPos args = on_count w at.cell (arg args 0) (λ n. asks at (asked.SetPosition n))
command_row w global r at c args = moves (move.Switch (switches_by c r.switches))

-- within the fewest and the most
abbrev pub is_taken : ℕ × ℕ → ℕ → Bool
is_taken c n = nat_le c.0 n && nat_le n c.1

-- a command, where its arguments are as many as it takes
unfoldable pub counted_row : Outlook → ℕ → Running → Spot → Command → List (List ℕ) → Row
counted_row w global r at c args = if is_taken (counts c) (length args) then command_row w global r at c args else bad

-- a call in a text that stands at a place; another word is none
abbrev pub call_word_row : Outlook → Running → Spot → List ℕ → MacroWord → Row
call_word_row w r at text (word.Call name args) =
    on_some (named_span w.sight.names (part text name)) (λ s. calls r at s.first)
call_word_row w r at text (word.PlaceCall c) = on_place w (part text c) (calls r at)
call_word_row w r at text _ = bad

-- a word of a text that stands at a place
abbrev pub word_row : Outlook → ℕ → Running → Spot → List ℕ → MacroWord → Row
word_row w global r at text (word.Command c args) = counted_row w global r at c (arguments_of false text args)
word_row w global r at text x = call_word_row w r at text x

-- What the word at a place does, as its text now stands, where the sheet's format is this one. A place without a
-- command or a call is a fault.
unfoldable pub row : Outlook → ℕ → Running → Spot → Row
row w global r at =
    on_some (macro_text w.sight at.cell) (λ text. word_row w global r at text (unit_at text at.offset).0)
