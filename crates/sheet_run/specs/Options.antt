-- The grammar of the command line's words.
use Rattle.std.specs.Char.{is_ascii_digit}
use Rattle.std.specs.Prelude.{ℕ, Bool, true, false, ◌&&◌, nat_lt, nat_le, if◌then◌else◌, List, [], ◌∷◌, length, take, drop, slice_index, Option, Some, None, Result, Ok, Err, codes, is_some, unwrap_or}
use Rattle.std.specs.List.{list_all}
use Rattle.std.specs.Str.{bytes_eq}
use Rattle.lics_text.specs.Ascii as ascii
use Rattle.fixed_value.specs.Decimals.{number_of}
use Rattle.outside_world.specs.FileNames.{file_name}
use Rattle.outside_world.specs.declared.file_name.Ext.TheVariants.{Wk1}
use Rattle.screen_show.specs.declared.display.DisplayKind.{DisplayKind}
use Rattle.screen_show.specs.declared.display.DisplayKind.TheVariants.{Pages, Ansi, Last}
use Rattle.sheet_run.specs.declared.options.Bounds.{Bounds}
use Rattle.sheet_run.specs.declared.options.Options.{Options}
use Rattle.sheet_run.specs.declared.options.Wanted.{Wanted}
use Rattle.sheet_run.specs.declared.options.Start.{Start}
use Rattle.sheet_run.specs.declared.options.Start.TheVariants as given
use Rattle.sheet_run.specs.declared.options.Wanted.TheVariants.{File, Steps, Show, Gen}

-- nothing is asked for
abbrev pub no_options : Options
no_options = record { start = given.Fresh; steps = None; show = None; count = false; strict = false }

-- the most steps of the run, one million where the words don't say it
abbrev pub limit_of : Options → ℕ
limit_of o = unwrap_or o.steps 1000000

-- what bounds the run: the most steps, and whether a refusal ends it
abbrev pub bounds_of : Options → Bounds
bounds_of o = record { steps = limit_of o; strict = o.strict }

-- the kind of display that is used, pages where the words don't say it
abbrev pub shown_kind : Options → DisplayKind
shown_kind o = unwrap_or o.show Pages

-- digits without a leading zero, of a number that is not 0
abbrev pub is_number : List ℕ → Bool
is_number digits = nat_lt ascii.zero (slice_index digits 0) && list_all is_ascii_digit digits

-- a number of at most 10,000,000
unfoldable pub steps_of : List ℕ → Option ℕ
steps_of v = if is_number v && nat_le (number_of v) 10000000 then Some (number_of v) else None

-- how many rows are to be made, 1 to 8000
unfoldable pub rows_of : List ℕ → Option ℕ
rows_of v = if is_number v && nat_le 1 (number_of v) && nat_le (number_of v) 8000 then Some (number_of v) else None

-- the kind of display that a word names
abbrev pub kind_of : List ℕ → Option DisplayKind
kind_of v = if bytes_eq v (codes "pages") then Some Pages else if bytes_eq v (codes "ansi") then Some Ansi
    else if bytes_eq v (codes "last") then Some Last else None

-- a word begins with these bytes
abbrev pub has_front : List ℕ → List ℕ → Bool
has_front word front = bytes_eq (take (length front) word) front

-- the name of a worksheet's file, which doesn't begin with `-`
abbrev pub file_of : List ℕ → Option (List ℕ)
file_of v = if has_front v (codes "-") then None else file_name Wk1 v

-- the word of an option whose value stands in the next word
abbrev pub option_text : Wanted → List ℕ
option_text File = codes "--file"
option_text Steps = codes "--steps"
option_text Show = codes "--show"
option_text Gen = codes "--gen"

-- what a value spells takes its place, and a value that spells nothing is refused
abbrev pub unless_refused : {A : Type 0} → List ℕ → Option A → (A → Options) → Result Options (List ℕ)
unless_refused value None change = Err value
unless_refused value (Some a) change = Ok (change a)

-- a value takes its option's place: a file's name, a limit, a kind of display, or a number of rows
abbrev pub on_value : Options → Wanted → List ℕ → Result Options (List ℕ)
on_value o File value = unless_refused value (file_of value) (λ name. record o { start = given.File name })
on_value o Steps value = unless_refused value (steps_of value) (λ n. record o { steps = Some n })
on_value o Show value = unless_refused value (kind_of value) (λ kind. record o { show = Some kind })
on_value o Gen value = unless_refused value (rows_of value) (λ rows. record o { start = given.Rows rows })

-- the words name what the run begins with
abbrev pub is_named : Start → Bool
is_named given.Fresh = false
is_named _ = true

-- the option was given before, or one that excludes it: a start file and a sheet that is made exclude each other
abbrev pub is_given : Options → Wanted → Bool
is_given o Steps = is_some o.steps
is_given o Show = is_some o.show
is_given o _ = is_named o.start

-- no value is wanted behind the word
abbrev pub complete : Result Options (List ℕ) → Result (Options × Option Wanted) (List ℕ)
complete (Ok o) = Ok (o, None)
complete (Err text) = Err text

-- the option that a word names, whose value is the next word
abbrev pub option_named : List ℕ → Option Wanted
option_named w = if bytes_eq w (codes "--file") then Some File
    else if bytes_eq w (codes "--steps") then Some Steps
    else if bytes_eq w (codes "--show") then Some Show
    else if bytes_eq w (codes "--gen") then Some Gen
    else None

-- the option in a word with its value behind `=`, and where the value begins
abbrev pub option_joined : List ℕ → Option (Wanted × ℕ)
option_joined w = if has_front w (codes "--file=") then Some (File, 7)
    else if has_front w (codes "--steps=") then Some (Steps, 8)
    else if has_front w (codes "--show=") then Some (Show, 7)
    else if has_front w (codes "--gen=") then Some (Gen, 6)
    else None

-- an option that was not given before takes its value, which begins there
abbrev pub joined : Options → List ℕ → Option (Wanted × ℕ) → Result (Options × Option Wanted) (List ℕ)
joined o w None = Err w
joined o w (Some (wanted, from)) = if is_given o wanted then Err w else complete (on_value o wanted (drop from w))

-- a word with its value behind `=`
abbrev pub on_joined : Options → List ℕ → Result (Options × Option Wanted) (List ℕ)
on_joined o w = joined o w (option_joined w)

-- an option that was not given before waits for its value
abbrev pub waiting : Options → List ℕ → Option Wanted → Result (Options × Option Wanted) (List ℕ)
waiting o w None = on_joined o w
waiting o w (Some wanted) = if is_given o wanted then Err w else Ok (o, Some wanted)

-- a word where no value is wanted: an option that was not given before, alone or with its value
abbrev pub on_word : Options → List ℕ → Result (Options × Option Wanted) (List ℕ)
on_word o w =
    if bytes_eq w (codes "--count") then (if o.count then Err w else Ok (record o { count = true }, None))
    else if bytes_eq w (codes "--strict") then (if o.strict then Err w else Ok (record o { strict = true }, None))
    else waiting o w (option_named w)

-- what a word comes to, where a value is wanted or not
abbrev pub read_word : Options → Option Wanted → List ℕ → Result (Options × Option Wanted) (List ℕ)
read_word o None word = on_word o word
read_word o (Some wanted) value = complete (on_value o wanted value)

-- what comes behind a word, unless it is refused
abbrev pub go_on : Result (Options × Option Wanted) (List ℕ) → (Options → Option Wanted → Result Options (List ℕ)) →
    Result Options (List ℕ)
go_on (Ok t) rest = rest t.0 t.1
go_on (Err text) rest = Err text

-- the options at the end of the words, where the value of one may be missing
abbrev pub at_end : Options → Option Wanted → Result Options (List ℕ)
at_end o None = Ok o
at_end o (Some wanted) = Err (option_text wanted)

-- The words from the left: what they ask for, or the first word or value that can't go on, or the option whose value is
-- missing.
abbrev pub read_on : Options → Option Wanted → List (List ℕ) → Result Options (List ℕ)
read_on o wanted [] = at_end o wanted
read_on o wanted (w ∷ ws) = go_on (read_word o wanted w) (λ p next. read_on p next ws)

-- what the words ask for, or the bytes that are refused
abbrev pub words_read : List (List ℕ) → Result Options (List ℕ)
words_read words = read_on no_options None words
