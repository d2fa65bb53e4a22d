-- The words of a macro's text.
use Rattle.std.specs.Char.{to_ascii_uppercase}
use Rattle.std.specs.Prelude.{ℕ, ◌+◌, Bool, false, not, ◌==◌, ◌&&◌, nat_lt, nat_le, if◌then◌else◌, Option, Some, None, List, [], ◌∷◌, length, take, drop, map, get_or}
use Rattle.std.specs.Option.{option_map, unwrap_or}
use Rattle.std.specs.List.{position}
use Rattle.lics_text.specs.Ascii as ascii
use Rattle.key_words.specs.declared.key.Key.{Key}
use Rattle.key_words.specs.declared.key.Key.TheVariants as key
use Rattle.key_words.specs.declared.name.Named.{Named}
use Rattle.key_words.specs.declared.name.Named.TheVariants as name
use Rattle.key_words.specs.declared.command.Command.{Command}
use Rattle.key_words.specs.declared.command.SlashWord.{SlashWord}
use Rattle.key_words.specs.declared.command.SlashWord.TheVariants as slash
use Rattle.key_words.specs.declared.macro_word.Cut.{Cut}
use Rattle.key_words.specs.declared.macro_word.Arguments.{Arguments}
use Rattle.key_words.specs.declared.macro_word.Arguments.TheVariants as arguments
use Rattle.key_words.specs.declared.macro_word.MacroWord.{MacroWord}
use Rattle.key_words.specs.declared.macro_word.MacroWord.TheVariants as word
use Rattle.key_words.specs.Commands.{command_named, slash_word}
use Rattle.key_words.specs.Names.{looked_up}
use Rattle.key_words.specs.Notation.{is_mark}

-- A word, and the offset behind it.
abbrev pub Unit : Type 0
Unit = MacroWord × ℕ

-- the bytes from one offset on up to another
abbrev pub cut : ℕ → ℕ → Cut
cut from to = record { from = from; to = to }

-- a byte that is a key itself; no text holds a byte below 32
abbrev pub typed : ℕ → MacroWord
typed b = if nat_le ascii.space b then word.Key (key.Byte b) else word.Bad

-- A brace closes outside quotes, and these are counted from the opening one. The first byte has this place.
abbrev pub closing_from : ℕ → Bool → List ℕ → Option ℕ
closing_from place quoted [] = None
closing_from place quoted (b ∷ bs) =
    if b == ascii.closing_brace && not quoted then Some place
    else closing_from (place + 1) (if b == ascii.quote then not quoted else quoted) bs

-- where a brace closes, counted from its first byte
abbrev pub closing_place : List ℕ → Option ℕ
closing_place rest = closing_from 0 false rest

-- a name ends at the first space
abbrev pub name_length : List ℕ → ℕ
name_length inside = unwrap_or (position (λ b. b == ascii.space) inside) (length inside)

-- what stands behind the name and its space, where there is one; the braces' inside begins at this offset
abbrev pub behind_name : ℕ → List ℕ → Option Cut
behind_name at inside =
    if nat_lt (name_length inside) (length inside)
    then Some (cut (at + name_length inside + 1) (at + length inside)) else None

-- the arguments behind a name, where a space stands there
abbrev pub listed : Option Cut → Arguments
listed None = arguments.Nothing
listed (Some c) = arguments.Listed c

-- a key by its name, as often as an expression behind it tells
abbrev pub key_word : Key → Option Cut → MacroWord
key_word k None = word.Key k
key_word k (Some c) = word.Repeated k c

-- a command by its name; any other name is called as a range's
abbrev pub command_or_call : Option Command → Cut → Option Cut → MacroWord
command_or_call (Some c) name behind = word.Command c (listed behind)
command_or_call None name behind = word.Call name (listed behind)

-- keys with a name go before commands, and these before names of ranges
abbrev pub named_word : Option Named → Option Command → Cut → Option Cut → MacroWord
named_word None command name behind = command_or_call command name behind
named_word (Some (name.Repeated k)) command name behind = key_word k behind
named_word (Some (name.Alone k)) command name behind = command_or_call command name behind
named_word (Some name.Alt) command name behind = command_or_call command name behind

-- the word of what stands in braces, whose inside begins at this offset
abbrev pub word_inside : ℕ → List ℕ → MacroWord
word_inside at inside =
    named_word (looked_up (map to_ascii_uppercase (take (name_length inside) inside)))
    (command_named (map to_ascii_uppercase (take (name_length inside) inside)))
    (cut at (at + name_length inside)) (behind_name at inside)

-- the word in braces where they close; the text has its end there
abbrev pub closed_at : ℕ → ℕ → List ℕ → Option ℕ → Unit
closed_at end at rest None = (word.Bad, end)
closed_at end at rest (Some place) = (word_inside at (take place rest), at + place + 1)

-- a mark and a closing brace
abbrev pub is_marked : List ℕ → Bool
is_marked [] = false
is_marked (m ∷ []) = false
is_marked (m ∷ b ∷ bs) = is_mark m && (b == ascii.closing_brace)

-- behind an opening brace; the text has its end there
abbrev pub braced : ℕ → ℕ → List ℕ → Unit
braced end at rest =
    if is_marked rest then (typed (get_or rest 0 0), at + 2) else closed_at end at rest (closing_place rest)

-- where an argument that begins at this offset ends
abbrev pub tilde_from : List ℕ → ℕ → Option ℕ
tilde_from text at = option_map (λ n. at + n) (position (λ b. b == ascii.tilde) (drop at text))

-- one argument is whole where its tilde follows
abbrev pub with_one : List ℕ → ℕ → (Cut → MacroWord) → Option ℕ → Unit
with_one text at make None = (word.Bad, length text)
with_one text at make (Some tilde) = (make (cut at tilde), tilde + 1)

-- one argument is whole, and the other begins behind its tilde
abbrev pub with_two : List ℕ → ℕ → Command → Option ℕ → Unit
with_two text at command None = (word.Bad, length text)
with_two text at command (Some tilde) =
    with_one text (tilde + 1) (λ c. word.Command command (arguments.Two (cut at tilde) c)) (tilde_from text (tilde + 1))

-- the arguments of a slash word begin at this offset
abbrev pub slash_at : List ℕ → ℕ → SlashWord → Unit
slash_at text at (slash.Alone command) = (word.Command command arguments.Nothing, at)
slash_at text at (slash.WithOne command) =
    with_one text at (λ c. word.Command command (arguments.One c)) (tilde_from text at)
slash_at text at (slash.WithTwo command) = with_two text at command (tilde_from text at)
slash_at text at slash.Call = with_one text at word.PlaceCall (tilde_from text at)

-- a slash is a key itself where no slash word begins with it
abbrev pub slashed : List ℕ → ℕ → Option SlashWord → Unit
slashed text offset None = (typed ascii.slash, offset + 1)
slashed text offset (Some w) = slash_at text (offset + 3) w

-- the word of a slash, X and a letter, in either case
abbrev pub begun_slash : List ℕ → ℕ → Option SlashWord
begun_slash text offset =
    if nat_lt (offset + 2) (length text) && to_ascii_uppercase (get_or text (offset + 1) 0) == ascii.capital_x
    then slash_word (to_ascii_uppercase (get_or text (offset + 2) 0)) else None

-- the word that begins with a byte at an offset, and the offset behind it
abbrev pub unit_of : List ℕ → ℕ → ℕ → Unit
unit_of text offset b =
    if b == ascii.tilde then (word.Key key.Enter, offset + 1)
    else if b == ascii.opening_brace then braced (length text) (offset + 1) (drop (offset + 1) text)
    else if b == ascii.closing_brace then (word.Bad, offset + 1)
    else if b == ascii.slash then slashed text offset (begun_slash text offset)
    else (typed b, offset + 1)

-- The word at an offset of a macro's text. An offset at or past the text's end is its end.
abbrev pub unit_at : List ℕ → ℕ → Unit
unit_at text offset =
    if nat_lt offset (length text) then unit_of text offset (get_or text offset 0) else (word.End, length text)
