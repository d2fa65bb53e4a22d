-- Addresses and names in a formula.
use Rattle.std.specs.Char.{is_ascii_alphabetic, is_ascii_digit}
use Rattle.std.specs.Prelude.{ℕ, ◌+◌, ◌==◌, ◌||◌, nat_le, Bool, false, Option, Some, None, List, [], ◌∷◌, ◌++◌, length, take, drop, if◌then◌else◌}
use Rattle.std.specs.List.{list_all, prefix_len}
use Rattle.std.specs.FinMap.{get}
use Rattle.lics_text.specs.Ascii as ascii
use Rattle.grid_address.specs.Axes.{Reference}
use Rattle.grid_address.specs.Leads.{reference_to}
use Rattle.grid_address.specs.Place.{same_place, Extent, Place}
use Rattle.grid_address.specs.Progress.{address_in, count_dots}
use Rattle.range_names.specs.Names.{key_of, NameMap}
use Rattle.formula_text.specs.declared.fault.ParseFault.TheVariants.{UnknownName}
use Rattle.formula_text.specs.declared.lexeme.Found.{Found}
use Rattle.formula_text.specs.declared.lexeme.LexemeKind.{LexemeKind}
use Rattle.formula_text.specs.declared.lexeme.LexemeKind.TheVariants.{Bad, Cell, Span}

-- letters, digits, _ and $
abbrev pub is_word_byte : ℕ → Bool
is_word_byte b = is_ascii_alphabetic b || (is_ascii_digit b || (b == ascii.underscore || b == ascii.dollar))

-- how many bytes of a word stand first
abbrev pub word_len : List ℕ → ℕ
word_len bytes = prefix_len is_word_byte bytes

-- whether a $ stands first
abbrev pub has_dollar : List ℕ → Bool
has_dollar [] = false
has_dollar (b ∷ bs) = b == ascii.dollar

-- what stands behind a $ in front
abbrev pub without_dollar : List ℕ → List ℕ
without_dollar [] = []
without_dollar (b ∷ bs) = if b == ascii.dollar then bs else b ∷ bs

-- how many letters stand first
abbrev pub letters_len : List ℕ → ℕ
letters_len bytes = prefix_len is_ascii_alphabetic bytes

-- what stands behind the letters in front
abbrev pub behind_letters : List ℕ → List ℕ
behind_letters bytes = drop (letters_len bytes) bytes

-- a column and the digits of a row
abbrev pub plain_address : List ℕ → List ℕ → Option Place
plain_address column row = if list_all is_ascii_digit row then address_in (column ++ row) else None

-- the reference to a place, with these coordinates fixed
abbrev pub marked : Place → Bool → Bool → Option Place → Option Reference
marked cell fixed_col fixed_row None = None
marked cell fixed_col fixed_row (Some target) = Some (reference_to target cell fixed_col fixed_row)

-- a column without its $, and a row that may have one
abbrev pub reference_from : Place → Bool → List ℕ → Option Reference
reference_from cell fixed_col word =
    marked cell fixed_col (has_dollar (behind_letters word))
    (plain_address (take (letters_len word) word) (without_dollar (behind_letters word)))

-- an address, of which the column and the row each may have one $ in front
abbrev pub reference_in : Place → List ℕ → Option Reference
reference_in cell word = reference_from cell (has_dollar word) (without_dollar word)

-- the span that an address begins may go on behind it
abbrev pub with_corner : Reference → ℕ → ℕ → Option Reference → Found
with_corner first short long None = record { kind = Cell first; len = short }
with_corner first short long (Some other) = record { kind = Span first other; len = long }

-- behind so many dots; without a dot there is no second corner
abbrev pub corner_behind : Place → ℕ → List ℕ → Option Reference
corner_behind cell dots bytes = if dots == 0 then None else reference_in cell (take (word_len bytes) bytes)

-- so many dots stand behind the address
abbrev pub dotted : Place → Reference → ℕ → ℕ → List ℕ → Found
dotted cell first len dots bytes = with_corner first len (len + dots + word_len bytes) (corner_behind cell dots bytes)

-- an address with what stands behind it: a cell, or a span where dots and a second corner follow
abbrev pub address_found : Place → Reference → ℕ → List ℕ → Found
address_found cell first len behind = dotted cell first len (count_dots behind) (drop (count_dots behind) behind)

-- the span of a name; more than 15 bytes are no name
abbrev pub named_span : NameMap → List ℕ → Option Extent
named_span names name = if nat_le (length name) 15 then get names (key_of name) else None

-- a name of one cell stands for the cell; both coordinates are absolute, or neither
abbrev pub span_kind : Place → ℕ → Bool → Option Extent → LexemeKind
span_kind cell at fixed None = Bad (UnknownName at)
span_kind cell at fixed (Some s) =
    if same_place s.first s.last then Cell (reference_to s.first cell fixed fixed)
    else Span (reference_to s.first cell fixed fixed) (reference_to s.last cell fixed fixed)

-- what a word is as a name, which a $ in front makes absolute
abbrev pub name_kind : NameMap → Place → ℕ → List ℕ → LexemeKind
name_kind names cell at word = span_kind cell at (has_dollar word) (named_span names (without_dollar word))

-- a word that is no address is a name, without its leading $
abbrev pub word_or_address : NameMap → Place → ℕ → List ℕ → ℕ → List ℕ → Option Reference → Found
word_or_address names cell at word len behind None = record { kind = name_kind names cell at word; len = len }
word_or_address names cell at word len behind (Some first) = address_found cell first len behind

-- the word that stands first: an address, a span or a name
abbrev pub word_found : NameMap → Place → ℕ → List ℕ → Found
word_found names cell at bytes =
    word_or_address names cell at (take (word_len bytes) bytes) (word_len bytes) (drop (word_len bytes) bytes)
    (reference_in cell (take (word_len bytes) bytes))
