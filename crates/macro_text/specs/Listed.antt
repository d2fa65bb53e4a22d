-- The arguments that stand behind a word's name.
use Rattle.std.specs.Prelude.{ℕ, ◌+◌, ◌-◌, ◌==◌, ◌||◌, ◌&&◌, not, Bool, true, false, List, [], ◌∷◌, if◌then◌else◌}
use Rattle.lics_text.specs.Ascii as ascii
use Rattle.key_words.specs.declared.macro_word.Arguments.{Arguments}
use Rattle.key_words.specs.declared.macro_word.Arguments.TheVariants as arguments
use Rattle.macro_text.specs.Texts.{part}

-- a comma or a semicolon
abbrev pub is_separator : ℕ → Bool
is_separator b = b == ascii.comma || b == ascii.semicolon

-- a quote
abbrev pub is_quote : ℕ → Bool
is_quote b = b == ascii.quote

-- how many round brackets are open behind a byte; one that closes none is passed over
abbrev pub depth_behind : ℕ → ℕ → ℕ
depth_behind depth b =
    if b == ascii.opening_parenthesis then depth + 1
    else if b == ascii.closing_parenthesis then depth - 1
    else depth

-- a byte in front of the first argument
abbrev pub onto : ℕ → List (List ℕ) → List (List ℕ)
onto b [] = (b ∷ []) ∷ []
onto b (a ∷ more) = (b ∷ a) ∷ more

-- The arguments: separators part them outside quotes and outside round brackets, of which so many are open.
abbrev pub split_from : Bool → ℕ → List ℕ → List (List ℕ)
split_from quoted depth [] = [] ∷ []
split_from true depth (b ∷ bs) = onto b (split_from (not (is_quote b)) depth bs)
split_from false depth (b ∷ bs) =
    if is_separator b && depth == 0 then [] ∷ split_from false 0 bs
    else onto b (split_from (is_quote b) (depth_behind depth b) bs)

-- whether bytes end inside quotes, which begin there or not; quotes count from a word's opening brace on
abbrev pub ends_quoted : Bool → List ℕ → Bool
ends_quoted quoted [] = quoted
ends_quoted quoted (b ∷ bs) = ends_quoted (if is_quote b then not quoted else quoted) bs

-- the arguments of a word, whose name may have opened a quote
abbrev pub arguments_of : Bool → List ℕ → Arguments → List (List ℕ)
arguments_of quoted text arguments.Nothing = []
arguments_of quoted text (arguments.Listed c) = split_from quoted 0 (part text c)
arguments_of quoted text (arguments.One c) = part text c ∷ []
arguments_of quoted text (arguments.Two c d) = part text c ∷ part text d ∷ []
