-- The parts of a text.
use Rattle.std.specs.Prelude.{ℕ, zero, suc, ◌+◌, ◌-◌, ◌==◌, nat_lt, get_or, List, [], ◌∷◌, if◌then◌else◌}
use Rattle.lics_text.specs.Ascii as ascii
use Rattle.grid_address.specs.Place.{Place}
use Rattle.range_names.specs.Names.{NameMap}
use Rattle.formula_text.specs.Operands.{function_found, number_found, number_len, text_found}
use Rattle.formula_text.specs.Signs.{hash_found, sign_found}
use Rattle.formula_text.specs.Words.{is_word_byte, word_found}
use Rattle.formula_text.specs.declared.lexeme.Found.{Found}
use Rattle.formula_text.specs.declared.lexeme.Lexeme.{Lexeme}

-- by the first byte, where no number stands first
unfoldable pub found_by : NameMap → Place → ℕ → List ℕ → ℕ → Found
found_by names cell at bytes first =
    if first == ascii.quote then text_found at bytes
    else if first == ascii.at_sign then function_found at bytes
    else if first == ascii.hash then hash_found at bytes
    else if is_word_byte first then word_found names cell at bytes
    else sign_found at bytes

-- the part that stands first, which is the longest
unfoldable pub part_found : NameMap → Place → ℕ → List ℕ → Found
part_found names cell at bytes =
    if nat_lt 0 (number_len bytes) then number_found at bytes
    else found_by names cell at bytes (get_or bytes 0 0)

-- the parts of the rest of a text, behind so many bytes of it that belong to the part before
abbrev pub lexed : NameMap → Place → ℕ → ℕ → List ℕ → List Lexeme
lexed names cell skipped at [] = []
lexed names cell (suc skipped) at (b ∷ bs) = lexed names cell skipped (at + 1) bs
lexed names cell zero at (b ∷ bs) =
    if b == ascii.space then lexed names cell 0 (at + 1) bs
    else record { at = at; kind = (part_found names cell at (b ∷ bs)).kind }
    ∷ lexed names cell ((part_found names cell at (b ∷ bs)).len - 1) (at + 1) bs
