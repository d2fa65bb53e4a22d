-- What the calls of a text answer.
use Rattle.std.specs.Char.{is_ascii_alphabetic, to_ascii_lowercase, to_ascii_uppercase}
use Rattle.std.specs.Prelude.{ℕ, ◌≡◌, ◌≤◌, ◌<◌, ◌+◌, List, [], ◌∷◌, ◌++◌, length, take, drop, Option, Some, None, Result, Ok, Err, Bool, true, false, nat_lt, nat_le, ◌==◌, ◌&&◌, position, if◌then◌else◌}
use Rattle.lics_text.specs.Ascii as ascii
use Rattle.lics_text.specs.ByteLists.{with_byte}
use Rattle.lics_text.specs.Limits.{MAX_LEN}
use Rattle.lics_text.specs.declared.faults.TextFault.{TextFault}
use Rattle.lics_text.specs.declared.faults.TextFault.TheVariants.{TooLong, BadByte}

-- the bytes, unless one of them is bad
abbrev pub unless_bad : Option ℕ → List ℕ → Result (List ℕ) TextFault
unless_bad None bytes = Ok bytes
unless_bad (Some at) bytes = Err (BadByte at)

-- the text of the bytes, or its first fault
abbrev pub text_of : List ℕ → Result (List ℕ) TextFault
text_of bytes =
    if nat_lt MAX_LEN (length bytes) then Err TooLong
    else unless_bad (position (λ b. nat_lt b ascii.space) bytes) bytes

-- a text with a byte at its end
abbrev pub pushed_text : List ℕ → ℕ → Result (List ℕ) TextFault
pushed_text bytes b =
    if nat_le MAX_LEN (length bytes) then Err TooLong
    else (if nat_lt b ascii.space then Err (BadByte (length bytes)) else Ok (bytes ++ b ∷ []))

-- a line with one more byte, which is passed over at 240
abbrev pub line_with : List ℕ → ℕ → List ℕ
line_with = with_byte MAX_LEN

-- Each letter that follows no letter is raised, and the others are lowered; the flag says whether a letter stands
-- before.
abbrev pub proper_after : Bool → List ℕ → List ℕ
proper_after before [] = []
proper_after before (b ∷ bs) =
    (if before then to_ascii_lowercase b else to_ascii_uppercase b) ∷ proper_after (is_ascii_alphabetic b) bs

-- the same for a whole text, before which no letter stands
abbrev pub proper_of : List ℕ → List ℕ
proper_of bytes = proper_after false bytes

-- a space, or the end
abbrev pub is_gap : List ℕ → Bool
is_gap [] = true
is_gap (b ∷ bs) = b == ascii.space

-- a space is left out where another follows it, and at the end
abbrev pub single_spaced : List ℕ → List ℕ
single_spaced [] = []
single_spaced (b ∷ bs) = if b == ascii.space && is_gap bs then single_spaced bs else b ∷ single_spaced bs

-- the bytes from the first on that is no space
abbrev pub without_front : List ℕ → List ℕ
without_front [] = []
without_front (b ∷ bs) = if b == ascii.space then without_front bs else b ∷ bs

-- no space at the ends, and one between words
abbrev pub trimmed : List ℕ → List ℕ
trimmed bytes = single_spaced (without_front bytes)

-- the bytes stand in the text at this place
pub record StandsAt (what text : List ℕ) (at : ℕ) : Type 0 where
  pub within : at + length what ≤ length text
  pub same : take (length what) (drop at text) ≡ what

-- the first place from the given one on at which the bytes stand
pub record IsFirstPlace (what text : List ℕ) (from at : ℕ) : Type 0 where
  pub later : from ≤ at
  pub stands : StandsAt what text at
  pub first : (k : ℕ) → from ≤ k → k < at → StandsAt what text k → ⊥

-- the bytes stand nowhere in the text from the given place on
abbrev pub IsNoPlace : List ℕ → List ℕ → ℕ → Type 0
IsNoPlace what text from = (k : ℕ) → from ≤ k → StandsAt what text k → ⊥
