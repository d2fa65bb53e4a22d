-- A screen as its lines.
use Rattle.std.specs.Prelude.{◌≡◌, ℕ, ◌+◌, ◌≤◌, List, ◌++◌, length, take, drop, replicate, slice_set, slice_index_or, [], All}
use Rattle.lics_text.specs.Ascii as ascii

-- 25 lines of 80 bytes
pub record IsScreen (screen : List (List ℕ)) : Type 0 where
  pub lines : length screen ≡ 25
  pub columns : All (λ line. length line ≡ 80) screen

-- the screen that holds the byte 0 everywhere
abbrev pub empty_screen : List (List ℕ)
empty_screen = replicate 25 (replicate 80 0)

-- no byte is below a space, so that the screen differs from the empty one at each place
abbrev pub IsPrinted : List (List ℕ) → Type 0
IsPrinted screen = All (λ line. All (λ b. ascii.space ≤ b) line) screen

-- the line with these bytes from a column on
abbrev pub put_in_line : ℕ → List ℕ → List ℕ → List ℕ
put_in_line col bytes line = take col line ++ bytes ++ drop (col + length bytes) line

-- the screen with these bytes at a place
abbrev pub put_in_screen : ℕ → ℕ → List ℕ → List (List ℕ) → List (List ℕ)
put_in_screen row col bytes screen = slice_set screen row (put_in_line col bytes (slice_index_or screen row []))
