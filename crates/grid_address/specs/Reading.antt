-- Addresses and spans as they are read.
use Rattle.std.specs.Char.{to_ascii_uppercase}
use Rattle.std.specs.Prelude.{ℕ, ◌≡◌, ◌≤◌, ◌<◌, ◌+◌, List, [], ◌∷◌, ◌++◌, length, take, map, ◌⊎◌}
use Rattle.lics_text.specs.Ascii as ascii
use Rattle.grid_address.specs.Address.{address_of}
use Rattle.grid_address.specs.Place.{spanned, Extent, InSheet, Place}

-- the bytes are the address of the cell, in letters of either case
abbrev pub SpellsCell : List ℕ → Place → Type 0
SpellsCell bytes p = (map to_ascii_uppercase bytes ≡ address_of p) × InSheet p

-- one dot, or two
abbrev pub AreDots : List ℕ → Type 0
AreDots dots = (dots ≡ ascii.dot ∷ []) ⊎ (dots ≡ ascii.dot ∷ ascii.dot ∷ [])

-- the address of one cell, which is a span of its own
pub record IsOneCell (bytes : List ℕ) (s : Extent) : Type 0 where
  pub cell : Place
  pub spelled : SpellsCell bytes cell
  pub is : s ≡ record { first = cell; last = cell }

-- the addresses of two corners, in any order, with one or two dots between them
pub record IsTwoCells (bytes : List ℕ) (s : Extent) : Type 0 where
  pub left : List ℕ
  pub dots : List ℕ
  pub right : List ℕ
  pub one : Place
  pub other : Place
  pub parts : bytes ≡ left ++ (dots ++ right)
  pub parted : AreDots dots
  pub spelled_left : SpellsCell left one
  pub spelled_right : SpellsCell right other
  pub is : s ≡ spanned one other

-- bytes spell a span: one cell, or two cells with points between them
abbrev pub SpellsSpan : List ℕ → Extent → Type 0
SpellsSpan bytes s = IsOneCell bytes s ⊎ IsTwoCells bytes s

-- bytes spell some cell
abbrev pub IsAddress : List ℕ → Type 0
IsAddress bytes = (p : Place) × SpellsCell bytes p

-- bytes spell some span
abbrev pub IsSpan : List ℕ → Type 0
IsSpan bytes = (s : Extent) × SpellsSpan bytes s

-- some bytes behind these make one
abbrev pub Begins : (List ℕ → Type 0) → List ℕ → Type 0
Begins Is bytes = (rest : List ℕ) × Is (bytes ++ rest)

-- The first byte that can't go on: the bytes before it begin one, and with it they begin none. Where all bytes begin
-- one and are none, it is the place behind them.
pub record StopsAt (Is : List ℕ → Type 0) (bytes : List ℕ) (at : ℕ) : Type 0 where
  pub within : at ≤ length bytes
  pub begins : Begins Is (take at bytes)
  pub stops : at < length bytes → Begins Is (take (at + 1) bytes) → ⊥
  pub short : at ≡ length bytes → Is bytes → ⊥
