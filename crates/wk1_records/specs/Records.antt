-- Records and their bytes (worksheet file format).
use Rattle.std.specs.Int.{to_le_bytes, w16}
use Rattle.std.specs.Prelude.{ℕ, ◌≡◌, ◌<◌, ◌+◌, List, ◌++◌, length, drop, get_or, flat_map}
use Rattle.wk1_records.specs.Kinds.{number_of}
use Rattle.wk1_records.specs.declared.kind.RecordKind.TheVariants.{Eof}

-- each is below 256
abbrev pub IsBytes : List ℕ → Type 0
IsBytes bytes = (i : ℕ) → get_or bytes i 0 < 256

-- a record: its type, and its body
pub record Piece : Type 0 where
  pub kind : ℕ
  pub body : List ℕ

-- type and length take two bytes each
abbrev pub IsPiece : Piece → Type 0
IsPiece p = (p.kind < 65536) × (length p.body < 65536)

-- the type, the length and the body
abbrev pub piece_bytes : Piece → List ℕ
piece_bytes p = to_le_bytes w16 p.kind ++ (to_le_bytes w16 (length p.body) ++ p.body)

-- the bytes of records, one after another
abbrev pub pieces_bytes : List Piece → List ℕ
pieces_bytes ps = flat_map piece_bytes ps

-- the records of a file: up to its EOF, or up to an offset at which no whole record stands
pub data Records : Type 0 where
  ended : Records
  cut : ℕ → Records
  piece : Piece → Records → Records

-- The bytes from an offset on are these records. Bytes behind EOF belong to none.
pub data Splits : ℕ → List ℕ → Records → Type 0 where
  at_end : {at : ℕ} (p : Piece) (rest : List ℕ) → p.kind ≡ number_of Eof → IsPiece p
      → Splits at (piece_bytes p ++ rest) ended
  at_cut : {at : ℕ} {bytes : List ℕ} → ((p : Piece) (rest : List ℕ) → IsPiece p → bytes ≡ piece_bytes p ++ rest → ⊥)
      → Splits at bytes (cut at)
  at_piece : {at : ℕ} {rs : Records} (p : Piece) (rest : List ℕ) → (p.kind ≡ number_of Eof → ⊥) → IsPiece p
      → Splits (at + (4 + length p.body)) rest rs → Splits at (piece_bytes p ++ rest) (piece p rs)

-- a record of this type and body is at the front of bytes
pub record IsFront (bytes : List ℕ) (kind : ℕ) (body : List ℕ) : Type 0 where
  pub fits : IsPiece (record { kind = kind; body = body })
  pub is : bytes ≡ piece_bytes (record { kind = kind; body = body }) ++ drop (4 + length body) bytes
