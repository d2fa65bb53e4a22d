-- The parts of which bodies are made.
use Rattle.std.specs.Int.{to_le_bytes, w16}
use Rattle.std.specs.Prelude.{ℕ, List, ◌∷◌, ◌++◌}
use Rattle.grid_address.specs.Place.{Place}
use Rattle.sheet_store.specs.State.{CellState}
use Rattle.wk1_records.specs.Kinds.{number_of}
use Rattle.wk1_records.specs.Records.{Piece}
use Rattle.wk1_records.specs.declared.kind.RecordKind.{RecordKind}

-- a cell as two numbers of two bytes, the column first
abbrev pub place_bytes : Place → List ℕ
place_bytes p = to_le_bytes w16 p.col ++ to_le_bytes w16 p.row

-- a cell's format byte and place
abbrev pub head : Place → CellState → List ℕ
head p s = s.format.0 ∷ place_bytes p

-- the record of a type and a body
abbrev pub made : RecordKind → List ℕ → Piece
made k body = record { kind = number_of k; body = body }
