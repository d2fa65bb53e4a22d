-- The head of a cell's record.
use Rattle.std.proofs.Common.{◌≡◌, ℕ, ◌≤◌, true, false, ◌&&◌, List, ◌++◌, length, refl, ap, ◌∙◌, arith}
use Rattle.std.specs.Int.{from_le_bytes, to_le_bytes, w16}
use Rattle.std.specs.Prelude.{nat_lt, not, Ok}
use Rattle.std.proofs.lemmas.Bool.Decides.{nat_tests}
use Rattle.std.proofs.lemmas.Nat.{from_le_bytes-to_le_bytes_2}
use Rattle.std.proofs.lemmas.Bool.{and_right}
use Rattle.grid_address.specs.Place.{InSheet, Place}
use Rattle.sheet_store.specs.State.{CellState}
use Rattle.wk1_formula.proofs.Fronts.{no_less}
use Rattle.wk1_records.specs.Kinds.{has_head, kind_of, least_length}
use Rattle.wk1_records.specs.Meanings.{cell_of, is_inside, meaning, meaning_by, said}
use Rattle.wk1_records.specs.Bodies.{head, made}
use Rattle.wk1_records.specs.declared.entry.Entry.{Entry}
use Rattle.wk1_records.specs.declared.kind.RecordKind.{RecordKind}
use Rattle.wk1_records.specs.declared.kind.RecordKind.TheVariants as kind

-- a place in the sheet passes the test of one
pub inside_is : (p : Place) → InSheet p → is_inside p ≡ true
inside_is p h =
    (let row : nat_lt p.row 8192 ≡ true = (let l = h.0 in grind (arith, nat_tests, l)) in
    let col : nat_lt p.col 256 ≡ true = (let l = h.1 in grind (arith, nat_tests, l)) in rw (row, col) refl)

-- the cell of a head is read
pub head_cell : (p : Place) (s : CellState) (rest : List ℕ) → InSheet p → cell_of (head p s ++ rest) ≡ p
head_cell p s rest h =
    let row : from_le_bytes w16 (to_le_bytes w16 p.row) ≡ p.row =
    from_le_bytes-to_le_bytes_2 p.row (omega (arith, h.0)) in
    let col : from_le_bytes w16 (to_le_bytes w16 p.col) ≡ p.col =
    from_le_bytes-to_le_bytes_2 p.col (omega (arith, h.1)) in
    λ i. record { row = row i; col = col i }

-- a body that is long enough, and whose cell is in the sheet, says what its type makes of it
pub tested : (n : ℕ) (body : List ℕ) (k : RecordKind) (e : Entry) → least_length k body ≤ length body
    → (has_head k && not (is_inside (cell_of body))) ≡ false → said n body k ≡ Ok e → meaning_by n body k ≡ Ok e
tested n body k e long inside says = rw (no_less (length body) (least_length k body) long, inside) says

-- a record that is made of a type has it
pub by_type : (n : ℕ) (k : RecordKind) (body : List ℕ) → (k ≡ kind.Other → ⊥)
    → meaning n (made k body) ≡ meaning_by n body k
unfolding kind_of
by_type n kind.Bof body some = refl
by_type n kind.Eof body some = refl
by_type n kind.CalcMode body some = refl
by_type n kind.CalcOrder body some = refl
by_type n kind.Range body some = refl
by_type n kind.Window body some = refl
by_type n kind.ColumnWidth body some = refl
by_type n kind.Name body some = refl
by_type n kind.Blank body some = refl
by_type n kind.Integer body some = refl
by_type n kind.Number body some = refl
by_type n kind.Label body some = refl
by_type n kind.Formula body some = refl
by_type n kind.Protection body some = refl
by_type n kind.LabelFormat body some = refl
by_type n kind.CalcCount body some = refl
by_type n kind.Str body some = refl
by_type n kind.HiddenColumns body some = refl
by_type n kind.Other body some = absurd (some refl)

-- the same of a body with a head
pub headed : (n : ℕ) (p : Place) (s : CellState) (rest : List ℕ) (k : RecordKind) (e : Entry) → InSheet p
    → (k ≡ kind.Other → ⊥) → least_length k (head p s ++ rest) ≤ length (head p s ++ rest)
    → said n (head p s ++ rest) k ≡ Ok e → meaning n (made k (head p s ++ rest)) ≡ Ok e
headed n p s rest k e h some long says =
    let inside : is_inside (cell_of (head p s ++ rest)) ≡ true = ap is_inside (head_cell p s rest h) ∙ inside_is p h in
    by_type n k (head p s ++ rest) some
    ∙ tested n (head p s ++ rest) k e long (ap (λ b. has_head k && not b) inside ∙ and_right (has_head k) false refl)
    says
