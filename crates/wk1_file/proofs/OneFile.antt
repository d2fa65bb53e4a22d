-- Bytes are one file.
use Rattle.std.proofs.Common.{◌≡◌, ℕ, ◌+◌, ◌≤◌, ◌<◌, true, false, List, ◌++◌, length, take, drop, refl, ap, ◌∙◌, sym}
use Rattle.std.proofs.Common.{arith}
use Rattle.std.specs.Int.{from_le_bytes, to_le_bytes, w16}
use Rattle.std.specs.Prelude.{Result, Err}
use Rattle.std.proofs.lemmas.List.{drop_at, take_at}
use Rattle.std.proofs.lemmas.Nat.{from_le_bytes-to_le_bytes_2}
use Rattle.sheet_store.specs.declared.writes.SavedSheet.{SavedSheet}
use Rattle.wk1_formula.specs.Reading.{short_at}
use Rattle.wk1_file.specs.Files.{has_bof, large, bare, read, IsFile}
use Rattle.wk1_records.specs.Records.{at_cut, at_end, at_piece, cut, ended, piece, piece_bytes, IsPiece, Piece, Records}
use Rattle.wk1_records.specs.Records.{Splits}
use Rattle.wk1_file.specs.Sheets.{sheet_of}
use Rattle.wk1_records.specs.declared.fault.Wk1Fault.{Wk1Fault}
use Rattle.wk1_records.specs.declared.fault.Wk1Fault.TheVariants as fault

data Inverted (at : ℕ) (bytes : List ℕ) : Records → Type 0 where
  by_end : (p : Piece) (rest : List ℕ) → bytes ≡ piece_bytes p ++ rest → p.kind ≡ 1 → IsPiece p
      → Inverted at bytes ended
  by_cut : ((p : Piece) (rest : List ℕ) → IsPiece p → bytes ≡ piece_bytes p ++ rest → ⊥) → Inverted at bytes (cut at)
  by_piece : {rs : Records} (p : Piece) (rest : List ℕ) → bytes ≡ piece_bytes p ++ rest → (p.kind ≡ 1 → ⊥) → IsPiece p
      → Splits (at + (4 + length p.body)) rest rs → Inverted at bytes (piece p rs)

inverted : {at : ℕ} {bytes : List ℕ} {r : Records} → Splits at bytes r → Inverted at bytes r
inverted (at_end p rest e h) = by_end p rest refl e h
inverted (at_cut none) = by_cut none
inverted (at_piece p rest e h d) = by_piece p rest refl e h d

back : (n : ℕ) → n < 65536 → from_le_bytes w16 (to_le_bytes w16 n) ≡ n
back n h = from_le_bytes-to_le_bytes_2 n (omega (arith, h))

-- one record is at the front of bytes
same_piece : (p q : Piece) (r s : List ℕ) → IsPiece p → IsPiece q → piece_bytes p ++ r ≡ piece_bytes q ++ s
    → (p ≡ q) × (r ≡ s)
same_piece p q r s hp hq e =
    let kind : p.kind ≡ q.kind = sym (back p.kind hp.0) ∙ ap (short_at 0) e ∙ back q.kind hq.0 in
    let size : length p.body ≡ length q.body =
    sym (back (length p.body) hp.1) ∙ ap (short_at 2) e ∙ back (length q.body) hq.1 in
    let rest : p.body ++ r ≡ q.body ++ s = ap (drop 4) e in
    let body : p.body ≡ q.body =
    sym (take_at p.body r (length q.body) size) ∙ ap (take (length q.body)) rest
    ∙ take_at q.body s (length q.body) refl in
    let behind : r ≡ s =
    sym (drop_at p.body r (length q.body) size) ∙ ap (drop (length q.body)) rest
    ∙ drop_at q.body s (length q.body) refl in
    ((λ i. record { kind = kind i; body = body i }), behind)

one_split : {at : ℕ} {bytes : List ℕ} {r : Records} → Splits at bytes r → (q : Records) (k : ℕ) (other : List ℕ)
    → k ≡ at → other ≡ bytes → Inverted k other q → r ≡ q
one_split (at_end p rest e h) q k other same is (by_end p2 rest2 is2 e2 h2) = refl
one_split (at_end p rest e h) q k other same is (by_cut none) = absurd (none p rest h is)
one_split (at_end p rest e h) q k other same is (by_piece p2 rest2 is2 e2 h2 d2) =
    (let x = same_piece p p2 rest rest2 h h2 (sym is ∙ is2) in absurd (e2 (sym (ap (λ (y : Piece). y.kind) x.0) ∙ e)))
one_split (at_cut none) q k other same is (by_end p2 rest2 is2 e2 h2) = absurd (none p2 rest2 h2 (sym is ∙ is2))
one_split (at_cut none) q k other same is (by_cut none2) = ap cut (sym same)
one_split (at_cut none) q k other same is (by_piece p2 rest2 is2 e2 h2 d2) = absurd (none p2 rest2 h2 (sym is ∙ is2))
one_split (at_piece p rest e h d) q k other same is (by_end p2 rest2 is2 e2 h2) =
    (let x = same_piece p p2 rest rest2 h h2 (sym is ∙ is2) in absurd (e (ap (λ (y : Piece). y.kind) x.0 ∙ e2)))
one_split (at_piece p rest e h d) q k other same is (by_cut none) = absurd (none p rest h is)
one_split (at_piece {at} p rest e h d) q k other same is (by_piece {rs} p2 rest2 is2 e2 h2 d2) =
    let x = same_piece p p2 rest rest2 h h2 (sym is ∙ is2) in
    let size : length p2.body ≡ length p.body = ap (λ (y : Piece). length y.body) (sym x.0) in
    let next = one_split d rs (k + (4 + length p2.body)) rest2 (omega (arith, same, size)) (sym x.1) (inverted d2) in
    λ i. piece (x.0 i) (next i)

-- the records of bytes
pub one_records : (at : ℕ) (bytes : List ℕ) (r q : Records) → Splits at bytes r → Splits at bytes q → r ≡ q
one_records at bytes r q a b = one_split a q at bytes refl refl (inverted b)

data Answered (bytes : List ℕ) : Result SavedSheet Wk1Fault → Type 0 where
  by_large : 67108864 < length bytes → Answered bytes (Err fault.FileTooLarge)
  by_bare : length bytes ≤ 67108864 → has_bof bytes ≡ false → Answered bytes (Err fault.NoBof)
  by_read : (rs : Records) → length bytes ≤ 67108864 → has_bof bytes ≡ true → Splits 0 bytes rs
      → Answered bytes (sheet_of rs)

answered : {bytes : List ℕ} {x : Result SavedSheet Wk1Fault} → IsFile bytes x → Answered bytes x
answered (large h) = by_large h
answered (bare h e) = by_bare h e
answered (read {bytes} {rs} h e d) = by_read rs h e d

same_answer : (bytes : List ℕ) {x y : Result SavedSheet Wk1Fault} → Answered bytes x → Answered bytes y → x ≡ y
same_answer bytes (by_large h) (by_large k) = refl
same_answer bytes (by_large h) (by_bare k f) = absurd (omega (arith, h, k))
same_answer bytes (by_large h) (by_read rs k f d) = absurd (omega (arith, h, k))
same_answer bytes (by_bare h e) (by_large k) = absurd (omega (arith, h, k))
same_answer bytes (by_bare h e) (by_bare k f) = refl
same_answer bytes (by_bare h e) (by_read rs k f d) = absurd (let x = sym e ∙ f in cc)
same_answer bytes (by_read rs h e d) (by_large k) = absurd (omega (arith, h, k))
same_answer bytes (by_read rs h e d) (by_bare k f) = absurd (let x = sym e ∙ f in cc)
same_answer bytes (by_read rs h e d) (by_read qs k f c) = ap sheet_of (one_records 0 bytes rs qs d c)

-- bytes are one sheet, or have one fault
pub one_file : (bytes : List ℕ) (x y : Result SavedSheet Wk1Fault) → IsFile bytes x → IsFile bytes y → x ≡ y
one_file bytes x y a b = same_answer bytes (answered a) (answered b)
