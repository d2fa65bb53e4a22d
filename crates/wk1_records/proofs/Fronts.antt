-- The record at the front of bytes.
use Rattle.std.proofs.Common.{◌≡◌, ℕ, ◌+◌, ◌≤◌, ◌<◌, List, ◌++◌, length, take, drop, refl, ap, ◌∙◌, sym, arith}
use Rattle.std.proofs.Common.{length-append, length-drop, length-take}
use Rattle.std.specs.Int.{to_le_bytes, w16}
use Rattle.std.proofs.lemmas.List.{drop-drop, get_or-drop, get_or-take, get_or_past, take-append-drop}
use Rattle.std.proofs.lemmas.Nat.{from_le_bytes-to_le_bytes_2, le_bytes_2}
use Rattle.std.proofs.lemmas.Bool.{cases_lt}
use Rattle.std.proofs.Common.{inl, inr}
use Rattle.wk1_formula.specs.Reading.{short_at}
use Rattle.wk1_records.specs.Records.{piece_bytes, IsBytes, IsFront, IsPiece, Piece}

few_at : (at : ℕ) (bytes : List ℕ) → IsBytes bytes → IsBytes (take 2 (drop at bytes))
few_at at bytes h i =
    elim (cases_lt i 2) [
      | inl lt ↦ rw (get_or-take 2 (drop at bytes) i 0 lt, get_or-drop at bytes i 0) (h (at + i))
      | inr le ↦
          rw (get_or_past (take 2 (drop at bytes)) i 0 (omega (arith, le, length-take 2 (drop at bytes)))) (omega arith)
    ]

-- two bytes are those of their number
short_back : (at : ℕ) (bytes : List ℕ) → IsBytes bytes → at + 2 ≤ length bytes
    → to_le_bytes w16 (short_at at bytes) ≡ take 2 (drop at bytes)
short_back at bytes h long =
    le_bytes_2 (take 2 (drop at bytes)) (short_at at bytes)
    (omega (arith, length-take 2 (drop at bytes), length-drop at bytes, long)) (few_at at bytes h) refl

short_less : (at : ℕ) (bytes : List ℕ) → IsBytes bytes → short_at at bytes < 65536
short_less at bytes h = (let f = few_at at bytes h in omega (arith, f 0, f 1))

-- bytes that are not too few for the length that they state begin with a record of it
pub whole_piece : (bytes : List ℕ) → IsBytes bytes → 4 ≤ length bytes → 4 + short_at 2 bytes ≤ length bytes
    → IsFront bytes (short_at 0 bytes) (take (short_at 2 bytes) (drop 4 bytes))
whole_piece bytes h four long =
    let n : ℕ = short_at 2 bytes in
    let body : List ℕ = take n (drop 4 bytes) in
    let size : length body ≡ n = omega (arith, length-take n (drop 4 bytes), length-drop 4 bytes, long) in
    let tail : drop n (drop 4 bytes) ≡ drop (4 + length body) bytes =
    drop-drop n 4 bytes ∙ ap (λ k. drop (4 + k) bytes) (sym size) in
    let third : drop 4 bytes ≡ body ++ drop (4 + length body) bytes =
    sym (take-append-drop n (drop 4 bytes)) ∙ ap (λ l. body ++ l) tail in
    let second : drop 2 bytes ≡ to_le_bytes w16 (length body) ++ (body ++ drop (4 + length body) bytes) =
    sym (take-append-drop 2 (drop 2 bytes))
    ∙ ap (λ l. l ++ drop 2 (drop 2 bytes)) (sym (short_back 2 bytes h (omega (arith, four))))
    ∙ ap (λ l. to_le_bytes w16 n ++ l) (drop-drop 2 2 bytes ∙ third)
    ∙ ap (λ k. to_le_bytes w16 k ++ (body ++ drop (4 + length body) bytes)) (sym size) in
    record {
      fits = (short_less 0 bytes h, omega (arith, size, short_less 2 bytes h));
      is =
          sym (take-append-drop 2 bytes)
          ∙ ap (λ l. l ++ drop 2 bytes) (sym (short_back 0 bytes h (omega (arith, four))))
          ∙ ap (λ l. to_le_bytes w16 (short_at 0 bytes) ++ l) second;
    }

-- bytes that are too few for the length that they state are no whole record
pub no_piece : (bytes : List ℕ) → length bytes < 4 + short_at 2 bytes → (p : Piece) (rest : List ℕ) → IsPiece p
    → bytes ≡ piece_bytes p ++ rest → ⊥
no_piece bytes few p rest h e =
    let stated : short_at 2 bytes ≡ length p.body =
    ap (short_at 2) e ∙ from_le_bytes-to_le_bytes_2 (length p.body) (omega (arith, h.1)) in
    let size : length bytes ≡ 4 + (length p.body + length rest) =
    ap length e ∙ omega (arith, length-append p.body rest) in
    absurd (omega (arith, few, stated, size))

-- fewer than four bytes are no whole record
pub too_few : (bytes : List ℕ) → length bytes < 4 → (p : Piece) (rest : List ℕ) → IsPiece p
    → bytes ≡ piece_bytes p ++ rest → ⊥
too_few bytes few p rest h e =
    let size : length bytes ≡ 4 + (length p.body + length rest) =
    ap length e ∙ omega (arith, length-append p.body rest) in
    absurd (omega (arith, few, size))
