-- Bytes that have the same first eight and the same last eight.
use Rattle.std.proofs.Common.{◌≡◌, ℕ, ◌+◌, ◌-◌, ◌≤◌, List, ◌++◌, length, take, drop, refl, ap, ◌∙◌, sym, arith}
use Rattle.std.proofs.Common.{length-drop, length-take}
use Rattle.std.proofs.Common.{inl, inr}
use Rattle.std.specs.Int.{from_le_bytes, w64}
use Rattle.std.proofs.lemmas.Bool.{cases_lt}
use Rattle.std.proofs.lemmas.List.{drop-drop, get_or-drop, get_or-take, get_or_past, take-append-drop, take_all}
use Rattle.std.proofs.lemmas.Nat.{le_bytes_8}
use Rattle.wk1_records.specs.Records.{IsBytes}

-- eight of them are bytes
eight_at : (at : ℕ) (bytes : List ℕ) → IsBytes bytes → IsBytes (take 8 (drop at bytes))
eight_at at bytes h i =
    elim (cases_lt i 8) [
      | inl lt ↦ rw (get_or-take 8 (drop at bytes) i 0 lt, get_or-drop at bytes i 0) (h (at + i))
      | inr le ↦
          rw (get_or_past (take 8 (drop at bytes)) i 0 (omega (arith, le, length-take 8 (drop at bytes)))) (omega arith)
    ]

-- eight bytes are the same where their number is
same_eight : (a b : List ℕ) (i j : ℕ) → IsBytes a → IsBytes b → i + 8 ≤ length a → j + 8 ≤ length b
    → from_le_bytes w64 (take 8 (drop i a)) ≡ from_le_bytes w64 (take 8 (drop j b))
    → take 8 (drop i a) ≡ take 8 (drop j b)
same_eight a b i j f g long far same =
    sym (le_bytes_8 (take 8 (drop i a)) (from_le_bytes w64 (take 8 (drop j b)))
    (omega (arith, length-take 8 (drop i a), length-drop i a, long)) (eight_at i a f) (sym same))
    ∙ le_bytes_8 (take 8 (drop j b)) (from_le_bytes w64 (take 8 (drop j b)))
    (omega (arith, length-take 8 (drop j b), length-drop j b, far)) (eight_at j b g) refl

-- so many bytes from a place on are all that stand behind it
all_behind : (at : ℕ) (bytes : List ℕ) → length bytes ≡ at + 8 → take 8 (drop at bytes) ≡ drop at bytes
all_behind at bytes long = take_all 8 (drop at bytes) (omega (arith, length-drop at bytes, long))

-- what stands behind the first eight is in the last eight
last_behind : (at : ℕ) (bytes : List ℕ) → at ≤ 8 → drop 8 bytes ≡ drop (8 - at) (drop at bytes)
last_behind at bytes few =
    let sum : at + (8 - at) ≡ 8 = omega (arith, few) in
    sym (drop-drop (8 - at) at bytes ∙ ap (λ n. drop n bytes) sum)

-- bytes of 8 to 16 are the same where the numbers of both ends are
pub same_ends : (a b : List ℕ) (at : ℕ) → IsBytes a → IsBytes b → length a ≡ at + 8 → length b ≡ at + 8 → at ≤ 8
    → from_le_bytes w64 (take 8 a) ≡ from_le_bytes w64 (take 8 b)
    → from_le_bytes w64 (take 8 (drop at a)) ≡ from_le_bytes w64 (take 8 (drop at b)) → a ≡ b
same_ends a b at f g long far few first last =
    let front : take 8 a ≡ take 8 b =
    same_eight a b 0 0 f g (omega (arith, long)) (omega (arith, far)) first in
    let back : drop at a ≡ drop at b =
    sym (all_behind at a long) ∙ same_eight a b at at f g (omega (arith, long)) (omega (arith, far)) last
    ∙ all_behind at b far in
    sym (take-append-drop 8 a)
    ∙ ap (λ l. l ++ drop 8 a) front
    ∙ ap (λ l. take 8 b ++ l) (last_behind at a few ∙ ap (drop (8 - at)) back ∙ sym (last_behind at b few))
    ∙ take-append-drop 8 b
