-- Numbers that go into their cell at once.
use Rattle.std.proofs.Common.{◌≡◌, ◌≤◌, ◌<◌, ◌+◌, ◌-◌, ℕ, ℤ, List, [], ◌∷◌, ◌++◌, Option, Some, true, length, take}
use Rattle.std.proofs.Common.{drop, replicate, refl, sym, ap, ◌∙◌, arith}
use Rattle.std.specs.Prelude.{nat_le, nat_lt}
use Rattle.std.proofs.lemmas.Bool.Decides.{nat_tests}
use Rattle.std.proofs.lemmas.List.{drop-replicate, take-replicate, length-replicate}
use Rattle.fixed_value.specs.Standing.{Stands}
use Rattle.fixed_value.specs.Written.{short, written}
use Rattle.fixed_value.proofs.InPlace.{stood}
use Rattle.cell_format.specs.Format.{shape_of}
use Rattle.cell_format.specs.Numbers.{at_right, fitting, number_text, placed, shown_number, spaces}
use Rattle.cell_format.proofs.Fitting.{all_fit}

-- a text that was put in front of the last byte of a blank cell is at its right
put_right : (width : ℕ) (text cell new : List ℕ) → 0 < width → cell ≡ spaces width → length text ≤ width - 1 →
    Stands text (width - 1 - length text) (width - 1) cell new → new ≡ at_right text width
put_right width text cell new some blank fits s =
    let from : ℕ = width - 1 - length text in
    let front : take from cell ≡ spaces from = ap (take from) blank ∙ take-replicate from width 32 (omega arith) in
    let last : width - (width - 1) ≡ 1 = omega (arith, some) in
    let behind : drop (width - 1) cell ≡ 32 ∷ [] =
    ap (drop (width - 1)) blank ∙ drop-replicate (width - 1) width 32 ∙ ap (λ (k : ℕ). replicate k 32) last in
    stood text from (width - 1) cell new s ∙ ap (λ (l : List ℕ). l ++ (text ++ drop (width - 1) cell)) front
    ∙ ap (λ (l : List ℕ). spaces from ++ (text ++ l)) behind

-- a number with all decimals that it has, which fit, is what the cell shows
pub plain_shown : (v : ℤ) (format width decimals : ℕ) (cell new : List ℕ) → 0 < width → cell ≡ spaces width →
    ((room : ℕ) → number_text (shape_of format) v room ≡ fitting 6 v room) →
    ((p : ℕ) → decimals ≤ p → short v p ≡ written v decimals) → decimals ≤ 6
    → true ≡ nat_le (length (written v decimals)) (width - 1) →
    Stands (written v decimals) (width - 1 - length (written v decimals)) (width - 1) cell new
    → new ≡ shown_number v format width
unfolding shown_number
plain_shown v format width decimals cell new some blank general same few fit s =
    let text : List ℕ = written v decimals in
    let fits : length text ≤ width - 1 = grind (arith, nat_tests, fit) in
    let test : nat_lt (length text) width ≡ true = grind (arith, nat_tests, fits, some) in
    let is : Some text ≡ number_text (shape_of format) v (width - 1) =
    all_fit decimals (width - 1) v same few fits ∙ sym (general (width - 1)) in
    let right : at_right text width ≡ placed (Some text) width = rw test refl in
    put_right width text cell new some blank fits s ∙ right ∙ ap (λ (t : Option (List ℕ)). placed t width) is
