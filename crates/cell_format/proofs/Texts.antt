-- Texts of labels.
use Rattle.std.proofs.Common.{◌≡◌, ◌-◌, ◌+◌, ◌%◌, ℕ, suc, List, [], ◌∷◌, ◌++◌, length, map, take, get_or, min, sym, ap}
use Rattle.std.proofs.Common.{◌∙◌, arith, append_assoc}
use Rattle.std.proofs.lemmas.List.{append-nil, length-map, take-map, take_min}
use Rattle.std.proofs.Math.Nat.{min_comm}
use Rattle.cell_format.specs.Labels.{at_left, masked, repeated}
use Rattle.cell_format.specs.Numbers.{spaces}

-- one more byte of a repeated text
pub repeated_more : (text : List ℕ) (width : ℕ)
    → repeated text (width + 1) ≡ repeated text width ++ get_or text (width % length text) 32 ∷ []
unfolding repeated
repeated_more text width = (let more : width + 1 ≡ suc width = omega arith in ap (repeated text) more)

-- in no width nothing is repeated
pub none_repeated : (text line : List ℕ) → line ≡ line ++ repeated text 0
unfolding repeated
none_repeated text line = sym (append-nil line)

-- a text that is cut, with blanks behind it, stands at the left
pub left_is : (bytes line : List ℕ) (width len : ℕ) → len ≡ min (length bytes) width
    → (line ++ map masked (take len bytes)) ++ spaces (width - len) ≡ line ++ at_left (map masked bytes) width
left_is bytes line width len is =
    let front : map masked (take len bytes) ≡ take width (map masked bytes) =
    sym (take-map masked width bytes
    ∙ ap (map masked) (sym (ap (λ k. take k bytes) (is ∙ min_comm (length bytes) width) ∙ take_min width bytes))) in
    let free : width - len ≡ width - length (map masked bytes) = omega (arith, is, length-map bytes masked) in
    append_assoc line (map masked (take len bytes)) (spaces (width - len))
    ∙ ap (λ (l : List ℕ). line ++ (l ++ spaces (width - len))) front
    ∙ ap (λ k. line ++ (take width (map masked bytes) ++ spaces k)) free
