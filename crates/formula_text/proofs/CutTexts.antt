-- A text behind its sign, cut off after the text itself was.
use Rattle.std.proofs.Common.{◌≡◌, ◌&&◌, nat_le, List, ℕ, [], ◌∷◌, ◌++◌, length, take, refl, ap, ◌∙◌}
use Rattle.formula_text.specs.Printed.{sign_for}
use Rattle.formula_text.proofs.Outputs.{cut_behind, whole_behind}

same_sign : (text : List ℕ) → sign_for (take 240 text) ≡ sign_for text
same_sign [] = refl
same_sign (b ∷ bs) = refl

-- the sign and the text, cut off, are the same where the text was cut off before
pub printed_line : (text shown : List ℕ) → shown ≡ take 240 text
    → take 240 (sign_for shown ++ shown) ≡ take 240 (sign_for text ++ text)
printed_line text shown h = ap (λ x. take 240 (sign_for x ++ x)) h
    ∙ ap (λ s. take 240 (s ++ take 240 text)) (same_sign text) ∙ cut_behind (sign_for text) text

-- the sign and the text fit in the same cases where the text was cut off before
pub printed_whole : (text shown : List ℕ) → shown ≡ take 240 text → (nat_le
    (length (sign_for shown ++ shown)) 240 && nat_le (length text) 240) ≡ nat_le (length (sign_for text ++ text)) 240
printed_whole text shown h =
    ap (λ x. nat_le (length (sign_for x ++ x)) 240 && nat_le (length text) 240) h
    ∙ ap (λ s. nat_le (length (s ++ take 240 text)) 240 && nat_le (length text) 240) (same_sign text)
    ∙ whole_behind (sign_for text) text
