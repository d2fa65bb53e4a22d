-- Texts that are cut and filled.
use Rattle.std.proofs.Common.{◌≡◌, ℕ, ◌-◌, ◌≤◌, List, ◌++◌, length, take, replicate, refl, ap, sym, ◌∙◌}
use Rattle.std.proofs.Common.{arith, inl, inr, append_assoc}
use Rattle.std.specs.Prelude.{min}
use Rattle.std.proofs.lemmas.List.{take-replicate, take_min}
use Rattle.shown_cells.specs.Cells.{padded}

-- a text is added, and filled with blanks
pub text_added : (row text : List ℕ) (width shown : ℕ) → shown ≡ min width (length text) → width ≤ 240
    → (row ++ take shown text) ++ take {A = ℕ} (width - shown) (replicate 240 32) ≡ row ++ padded width text
text_added row text width shown is narrow =
    let blanks : width - shown ≡ width - length text = omega arith in
    append_assoc row (take shown text) (take (width - shown) (replicate 240 32))
    ∙ ap (λ (l : List ℕ). row ++ (l ++ take (width - shown) (replicate 240 32)))
    (ap (λ (k : ℕ). take k text) is ∙ take_min width text)
    ∙ ap (λ (l : List ℕ). row ++ (take width text ++ l))
    (take-replicate (width - shown) 240 32 (omega arith) ∙ ap (λ (k : ℕ). replicate k 32) blanks)
