-- Texts that are cut, filled and shown.
use Rattle.std.proofs.Common.{◌≡◌, ℕ, ◌-◌, ◌≤◌, List, [], ◌++◌, length, map, take, replicate, ap, ◌∙◌, arith}
use Rattle.std.specs.Prelude.{min}
use Rattle.std.specs.List.{slice_index_or}
use Rattle.std.proofs.lemmas.List.{length-map, take_min}
use Rattle.std.proofs.lemmas.List.Elements.{All-map}
use Rattle.lics_text.specs.Bytes.{IsText}
use Rattle.shown_cells.specs.Cells.{padded, shown_byte}
use Rattle.shown_cells.proofs.Bytes.{shown_least}

-- a text is cut, and filled with blanks
pub text_padded : (text : List ℕ) (width shown : ℕ) → shown ≡ min width (length text)
    → ([] ++ take shown text) ++ replicate (width - shown) 32 ≡ padded width text
text_padded text width shown is =
    let blanks : width - shown ≡ width - length text = omega arith in
    ap (λ (l : List ℕ). l ++ replicate (width - shown) 32) (ap (λ (k : ℕ). take k text) is ∙ take_min width text)
    ∙ ap (λ (k : ℕ). take width text ++ replicate k 32) blanks

-- bytes as they are shown are a text
pub shown_is_text : (bytes : List ℕ) → length bytes ≤ 240 → IsText (map shown_byte bytes)
shown_is_text bytes short = (
  omega (arith, short, length-map bytes shown_byte),
  All-map (λ b. 32 ≤ b) shown_byte bytes (λ k d inside. shown_least (slice_index_or bytes k d)),
)
