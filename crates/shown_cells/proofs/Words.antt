-- Words that stand at the right, and texts that are cut.
use Rattle.std.proofs.Common.{◌≡◌, ℕ, ◌≤◌, List, [], ◌∷◌, ◌++◌, length, take, replicate, refl, sym, ◌∙◌, arith, inl}
use Rattle.std.proofs.Common.{inr, append_assoc}
use Rattle.std.proofs.lemmas.List.{take-replicate}
use Rattle.lics_text.specs.Ascii as ascii

-- the front of a line of blanks is so many blanks
pub blanks_front : (n : ℕ) → n ≤ 240 → take {A = ℕ} n (replicate 240 ascii.space) ≡ replicate n ascii.space
blanks_front n h = take-replicate n 240 ascii.space h

-- the front of a line of stars is so many stars
pub stars_front : (n : ℕ) → n ≤ 240 → take {A = ℕ} n (replicate 240 ascii.star) ≡ replicate n ascii.star
stars_front n h = take-replicate n 240 ascii.star h

-- blanks, a word and a blank behind it, whichever are joined first
pub right_word : (n : ℕ) (word : List ℕ) →
    ([] ++ replicate n ascii.space ++ word) ++ ascii.space ∷ [] ≡ replicate n ascii.space ++ (word ++ ascii.space ∷ [])
right_word n word = append_assoc (replicate n ascii.space) word (ascii.space ∷ [])
