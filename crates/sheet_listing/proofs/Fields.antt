-- Fields one by one.
use Rattle.std.proofs.Common.{◌≡◌, ℕ, ◌<◌, true, false, List, [], ◌∷◌, ◌++◌, length, refl, arith}
use Rattle.sheet_listing.specs.Lines.{TAB, field, is_empty}

-- an empty field is left out with what is empty behind it
pub empty_field : (text behind : List ℕ) → (0 < length text → ⊥) → is_empty behind ≡ is_empty (field text behind)
empty_field [] [] h = refl
empty_field [] (b ∷ bs) h = refl
empty_field (b ∷ bs) behind h = absurd (h (omega arith))

-- a field that holds something is there
pub full_field : (text behind : List ℕ) → 0 < length text → is_empty (field text behind) ≡ false
full_field [] behind h = absurd (omega arith)
full_field (b ∷ bs) behind h = refl

-- where all fields are empty nothing stands
pub no_field : (fields : List ℕ) → is_empty fields ≡ true → fields ≡ []
no_field [] h = refl
no_field (b ∷ bs) h = absurd cc

-- and else a field stands behind its tab
pub some_field : (text behind : List ℕ) → is_empty (field text behind) ≡ false →
    field text behind ≡ TAB ∷ (text ++ behind)
some_field [] [] h = absurd cc
some_field [] (b ∷ bs) h = refl
some_field (b ∷ bs) behind h = refl
