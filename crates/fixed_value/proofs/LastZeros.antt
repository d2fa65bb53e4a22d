-- Zeros at the end.
use Rattle.std.proofs.Common.{◌≡◌, ℕ, Bool, false, List, [], ◌∷◌, ◌++◌, refl, ap, ◌∙◌}
use Rattle.std.specs.Prelude.{◌==◌, ◌&&◌}
use Rattle.std.specs.List.{list_all}
use Rattle.std.proofs.lemmas.List.Folds.{list_all-append}
use Rattle.std.proofs.Math.Bool.{and-true, and-false}
use Rattle.fixed_value.specs.Written.{without_last_zeros}

-- the byte is a zero's
abbrev pub is_zero : ℕ → Bool
is_zero e = e == 48

-- a zero at the end is dropped
pub zero_dropped : (xs : List ℕ) → without_last_zeros (xs ++ 48 ∷ []) ≡ without_last_zeros xs
zero_dropped [] = refl
zero_dropped (x ∷ xs) =
    let all : list_all is_zero ((x ∷ xs) ++ 48 ∷ []) ≡ list_all is_zero (x ∷ xs) =
    list_all-append is_zero (x ∷ xs) (48 ∷ []) ∙ and-true (list_all is_zero (x ∷ xs)) in
    rw (all, zero_dropped xs) refl

-- a digit at the end that is no zero stays, with all before it
pub digit_kept : (xs : List ℕ) (d : ℕ) → (d == 48) ≡ false → without_last_zeros (xs ++ d ∷ []) ≡ xs ++ d ∷ []
digit_kept [] d h = rw h refl
digit_kept (x ∷ xs) d h =
    let last : list_all is_zero (d ∷ []) ≡ false = rw h refl in
    let all : list_all is_zero ((x ∷ xs) ++ d ∷ []) ≡ false =
    list_all-append is_zero (x ∷ xs) (d ∷ []) ∙ ap (λ b. list_all is_zero (x ∷ xs) && b) last
    ∙ and-false (list_all is_zero (x ∷ xs)) in
    rw (all, digit_kept xs d h) refl
