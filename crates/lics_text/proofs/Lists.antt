-- Lists that a call looks through.
use Rattle.std.specs.Char.{to_ascii_uppercase}
use Rattle.std.proofs.Common.{◌≡◌, ℕ, ◌-◌, ◌≤◌, ◌<◌, false, List, [], ◌∷◌, length, get_or, drop, map, None, refl, ap}
use Rattle.std.proofs.Common.{◌∙◌, arith, ◌⊎◌, ⊎_elim, length-drop}
use Rattle.std.specs.Prelude.{position, nat_lt}
use Rattle.std.specs.List.{position_or_len}
use Rattle.std.specs.Ordering.{nat_cmp}
use Rattle.std.specs.Cmp.Lexicographic.{slice_cmp}
use Rattle.std.proofs.lemmas.List.Sums.{fails_before_first}
use Rattle.std.proofs.lemmas.List.{length-map}
use Rattle.std.proofs.lemmas.Bool.Decides.{nat_tests}

-- where no byte is below 32, each is at least 32
pub none_small : (xs : List ℕ) → position (λ b. nat_lt b 32) xs ≡ None → (k d : ℕ) → k < length xs → 32 ≤ get_or xs k d
none_small xs e k d h =
    let f : k < position_or_len (λ b. nat_lt b 32) xs → nat_lt (get_or xs k d) 32 ≡ false =
    fails_before_first (λ b. nat_lt b 32) xs k d in
    grind (arith, nat_tests, f)

-- at the end of one of two lists the lengths decide
pub left_ends : (xs ys : List ℕ) → length xs ≡ 0 → slice_cmp nat_cmp xs ys ≡ nat_cmp (length xs) (length ys)
left_ends [] [] h = refl
left_ends [] (y ∷ ys) h = grind (arith, nat_tests)
left_ends (x ∷ xs) ys h = absurd (omega (arith, h))

-- against an empty text the lengths decide
pub right_ends : (xs ys : List ℕ) → length ys ≡ 0 → slice_cmp nat_cmp xs ys ≡ nat_cmp (length xs) (length ys)
right_ends [] [] h = refl
right_ends (x ∷ xs) [] h = grind (arith, nat_tests)
right_ends xs (y ∷ ys) h = absurd (omega (arith, h))

same_lengths : (m n i : ℕ) → i ≤ m → i ≤ n → nat_cmp (m - i) (n - i) ≡ nat_cmp m n
same_lengths m n i p q = grind (arith, nat_tests)

-- where one of two texts ends, their lengths decide
pub at_an_end : (a b : List ℕ) (i : ℕ) → i ≤ length a → i ≤ length b → (length a ≤ i) ⊎ (length b ≤ i)
    → slice_cmp nat_cmp (map to_ascii_uppercase (drop i a)) (map to_ascii_uppercase (drop i b))
    ≡ nat_cmp (length a) (length b)
at_an_end a b i p q h =
    let u : length (map to_ascii_uppercase (drop i a)) ≡ length a - i =
    omega (arith, length-map (drop i a) to_ascii_uppercase, length-drop i a) in
    let v : length (map to_ascii_uppercase (drop i b)) ≡ length b - i =
    omega (arith, length-map (drop i b) to_ascii_uppercase, length-drop i b) in
    let e : slice_cmp nat_cmp (map to_ascii_uppercase (drop i a)) (map to_ascii_uppercase (drop i b))
    ≡ nat_cmp (length (map to_ascii_uppercase (drop i a))) (length (map to_ascii_uppercase (drop i b))) =
    ⊎_elim
    (λ (k : length a ≤ i). left_ends (map to_ascii_uppercase (drop i a)) (map to_ascii_uppercase (drop i b))
    (omega arith))
    (λ (k : length b ≤ i). right_ends (map to_ascii_uppercase (drop i a)) (map to_ascii_uppercase (drop i b))
    (omega arith))
    h in
    e ∙ ap (λ k. nat_cmp k (length (map to_ascii_uppercase (drop i b)))) u ∙ ap (nat_cmp (length a - i)) v
    ∙ same_lengths _ _ _ p q
