-- Lists that are copied by their two ends.
use Rattle.std.proofs.Common.{◌≡◌, ℕ, ◌-◌, ◌≤◌, List, ◌++◌, length, take, drop, ap, sym, ◌∙◌, append_assoc, arith}
use Rattle.std.proofs.lemmas.List.{length-take, take-append-drop, take-append-le, take-take, take_all}

-- what begins with the first items, and where its last ones stand in their place, begins with the list
pub from_both_ends : (n : ℕ) (xs a b rest end : List ℕ) → n ≤ length xs → length xs - n ≤ n → a ≡ take n xs
    → b ≡ drop (length xs - n) xs
    → take (length xs) (take (length xs - n) (a ++ rest) ++ (b ++ end)) ≡ xs
from_both_ends n xs a b rest end long few first last =
    let m = length xs - n in
    let size : length (take n xs) ≡ n = omega (arith, length-take n xs, long) in
    let front : take m (a ++ rest) ≡ take m xs =
    ap (λ (l : List ℕ). take m (l ++ rest)) first ∙ take-append-le m (take n xs) rest (omega (arith, size, few))
    ∙ take-take m n xs few in
    let all : take m (a ++ rest) ++ (b ++ end) ≡ xs ++ end =
    ap (λ (l : List ℕ). l ++ (b ++ end)) front ∙ ap (λ (l : List ℕ). take m xs ++ (l ++ end)) last
    ∙ sym (append_assoc (take m xs) (drop m xs) end) ∙ ap (λ (l : List ℕ). l ++ end) (take-append-drop m xs) in
    ap (take (length xs)) all ∙ take-append-le (length xs) xs end (omega arith) ∙ take_all (length xs) xs (omega arith)
