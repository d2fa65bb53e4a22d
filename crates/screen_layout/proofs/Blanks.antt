-- A line whose rest is blank.
use Rattle.std.proofs.Common.{◌≡◌, ℕ, ◌+◌, ◌-◌, ◌≤◌, List, ◌++◌, take, drop, replicate, ap, sym, ◌∙◌, arith}
use Rattle.std.proofs.lemmas.List.{drop-replicate, take-replicate, drop-drop}
use Rattle.list_lemmas.proofs.Takes.{take-add}

-- from a later column on the rest is blank too
pub later_blank : (from column : ℕ) (xs : List ℕ) → from ≤ column → column ≤ 80
    → drop from xs ≡ replicate (80 - from) 32 → drop column xs ≡ replicate (80 - column) 32
later_blank from column xs up within blank =
    let on : from + (column - from) ≡ column = omega arith in
    let left : (80 - from) - (column - from) ≡ 80 - column = omega arith in
    ap (λ n. drop n xs) (sym on) ∙ sym (drop-drop (column - from) from xs) ∙ ap (drop (column - from)) blank
    ∙ drop-replicate (column - from) (80 - from) 32 ∙ ap (λ n. replicate n 32) left

-- a line that is longer by blanks
pub longer_by_blanks : (from column : ℕ) (xs : List ℕ) → from ≤ column → column ≤ 80
    → drop from xs ≡ replicate (80 - from) 32 → take column xs ≡ take from xs ++ replicate (column - from) 32
longer_by_blanks from column xs up within blank =
    let on : from + (column - from) ≡ column = omega arith in
    let blanks : take (column - from) (drop from xs) ≡ replicate (column - from) 32 =
    ap (take (column - from)) blank ∙ take-replicate (column - from) (80 - from) 32 (omega arith) in
    ap (λ n. take n xs) (sym on) ∙ take-add from (column - from) xs ∙ ap (λ (l : List ℕ). take from xs ++ l) blanks

-- a part of what is blank
pub blank_part : (from end : ℕ) (xs : List ℕ) → from ≤ end → end ≤ 80 → drop from xs ≡ replicate (80 - from) 32
    → take (end - from) (drop from xs) ≡ replicate (end - from) 32
blank_part from end xs up within blank =
    ap (take (end - from)) blank ∙ take-replicate (end - from) (80 - from) 32 (omega (arith, up, within))
