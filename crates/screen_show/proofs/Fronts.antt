-- How far two lines differ, and what that makes of a patched line and of the counts.
use Rattle.std.proofs.Common.{◌≡◌, ℕ, suc, ◌+◌, ◌<◌, true, List, [], ◌∷◌, ◌++◌, length, take, drop, get_or}
use Rattle.std.proofs.Common.{refl, ap, sym, ◌∙◌, arith, inl, inr, zero-add}
use Rattle.std.specs.Prelude.{◌==◌}
use Rattle.std.proofs.lemmas.List.{drop_more}
use Rattle.std.proofs.lemmas.Bool.{cases_Bool, eq-eqb}
use Rattle.list_lemmas.proofs.Takes.{take-add}
use Rattle.screen_show.specs.Changes.{line_differences, line_runs, runs_after}
use Rattle.screen_show.specs.inner.Patches.{patched_line, differing_front}

-- equal bytes end the front that differs
pub front_stops : (before after : List ℕ) (n : ℕ) → n < length before → n < length after
    → get_or before n 0 ≡ get_or after n 0 → differing_front (drop n before) (drop n after) ≡ 0
front_stops before after n h k same =
    let test : (get_or before n 0 == get_or after n 0) ≡ true = eq-eqb _ _ same in
    rw (drop_more before n 0 h, drop_more after n 0 k, test) refl

-- two lists that begin alike, and go on alike
pub take_further : (n m : ℕ) (xs ys : List ℕ) → take n xs ≡ take n ys → take m (drop n xs) ≡ take m (drop n ys)
    → take (n + m) xs ≡ take (n + m) ys
take_further n m xs ys first more =
    take-add n m xs ∙ ap (λ (l : List ℕ). l ++ take m (drop n xs)) first ∙ ap (λ (l : List ℕ). take n ys ++ l) more
    ∙ sym (take-add n m ys)

-- a patched line is the front that differs, and the patched rest
pub run_line : (before after line : List ℕ) → length before ≡ length after → length line ≡ length after →
    patched_line before after line
    ≡ take (differing_front before after) after
    ++ patched_line (drop (differing_front before after) before) (drop (differing_front before after) after)
    (drop (differing_front before after) line)
run_line [] after line h k = refl
run_line (b ∷ bs) [] line h k = refl
run_line (b ∷ bs) (a ∷ xs) [] h k = absurd (omega arith)
run_line (b ∷ bs) (a ∷ xs) (y ∷ ys) h k = elim (cases_Bool (b == a)) [
  | inl same ↦ rw same (rw same refl)
  | inr apart ↦ rw apart (ap (λ (l : List ℕ). a ∷ l) (run_line bs xs ys (omega arith) (omega arith)))
]

-- a run that is begun counts no more
inside_runs : (before after : List ℕ) → length before ≡ length after
    → runs_after true before after
    ≡ line_runs (drop (differing_front before after) before) (drop (differing_front before after) after)
inside_runs [] after h = refl
inside_runs (b ∷ bs) [] h = refl
inside_runs (b ∷ bs) (a ∷ xs) h = elim (cases_Bool (b == a)) [
  | inl same ↦ rw same (rw same refl)
  | inr apart ↦ rw apart (zero-add (runs_after true bs xs) ∙ inside_runs bs xs (omega arith))
]

-- the runs of a line are one more than those of its rest
pub run_count : (before after : List ℕ) → length before ≡ length after → 0 < differing_front before after →
    line_runs before after ≡ 1
    + line_runs (drop (differing_front before after) before) (drop (differing_front before after) after)
run_count [] after h more = absurd (omega arith)
run_count (b ∷ bs) [] h more = absurd (omega arith)
run_count (b ∷ bs) (a ∷ xs) h more = elim (cases_Bool (b == a)) [
  | inl same ↦ (let none : 0 < 0 = rw same at more in absurd (omega arith))
  | inr apart ↦ rw apart (ap (λ n. 1 + n) (inside_runs bs xs (omega arith)))
]

-- the bytes that differ are those of the front and of the rest
pub run_differences : (before after : List ℕ) → length before ≡ length after →
    line_differences before after
    ≡ differing_front before after
    + line_differences (drop (differing_front before after) before) (drop (differing_front before after) after)
run_differences [] after h = refl
run_differences (b ∷ bs) [] h = refl
run_differences (b ∷ bs) (a ∷ xs) h = elim (cases_Bool (b == a)) [
  | inl same ↦ rw same (rw same (omega arith))
  | inr apart ↦ rw apart (omega (arith, run_differences bs xs (omega arith)))
]

-- where two lists begin alike
pub same_first : (b a : ℕ) (bs xs : List ℕ) → differing_front (b ∷ bs) (a ∷ xs) ≡ 0 → (b == a) ≡ true
same_first b a bs xs h = elim (cases_Bool (b == a)) [
  | inl same ↦ same
  | inr apart ↦ (let one : suc (differing_front bs xs) ≡ 0 = rw apart at h in absurd (omega arith))
]

-- a patched line is as long as the new one
pub length-patched_line : (before after line : List ℕ) → length before ≡ length after → length line ≡ length after
    → length (patched_line before after line) ≡ length after
length-patched_line [] [] line h k = refl
length-patched_line [] (a ∷ xs) line h k = absurd (omega arith)
length-patched_line (b ∷ bs) [] line h k = refl
length-patched_line (b ∷ bs) (a ∷ xs) [] h k = absurd (omega arith)
length-patched_line (b ∷ bs) (a ∷ xs) (y ∷ ys) h k = ap suc (length-patched_line bs xs ys (omega arith) (omega arith))
