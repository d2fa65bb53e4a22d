-- As many undos as states were kept.
use Rattle.std.specs.Prelude.{◌≡◌, ◌≤◌, ◌+◌, ℕ, zero, suc, refl, length, take, List, [], ◌∷◌}
use Rattle.std.proofs.Common.{arith, subst}
use Rattle.sheet_undo.specs.Histories.{Sheet}
use Rattle.sheet_undo.specs.Histories.{all_kept, undone, with_kept}

-- a state with so many in front of it
abbrev StandsBehind : Sheet → ℕ → List Sheet → Type 0
StandsBehind s zero [] = ⊥
StandsBehind s (suc n) [] = ⊥
StandsBehind s zero (t ∷ ts) = t ≡ s
StandsBehind s (suc n) (t ∷ ts) = StandsBehind s n ts

-- it is still there where enough of them are kept
kept_there : (s : Sheet) (n k : ℕ) (ts : List Sheet) → suc n ≤ k → StandsBehind s n ts → StandsBehind s n (take k ts)
kept_there s zero k [] h p = absurd p
kept_there s (suc n) k [] h p = absurd p
kept_there s zero zero (t ∷ ts) h p = absurd (omega arith)
kept_there s (suc n) zero (t ∷ ts) h p = absurd (omega arith)
kept_there s zero (suc k) (t ∷ ts) h p = p
kept_there s (suc n) (suc k) (t ∷ ts) h p = kept_there s n k ts (omega arith) p

all_there : (s : Sheet) (ss : List Sheet) (n : ℕ) (kept : List Sheet) → length ss + n ≤ 19 → StandsBehind s n kept
    → StandsBehind s (length ss + n) (all_kept ss kept)
all_there s [] n kept h p =
    let e : n ≡ length {A = Sheet} [] + n = omega arith in
    subst (λ m. StandsBehind s m kept) e p
all_there s (t ∷ ss) n kept h p =
    let e : length ss + suc n ≡ length (t ∷ ss) + n = omega arith in
    let less : length ss + suc n ≤ 19 = omega (arith, h) in
    let few : suc (suc n) ≤ 20 = omega (arith, h) in
    subst (λ m. StandsBehind s m (all_kept ss (with_kept t kept))) e
    (all_there s ss (suc n) (with_kept t kept) less (kept_there s (suc n) 20 (t ∷ kept) few p))

undone_to : (s : Sheet) (n : ℕ) (ts : List Sheet) (now : Sheet) → StandsBehind s n ts → undone (suc n) ts now ≡ s
undone_to s zero [] now p = absurd p
undone_to s (suc n) [] now p = absurd p
undone_to s zero (t ∷ ts) now p = p
undone_to s (suc n) (t ∷ ts) now p = undone_to s n ts t p

-- as many undos as states were kept, at most 20, bring back the first of them
pub first_back : (s : Sheet) (ss kept : List Sheet) (now : Sheet) → length (s ∷ ss) ≤ 20
    → undone (length (s ∷ ss)) (all_kept (s ∷ ss) kept) now ≡ s
first_back s ss kept now h =
    let less : length ss + 0 ≤ 19 = omega (arith, h) in
    let one : suc 0 ≤ 20 = omega arith in
    let there = all_there s ss 0 (with_kept s kept) less (kept_there s 0 20 (s ∷ kept) one refl) in
    let e : length ss + 0 ≡ length ss = omega arith in
    undone_to s (length ss) (all_kept ss (with_kept s kept)) now
    (subst (λ m. StandsBehind s m (all_kept ss (with_kept s kept))) e there)
