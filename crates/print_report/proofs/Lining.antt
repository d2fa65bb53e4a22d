-- Lines, byte by byte.
use Rattle.std.proofs.Common.{◌≡◌, ℕ, suc, get_or, append_assoc, ◌+◌, ◌-◌, ◌<◌, ◌≤◌, List, [], ◌∷◌, ◌++◌, length, take}
use Rattle.std.proofs.Common.{drop, replicate, false, refl, ap, sym, ◌∙◌, arith}
use Rattle.std.specs.Prelude.{◌==◌, if◌then◌else◌}
use Rattle.std.proofs.lemmas.Bool.Decides.{nat_tests}
use Rattle.std.proofs.lemmas.List.{append-nil, drop_all, take-replicate, take_all}
use Rattle.std.proofs.Math.Seq.{take-suc}
use Rattle.print_report.specs.Lines.{empty_lines, in_front, line_end, trimmed, with_margin}

-- bytes that are put at the end
pub at_end : (old bytes : List ℕ)
    → take (length old) old ++ bytes ++ drop (length old + length bytes) old ≡ old ++ bytes
at_end old bytes =
    ap (λ (l : List ℕ). l ++ bytes ++ drop (length old + length bytes) old) (take_all (length old) old (omega arith))
    ∙ ap (λ (l : List ℕ). old ++ bytes ++ l) (drop_all (length old + length bytes) old (omega arith))
    ∙ append-nil (old ++ bytes)

-- the front of the blanks is a margin
pub margin_front : (n : ℕ) → n ≤ 255 → take {A = ℕ} n (replicate 255 32) ≡ replicate n 32
margin_front n h = take-replicate n 255 32 h

-- a blank at the end is dropped
pub blank_dropped : (xs : List ℕ) → trimmed (xs ++ 32 ∷ []) ≡ trimmed xs
blank_dropped [] = refl
blank_dropped (x ∷ xs) = ap (in_front x) (blank_dropped xs)

-- before a byte that stays all bytes stay
in_front_more : (b : ℕ) (xs : List ℕ) (c : ℕ) → in_front b (xs ++ c ∷ []) ≡ b ∷ (xs ++ c ∷ [])
in_front_more b [] c = refl
in_front_more b (x ∷ xs) c = refl

-- a byte that is no blank stays at the end
pub other_kept : (xs : List ℕ) (b : ℕ) → (b ≡ 32 → ⊥) → trimmed (xs ++ b ∷ []) ≡ xs ++ b ∷ []
other_kept [] b other =
    ap (λ t. if t then [] else b ∷ []) (let e : (b == 32) ≡ false = grind (arith, nat_tests, other) in e)
other_kept (x ∷ xs) b other = ap (in_front x) (other_kept xs b other) ∙ in_front_more x xs b

-- the last byte of a front
last_taken : (text : List ℕ) (end d : ℕ) → end ≤ length text → 0 < end
    → take end text ≡ take (end - 1) text ++ get_or text (end - 1) d ∷ []
last_taken text end d within some =
    let same : end ≡ suc (end - 1) = omega arith in
    ap (λ (k : ℕ). take k text) same ∙ take-suc text (end - 1) d (omega arith)

-- a blank at the end is dropped
pub one_dropped : (text : List ℕ) (end d : ℕ) → end ≤ length text → 0 < end → get_or text (end - 1) d ≡ 32
    → trimmed (take end text) ≡ trimmed (take (end - 1) text)
one_dropped text end d within some blank =
    ap trimmed (last_taken text end d within some ∙ ap (λ (b : ℕ). take (end - 1) text ++ b ∷ []) blank)
    ∙ blank_dropped (take (end - 1) text)

-- without one all stays
pub all_kept : (text : List ℕ) (end d : ℕ) → end ≤ length text → 0 < end → (get_or text (end - 1) d ≡ 32 → ⊥)
    → trimmed (take end text) ≡ take end text
all_kept text end d within some other =
    ap trimmed (last_taken text end d within some) ∙ other_kept (take (end - 1) text) (get_or text (end - 1) d) other
    ∙ sym (last_taken text end d within some)

-- a text behind its margin
pub margin_put : (out text : List ℕ) (left : ℕ) → (length text ≡ 0 → ⊥)
    → out ++ replicate left 32 ++ text ≡ out ++ with_margin left text
margin_put out [] left some = absurd (some refl)
margin_put out (b ∷ bs) left some = append_assoc out (replicate left 32) (b ∷ bs)

-- one more empty line
pub line_put : (start all out : List ℕ) (count n : ℕ) → n < count → start ++ all ≡ out ++ empty_lines (count - n)
    → start ++ all ≡ (out ++ line_end) ++ empty_lines (count - (n + 1))
line_put start all out count n less h =
    let left : count - n ≡ suc (count - (n + 1)) = omega arith in
    h ∙ ap (λ (k : ℕ). out ++ empty_lines k) left ∙ sym (append_assoc out line_end (empty_lines (count - (n + 1))))

-- nothing of a text is nothing when it is trimmed
pub zero_taken : (text : List ℕ) → trimmed (take 0 text) ≡ take 0 text
zero_taken [] = refl
zero_taken (b ∷ bs) = refl

-- so is a front of no bytes
pub none_taken : (text : List ℕ) (end : ℕ) → end ≡ 0 → trimmed (take end text) ≡ take end text
none_taken text end none =
    ap (λ (k : ℕ). trimmed (take k text)) none ∙ zero_taken text ∙ sym (ap (λ (k : ℕ). take k text) none)
