-- Arguments are parted at the first separator.
use Rattle.std.proofs.Common.{◌≡◌, ℕ, zero, suc, ◌+◌, ◌≤◌, Bool, true, false, cond, not, ◌==◌, ◌&&◌, Option, None, Some}
use Rattle.std.proofs.Common.{List, [], ◌∷◌, ◌++◌, append_assoc, take, drop, refl, sym, ap, ◌∙◌, arith}
use Rattle.macro_text.specs.Listed.{depth_behind, is_quote, is_separator, onto, split_from}
use Rattle.macro_text.specs.inner.Separators.{separator_from}

some_is : (a b : ℕ) → Some a ≡ Some b → a ≡ b
some_is a b e = cc

none_some : {A : Type 0} (a : ℕ) → None ≡ Some a → A
none_some a e = absurd cc

-- no separator stands before the first byte
behind_by : (t : Bool) (place end : ℕ) (more : Option ℕ) → (more ≡ Some end → place + 1 ≤ end)
    → cond t (Some place) more ≡ Some end → place ≤ end
behind_by true place end more h e = let g = some_is place end e in omega (arith, g)
behind_by false place end more h e = let g = h e in omega (arith, g)

behind : (place : ℕ) (quoted : Bool) (depth : ℕ) (bytes : List ℕ) (end : ℕ)
    → separator_from place quoted depth bytes ≡ Some end → place ≤ end
behind place quoted depth [] end e = none_some end e
behind place true depth (b ∷ bs) end e =
    let h = behind (place + 1) (not (is_quote b)) depth bs end e in omega (arith, h)
behind place false depth (b ∷ bs) end e =
    behind_by (is_separator b && depth == 0) place end
    (separator_from (place + 1) (is_quote b) (depth_behind depth b) bs)
    (behind (place + 1) (is_quote b) (depth_behind depth b) bs end) e

-- without a separator all is one argument
whole_by : (t : Bool) (place b : ℕ) (bs : List ℕ) (more : Option ℕ) (at_once others : List (List ℕ))
    → (more ≡ None → others ≡ bs ∷ []) → cond t (Some place) more ≡ None
    → cond t at_once (onto b others) ≡ (b ∷ bs) ∷ []
whole_by true place b bs more at_once others h e = none_some place (sym e)
whole_by false place b bs more at_once others h e = ap (onto b) (h e)

-- bytes with no separator are one argument
pub split_whole : (place : ℕ) (quoted : Bool) (depth : ℕ) (bytes : List ℕ)
    → separator_from place quoted depth bytes ≡ None → split_from quoted depth bytes ≡ bytes ∷ []
split_whole place quoted depth [] e = refl
split_whole place true depth (b ∷ bs) e = ap (onto b) (split_whole (place + 1) (not (is_quote b)) depth bs e)
split_whole place false depth (b ∷ bs) e =
    whole_by (is_separator b && depth == 0) place b bs
    (separator_from (place + 1) (is_quote b) (depth_behind depth b) bs) ([] ∷ split_from false 0 bs)
    (split_from (is_quote b) (depth_behind depth b) bs) (split_whole (place + 1) (is_quote b) (depth_behind depth b) bs)
    e

-- a separator ends the first argument
abbrev Parts : List (List ℕ) → List ℕ → ℕ → Type 0
Parts others bytes k = others ≡ take k bytes ∷ split_from false 0 (drop (suc k) bytes)

at_by : (t : Bool) (place b : ℕ) (bs : List ℕ) (k end : ℕ) (more : Option ℕ) (others : List (List ℕ))
    → ((j : ℕ) → place + 1 + j ≡ end → more ≡ Some end → Parts others bs j) → (more ≡ Some end → place + 1 ≤ end)
    → place + k ≡ end → cond t (Some place) more ≡ Some end
    → Parts (cond t ([] ∷ split_from false 0 bs) (onto b others)) (b ∷ bs) k
at_by true place b bs zero end more others step late h e = refl
at_by true place b bs (suc k) end more others step late h e = absurd (let g = some_is place end e in omega (arith, g))
at_by false place b bs zero end more others step late h e = absurd (let g = late e in omega (arith, g))
at_by false place b bs (suc k) end more others step late h e = ap (onto b) (step k (omega arith) e)

split_at : (place : ℕ) (quoted : Bool) (depth : ℕ) (bytes : List ℕ) (k end : ℕ) → place + k ≡ end
    → separator_from place quoted depth bytes ≡ Some end → Parts (split_from quoted depth bytes) bytes k
split_at place quoted depth [] k end h e = none_some end e
split_at place true depth (b ∷ bs) zero end h e =
    absurd (let g = behind (place + 1) (not (is_quote b)) depth bs end e in omega (arith, g))
split_at place true depth (b ∷ bs) (suc k) end h e =
    ap (onto b) (split_at (place + 1) (not (is_quote b)) depth bs k end (omega arith) e)
split_at place false depth (b ∷ bs) k end h e =
    at_by (is_separator b && depth == 0) place b bs k end
    (separator_from (place + 1) (is_quote b) (depth_behind depth b) bs)
    (split_from (is_quote b) (depth_behind depth b) bs)
    (λ j. split_at (place + 1) (is_quote b) (depth_behind depth b) bs j end)
    (behind (place + 1) (is_quote b) (depth_behind depth b) bs end) h e

-- the first argument stands before the first separator, and the others are those behind it
pub split_first : (quoted : Bool) (bytes : List ℕ) (end : ℕ) → separator_from 0 quoted 0 bytes ≡ Some end
    → split_from quoted 0 bytes ≡ take end bytes ∷ split_from false 0 (drop (end + 1) bytes)
split_first quoted bytes end e =
    let n : suc end ≡ end + 1 = omega arith in
    split_at 0 quoted 0 bytes end end (omega arith) e
    ∙ ap (λ (k : ℕ). take end bytes ∷ split_from false 0 (drop k bytes)) n

-- the list with one argument more, and the rest behind its separator
pub one_more : (list new all : List (List ℕ)) (quoted : Bool) (rest first after : List ℕ) (end : ℕ)
    → separator_from 0 quoted 0 rest ≡ Some end → first ≡ take end rest → new ≡ list ++ first ∷ []
    → after ≡ drop (end + 1) rest
    → list ++ split_from quoted 0 rest ≡ all → new ++ split_from false 0 after ≡ all
one_more list new all quoted rest first after end s p n q h =
    ap (λ (l : List (List ℕ)). l ++ split_from false 0 after) n
    ∙ append_assoc list (first ∷ []) (split_from false 0 after)
    ∙ ap (λ (f : List ℕ). list ++ (f ∷ split_from false 0 after)) p
    ∙ ap (λ (a : List ℕ). list ++ (take end rest ∷ split_from false 0 a)) q
    ∙ ap (λ (l : List (List ℕ)). list ++ l) (sym (split_first quoted rest end s))
    ∙ h

-- with no separator in what is left, that is the last argument, and all are found
pub last_one : (list new all : List (List ℕ)) (quoted : Bool) (rest : List ℕ) → separator_from 0 quoted 0 rest ≡ None
    → new ≡ list ++ rest ∷ [] → list ++ split_from quoted 0 rest ≡ all → new ≡ all
last_one list new all quoted rest s n h =
    n ∙ ap (λ (l : List (List ℕ)). list ++ l) (sym (split_whole 0 quoted 0 rest s)) ∙ h
