-- Lines that are added one behind another.
use Rattle.std.proofs.Common.{◌≡◌, ℕ, List, [], ◌∷◌, ◌++◌, ap, ◌∙◌, append_assoc}
use Rattle.std.specs.Prelude.{Result, Ok, Err, OnOk}
use Rattle.sheet_listing.specs.Lines.{line}

-- what a call does that is done, told by other words
pub as_told : {A E : Type 0} (result : Result A E) (end start said told : List ℕ) → said ≡ told →
    OnOk result (end ≡ start ++ said) → OnOk result (end ≡ start ++ told)
as_told (Ok done) end start said told same step = step ∙ ap (λ (l : List ℕ). start ++ l) same
as_told (Err fault) end start said told same step = tt

-- a first line, and then the others
pub lines_then : {A E : Type 0} (result : Result A E) (start middle end first others : List ℕ) →
    middle ≡ start ++ first → OnOk result (end ≡ middle ++ others) → OnOk result (end ≡ start ++ (first ++ others))
lines_then (Ok done) start middle end first others step rest = rest ∙ ap (λ (l : List ℕ). l ++ others) step ∙
    append_assoc start first others
lines_then (Err fault) start middle end first others step rest = tt

-- a line of one field by what the field is
pub one_field : (word said told : List ℕ) → said ≡ told → line word (said ∷ []) ≡ line word (told ∷ [])
one_field word said told same = ap (λ (l : List ℕ). line word (l ∷ [])) same

-- a line of three fields by what they are
pub three_fields : (word a a' b b' d d' : List ℕ) → a ≡ a' → b ≡ b' → d ≡ d' →
    line word (a ∷ b ∷ d ∷ []) ≡ line word (a' ∷ b' ∷ d' ∷ [])
three_fields word a a' b b' d d' first second third =
    ap (λ (l : List ℕ). line word (l ∷ b ∷ d ∷ [])) first ∙ ap (λ (l : List ℕ). line word (a' ∷ l ∷ d ∷ [])) second ∙
    ap (λ (l : List ℕ). line word (a' ∷ b' ∷ l ∷ [])) third
