-- One more number, and what is made of it.
use Rattle.std.proofs.Common.{◌≡◌, ℕ, ◌+◌, List, [], ◌∷◌, ◌++◌, map, sym, ap, ◌∙◌, append_assoc, arith}
use Rattle.std.specs.Prelude.{zero, suc}
use Rattle.std.proofs.lemmas.List.{map-append}
use Rattle.grid_address.specs.Lines.{numbers_from}

numbers_suc : (n k : ℕ) → numbers_from n (suc k) ≡ numbers_from n k ++ (n + k) ∷ []
numbers_suc n zero = (let e : n ≡ n + 0 = omega arith in ap (λ m. m ∷ []) e)
numbers_suc n (suc k) =
    ap (λ l. n ∷ l) (numbers_suc (n + 1) k
    ∙ ap (λ m. numbers_from (n + 1) k ++ m ∷ []) (let e : n + 1 + k ≡ n + suc k = omega arith in e))

-- one number more
pub numbers_more : (n k : ℕ) → numbers_from n (k + 1) ≡ numbers_from n k ++ (n + k) ∷ []
numbers_more n k = ap (numbers_from n) (let e : k + 1 ≡ suc k = omega arith in e) ∙ numbers_suc n k

-- what was there, what is made of the numbers so far, and of one more
pub made_more : {W : Type 0} (f : ℕ → W) (old now new : List W) (n k : ℕ) → now ≡ old ++ map f (numbers_from n k)
    → new ≡ now ++ f (n + k) ∷ [] → new ≡ old ++ map f (numbers_from n (k + 1))
made_more f old now new n k so_far more =
    more ∙ ap (λ l. l ++ f (n + k) ∷ []) so_far ∙ append_assoc old (map f (numbers_from n k)) (f (n + k) ∷ [])
    ∙ ap (λ l. old ++ l) (sym (ap (map f) (numbers_more n k) ∙ map-append f (numbers_from n k) ((n + k) ∷ [])))
