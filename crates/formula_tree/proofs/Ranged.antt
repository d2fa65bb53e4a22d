-- A text by a test.
use Rattle.std.proofs.Common.{◌≡◌, ◌≤◌, ℕ, suc, true, ◌&&◌, nat_le, List, [], ◌∷◌, length, refl, arith}
use Rattle.std.specs.List.{list_all, All}
use Rattle.std.proofs.lemmas.Bool.Decides.{nat_tests}
use Rattle.lics_text.specs.Bytes.{IsText}
use Rattle.formula_tree.specs.Ranges.{is_text}

each : (t : List ℕ) → All (λ b. 32 ≤ b) t → list_all (λ b. nat_le 32 b) t ≡ true
each [] h = refl
each (b ∷ bs) h =
    let low : 32 ≤ b = h 0 0 (omega arith) in
    let first : nat_le 32 b ≡ true = grind (arith, nat_tests, low) in
    rw first (each bs (λ k d less. h (suc k) d (omega (arith, less))))

-- what is a text passes the test of texts
pub as_text : (t : List ℕ) → IsText t → is_text t ≡ true
as_text t h = (let short : nat_le (length t) 240 ≡ true = grind (arith, nat_tests, h.0) in λ i. short i && each t h.1 i)
