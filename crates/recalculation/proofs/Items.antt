-- How a loop that keeps some items of a list goes on.
use Rattle.std.specs.Prelude.{ℕ, ◌≡◌, ◌+◌, ◌<◌, List, [], ◌∷◌, ◌++◌, length, drop, Bool, true, false, cond, filter}
use Rattle.std.proofs.Common.{ap, sym, ◌∙◌, get_or, refl, arith, suc}
use Rattle.std.proofs.Math.Seq.{drop-cons}
use Rattle.std.proofs.lemmas.List.{append_assoc}

module _ {K : Type 0} where
  -- from a place on a list has its item there, and those behind it
  pub drop_item : (xs : List K) (i : ℕ) (x : K) → x ≡ get_or xs i x → i < length xs → drop i xs ≡ x ∷ drop (i + 1) xs
  drop_item xs i x e lt =
      let n : suc i ≡ i + 1 = omega arith in
      drop-cons xs i x lt ∙ ap (λ (p : K × ℕ). p.0 ∷ drop p.1 xs) (λ j. (sym e j, n j))

  moved : (b : Bool) (done rest : List K) (x : K)
      → cond b (done ++ x ∷ []) done ++ rest ≡ done ++ cond b (x ∷ rest) rest
  moved true done rest x = append_assoc done (x ∷ []) rest
  moved false done rest x = refl

  -- one step of a loop that keeps the items which pass the test
  pub kept_step : (p : K → Bool) (xs done new total : List K) (i : ℕ) (x : K) → x ≡ get_or xs i x → i < length xs
      → new ≡ cond (p x) (done ++ x ∷ []) done
      → done ++ filter p (drop i xs) ≡ total → new ++ filter p (drop (i + 1) xs) ≡ total
  kept_step p xs done new total i x e lt h inv = ap (λ ys. ys ++ filter p (drop (i + 1) xs)) h
      ∙ moved (p x) done (filter p (drop (i + 1) xs)) x
      ∙ sym (ap (λ ys. done ++ filter p ys) (drop_item xs i x e lt)) ∙ inv
