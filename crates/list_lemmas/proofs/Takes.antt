-- The first items of a list, in parts.
use Rattle.std.proofs.Common.{◌≡◌, ℕ, ◌+◌, ◌-◌, ◌≤◌, ◌<◌, List, ◌++◌, length, take, drop, ap, sym, ◌∙◌, arith, inl, inr}
use Rattle.std.proofs.lemmas.Bool.{cases_lt}
use Rattle.std.proofs.lemmas.List.{append-nil, drop-take, length-take, take-append-drop, take-append-le, take-take}
use Rattle.std.proofs.lemmas.List.{take_all}
use Rattle.std.proofs.Math.Seq.{take-append-add}

module _ {X : Type 0} where
  -- of two lists in a row: of the first, and of the second what is then left to take
  pub take-append : (n : ℕ) (xs ys : List X) → take n (xs ++ ys) ≡ take n xs ++ take (n - length xs) ys
  take-append n xs ys = elim (cases_lt n (length xs)) [
    | inl less ↦
        let all : n - length xs ≡ 0 = omega arith in
        rw (take-append-le n xs ys (omega arith), all) (sym (append-nil (take n xs)))
    | inr more ↦
        let split : take (length xs + (n - length xs)) (xs ++ ys) ≡ xs ++ take (n - length xs) ys =
        take-append-add xs ys (n - length xs) in
        let same : length xs + (n - length xs) ≡ n = omega arith in
        rw same at split ∙ ap (λ (l : List X). l ++ take (n - length xs) ys) (sym (take_all n xs more))
  ]

  -- what is cut at the end may be cut on the way
  pub take-take-append : (n : ℕ) (xs ys : List X) → take n (take n xs ++ ys) ≡ take n (xs ++ ys)
  take-take-append n xs ys =
      let same : n - length (take n xs) ≡ n - length xs = omega (arith, length-take n xs) in
      take-append n (take n xs) ys
      ∙ ap (λ (l : List X). l ++ take (n - length (take n xs)) ys) (take-take n n xs (omega arith))
      ∙ ap (λ (k : ℕ). take n xs ++ take k ys) same
      ∙ sym (take-append n xs ys)

  -- as many items and then more of them
  pub take-add : (n m : ℕ) (xs : List X) → take (n + m) xs ≡ take n xs ++ take m (drop n xs)
  take-add n m xs =
      sym (take-append-drop n (take (n + m) xs))
      ∙ ap (λ (l : List X). l ++ drop n (take (n + m) xs)) (take-take n (n + m) xs (omega arith))
      ∙ ap (λ (l : List X). take n xs ++ l) (drop-take n m xs)
