-- Numbers from one on, looked through one by one.
use Rattle.std.proofs.Common.{◌≡◌, ℕ, suc, ◌+◌, ◌-◌, ◌<◌, ◌≤◌, List, [], ◌∷◌, ◌++◌, map, length, get_or, cond, refl}
use Rattle.std.proofs.Common.{sym, ap, ◌∙◌, append_assoc, arith}
use Rattle.std.specs.Prelude.{zero, ◌&&◌, ◌||◌, Bool, true, false, Option, Some, None, option_to_list}
use Rattle.std.specs.List.{cons_option, filter, filter_map, find, list_all, list_any}
use Rattle.std.proofs.lemmas.List.{append-nil}
use Rattle.grid_address.specs.Lines.{numbers_from}

-- what is left of so many numbers behind the first few
abbrev pub left : ℕ → ℕ → ℕ → List ℕ
left n count i = numbers_from (n + i) (count - i)

-- where numbers are left, the next one is the first of them
pub left_more : (n count i : ℕ) → i < count → left n count i ≡ (n + i) ∷ left n count (i + 1)
left_more n count i inside =
    ap (numbers_from (n + i)) (let e : count - i ≡ suc (count - (i + 1)) = omega (arith, inside) in e)
    ∙ ap (λ m. (n + i) ∷ numbers_from m (count - (i + 1))) (let e : n + i + 1 ≡ n + (i + 1) = omega arith in e)

-- past the last one none is left
pub left_none : (n count i : ℕ) → count ≤ i → left n count i ≡ []
left_none n count i past = ap (numbers_from (n + i)) (let e : count - i ≡ 0 = omega (arith, past) in e)

-- all are left at the start
pub left_first : (n count : ℕ) → left n count 0 ≡ numbers_from n count
left_first n count =
    ap (λ m. numbers_from m (count - 0)) (let e : n + 0 ≡ n = omega arith in e)
    ∙ ap (numbers_from n) (let e : count - 0 ≡ count = omega arith in e)

module _ (f : ℕ → Bool) (n count i : ℕ) where
  -- one that passes leaves it to the others
  pub all_more : (c : Bool) → i < count → f (n + i) ≡ true → list_all f (left n count i) ≡ c
      → list_all f (left n count (i + 1)) ≡ c
  all_more c inside held so_far =
      sym (ap (list_all f) (left_more n count i inside) ∙ ap (λ b. b && list_all f (left n count (i + 1))) held)
      ∙ so_far

  -- one that doesn't decides
  pub all_stop : (c : Bool) → i < count → f (n + i) ≡ false → list_all f (left n count i) ≡ c → false ≡ c
  all_stop c inside fails so_far =
      sym (ap (list_all f) (left_more n count i inside) ∙ ap (λ b. b && list_all f (left n count (i + 1))) fails)
      ∙ so_far

  -- with none left all pass
  pub all_end : (c : Bool) → count ≤ i → list_all f (left n count i) ≡ c → true ≡ c
  all_end c past so_far = sym (ap (list_all f) (left_none n count i past)) ∙ so_far

  -- one that doesn't pass leaves it to the others
  pub any_more : (c : Bool) → i < count → f (n + i) ≡ false → list_any f (left n count i) ≡ c
      → list_any f (left n count (i + 1)) ≡ c
  any_more c inside fails so_far =
      sym (ap (list_any f) (left_more n count i inside) ∙ ap (λ b. b || list_any f (left n count (i + 1))) fails)
      ∙ so_far

  -- one that does decides
  pub any_stop : (c : Bool) → i < count → f (n + i) ≡ true → list_any f (left n count i) ≡ c → true ≡ c
  any_stop c inside held so_far =
      sym (ap (list_any f) (left_more n count i inside) ∙ ap (λ b. b || list_any f (left n count (i + 1))) held)
      ∙ so_far

  -- with none left none passes
  pub any_end : (c : Bool) → count ≤ i → list_any f (left n count i) ≡ c → false ≡ c
  any_end c past so_far = sym (ap (list_any f) (left_none n count i past)) ∙ so_far

  -- one that doesn't pass is looked past
  pub find_more : (o : Option ℕ) → i < count → f (n + i) ≡ false → find f (left n count i) ≡ o
      → find f (left n count (i + 1)) ≡ o
  find_more o inside fails so_far =
      sym (ap (find f) (left_more n count i inside)
      ∙ ap (λ b. cond b (Some (n + i)) (find f (left n count (i + 1)))) fails) ∙ so_far

  -- the first that passes is found
  pub find_stop : (o : Option ℕ) → i < count → f (n + i) ≡ true → find f (left n count i) ≡ o → Some (n + i) ≡ o
  find_stop o inside held so_far =
      sym (ap (find f) (left_more n count i inside)
      ∙ ap (λ b. cond b (Some (n + i)) (find f (left n count (i + 1)))) held) ∙ so_far

  -- with none left none is found
  pub find_end : (o : Option ℕ) → count ≤ i → find f (left n count i) ≡ o → None ≡ o
  find_end o past so_far = sym (ap (find f) (left_none n count i past)) ∙ so_far

module _ {X : Type 0} (make : ℕ → X) (f : ℕ → Bool) (n count : ℕ) where
  -- what is made of those that are left and pass
  abbrev pub passed : ℕ → List X
  passed i = map make (filter f (left n count i))

  -- one that passes is put behind what there is
  pub put_one : (i : ℕ) (now new all : List X) (x : X) → i < count → f (n + i) ≡ true → x ≡ make (n + i)
      → new ≡ now ++ x ∷ [] → now ++ passed i ≡ all → new ++ passed (i + 1) ≡ all
  put_one i now new all x inside held is more so_far =
      ap (λ l. l ++ passed (i + 1)) more ∙ append_assoc now (x ∷ []) (passed (i + 1))
      ∙ ap (λ y. now ++ y ∷ passed (i + 1)) is
      ∙ ap (λ l. now ++ l) (sym
      (ap (λ l. map make (filter f l)) (left_more n count i inside)
      ∙ ap (λ b. map make (cond b ((n + i) ∷ filter f (left n count (i + 1))) (filter f (left n count (i + 1))))) held))
      ∙ so_far

  -- one that doesn't leaves what there is
  pub put_none : (i : ℕ) (now all : List X) → i < count → f (n + i) ≡ false → now ++ passed i ≡ all
      → now ++ passed (i + 1) ≡ all
  put_none i now all inside fails so_far =
      ap (λ l. now ++ l) (sym
      (ap (λ l. map make (filter f l)) (left_more n count i inside)
      ∙ ap (λ b. map make (cond b ((n + i) ∷ filter f (left n count (i + 1))) (filter f (left n count (i + 1)))))
      fails))
      ∙ so_far

  -- with none left all is put
  pub put_all : (i : ℕ) (now all : List X) → count ≤ i → now ++ passed i ≡ all → now ≡ all
  put_all i now all past so_far =
      sym (append-nil now) ∙ ap (λ l. now ++ map make (filter f l)) (sym (left_none n count i past)) ∙ so_far

module _ {X : Type 0} (h : ℕ → Option X) (n count : ℕ) where
  -- what is taken of those that are left
  abbrev pub taken_of : ℕ → List X
  taken_of i = filter_map h (left n count i)

  listed : (o : Option X) (xs : List X) → option_to_list o ++ xs ≡ cons_option o xs
  listed None xs = refl
  listed (Some x) xs = refl

  -- what a number gives is put behind what there is
  pub took_next : (i : ℕ) (now new all : List X) (o : Option X) → i < count → o ≡ h (n + i)
      → new ≡ now ++ option_to_list o → now ++ taken_of i ≡ all → new ++ taken_of (i + 1) ≡ all
  took_next i now new all o inside is more so_far =
      ap (λ l. l ++ taken_of (i + 1)) more ∙ append_assoc now (option_to_list o) (taken_of (i + 1))
      ∙ ap (λ l. now ++ l) (listed o (taken_of (i + 1)) ∙ ap (λ p. cons_option p (taken_of (i + 1))) is
      ∙ sym (ap (filter_map h) (left_more n count i inside))) ∙ so_far

  -- with none left all is taken
  pub took_all : (i : ℕ) (now all : List X) → count ≤ i → now ++ taken_of i ≡ all → now ≡ all
  took_all i now all past so_far =
      sym (append-nil now) ∙ ap (λ l. now ++ filter_map h l) (sym (left_none n count i past)) ∙ so_far

module _ {X : Type 0} (make : ℕ → X) where
  -- how many are made, and each of them
  pub made_count : (n k : ℕ) → length (map make (numbers_from n k)) ≡ k
  made_count n zero = refl
  made_count n (suc k) = ap suc (made_count (n + 1) k)

  -- the item at a place is made of that number
  pub made_at : (n k i : ℕ) (d : X) → i < k → get_or (map make (numbers_from n k)) i d ≡ make (n + i)
  made_at n zero i d inside = absurd (omega (arith, inside))
  made_at n (suc k) zero d inside = ap make (let e : n ≡ n + 0 = omega arith in e)
  made_at n (suc k) (suc i) d inside =
      made_at (n + 1) k i d (omega (arith, inside)) ∙ ap make (let e : n + 1 + i ≡ n + suc i = omega arith in e)
