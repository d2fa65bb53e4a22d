-- Counts of ascending numbers, by how many are at most a bin.
use Rattle.std.proofs.Common.{◌≡◌, ℕ, zero, suc, ◌+◌, ◌-◌, ◌≤◌, Bool, true, false, not, cond, List, [], ◌∷◌, length}
use Rattle.std.proofs.Common.{get_or, Some, None, inl, inr, refl, ap, ◌∙◌, arith}
use Rattle.std.specs.Prelude.{ℤ, Option, ◌&&◌}
use Rattle.std.specs.Cmp.{int_cmp_total}
use Rattle.std.specs.Int.RustNames.{int_lt}
use Rattle.std.specs.List.{count_by, AllWithin}
use Rattle.std.specs.List.Sorted.{IsPartitionedBy, IsPermutation, IsSorted}
use Rattle.std.specs.Ordering.{int_cmp, is_lt}
use Rattle.std.proofs.lemmas.Bool.{cases_Bool}
use Rattle.std.proofs.lemmas.Int.{ints}
use Rattle.std.proofs.lemmas.List.Sums.{sum_by-cons}
use Rattle.std.proofs.lemmas.List.Sorted.{ranks_by, sorted_far, sum_by-IsPermutation}
use Rattle.data_blocks.specs.Distribution.{is_above, is_in_bin}

-- a number is at most a bin
abbrev pub is_at_most : ℤ → ℤ → Bool
is_at_most bin x = not (int_lt bin x)

-- no number that is at most a bin comes behind one that is above it
pub parted : (bin : ℤ) (xs : List ℤ) → IsSorted int_cmp xs → IsPartitionedBy (is_at_most bin) xs
parted bin xs up = λ i j d before inside most.
    below bin (get_or xs i d) (get_or xs j d)
    (sorted_far (λ x y. is_lt (int_cmp x y)) (ranks_by int_cmp_total (λ (x : ℤ). x)) xs up i j d before inside) most
  where
    no_less : (x y : ℤ) → is_lt (int_cmp x y) ≡ false → int_lt x y ≡ false
    no_less x y h = grind (arith, ints)

    below : (bin x y : ℤ) → is_lt (int_cmp y x) ≡ false → not (int_lt bin y) ≡ true → not (int_lt bin x) ≡ true
    below bin x y h most = let g : int_lt y x ≡ false = no_less y x h in grind (arith, ints)

-- one number more
more : (p : ℤ → Bool) (x : ℤ) (xs : List ℤ) → count_by p (x ∷ xs) ≡ cond (p x) 1 0 + count_by p xs
more p x xs = sum_by-cons (λ y. cond (p y) 1 0) x xs

-- so many numbers pass where those before a place pass and the others don't
pub all_before : (p : ℤ → Bool) (xs : List ℤ) (i : ℕ) → i ≤ length xs → AllWithin (λ x. p x ≡ true) xs 0 i
    → AllWithin (λ x. p x ≡ false) xs i (length xs) → i ≡ count_by p xs
all_before p [] i short pass fail = omega arith
all_before p (x ∷ xs) zero short pass fail =
    let rest : zero ≡ count_by p xs =
    all_before p xs zero (omega arith) (λ k d low high. absurd (omega arith))
    (λ k d low high. fail (suc k) d (omega arith) (omega arith)) in
    let here : cond {A = ℕ} (p x) 1 0 ≡ 0 = ap (λ b. cond {A = ℕ} b 1 0) (fail zero x (omega arith) (omega arith)) in
    omega (arith, rest, here, more p x xs)
all_before p (x ∷ xs) (suc i) short pass fail =
    let rest : i ≡ count_by p xs =
    all_before p xs i (omega arith) (λ k d low high. pass (suc k) d (omega arith) (omega arith))
    (λ k d low high. fail (suc k) d (omega arith) (omega arith)) in
    let here : cond {A = ℕ} (p x) 1 0 ≡ 1 = ap (λ b. cond {A = ℕ} b 1 0) (pass zero x (omega arith) (omega arith)) in
    omega (arith, rest, here, more p x xs)

-- numbers that one of two tests passes
parts : (f g h : ℤ → Bool) (xs : List ℤ) → ((x : ℤ) → cond (g x) 1 0 ≡ cond (f x) 1 0 + cond (h x) 1 0)
    → count_by g xs ≡ count_by f xs + count_by h xs
parts f g h [] both = refl
parts f g h (x ∷ xs) both = omega (arith, both x, parts f g h xs both, more f x xs, more g x xs, more h x xs)

-- numbers that no test passes, and that one passes where another does
apart : (f g h : ℤ → Bool) (xs : List ℤ) → ((x : ℤ) → f x ≡ false) → ((x : ℤ) → cond (g x) 1 0 ≤ cond (h x) 1 0)
    → (count_by f xs ≡ 0) × (count_by g xs ≤ count_by h xs)
apart f g h [] none fewer = (refl, omega arith)
apart f g h (x ∷ xs) none fewer =
    let rest : (count_by f xs ≡ 0) × (count_by g xs ≤ count_by h xs) = apart f g h xs none fewer in
    let here : cond {A = ℕ} (f x) 1 0 ≡ 0 = ap (λ b. cond {A = ℕ} b 1 0) (none x) in
    (omega (arith, rest.0, here, more f x xs), omega (arith, fewer x, rest.1, more g x xs, more h x xs))

-- none is below the first bin
pub none_before : (xs : List ℤ) → count_by (λ x. not (is_above None x)) xs ≡ 0
none_before [] = refl
none_before (x ∷ xs) =
    more (λ y. not (is_above None y)) x xs
    ∙ (let e : 0 + count_by (λ y. not (is_above None y)) xs ≡ 0 = omega (arith, none_before xs) in e)

-- how many are in a bin
pub in_bin : (before : Option ℤ) (bin : ℤ) (xs : List ℤ)
    → count_by (is_at_most bin) xs - count_by (λ x. not (is_above before x)) xs ≡ count_by (is_in_bin before bin) xs
in_bin None bin xs =
    omega (arith, none_before xs)
in_bin (Some before) bin xs = elim (cases_Bool (int_lt bin before)) [
  | inl falls ↦
      let both : (count_by (is_in_bin (Some before) bin) xs ≡ 0)
      × (count_by (is_at_most bin) xs ≤ count_by (is_at_most before) xs) =
      apart (is_in_bin (Some before) bin) (is_at_most bin) (is_at_most before) xs (λ x. no_room x falls)
      (λ x. passed x falls) in
      omega (arith, both.0, both.1)
  | inr rises ↦
      let all : count_by (is_at_most bin) xs
      ≡ count_by (is_in_bin (Some before) bin) xs + count_by (is_at_most before) xs =
      parts (is_in_bin (Some before) bin) (is_at_most bin) (is_at_most before) xs (λ x. one_of x rises) in
      omega (arith, all)
]
  where
    no_room : (x : ℤ) → int_lt bin before ≡ true → int_lt before x && not (int_lt bin x) ≡ false
    no_room x falls = grind (arith, ints)

    passed : (x : ℤ) → int_lt bin before ≡ true → cond (not (int_lt bin x)) 1 0 ≤ cond (not (int_lt before x)) 1 0
    passed x falls = grind (arith, ints)

    one_of : (x : ℤ) → int_lt bin before ≡ false
        → cond (not (int_lt bin x)) 1 0
        ≡ cond (int_lt before x && not (int_lt bin x)) 1 0 + cond (not (int_lt before x)) 1 0
    one_of x rises = grind (arith, ints)

-- how many are above the last bin
pub above : (before : Option ℤ) (xs : List ℤ)
    → length xs - count_by (λ x. not (is_above before x)) xs ≡ count_by (is_above before) xs
above before xs =
    let all : length xs ≡ count_by (is_above before) xs + count_by (λ x. not (is_above before x)) xs = each xs in
    omega (arith, all)
  where
    one : (b : Bool) → 1 ≡ cond b 1 0 + cond (not b) 1 0
    one true = refl
    one false = refl

    each : (xs : List ℤ) → length xs ≡ count_by (is_above before) xs + count_by (λ x. not (is_above before x)) xs
    each [] = refl
    each (x ∷ xs) =
        omega (
          arith,
          one (is_above before x),
          each xs,
          more (is_above before) x xs,
          more (λ y. not (is_above before y)) x xs,
        )

-- as many pass in another order
pub same_count : (p : ℤ → Bool) (xs ys : List ℤ) → IsPermutation xs ys → count_by p ys ≡ count_by p xs
same_count p xs ys same = sum_by-IsPermutation (λ x. cond (p x) 1 0) xs ys same
