-- The search finds each owner, and owners alone.
use Rattle.std.specs.Prelude.{ℕ, ◌≡◌, ◌⊎◌, ◌≤◌, Bool, true, false, cond, not, ◌&&◌, ◌==◌, nat_le, nat_lt, refl, List}
use Rattle.std.specs.Prelude.{[], ◌∷◌}
use Rattle.std.specs.declared.cmp.Ordering.{Ordering}
use Rattle.std.specs.declared.cmp.Ordering.TheVariants.{Less, Equal, Greater}
use Rattle.std.specs.declared.ops.Bound.TheVariants.{Included}
use Rattle.std.specs.Ordering.{is_le, is_lt, nat_cmp, ordering_then}
use Rattle.std.specs.BTreeMap.{is_at}
use Rattle.std.specs.BTreeMap.Range.{range_contains}
use Rattle.std.specs.FinMap.{get}
use Rattle.std.specs.List.{filter, list_all, list_any}
use Rattle.std.proofs.Common.{sym, ◌∙◌, ap, subst, inl, inr, arith}
use Rattle.std.proofs.lemmas.Bool.{and_from, and_parts, cases_Bool, or_cases, or_left, or_right, true≢false}
use Rattle.std.proofs.lemmas.Bool.Decides.{nat_tests}
use Rattle.std.proofs.lemmas.Cmp.{tied_itself}
use Rattle.std.proofs.lemmas.Map.Lookups.{CmpEqualImpliesEq, exact_unsigned}
use Rattle.grid_address.proofs.Maps.{equal_of}
use Rattle.grid_address.proofs.Places.{cells_exact}
use Rattle.grid_address.specs.Place.{is_within, place_cmp, whole, Extent, Place}
use Rattle.range_index.specs.inner.Blocks.{block_at, size_of}
use Rattle.range_index.specs.Owners.{hold, spans_in, Owners}
use Rattle.range_index.specs.inner.Powers.{powers_cmp, Powers}
use Rattle.range_index.specs.inner.Registered.{block_cmp, has_place, has_registration, has_size, is_registered, owned}
use Rattle.range_index.specs.inner.Registered.{registered, registration_cmp, AreAmong, AreFoundAt, AreFoundIn}
use Rattle.range_index.specs.inner.Registered.{AreFoundOrCome, AreFoundOrLeft, AreRegistered}
use Rattle.range_index.specs.declared.block.Block.{Block}
use Rattle.range_index.specs.declared.register.Registration.{Registration}
use Rattle.range_index.proofs.Registrations.{block_total, then_parts}
use Rattle.range_index.proofs.Sizes.{same_block}

-- sizes between which the order sees no difference are the same
pub powers_exact : CmpEqualImpliesEq powers_cmp
powers_exact a b h =
    let p = then_parts (nat_cmp a.rows b.rows) (nat_cmp a.cols b.cols) h in
    let r : a.rows ≡ b.rows = exact_unsigned a.rows b.rows p.0 in
    let c : a.cols ≡ b.cols = exact_unsigned a.cols b.cols p.1 in
    λ i. record { rows = r i; cols = c i }

block_exact : CmpEqualImpliesEq block_cmp
block_exact a b h =
    let p = then_parts (powers_cmp a.size b.size) (ordering_then (nat_cmp a.row b.row) (nat_cmp a.col b.col)) h in
    let q = then_parts (nat_cmp a.row b.row) (nat_cmp a.col b.col) p.1 in
    let s : a.size ≡ b.size = powers_exact a.size b.size p.0 in
    let r : a.row ≡ b.row = exact_unsigned a.row b.row q.0 in
    let c : a.col ≡ b.col = exact_unsigned a.col b.col q.1 in
    λ i. record { size = s i; row = r i; col = c i }

-- registrations between which the order sees no difference are the same
pub registration_exact : CmpEqualImpliesEq registration_cmp
registration_exact a b h =
    let p = then_parts (block_cmp a.block b.block) (place_cmp a.owner b.owner) h in
    let k : a.block ≡ b.block = block_exact a.block b.block p.0 in
    let o : a.owner ≡ b.owner = cells_exact a.owner b.owner p.1 in
    λ i. record { block = k i; owner = o i }

-- one owner more is that owner, or was there
pub gained_only : (old new : List Place) (k q : Place) → has_place new q ≡ cond (is_at
    (place_cmp k) q) true (has_place old q) → has_place new q ≡ true → (has_place old q ≡ true) ⊎ (q ≡ k)
gained_only old new k q h e = elim (cases_Bool (is_at (place_cmp k) q)) [
  | inl t ↦ inr (sym (cells_exact k q (equal_of _ t)))
  | inr f ↦ inl (sym (h ∙ ap (λ b. cond b true (has_place old q)) f) ∙ e)
]

any_filter : {K : Type 0} {R : K → K → Ordering} (exact : CmpEqualImpliesEq R) (f : K → Bool) (xs : List K) (q : K)
    → f q ≡ true → list_any (is_at (R q)) xs ≡ true → list_any (is_at (R q)) (filter f xs) ≡ true
any_filter {R = R} exact f [] q here h = h
any_filter {R = R} exact f (x ∷ xs) q here h = elim (cases_Bool (f x)) [
  | inl t ↦ ap (λ b. list_any (is_at (R q)) (cond b (x ∷ filter f xs) (filter f xs))) t
      ∙ elim (or_cases (is_at (R q) x) (list_any (is_at (R q)) xs) h) [
        | inl at ↦ or_left _ _ at
        | inr later ↦ or_right _ _ (any_filter exact f xs q here later)
      ]
  | inr k ↦ ap (λ b. list_any (is_at (R q)) (cond b (x ∷ filter f xs) (filter f xs))) k
      ∙ elim (or_cases (is_at (R q) x) (list_any (is_at (R q)) xs) h) [
        | inl at ↦ absurd (true≢false (sym here ∙ ap f (exact q x (equal_of _ at)) ∙ k))
        | inr later ↦ any_filter exact f xs q here later
      ]
]

upto : (a b : ℕ) → a ≤ b → is_le (nat_cmp a b) ≡ true
upto a b h = elim (cases_Bool (nat_lt a b)) [
  | inl t ↦ rw t refl
  | inr f ↦ let e : (a == b) ≡ true = grind (arith, nat_tests, f) in rw (f, e) refl
]

not_below : (a b : ℕ) → b ≤ a → is_lt (nat_cmp a b) ≡ false
not_below a b h = let f : nat_lt a b ≡ false = grind (arith, nat_tests) in
    rw f (elim (cases_Bool (a == b)) [ inl t ↦ rw t refl | inr e ↦ rw e refl ])

then_le : (x y : Ordering) → is_le x ≡ true → is_le y ≡ true → is_le (ordering_then x y) ≡ true
then_le Less y h k = refl
then_le Equal y h k = k
then_le Greater y h k = absurd (true≢false (sym h))

then_not_lt : (x y : Ordering) → is_lt x ≡ false → is_lt y ≡ false → is_lt (ordering_then x y) ≡ false
then_not_lt Less y h k = absurd (true≢false h)
then_not_lt Equal y h k = k
then_not_lt Greater y h k = refl

in_block : (b : Block) (o : Place) → is_within whole o ≡ true → range_contains registration_cmp (Included
    (owned b whole.first)) (Included (owned b whole.last)) (owned b o) ≡ true
in_block b o h =
    let w = and_parts (nat_le 0 o.row && nat_le o.row 8191) (nat_le 0 o.col && nat_le o.col 255) h in
    let row : nat_le o.row 8191 ≡ true = (and_parts (nat_le 0 o.row) (nat_le o.row 8191) w.0).1 in
    let col : nat_le o.col 255 ≡ true = (and_parts (nat_le 0 o.col) (nat_le o.col 255) w.1).1 in
    let high : o.row ≤ 8191 = grind (arith, nat_tests, row) in
    let wide : o.col ≤ 255 = grind (arith, nat_tests, col) in
    let same : block_cmp b b ≡ Equal = tied_itself block_total b in
    and_from _ _
    (ap (λ r. is_le (ordering_then r (place_cmp whole.first o))) same
    ∙ then_le (nat_cmp 0 o.row) (nat_cmp 0 o.col) (upto 0 o.row (omega arith)) (upto 0 o.col (omega arith)))
    (ap (λ r. not (is_lt (ordering_then r (place_cmp whole.last o)))) same ∙ ap not
    (then_not_lt (nat_cmp 8191 o.row) (nat_cmp 255 o.col) (not_below 8191 o.row high) (not_below 255 o.col wide)))

module _ (m : Owners) (p : Place) (rs : List Registration) where
  -- before the first registration of a block, all of its owners are still to come
  pub all_left : (b : Block) (found : List Place) (between : List Registration)
      → between ≡ filter (range_contains registration_cmp (Included (owned b whole.first))
      (Included (owned b whole.last))) rs → AreFoundOrLeft m p rs b found between
  all_left b found between e o w h k = inr (subst (λ xs. has_registration xs (owned b o) ≡ true) (sym e)
      (any_filter registration_exact _ rs (owned b o) (in_block b o w) h))

  -- with one registration's owner found, the others are found or still to come
  pub one_found : (b : Block) (found new : List Place) (r : Registration) (left : List Registration)
      → AreFoundOrLeft m p rs b found (r ∷ left) → AreAmong found new → has_place new r.owner ≡ true
      → AreFoundOrLeft m p rs b new left
  one_found b found new r left h kept has o w g k = elim (h o w g k) [
    | inl f ↦ inl (kept o f)
    | inr l ↦ elim (or_cases (is_at (registration_cmp (owned b o)) r) (has_registration left (owned b o)) l) [
      | inl at ↦ inl (subst (λ (x : Registration). has_place new x.owner ≡ true)
          (sym (registration_exact (owned b o) r (equal_of _ at))) has)
      | inr later ↦ inr later
    ]
  ]

  -- a registration whose owner has no span that holds the place is passed over
  pub one_passed : (b : Block) (found : List Place) (r : Registration) (left : List Registration)
      → AreFoundOrLeft m p rs b found (r ∷ left) → hold (spans_in (get m r.owner)) p ≡ false
      → AreFoundOrLeft m p rs b found left
  one_passed b found r left h unowned o w g k = elim (h o w g k) [
    | inl f ↦ inl f
    | inr l ↦ elim (or_cases (is_at (registration_cmp (owned b o)) r) (has_registration left (owned b o)) l) [
      | inl at ↦ absurd (true≢false (sym k ∙ ap (λ (x : Registration). hold (spans_in (get m x.owner)) p)
          (registration_exact (owned b o) r (equal_of _ at)) ∙ unowned))
      | inr later ↦ inr later
    ]
  ]

  -- where no registration of a block is left, its owners are found
  pub none_left : (b : Block) (found : List Place) → AreFoundOrLeft m p rs b found [] → AreFoundIn m p rs b found
  none_left b found h o w g k = elim (h o w g k) [
    | inl f ↦ f
    | inr l ↦ absurd (true≢false (sym l))
  ]

  -- with the owners of one size found, those of the others are found or their size is still to come
  pub one_size : (sizes : List Powers) (found new : List Place) (z : Powers) (left : List Powers)
      → AreFoundOrCome m p rs sizes found (z ∷ left) → AreAmong found new → AreFoundIn m p rs (block_at z p) new
      → AreFoundOrCome m p rs sizes new left
  one_size sizes found new z left h kept all y g = elim (h y g) [
    | inl f ↦ inl (λ o w r k. kept o (f o w r k))
    | inr l ↦ elim (or_cases (is_at (powers_cmp y) z) (has_size left y) l) [
      | inl at ↦ inl
          (subst (λ (x : Powers). AreFoundIn m p rs (block_at x p) new) (sym (powers_exact y z (equal_of _ at))) all)
      | inr later ↦ inr later
    ]
  ]

  -- where no size is left, the owners of each are found
  pub all_sizes : (sizes : List Powers) (found : List Place) → AreFoundOrCome m p rs sizes found []
      → AreFoundAt m p rs sizes found
  all_sizes sizes found h z g = elim (h z g) [
    | inl f ↦ f
    | inr l ↦ absurd (true≢false (sym l))
  ]

  -- an owner of which a registered span holds the place is found
  among : (sizes : List Powers) (found : List Place) → AreFoundAt m p rs sizes found → (o : Place)
      → hold (spans_in (get m o)) p ≡ true → (spans : List Extent) → list_all (is_registered sizes rs o) spans ≡ true
      → hold spans p ≡ true → has_place found o ≡ true
  among sizes found all o k [] r h = absurd (true≢false (sym h))
  among sizes found all o k (s ∷ spans) r h =
      let e = and_parts (is_registered sizes rs o s) (list_all (is_registered sizes rs o) spans) r in
      elim (or_cases (is_within s p) (hold spans p) h) [
        | inl inside ↦
            let x = and_parts _ _ e.0 in
            let y = and_parts _ _ x.0 in
            let z = and_parts _ _ x.1 in
            all (size_of s) z.0 o y.0
            (subst (λ (b : Block). has_registration rs (owned b o) ≡ true) (sym (same_block s p y.1 inside)) z.1) k
        | inr later ↦ among sizes found all o k spans e.1 later
      ]

  -- where the owners of each size are found, each owner of a span that holds the place is
  pub all_owners : (sizes : List Powers) (found : List Place) → AreRegistered m sizes rs → AreFoundAt m p rs sizes found
      → (o : Place) → hold (spans_in (get m o)) p ≡ true → has_place found o ≡ true
  all_owners sizes found registered all o k = among sizes found all o k (spans_in (get m o)) (registered o) k

  -- where none is found in any size, none is there
  pub none_owned : (sizes : List Powers) → AreRegistered m sizes rs → AreFoundAt m p rs sizes [] → (o : Place)
      → hold (spans_in (get m o)) p ≡ false
  none_owned sizes registered all o = elim (cases_Bool (hold (spans_in (get m o)) p)) [
    | inl t ↦ absurd (true≢false (sym (all_owners sizes [] registered all o t)))
    | inr f ↦ f
  ]
