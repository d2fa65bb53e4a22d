-- What is picked among held cells, once it is sorted, is what is picked among the map's entries.
use Rattle.std.specs.Prelude.{suc, ◌≡◌, ◌&&◌, ◌||◌, Bool, true, false, cond, refl, List, [], ◌∷◌, Option, None, Some}
use Rattle.std.specs.BTreeMap.{is_at}
use Rattle.std.specs.FinMap.{entries, entries_sorted, find, from_entries, get, get-entries, get-from_entries}
use Rattle.std.specs.List.{dedup, dedup_from, list_any, AllByRecursion, IsDistinct}
use Rattle.std.specs.List.Sorted.{IsPermutation, IsSorted, IsStrictlySortedBy}
use Rattle.std.specs.Map.{keys_of}
use Rattle.std.specs.declared.cmp.Ordering.TheVariants.{Less}
use Rattle.std.proofs.Common.{sym, ◌∙◌, ap, subst, inl, inr, arith}
use Rattle.std.proofs.lemmas.Bool.{cases_Bool, or_parts}
use Rattle.std.proofs.lemmas.List.Kept.{IsStrictlySortedBy-dedup}
use Rattle.std.proofs.lemmas.List.Sorted.{list_any-IsPermutation}
use Rattle.std.proofs.lemmas.Map.Keys.{IsDistinct-cons, IsDistinct-IsPermutation}
use Rattle.std.proofs.lemmas.Map.Lookups.{btree_set_from_contains}
use Rattle.std.proofs.lemmas.Option.{none-some}
use Rattle.grid_address.proofs.Maps.{find_none_below, in_order}
use Rattle.grid_address.proofs.Places.{cells_exact, cells_total, place_tied, same_place_is, same_place_laws}
use Rattle.grid_address.specs.Place.{is_within, place_cmp, same_place, Extent, Place}
use Rattle.cell_maps.specs.Filled.{cell_in, cells_of, filled, item_in, with_item, AreOnce}
use Rattle.cell_maps.specs.Sets.{has}
use Rattle.cell_maps.specs.declared.held.Held.{Held}
use Rattle.cell_maps.proofs.Filled.{none_at}
use Rattle.sheet_store.specs.Grid.{picked, Cells}
use Rattle.sheet_store.specs.State.{CellState}

-- each after those before it, by row and then by column
abbrev pub Ascends : List Place → Type 0
Ascends xs = IsStrictlySortedBy place_cmp xs

-- no place has two entries
abbrev pub AreApart : List (Place × CellState) → Type 0
AreApart [] = Unit {0}
AreApart (e ∷ es) = (find place_cmp e.0 es ≡ None) × AreApart es

ordered_apart : (es : List (Place × CellState)) → Ascends (keys_of es) → AreApart es
unfolding IsStrictlySortedBy
ordered_apart [] h = tt
ordered_apart (e ∷ es) h = (find_none_below place_cmp e.0 es h.0, ordered_apart es h.1)

-- those of held cells are, where each is held once
pub filled_apart : (hs : List (Held CellState)) → AreOnce (cells_of hs) → AreApart (filled hs)
filled_apart [] once = tt
filled_apart (h ∷ hs) once =
    with (item_in h)
    (filled_apart hs (λ i j c a b. (let e : suc i ≡ suc j = once (suc i) (suc j) c a b in omega (arith, e))))
  where
    with : (o : Option CellState) → AreApart (filled hs) → AreApart (with_item (cell_in h) o (filled hs))
    with None rest = rest
    with (Some s) rest = (
      none_at (cell_in h) hs
          (λ i k. (let e : suc i ≡ 0 = once (suc i) 0 (cell_in h) k refl in absurd (omega (arith, e)))),
      rest,
    )

-- lists in row order with the same members are one
pub same_members : (xs ys : List Place) → Ascends xs → Ascends ys
    → ((q : Place) → has same_place xs q ≡ has same_place ys q) → xs ≡ ys
same_members xs ys a b h =
    btree_set_from_contains cells_total (record { keys = xs }) (record { keys = ys }) a b
    (λ q. tied q xs ∙ h q ∙ sym (tied q ys)) cells_exact
  where
    tied : (q : Place) (zs : List Place) → list_any (is_at (place_cmp q)) zs ≡ has same_place zs q
    tied q [] = refl
    tied q (z ∷ zs) =
        ap (λ b. b || list_any (is_at (place_cmp q)) zs) (place_tied q z) ∙ ap (λ b. same_place q z || b) (tied q zs)

-- where no place comes twice, none is dropped
dedup_same : (k : Place) (xs : List Place) → IsDistinct same_place (k ∷ xs) → dedup_from same_place k xs ≡ k ∷ xs
unfolding IsDistinct
dedup_same k [] h = refl
dedup_same k (x ∷ xs) h =
    ap (λ b. cond b (dedup_from same_place k xs) (k ∷ dedup_from same_place x xs)) (same_place_laws.symm x k ∙ h.0.0)
    ∙ ap (λ l. k ∷ l) (dedup_same x xs h.1)

dedup_all : (xs : List Place) → IsDistinct same_place xs → dedup same_place xs ≡ xs
dedup_all [] h = refl
dedup_all (x ∷ xs) h = dedup_same x xs h

-- distinct places, sorted
pub sorted_ascends : (xs ys : List Place) → IsDistinct same_place xs → IsPermutation xs ys → IsSorted place_cmp ys
    → Ascends ys
sorted_ascends xs ys d p s =
    subst Ascends (dedup_all ys (IsDistinct-IsPermutation same_place same_place_laws.symm xs ys p d))
    (IsStrictlySortedBy-dedup cells_total {E = same_place} (λ x y. sym (place_tied x y)) ys s)

others : (q : Place) (xs : List Place) → has same_place xs q ≡ false → AllByRecursion (λ y. same_place q y ≡ false) xs
others q [] h = tt
others q (x ∷ xs) h = let p = or_parts (same_place q x) (has same_place xs q) h in (p.0, others q xs p.1)

module _ (test : CellState → Bool) (span : Extent) where
  -- whether what a place has is picked
  is_picked : Place → Option CellState → Bool
  is_picked q None = false
  is_picked q (Some s) = is_within span q && test s

  picked_missed : (q : Place) (es : List (Place × CellState)) → find place_cmp q es ≡ None
      → has same_place (picked test span es) q ≡ false
  picked_missed q [] h = refl
  picked_missed q (e ∷ es) h = elim (cases_Bool (same_place q e.0)) [
    | inl t ↦ absurd (none-some e.1 (sym h ∙ ap (λ b. cond b (Some e.1) (find place_cmp q es)) (place_tied q e.0 ∙ t)))
    | inr f ↦
        with f (is_within span e.0 && test e.1)
        (picked_missed q es (sym (ap (λ b. cond b (Some e.1) (find place_cmp q es)) (place_tied q e.0 ∙ f)) ∙ h))
  ]
    where
      with : same_place q e.0 ≡ false → (b : Bool) → has same_place (picked test span es) q ≡ false
          → has same_place (cond b (e.0 ∷ picked test span es) (picked test span es)) q ≡ false
      with f true k = ap (λ x. x || has same_place (picked test span es) q) f ∙ k
      with f false k = k

  has_picked : (q : Place) (es : List (Place × CellState)) → AreApart es
      → has same_place (picked test span es) q ≡ is_picked q (find place_cmp q es)
  unfolding is_picked
  has_picked q [] h = refl
  has_picked q (e ∷ es) h = elim (cases_Bool (same_place q e.0)) [
    | inl t ↦
        here t (is_within span e.0 && test e.1) refl
        ∙ sym (ap (λ b. is_picked q (cond b (Some e.1) (find place_cmp q es))) (place_tied q e.0 ∙ t))
    | inr f ↦
        there f (is_within span e.0 && test e.1) (has_picked q es h.1)
        ∙ sym (ap (λ b. is_picked q (cond b (Some e.1) (find place_cmp q es))) (place_tied q e.0 ∙ f))
  ]
    where
      here : same_place q e.0 ≡ true → (b : Bool) → (is_within span e.0 && test e.1) ≡ b
          → has same_place (cond b (e.0 ∷ picked test span es) (picked test span es)) q ≡ (is_within span q && test e.1)
      here t true k =
          ap (λ b. b || has same_place (picked test span es) q) t
          ∙ sym (ap (λ x. is_within span x && test e.1) (same_place_is q e.0 t) ∙ k)
      here t false k =
          ap (has same_place (picked test span es)) (same_place_is q e.0 t) ∙ picked_missed e.0 es h.0
          ∙ sym (ap (λ x. is_within span x && test e.1) (same_place_is q e.0 t) ∙ k)

      there : same_place q e.0 ≡ false → (b : Bool)
          → has same_place (picked test span es) q ≡ is_picked q (find place_cmp q es)
          → has same_place (cond b (e.0 ∷ picked test span es) (picked test span es)) q
          ≡ is_picked q (find place_cmp q es)
      there f true k = ap (λ b. b || has same_place (picked test span es) q) f ∙ k
      there f false k = k

  picked_distinct : (es : List (Place × CellState)) → AreApart es → IsDistinct same_place (picked test span es)
  unfolding IsDistinct
  picked_distinct [] h = tt
  picked_distinct (e ∷ es) h = with (is_within span e.0 && test e.1) (picked_distinct es h.1)
    where
      with : (b : Bool) → IsDistinct same_place (picked test span es)
          → IsDistinct same_place (cond b (e.0 ∷ picked test span es) (picked test span es))
      with true rest =
          IsDistinct-cons same_place e.0 (picked test span es)
          (others e.0 (picked test span es) (picked_missed e.0 es h.0)) rest
      with false rest = rest

  picked_above : (x : Place) (es : List (Place × CellState)) → AllByRecursion (λ y. place_cmp x y ≡ Less) (keys_of es)
      → AllByRecursion (λ y. place_cmp x y ≡ Less) (picked test span es)
  picked_above x [] h = tt
  picked_above x (e ∷ es) h = with (is_within span e.0 && test e.1) (picked_above x es h.1)
    where
      with : (b : Bool) → AllByRecursion (λ y. place_cmp x y ≡ Less) (picked test span es)
          → AllByRecursion (λ y. place_cmp x y ≡ Less) (cond b (e.0 ∷ picked test span es) (picked test span es))
      with true a = (h.0, a)
      with false a = a

  picked_ascends : (es : List (Place × CellState)) → Ascends (keys_of es) → Ascends (picked test span es)
  unfolding IsStrictlySortedBy
  picked_ascends [] h = tt
  picked_ascends (e ∷ es) h = with (is_within span e.0 && test e.1) (picked_above e.0 es h.0) (picked_ascends es h.1)
    where
      with : (b : Bool) → AllByRecursion (λ y. place_cmp e.0 y ≡ Less) (picked test span es)
          → Ascends (picked test span es) → Ascends (cond b (e.0 ∷ picked test span es) (picked test span es))
      with true a s = (a, s)
      with false a s = s

  -- the places that are picked among held cells, once sorted, are those that are picked in the map
  pub sorted_picked : (hs : List (Held CellState)) (m : Cells) (xs : List Place) → from_entries (filled hs) ≡ m
      → AreOnce (cells_of hs) → IsPermutation (picked test span (filled hs)) xs → IsSorted place_cmp xs
      → xs ≡ picked test span (entries m)
  sorted_picked hs m xs is once p s =
      let apart = filled_apart hs once in
      let ordered = in_order cells_total (entries m) (entries_sorted m) in
      same_members xs (picked test span (entries m))
      (sorted_ascends (picked test span (filled hs)) xs (picked_distinct (filled hs) apart) p s)
      (picked_ascends (entries m) ordered) (λ q.
      sym (list_any-IsPermutation (same_place q) (picked test span (filled hs)) xs p) ∙ has_picked q (filled hs) apart
      ∙ ap (is_picked q) (sym (get-from_entries cells_total (filled hs) q) ∙ ap (λ n. get n q) is ∙ get-entries m q)
      ∙ sym (has_picked q (entries m) (ordered_apart (entries m) ordered)))
