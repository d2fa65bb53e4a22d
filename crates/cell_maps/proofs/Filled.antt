-- What a map of held cells has, and what it has after an item is put in or taken out.
use Rattle.std.specs.Prelude.{ℕ, suc, zero, ◌≡◌, ◌+◌, ◌*◌, ◌<◌, ◌≤◌, ◌++◌, cond, refl, true, false, List, [], ◌∷◌}
use Rattle.std.specs.Prelude.{length, map, get_or, set, slice_get, nat_eq, Option, None, Some}
use Rattle.std.specs.FinMap.{find, from_entries, from_entries_push, get, get-from_entries, insert, remove}
use Rattle.std.specs.List.{list_any, Contains, IsDistinct}
use Rattle.std.specs.Ordering.{eq_by_cmp}
use Rattle.std.proofs.Common.{sym, ◌∙◌, ap, subst, arith, inl, inr, ◌⊎◌}
use Rattle.std.proofs.lemmas.Bool.{cases_Bool, eqb-true, false≢true, ne_eqb}
use Rattle.std.proofs.lemmas.List.{get_or-map, length-map}
use Rattle.std.proofs.lemmas.Map.Keys.{IsDistinct-from_apart}
use Rattle.std.proofs.lemmas.Map.Steps.{length-le_from_distinct_below}
use Rattle.std.proofs.lemmas.Map.Views.{Contains-from_any}
use Rattle.std.specs.Option.{option_map}
use Rattle.std.proofs.lemmas.Option.{none-some, same_Some, slice_get-get_or, slice_get-map, slice_get_within}
use Rattle.std.proofs.Math.Nat.{suc_inj}
use Rattle.grid_address.specs.Place.{place_cmp, same_place, InSheet, Place}
use Rattle.grid_address.proofs.Places.{cells_exact, cells_total, get_inserted, get_removed, place_tied, same_place_is}
use Rattle.grid_address.proofs.Places.{same_place_itself, same_places}
use Rattle.cell_maps.specs.Numbers.{number_at, Numbers}
use Rattle.cell_maps.specs.Filled.{cell_in, cells_of, filled, item_in, with_item}
use Rattle.cell_maps.specs.inner.Numbering.{AreNumbered}
use Rattle.cell_maps.specs.declared.held.Held.{Held}
use Rattle.cell_maps.specs.declared.held.Held.TheVariants as held

apart : (q c : Place) → (c ≡ q → ⊥) → eq_by_cmp place_cmp q c ≡ false
apart q c n = elim (cases_Bool (same_place q c)) [
  | inl t ↦ absurd (n (sym (same_place_is q c t)))
  | inr f ↦ place_tied q c ∙ f
]

module _ {T : Type 0} where
  skip : (q c : Place) (o : Option T) (es : List (Place × T)) → (c ≡ q → ⊥)
      → find place_cmp q (with_item c o es) ≡ find place_cmp q es
  skip q c None es n = refl
  skip q c (Some x) es n = ap (λ b. cond b (Some x) (find place_cmp q es)) (apart q c n)

  here : (q c : Place) (o : Option T) (es : List (Place × T)) → c ≡ q → find place_cmp q es ≡ None
      → find place_cmp q (with_item c o es) ≡ o
  here q c None es e none = none
  here q c (Some x) es e none =
      ap (λ b. cond b (Some x) (find place_cmp q es)) (place_tied q c ∙ ap (same_place q) e ∙ same_place_itself q)

  under : (q c : Place) (o : Option T) (es fs : List (Place × T)) → find place_cmp q es ≡ find place_cmp q fs
      → find place_cmp q (with_item c o es) ≡ find place_cmp q (with_item c o fs)
  under q c None es fs h = h
  under q c (Some x) es fs h = ap (λ f. cond (eq_by_cmp place_cmp q c) (Some x) f) h

  with_append : (c : Place) (o : Option T) (es fs : List (Place × T))
      → with_item c o (es ++ fs) ≡ with_item c o es ++ fs
  with_append c None es fs = refl
  with_append c (Some x) es fs = refl

  filled_push : (hs : List (Held T)) (h : Held T) → filled (hs ++ h ∷ []) ≡ filled hs ++ filled (h ∷ [])
  filled_push [] h = refl
  filled_push (x ∷ hs) h = ap (with_item (cell_in x) (item_in x)) (filled_push hs h)
      ∙ with_append (cell_in x) (item_in x) (filled hs) (filled (h ∷ []))

  -- a cell that isn't held has no item
  pub none_at : (q : Place) (hs : List (Held T)) → ((i : ℕ) → slice_get (cells_of hs) i ≡ Some q → ⊥)
      → find place_cmp q (filled hs) ≡ None
  none_at q [] n = refl
  none_at q (x ∷ hs) n = skip q (cell_in x) (item_in x) (filled hs) (λ e. n 0 (ap Some e))
      ∙ none_at q hs (λ i. n (suc i))

  item_at : (q : Place) (hs : List (Held T)) (i : ℕ) (h : Held T) → slice_get hs i ≡ Some h → cell_in h ≡ q
      → ((j : ℕ) → slice_get (cells_of hs) j ≡ Some q → j ≡ i) → find place_cmp q (filled hs) ≡ item_in h
  item_at q [] i h e c u = absurd (none-some _ e)
  item_at q (x ∷ hs) zero h e c u =
      let is : x ≡ h = same_Some _ _ e in
      here q (cell_in x) (item_in x) (filled hs) (ap cell_in is ∙ c)
      (none_at q hs (λ i k. (let z : suc i ≡ 0 = u (suc i) k in absurd (omega (arith, z))))) ∙ ap item_in is
  item_at q (x ∷ hs) (suc i) h e c u =
      skip q (cell_in x) (item_in x) (filled hs)
      (λ k. (let z : 0 ≡ suc i = u 0 (ap Some k) in absurd (omega (arith, z))))
      ∙ item_at q hs i h e c (λ j k. suc_inj (u (suc j) k))

  beside : (q : Place) (hs : List (Held T)) (i : ℕ) (g : Held T)
      → (cell_in g ≡ q → ⊥) → slice_get (cells_of hs) i ≡ Some (cell_in g)
      → find place_cmp q (filled (set hs i g)) ≡ find place_cmp q (filled hs)
  beside q [] i g n e = refl
  beside q (x ∷ hs) zero g n e = skip q (cell_in g) (item_in g) (filled hs) n
      ∙ sym (skip q (cell_in x) (item_in x) (filled hs) (λ k. n (sym (same_Some _ _ e) ∙ k)))
  beside q (x ∷ hs) (suc i) g n e =
      under q (cell_in x) (item_in x) (filled (set hs i g)) (filled hs) (beside q hs i g n e)

  set_here : (hs : List (Held T)) (i : ℕ) (g h : Held T) → slice_get hs i ≡ Some h → slice_get (set hs i g) i ≡ Some g
  set_here [] i g h e = absurd (none-some _ e)
  set_here (x ∷ hs) zero g h e = refl
  set_here (x ∷ hs) (suc i) g h e = set_here hs i g h e

  -- where a held cell is put in the place of the same one, the cells that are held stay
  pub same_cells : (hs : List (Held T)) (i : ℕ) (g : Held T) → slice_get (cells_of hs) i ≡ Some (cell_in g)
      → cells_of (set hs i g) ≡ cells_of hs
  same_cells [] i g e = refl
  same_cells (x ∷ hs) zero g e = ap (λ c. c ∷ cells_of hs) (sym (same_Some _ _ e))
  same_cells (x ∷ hs) (suc i) g e = ap (λ l. cell_in x ∷ l) (same_cells hs i g e)

  module _ (bands : Numbers) (hs : List (Held T)) (ok : AreNumbered bands (cells_of hs)) (c : Place)
      (inside : InSheet c) where
    only : (i : ℕ) → number_at bands c ≡ suc i → (j : ℕ) → slice_get (cells_of hs) j ≡ Some c → j ≡ i
    only i e j k = suc_inj (sym (ok.told j c k) ∙ e)

    -- a cell's number is that of one that is held
    pub within : (i : ℕ) → number_at bands c ≡ suc i → i < length hs
    within i e = subst (λ n. i < n) (length-map hs cell_in) (slice_get_within (cells_of hs) i c (ok.found c i inside e))

    -- what is held at a cell's number is that cell
    pub cell_at : (i : ℕ) (d : Held T) → number_at bands c ≡ suc i → cell_in (get_or hs i d) ≡ c
    cell_at i d e = same_Some _ _ (sym (slice_get-map cell_in hs i
        ∙ ap (λ o. option_map cell_in o) (slice_get-get_or hs i d (within i e))) ∙ ok.found c i inside e)

    -- a cell with a number has the item that is held there
    pub got : (i : ℕ) (d : Held T) → number_at bands c ≡ suc i
        → get (from_entries {R = place_cmp} (filled hs)) c ≡ item_in (get_or hs i d)
    got i d e = get-from_entries cells_total (filled hs) c
        ∙ item_at c hs i (get_or hs i d) (slice_get-get_or hs i d (within i e)) (cell_at i d e) (only i e)

    unnumbered : number_at bands c ≡ 0 → (i : ℕ) → slice_get (cells_of hs) i ≡ Some c → ⊥
    unnumbered z i k = let n : suc i ≡ 0 = sym (ok.told i c k) ∙ z in absurd (omega (arith, n))

    -- one without a number has none
    pub got_none : number_at bands c ≡ 0 → get (from_entries {R = place_cmp} (filled hs)) c ≡ None
    got_none z = get-from_entries cells_total (filled hs) c ∙ none_at c hs (unnumbered z)

    -- where a cell is put in its own place, the numbers stay those of the cells
    pub same_numbered : (i : ℕ) (g : Held T) → number_at bands c ≡ suc i → cell_in g ≡ c
        → AreNumbered bands (cells_of (set hs i g))
    same_numbered i g e is =
        subst (AreNumbered bands) (sym (same_cells hs i g (ok.found c i inside e ∙ ap Some (sym is)))) ok

    found_set : (i : ℕ) (g : Held T) → number_at bands c ≡ suc i → cell_in g ≡ c → (q : Place)
        → find place_cmp q (filled (set hs i g)) ≡ cond (same_place q c) (item_in g) (find place_cmp q (filled hs))
    found_set i g e is q =
        let at : slice_get (cells_of hs) i ≡ Some (cell_in g) = ok.found c i inside e ∙ ap Some (sym is) in
        elim (cases_Bool (same_place q c)) [
          | inl t ↦
              let same : q ≡ c = same_place_is q c t in
              ap (λ x. find place_cmp x (filled (set hs i g))) same
              ∙ item_at c (set hs i g) i g (set_here hs i g (get_or hs i g) (slice_get-get_or hs i g (within i e))) is
              (λ j k. only i e j (subst (λ l. slice_get l j ≡ Some c) (same_cells hs i g at) k))
              ∙ ap (λ b. cond b (item_in g) (find place_cmp q (filled hs))) (sym t)
          | inr f ↦ beside q hs i g (λ k. false≢true (sym f ∙ ap (λ x. same_place x c) (sym k ∙ is)
              ∙ same_place_itself c)) at ∙ ap (λ b. cond b (item_in g) (find place_cmp q (filled hs))) (sym f)
        ]

    -- an item put in where a cell is held
    pub put_in : (i : ℕ) (x : T) → number_at bands c ≡ suc i
        → from_entries {R = place_cmp} (filled (set hs i (held.Filled c x))) ≡ insert (from_entries (filled hs)) c x
    put_in i x e = same_places _ _ (λ q. get-from_entries cells_total (filled (set hs i (held.Filled c x))) q
        ∙ found_set i (held.Filled c x) e refl q
        ∙ ap (λ o. cond (same_place q c) (Some x) o) (sym (get-from_entries cells_total (filled hs) q))
        ∙ sym (get_inserted (from_entries (filled hs)) c x q))

    -- and taken out
    pub taken_out : (i : ℕ) → number_at bands c ≡ suc i
        → from_entries {R = place_cmp} (filled (set hs i (held.Erased c))) ≡ remove (from_entries (filled hs)) c
    taken_out i e = same_places _ _ (λ q. get-from_entries cells_total (filled (set hs i (held.Erased c))) q
        ∙ found_set i (held.Erased c) e refl q
        ∙ ap (λ o. cond (same_place q c) None o) (sym (get-from_entries cells_total (filled hs) q))
        ∙ sym (get_removed (from_entries (filled hs)) c q))

    taken_cases : (z : number_at bands c ≡ 0) (q : Place) → (same_place q c ≡ true) ⊎ (same_place q c ≡ false)
        → get (from_entries {R = place_cmp} (filled hs)) q ≡ cond (same_place q c) None (get
        (from_entries {R = place_cmp} (filled hs)) q)
    taken_cases z q (inl t) = ap (get (from_entries {R = place_cmp} (filled hs))) (same_place_is q c t) ∙ got_none z
        ∙ ap (λ b. cond b None (get (from_entries {R = place_cmp} (filled hs)) q)) (sym t)
    taken_cases z q (inr f) = ap (λ b. cond b None (get (from_entries {R = place_cmp} (filled hs)) q)) (sym f)

    -- a cell without a number is taken out by leaving all as it is
    pub taken_none : number_at bands c ≡ 0
        → from_entries {R = place_cmp} (filled hs) ≡ remove (from_entries (filled hs)) c
    taken_none z = same_places _ _
        (λ q. taken_cases z q (cases_Bool (same_place q c)) ∙ sym (get_removed (from_entries (filled hs)) c q))

    -- a cell that gets its number
    pub added : (x : T) → number_at bands c ≡ 0
        → from_entries {R = place_cmp} (filled (hs ++ held.Filled c x ∷ [])) ≡ insert (from_entries (filled hs)) c x
    added x z = ap (λ es. from_entries {R = place_cmp} es) (filled_push hs (held.Filled c x))
        ∙ from_entries_push cells_total cells_exact (filled hs) c x (none_at c hs (unnumbered z))

-- an item of a list with one more is one of the list, or the last
pub last_or : (xs : List Place) (x y : Place) (i : ℕ) → slice_get (xs ++ x ∷ []) i ≡ Some y
    → (slice_get xs i ≡ Some y) ⊎ ((i ≡ length xs) × (x ≡ y))
last_or [] x y zero h = inr (refl, same_Some _ _ h)
last_or [] x y (suc i) h = absurd (none-some _ h)
last_or (z ∷ xs) x y zero h = inl h
last_or (z ∷ xs) x y (suc i) h = with (last_or xs x y i h)
  where
    with : (slice_get xs i ≡ Some y) ⊎ ((i ≡ length xs) × (x ≡ y))
        → (slice_get xs i ≡ Some y) ⊎ ((suc i ≡ suc (length xs)) × (x ≡ y))
    with (inl k) = inl k
    with (inr k) = inr (ap suc k.0, k.1)

-- an item of a list stands at its place in a longer one
pub longer : (xs zs : List Place) (y : Place) (i : ℕ) → slice_get xs i ≡ Some y → slice_get (xs ++ zs) i ≡ Some y
longer [] zs y i h = absurd (none-some _ h)
longer (x ∷ xs) zs y zero h = h
longer (x ∷ xs) zs y (suc i) h = longer xs zs y i h

-- the last item stands behind the list
pub last_is : (xs : List Place) (x : Place) → slice_get (xs ++ x ∷ []) (length xs) ≡ Some x
last_is [] x = refl
last_is (y ∷ xs) x = last_is xs x

-- one cell more, which gets the next number
pub number_last : (old new : Numbers) (cells : List Place) (c : Place) → AreNumbered old cells → InSheet c
    → number_at old c ≡ 0
    → ((d : Place) → InSheet d → number_at new d ≡ cond (same_place c d) (suc (length cells)) (number_at old d))
    → AreNumbered new (cells ++ c ∷ [])
number_last old new cells c ok inside z h = record {
  inside = λ i d k. elim (last_or cells c d i k) [ inl e ↦ ok.inside i d e | inr e ↦ subst InSheet e.1 inside ];
  told = λ i d k. told i d (last_or cells c d i k);
  found = λ d i hd k. elim (cases_Bool (same_place c d)) [
    | inl t ↦
        let n : suc (length cells) ≡ suc i = sym (ap (λ b. cond b (suc (length cells)) (number_at old d)) t)
        ∙ sym (h d hd) ∙ k in
        subst (λ j. slice_get (cells ++ c ∷ []) j ≡ Some d) (suc_inj n)
        (last_is cells c ∙ ap Some (same_place_is c d t))
    | inr f ↦ longer cells (c ∷ []) d i
        (ok.found d i hd (sym (ap (λ b. cond b (suc (length cells)) (number_at old d)) f) ∙ sym (h d hd) ∙ k))
  ];
}
  where
    told : (i : ℕ) (d : Place) → (slice_get cells i ≡ Some d) ⊎ ((i ≡ length cells) × (c ≡ d)) → number_at new d ≡ suc i
    told i d (inr e) = h d (subst InSheet e.1 inside) ∙ ap (λ b. cond b (suc (length cells)) (number_at old d))
        (ap (same_place c) (sym e.1) ∙ same_place_itself c) ∙ ap suc (sym e.0)
    told i d (inl e) = h d (ok.inside i d e)
        ∙ ap (λ b. cond b (suc (length cells)) (number_at old d)) (differ (cases_Bool (same_place c d))) ∙ ok.told i d e
      where
        differ : (same_place c d ≡ true) ⊎ (same_place c d ≡ false) → same_place c d ≡ false
        differ (inr f) = f
        differ (inl t) = let n : 0 ≡ suc i = sym z ∙ ap (number_at old) (same_place_is c d t) ∙ ok.told i d e in
            absurd (omega (arith, n))

cells_pushed : {T : Type 0} (hs : List (Held T)) (h : Held T) → cells_of (hs ++ h ∷ []) ≡ cells_of hs ++ cell_in h ∷ []
cells_pushed [] h = refl
cells_pushed (x ∷ hs) h = ap (λ l. cell_in x ∷ l) (cells_pushed hs h)

-- with one cell more, which got the next number, the numbers are those of the cells that are held
pub added_numbered : {T : Type 0} (old new : Numbers) (hs : List (Held T)) (c : Place) (x : T)
    → AreNumbered old (cells_of hs) → InSheet c → number_at old c ≡ 0
    → ((d : Place) → InSheet d → number_at new d ≡ cond (same_place c d) (suc (length hs)) (number_at old d))
    → AreNumbered new (cells_of (hs ++ held.Filled c x ∷ []))
added_numbered {T} old new hs c x ok inside z h = subst (AreNumbered new) (sym (cells_pushed hs (held.Filled c x)))
    (number_last old new (cells_of hs) c ok inside z
    (λ d k. h d k ∙ ap (λ n. cond (same_place c d) (suc n) (number_at old d)) (sym (length-map hs cell_in))))

-- the same numbers in another table
pub same_table : (old new : Numbers) (cells : List Place)
    → ((d : Place) → InSheet d → number_at new d ≡ number_at old d) → AreNumbered old cells → AreNumbered new cells
same_table old new cells h ok = record {
  inside = ok.inside;
  told = λ i c k. h c (ok.inside i c k) ∙ ok.told i c k;
  found = λ c i k e. ok.found c i k (sym (h c k) ∙ e);
}

-- a place as a number, row by row
abbrev number_of : Place → ℕ
number_of c = c.row * 256 + c.col

same_number : (c d : Place) → InSheet c → InSheet d → number_of c ≡ number_of d → c ≡ d
same_number c d hc hd e =
    let r : c.row ≡ d.row = omega (arith, e, hc.1, hd.1) in
    let s : c.col ≡ d.col = omega (arith, e, hc.1, hd.1) in
    λ i. record { row = r i; col = s i }

-- the cells of a table are told apart by their places
module _ (bands : Numbers) (cells : List Place) (ok : AreNumbered bands cells) where
  at : (i : ℕ) (d : Place) → i < length cells → slice_get cells i ≡ Some (get_or cells i d)
  at i d h = slice_get-get_or cells i d h

  inside : (i : ℕ) (d : Place) → i < length cells → InSheet (get_or cells i d)
  inside i d h = ok.inside i (get_or cells i d) (at i d h)

  first : Place
  first = record { row = 0; col = 0 }

  number : (i d : ℕ) → i < length cells → get_or (map number_of cells) i d ≡ number_of (get_or cells i first)
  number i d h = get_or-map number_of cells i first d h

  long : length (map number_of cells) ≡ length cells
  long = length-map cells number_of

  once : (i j : ℕ) → i < j → j < length cells → get_or cells i first ≡ get_or cells j first → ⊥
  once i j h kj same =
      let ki : i < length cells = omega (arith, h, kj) in
      let twice : suc i ≡ suc j = sym (ok.told i (get_or cells i first) (at i first ki)) ∙ ap (number_at bands) same
      ∙ ok.told j (get_or cells j first) (at j first kj) in
      absurd (omega (arith, twice, h))

  distinct : IsDistinct nat_eq (map number_of cells)
  distinct = IsDistinct-from_apart nat_eq (map number_of cells) (λ i j d h k. (
      let kj : j < length cells = subst (λ n. j < n) long k in
      let ki : i < length cells = omega (arith, h, kj) in
      ne_eqb (get_or (map number_of cells) i d) (get_or (map number_of cells) j d) (λ e. once i j h kj
      (same_number (get_or cells i first) (get_or cells j first) (inside i first ki) (inside j first kj)
      (sym (number i d ki) ∙ e ∙ number j d kj)))))

  below : (q : ℕ) → list_any (nat_eq q) (map number_of cells) ≡ true → q < 2097152
  below q h =
      let c : Contains (map number_of cells) q =
      Contains-from_any (λ x y e. eqb-true x y e) q (map number_of cells) h in
      let k : c.0 < length cells = subst (λ n. c.0 < n) long c.1 in
      let is : q ≡ number_of (get_or cells c.0 first) = sym c.2 ∙ number c.0 q k in
      let there = inside c.0 first k in
      omega (arith, is, there.0, there.1)

  -- no more cells have numbers than the sheet has places
  pub few_places : length cells ≤ 2097152
  few_places =
      subst (λ n. n ≤ 2097152) long (length-le_from_distinct_below (map number_of cells) 2097152 distinct below)

-- the same of held cells
pub few : {T : Type 0} (bands : Numbers) (hs : List (Held T)) → AreNumbered bands (cells_of hs) → length hs ≤ 2097152
few {T} bands hs ok = subst (λ n. n ≤ 2097152) (length-map hs cell_in) (few_places bands (cells_of hs) ok)
