-- What a set of numbered cells has, and what it has after a cell is taken out.
use Rattle.std.specs.Prelude.{ℕ, suc, zero, ◌≡◌, ◌<◌, ◌≤◌, ◌++◌, ◌||◌, cond, refl, true, false, List, [], ◌∷◌}
use Rattle.std.specs.Prelude.{length, take, get_or, set, slice_get, nat_eq, nat_lt, Bool, if◌then◌else◌, Some}
use Rattle.std.specs.List.{AllByRecursion, IsDistinct}
use Rattle.std.proofs.Common.{sym, ◌∙◌, ap, subst, arith, inl, inr, ◌⊎◌}
use Rattle.std.proofs.lemmas.Bool.{cases_Bool, eq-eqb, eqb-true, false≢true, false_from_ne_true, ltb-false, ltb-true}
use Rattle.std.proofs.lemmas.Map.Keys.{IsDistinct-from_apart}
use Rattle.std.proofs.lemmas.Option.{none-some, same_Some, slice_get-get_or, slice_get_within}
use Rattle.std.proofs.Math.Nat.{suc_inj}
use Rattle.std.proofs.Math.Bool.{or-true}
use Rattle.list_lemmas.proofs.Booleans.{same_from_both}
use Rattle.grid_address.specs.Place.{same_place, InSheet, Place}
use Rattle.grid_address.proofs.Places.{same_place_is, same_place_itself, same_place_laws}
use Rattle.cell_maps.specs.inner.Numbering.{AreNumbered}
use Rattle.cell_maps.specs.Numbers.{head_of, number_at, number_in, place_of, HasRoom, Numbers}
use Rattle.cell_maps.specs.Sets.{has, insert_key}
use Rattle.cell_maps.proofs.Filled.{last_is, last_or, longer}

-- a member has a place in the list
pub at_some : (cells : List Place) (c : Place) → has same_place cells c ≡ true → (i : ℕ) × (slice_get cells i ≡ Some c)
at_some [] c h = absurd (false≢true h)
at_some (x ∷ xs) c h = with (cases_Bool (same_place c x)) (λ k. at_some xs c k)
  where
    with : (same_place c x ≡ true) ⊎ (same_place c x ≡ false)
        → (has same_place xs c ≡ true → (i : ℕ) × (slice_get xs i ≡ Some c)) → (i : ℕ) × (slice_get (x ∷ xs) i ≡ Some c)
    with (inl t) more = (0, ap Some (sym (same_place_is c x t)))
    with (inr f) more = let r = more (ap (λ b. b || has same_place xs c) (sym f) ∙ h) in (suc r.0, r.1)

-- and what has a place is a member
pub has_at : (cells : List Place) (i : ℕ) (c : Place) → slice_get cells i ≡ Some c → has same_place cells c ≡ true
has_at [] i c e = absurd (none-some _ e)
has_at (x ∷ xs) zero c e =
    ap (λ b. b || has same_place xs c) (ap (same_place c) (same_Some _ _ e) ∙ same_place_itself c)
has_at (x ∷ xs) (suc i) c e = ap (λ b. same_place c x || b) (has_at xs i c e) ∙ or-true (same_place c x)

-- none of the cells before one is the same, where no cell stands twice
pub fresh : (cells : List Place) (i : ℕ) (c : Place) → IsDistinct same_place cells → i < length cells
    → c ≡ get_or cells i c → has same_place (take i cells) c ≡ false
unfolding IsDistinct
fresh [] i c d h e = absurd (omega (arith, h))
fresh (x ∷ xs) zero c d h e = refl
fresh (x ∷ xs) (suc i) c d h e = ap (λ b. b || has same_place (take i xs) c)
    (turned (all_at xs i c d.0 (omega (arith, h)) e)) ∙ fresh xs i c d.1 (omega (arith, h)) e
  where
    turned : same_place x c ≡ false → same_place c x ≡ false
    turned k = same_place_laws.symm c x ∙ k

    all_at : (ys : List Place) (j : ℕ) (y : Place) → AllByRecursion (λ z. same_place x z ≡ false) ys → j < length ys
        → y ≡ get_or ys j y → same_place x y ≡ false
    all_at [] j y a k f = absurd (omega (arith, k))
    all_at (z ∷ ys) zero y a k f = ap (same_place x) f ∙ a.0
    all_at (z ∷ ys) (suc j) y a k f = all_at ys j y a.1 (omega (arith, k)) f

-- a place with a number has room for one
pub room : (bands : Numbers) (c : Place) (i : ℕ) → number_at bands c ≡ suc i → HasRoom bands c
room bands c i e = above (head_of bands c) e
  where
    above : (h : ℕ) → number_in bands.numbers h (place_of c) ≡ suc i → 0 < h
    above zero k = absurd (omega (arith, k))
    above (suc h) k = omega arith

module _ (bands : Numbers) (cells : List Place) (ok : AreNumbered bands cells) where
  -- a member lies on the sheet and has a number
  pub told_member : (c : Place) → has same_place cells c ≡ true → (i : ℕ) × ((number_at bands c ≡ suc i) × InSheet c)
  told_member c h = let a = at_some cells c h in (a.0, (ok.told a.0 c a.1, ok.inside a.0 c a.1))

  -- a cell of the sheet with a number is a member
  pub member : (c : Place) (i : ℕ) → InSheet c → number_at bands c ≡ suc i → has same_place cells c ≡ true
  member c i inside e = has_at cells i c (ok.found c i inside e)

  -- one without a number is none
  pub no_member : (c : Place) → number_at bands c ≡ 0 → has same_place cells c ≡ false
  no_member c z = false_from_ne_true (has same_place cells c)
      (λ h. (let a = told_member c h in let k : suc a.0 ≡ 0 = sym a.1.0 ∙ z in absurd (omega (arith, k))))

  -- a cell of the sheet that is no member has no number
  pub no_number : (c : Place) → InSheet c → has same_place cells c ≡ false → number_at bands c ≡ 0
  no_number c inside f = with (number_at bands c) refl
    where
      with : (n : ℕ) → number_at bands c ≡ n → number_at bands c ≡ 0
      with zero e = e
      with (suc i) e = absurd (false≢true (sym f ∙ member c i inside e))

  -- where a cell has no number, none is taken out
  pub none_gone : (c : Place) → number_at bands c ≡ 0 → (d : Place)
      → has same_place cells d ≡ cond (same_place c d) false (has same_place cells d)
  none_gone c z d = elim (cases_Bool (same_place c d)) [
    | inl t ↦ ap (has same_place cells) (sym (same_place_is c d t)) ∙ no_member c z
        ∙ ap (λ b. cond b false (has same_place cells d)) (sym t)
    | inr f ↦ ap (λ b. cond b false (has same_place cells d)) (sym f)
  ]

  -- no cell is there twice
  pub distinct : IsDistinct same_place cells
  distinct = IsDistinct-from_apart same_place cells
      (λ i j d h k. false_from_ne_true (same_place (get_or cells i d) (get_or cells j d)) (λ e. (
      let ki : i < length cells = omega (arith, h, k) in
      let one = ok.told i (get_or cells i d) (slice_get-get_or cells i d ki) in
      let other = ok.told j (get_or cells j d) (slice_get-get_or cells j d k) in
      let twice : suc i ≡ suc j =
      sym one ∙ ap (number_at bands) (same_place_is (get_or cells i d) (get_or cells j d) e) ∙ other in
      absurd (omega (arith, twice, h)))))

apart : (c d : Place) → (c ≡ d → ⊥) → same_place c d ≡ false
apart c d n = false_from_ne_true (same_place c d) (λ e. n (same_place_is c d e))

-- what is put at a place of a list stands there
pub set_here : (xs : List Place) (i : ℕ) (y : Place) → i < length xs → slice_get (set xs i y) i ≡ Some y
set_here [] i y h = absurd (omega (arith, h))
set_here (x ∷ xs) zero y h = refl
set_here (x ∷ xs) (suc i) y h = set_here xs i y (omega (arith, h))

-- what is put at a place of a list leaves what stands at the others
pub set_beside : (xs : List Place) (i j : ℕ) (y : Place) → (j ≡ i → ⊥) → slice_get (set xs i y) j ≡ slice_get xs j
set_beside [] i j y n = refl
set_beside (x ∷ xs) zero zero y n = absurd (n refl)
set_beside (x ∷ xs) zero (suc j) y n = refl
set_beside (x ∷ xs) (suc i) zero y n = refl
set_beside (x ∷ xs) (suc i) (suc j) y n = set_beside xs i j y (λ e. n (ap suc e))

-- what is put past the end of a list leaves it
pub set_past : (xs : List Place) (i : ℕ) (y : Place) → length xs ≤ i → set xs i y ≡ xs
set_past [] i y h = refl
set_past (x ∷ xs) zero y h = absurd (omega (arith, h))
set_past (x ∷ xs) (suc i) y h = ap (λ l. x ∷ l) (set_past xs i y (omega (arith, h)))

-- the last cell is taken out
module _ (old new : Numbers) (cells : List Place) (c : Place) (ok : AreNumbered old (cells ++ c ∷ []))
    (h : (d : Place) → InSheet d → number_at new d ≡ cond (same_place c d) 0 (number_at old d)) where
  last : number_at old c ≡ suc (length cells)
  last = ok.told (length cells) c (last_is cells c)

  -- without the last cell, whose number is taken away, the numbers are those of the cells
  pub popped : AreNumbered new cells
  popped = record {
    inside = λ i d k. ok.inside i d (longer cells (c ∷ []) d i k);
    told = λ i d k. (let e = ok.told i d (longer cells (c ∷ []) d i k) in
        h d (ok.inside i d (longer cells (c ∷ []) d i k))
        ∙ ap (λ b. cond b 0 (number_at old d)) (apart c d (λ same. not_last i d k e same)) ∙ e);
    found = λ d i inside k. found d i inside k (cases_Bool (same_place c d));
  }
    where
      not_last : (i : ℕ) (d : Place) → slice_get cells i ≡ Some d → number_at old d ≡ suc i → c ≡ d → ⊥
      not_last i d k e same =
          let n : suc i ≡ suc (length cells) = sym e ∙ ap (number_at old) (sym same) ∙ last in
          let w = slice_get_within cells i d k in
          absurd (omega (arith, n, w))

      found : (d : Place) (i : ℕ) → InSheet d → number_at new d ≡ suc i
          → (same_place c d ≡ true) ⊎ (same_place c d ≡ false) → slice_get cells i ≡ Some d
      found d i inside k (inl t) = (let z : 0 ≡ suc i = ap (λ b. cond b 0 (number_at old d)) (sym t) ∙ sym (h d inside)
          ∙ k in absurd (omega (arith, z)))
      found d i inside k (inr f) = elim (last_or cells c d i
          (ok.found d i inside (ap (λ b. cond b 0 (number_at old d)) (sym f) ∙ sym (h d inside) ∙ k))) [
            | inl e ↦ e
            | inr e ↦ absurd (false≢true (sym f ∙ ap (same_place c) (sym e.1) ∙ same_place_itself c))
          ]

-- a cell still has its number when the last one has it too
pub still_here : (old mid : Numbers) (at : ℕ) (c last : Place) → InSheet c → number_at old c ≡ suc at
    → ((d : Place) → InSheet d → number_at mid d ≡ cond (same_place last d) (suc at) (number_at old d))
    → number_at mid c ≡ suc at
still_here old mid at c last on_sheet here moved = moved c on_sheet ∙ elim (cases_Bool (same_place last c)) [
  | inl t ↦ ap (λ b. cond b (suc at) (number_at old c)) t
  | inr f ↦ ap (λ b. cond b (suc at) (number_at old c)) f ∙ here
]

-- a cell is taken out, and the last one takes its place
module _ (old mid new : Numbers) (cells : List Place) (at : ℕ) (c last : Place)
    (ok : AreNumbered old (cells ++ last ∷ []))
    (on_sheet : InSheet c) (here : number_at old c ≡ suc at)
    (moved : (d : Place) → InSheet d → number_at mid d ≡ cond (same_place last d) (suc at) (number_at old d))
    (gone : (d : Place) → InSheet d → number_at new d ≡ cond (same_place c d) 0 (number_at mid d)) where
  end : number_at old last ≡ suc (length cells)
  end = ok.told (length cells) last (last_is cells last)

  -- where it isn't the last one
  before : at < length cells → last ≡ c → ⊥
  before w same = (let n : suc at ≡ suc (length cells) = sym here ∙ ap (number_at old) (sym same) ∙ end in
      absurd (omega (arith, n, w)))

  number_of_last : at < length cells → number_at new last ≡ suc at
  number_of_last w =
      let inside = ok.inside (length cells) last (last_is cells last) in
      gone last inside ∙ ap (λ b. cond b 0 (number_at mid last)) (apart c last (λ e. before w (sym e)))
      ∙ moved last inside
      ∙ ap (λ b. cond b (suc at) (number_at old last)) (same_place_itself last)

  number_beside : (d : Place) → InSheet d → (c ≡ d → ⊥) → (last ≡ d → ⊥) → number_at new d ≡ number_at old d
  number_beside d inside n m = gone d inside ∙ ap (λ b. cond b 0 (number_at mid d)) (apart c d n) ∙ moved d inside
      ∙ ap (λ b. cond b (suc at) (number_at old d)) (apart last d m)

  not_gone : (d : Place) (i : ℕ) → InSheet d → number_at new d ≡ suc i → c ≡ d → ⊥
  not_gone d i inside k e = (let z : 0 ≡ suc i = ap (λ b. cond b 0 (number_at mid d))
      (sym (same_place_itself c) ∙ ap (same_place c) e) ∙ sym (gone d inside) ∙ k in absurd (omega (arith, z)))

  stands : (j : ℕ) (d : Place) → slice_get (set cells at last) j ≡ Some d
      → ((j ≡ at) × ((d ≡ last) × (at < length cells))) ⊎ ((j ≡ at → ⊥) × (slice_get cells j ≡ Some d))
  stands j d k = with (cases_Bool (nat_eq j at)) (cases_Bool (nat_lt at (length cells)))
    where
      with : (nat_eq j at ≡ true) ⊎ (nat_eq j at ≡ false)
          → (nat_lt at (length cells) ≡ true) ⊎ (nat_lt at (length cells) ≡ false)
          → ((j ≡ at) × ((d ≡ last) × (at < length cells))) ⊎ ((j ≡ at → ⊥) × (slice_get cells j ≡ Some d))
      with (inl t) (inl w) =
          let e : j ≡ at = eqb-true j at t in
          let lt : at < length cells = ltb-true at (length cells) w in
          inl (e, (same_Some _ _ (sym k ∙ ap (slice_get (set cells at last)) e ∙ set_here cells at last lt), lt))
      with (inl t) (inr w) =
          let e : j ≡ at = eqb-true j at t in
          let le : length cells ≤ at = ltb-false at (length cells) w in
          let in_old = slice_get_within cells j d (ap (λ l. slice_get l j) (sym (set_past cells at last le)) ∙ k) in
          absurd (omega (arith, e, le, in_old))
      with (inr f) w = let n : (j ≡ at → ⊥) = (λ e. false≢true (sym f ∙ eq-eqb j at e)) in
          inr (n, sym (set_beside cells at j last n) ∙ k)

  -- with the last cell in the place of one that is taken out, and its number, the numbers are those of the cells
  pub removed : AreNumbered new (set cells at last)
  removed = record {
    inside = λ j d k. inside j d (stands j d k);
    told = λ j d k. told j d (stands j d k);
    found = λ d j on k. found d j on k (cases_Bool (same_place last d));
  }
    where
      inside : (j : ℕ) (d : Place) → ((j ≡ at) × ((d ≡ last) × (at < length cells)))
          ⊎ ((j ≡ at → ⊥) × (slice_get cells j ≡ Some d)) → InSheet d
      inside j d (inl e) = subst InSheet (sym e.1.0) (ok.inside (length cells) last (last_is cells last))
      inside j d (inr e) = ok.inside j d (longer cells (last ∷ []) d j e.1)

      told : (j : ℕ) (d : Place) → ((j ≡ at) × ((d ≡ last) × (at < length cells)))
          ⊎ ((j ≡ at → ⊥) × (slice_get cells j ≡ Some d)) → number_at new d ≡ suc j
      told j d (inl e) = ap (number_at new) e.1.0 ∙ number_of_last e.1.1 ∙ ap suc (sym e.0)
      told j d (inr e) =
          let was = ok.told j d (longer cells (last ∷ []) d j e.1) in
          let w = slice_get_within cells j d e.1 in
          number_beside d (ok.inside j d (longer cells (last ∷ []) d j e.1))
          (λ same. e.0 (suc_inj (sym was ∙ ap (number_at old) (sym same) ∙ here)))
          (λ same. (let n : suc j ≡ suc (length cells) = sym was ∙ ap (number_at old) (sym same) ∙ end in
          absurd (omega (arith, n, w)))) ∙ was

      found : (d : Place) (j : ℕ) → InSheet d → number_at new d ≡ suc j
          → (same_place last d ≡ true) ⊎ (same_place last d ≡ false) → slice_get (set cells at last) j ≡ Some d
      found d j on k (inl t) =
          let same = same_place_is last d t in
          let alive = not_gone d j on k in
          let w : at < length cells = elim (last_or cells last c at (ok.found c at on_sheet here)) [
            | inl e ↦ slice_get_within cells at c e
            | inr e ↦ absurd (alive (sym e.1 ∙ same))
          ] in
          let n : suc j ≡ suc at = sym k ∙ ap (number_at new) (sym same) ∙ number_of_last w in
          ap (slice_get (set cells at last)) (suc_inj n) ∙ set_here cells at last w ∙ ap Some same
      found d j on k (inr f) =
          let alive = not_gone d j on k in
          let other : (last ≡ d → ⊥) =
          (λ e. false≢true (sym f ∙ ap (same_place last) (sym e) ∙ same_place_itself last)) in
          let was : number_at old d ≡ suc j = sym (number_beside d on alive other) ∙ k in
          let n : (j ≡ at → ⊥) = (λ e. alive (same_Some _ _ (sym (ok.found c at on_sheet here)
          ∙ ap (slice_get (cells ++ last ∷ [])) (sym e) ∙ ok.found d j on was))) in
          elim (last_or cells last d j (ok.found d j on was)) [
            | inl e ↦ set_beside cells at j last n ∙ e
            | inr e ↦ absurd (other e.1)
          ]

  -- the members are the others
  pub others : (d : Place)
      → has same_place (set cells at last) d ≡ cond (same_place c d) false (has same_place (cells ++ last ∷ []) d)
  others d = same_from_both _ _ forth back
    where
      forth : has same_place (set cells at last) d ≡ true
          → cond (same_place c d) false (has same_place (cells ++ last ∷ []) d) ≡ true
      forth h =
          let a = told_member new (set cells at last) removed d h in
          let alive = not_gone d a.0 a.1.1 a.1.0 in
          ap (λ b. cond b false (has same_place (cells ++ last ∷ []) d)) (apart c d alive)
          ∙ elim (cases_Bool (same_place last d)) [
            | inl t ↦
                has_at (cells ++ last ∷ []) (length cells) d (last_is cells last ∙ ap Some (same_place_is last d t))
            | inr f ↦ member old (cells ++ last ∷ []) ok d a.0 a.1.1
                (sym (number_beside d a.1.1 alive
                (λ e. false≢true (sym f ∙ ap (same_place last) (sym e) ∙ same_place_itself last))) ∙ a.1.0)
          ]

      back : cond (same_place c d) false (has same_place (cells ++ last ∷ []) d) ≡ true
          → has same_place (set cells at last) d ≡ true
      back h = with (cases_Bool (same_place c d)) (cases_Bool (same_place last d))
        where
          with : (same_place c d ≡ true) ⊎ (same_place c d ≡ false)
              → (same_place last d ≡ true) ⊎ (same_place last d ≡ false) → has same_place (set cells at last) d ≡ true
          with (inl t) l =
              absurd (false≢true (ap (λ b. cond b false (has same_place (cells ++ last ∷ []) d)) (sym t) ∙ h))
          with (inr f) (inl t) =
              let same = same_place_is last d t in
              let alive : (c ≡ d → ⊥) = (λ e. false≢true (sym f ∙ ap (same_place c) (sym e) ∙ same_place_itself c)) in
              let w : at < length cells = elim (last_or cells last c at (ok.found c at on_sheet here)) [
                | inl e ↦ slice_get_within cells at c e
                | inr e ↦ absurd (alive (sym e.1 ∙ same))
              ] in
              has_at (set cells at last) at d (set_here cells at last w ∙ ap Some same)
          with (inr f) (inr g) =
              let a = told_member old (cells ++ last ∷ []) ok d
              (ap (λ b. cond b false (has same_place (cells ++ last ∷ []) d)) (sym f) ∙ h) in
              member new (set cells at last) removed d a.0 a.1.1
              (number_beside d a.1.1 (λ e. false≢true (sym f ∙ ap (same_place c) (sym e) ∙ same_place_itself c))
              (λ e. false≢true (sym g ∙ ap (same_place last) (sym e) ∙ same_place_itself last)) ∙ a.1.0)

-- a cell that is there isn't put in again
pub put_again : (keys : List Place) (c : Place) → has same_place keys c ≡ true → keys ≡ insert_key same_place keys c
put_again keys c h = sym (ap (λ (b : Bool). if b then keys else keys ++ c ∷ []) h)

-- one that isn't comes behind the others
pub put_behind : (keys : List Place) (c : Place) → has same_place keys c ≡ false
    → keys ++ c ∷ [] ≡ insert_key same_place keys c
put_behind keys c h = sym (ap (λ (b : Bool). if b then keys else keys ++ c ∷ []) h)
