-- A table's numbers after room is made, and where a page has none.
use Rattle.std.specs.Prelude.{ℕ, suc, zero, ◌≡◌, ◌<◌, ◌≤◌, ◌+◌, ◌-◌, ◌*◌, ◌/◌, ◌%◌, nat_lt, ◌++◌, refl, true}
use Rattle.std.specs.Prelude.{false, nat_eq, List, [], ◌∷◌, length, replicate, get_or, set}
use Rattle.std.proofs.Common.{sym, ◌∙◌, ap, subst, arith, inl, inr, ◌⊎◌, get_or-set_same, get_or-set_other}
use Rattle.std.proofs.lemmas.Bool.{cases_Bool, eq-eqb, eqb-true, false≢true, ltb-false, ltb-true}
use Rattle.std.proofs.lemmas.List.{get_or_past, length-set}
use Rattle.grid_address.specs.Place.{InSheet, Place}
use Rattle.cell_maps.specs.Numbers.{band_of, head_of, number_at, number_in, page_of, place_of, HasRoom, Numbers}
use Rattle.cell_maps.specs.inner.Numbering.{used, AreParted, AreWholeBands}

zeros : (n j : ℕ) → ◌≡◌ {A = ℕ} (get_or (replicate n 0) j 0) 0
zeros zero j = refl
zeros (suc n) zero = refl
zeros (suc n) (suc j) = zeros n j

-- zeros at the end change no number
pub fill_same : (xs : List ℕ) (n j : ℕ) → get_or (xs ++ replicate {A = ℕ} n 0) j 0 ≡ get_or xs j 0
fill_same [] n j = zeros n j
fill_same (x ∷ xs) n zero = refl
fill_same (x ∷ xs) n (suc j) = fill_same xs n j

-- nor do they make a head one of a page with room
pub used_fill : (heads : List ℕ) (n : ℕ) → used (heads ++ replicate {A = ℕ} n 0) ≡ used heads
used_fill [] zero = refl
used_fill [] (suc n) = used_fill [] n
used_fill (zero ∷ heads) n = used_fill heads n
used_fill (suc k ∷ heads) n = ap suc (used_fill heads n)

used_within : (heads : List ℕ) → used heads ≤ length heads
used_within [] = omega arith
used_within (zero ∷ heads) = let k = used_within heads in omega (arith, k)
used_within (suc n ∷ heads) = let k = used_within heads in omega (arith, k)

used_set : (heads : List ℕ) (i h : ℕ) → i < length heads → get_or heads i 0 ≡ 0 → 0 < h
    → used (set heads i h) ≡ suc (used heads)
used_set [] i h k z p = absurd (omega (arith, k))
used_set (x ∷ heads) zero zero k z p = absurd (omega (arith, p))
used_set (zero ∷ heads) zero (suc h) k z p = refl
used_set (suc n ∷ heads) zero (suc h) k z p = absurd (omega (arith, z))
used_set (zero ∷ heads) (suc i) h k z p = used_set heads i h (omega (arith, k)) z p
used_set (suc n ∷ heads) (suc i) h k z p = ap suc (used_set heads i h (omega (arith, k)) z p)

-- there are few pages
pub few_pages : (t : Numbers) → AreParted t → length t.numbers ≤ 2097152
few_pages t ok = let w = used_within t.heads in let f = ok.full in
    let l = ok.whole.1 in omega (arith, w, f, l)

-- where the numbers of a page with room stand
pub number_in_page : (numbers : List ℕ) (h p : ℕ) → 0 < h
    → number_in numbers h p ≡ get_or numbers ((h - 1) * 256 + p) 0
number_in_page numbers zero p k = absurd (omega (arith, k))
number_in_page numbers (suc h) p k = ap (λ n. get_or numbers (n * 256 + p) 0) (omega arith)

in_same : (old new : List ℕ) (h p : ℕ) → ((j : ℕ) → get_or new j 0 ≡ get_or old j 0)
    → number_in new h p ≡ number_in old h p
in_same old new zero p same = refl
in_same old new (suc h) p same = same (h * 256 + p)

-- heads that tell the same
module _ (t : Numbers) (heads : List ℕ) (same : (j : ℕ) → get_or heads j 0 ≡ get_or t.heads j 0) where
  parted_heads : used heads ≡ used t.heads → AreWholeBands heads → AreParted t
      → AreParted (record { heads = heads; numbers = t.numbers })
  parted_heads count whole ok = record {
    apart = λ i j e h. ok.apart i j (sym (same i) ∙ e ∙ same j) (subst (λ n. 0 < n) (same i) h);
    room = λ i. subst (λ n. n * 256 ≤ length t.numbers) (sym (same i)) (ok.room i);
    full = ok.full ∙ ap (λ n. n * 256) (sym count);
    whole = whole;
  }

  same_heads : (d : Place) → number_at (record { heads = heads; numbers = t.numbers }) d ≡ number_at t d
  same_heads d = ap (λ h. number_in t.numbers h (place_of d)) (same (page_of d))

-- a page without room gets one behind the others
module _ (t : Numbers) (ok : AreParted t) (i h : ℕ) (numbers : List ℕ) (inside : i < length t.heads)
    (free : get_or t.heads i 0 ≡ 0) (count : h * 256 ≡ length t.numbers + 256)
    (same : (j : ℕ) → get_or numbers j 0 ≡ get_or t.numbers j 0) (long : length numbers ≡ length t.numbers + 256) where
  abbrev heads : List ℕ
  heads = set t.heads i h

  here : get_or heads i 0 ≡ h
  here = get_or-set_same t.heads i h 0 inside

  other : (j : ℕ) → nat_eq j i ≡ false → get_or heads j 0 ≡ get_or t.heads j 0
  other j f = get_or-set_other t.heads i j h 0 (λ e. false≢true (sym f ∙ eq-eqb j i e))

  at_i : (j : ℕ) → nat_eq j i ≡ true → get_or heads j 0 ≡ h
  at_i j p = ap (λ x. get_or heads x 0) (eqb-true j i p) ∙ here

  low : (j : ℕ) → get_or t.heads j 0 < h
  low j = let r = ok.room j in let c = count in omega (arith, r, c)

  same_page : (a b : ℕ) → get_or heads a 0 ≡ get_or heads b 0 → 0 < get_or heads a 0
      → (nat_eq a i ≡ true) ⊎ (nat_eq a i ≡ false) → (nat_eq b i ≡ true) ⊎ (nat_eq b i ≡ false) → a ≡ b
  same_page a b e k (inl p) (inl q) = eqb-true a i p ∙ sym (eqb-true b i q)
  same_page a b e k (inl p) (inr q) =
      absurd (let l = low b in let z : h ≡ get_or t.heads b 0 = sym (at_i a p) ∙ e ∙ other b q in omega (arith, l, z))
  same_page a b e k (inr p) (inl q) =
      absurd (let l = low a in let z : get_or t.heads a 0 ≡ h = sym (other a p) ∙ e ∙ at_i b q in omega (arith, l, z))
  same_page a b e k (inr p) (inr q) = ok.apart a b (sym (other a p) ∙ e ∙ other b q) (subst (λ n. 0 < n) (other a p) k)

  room_of : (j : ℕ) → (nat_eq j i ≡ true) ⊎ (nat_eq j i ≡ false) → get_or heads j 0 * 256 ≤ length numbers
  room_of j (inl p) = let z = at_i j p in let c = count in let l = long in omega (arith, z, c, l)
  room_of j (inr q) = let z = other j q in let r = ok.room j in let l = long in omega (arith, z, r, l)

  parted_page : AreParted (record { heads = set t.heads i h; numbers = numbers })
  parted_page = record {
    apart = λ a b e k. same_page a b e k (cases_Bool (nat_eq a i)) (cases_Bool (nat_eq b i));
    room = λ j. room_of j (cases_Bool (nat_eq j i));
    full = (let c = count in let u = used_set t.heads i h inside free (omega (arith, c)) in let f = ok.full in
        let l = long in omega (arith, u, f, l));
    whole = subst (λ n. (n % 64 ≡ 0) × (n ≤ 128 * 64)) (sym (length-set t.heads i h)) ok.whole;
  }

  same_paged : (d : Place) → number_at (record { heads = set t.heads i h; numbers = numbers }) d ≡ number_at t d
  same_paged d = with (cases_Bool (nat_eq (page_of d) i))
    where
      with : (nat_eq (page_of d) i ≡ true) ⊎ (nat_eq (page_of d) i ≡ false)
          → number_at (record { heads = set t.heads i h; numbers = numbers }) d ≡ number_at t d
      with (inl p) =
          let c = count in
          let e = eqb-true (page_of d) i p in
          ap (λ n. number_in numbers n (place_of d)) (at_i (page_of d) p)
          ∙ number_in_page numbers h (place_of d) (omega (arith, c))
          ∙ same ((h - 1) * 256 + place_of d)
          ∙ get_or_past t.numbers ((h - 1) * 256 + place_of d) 0 (omega (arith, c))
          ∙ sym (ap (λ n. number_in t.numbers n (place_of d)) (ap (λ x. get_or t.heads x 0) e ∙ free))
      with (inr q) = ap (λ n. number_in numbers n (place_of d)) (other (page_of d) q)
          ∙ in_same t.numbers numbers (head_of t d) (place_of d) same

-- a table whose page without room gets one, after heads that tell the same
module _ (t : Numbers) (ok : AreParted t) (heads numbers : List ℕ) (i pages : ℕ) (same : (j : ℕ)
    → get_or heads j 0 ≡ get_or t.heads j 0) (alike : used heads ≡ used t.heads) (whole : AreWholeBands heads)
    (inside : i < length heads) (free : get_or t.heads i 0 ≡ 0) (count : pages ≡ length t.numbers / 256)
    (filled : (j : ℕ) → get_or numbers j 0 ≡ get_or t.numbers j 0)
    (long : length numbers ≡ length t.numbers + 256) where
  abbrev between : Numbers
  between = record { heads = heads; numbers = t.numbers }

  parted : AreParted between
  parted = parted_heads t heads same alike whole ok

  exact : (pages + 1) * 256 ≡ length t.numbers + 256
  exact = let f = ok.full in let c = count in omega (arith, f, c)

  -- with room made for a page, each page with room has numbers of its own
  pub parted_grown : AreParted (record { heads = set heads i (pages + 1); numbers = numbers })
  parted_grown = parted_page between parted i (pages + 1) numbers inside (same i ∙ free) exact filled long

  -- room for a page changes no number
  pub same_grown : (d : Place)
      → number_at (record { heads = set heads i (pages + 1); numbers = numbers }) d ≡ number_at t d
  same_grown d = same_paged between parted i (pages + 1) numbers inside (same i ∙ free) exact filled long d
      ∙ same_heads t heads same d

-- no place has a number from the column of a page without room on, where none has one behind that page
pub none_behind : (t : Numbers) (c : Place) (col : ℕ)
    → ((d : Place) → InSheet d → band_of d ≡ band_of c → col ≤ d.col → number_at t d ≡ 0) → col % 4 ≡ 0 → 0 < col
    → head_of t (record { row = c.row; col = col - 4 }) ≡ 0 → (d : Place) → InSheet d → band_of d ≡ band_of c
    → col - 4 ≤ d.col → number_at t d ≡ 0
none_behind t c col behind even some empty d inside same from = elim (cases_Bool (nat_lt d.col col)) [
  | inl t' ↦
      let below : d.col < col = ltb-true d.col col t' in
      let page : page_of d ≡ page_of (record { row = c.row; col = col - 4 }) =
      omega (arith, same, below, from, even, some) in
      ap (λ h. number_in t.numbers h (place_of d)) (ap (λ p. get_or t.heads p 0) page ∙ empty)
  | inr f ↦ behind d inside same (ltb-false d.col col f)
]

-- no place has a number up to the end of a page without room, where none has one before the column in it
pub none_further : (t : Numbers) (c : Place) (col : ℕ)
    → ((d : Place) → InSheet d → band_of d ≡ band_of c → c.col ≤ d.col → d.col < col → number_at t d ≡ 0)
    → head_of t (record { row = c.row; col = col }) ≡ 0 → (d : Place) → InSheet d → band_of d ≡ band_of c
    → c.col ≤ d.col → d.col < col / 4 * 4 + 4 → number_at t d ≡ 0
none_further t c col before empty d inside same from below = elim (cases_Bool (nat_lt d.col col)) [
  | inl t' ↦ before d inside same from (ltb-true d.col col t')
  | inr f ↦
      let past : col ≤ d.col = ltb-false d.col col f in
      let page : page_of d ≡ page_of (record { row = c.row; col = col }) = omega (arith, same, below, past) in
      ap (λ h. number_in t.numbers h (place_of d)) (ap (λ p. get_or t.heads p 0) page ∙ empty)
]
