-- The numbers of a table above one of them.
use Rattle.std.specs.Prelude.{ℕ, suc, zero, ◌≡◌, ◌+◌, ◌-◌, ◌<◌, ◌≤◌, cond, refl, List, [], ◌∷◌, length, map, get_or}
use Rattle.std.specs.Prelude.{None, Some}
use Rattle.std.proofs.Common.{sym, ◌∙◌, ap, arith, inl, inr, subst}
use Rattle.std.proofs.lemmas.Bool.{cases_Bool}
use Rattle.std.proofs.lemmas.Option.{slice_get_within}
use Rattle.grid_address.specs.Place.{same_place, InSheet, Place}
use Rattle.grid_address.proofs.Places.{same_place_is}
use Rattle.cell_maps.specs.inner.Numbering.{AreNumbered, AreWaiting}
use Rattle.cell_maps.specs.Numbers.{head_of, number_at, number_in, place_of, Numbers}
use Rattle.cell_maps.specs.inner.Numbering.{above}

get_above : (xs : List ℕ) (gone j : ℕ) → get_or (map (λ n. n - gone) xs) j 0 ≡ get_or xs j 0 - gone
get_above [] gone j = omega arith
get_above (x ∷ xs) gone zero = refl
get_above (x ∷ xs) gone (suc j) = get_above xs gone j

in_above : (xs : List ℕ) (gone h p : ℕ) → number_in (map (λ n. n - gone) xs) h p ≡ number_in xs h p - gone
in_above xs gone zero p = omega arith
in_above xs gone (suc h) p = get_above xs gone _

-- the number that a place has there
pub above_at : (gone : ℕ) (t : Numbers) (d : Place) → number_at (above gone t) d ≡ number_at t d - gone
above_at gone t d = in_above t.numbers gone (head_of t d) (place_of d)

-- it stays where the table's own stays
pub above_same : (gone : ℕ) (old new : Numbers) (d : Place) → number_at new d ≡ number_at old d
    → number_at (above gone new) d ≡ number_at (above gone old) d
above_same gone old new d h = above_at gone new d ∙ ap (λ n. n - gone) h ∙ sym (above_at gone old d)

-- one number of a table is set
abbrev pub IsSet : Numbers → Numbers → Place → ℕ → Type 0
IsSet old new c n = (d : Place) → InSheet d → number_at new d ≡ cond (same_place c d) n (number_at old d)

-- where one number is set, one is set there
pub above_set : (gone n k : ℕ) (old new : Numbers) (c : Place) → n - gone ≡ k → IsSet old new c n
    → IsSet (above gone old) (above gone new) c k
above_set gone n k old new c e h d inside =
    let was = number_at old d in
    let there = number_at (above gone old) d in
    above_at gone new d ∙ ap (λ m. m - gone) (h d inside) ∙ elim (cases_Bool (same_place c d)) [
      | inl t ↦ ap (λ b. cond b n was - gone) t ∙ e ∙ sym (ap (λ b. cond b k there) t)
      | inr f ↦ ap (λ b. cond b n was - gone) f ∙ sym (above_at gone old d) ∙ sym (ap (λ b. cond b k there) f)
    ]

-- where a place without a number there gets one and loses it again, all places have what they had
pub back : (gone n : ℕ) (old mid new : Numbers) (c : Place) → number_at (above gone old) c ≡ 0 → IsSet old mid c n
    → IsSet mid new c 0 → (d : Place) → InSheet d → number_at (above gone new) d ≡ number_at (above gone old) d
back gone n old mid new c fresh put taken d inside =
    let there = number_at (above gone mid) d in
    above_set gone 0 0 mid new c (omega arith) taken d inside ∙ elim (cases_Bool (same_place c d)) [
      | inl t ↦
          ap (λ b. cond b 0 there) t
          ∙ sym (ap (number_at (above gone old)) (sym (same_place_is c d t)) ∙ fresh)
      | inr f ↦
          ap (λ b. cond b 0 there) f
          ∙ above_same gone old mid d (put d inside ∙ ap (λ b. cond b n (number_at old d)) f)
    ]

-- no cell has a number above those of all cells of a set
pub all_gone : (gone k : ℕ) (t : Numbers) (cells : List Place) → AreNumbered (above gone t) cells → k ≡ length cells
    → AreNumbered (above (gone + k) t) []
all_gone gone k t cells ok long = record {
  inside = λ i c e. absurd (no_some e);
  told = λ i c e. absurd (no_some e);
  found = λ c i inside e. absurd (past c i inside e);
}
  where
    no_some : {c : Place} → None ≡ Some c → ⊥
    no_some e = absurd cc

    past : (c : Place) (i : ℕ) → InSheet c → number_at (above (gone + k) t) c ≡ suc i → ⊥
    past c i inside e =
        let n : number_at t c - (gone + k) ≡ suc i = sym (above_at (gone + k) t c) ∙ e in
        let m : number_at t c - gone ≡ suc (k + i) = omega (arith, n) in
        let w = slice_get_within cells (k + i) c (ok.found c (k + i) inside (above_at gone t c ∙ m)) in
        absurd (omega (arith, w, long))

-- where all cells of a set are taken out, they wait to be put back
pub all_wait : (gone k : ℕ) (t : Numbers) (cells now before : List Place) → now ≡ [] → before ≡ cells → k ≡ length cells
    → AreNumbered (above gone t) cells → AreWaiting (gone + k) t now before
all_wait gone k t cells now before none is long ok =
    let same : gone + k - length before ≡ gone = let e = ap length is in omega (arith, e, long) in
    let few : length before ≤ gone + k = let e = ap length is in omega (arith, e, long) in
    inr (
      none,
      (
        few,
        subst (λ n. AreNumbered (above n t) before) (sym same)
            (subst (AreNumbered (above gone t)) (sym is) ok),
      ),
    )

-- a number that isn't above is none there
pub fresh_above : (gone : ℕ) (t : Numbers) (c : Place) → number_at t c ≤ gone → number_at (above gone t) c ≡ 0
fresh_above gone t c le = above_at gone t c ∙ omega (arith, le)

-- one that is above is one there
pub had_above : (gone : ℕ) (t : Numbers) (c : Place) → gone < number_at t c
    → (i : ℕ) × (number_at (above gone t) c ≡ suc i)
had_above gone t c lt = (number_at t c - gone - 1, above_at gone t c ∙ omega (arith, lt))
