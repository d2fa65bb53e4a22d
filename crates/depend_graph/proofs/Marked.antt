-- One formula more of those that are gone over from the last one on.
use Rattle.std.specs.Prelude.{ℕ, suc, ◌≡◌, ◌≤◌, ◌-◌, Bool, true, false, cond, List, length, take, drop}
use Rattle.std.proofs.Common.{sym, ◌∙◌, ap, subst, refl, inl, inr, arith, get_or}
use Rattle.std.proofs.lemmas.Bool.{cases_Bool, or_cases, true≢false}
use Rattle.std.proofs.lemmas.Bool.Decides.{nat_tests}
use Rattle.std.proofs.lemmas.List.{length-drop, take_all}
use Rattle.cell_maps.specs.Sets.{has}
use Rattle.grid_address.proofs.Places.{same_place_is, same_place_itself}
use Rattle.grid_address.specs.Place.{is_within, same_place, Extent, InSheet, Place}
use Rattle.range_index.specs.Hulls.{in_hull}
use Rattle.range_index.specs.declared.hull.Hull.{Hull}
use Rattle.depend_graph.specs.Network.{reads, Network}
use Rattle.depend_graph.specs.InOrder.{is_volatile_at, GoesInOrder, StandsFirst}
use Rattle.depend_graph.specs.inner.Marked.{mark_at, AreMarked}
use Rattle.depend_graph.specs.declared.marks.Marks.{Marks}
use Rattle.depend_graph.proofs.Few.{front}

-- from a place on there are no more cells than are left there
pub whole_rest : (cells : List Place) (n : ℕ) → take (length cells - n) (drop n cells) ≡ drop n cells
whole_rest cells n = take_all (length cells - n) (drop n cells) (let h = length-drop n cells in omega (arith, h))

-- with one cell more marked, and the hull around it, the cells from it on are marked
pub marked_more : (cells : List Place) (i n : ℕ) (x : Place) (old new : Marks) (hull wider : Hull) → i ≡ suc n
    → i ≤ length cells → x ≡ get_or cells n x → InSheet x → AreMarked old hull (drop i cells)
    → ((d : Place) → InSheet d → mark_at new d ≡ cond (same_place x d) 1 (mark_at old d))
    → ((d : Place) → in_hull hull d ≡ true → in_hull wider d ≡ true) → ((d : Place) → is_within
    (record { first = x; last = x }) d ≡ true → in_hull wider d ≡ true) → AreMarked new wider (drop n cells)
marked_more cells i n x old new hull wider e le is inside all set held put d m = elim (or_cases (same_place d x)
    (has same_place (drop i cells) d) (sym (ap (λ l. has same_place l d) (front cells i n x e le is)) ∙ m)) [
      | inl q ↦
          let here : x ≡ d = sym (same_place_is d x q) in (
            subst InSheet here inside,
            (
              set d (subst InSheet here inside) ∙ ap (λ b. cond b 1 (mark_at old d)) (ap (same_place x) (sym here)
                  ∙ same_place_itself x),
              subst (λ p. in_hull wider p ≡ true) here (put x (within_itself x)),
            ),
          )
      | inr k ↦
          let was = all d k in
          (was.0, (set d was.0 ∙ either (same_place x d) (mark_at old d) was.1.0, held d was.1.1))
    ]
  where
    either : (b : Bool) (k : ℕ) → k ≡ 1 → cond b 1 k ≡ 1
    either true k h = refl
    either false k h = h

    within_itself : (p : Place) → is_within (record { first = p; last = p }) p ≡ true
    within_itself p = grind (arith, nat_tests)

-- what lies apart from the hull holds none of the cells
pub apart_none : (s : Extent) (hull : Hull) (d : Place) → in_hull hull d ≡ true
    → (is_within s d ≡ true → in_hull hull d ≡ false) → is_within s d ≡ false
apart_none s hull d held apart = elim (cases_Bool (is_within s d)) [
  | inl inside ↦ absurd (true≢false (sym held ∙ apart inside))
  | inr outside ↦ outside
]

-- with one formula more that reads none behind it, the formulas from it on are in order
pub goes_more : (g : Network) (cells : List Place) (i n : ℕ) (x : Place) → i ≡ suc n → i ≤ length cells
    → x ≡ get_or cells n x → StandsFirst (is_volatile_at g) (reads g) (drop n cells) x → GoesInOrder g (drop i cells)
    → GoesInOrder g (drop n cells)
goes_more g cells i n x e le is first rest =
    let f = front cells i n x e le is in
    subst (GoesInOrder g) (sym f) (subst (λ l. StandsFirst (is_volatile_at g) (reads g) l x) f first, rest)
