-- Places are told apart by their numbers, and stand in a total order.
use Rattle.std.specs.Prelude.{ℕ, ◌≡◌, ◌&&◌, cond, refl, true, nat_eq, None, Some}
use Rattle.std.specs.Cmp.{IsEquivalence, IsTotalOrder, nat_cmp_total, nat_eq_equiv, tied_then, unsigned_tied}
use Rattle.std.specs.FinMap.{get, get-insert, get-remove, insert, remove, same_map, FinMap}
use Rattle.std.specs.Ordering.{eq_by_cmp, nat_cmp}
use Rattle.std.proofs.Common.{sym, ◌∙◌, ap, rules}
use Rattle.std.proofs.lemmas.Bool.{and_from, and_parts, eq-eqb, eqb-true}
use Rattle.std.proofs.lemmas.Cmp.{on_total, then_total}
use Rattle.std.proofs.lemmas.Map.Lookups.{CmpEqualImpliesEq, exact_pairs, exact_unsigned}
use Rattle.grid_address.specs.Place.{is_within, place_cmp, same_place, whole, InSheet, Place}

-- cells that compare as equal are the same
pub cells_exact : CmpEqualImpliesEq place_cmp
cells_exact a b h =
    ap (λ (p : ℕ × ℕ). record { row = p.0; col = p.1 })
    (exact_pairs nat_cmp nat_cmp exact_unsigned exact_unsigned (a.row, a.col) (b.row, b.col) h)

-- the order of cells is total
pub cells_total : IsTotalOrder place_cmp
cells_total = then_total (on_total (λ s. s.row) nat_cmp_total) (on_total (λ s. s.col) nat_cmp_total)

-- a cell is the same as itself
pub same_place_itself : (c : Place) → same_place c c ≡ true
same_place_itself c = and_from _ _ (eq-eqb c.row c.row refl) (eq-eqb c.col c.col refl)

-- two cells that are told as the same are
pub same_place_is : (a b : Place) → same_place a b ≡ true → a ≡ b
same_place_is a b e =
    let p = and_parts _ _ e in
    let r : a.row ≡ b.row = eqb-true a.row b.row p.0 in
    let s : a.col ≡ b.col = eqb-true a.col b.col p.1 in
    λ i. record { row = r i; col = s i }

-- the whole sheet holds each of its places
pub in_whole : (p : Place) → InSheet p → is_within whole p ≡ true
in_whole p h = search rules

-- sameness of cells is an equivalence
pub same_place_laws : IsEquivalence same_place
same_place_laws = record {
  refl = same_place_itself;
  symm =
      λ x y. ap (λ b. b && nat_eq x.col y.col) (nat_eq_equiv.symm x.row y.row)
      ∙ ap (λ b. nat_eq y.row x.row && b) (nat_eq_equiv.symm x.col y.col);
  congr = λ x y z e. ap (λ v. same_place v z) (same_place_is x y e);
}

-- the order ties places with the same numbers
pub place_tied : (a b : Place) → eq_by_cmp place_cmp a b ≡ same_place a b
place_tied a b =
    sym (tied_then (nat_cmp a.row b.row) (nat_cmp a.col b.col))
    ∙ ap (λ x. x && eq_by_cmp nat_cmp a.col b.col) (unsigned_tied a.row b.row)
    ∙ ap (λ x. nat_eq a.row b.row && x) (unsigned_tied a.col b.col)

-- what a map of places has after an insertion
pub get_inserted : {X : Type 0} (m : FinMap place_cmp X) (k : Place) (v : X) (q : Place)
    → get (insert m k v) q ≡ cond (same_place q k) (Some v) (get m q)
get_inserted m k v q = get-insert cells_total m k v q ∙ ap (λ b. cond b (Some v) (get m q)) (place_tied q k)

-- and after a removal
pub get_removed : {X : Type 0} (m : FinMap place_cmp X) (k q : Place)
    → get (remove m k) q ≡ cond (same_place q k) None (get m q)
get_removed m k q = get-remove cells_total m k q ∙ ap (λ b. cond b None (get m q)) (place_tied q k)

-- maps that have the same at each place are one
pub same_places : {X : Type 0} (m n : FinMap place_cmp X) → ((q : Place) → get m q ≡ get n q) → m ≡ n
same_places m n h = same_map cells_total cells_exact m n h
