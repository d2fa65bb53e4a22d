-- What a cell spreads to hangs on the formulas alone, and so does their order.
use Rattle.std.specs.Prelude.{◌≡◌, ◌⊎◌, ◌↔◌, cond, true, false, is_some, refl, List, [], ◌∷◌, Option, None, Some}
use Rattle.std.specs.FinMap.{get, remove}
use Rattle.std.proofs.Common.{sym, ◌∙◌, ap, subst, inl, inr}
use Rattle.std.proofs.lemmas.Bool.{cases_Bool, false≢true, true≢false}
use Rattle.cell_maps.specs.Sets.{has}
use Rattle.grid_address.proofs.Places.{get_removed, same_place_is, same_places}
use Rattle.grid_address.specs.Place.{same_place, Place}
use Rattle.depend_graph.specs.InOrder.{is_volatile, is_volatile_at, GoesInOrder, StandsFirst}
use Rattle.depend_graph.specs.Network.{dropped, holds, is_formula, reads, withdrawn, IsSpread, Network, ReachesCell}
use Rattle.depend_graph.specs.Network.ReachesCell.{direct, through}
use Rattle.depend_graph.specs.Network.{Nodes}
use Rattle.depend_graph.specs.inner.Spreads.{is_of, list_of, AreKept, IsKept, IsSpreadOf}
use Rattle.depend_graph.specs.declared.node.Node.{Node}
use Rattle.depend_graph.specs.declared.spread.LastSpreads.{LastSpreads}
use Rattle.depend_graph.specs.declared.spread.Spread.{Spread}

-- which cells a formula reaches hangs on the formulas alone
reaches_along : (a b : Network) → a.formulas ≡ b.formulas → {c d : Place} → ReachesCell (reads a) c d
    → ReachesCell (reads b) c d
reaches_along a b e {c} {d} (direct r) = direct (sym (ap (λ f. holds (get f c) d) e) ∙ r)
reaches_along a b e {c} {d} (through {e = x} r q) =
    through (sym (ap (λ f. holds (get f c) x) e) ∙ r) (reaches_along a b e q)

-- graphs with the same formulas spread to the same
pub spread_along : (a b : Network) → a.formulas ≡ b.formulas → (cells : List Place) (c : Place) → IsSpread a cells c
    → IsSpread b cells c
spread_along a b e cells c p = record {
  formula = sym (ap (λ f. is_some (get f c)) e) ∙ p.formula;
  way = elim p.way [
    | inl h ↦ inl h
    | inr q ↦ inr (record { cell = q.cell; among = q.among; reached = reaches_along a b e q.reached })
  ];
}

first_along : (a b : Network) → a.formulas ≡ b.formulas → (cells : List Place) (c : Place)
    → StandsFirst (is_volatile_at a) (reads a) cells c → StandsFirst (is_volatile_at b) (reads b) cells c
first_along a b e cells c h = record {
  steady = ap (λ f. is_volatile (get f c)) (sym e) ∙ h.steady;
  ahead = λ d m. ap (λ f. holds (get f c) d) (sym e) ∙ h.ahead d m;
}

order_along : (a b : Network) → a.formulas ≡ b.formulas → (cells : List Place) → GoesInOrder a cells
    → GoesInOrder b cells
order_along a b e [] h = tt
order_along a b e (c ∷ cs) h = (first_along a b e (c ∷ cs) c h.0, order_along a b e cs h.1)

-- nothing is kept
pub none_kept : (g : Network) → IsKept g None
none_kept g s is = absurd (no_some is)
  where
    no_some : {x : Spread} → None ≡ Some x → ⊥
    no_some h = absurd cc

-- what is kept stays so while the formulas do
one_along : (a b : Network) → a.formulas ≡ b.formulas → (kept : Option Spread) → IsKept a kept → IsKept b kept
one_along a b e kept h s is = (let was : IsSpreadOf a s = h s is in record {
  members = λ c. (
    (λ m. spread_along a b e (s.cell ∷ []) c ((was.members c).0 m)),
    (λ m. (was.members c).1 (spread_along b a (sym e) (s.cell ∷ []) c m)),
  );
  order = λ o. order_along a b e s.list (was.order o);
})

-- so do both
pub kept_along : (a b : Network) → a.formulas ≡ b.formulas → (kept : LastSpreads) → AreKept a kept → AreKept b kept
kept_along a b e kept h = (one_along a b e kept.last h.0, one_along a b e kept.before h.1)

none_of : (o : Option Node) → is_some o ≡ false → o ≡ None
none_of None h = refl
none_of (Some n) h = absurd (true≢false h)

-- where nothing stands at a cell, nothing is taken away there
none_removed : (m : Nodes) (c : Place) → is_some (get m c) ≡ false → m ≡ remove m c
none_removed m c f = same_places _ _ (λ d. with d (cases_Bool (same_place d c)) ∙ sym (get_removed m c d))
  where
    with : (d : Place) → (same_place d c ≡ true) ⊎ (same_place d c ≡ false)
        → get m d ≡ cond (same_place d c) None (get m d)
    with d (inl t) = ap (get m) (same_place_is d c t) ∙ none_of (get m c) f ∙ ap (λ b. cond b None (get m d)) (sym t)
    with d (inr n) = ap (λ b. cond b None (get m d)) (sym n)

-- where no formula stands, none is dropped
pub none_dropped : (g : Network) (c : Place) → is_formula g c ≡ false → g ≡ dropped g c
none_dropped g c f = ap {B = Network} (λ (m : Nodes). record g { formulas = m }) (none_removed g.formulas c f)

-- where none waits, none is given up
pub none_withdrawn : (g : Network) (c : Place) → is_some (get g.offers c) ≡ false → g ≡ withdrawn g c
none_withdrawn g c f = ap {B = Network} (λ (m : Nodes). record g { offers = m }) (none_removed g.offers c f)

-- what is kept of a cell is what it spreads to
pub kept_is : (g : Network) (kept : Option Spread) (cell : Place) → IsKept g kept → is_of kept cell ≡ true → (c : Place)
    → (has same_place (list_of kept) c ≡ true) ↔ IsSpread g (cell ∷ []) c
kept_is g None cell h t = absurd (false≢true t)
kept_is g (Some s) cell h t = subst (λ (x : Place). (c : Place)
    → (has same_place s.list c ≡ true) ↔ IsSpread g (x ∷ []) c) (same_place_is s.cell cell t) ((h s refl).members)
