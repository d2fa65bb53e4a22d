-- Other cells keep their spans.
use Rattle.std.specs.Prelude.{◌≡◌, true, false, cond, not, List, [], ◌∷◌, ◌++◌, Option, None, Some, refl}
use Rattle.std.specs.FinMap.{get, remove}
use Rattle.std.proofs.Common.{◌∙◌, ap, sym}
use Rattle.grid_address.proofs.Places.{get_inserted, get_removed, same_place_itself}
use Rattle.grid_address.specs.Place.{Extent, Place}
use Rattle.range_index.specs.Owners.{spans_in, with_span, Owners}
use Rattle.depend_graph.specs.inner.Banks.{is_one, wide, AreOthers}

-- where a cell's spans are taken out, those of the others stay
pub removed_others : (m : Owners) (c : Place) → AreOthers m (remove m c) c
removed_others m c d h =
    ap (λ (s : Option (List Extent)). spans_in s) (get_removed m c d ∙ ap (λ b. cond b None (get m d)) h)

-- a cell whose spans are taken out has none
pub removed_none : (m : Owners) (c : Place) → spans_in (get (remove m c) c) ≡ []
removed_none m c = ap (λ (s : Option (List Extent)). spans_in s)
    (get_removed m c c ∙ ap (λ b. cond b None (get m c)) (same_place_itself c))

-- where a cell gets a span more, those of the others stay
pub more_others : (m : Owners) (c : Place) (span : Extent) → AreOthers m (with_span m c span) c
more_others m c span d h = ap (λ (s : Option (List Extent)). spans_in s) (get_inserted m c
    (spans_in (get m c) ++ span ∷ []) d ∙ ap (λ b. cond b (Some (spans_in (get m c) ++ span ∷ [])) (get m d)) h)

-- a cell that gets a span more has it behind its own
pub more_here : (m : Owners) (c : Place) (span : Extent)
    → spans_in (get (with_span m c span) c) ≡ spans_in (get m c) ++ span ∷ []
more_here m c span = ap (λ (s : Option (List Extent)). spans_in s) (get_inserted m c (spans_in (get m c) ++ span ∷ []) c
    ∙ ap (λ b. cond b (Some (spans_in (get m c) ++ span ∷ [])) (get m c)) (same_place_itself c))

-- spans that stay at two changes stay at both
pub then_others : (a b d : Owners) (c : Place) → AreOthers a b c → AreOthers b d c → AreOthers a d c
then_others a b d c f g q h = g q h ∙ f q h

-- the wide spans of two lists are those of the one and then those of the other
pub wide-append : (xs ys : List Extent) → wide (xs ++ ys) ≡ wide xs ++ wide ys
wide-append [] ys = refl
wide-append (x ∷ xs) ys = elim (is_one x) as
    (λ b. cond (not b) (x ∷ wide (xs ++ ys)) (wide (xs ++ ys)) ≡ cond (not b) (x ∷ wide xs) (wide xs) ++ wide ys) [
      | true ↦ wide-append xs ys
      | false ↦ ap (λ l. x ∷ l) (wide-append xs ys)
    ]

-- one span more, if it is wide
pub wide_here : (m m' : Owners) (c : Place) (span : Extent) → is_one span ≡ false → m' ≡ with_span m c span
    → spans_in (get m' c) ≡ spans_in (get m c) ++ wide (span ∷ [])
wide_here m m' c span f e = ap (λ (n : Owners). spans_in (get n c)) e ∙ more_here m c span
    ∙ sym (ap (λ b. spans_in (get m c) ++ cond (not b) (span ∷ []) []) f)
