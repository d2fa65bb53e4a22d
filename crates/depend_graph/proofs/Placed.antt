-- What is put at a place of a map, or taken out there.
use Rattle.std.specs.Prelude.{◌≡◌, true, false, cond, is_some, Option, None, Some, refl}
use Rattle.std.specs.FinMap.{get, FinMap}
use Rattle.std.proofs.Common.{sym, ◌∙◌, ap, inl, inr}
use Rattle.std.proofs.lemmas.Bool.{cases_Bool, true≢false}
use Rattle.grid_address.proofs.Places.{get_inserted, get_removed, same_place_is, same_places}
use Rattle.grid_address.specs.Place.{place_cmp, same_place, Place}
use Rattle.depend_graph.specs.inner.Slots.{cleared, filled, had, other_in, placed, without}
use Rattle.depend_graph.specs.declared.node.Node.{Node}
use Rattle.depend_graph.specs.declared.slots.Part.{Part}
use Rattle.depend_graph.specs.declared.slots.Slot.{Slot}

-- what was put at a place is found there, and elsewhere what was there
pub get_placed : {X : Type 0} (m : FinMap place_cmp X) (c : Place) (o : Option X) (q : Place)
    → get (placed m c o) q ≡ cond (same_place q c) o (get m q)
get_placed m c None q = get_removed m c q
get_placed m c (Some x) q = get_inserted m c x q

-- what is put where it is already changes nothing
pub placed_same : {X : Type 0} (m : FinMap place_cmp X) (c : Place) (o : Option X) → get m c ≡ o → placed m c o ≡ m
placed_same m c o e = same_places _ _ (λ q. get_placed m c o q ∙ elim (cases_Bool (same_place q c)) [
  | inl t ↦ ap (λ b. cond b o (get m q)) t ∙ sym (ap (get m) (same_place_is q c t) ∙ e)
  | inr f ↦ ap (λ b. cond b o (get m q)) f
])

filled_some : (o : Option Node) (s : Slot) → is_some o ≡ true → filled o s ≡ Some s
filled_some None s h = absurd (true≢false (sym h))
filled_some (Some n) s h = refl

filled_none : (o : Option Node) (s : Slot) → is_some o ≡ false → filled o s ≡ None
filled_none None s h = refl
filled_none (Some n) s h = absurd (true≢false h)

-- a slot that has only the one is taken out with it
pub part_out : (p : Part) (o : Option Slot) → is_some (had (other_in p) o) ≡ false → without p o ≡ None
part_out p None h = refl
part_out p (Some s) h = filled_none (other_in p s) (cleared p s) h

-- and one that has the other stays
pub part_cleared : (p : Part) (s : Slot) → is_some (other_in p s) ≡ true → without p (Some s) ≡ Some (cleared p s)
part_cleared p s h = filled_some (other_in p s) (cleared p s) h
