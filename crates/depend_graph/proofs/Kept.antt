-- Each formula's spans, and each offer's, stay where the slots say.
use Rattle.std.specs.Prelude.{ℕ, ◌≡◌, Bool, true, false, cond, length, nat_eq, not, is_some, refl, List, [], ◌∷◌}
use Rattle.std.specs.Prelude.{Option, None, Some}
use Rattle.std.specs.FinMap.{empty, entries, entries_sorted, from_entries, get, get-empty}
use Rattle.std.specs.Ordering.{is_eq}
use Rattle.std.specs.BTreeMap.{is_at}
use Rattle.std.specs.List.{AllByRecursion}
use Rattle.std.specs.List.Sorted.{IsStrictlySortedBy}
use Rattle.std.specs.Map.{keys_of, lookup}
use Rattle.std.specs.declared.cmp.Ordering.TheVariants.{Less}
use Rattle.std.proofs.Common.{arith, sym, ◌∙◌, ap, subst, inl, inr}
use Rattle.std.proofs.lemmas.Bool.{cases_Bool, true≢false, false≢true}
use Rattle.std.proofs.lemmas.Bool.Decides.{nat_tests}
use Rattle.std.proofs.lemmas.Option.{none-some, same_Some}
use Rattle.cell_maps.specs.Filled as held
use Rattle.cell_maps.specs.declared.held.Held.{Held}
use Rattle.grid_address.proofs.Maps.{equal_of, get_entries, get_lookup, in_order}
use Rattle.grid_address.proofs.Places.{cells_exact, cells_total, same_place_is, same_places}
use Rattle.grid_address.specs.Place.{place_cmp, same_place, Extent, Place}
use Rattle.range_index.specs.Owners.{Owners}
use Rattle.depend_graph.specs.inner.Banks.{spans_at, wide, AreOthersKept}
use Rattle.depend_graph.specs.inner.Slots.{filled, formed, had, offer_in, offering, picked, placed, side, somes, turned}
use Rattle.depend_graph.specs.inner.Slots.{turned_to, with_some, without, AreRegistered, IsRegistered, Slots, Stands}
use Rattle.depend_graph.specs.declared.slots.Part.TheVariants.{Formula, Offer}
use Rattle.depend_graph.specs.declared.node.Node.{Node}
use Rattle.depend_graph.specs.declared.slots.Slot.{Slot}
use Rattle.depend_graph.proofs.Placed.{get_placed, placed_same}

none_after : (k : Place) (es : List (Place × Slot)) → AllByRecursion (λ y. place_cmp k y ≡ Less) (keys_of es)
    → lookup (is_at (place_cmp k)) es ≡ None
none_after k [] h = refl
none_after k (e ∷ es) h = ap (λ o. cond (is_eq o) (Some e.1) (lookup (is_at (place_cmp k)) es)) h.0
    ∙ none_after k es h.1

module _ (f : Slot → Option Node) where
  somes_found : (es : List (Place × Slot)) → IsStrictlySortedBy place_cmp (keys_of es) → (q : Place)
      → lookup (is_at (place_cmp q)) (somes f es) ≡ had f (lookup (is_at (place_cmp q)) es)
  unfolding IsStrictlySortedBy
  somes_found [] s q = refl
  somes_found (e ∷ es) s q = elim (cases_Bool (is_at (place_cmp q) e.0)) [
    | inl t ↦
        let none : lookup (is_at (place_cmp q)) es ≡ None =
        ap (λ k. lookup (is_at (place_cmp k)) es) (cells_exact q e.0 (equal_of _ t)) ∙ none_after e.0 es s.0 in
        here (f e.1) t (somes_found es s.1 q ∙ ap (λ (o : Option Slot). had f o) none)
        ∙ sym (ap (λ b. had f (cond b (Some e.1) (lookup (is_at (place_cmp q)) es))) t)
    | inr n ↦ there (f e.1) n ∙ somes_found es s.1 q
        ∙ sym (ap (λ b. had f (cond b (Some e.1) (lookup (is_at (place_cmp q)) es))) n)
  ]
    where
      here : (o : Option Node) → is_at (place_cmp q) e.0 ≡ true → lookup (is_at (place_cmp q)) (somes f es) ≡ None
          → lookup (is_at (place_cmp q)) (with_some e.0 o (somes f es)) ≡ o
      here None t none = none
      here (Some n) t none = ap (λ b. cond b (Some n) (lookup (is_at (place_cmp q)) (somes f es))) t

      there : (o : Option Node) → is_at (place_cmp q) e.0 ≡ false
          → lookup (is_at (place_cmp q)) (with_some e.0 o (somes f es)) ≡ lookup (is_at (place_cmp q)) (somes f es)
      there None n = refl
      there (Some x) n = ap (λ b. cond b (Some x) (lookup (is_at (place_cmp q)) (somes f es))) n

  -- what is picked at a place is what its slot has there
  pub get_picked : (m : Slots) (q : Place) → get (picked f m) q ≡ had f (get m q)
  get_picked m q = get_entries cells_total (somes f (entries m)) q ∙ somes_found (entries m) (in_order cells_total
      (entries m) (entries_sorted m)) q ∙ ap (λ (o : Option Slot). had f o) (sym (get_lookup cells_total m q))

  had_cond : (b : Bool) (o p : Option Slot) → had f (cond b o p) ≡ cond b (had f o) (had f p)
  had_cond true o p = refl
  had_cond false o p = refl

  -- with a slot put at a place, its node is put there among those that are picked
  pub picked_placed : (m : Slots) (c : Place) (o : Option Slot)
      → picked f (placed m c o) ≡ placed (picked f m) c (had f o)
  picked_placed m c o = same_places _ _ (λ q.
      get_picked (placed m c o) q ∙ ap (λ (x : Option Slot). had f x) (get_placed m c o q)
      ∙ had_cond (same_place q c) o (get m q)
      ∙ sym (get_placed (picked f m) c (had f o) q ∙ ap (cond (same_place q c) (had f o)) (get_picked m q)))

  -- what is put has the same node there
  pub picked_same : (m : Slots) (c : Place) (o : Option Slot) → had f o ≡ had f (get m c)
      → picked f (placed m c o) ≡ picked f m
  picked_same m c o e =
      picked_placed m c o ∙ ap (placed (picked f m) c) e ∙ placed_same (picked f m) c (had f (get m c)) (get_picked m c)

-- where there are no slots, nothing is picked
pub picked_empty : (f : Slot → Option Node) (m : Slots) → m ≡ empty → picked f m ≡ empty
picked_empty f m e = same_places _ _ (λ q. get_picked f m q ∙ ap (λ (o : Option Slot). had f o)
    (ap (λ (n : Slots). get n q) e ∙ get-empty place_cmp q) ∙ sym (get-empty place_cmp q))

no_length : (n : ℕ) → nat_eq n 0 ≡ true → n ≡ 0
no_length n h = grind (arith, nat_tests, h)

-- where no slot was ever put in, nothing is picked
pub picked_of_none : (f : Slot → Option Node) (hs : List (Held Slot)) (m : Slots) → nat_eq (length hs) 0 ≡ true
    → from_entries (held.filled hs) ≡ m → picked f m ≡ empty
picked_of_none f [] m h e = picked_empty f m (sym e ∙ same_places _ _ (λ q. get_entries cells_total [] q
    ∙ sym (get-empty place_cmp q)))
picked_of_none f (x ∷ hs) m h e = absurd (omega (arith, no_length (length (x ∷ hs)) h))

stands_at : (o : Option Node) (xs ys : List Extent) → ys ≡ xs → Stands o xs → Stands o ys
stands_at None xs ys e h = h
stands_at (Some n) xs ys e h = e ∙ h

no_slot : (o : Option Slot) → is_some o ≡ false → o ≡ None
no_slot None h = refl
no_slot (Some s) h = absurd (true≢false h)

apart_not : (x : Bool) → x ≡ not x → ⊥
apart_not true e = true≢false e
apart_not false e = false≢true e

-- where there are no slots, all of their spans are registered
pub none_registered : (m : Slots) (even odd : Owners) → m ≡ empty → AreRegistered m even odd
none_registered m even odd e c s h =
    absurd (none-some s (sym (ap (λ (n : Slots). get n c) e ∙ get-empty place_cmp c) ∙ h))

module _ (m : Slots) (even odd even' odd' : Owners) (b : Bool) (c : Place)
    (kept : AreOthersKept even odd even' odd' b c) (all : AreRegistered m even odd) where
  -- what is put at c is registered, and the others stay so
  pub placed_registered : (o : Option Slot) → ((s : Slot) → o ≡ Some s → IsRegistered even' odd' c s)
      → AreRegistered (placed m c o) even' odd'
  placed_registered o here d s h = elim (cases_Bool (same_place d c)) [
    | inl t ↦
        let e : o ≡ Some s = sym (get_placed m c o d ∙ ap (λ x. cond x o (get m d)) t) ∙ h in
        subst (λ p. IsRegistered even' odd' p s) (sym (same_place_is d c t)) (here s e)
    | inr f ↦
        let e : get m d ≡ Some s = sym (get_placed m c o d ∙ ap (λ x. cond x o (get m d)) f) ∙ h in
        let r = all d s e in
        record {
          node = stands_at s.node _ _ (kept s.is_odd d (inl f)) r.node;
          offer = stands_at s.offer _ _ (kept (not s.is_odd) d (inl f)) r.offer;
        }
  ]

  -- with a formula alone, whose spans are in the even index
  pub formed_registered : (n : Node) → b ≡ false → spans_at even' odd' b c ≡ wide n.reads
      → AreRegistered (placed m c (Some (formed n))) even' odd'
  formed_registered n e is = placed_registered (Some (formed n)) (λ s h.
      subst (λ (t : Slot). IsRegistered even' odd' c t) (same_Some _ _ h)
      (record { node = subst (λ x. spans_at even' odd' x c ≡ wide n.reads) e is; offer = tt }))

  -- where nothing stands at c, spans that were begun for it change nothing
  pub begun_registered : is_some (get m c) ≡ false → AreRegistered m even' odd'
  begun_registered h = subst (λ (x : Slots). AreRegistered x even' odd') (placed_same m c None (no_slot (get m c) h))
      (placed_registered None (λ s e. absurd (none-some s e)))

  -- where the other index changed, the formula's spans stand
  pub node_stands : (s : Slot) → get m c ≡ Some s → b ≡ not s.is_odd → Stands s.node (spans_at even' odd' s.is_odd c)
  node_stands s e other =
      stands_at s.node _ _ (kept s.is_odd c (inr (λ x. apart_not s.is_odd (x ∙ other)))) (all c s e).node

  -- where the formula's own index changed, the offer's spans stand
  pub offer_stands : (s : Slot) → get m c ≡ Some s → b ≡ s.is_odd
      → Stands s.offer (spans_at even' odd' (not s.is_odd) c)
  offer_stands s e own =
      stands_at s.offer _ _ (kept (not s.is_odd) c (inr (λ x. apart_not s.is_odd (sym (x ∙ own))))) (all c s e).offer

  unoffered : (o : Option Slot) → get m c ≡ o → b ≡ not (side o) → (s : Slot) → without Offer o ≡ Some s
      → IsRegistered even' odd' c s
  unoffered None e other s h = absurd (none-some s h)
  unoffered (Some x) e other s h = with x.node (node_stands x e other) h
    where
      with : (o : Option Node) → Stands o (spans_at even' odd' x.is_odd c)
          → filled o (record x { node = o; offer = None }) ≡ Some s → IsRegistered even' odd' c s
      with None n h = absurd (none-some s h)
      with (Some k) n h =
          subst (λ (t : Slot). IsRegistered even' odd' c t) (same_Some _ _ h) (record { node = n; offer = tt })

  -- without its offer, where the other index changed
  pub unoffered_registered : b ≡ not (side (get m c)) → AreRegistered (placed m c (without Offer (get m c))) even' odd'
  unoffered_registered other = placed_registered (without Offer (get m c)) (unoffered (get m c) refl other)

  unformed : (o : Option Slot) → get m c ≡ o → b ≡ side o → (s : Slot) → without Formula o ≡ Some s
      → IsRegistered even' odd' c s
  unformed None e own s h = absurd (none-some s h)
  unformed (Some x) e own s h = with x.offer (offer_stands x e own) h
    where
      with : (o : Option Node) → Stands o (spans_at even' odd' (not x.is_odd) c)
          → filled o (record x { node = None; offer = o }) ≡ Some s → IsRegistered even' odd' c s
      with None n h = absurd (none-some s h)
      with (Some k) n h =
          subst (λ (t : Slot). IsRegistered even' odd' c t) (same_Some _ _ h) (record { node = tt; offer = n })

  -- without its formula, where its own index changed
  pub unformed_registered : b ≡ side (get m c) → AreRegistered (placed m c (without Formula (get m c))) even' odd'
  unformed_registered own = placed_registered (without Formula (get m c)) (unformed (get m c) refl own)

  turned_here : (o : Option Slot) → get m c ≡ o → is_some (had offer_in o) ≡ true → b ≡ side o → (s : Slot)
      → turned o ≡ Some s → IsRegistered even' odd' c s
  turned_here None e some own s h = absurd (none-some s h)
  turned_here (Some x) e some own s h = with x.offer some (offer_stands x e own) h
    where
      with : (o : Option Node) → is_some o ≡ true → Stands o (spans_at even' odd' (not x.is_odd) c)
          → Some (turned_to o x) ≡ Some s → IsRegistered even' odd' c s
      with None some n h = absurd (true≢false (sym some))
      with (Some k) some n h =
          subst (λ (t : Slot). IsRegistered even' odd' c t) (same_Some _ _ h) (record { node = n; offer = tt })

  -- with its offer for its formula, where its own index changed
  pub turned_registered : is_some (had offer_in (get m c)) ≡ true → b ≡ side (get m c)
      → AreRegistered (placed m c (turned (get m c))) even' odd'
  turned_registered some own = placed_registered (turned (get m c)) (turned_here (get m c) refl some own)

  offering_here : (o : Option Slot) (n : Node) → get m c ≡ o → b ≡ not (side o) → spans_at even' odd' b c ≡ wide n.reads
      → (s : Slot) → Some (offering o n) ≡ Some s → IsRegistered even' odd' c s
  offering_here None n e other is s h = subst (λ (t : Slot). IsRegistered even' odd' c t) (same_Some _ _ h)
      (record { node = tt; offer = subst (λ x. spans_at even' odd' x c ≡ wide n.reads) other is })
  offering_here (Some x) n e other is s h = subst (λ (t : Slot). IsRegistered even' odd' c t) (same_Some _ _ h)
      (record { node = node_stands x e other; offer = subst (λ y. spans_at even' odd' y c ≡ wide n.reads) other is })

  -- with an offer whose spans are in the other index
  pub offering_registered : (n : Node) → b ≡ not (side (get m c)) → spans_at even' odd' b c ≡ wide n.reads
      → AreRegistered (placed m c (Some (offering (get m c) n))) even' odd'
  offering_registered n other is =
      placed_registered (Some (offering (get m c) n)) (offering_here (get m c) n refl other is)
