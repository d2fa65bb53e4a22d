-- Formulas and offers stand in the lists of what they read.
use Rattle.std.specs.Prelude.{ℕ, ◌≡◌, ◌<◌, ◌≤◌, ◌+◌, ◌&&◌, ◌||◌, nat_le, Bool, true, false, cond, refl, length, take}
use Rattle.std.specs.Prelude.{drop, List, [], ◌∷◌, ◌++◌, Option, None, Some}
use Rattle.std.specs.FinMap.{empty, get, get-empty, insert}
use Rattle.std.specs.List.{filter}
use Rattle.std.proofs.Common.{sym, ◌∙◌, ap, subst, inl, inr, arith, get_or}
use Rattle.std.proofs.lemmas.Bool.{and_parts, cases_Bool, false≢true, leb-true, or_cases, or_left, or_right}
use Rattle.std.proofs.lemmas.List.{take-append-drop, take_more}
use Rattle.std.proofs.lemmas.List.Folds.{list_any-append}
use Rattle.std.proofs.lemmas.Option.{none-some, same_Some}
use Rattle.cell_maps.specs.Sets.{has}
use Rattle.grid_address.proofs.Places.{get_inserted, same_place_is, same_place_itself}
use Rattle.grid_address.specs.Place.{is_within, place_cmp, same_place, Extent, Place}
use Rattle.range_index.specs.Owners.{hold}
use Rattle.depend_graph.proofs.Placed.{get_placed}
use Rattle.depend_graph.specs.inner.Banks.{is_one}
use Rattle.depend_graph.specs.inner.Lists.{cells_in, items_in, list_at, AreInLists, AreKept, IsInLists, IsInListsOf}
use Rattle.depend_graph.specs.inner.Lists.{IsListed, Lists}
use Rattle.depend_graph.specs.inner.Slots.{filled, formed, offering, placed, turned, turned_to, without, Slots}
use Rattle.depend_graph.specs.declared.slots.Part.TheVariants.{Formula, Offer}
use Rattle.depend_graph.specs.declared.lists.Readers.{Readers}
use Rattle.depend_graph.specs.declared.node.Node.{Node}
use Rattle.depend_graph.specs.declared.slots.Slot.{Slot}

-- lists keep what they have
pub kept_itself : (m : Lists) → AreKept m m
kept_itself m c d h = h

-- what lists keep, and these keep in turn, is kept
pub kept_on : (a b m : Lists) → AreKept a b → AreKept b m → AreKept a m
kept_on a b m f g c d h = g c d (f c d h)

-- a list that is put in with all that the cell's list had keeps what stood in lists
pub kept_inserted : (m m' : Lists) (c : Place) (v : Readers)
    → ((d : Place) → get m' d ≡ cond (same_place d c) (Some v) (get m d))
    → ((d : Place) → has same_place (list_at m c) d ≡ true → has same_place (cells_in v) d ≡ true) → AreKept m m'
kept_inserted m m' c v is more d x h = elim (cases_Bool (same_place d c)) [
  | inl t ↦ ap (λ (o : Option Readers). has same_place (items_in o) x) (is d ∙ ap (λ b. cond b (Some v) (get m d))
      t) ∙ more x (sym (ap (λ p. has same_place (list_at m p) x) (same_place_is d c t)) ∙ h)
  | inr f ↦ ap (λ (o : Option Readers). has same_place (items_in o) x)
      (is d ∙ ap (λ b. cond b (Some v) (get m d)) f) ∙ h
]

-- the list that was put in is the cell's
pub list_inserted : (m : Lists) (c : Place) (v : Readers) → list_at (insert m c v) c ≡ cells_in v
list_inserted m c v = ap (λ (o : Option Readers). items_in o)
    (get_inserted m c v c ∙ ap (λ b. cond b (Some v) (get m c)) (same_place_itself c))

-- what a list had it still has where one was put into it, if there was memory
pub put_has : (b : Bool) (xs : List Place) (i : ℕ) (x d : Place) → has same_place xs d ≡ true
    → has same_place (cond b (take i xs ++ x ∷ drop i xs) xs) d ≡ true
put_has false xs i x d h = h
put_has true xs i x d h =
    elim (or_cases (has same_place (take i xs) d) (has same_place (drop i xs) d) (sym (list_any-append (same_place d)
    (take i xs) (drop i xs)) ∙ ap (λ l. has same_place l d) (take-append-drop i xs) ∙ h)) [
      | inl k ↦ list_any-append (same_place d) (take i xs) (x ∷ drop i xs) ∙ or_left _ _ k
      | inr k ↦ list_any-append (same_place d) (take i xs) (x ∷ drop i xs)
          ∙ or_right (has same_place (take i xs) d) _ (or_right (same_place d x) _ k)
    ]

-- what stands behind the first reader is one of all
pub behind : (first : Place) (xs ys : List Place)
    → ((d : Place) → has same_place xs d ≡ true → has same_place ys d ≡ true) → (d : Place)
    → has same_place (first ∷ xs) d ≡ true → has same_place (first ∷ ys) d ≡ true
behind first xs ys k d h = elim (or_cases (same_place d first) (has same_place xs d) h) [
  | inl e ↦ or_left _ _ e
  | inr m ↦ or_right (same_place d first) _ (k d m)
]

-- a formula that stands in the lists of what it reads stands there while they keep what they have
pub listed_kept : (a b : Lists) (c : Place) (spans : List Extent) → AreKept a b → IsListed a c spans
    → IsListed b c spans
listed_kept a b c spans k l d h = k d c (l d h)

of_kept : (a b : Lists) (c : Place) (o : Option Node) → AreKept a b → IsInListsOf a c o → IsInListsOf b c o
of_kept a b c None k l = tt
of_kept a b c (Some n) k l = listed_kept a b c n.reads k l

-- all formulas and offers that stand in the lists of what they read stand there while the lists keep what they have
pub all_kept : (m : Slots) (a b : Lists) → AreKept a b → AreInLists m a → AreInLists m b
all_kept m a b k all c s e =
    record { node = of_kept a b c s.node k (all c s e).node; offer = of_kept a b c s.offer k (all c s e).offer }

-- where there are no slots, all stand in the lists
pub none_listed : (m : Slots) (lists : Lists) → m ≡ empty → AreInLists m lists
none_listed m lists e c s h = absurd (none-some s (sym (ap (λ (n : Slots). get n c) e ∙ get-empty place_cmp c) ∙ h))

filter_append : (xs ys : List Extent) → filter is_one (xs ++ ys) ≡ filter is_one xs ++ filter is_one ys
filter_append [] ys = refl
filter_append (x ∷ xs) ys = elim (is_one x) as (λ b. cond b (x ∷ filter is_one (xs ++ ys))
    (filter is_one (xs ++ ys)) ≡ cond b (x ∷ filter is_one xs) (filter is_one xs) ++ filter is_one ys) [
      | true ↦ ap (λ l. x ∷ l) (filter_append xs ys)
      | false ↦ filter_append xs ys
    ]

-- a span that is one cell holds that cell alone
one_place : (s : Extent) (d : Place) → is_one s ≡ true → is_within s d ≡ true → d ≡ s.first
one_place s d o w =
    let e : s.first ≡ s.last = same_place_is s.first s.last o in
    let p = and_parts (nat_le s.first.row d.row && nat_le d.row s.last.row)
    (nat_le s.first.col d.col && nat_le d.col s.last.col) w in
    let q = and_parts (nat_le s.first.row d.row) (nat_le d.row s.last.row) p.0 in
    let r = and_parts (nat_le s.first.col d.col) (nat_le d.col s.last.col) p.1 in
    let a : s.first.row ≤ d.row = leb-true _ _ q.0 in
    let b : d.row ≤ s.last.row = leb-true _ _ q.1 in
    let x : s.first.row ≡ s.last.row = ap (λ (t : Place). t.row) e in
    let f : s.first.col ≤ d.col = leb-true _ _ r.0 in
    let g : d.col ≤ s.last.col = leb-true _ _ r.1 in
    let y : s.first.col ≡ s.last.col = ap (λ (t : Place). t.col) e in
    let row : d.row ≡ s.first.row = omega (arith, a, b, x) in
    let col : d.col ≡ s.first.col = omega (arith, f, g, y) in
    λ i. record { row = row i; col = col i }

-- one more span was gone over
pub listed_more : (a b : Lists) (c : Place) (spans : List Extent) (i : ℕ) (s : Extent) → i < length spans
    → s ≡ get_or spans i s → AreKept a b → IsListed a c (take i spans)
    → (is_one s ≡ true → has same_place (list_at b s.first) c ≡ true) → IsListed b c (take (i + 1) spans)
listed_more a b c spans i s lt e k l here d h =
    elim (or_cases (hold (filter is_one (take i spans)) d) (hold (filter is_one (s ∷ [])) d) (sym front ∙ h)) [
      | inl m ↦ k d c (l d m)
      | inr m ↦ elim (cases_Bool (is_one s)) [
        | inl o ↦ subst (λ p. has same_place (list_at b p) c ≡ true)
            (sym (one_place s d o (single (sym (ap (λ t. hold (cond t (s ∷ []) []) d) o) ∙ m)))) (here o)
        | inr f ↦ absurd (false≢true (sym (ap (λ t. hold (cond t (s ∷ []) []) d) f) ∙ m))
      ]
    ]
  where
    more : take (i + 1) spans ≡ take i spans ++ s ∷ []
    more = take_more spans i s lt ∙ ap (λ x. take i spans ++ x ∷ []) (sym e)

    front : hold (filter is_one (take (i + 1) spans)) d ≡ (hold (filter is_one (take i spans)) d || hold
        (filter is_one (s ∷ [])) d)
    front = ap (λ l. hold (filter is_one l) d) more ∙ ap (λ l. hold l d) (filter_append (take i spans) (s ∷ []))
        ∙ list_any-append (λ t. is_within t d) (filter is_one (take i spans)) (filter is_one (s ∷ []))

    single : (is_within s d || false) ≡ true → is_within s d ≡ true
    single w = elim (or_cases (is_within s d) false w) [ inl k ↦ k | inr k ↦ absurd (false≢true k) ]

module _ (m : Slots) (lists : Lists) (all : AreInLists m lists) (c : Place) where
  -- what is put at c is in the lists, and the others stay so
  placed_listed : (o : Option Slot) → ((s : Slot) → o ≡ Some s → IsInLists lists c s) → AreInLists (placed m c o) lists
  placed_listed o here d s h = elim (cases_Bool (same_place d c)) [
    | inl t ↦
        let e : o ≡ Some s = sym (get_placed m c o d ∙ ap (λ x. cond x o (get m d)) t) ∙ h in
        subst (λ p. IsInLists lists p s) (sym (same_place_is d c t)) (here s e)
    | inr f ↦ all d s (sym (get_placed m c o d ∙ ap (λ x. cond x o (get m d)) f) ∙ h)
  ]

  -- with a formula alone
  pub formed_listed : (n : Node) → IsListed lists c n.reads → AreInLists (placed m c (Some (formed n))) lists
  formed_listed n l = placed_listed (Some (formed n)) (λ s h.
      subst (λ (t : Slot). IsInLists lists c t) (same_Some _ _ h) (record { node = l; offer = tt }))

  unoffered : (o : Option Slot) → get m c ≡ o → (s : Slot) → without Offer o ≡ Some s → IsInLists lists c s
  unoffered None e s h = absurd (none-some s h)
  unoffered (Some x) e s h = with x.node (all c x e).node h
    where
      with : (o : Option Node) → IsInListsOf lists c o → filled o (record x { node = o; offer = None }) ≡ Some s
          → IsInLists lists c s
      with None n h = absurd (none-some s h)
      with (Some k) n h = subst (λ (t : Slot). IsInLists lists c t) (same_Some _ _ h) (record { node = n; offer = tt })

  -- without its offer
  pub unoffered_listed : AreInLists (placed m c (without Offer (get m c))) lists
  unoffered_listed = placed_listed (without Offer (get m c)) (unoffered (get m c) refl)

  unformed : (o : Option Slot) → get m c ≡ o → (s : Slot) → without Formula o ≡ Some s → IsInLists lists c s
  unformed None e s h = absurd (none-some s h)
  unformed (Some x) e s h = with x.offer (all c x e).offer h
    where
      with : (o : Option Node) → IsInListsOf lists c o → filled o (record x { node = None; offer = o }) ≡ Some s
          → IsInLists lists c s
      with None n h = absurd (none-some s h)
      with (Some k) n h = subst (λ (t : Slot). IsInLists lists c t) (same_Some _ _ h) (record { node = tt; offer = n })

  -- without its formula
  pub unformed_listed : AreInLists (placed m c (without Formula (get m c))) lists
  unformed_listed = placed_listed (without Formula (get m c)) (unformed (get m c) refl)

  turned_here : (o : Option Slot) → get m c ≡ o → (s : Slot) → turned o ≡ Some s → IsInLists lists c s
  turned_here None e s h = absurd (none-some s h)
  turned_here (Some x) e s h = with x.offer (all c x e).offer h
    where
      with : (o : Option Node) → IsInListsOf lists c o → Some (turned_to o x) ≡ Some s → IsInLists lists c s
      with None n h = subst (λ (t : Slot). IsInLists lists c t) (same_Some _ _ h) (all c x e)
      with (Some k) n h = subst (λ (t : Slot). IsInLists lists c t) (same_Some _ _ h) (record { node = n; offer = tt })

  -- with its offer for its formula
  pub turned_listed : AreInLists (placed m c (turned (get m c))) lists
  turned_listed = placed_listed (turned (get m c)) (turned_here (get m c) refl)

  offering_here : (o : Option Slot) (n : Node) → get m c ≡ o → IsListed lists c n.reads → (s : Slot)
      → Some (offering o n) ≡ Some s → IsInLists lists c s
  offering_here None n e l s h =
      subst (λ (t : Slot). IsInLists lists c t) (same_Some _ _ h) (record { node = tt; offer = l })
  offering_here (Some x) n e l s h =
      subst (λ (t : Slot). IsInLists lists c t) (same_Some _ _ h) (record { node = (all c x e).node; offer = l })

  -- with an offer
  pub offering_listed : (n : Node) → IsListed lists c n.reads
      → AreInLists (placed m c (Some (offering (get m c) n))) lists
  offering_listed n l = placed_listed (Some (offering (get m c) n)) (offering_here (get m c) n refl l)

-- without its offer, where lists have grown
pub listed_on : (m m1 : Slots) (a b : Lists) (c : Place) → m1 ≡ placed m c (without Offer (get m c)) → AreInLists m a
    → AreKept a b → AreInLists m1 b
listed_on m m1 a b c is all kept =
    all_kept m1 a b kept (subst (λ (x : Slots). AreInLists x a) (sym is) (unoffered_listed m a all c))
