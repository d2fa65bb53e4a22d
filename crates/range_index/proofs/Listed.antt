-- The owners that are found, in order, are the owners among the entries.
use Rattle.std.specs.Prelude.{◌≡◌, Bool, true, false, cond, ◌||◌, refl, List, [], ◌∷◌, Option, None, Some}
use Rattle.std.specs.declared.cmp.Ordering.TheVariants.{Less}
use Rattle.std.specs.Ordering.{is_eq}
use Rattle.std.specs.BTreeMap.{is_at}
use Rattle.std.specs.BTreeSet.{IsOrdered, BTreeSet}
use Rattle.std.specs.FinMap.{entries, entries_sorted, from_entries, get}
use Rattle.std.specs.List.{list_any, AllByRecursion}
use Rattle.std.specs.List.Sorted.{IsStrictlySortedBy}
use Rattle.std.specs.Map.{keys_of, lookup}
use Rattle.std.proofs.Common.{sym, ◌∙◌, ap, inl, inr}
use Rattle.std.proofs.lemmas.Bool.{cases_Bool}
use Rattle.std.proofs.lemmas.Map.Lookups.{btree_set_from_contains}
use Rattle.list_lemmas.proofs.Booleans.{same_from_both}
use Rattle.grid_address.proofs.Maps.{entries_kept, equal_of, get_entries, get_lookup}
use Rattle.grid_address.proofs.Maps as maps
use Rattle.grid_address.proofs.Places.{cells_exact, cells_total, place_tied}
use Rattle.grid_address.specs.Place.{place_cmp, same_place, Extent, Place}
use Rattle.range_index.specs.Owners.{hold, owners_among, owners_of, spans_in, Owners}
use Rattle.range_index.specs.inner.Registered.{has_place, AreOwners}

pick : (x : Place) (xs : List Place) (b : Bool) → AllByRecursion (λ y. place_cmp x y ≡ Less) xs
    → IsStrictlySortedBy place_cmp xs → IsStrictlySortedBy place_cmp (cond b (x ∷ xs) xs)
unfolding IsStrictlySortedBy
pick x xs true first rest = (first, rest)
pick x xs false first rest = rest

module _ (p : Place) where
  all_among : (P : Place → Type 0) (es : List (Place × List Extent)) → AllByRecursion P (keys_of es)
      → AllByRecursion P (owners_among p es)
  all_among P [] h = h
  all_among P (e ∷ es) h = pick (hold e.1 p) (all_among P es h.1)
    where
      pick : (b : Bool) → AllByRecursion P (owners_among p es)
          → AllByRecursion P (cond b (e.0 ∷ owners_among p es) (owners_among p es))
      pick true rest = (h.0, rest)
      pick false rest = rest

  in_order : (es : List (Place × List Extent)) → IsStrictlySortedBy place_cmp (keys_of es)
      → IsStrictlySortedBy place_cmp (owners_among p es)
  unfolding IsStrictlySortedBy
  in_order [] s = s
  in_order (e ∷ es) s =
      pick e.0 (owners_among p es) (hold e.1 p) (all_among (λ y. place_cmp e.0 y ≡ Less) es s.0) (in_order es s.1)

  none_after : (k : Place) (es : List (Place × List Extent)) → AllByRecursion (λ y. place_cmp k y ≡ Less) (keys_of es)
      → lookup (is_at (place_cmp k)) es ≡ None
  none_after k [] h = refl
  none_after k (e ∷ es) h = ap (λ o. cond (is_eq o) (Some e.1) (lookup (is_at (place_cmp k)) es)) h.0
      ∙ none_after k es h.1

  among_has : (es : List (Place × List Extent)) → IsStrictlySortedBy place_cmp (keys_of es) → (q : Place)
      → has_place (owners_among p es) q ≡ hold (spans_in (lookup (is_at (place_cmp q)) es)) p
  unfolding IsStrictlySortedBy
  among_has [] s q = refl
  among_has (e ∷ es) s q = elim (cases_Bool (is_at (place_cmp q) e.0)) [
    | inl t ↦
        let same : q ≡ e.0 = cells_exact q e.0 (equal_of _ t) in
        let none : lookup (is_at (place_cmp q)) es ≡ None = ap (λ k. lookup (is_at (place_cmp k)) es) same
        ∙ none_after e.0 es s.0 in
        let rest : has_place (owners_among p es) q ≡ false = among_has es s.1 q
        ∙ ap (λ (o : Option (List Extent)). hold (spans_in o) p) none in
        here (hold e.1 p) refl t rest
        ∙ sym (ap (λ b. hold (spans_in (cond b (Some e.1) (lookup (is_at (place_cmp q)) es))) p) t)
    | inr f ↦ there (hold e.1 p) f ∙ among_has es s.1 q
        ∙ sym (ap (λ b. hold (spans_in (cond b (Some e.1) (lookup (is_at (place_cmp q)) es))) p) f)
  ]
    where
      here : (b : Bool) → b ≡ hold e.1 p → is_at (place_cmp q) e.0 ≡ true → has_place (owners_among p es) q ≡ false
          → has_place (cond b (e.0 ∷ owners_among p es) (owners_among p es)) q ≡ hold e.1 p
      here true is t rest = ap (λ b. b || has_place (owners_among p es) q) t ∙ is
      here false is t rest = rest ∙ is

      there : (b : Bool) → is_at (place_cmp q) e.0 ≡ false
          → has_place (cond b (e.0 ∷ owners_among p es) (owners_among p es)) q ≡ has_place (owners_among p es) q
      there true f = ap (λ b. b || has_place (owners_among p es) q) f
      there false f = refl

  -- owners that are found in their order, all of them and no others, are the owners of a span that holds the place
  pub listed : (es : List (Place × List Extent)) → IsStrictlySortedBy place_cmp (keys_of es) → (found : BTreeSet Place)
      → IsOrdered place_cmp found
      → AreOwners (from_entries es) p found.keys → ((o : Place)
      → hold (spans_in (get (from_entries {R = place_cmp} es) o)) p ≡ true → has_place found.keys o ≡ true)
      → found.keys ≡ owners_of (from_entries es) p
  listed es s found ordered owners all =
      btree_set_from_contains cells_total found (record { keys = owners_among p es }) ordered (in_order es s)
      (λ q. same_from_both _ _ (owners q) (all q) ∙ ap (λ (o : Option (List Extent)). hold (spans_in o) p)
      (get_entries cells_total es q) ∙ sym (among_has es s q)) cells_exact
      ∙ ap (owners_among p) (sym (entries_kept cells_total es s))

  -- an owner is told exactly where one of its spans holds the place
  pub owner_told : (m : Owners) (o : Place) → list_any (same_place o) (owners_of m p) ≡ hold (spans_in (get m o)) p
  owner_told m o =
      tells (owners_of m p) o ∙ among_has (entries m) (maps.in_order cells_total (entries m) (entries_sorted m)) o
      ∙ ap (λ (s : Option (List Extent)). hold (spans_in s) p) (sym (get_lookup cells_total m o))
    where
      tells : (xs : List Place) (o : Place) → list_any (same_place o) xs ≡ has_place xs o
      tells xs o = ap (λ (f : Place → Bool). list_any f xs) (λ i x. sym (place_tied o x) i)
