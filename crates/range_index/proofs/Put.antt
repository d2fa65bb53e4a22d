-- What one span more leaves of the owners.
use Rattle.std.specs.Prelude.{◌≡◌, cond, List, [], ◌∷◌, ◌++◌, Option, None, Some}
use Rattle.std.specs.BTreeMap.{is_at}
use Rattle.std.specs.FinMap.{from_entries, get, insert}
use Rattle.std.specs.Map.{lookup}
use Rattle.std.proofs.Common.{sym, ◌∙◌, ap}
use Rattle.grid_address.proofs.Maps.{get_entries, inserted, inserted_same}
use Rattle.grid_address.proofs.Places.{cells_exact, cells_total}
use Rattle.grid_address.specs.Place.{place_cmp, Extent, Place}
use Rattle.range_index.specs.Owners.{spans_in, with_span, Owners}

module _ (es fs : List (Place × List Extent)) (owner : Place) (now new : List Extent)
    (here : Some now ≡ lookup (is_at (place_cmp owner)) es)
    (put : (q : Place) → lookup (is_at (place_cmp q)) fs ≡ cond (is_at (place_cmp owner) q) (Some new)
    (lookup (is_at (place_cmp q)) es)) where
  -- the owners before the span is put in
  abbrev pub m : Owners
  m = from_entries es

  is_put : from_entries {R = place_cmp} fs ≡ insert m owner new
  is_put = inserted cells_total cells_exact es fs owner new put

  found : get m owner ≡ Some now
  found = get_entries cells_total es owner ∙ sym here

  -- where the owner's spans get one more behind them, the owners have that span more
  pub one_more : (span : Extent) → new ≡ now ++ span ∷ [] → from_entries {R = place_cmp} fs ≡ with_span m owner span
  one_more span e =
      is_put ∙ ap (insert m owner) (e ∙ ap (λ (o : Option (List Extent)). spans_in o ++ span ∷ []) (sym found))

  -- where the owner's spans stay as they are, so do the owners
  pub none_more : new ≡ now → from_entries {R = place_cmp} fs ≡ m
  none_more e = is_put ∙ ap (insert m owner) e ∙ inserted_same cells_total cells_exact m owner now found

-- an owner that had no entry gets one of the span alone
pub first_span : (es fs : List (Place × List Extent)) (owner : Place) (span : Extent)
    → None ≡ lookup (is_at (place_cmp owner)) es
    → ((q : Place) → lookup (is_at (place_cmp q)) fs ≡ cond (is_at (place_cmp owner) q) (Some (span ∷ []))
    (lookup (is_at (place_cmp q)) es)) → from_entries {R = place_cmp} fs ≡ with_span (from_entries es) owner span
first_span es fs owner span none put = inserted cells_total cells_exact es fs owner (span ∷ []) put
    ∙ ap (λ (o : Option (List Extent)). insert (from_entries es) owner (spans_in o ++ span ∷ []))
    (none ∙ sym (get_entries cells_total es owner))
