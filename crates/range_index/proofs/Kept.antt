-- Every owner's spans stay registered.
use Rattle.std.specs.Prelude.{◌≡◌, Bool, true, false, cond, refl, List, [], ◌∷◌, ◌++◌, Option, None, Some}
use Rattle.std.specs.BTreeMap.{is_at}
use Rattle.std.specs.Cmp.{eq_by_cmp_equiv}
use Rattle.std.specs.FinMap.{from_entries, get, get-insert, get-remove, remove}
use Rattle.std.specs.List.{list_all}
use Rattle.std.specs.Map.{lookup}
use Rattle.std.specs.Ordering.{eq_by_cmp}
use Rattle.std.proofs.Common.{sym, ◌∙◌, ap, inl, inr}
use Rattle.std.proofs.lemmas.Bool.{and_from, and_parts, cases_Bool, true≢false}
use Rattle.std.proofs.lemmas.List.Folds.{list_all-append}
use Rattle.grid_address.proofs.Maps.{equal_of, get_entries}
use Rattle.grid_address.proofs.Places.{cells_exact, cells_total, same_place_is}
use Rattle.grid_address.specs.Place.{place_cmp, same_place, Extent, Place}
use Rattle.range_index.specs.Owners.{hold, spans_in, with_span, Owners}
use Rattle.range_index.specs.inner.Powers.{Powers}
use Rattle.range_index.specs.inner.Registered.{has_registration, is_registered, registered, AreRegistered}
use Rattle.range_index.specs.inner.Registered.{StaysRegistered}
use Rattle.range_index.specs.declared.register.Registration.{Registration}

-- where there is no owner, all that there are have their spans registered
pub none_registered : (es : List (Place × List Extent)) (sizes : List Powers) (rs : List Registration) → es ≡ []
    → AreRegistered (from_entries es) sizes rs
none_registered es sizes rs e o = ap (λ (s : Option (List Extent)). list_all (is_registered sizes rs o) (spans_in s))
    (get_entries cells_total es o ∙ ap (lookup (is_at (place_cmp o))) e)

-- where there is no owner, none has a span that holds a place
pub none_held : (es : List (Place × List Extent)) → es ≡ [] → (o p : Place)
    → hold (spans_in (get (from_entries {R = place_cmp} es) o)) p ≡ false
none_held es e o p = ap (λ (s : Option (List Extent)). hold (spans_in s) p)
    (get_entries cells_total es o ∙ ap (lookup (is_at (place_cmp o))) e)

all_weaker : {A : Type 0} (p q : A → Bool) → ((x : A) → p x ≡ true → q x ≡ true) → (xs : List A) → list_all p xs ≡ true
    → list_all q xs ≡ true
all_weaker p q f [] h = refl
all_weaker p q f (x ∷ xs) h = let e = and_parts (p x) (list_all p xs) h in
    and_from _ _ (f x e.0) (all_weaker p q f xs e.1)

-- where what is registered stays so, each owner's spans stay registered
pub stay_registered : (m : Owners) (sizes sizes' : List Powers) (rs rs' : List Registration)
    → StaysRegistered sizes rs sizes' rs' → AreRegistered m sizes rs → AreRegistered m sizes' rs'
stay_registered m sizes sizes' rs rs' stays h o = all_weaker _ _ (stays o) (spans_in (get m o)) (h o)

-- with one span more, which is registered, each owner's spans are
pub one_more_registered : (m : Owners) (sizes : List Powers) (rs : List Registration) (owner : Place) (span : Extent)
    → AreRegistered m sizes rs → is_registered sizes rs owner span ≡ true
    → AreRegistered (with_span m owner span) sizes rs
one_more_registered m sizes rs owner span h k o =
    let all = list_all (is_registered sizes rs o) in
    let l : List Extent = spans_in (get m owner) ++ span ∷ [] in
    let at : get (with_span m owner span) o ≡ cond (eq_by_cmp place_cmp o owner) (Some l) (get m o) =
    get-insert cells_total m owner l o in
    ap (λ (s : Option (List Extent)). all (spans_in s)) at ∙ elim (cases_Bool (eq_by_cmp place_cmp o owner)) [
      | inl t ↦
          let e : o ≡ owner = cells_exact o owner (equal_of _ t) in
          ap (λ b. all (spans_in (cond b (Some l) (get m o)))) t ∙ ap (λ q. list_all (is_registered sizes rs q) l) e
          ∙ list_all-append (is_registered sizes rs owner) (spans_in (get m owner)) (span ∷ [])
          ∙ and_from _ _ (h owner) (and_from _ _ k refl)
      | inr f ↦ ap (λ b. all (spans_in (cond b (Some l) (get m o)))) f ∙ h o
    ]

-- without one owner, the spans of the others stay registered
pub rest_registered : (m : Owners) (sizes : List Powers) (rs rs' : List Registration) (owner : Place)
    → AreRegistered m sizes rs
    → ((r : Registration) → same_place r.owner owner ≡ false → has_registration rs r ≡ true
    → has_registration rs' r ≡ true) → AreRegistered (remove m owner) sizes rs'
rest_registered m sizes rs rs' owner h kept o =
    let all = list_all (is_registered sizes rs' o) in
    ap (λ (s : Option (List Extent)). all (spans_in s)) (get-remove cells_total m owner o)
    ∙ elim (cases_Bool (eq_by_cmp place_cmp o owner)) [
      | inl t ↦ ap (λ b. all (spans_in (cond b None (get m o)))) t
      | inr f ↦
          let apart : same_place o owner ≡ false = elim (cases_Bool (same_place o owner)) [
            | inl t ↦ absurd (true≢false (sym ((eq_by_cmp_equiv cells_total).refl owner)
                ∙ ap (λ q. eq_by_cmp place_cmp q owner) (sym (same_place_is o owner t)) ∙ f))
            | inr g ↦ g
          ] in
          ap (λ b. all (spans_in (cond b None (get m o)))) f ∙ all_weaker _ _ (λ s e.
          let x = and_parts _ _ e in
          let y = and_parts _ _ x.1 in
          and_from _ _ x.0 (and_from _ _ y.0 (kept (registered o s) apart y.1))) (spans_in (get m o)) (h o)
    ]
