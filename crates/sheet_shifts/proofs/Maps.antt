-- Entries that are put into a map one after another.
use Rattle.std.specs.Prelude.{◌≡◌, true, cond, List, [], ◌∷◌, None, Some, refl}
use Rattle.std.specs.Cmp.{tied_itself, IsTotalOrder}
use Rattle.std.specs.FinMap.{empty, entries, entries_sorted, find, from_entries, get, get-empty, get-from_entries}
use Rattle.std.specs.FinMap.{get-insert, insert, same_map, FinMap, IsAntisymmetric}
use Rattle.std.specs.List.{AllByRecursion}
use Rattle.std.specs.List.Sorted.{IsStrictlySortedBy}
use Rattle.std.specs.Map.{keys_of}
use Rattle.std.specs.Ordering.{eq_by_cmp, is_eq}
use Rattle.std.specs.declared.cmp.Ordering.{Ordering}
use Rattle.std.specs.Option.{option_or}
use Rattle.std.proofs.Common.{sym, ◌∙◌, ap, inl, inr}
use Rattle.std.proofs.lemmas.Bool.{cases_Bool}
use Rattle.list_lemmas.proofs.Options.{option_or-none}
use Rattle.grid_address.proofs.Maps.{equal_of, find_none_below, in_order}
use Rattle.sheet_shifts.specs.inner.Puts.{put_all}

-- no key comes twice
abbrev pub AreApart : {K X : Type 0} → (K → K → Ordering) → List (K × X) → Type 0
AreApart R [] = Unit {0}
AreApart R (e ∷ es) = (find R e.0 es ≡ None) × AreApart R es

-- something is not nothing
pub some_is_none : {X : Type 0} {x : X} → Some x ≡ None → ⊥
some_is_none e = absurd cc

-- keys that are tied are one
pub same_key : {K : Type 0} {R : K → K → Ordering} → IsAntisymmetric R → (q k : K) → eq_by_cmp R q k ≡ true → q ≡ k
same_key {R = R} exact q k h = exact q k (equal_of (R q k) h)

module _ {K X : Type 0} {R : K → K → Ordering} (total : IsTotalOrder R) (exact : IsAntisymmetric R) where
  put_get : (es : List (K × X)) (m : FinMap R X) (q : K) → AreApart R es
      → get (put_all m es) q ≡ option_or (find R q es) (get m q)
  put_get [] m q apart = refl
  put_get (e ∷ es) m q apart =
      put_get es (insert m e.0 e.1) q apart.1 ∙ ap (option_or (find R q es)) (get-insert total m e.0 e.1 q)
      ∙ elim (cases_Bool (eq_by_cmp R q e.0)) [
        | inl same ↦ (
            let gone : find R q es ≡ None = ap (λ x. find R x es) (same_key exact q e.0 same) ∙ apart.0 in
            ap (λ p. option_or p (cond (eq_by_cmp R q e.0) (Some e.1) (get m q))) gone
            ∙ ap (λ b. cond b (Some e.1) (get m q)) same
            ∙ ap (λ b. option_or (cond b (Some e.1) (find R q es)) (get m q)) (sym same))
        | inr other ↦
            ap (λ b. option_or (find R q es) (cond b (Some e.1) (get m q))) other
            ∙ ap (λ b. option_or (cond b (Some e.1) (find R q es)) (get m q)) (sym other)
      ]

  -- entries that are put one by one are their map
  pub all_put : (es : List (K × X)) → AreApart R es → put_all (empty {X = X} {R = R}) es ≡ from_entries es
  all_put es apart = same_map total exact (put_all empty es) (from_entries es) (λ q.
      put_get es empty q apart ∙ ap (option_or (find R q es)) (get-empty R q) ∙ option_or-none (find R q es)
      ∙ sym (get-from_entries total es q))

  -- the first entry is found by its key
  pub first_found : (e : K × X) (es : List (K × X)) → find R e.0 (e ∷ es) ≡ Some e.1
  first_found e es = ap (λ b. cond b (Some e.1) (find R e.0 es)) (ap is_eq (tied_itself total e.0))

  -- one behind it is found past it
  pub found_later : (e : K × X) (es : List (K × X)) (q : K) (x : X) → find R e.0 es ≡ None → find R q es ≡ Some x
      → find R q (e ∷ es) ≡ Some x
  found_later e es q x none h = elim (cases_Bool (eq_by_cmp R q e.0)) [
    | inl same ↦ absurd (some_is_none (sym h ∙ ap (λ k. find R k es) (same_key exact q e.0 same) ∙ none))
    | inr other ↦ ap (λ b. cond b (Some e.1) (find R q es)) other ∙ h
  ]

  -- what holds of all that is found holds of each entry
  pub each : (P : K → X → Type 0) (es : List (K × X)) → AreApart R es
      → ((q : K) (x : X) → find R q es ≡ Some x → P q x) → AllByRecursion (λ e. P e.0 e.1) es
  each P [] apart h = tt
  each P (e ∷ es) apart h =
      (h e.0 e.1 (first_found e es), each P es apart.1 (λ q x k. h q x (found_later e es q x apart.0 k)))

  ordered_apart : (es : List (K × X)) → IsStrictlySortedBy R (keys_of es) → AreApart R es
  unfolding IsStrictlySortedBy
  ordered_apart [] h = tt
  ordered_apart (e ∷ es) h = (find_none_below R e.0 es h.0, ordered_apart es h.1)

  -- the entries of a map
  pub entries_ordered : (m : FinMap R X) → IsStrictlySortedBy R (keys_of (entries m))
  entries_ordered m = in_order total (entries m) (entries_sorted m)

  -- the entries of a map have different keys
  pub entries_apart : (m : FinMap R X) → AreApart R (entries m)
  entries_apart m = ordered_apart (entries m) (entries_ordered m)
