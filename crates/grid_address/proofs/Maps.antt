-- How a map of entries is read, and what an insertion and a removal leave.
use Rattle.std.specs.Prelude.{◌≡◌, ◌&&◌, Bool, T, true, false, cond, List, [], ◌∷◌, None, Some, refl, length}
use Rattle.std.specs.declared.cmp.Ordering.{Ordering}
use Rattle.std.specs.Cmp.{IsTotalOrder, eq_by_cmp_equiv}
use Rattle.std.specs.FinMap.{FinMap, find, get, insert, remove, from_entries, get-entries, get-from_entries, get-insert}
use Rattle.std.specs.FinMap.{get-remove, same_map, entries, entries-insert, empty, len-empty, len-entries}
use Rattle.std.specs.FinMap.Entries.{below_all, by_order, is_sorted, put}
use Rattle.std.specs.List.{AllByRecursion}
use Rattle.std.specs.List.Sorted.{IsStrictlySortedBy}
use Rattle.std.specs.Map.{keys_of, lookup}
use Rattle.std.specs.Ordering.{eq_by_cmp, is_eq, is_lt}
use Rattle.std.specs.declared.cmp.Ordering.TheVariants.{Less, Equal, Greater}
use Rattle.std.specs.BTreeMap.{is_at}
use Rattle.std.proofs.Common.{sym, ◌∙◌, ap, arith, inl, inr}
use Rattle.std.proofs.lemmas.Bool.{cases_Bool, true≢false}
use Rattle.std.proofs.lemmas.Map.Lookups.{CmpEqualImpliesEq}

-- an order that says equal is Equal
pub equal_of : (o : Ordering) → is_eq o ≡ true → o ≡ Equal
equal_of Less h = absurd (true≢false (sym h))
equal_of Equal h = refl
equal_of Greater h = absurd (true≢false (sym h))

less_of : (o : Ordering) → T (is_lt o) → o ≡ Less
less_of Less h = refl
less_of Equal h = absurd h
less_of Greater h = absurd h

-- two tests that hold
pub both_parts : (a b : Bool) → T (a && b) → T a × T b
both_parts true b h = (tt, h)
both_parts false b h = absurd h

none_by_length : {A : Type 0} (es : List A) → length es ≡ 0 → es ≡ []
none_by_length [] h = refl
none_by_length (e ∷ es) h = absurd (omega arith)

-- a key below all others isn't found among them
pub find_none_below : {K X : Type 0} (R : K → K → Ordering) (x : K) (es : List (K × X))
    → AllByRecursion (λ y. R x y ≡ Less) (keys_of es) → find R x es ≡ None
find_none_below R x [] h = refl
find_none_below R x (e ∷ es) h =
    ap (λ r. cond (is_eq r) (Some e.1) (find R x es)) h.0 ∙ find_none_below R x es h.1

module _ {K X : Type 0} {R : K → K → Ordering} (o : IsTotalOrder R) where
  find_lookup : (es : List (K × X)) (q : K) → find R q es ≡ lookup (is_at (R q)) es
  find_lookup [] q = refl
  find_lookup (e ∷ es) q = ap (cond (is_at (R q) e.0) (Some e.1)) (find_lookup es q)

  -- what the map of the entries has at a key
  pub get_entries : (es : List (K × X)) (q : K) → get (from_entries {R = R} es) q ≡ lookup (is_at (R q)) es
  get_entries es q = get-from_entries o es q ∙ find_lookup es q

  sorted_keys : (k : K) (es : List (K × X)) → T (below_all R k es) → AllByRecursion (λ y. R k y ≡ Less) (keys_of es)
  sorted_keys k [] h = tt
  sorted_keys k (e ∷ es) h = let p = both_parts (is_lt (R k e.0)) (below_all R k es) h in
      (less_of (R k e.0) p.0, sorted_keys k es p.1)

  -- the entries of a map are in order
  pub in_order : (es : List (K × X)) → T (is_sorted R es) → IsStrictlySortedBy R (keys_of es)
  unfolding IsStrictlySortedBy
  in_order [] h = tt
  in_order (e ∷ es) h = let p = both_parts (below_all R e.0 es) (is_sorted R es) h in
      (sorted_keys e.0 es p.0, in_order es p.1)

  -- what a map has at a key stands at it among its entries
  pub get_lookup : (m : FinMap R X) (q : K) → get m q ≡ lookup (is_at (R q)) (entries m)
  get_lookup m q = get-entries m q ∙ find_lookup (entries m) q

  put_first : (e : K × X) (es : List (K × X)) → AllByRecursion (λ y. R e.0 y ≡ Less) (keys_of es)
      → put R e.0 e.1 es ≡ e ∷ es
  put_first e [] h = refl
  put_first e (f ∷ es) h = ap (λ r. by_order r (e ∷ f ∷ es) ((f.0, e.1) ∷ es) (f ∷ put R e.0 e.1 es)) h.0

  no_entries : entries (empty {X = X} {R = R}) ≡ []
  no_entries = none_by_length _ (sym (len-entries (empty {X = X} {R = R})) ∙ len-empty R X)

  -- a list in order is the entries of its own map
  pub entries_kept : (es : List (K × X)) → IsStrictlySortedBy R (keys_of es) → entries (from_entries {R = R} es) ≡ es
  unfolding IsStrictlySortedBy
  entries_kept [] s = no_entries
  entries_kept (e ∷ es) s =
      entries-insert o (from_entries es) e.0 e.1 ∙ ap (put R e.0 e.1) (entries_kept es s.1) ∙ put_first e es s.0

  module _ (exact : CmpEqualImpliesEq R) where
    -- entries that hold one key more are the map with that key put in
    pub inserted : (es fs : List (K × X)) (k : K) (v : X)
        → ((q : K) → lookup (is_at (R q)) fs ≡ cond (is_at (R k) q) (Some v) (lookup (is_at (R q)) es))
        → from_entries {R = R} fs ≡ insert (from_entries es) k v
    inserted es fs k v h = same_map o exact _ _ (λ q.
        get_entries fs q ∙ h q ∙ ap (λ b. cond b (Some v) (lookup (is_at (R q)) es)) ((eq_by_cmp_equiv o).symm k q)
        ∙ sym (get-insert o (from_entries es) k v q ∙ ap (cond (is_at (R q) k) (Some v)) (get_entries es q)))

    -- entries that lack a key are the map without it
    pub removed : (es fs : List (K × X)) (k : K)
        → ((q : K) → lookup (is_at (R q)) fs ≡ cond (is_at (R k) q) None (lookup (is_at (R q)) es))
        → from_entries {R = R} fs ≡ remove (from_entries es) k
    removed es fs k h = same_map o exact _ _ (λ q.
        get_entries fs q ∙ h q ∙ ap (λ b. cond b None (lookup (is_at (R q)) es)) ((eq_by_cmp_equiv o).symm k q)
        ∙ sym (get-remove o (from_entries es) k q ∙ ap (cond (is_at (R q) k) None) (get_entries es q)))

    -- the value that is there, put there
    pub inserted_same : (m : FinMap R X) (k : K) (v : X) → get m k ≡ Some v → insert m k v ≡ m
    inserted_same m k v h = same_map o exact _ _ (λ q. get-insert o m k v q ∙ elim (cases_Bool (eq_by_cmp R q k)) [
      | inl t ↦ ap (λ b. cond b (Some v) (get m q)) t ∙ sym (ap (get m) (exact q k (equal_of _ t)) ∙ h)
      | inr f ↦ ap (λ b. cond b (Some v) (get m q)) f
    ])
