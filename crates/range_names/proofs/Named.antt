-- The key of a name is known by the name, and a name that is written for a span is the span's.
use Rattle.std.specs.Char.{to_ascii_uppercase}
use Rattle.std.proofs.Common.{◌≡◌, ◌≤◌, ◌+◌, ◌-◌, ℕ, zero, suc, Bool, true, false, cond, ◌&&◌, Option, Some, None, List}
use Rattle.std.proofs.Common.{[], ◌∷◌, ◌++◌, length, map, refl, sym, ap, ◌∙◌, subst, arith, inl, inr}
use Rattle.std.specs.Prelude.{◌==◌, nat_lt, not, get_or, position, replicate, T}
use Rattle.std.specs.List.{prefix_len}
use Rattle.std.specs.Ordering.{eq_by_cmp, is_eq, is_gt, is_lt, ordering_reverse}
use Rattle.std.specs.declared.cmp.Ordering.{Ordering}
use Rattle.std.specs.declared.cmp.Ordering.TheVariants.{Less, Equal, Greater}
use Rattle.std.specs.FinMap.{empty, entries, entries_sorted, find, get, get-empty, get-entries, get-insert, get-remove}
use Rattle.std.specs.FinMap.{insert, is_sorted, remove}
use Rattle.std.specs.FinMap.Entries.{below_all, find_tied}
use Rattle.std.specs.Cmp.{tied_itself}
use Rattle.std.specs.Cmp.Lexicographic.{nat_list_cmp_total}
use Rattle.std.proofs.lemmas.Bool.{and_from, and_parts, cases_Bool, true≢false}
use Rattle.std.proofs.lemmas.Bool.Decides.{nat_tests}
use Rattle.std.proofs.lemmas.List.{length-map}
use Rattle.std.proofs.lemmas.Option.{same_Some, none-some}
use Rattle.std.proofs.lemmas.Str.Ascii.{uppercase-uppercase}
use Rattle.list_lemmas.proofs.Mapped.{map_twice}
use Rattle.grid_address.proofs.Maps.{equal_of, both_parts}
use Rattle.grid_address.specs.Place.{Extent}
use Rattle.range_names.specs.declared.fault.NameFault.{NameFault}
use Rattle.range_names.specs.declared.fault.NameFault.TheVariants.{Empty, TooLong}
use Rattle.range_names.proofs.NameMaps.{names_exact}
use Rattle.range_names.specs.Names.{bad_byte, bad_place, fault_of, key_of, is_plain, name_cmp, name_in, name_of_span}
use Rattle.range_names.specs.Names.{named, same_extent, AreKeys, IsKey, NameMap}

-- no byte is 0
abbrev Filled : List ℕ → Type 0
Filled name = position (λ b. nat_lt b 32) name ≡ None

no_zero : (b : ℕ) → nat_lt b 32 ≡ false → (to_ascii_uppercase b == 0) ≡ false
no_zero b h = grind (arith, nat_tests)

not_some : {X : Type 0} (c : Bool) (x : X) → cond c (Some x) None ≡ None → c ≡ false
not_some true x h = cc
not_some false x h = refl

first_filled : (b : ℕ) (bs : List ℕ) → Filled (b ∷ bs) → (nat_lt b 32 ≡ false) × Filled bs
first_filled b bs h =
    let k : ℕ = prefix_len (λ b. not (nat_lt b 32)) bs in
    let past : nat_lt (cond (not (nat_lt b 32)) (1 + k) 0) (suc (length bs)) ≡ false = not_some _ _ h in
    elim (cases_Bool (nat_lt b 32)) [
      | inl small ↦
          absurd (starts k (length bs) (sym (ap (λ c. nat_lt (cond (not c) (1 + k) 0) (suc (length bs))) small) ∙ past))
      | inr large ↦ (
        large,
        ap (λ c. cond c (Some k) None)
            (stays k (length bs) (sym (ap (λ c. nat_lt (cond (not c) (1 + k) 0) (suc (length bs))) large) ∙ past)),
      )
    ]
  where
    starts : (k n : ℕ) → nat_lt 0 (suc n) ≡ false → ⊥
    starts k n h = absurd (grind (arith, nat_tests, h))

    stays : (k n : ℕ) → nat_lt (1 + k) (suc n) ≡ false → nat_lt k n ≡ false
    stays k n h = grind (arith, nat_tests, h)

zeros_end : (n : ℕ) → name_in (replicate n 0) ≡ []
zeros_end zero = refl
zeros_end (suc n) = refl

name_back : (name : List ℕ) (n : ℕ) → Filled name
    → name_in (map to_ascii_uppercase name ++ replicate n 0) ≡ map to_ascii_uppercase name
name_back [] n h = zeros_end n
name_back (b ∷ bs) n h =
    let f = first_filled b bs h in
    rw (no_zero b f.0) (ap (λ (l : List ℕ). to_ascii_uppercase b ∷ l) (name_back bs n f.1))

no_fault : (a b : Bool) (place : Option ℕ) → cond a (Some Empty) (cond b (Some TooLong) (bad_byte place)) ≡ None
    → (b ≡ false) × (place ≡ None)
no_fault true b place h = cc
no_fault false true place h = cc
no_fault false false None h = (refl, refl)
no_fault false false (Some at) h = cc

no_space : (c : Bool) (place : Option ℕ) → cond c (Some 0) place ≡ None → place ≡ None
no_space true place h = cc
no_space false place h = h

same_space : (name : List ℕ) → (get_or (map to_ascii_uppercase name) 0 0 == 32) ≡ (get_or name 0 0 == 32)
same_space [] = refl
same_space (b ∷ bs) = folded_space b
  where
    folded_space : (b : ℕ) → (to_ascii_uppercase b == 32) ≡ (b == 32)
    folded_space b = grind (arith, nat_tests)

filled_more : (b : ℕ) (bs : List ℕ) → nat_lt b 32 ≡ false → Filled bs → Filled (b ∷ bs)
filled_more b bs large h =
    (let k : ℕ = prefix_len (λ b. not (nat_lt b 32)) bs in
    ap (λ c. cond (nat_lt (cond (not c) (1 + k) 0) (suc (length bs))) (Some (cond (not c) (1 + k) 0)) None) large
    ∙ later k (length bs) h)
  where
    later : (k n : ℕ) → cond (nat_lt k n) (Some k) None ≡ None
        → cond (nat_lt (1 + k) (suc n)) (Some (1 + k)) None ≡ None
    later k n h =
        (let past = not_some (nat_lt k n) k h in
        let test : nat_lt (1 + k) (suc n) ≡ false = grind (arith, nat_tests, past) in
        ap (λ c. cond c (Some (1 + k)) None) test)

folded_large : (b : ℕ) → nat_lt b 32 ≡ false → nat_lt (to_ascii_uppercase b) 32 ≡ false
folded_large b h = grind (arith, nat_tests)

folded_filled : (name : List ℕ) → Filled name → Filled (map to_ascii_uppercase name)
folded_filled [] h = refl
folded_filled (b ∷ bs) h =
    (let f = first_filled b bs h in
    filled_more (to_ascii_uppercase b) (map to_ascii_uppercase bs) (folded_large b f.0) (folded_filled bs f.1))

abbrev fault_by : Bool → Bool → Bool → Option ℕ → Option NameFault
fault_by a b c place = cond a (Some Empty) (cond b (Some TooLong) (bad_byte (cond c (Some 0) place)))

same_fault : (a b c : Bool) (p q : Option ℕ) → fault_by a b c p ≡ None → (p ≡ None → q ≡ None) → fault_by a b c q ≡ None
same_fault true b c p q h f = h
same_fault false true c p q h f = h
same_fault false false true p q h f = h
same_fault false false false None q h f = ap bad_byte (f refl)
same_fault false false false (Some at) q h f = absurd cc

-- a folded name is a name
folded_name : (name : List ℕ) → fault_of name ≡ None → fault_of (map to_ascii_uppercase name) ≡ None
folded_name name h =
    let long : length (map to_ascii_uppercase name) ≡ length name = length-map name to_ascii_uppercase in
    let p : Option ℕ = position (λ c. nat_lt c 32) name in
    let q : Option ℕ = position (λ c. nat_lt c 32) (map to_ascii_uppercase name) in
    (λ i. fault_by (long i == 0) (nat_lt 15 (long i)) (same_space name i) q)
    ∙ same_fault (length name == 0) (nat_lt 15 (length name)) (get_or name 0 0 == 32) p q h (folded_filled name)

-- the key of a name without fault is a key
pub is_key : (name : List ℕ) → fault_of name ≡ None → IsKey (key_of name)
is_key name h =
    let good = no_fault (length name == 0) (nat_lt 15 (length name)) (bad_place name) h in
    let short : length name ≤ 15 = (let past = good.0 in grind (arith, nat_tests, past)) in
    let back : name_in (key_of name) ≡ map to_ascii_uppercase name =
    name_back name (15 - length name) (no_space (get_or name 0 0 == 32) (position (λ c. nat_lt c 32) name) good.1) in
    let long : length (map to_ascii_uppercase name) ≡ length name = length-map name to_ascii_uppercase in (
      omega (arith, ap length back, long, short),
      ap key_of back ∙ ap (λ k. map to_ascii_uppercase (map to_ascii_uppercase name) ++ replicate (15 - k) 0) long
          ∙ ap (λ (l : List ℕ). l ++ replicate (15 - length name) 0)
          (map_twice to_ascii_uppercase uppercase-uppercase name),
      ap fault_of back ∙ folded_name name h,
    )

less_apart : (o : Ordering) (b : Bool) → T (is_lt o && b) → (is_eq o ≡ false) × T b
less_apart Less b h = (refl, h)
less_apart Equal b h = absurd h
less_apart Greater b h = absurd h

first_none : (x : List ℕ) (es : List (List ℕ × Extent)) → T (below_all name_cmp x es) → find name_cmp x es ≡ None
first_none x [] h = refl
first_none x (e ∷ es) h =
    let l = less_apart (name_cmp x e.0) (below_all name_cmp x es) h in
    ap (λ c. cond c (Some e.1) (find name_cmp x es)) l.0 ∙ first_none x es l.1

-- a span is told by its corners
pub same_is : (s t : Extent) → same_extent s t ≡ true → s ≡ t
same_is s t h =
    let one : s.first.row ≡ t.first.row = grind (arith, nat_tests, h) in
    let two : s.first.col ≡ t.first.col = grind (arith, nat_tests, h) in
    let three : s.last.row ≡ t.last.row = grind (arith, nat_tests, h) in
    let four : s.last.col ≡ t.last.col = grind (arith, nat_tests, h) in
    λ i. record { first = record { row = one i; col = two i }; last = record { row = three i; col = four i } }

other_key : (e : List ℕ × Extent) (es : List (List ℕ × Extent)) (span : Extent) (key : List ℕ)
    → T (below_all name_cmp e.0 es) → find name_cmp key es ≡ Some span → find name_cmp key (e ∷ es) ≡ Some span
other_key e es span key below found = elim (cases_Bool (eq_by_cmp name_cmp key e.0)) [
  | inl same ↦
      absurd (none-some _ (sym (first_none e.0 es below)
      ∙ find_tied name_cmp nat_list_cmp_total key e.0 (equal_of (name_cmp key e.0) same) es
      ∙ found))
  | inr apart ↦ ap (λ c. cond c (Some e.1) (find name_cmp key es)) apart ∙ found
]

-- an entry of a span, whose name is this one and can be written
pub record IsEntry (es : List (List ℕ × Extent)) (span : Extent) (name : List ℕ) : Type 0 where
  pub key : List ℕ
  pub found : find name_cmp key es ≡ Some span
  pub named : name_in key ≡ name
  pub plain : is_plain name ≡ true

-- the name that is written for a span is that of an entry
pub entry_of : (es : List (List ℕ × Extent)) (span : Extent) (name : List ℕ) → T (is_sorted name_cmp es)
    → named span es ≡ Some name → IsEntry es span name
entry_of [] span name s h = absurd cc
entry_of (e ∷ es) span name s h = elim (cases_Bool (same_extent e.1 span && is_plain (name_in e.0))) [
  | inl same ↦
      (let is : name_in e.0 ≡ name =
      same_Some _ _ (sym (ap (λ c. cond c (Some (name_in e.0)) (named span es)) same) ∙ h) in record {
        key = e.0;
        found =
            ap (λ c. cond c (Some e.1) (find name_cmp e.0 es)) (ap is_eq (tied_itself nat_list_cmp_total e.0))
            ∙ ap (λ x. Some x) (same_is e.1 span (and_parts _ _ same).0);
        named = is;
        plain = ap is_plain (sym is) ∙ (and_parts _ _ same).1;
      })
  | inr other ↦ (
      let order = both_parts (below_all name_cmp e.0 es) (is_sorted name_cmp es) s in
      let more =
      entry_of es span name order.1 (sym (ap (λ c. cond c (Some (name_in e.0)) (named span es)) other) ∙ h) in record {
        key = more.key;
        found = other_key e es span more.key order.0 more.found;
        named = more.named;
        plain = more.plain;
      })
]

extent_all : (s : Extent) → same_extent s s ≡ true
extent_all s = grind (arith, nat_tests)

-- a span has its own corners
pub extent_itself : (s t : Extent) → s ≡ t → same_extent s t ≡ true
extent_itself s t e = ap (same_extent s) (sym e) ∙ extent_all s

below_found : (first : List ℕ) (es : List (List ℕ × Extent)) (key : List ℕ) (span : Extent)
    → T (below_all name_cmp first es) → find name_cmp key es ≡ Some span → is_lt (name_cmp first key) ≡ true
below_found first [] key span below found = absurd (none-some _ found)
below_found first (e ∷ es) key span below found =
    let order = both_parts (is_lt (name_cmp first e.0)) (below_all name_cmp first es) below in
    elim (cases_Bool (eq_by_cmp name_cmp key e.0)) [
      | inl same ↦
          ap (λ k. is_lt (name_cmp first k)) (names_exact key e.0 (equal_of (name_cmp key e.0) same))
          ∙ holds (is_lt (name_cmp first e.0)) order.0
      | inr apart ↦
          below_found first es key span order.1
          (sym (ap (λ c. cond c (Some e.1) (find name_cmp key es)) apart) ∙ found)
    ]
  where
    holds : (b : Bool) → T b → b ≡ true
    holds true h = refl
    holds false h = absurd h

-- a name of a span that can be written, and before which no such name comes, is the one that is written
pub named_least : (es : List (List ℕ × Extent)) (span : Extent) (key : List ℕ) → T (is_sorted name_cmp es)
    → find name_cmp key es ≡ Some span → is_plain (name_in key) ≡ true
    → ((other : List ℕ) → find name_cmp other es ≡ Some span → is_plain (name_in other) ≡ true
    → is_gt (name_cmp key other) ≡ false) → named span es ≡ Some (name_in key)
named_least [] span key s found plain least = absurd (none-some _ found)
named_least (e ∷ es) span key s found plain least =
    let order = both_parts (below_all name_cmp e.0 es) (is_sorted name_cmp es) s in
    elim (cases_Bool (eq_by_cmp name_cmp key e.0)) [
      | inl same ↦
          (let is : key ≡ e.0 = names_exact key e.0 (equal_of (name_cmp key e.0) same) in
          let value : e.1 ≡ span =
          same_Some _ _ (sym (ap (λ c. cond c (Some e.1) (find name_cmp key es)) same) ∙ found) in
          let test : (same_extent e.1 span && is_plain (name_in e.0)) ≡ true =
          and_from _ _ (extent_itself e.1 span value) (ap (λ k. is_plain (name_in k)) (sym is) ∙ plain) in
          ap (λ c. cond c (Some (name_in e.0)) (named span es)) test ∙ ap (λ k. Some (name_in k)) (sym is))
      | inr apart ↦
          (let later : find name_cmp key es ≡ Some span =
          sym (ap (λ c. cond c (Some e.1) (find name_cmp key es)) apart) ∙ found in
          let test : (same_extent e.1 span && is_plain (name_in e.0)) ≡ false =
          first_is_other e es span key order.0 later least in
          ap (λ c. cond c (Some (name_in e.0)) (named span es)) test
          ∙ named_least es span key order.1 later plain
          (λ other f p. least other (other_key e es span other order.0 f) p))
    ]
  where
    behind : (o p : Ordering) → p ≡ ordering_reverse o → is_lt o ≡ true → is_gt p ≡ true
    behind Less p e h = ap is_gt e
    behind Equal p e h = absurd (true≢false (sym h))
    behind Greater p e h = absurd (true≢false (sym h))

    first_is_other : (e : List ℕ × Extent) (es : List (List ℕ × Extent)) (span : Extent) (key : List ℕ)
        → T (below_all name_cmp e.0 es) → find name_cmp key es ≡ Some span
        → ((other : List ℕ) → find name_cmp other (e ∷ es) ≡ Some span → is_plain (name_in other) ≡ true
        → is_gt (name_cmp key other) ≡ false) → (same_extent e.1 span && is_plain (name_in e.0)) ≡ false
    first_is_other e es span key below later least =
        elim (cases_Bool (same_extent e.1 span && is_plain (name_in e.0))) [
          | inl t ↦
              (let parts = and_parts _ _ t in
              let here : find name_cmp e.0 (e ∷ es) ≡ Some span =
              ap (λ c. cond c (Some e.1) (find name_cmp e.0 es)) (ap is_eq (tied_itself nat_list_cmp_total e.0))
              ∙ ap (λ x. Some x) (same_is e.1 span parts.0) in
              let past : is_gt (name_cmp key e.0) ≡ true =
              behind (name_cmp e.0 key) (name_cmp key e.0) (nat_list_cmp_total.antisymm key e.0)
              (below_found e.0 es key span below later) in
              absurd (true≢false (sym past ∙ least e.0 here parts.1)))
          | inr f ↦ f
        ]

-- a name that is written for a span finds it
pub record Finds (names : NameMap) (span : Extent) (name : List ℕ) : Type 0 where
  pub plain : is_plain name ≡ true
  pub short : length name ≤ 15
  pub found : get names (key_of name) ≡ Some span

-- a name that is written for a span finds it
pub finds : (names : NameMap) (span : Extent) (name : List ℕ) → AreKeys names → name_of_span names span ≡ Some name
    → Finds names span name
finds names span name keyed h =
    let entry = entry_of (entries names) span name (entries_sorted names) h in
    let at : get names entry.key ≡ Some span = get-entries names entry.key ∙ entry.found in
    let key = keyed entry.key span at in record {
      plain = entry.plain;
      short = omega (arith, ap length entry.named, key.0);
      found = ap (get names) (ap key_of (sym entry.named) ∙ key.1) ∙ at;
    }

-- what stays keyed
pub none_keyed : AreKeys empty
none_keyed key span h = absurd (none-some _ (sym (get-empty name_cmp key) ∙ h))

put_key : (c : Bool) (key other : List ℕ) (span : Extent) (old : Option Extent) (found : Extent)
    → (c ≡ true → key ≡ other) → IsKey other → (old ≡ Some found → IsKey key) → cond c (Some span) old ≡ Some found
    → IsKey key
put_key true key other span old found same is before h = subst IsKey (sym (same refl)) is
put_key false key other span old found same is before h = before h

-- a key that is put in leaves all keyed
pub put_keyed : (names : NameMap) (key : List ℕ) (span : Extent) → AreKeys names → IsKey key
    → AreKeys (insert names key span)
put_keyed names key span keyed is q found h =
    put_key (eq_by_cmp name_cmp q key) q key span (get names q) found
    (λ e. names_exact q key (equal_of (name_cmp q key) e)) is (keyed q found)
    (sym (get-insert nat_list_cmp_total names key span q) ∙ h)

took_key : (c : Bool) (old : Option Extent) (found : Extent) → cond c None old ≡ Some found → old ≡ Some found
took_key true old found h = absurd (none-some _ h)
took_key false old found h = h

-- a key that is taken away leaves all keyed
pub removed_keyed : (names : NameMap) (key : List ℕ) → AreKeys names → AreKeys (remove names key)
removed_keyed names key keyed q found h =
    keyed q found (took_key (eq_by_cmp name_cmp q key) (get names q) found
    (sym (get-remove nat_list_cmp_total names key q) ∙ h))
