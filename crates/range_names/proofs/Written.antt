-- The spots are those of the names that can be written, and the first of a span's spots is that of its first name.
use Rattle.std.specs.Char.{to_ascii_uppercase}
use Rattle.std.specs.BTreeMap.{get as found, BTreeMap}
use Rattle.std.specs.BTreeMap.Range.{IsRangeOf}
use Rattle.std.specs.Cmp.{both_ways, tied_itself}
use Rattle.std.specs.Cmp.Lexicographic.{nat_list_cmp_total}
use Rattle.std.specs.FinMap.{empty, entries, entries_sorted, get, get-empty, get-entries, get-insert, get-remove}
use Rattle.std.specs.FinMap.{insert, remove}
use Rattle.std.specs.Ordering.{eq_by_cmp, is_eq, is_gt, nat_cmp, ordering_reverse, ordering_then}
use Rattle.std.specs.Prelude.{◌&&◌, ◌==◌, nat_lt, not, replicate, set, get_or, is_some, IsSome}
use Rattle.std.specs.declared.cmp.Ordering.{Ordering}
use Rattle.std.specs.declared.cmp.Ordering.TheVariants.{Less, Equal, Greater}
use Rattle.std.specs.declared.ops.Bound.TheVariants.{Included, Unbounded}
use Rattle.std.proofs.Common.{◌≡◌, ◌<◌, ◌+◌, ◌-◌, ℕ, zero, suc, Bool, true, false, cond, Option, Some, None, List}
use Rattle.std.proofs.Common.{[], ◌∷◌, ◌++◌, take, drop, length, map, refl, sym, ap, ◌∙◌, subst}
use Rattle.std.proofs.Common.{arith, inl, inr, append_assoc}
use Rattle.std.proofs.lemmas.Bool.{and_from, and_parts, cases_Bool, true≢false}
use Rattle.std.proofs.lemmas.Bool.Decides.{nat_tests}
use Rattle.std.proofs.lemmas.Cmp.{nat_cmp_total}
use Rattle.std.proofs.lemmas.List.{length-append, length-map, length-replicate, length-take-le, take_all, take_more}
use Rattle.std.proofs.lemmas.Map.Lookups.{exact_unsigned}
use Rattle.std.proofs.lemmas.Option.{same_Some, none-some}
use Rattle.std.proofs.Math.Seq.{set-append_seam}
use Rattle.grid_address.proofs.Maps.{equal_of}
use Rattle.grid_address.specs.Place.{Extent}
use Rattle.range_names.specs.Names.{is_plain, key_of, name_cmp, name_in, name_of_span, same_extent, AreKeys, NameMap}
use Rattle.range_names.specs.inner.Spots.{corners_of, is_left, is_written, key_at, kept_at, spot_of}
use Rattle.range_names.specs.inner.Spots.{AreSpots, HasNoneAt, IsFirstAt}
use Rattle.range_names.proofs.NameMaps.{names_exact}
use Rattle.range_names.proofs.Named.{entry_of, extent_itself, named_least, same_is}

-- a span's corners, the first of a key's bytes, and zeros
abbrev pub spot_upto : Extent → List ℕ → ℕ → List ℕ
spot_upto span key at = (corners_of span ++ take at key) ++ replicate (15 - at) 0

-- one more byte of a key in its spot
pub spot_more : (span : Extent) (key spot : List ℕ) (at b : ℕ) → at < 15 → length key ≡ 15
    → spot ≡ spot_upto span key at → b ≡ get_or key at 0 → set spot (4 + at) b ≡ spot_upto span key (at + 1)
spot_more span key spot at b inside long is byte =
    let front : List ℕ = corners_of span ++ take at key in
    let size : length front ≡ 4 + at =
    length-append (corners_of span) (take at key)
    ∙ ap (λ k. 4 + k) (length-take-le at key (omega (arith, inside, long))) in
    let zeros : replicate (15 - at) 0 ≡ 0 ∷ replicate (14 - at) 0 =
    ap (λ k. replicate k 0) (let e : 15 - at ≡ suc (14 - at) = omega (arith, inside) in e) in
    let whole : spot ≡ front ++ 0 ∷ replicate (14 - at) 0 = is ∙ ap (λ (l : List ℕ). front ++ l) zeros in
    let left : 14 - at ≡ 15 - (at + 1) = omega arith in
    ap (λ (l : List ℕ). set l (4 + at) b) whole
    ∙ ap (λ k. set (front ++ 0 ∷ replicate (14 - at) 0) k b) (sym size)
    ∙ set-append_seam front 0 (replicate (14 - at) 0) b
    ∙ ap (λ c. front ++ c ∷ replicate (14 - at) 0) byte
    ∙ sym (append_assoc front (get_or key at 0 ∷ []) (replicate (14 - at) 0))
    ∙ ap (λ (l : List ℕ). (corners_of span ++ l) ++ replicate (14 - at) 0)
    (sym (take_more key at 0 (omega (arith, inside, long))))
    ∙ ap (λ k. (corners_of span ++ take (at + 1) key) ++ replicate k 0) left

-- one list isn't behind another
abbrev IsUpTo : List ℕ → List ℕ → Type 0
IsUpTo xs ys = is_gt (name_cmp xs ys) ≡ false

heads_tied : (o p a b : Ordering) → p ≡ ordering_reverse o → is_gt (ordering_then o a) ≡ false
    → is_gt (ordering_then p b) ≡ false → (o ≡ Equal) × (is_gt a ≡ false) × (is_gt b ≡ false)
heads_tied Less p a b e f g = absurd (true≢false (ap (λ r. is_gt (ordering_then r b)) (sym e) ∙ g))
heads_tied Equal p a b e f g = (refl, f, ap (λ r. is_gt (ordering_then r b)) (sym e) ∙ g)
heads_tied Greater p a b e f g = absurd (true≢false f)

-- what lies between two lists of the same first numbers has these too
between : (n : ℕ) (xs ys zs : List ℕ) → IsUpTo xs ys → IsUpTo ys zs → take n zs ≡ take n xs → take n ys ≡ take n xs
between zero xs ys zs f g e = refl
between (suc n) [] [] zs f g e = refl
between (suc n) [] (y ∷ ys) [] f g e = absurd (true≢false g)
between (suc n) [] (y ∷ ys) (z ∷ zs) f g e = absurd cc
between (suc n) (x ∷ xs) [] zs f g e = absurd (true≢false f)
between (suc n) (x ∷ xs) (y ∷ ys) [] f g e = absurd cc
between (suc n) (x ∷ xs) (y ∷ ys) (z ∷ zs) f g e =
    let head : z ≡ x = ap (λ l. get_or l 0 0) e in
    let tail : take n zs ≡ take n xs = ap (drop 1) e in
    let t = heads_tied (nat_cmp x y) (nat_cmp y x) (name_cmp xs ys) (name_cmp ys zs) (nat_cmp_total.antisymm y x) f
    (ap (λ k. is_gt (ordering_then (nat_cmp y k) (name_cmp ys zs))) (sym head) ∙ g) in
    let same : y ≡ x = sym (exact_unsigned x y t.0) in
    λ i. same i ∷ between n xs ys zs t.1 t.2 tail i

same_front : (front xs ys : List ℕ) → name_cmp (front ++ xs) (front ++ ys) ≡ name_cmp xs ys
same_front [] xs ys = refl
same_front (x ∷ front) xs ys =
    ap (λ o. ordering_then o (name_cmp (front ++ xs) (front ++ ys))) (tied_itself nat_cmp_total x)
    ∙ same_front front xs ys

zeros_first : (key : List ℕ) → IsUpTo (replicate (length key) 0) key
zeros_first [] = refl
zeros_first (zero ∷ key) = zeros_first key
zeros_first (suc b ∷ key) =
    ap (λ t. is_gt (ordering_then (cond t Less (cond (0 == suc b) Equal Greater))
    (name_cmp (replicate (length key) 0) key)))
    less
  where
    less : nat_lt 0 (suc b) ≡ true
    less = grind (arith, nat_tests)

-- a span's spots lie behind the one without a name
from_first : (span : Extent) (key : List ℕ) → length key ≡ 15
    → IsUpTo (spot_of span (replicate 15 0)) (spot_of span key)
from_first span key long =
    ap is_gt (same_front (corners_of span) (replicate 15 0) key)
    ∙ ap (λ k. is_gt (name_cmp (replicate k 0) key)) (sym long) ∙ zeros_first key

joined : (n : ℕ) (xs : List ℕ) → take n xs ++ drop n xs ≡ xs
joined zero xs = refl
joined (suc n) [] = refl
joined (suc n) (x ∷ xs) = ap (λ (l : List ℕ). x ∷ l) (joined n xs)

same_list : (xs ys : List ℕ) → eq_by_cmp name_cmp xs ys ≡ true → xs ≡ ys
same_list xs ys h = names_exact xs ys (equal_of (name_cmp xs ys) h)

list_itself : (xs ys : List ℕ) → xs ≡ ys → eq_by_cmp name_cmp xs ys ≡ true
list_itself xs ys e =
    ap (eq_by_cmp name_cmp xs) (sym e) ∙ ap is_eq (tied_itself nat_list_cmp_total xs)

-- a name's spot is told by the corners, where the key is the name's
at_key : (span : Extent) (key spot : List ℕ) → drop 4 spot ≡ key
    → eq_by_cmp name_cmp (spot_of span key) spot ≡ eq_by_cmp name_cmp (corners_of span) (take 4 spot)
at_key span key spot e = both_ways _ _
    (λ h. list_itself (corners_of span) (take 4 spot) (ap (take 4) (same_list (spot_of span key) spot h)))
    (λ h. list_itself (spot_of span key) spot
    (ap (λ (l : List ℕ). l ++ key) (same_list (corners_of span) (take 4 spot) h)
    ∙ ap (λ (l : List ℕ). take 4 spot ++ l) (sym e) ∙ joined 4 spot))

-- and it is no spot of another key
at_other : (span : Extent) (key spot : List ℕ) → eq_by_cmp name_cmp (drop 4 spot) key ≡ false
    → eq_by_cmp name_cmp (spot_of span key) spot ≡ false
at_other span key spot apart = elim (cases_Bool (eq_by_cmp name_cmp (spot_of span key) spot)) [
  | inl t ↦ absurd (true≢false
      (sym (list_itself (drop 4 spot) key (sym (ap (drop 4) (same_list (spot_of span key) spot t)))) ∙ apart))
  | inr f ↦ f
]

corners_itself : (s t : Extent) → corners_of s ≡ corners_of t → s ≡ t
corners_itself s t e =
    let one : s.first.row ≡ t.first.row = ap (λ l. get_or l 0 0) e in
    let two : s.first.col ≡ t.first.col = ap (λ l. get_or l 1 0) e in
    let three : s.last.row ≡ t.last.row = ap (λ l. get_or l 2 0) e in
    let four : s.last.col ≡ t.last.col = ap (λ l. get_or l 3 0) e in
    λ i. record { first = record { row = one i; col = two i }; last = record { row = three i; col = four i } }

-- what the names have at a spot, by the span of its key
abbrev key_by : List ℕ → List ℕ → Option Extent → Option (List ℕ)
key_by spot key span = cond (is_written (take 4 spot) key span) (Some key) None

key_there : (names : NameMap) (spot key : List ℕ) (span : Option Extent) → drop 4 spot ≡ key → get names key ≡ span
    → key_at names spot ≡ key_by spot key span
key_there names spot key span d e = ap (λ k. key_by spot k (get names k)) d ∙ ap (key_by spot key) e

-- what an empty table keeps
pub none_kept : AreSpots [] empty
none_kept spot = sym (key_there empty spot (drop 4 spot) None refl (get-empty name_cmp (drop 4 spot)))

kept_same : (c plain : Bool) (key : List ℕ)
    → cond (plain && c) (Some key) (cond (c && plain) (Some key) None) ≡ cond (c && plain) (Some key) None
kept_same true true key = refl
kept_same true false key = refl
kept_same false true key = refl
kept_same false false key = refl

kept_other : (o c plain : Bool) (key : List ℕ) → (o ≡ true → c ≡ false)
    → cond o None (cond (plain && c) (Some key) (cond (o && plain) (Some key) None)) ≡ cond (c && plain) (Some key) None
kept_other true true plain key h = absurd (true≢false (h refl))
kept_other true false plain key h = refl
kept_other false true true key h = refl
kept_other false true false key h = refl
kept_other false false true key h = refl
kept_other false false false key h = refl

kept_new : (c plain : Bool) (key : List ℕ)
    → cond (plain && c) (Some key) None ≡ cond (c && plain) (Some key) None
kept_new true true key = refl
kept_new true false key = refl
kept_new false true key = refl
kept_new false false key = refl

kept_moved : (same o c plain : Bool) (key : List ℕ) → (same ≡ true → o ≡ c) → (same ≡ false → o ≡ true → c ≡ false)
    → cond (not same && o) None (cond (plain && c) (Some key) (cond (o && plain) (Some key) None))
    ≡ cond (c && plain) (Some key) None
kept_moved true o c plain key h g =
    ap (λ b. cond (plain && c) (Some key) (cond (b && plain) (Some key) None)) (h refl) ∙ kept_same c plain key
kept_moved false o c plain key h g = kept_other o c plain key (g refl)

nothing_left : (o plain : Bool) (key : List ℕ) → cond o None (cond (o && plain) (Some key) None) ≡ None
nothing_left true plain key = refl
nothing_left false plain key = refl

put_back : (c plain : Bool) (key : List ℕ) → cond c None (cond (plain && c) (Some key) None) ≡ None
put_back true plain key = refl
put_back false true key = refl
put_back false false key = refl

no_left : (before : Option Extent) (span : Extent) (key spot : List ℕ)
    → eq_by_cmp name_cmp (drop 4 spot) key ≡ false → is_left before span key spot ≡ false
no_left None span key spot apart = refl
no_left (Some old) span key spot apart =
    ap (λ b. not (same_extent old span) && b) (at_other old key spot apart) ∙ never (same_extent old span)
  where
    never : (b : Bool) → (not b && false) ≡ false
    never true = refl
    never false = refl

-- a name gets a span, and its spot is put in before the one that it had is taken away
module _ (names : NameMap) (key : List ℕ) (span : Extent) (was put : List ℕ → Option (List ℕ))
    (kept : (q : List ℕ) → was q ≡ key_at names q)
    (puts : (q : List ℕ) → put q
    ≡ cond (is_plain (name_in key) && eq_by_cmp name_cmp (spot_of span key) q) (Some key) (was q)) where
  put_there : (spot : List ℕ) (before : Option Extent) → drop 4 spot ≡ key → get names key ≡ before
      → put spot ≡ cond (is_plain (name_in key) && eq_by_cmp name_cmp (corners_of span) (take 4 spot)) (Some key)
      (key_by spot key before)
  put_there spot before d e =
      puts spot
      ∙ ap (λ b. cond (is_plain (name_in key) && b) (Some key) (was spot)) (at_key span key spot d)
      ∙ ap (cond (is_plain (name_in key) && eq_by_cmp name_cmp (corners_of span) (take 4 spot)) (Some key))
      (kept spot ∙ key_there names spot key before d e)

  put_elsewhere : (spot : List ℕ) → eq_by_cmp name_cmp (drop 4 spot) key ≡ false → put spot ≡ key_at names spot
  put_elsewhere spot apart =
      puts spot
      ∙ ap (λ b. cond (is_plain (name_in key) && b) (Some key) (was spot)) (at_other span key spot apart)
      ∙ never (is_plain (name_in key)) ∙ kept spot
    where
      never : (b : Bool) → cond (b && false) (Some key) (was spot) ≡ was spot
      never true = refl
      never false = refl

  -- the name stands at its new span alone
  pub moved_spots : (left : List ℕ → Option (List ℕ)) (before : Option Extent) → get names key ≡ before
      → ((q : List ℕ) → left q ≡ cond (is_left before span key q) None (put q)) → (q : List ℕ)
      → left q ≡ key_at (insert names key span) q
  moved_spots left before e leaves q = elim (cases_Bool (eq_by_cmp name_cmp (drop 4 q) key)) [
    | inl same ↦
        (let d : drop 4 q ≡ key = same_list (drop 4 q) key same in
        let now : get (insert names key span) key ≡ Some span =
        get-insert nat_list_cmp_total names key span key
        ∙ ap (λ b. cond b (Some span) (get names key)) (list_itself key key refl) in
        leaves q ∙ ap (cond (is_left before span key q) None) (put_there q before d e)
        ∙ moved q before d
        ∙ sym (key_there (insert names key span) q key (Some span) d now))
    | inr apart ↦
        leaves q ∙ ap (λ b. cond b None (put q)) (no_left before span key q apart) ∙ put_elsewhere q apart
        ∙ ap (λ s. key_by q (drop 4 q) s) (sym (get-insert nat_list_cmp_total names key span (drop 4 q)
        ∙ ap (λ b. cond b (Some span) (get names (drop 4 q))) apart))
  ]
    where
      moved : (q : List ℕ) (before : Option Extent) → drop 4 q ≡ key
          → cond (is_left before span key q) None
          (cond (is_plain (name_in key) && eq_by_cmp name_cmp (corners_of span) (take 4 q)) (Some key)
          (key_by q key before)) ≡ key_by q key (Some span)
      moved q None d = kept_new (eq_by_cmp name_cmp (corners_of span) (take 4 q)) (is_plain (name_in key)) key
      moved q (Some old) d =
          let o : Bool = eq_by_cmp name_cmp (corners_of old) (take 4 q) in
          let c : Bool = eq_by_cmp name_cmp (corners_of span) (take 4 q) in
          let p : Bool = is_plain (name_in key) in
          ap (λ b. cond (not (same_extent old span) && b) None
          (cond (p && c) (Some key) (cond (o && p) (Some key) None)))
          (at_key old key q d)
          ∙ kept_moved (same_extent old span) o c p key
          (λ s. ap (λ t. eq_by_cmp name_cmp (corners_of t) (take 4 q)) (same_is old span s))
          (λ s t. elim (cases_Bool c) [
            | inl u ↦
                absurd (true≢false (sym (extent_itself old span (corners_itself old span
                (same_list (corners_of old) (take 4 q) t ∙ sym (same_list (corners_of span) (take 4 q) u)))) ∙ s))
            | inr f ↦ f
          ])

  -- and where it can't be put in, its spot is taken away again
  pub put_back_spots : (left : List ℕ → Option (List ℕ)) → get names key ≡ None
      → ((q : List ℕ) → left q ≡ cond (eq_by_cmp name_cmp (spot_of span key) q) None (put q)) → (q : List ℕ)
      → left q ≡ key_at names q
  put_back_spots left e leaves q = elim (cases_Bool (eq_by_cmp name_cmp (drop 4 q) key)) [
    | inl same ↦
        (let d : drop 4 q ≡ key = same_list (drop 4 q) key same in
        leaves q
        ∙ ap (λ b. cond b None (put q)) (at_key span key q d)
        ∙ ap (cond (eq_by_cmp name_cmp (corners_of span) (take 4 q)) None) (put_there q None d e)
        ∙ put_back (eq_by_cmp name_cmp (corners_of span) (take 4 q)) (is_plain (name_in key)) key
        ∙ sym (key_there names q key None d e))
    | inr apart ↦ leaves q ∙ ap (λ b. cond b None (put q)) (at_other span key q apart) ∙ put_elsewhere q apart
  ]

-- a name is taken away with its spot
pub removed_spots : (names : NameMap) (key : List ℕ) (old : Extent) (was left : List ℕ → Option (List ℕ))
    → ((q : List ℕ) → was q ≡ key_at names q) → get names key ≡ Some old
    → ((q : List ℕ) → left q ≡ cond (eq_by_cmp name_cmp (spot_of old key) q) None (was q)) → (q : List ℕ)
    → left q ≡ key_at (remove names key) q
removed_spots names key old was left kept e leaves q = elim (cases_Bool (eq_by_cmp name_cmp (drop 4 q) key)) [
  | inl same ↦
      (let d : drop 4 q ≡ key = same_list (drop 4 q) key same in
      let now : get (remove names key) key ≡ None =
      get-remove nat_list_cmp_total names key key
      ∙ ap (λ b. cond b None (get names key)) (list_itself key key refl) in
      leaves q
      ∙ ap (λ b. cond b None (was q)) (at_key old key q d)
      ∙ ap (cond (eq_by_cmp name_cmp (corners_of old) (take 4 q)) None) (kept q ∙ key_there names q key (Some old) d e)
      ∙ nothing_left (eq_by_cmp name_cmp (corners_of old) (take 4 q)) (is_plain (name_in key)) key
      ∙ sym (key_there (remove names key) q key None d now))
  | inr apart ↦
      leaves q ∙ ap (λ b. cond b None (was q)) (at_other old key q apart) ∙ kept q
      ∙ ap (λ s. key_by q (drop 4 q) s) (sym (get-remove nat_list_cmp_total names key (drop 4 q)
      ∙ ap (λ b. cond b None (get names (drop 4 q))) apart))
]

-- the first entry of a range is that of the first spot
pub range_first : (m : BTreeMap (List ℕ) (List ℕ)) (from spot key : List ℕ) (r t : List (List ℕ × List ℕ))
    → IsRangeOf name_cmp (Included from) Unbounded m r → r ≡ (spot, key) ∷ t → take 4 spot ≡ take 4 from
    → IsFirstAt m.entries from key
range_first m from spot key r t range is beside =
    let whole = subst (IsRangeOf name_cmp (Included from) Unbounded m) is range in
    (spot, whole.1.1, beside, λ q some behind. whole.2 q (behind, tt) some)

-- no spot of the span comes where the range's first isn't of it
pub range_apart : (m : BTreeMap (List ℕ) (List ℕ)) (from spot key : List ℕ) (r t : List (List ℕ × List ℕ))
    → IsRangeOf name_cmp (Included from) Unbounded m r → r ≡ (spot, key) ∷ t → (take 4 spot ≡ take 4 from → ⊥)
    → HasNoneAt m.entries from
range_apart m from spot key r t range is apart q some behind beside =
    let whole = subst (IsRangeOf name_cmp (Included from) Unbounded m) is range in
    apart (between 4 from spot q whole.1.0.0 (whole.2 q (behind, tt) some) beside)

-- and none where the range is empty
pub range_empty : (m : BTreeMap (List ℕ) (List ℕ)) (from : List ℕ) (r : List (List ℕ × List ℕ))
    → IsRangeOf name_cmp (Included from) Unbounded m r → r ≡ [] → HasNoneAt m.entries from
range_empty m from r range is q some behind beside =
    no_some (found name_cmp m q) (range.5 is q (behind, tt)) some
  where
    no_some : (r : Option (List ℕ)) → r ≡ None → IsSome r → ⊥
    no_some r none some = true≢false (sym some ∙ ap is_some none)

key_long : (names : NameMap) (key : List ℕ) (span : Extent) → AreKeys names → get names key ≡ Some span
    → length key ≡ 15
key_long names key span keyed found =
    let is = keyed key span found in
    let name : List ℕ = name_in key in
    let filling : List ℕ = replicate (15 - length name) 0 in
    let whole : length (key_of name) ≡ length (map to_ascii_uppercase name) + length filling =
    length-append (map to_ascii_uppercase name) filling in
    let folded : length (map to_ascii_uppercase name) ≡ length name = length-map name to_ascii_uppercase in
    let zeros : length filling ≡ 15 - length name = length-replicate (15 - length name) 0 in
    ap length (sym is.1) ∙ whole ∙ omega (arith, folded, zeros, is.0)

-- a name's spot is kept where it can be written
kept_there : (names : NameMap) (spots : List (List ℕ × List ℕ)) (span : Extent) (key : List ℕ)
    → AreSpots spots names → get names key ≡ Some span → is_plain (name_in key) ≡ true
    → IsSome (kept_at spots (spot_of span key))
kept_there names spots span key kept found plain =
    ap is_some (kept (spot_of span key) ∙ key_there names (spot_of span key) key (Some span) refl found
    ∙ ap (λ b. cond b (Some key) None)
    (and_from _ _ (list_itself (corners_of span) (corners_of span) refl) plain))

-- what stands at a spot is the key of a name that has its span and can be written
record Stands (spot key : List ℕ) (span : Option Extent) : Type 0 where
  of : Extent
  got : span ≡ Some of
  corners : corners_of of ≡ take 4 spot
  plain : is_plain (name_in key) ≡ true
  behind : drop 4 spot ≡ key

some_if : (c : Bool) (x y : List ℕ) → cond c (Some x) None ≡ Some y → (c ≡ true) × (x ≡ y)
some_if true x y h = (refl, same_Some _ _ h)
some_if false x y h = absurd (none-some _ h)

stands : (spot key : List ℕ) (span : Option Extent) → key_by spot (drop 4 spot) span ≡ Some key → Stands spot key span
stands spot key None h = absurd (none-some _ h)
stands spot key (Some of) h =
    let s = some_if _ (drop 4 spot) key h in
    let parts = and_parts _ _ s.0 in record {
      of = of;
      got = refl;
      corners = same_list (corners_of of) (take 4 spot) parts.0;
      plain = ap (λ k. is_plain (name_in k)) (sym s.1) ∙ parts.1;
      behind = s.1;
    }

-- the name at the first of a span's spots is the one that is written for the span
pub first_written : (names : NameMap) (spots : List (List ℕ × List ℕ)) (span : Extent) (key : List ℕ) → AreKeys names
    → AreSpots spots names → IsFirstAt spots (spot_of span (replicate 15 0)) key
    → name_of_span names span ≡ Some (name_in key)
first_written names spots span key keyed kept first =
    let spot : List ℕ = first.0 in
    let s = stands spot key (get names (drop 4 spot)) (sym (kept spot) ∙ first.1) in
    let same : s.of ≡ span = corners_itself s.of span (s.corners ∙ first.2) in
    let found : get names key ≡ Some span =
    ap (get names) (sym s.behind) ∙ s.got ∙ ap (λ x. Some x) same in
    let whole : spot ≡ spot_of span key =
    sym (joined 4 spot) ∙ ap (λ (l : List ℕ). l ++ drop 4 spot) first.2
    ∙ ap (λ (l : List ℕ). corners_of span ++ l) s.behind in
    named_least (entries names) span key (entries_sorted names) (sym (get-entries names key) ∙ found) s.plain
    (λ other f p.
    let there : get names other ≡ Some span = get-entries names other ∙ f in
    ap is_gt (sym (same_front (corners_of span) key other))
    ∙ ap (λ l. is_gt (name_cmp l (spot_of span other))) (sym whole)
    ∙ first.3 (spot_of span other) (kept_there names spots span other kept there p)
    (from_first span other (key_long names other span keyed there)))

-- and where a span has no spot, no name is written for it
pub none_written : (names : NameMap) (spots : List (List ℕ × List ℕ)) (span : Extent) → AreKeys names
    → AreSpots spots names → HasNoneAt spots (spot_of span (replicate 15 0)) → name_of_span names span ≡ None
none_written names spots span keyed kept none = no_name (name_of_span names span) refl
  where
    no_name : (r : Option (List ℕ)) → name_of_span names span ≡ r → r ≡ None
    no_name None h = refl
    no_name (Some name) h =
        (let entry = entry_of (entries names) span name (entries_sorted names) h in
        let there : get names entry.key ≡ Some span = get-entries names entry.key ∙ entry.found in
        absurd (none (spot_of span entry.key)
        (kept_there names spots span entry.key kept there (ap is_plain entry.named ∙ entry.plain))
        (from_first span entry.key (key_long names entry.key span keyed there)) refl))
