-- Held cells that stand in row order are the entries of their map.
use Rattle.std.specs.Prelude.{◌≡◌, ◌≤◌, ◌<◌, ◌+◌, ◌&&◌, ℕ, Bool, true, false, cond, refl, T, List, [], ◌∷◌}
use Rattle.std.specs.Prelude.{drop, get_or, length}
use Rattle.std.specs.FinMap.{entries, entries-from_sorted, from_entries, from_sorted, get-from_entries}
use Rattle.std.specs.FinMap.{get-from_sorted, same_map}
use Rattle.std.specs.FinMap.Entries.{below_all, is_sorted}
use Rattle.std.specs.Ordering.{is_lt}
use Rattle.std.proofs.Common.{sym, subst, ◌∙◌, ap, arith, rules}
use Rattle.std.proofs.lemmas.Bool.{false≢true}
use Rattle.std.proofs.lemmas.List.{drop_all, drop_more}
use Rattle.cell_maps.specs.Filled.{filled}
use Rattle.cell_maps.specs.declared.held.Held.{Held}
use Rattle.cell_maps.specs.declared.held.Held.TheVariants as held
use Rattle.grid_address.proofs.Places.{cells_exact, cells_total}
use Rattle.grid_address.specs.Place.{place_cmp, InSheet, Place}
use Rattle.sheet_store.specs.Grid.{Cells}
use Rattle.sheet_store.specs.inner.RowOrder.{IsBefore}
use Rattle.sheet_store.specs.inner.Scan.{number_of}
use Rattle.sheet_store.specs.State.{CellState}

-- the places of entries have numbers from one on, each a higher one than the one before
abbrev pub InOrder : ℕ → List (Place × CellState) → Type 0
InOrder least [] = Unit {0}
InOrder least (e ∷ es) = InSheet e.0 × (least ≤ number_of e.0) × InOrder (number_of e.0 + 1) es

lower : (m n : ℕ) (es : List (Place × CellState)) → m ≤ n → InOrder n es → InOrder m es
lower m n [] le h = tt
lower m n (e ∷ es) le h = (h.0, omega (arith, le, h.1), h.2)

-- with a held cell before them they still have
pub one_before : (h : Held CellState) (number least : ℕ) (hs : List (Held CellState)) → IsBefore h number least
    → InOrder least (filled hs) → InOrder number (filled (h ∷ hs))
one_before (held.Filled c s) number least hs b o =
    (b.0, omega (arith, b.1), lower (number_of c + 1) least (filled hs) (omega (arith, b.1, b.2)) o)
one_before (held.Erased c) number least hs b o = lower number least (filled hs) (omega (arith, b)) o

less : (c d : Place) → InSheet c → InSheet d → number_of c < number_of d → T (is_lt (place_cmp c d))
less c d i j h = search rules

both : (a b : Bool) → T a → T b → T (a && b)
both true b p q = q
both false b p q = absurd p

below : (c : Place) (n : ℕ) (es : List (Place × CellState)) → InSheet c → number_of c < n → InOrder n es
    → T (below_all place_cmp c es)
below c n [] i h o = tt
below c n (e ∷ es) i h o =
    both (is_lt (place_cmp c e.0)) (below_all place_cmp c es) (less c e.0 i o.0 (omega (arith, h, o.1)))
    (below c (number_of e.0 + 1) es i (omega (arith, h, o.1)) o.2)

sorted : (n : ℕ) (es : List (Place × CellState)) → InOrder n es → T (is_sorted place_cmp es)
sorted n [] o = tt
sorted n (e ∷ es) o =
    both (below_all place_cmp e.0 es) (is_sorted place_cmp es)
    (below e.0 (number_of e.0 + 1) es o.0 (omega arith) o.2) (sorted (number_of e.0 + 1) es o.2)

-- so they are those of the map that they make
pub entries_are : (n : ℕ) (es : List (Place × CellState)) → InOrder n es
    → entries (from_entries {R = place_cmp} es) ≡ es
entries_are n es o =
    let s = sorted n es o in
    ap entries (same_map cells_total cells_exact (from_entries es) (from_sorted es) (λ q.
    get-from_entries cells_total es q ∙ sym (get-from_sorted place_cmp es q s)))
    ∙ entries-from_sorted place_cmp es s

-- the last ones have one more before them
pub front_more : (hs : List (Held CellState)) (at next : ℕ) (h : Held CellState) (number least : ℕ) → next ≡ at + 1
    → next ≤ length hs → h ≡ get_or hs at h → IsBefore h number least → InOrder least (filled (drop next hs))
    → InOrder number (filled (drop at hs))
front_more hs at next h number least behind lt is b o =
    let rest : InOrder least (filled (drop (at + 1) hs)) =
    subst (λ n. InOrder least (filled (drop n hs))) behind o in
    subst (λ l. InOrder number (filled l))
    (ap (λ x. x ∷ drop (at + 1) hs) is ∙ sym (drop_more hs at h (omega (arith, lt, behind))))
    (one_before h number least (drop (at + 1) hs) b rest)

-- gone over in either way, they are a map's entries
pub either_way : (b : Bool) (hs : List (Held CellState)) (m : Cells) (left : List (Place × CellState))
    → from_entries (filled hs) ≡ m → (b ≡ true → entries (from_entries {R = place_cmp} (filled hs)) ≡ filled hs)
    → left ≡ entries m → cond b (filled hs) left ≡ entries m
either_way true hs m left is run rest = sym (run refl) ∙ ap entries is
either_way false hs m left is run rest = rest

-- the next one of those that are gone over as they are held
pub on_run : (b : Bool) (e : Place × CellState) (now next left : List (Place × CellState)) → b ≡ true → now ≡ e ∷ next
    → cond b now left ≡ e ∷ cond b next left
on_run true e now next left h is = is
on_run false e now next left h is = absurd (false≢true h)

-- the next one of those that are looked for
pub on_search : (b : Bool) (e : Place × CellState) (now next run : List (Place × CellState)) → b ≡ false
    → now ≡ e ∷ next → cond b run now ≡ e ∷ cond b run next
on_search true e now next run h is = absurd (false≢true (sym h))
on_search false e now next run h is = is

-- of none at the end nothing is asked
pub none_in_order : (hs : List (Held CellState)) (at : ℕ) → at ≡ length hs → InOrder 2097152 (filled (drop at hs))
none_in_order hs at end =
    subst (λ l. InOrder 2097152 (filled l)) (sym (drop_all at hs (omega (arith, end)))) tt

-- where all are in order, they are the entries of the map that they make
pub all_in_order : (hs : List (Held CellState)) (at least : ℕ) → at ≡ 0 → InOrder least (filled (drop at hs))
    → entries (from_entries {R = place_cmp} (filled hs)) ≡ filled hs
all_in_order hs at least first o =
    entries_are least (filled hs) (subst (λ n. InOrder least (filled (drop n hs))) first o)
