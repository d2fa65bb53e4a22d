-- The records of names.
use Rattle.std.proofs.Common.{◌≡◌, ℕ, suc, ◌+◌, ◌-◌, ◌≤◌, true, nat_le, List, [], ◌∷◌, ◌++◌, length, take, drop, map}
use Rattle.std.proofs.Common.{replicate, refl, ap, ◌∙◌, sym, append_assoc, arith, inl, inr, length-append}
use Rattle.std.specs.Int.{from_le_bytes, w16}
use Rattle.std.specs.List.{AllByRecursion}
use Rattle.std.specs.FinMap.{empty, entries, insert}
use Rattle.std.specs.Prelude.{nat_lt, Option, Some, None, Ok, Err, fold, ◌==◌, if◌then◌else◌}
use Rattle.grid_address.specs.Place.{Extent, Place}
use Rattle.range_names.specs.Names.{fault_of, name_in, NameMap}
use Rattle.range_names.proofs.NameMaps.{names_exact, names_total}
use Rattle.sheet_store.specs.declared.writes.SavedSheet.{SavedSheet}
use Rattle.std.proofs.Math.Seq.{drop-append-add}
use Rattle.std.proofs.lemmas.Bool.{cases_Bool}
use Rattle.std.proofs.lemmas.Bool.Decides.{nat_tests}
use Rattle.std.proofs.lemmas.List.{length-replicate, take_at}
use Rattle.wk1_formula.specs.Reading.{before_zero, short_at, with_byte}
use Rattle.wk1_records.specs.declared.fault.Wk1Fault.TheVariants as fault
use Rattle.wk1_records.specs.Meanings.{if_name, is_span, meaning, name_entry, place_at}
use Rattle.wk1_file.proofs.Settings.{place_back}
use Rattle.wk1_file.specs.Said.{name_entry_of, IsSavedName, Says}
use Rattle.wk1_records.specs.Bodies.{place_bytes}
use Rattle.wk1_file.specs.Saved.{name_piece}
use Rattle.wk1_file.specs.Sheets.{with_entry, with_names}
use Rattle.wk1_records.specs.declared.entry.Entry.TheVariants as entry
use Rattle.wk1_records.specs.declared.kind.RecordKind.TheVariants as kind
use Rattle.wk1_file.proofs.Heads.{by_type, inside_is, tested}
use Rattle.wk1_file.proofs.Maps.{filled, filled_again}

-- a name has no zeros
name_back : (key rest : List ℕ) → before_zero (name_in key ++ 0 ∷ rest) ≡ Some (name_in key)
name_back [] rest = refl
name_back (b ∷ bs) rest =
    elim (cases_Bool (b == 0)) [
      | inl z ↦ rw z refl
      | inr z ↦ rw (z, z) (ap (with_byte b) (name_back bs rest))
    ]

-- a name without fault has at most 15 bytes
pub short_name : (name : List ℕ) → fault_of name ≡ None → length name ≤ 15
short_name name e =
    elim (cases_Bool (length name == 0)) [
      | inl z ↦ absurd (let x = rw z at e in cc)
      | inr z ↦ elim (cases_Bool (nat_lt 15 (length name))) [
        | inl l ↦ absurd (let x = rw (z, l) at e in cc)
        | inr l ↦ grind (arith, nat_tests, l)
      ]
    ]

-- what stands behind a front of so many bytes
short_behind : (front rest : List ℕ) (n j : ℕ) → length front ≡ n → short_at (n + j) (front ++ rest) ≡ short_at j rest
short_behind front rest n j len =
    ap (λ bs. from_le_bytes w16 (take 2 bs))
    (ap (λ k. drop (k + j) (front ++ rest)) (sym len) ∙ drop-append-add front rest j)

one_said : (e : List ℕ × Extent) (n : ℕ) → IsSavedName e
    → meaning n (name_piece (name_in e.0) e.1) ≡ Ok (name_entry_of e)
one_said e n h =
    let name : List ℕ = name_in e.0 in
    let zeros : List ℕ = replicate (16 - length name) 0 in
    let places : List ℕ = place_bytes e.1.first ++ place_bytes e.1.last in
    let front : List ℕ = name ++ zeros in
    let body : List ℕ = name ++ (zeros ++ places) in
    let short = short_name name h.name in
    let len : length front ≡ 16 =
    omega (arith, length-append name zeros, length-replicate {A = ℕ} (16 - length name) 0, short) in
    let is : front ++ places ≡ body = append_assoc name zeros places in
    let long : 24 ≤ length body = omega (arith, ap length is, length-append front places, len) in
    let more : 16 - length name ≡ suc (15 - length name) = omega (arith, short) in
    let found : before_zero (take 16 body) ≡ Some name =
    ap (λ b. before_zero (take 16 b)) (sym is) ∙ ap before_zero (take_at front places 16 len)
    ∙ ap (λ k. before_zero (name ++ replicate k 0)) more ∙ name_back e.0 (replicate (15 - length name) 0) in
    let one = place_back e.1.first h.first in
    let other = place_back e.1.last h.last in
    let row : short_at 18 body ≡ e.1.first.row =
    ap (short_at 18) (sym is) ∙ short_behind front places 16 2 len ∙ one.0 in
    let col : short_at 16 body ≡ e.1.first.col =
    ap (short_at 16) (sym is) ∙ short_behind front places 16 0 len ∙ one.1 in
    let last_row : short_at 22 body ≡ e.1.last.row =
    ap (short_at 22) (sym is) ∙ short_behind front places 16 6 len ∙ other.0 in
    let last_col : short_at 20 body ≡ e.1.last.col =
    ap (short_at 20) (sym is) ∙ short_behind front places 16 4 len ∙ other.1 in
    let first : place_at 16 body ≡ e.1.first = λ i. record { row = row i; col = col i } in
    let last : place_at 20 body ≡ e.1.last = λ i. record { row = last_row i; col = last_col i } in
    let rows : nat_le e.1.first.row e.1.last.row ≡ true = (let l = h.rows in grind (arith, nat_tests, l)) in
    let cols : nat_le e.1.first.col e.1.last.col ≡ true = (let l = h.cols in grind (arith, nat_tests, l)) in
    let spans : is_span e.1.first e.1.last ≡ true =
    rw (inside_is e.1.first h.first, inside_is e.1.last h.last, rows, cols) refl in
    by_type n kind.Name body (λ x. absurd cc) ∙ tested n body kind.Name (name_entry_of e) long refl
    (ap (name_entry n body) found ∙ ap (if_name n body name) h.name
    ∙ ap (λ p. if is_span p (place_at 20 body) then Ok (entry.Name name (record { first = p; last = place_at 20 body }))
    else Err (fault.BadSpan n)) first
    ∙ ap (λ p. if is_span e.1.first p then Ok (entry.Name name (record { first = e.1.first; last = p }))
    else Err (fault.BadSpan n)) last
    ∙ rw spans refl)

-- the records of names say the names and their spans
pub names_said : (es : List (List ℕ × Extent)) → AllByRecursion IsSavedName es
    → Says (map (λ e. name_piece (name_in e.0) e.1) es) (map name_entry_of es)
names_said [] h = tt
names_said (e ∷ es) h = ((λ n. one_said e n h.0), names_said es h.1)

all_taken : (s : SavedSheet) (es : List (List ℕ × Extent)) (m : NameMap) (f : Option Place)
    → AllByRecursion IsSavedName es
    → (h : Option Place) × (fold with_entry (with_names s m f) (map name_entry_of es) ≡ with_names s (filled m es) h)
all_taken s [] m f h = (f, refl)
all_taken s (e ∷ es) m f h =
    let rest = all_taken s es (insert m e.0 e.1) None h.1 in
    (rest.0, ap (λ k. fold with_entry (with_names s (insert m k e.1) None) (map name_entry_of es)) h.0.key ∙ rest.1)

-- what the records of names say, put into an empty map one by one, is the map
pub names_taken : (s : SavedSheet) (ns : NameMap) (f : Option Place) → AllByRecursion IsSavedName (entries ns)
    → (h : Option Place) × (fold with_entry (with_names s empty f) (map name_entry_of (entries ns)) ≡ with_names s ns h)
names_taken s ns f h =
    let x = all_taken s (entries ns) empty f h in
    (x.0, x.1 ∙ ap (λ m. with_names s m x.0) (filled_again names_total names_exact ns))
