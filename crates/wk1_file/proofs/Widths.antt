-- The records of own widths.
use Rattle.std.proofs.Common.{◌≡◌, ℕ, zero, suc, ◌+◌, ◌≤◌, ◌<◌, true, ◌&&◌, nat_le, List, [], ◌∷◌, ◌++◌, length, take}
use Rattle.std.proofs.Common.{get_or, set, replicate, refl, ap, ◌∙◌, sym, append_assoc, arith, inl, inr, length-take}
use Rattle.std.specs.Int.{to_le_bytes, w16}
use Rattle.std.specs.List.{range_with_len, AllByRecursion}
use Rattle.std.specs.Prelude.{nat_lt, nat_eq, Option, None, Ok, flat_map, fold, if◌then◌else◌}
use Rattle.std.proofs.Math.Seq.{set-append_seam}
use Rattle.std.proofs.lemmas.Bool.{cases_Bool}
use Rattle.std.proofs.lemmas.Bool.Decides.{nat_tests}
use Rattle.std.proofs.lemmas.List.{append-nil, take_all, take_more}
use Rattle.std.proofs.lemmas.List.Sums.{fold-append}
use Rattle.std.proofs.lemmas.Nat.{from_le_bytes-to_le_bytes_2}
use Rattle.grid_address.specs.Place.{Place}
use Rattle.sheet_store.specs.Grid.{own_width, width_of, Grid}
use Rattle.sheet_store.specs.declared.writes.SavedSheet.{SavedSheet}
use Rattle.wk1_formula.specs.Reading.{short_at}
use Rattle.wk1_records.specs.Meanings.{is_width, meaning}
use Rattle.wk1_file.specs.Said.{width_entries, widths_entries, AreWidths, Says}
use Rattle.wk1_records.specs.Bodies.{made}
use Rattle.wk1_file.specs.Saved.{columns, width_piece, width_pieces}
use Rattle.wk1_file.specs.Sheets.{with_entry, with_widths}
use Rattle.wk1_records.specs.declared.entry.Entry.TheVariants as entry
use Rattle.wk1_records.specs.declared.kind.RecordKind.TheVariants as kind
use Rattle.wk1_file.proofs.Heads.{by_type, tested}
use Rattle.wk1_file.proofs.Splitting.{said_each}

each_number : (P : ℕ → Type 0) (a n : ℕ) → ((k : ℕ) → k < a + n → P k) → AllByRecursion P (range_with_len a n)
each_number P a zero h = tt
each_number P a (suc n) h = (h a (omega arith), each_number P (a + 1) n (λ k less. h k (omega (arith, less))))

-- what is so of every number below 256 is so of every column
pub each_column : (P : ℕ → Type 0) → ((k : ℕ) → k < 256 → P k) → AllByRecursion P columns
unfolding columns
each_column P h = each_number P 0 256 h

width_said : (col w n : ℕ) → col < 256 → is_width w ≡ true
    → meaning n (made kind.ColumnWidth (to_le_bytes w16 col ++ w ∷ [])) ≡ Ok (entry.Width col w)
width_said col w n inside ok =
    let body : List ℕ = to_le_bytes w16 col ++ w ∷ [] in
    let back : short_at 0 body ≡ col = from_le_bytes-to_le_bytes_2 col (omega (arith, inside)) in
    let low : nat_lt col 256 ≡ true = grind (arith, nat_tests, inside) in
    by_type n kind.ColumnWidth body (λ x. absurd cc)
    ∙ tested n body kind.ColumnWidth (entry.Width col w) (omega arith) refl
    (ap (λ k. Ok (if nat_lt k 256 && is_width w then entry.Width k w else entry.Nothing)) back ∙ rw (low, ok) refl)

one_said : (col w : ℕ) → col < 256 → w ≤ 240 → Says (width_piece col (own_width w)) (width_entries col (own_width w))
one_said col w inside most =
    elim (cases_Bool (nat_eq w 0)) [
      | inl none ↦ rw none tt
      | inr some ↦ (
          let least : nat_le 1 w ≡ true =
          (let l : 1 ≤ w = grind (arith, nat_tests, some) in grind (arith, nat_tests, l)) in
          let high : nat_le w 240 ≡ true = grind (arith, nat_tests, most) in
          let ok : is_width w ≡ true = rw (least, high) refl in
          rw some ((λ n. width_said col w n inside ok), tt)
          )
    ]

-- the records of own widths say them by column
pub widths_said : (g : Grid) → AreWidths g.widths → Says (width_pieces g) (widths_entries g)
widths_said g ws =
    said_each (λ col. width_piece col (width_of g col)) (λ col. width_entries col (width_of g col)) columns
    (each_column _ (λ k less. one_said k (get_or g.widths k 0) less (ws.most k)))

set_there : (W : List ℕ) (a n w : ℕ) → a < length W
    → set (take a W ++ 0 ∷ replicate n 0) a w ≡ take a W ++ w ∷ replicate n 0
set_there W a n w inside =
    let len : length (take a W) ≡ a = omega (arith, inside, length-take a W) in
    ap (λ k. set (take a W ++ 0 ∷ replicate n 0) k w) (sym len) ∙ set-append_seam (take a W) 0 (replicate n 0) w

next_width : (W : List ℕ) (a n : ℕ) → a < length W
    → take a W ++ get_or W a 0 ∷ replicate n 0 ≡ take (a + 1) W ++ replicate n 0
next_width W a n inside =
    sym (ap (λ l. l ++ replicate n 0) (take_more W a 0 inside)
    ∙ append_assoc (take a W) (get_or W a 0 ∷ []) (replicate n 0))

one_taken : (s : SavedSheet) (W : List ℕ) (a n : ℕ) (f : Option Place) → a < length W
    → (h : Option Place)
    × (fold with_entry (with_widths s (take a W ++ 0 ∷ replicate n 0) f) (width_entries a (own_width (get_or W a 0)))
    ≡ with_widths s (take (a + 1) W ++ replicate n 0) h)
one_taken s W a n f inside =
    elim (cases_Bool (nat_eq (get_or W a 0) 0)) [
      | inl none ↦ (
          let zero_there : get_or W a 0 ≡ 0 = grind (arith, nat_tests, none) in (
            f,
            rw none (ap (λ l. with_widths s l f)
                (ap (λ w. take a W ++ w ∷ replicate n 0) (sym zero_there) ∙ next_width W a n inside)),
          )
          )
      | inr some ↦ (
        None,
        rw some (ap (λ l. with_widths s l None) (set_there W a n (get_or W a 0) inside ∙ next_width W a n inside)),
      )
    ]

all_taken : (s : SavedSheet) (W : List ℕ) (n a : ℕ) (f : Option Place) → a + n ≡ length W
    → (h : Option Place)
    × (fold with_entry (with_widths s (take a W ++ replicate n 0) f)
    (flat_map (λ col. width_entries col (own_width (get_or W col 0))) (range_with_len a n))
    ≡ with_widths s W h)
all_taken s W zero a f len = (
  f,
  ap (λ l. with_widths s l f) (append-nil (take a W) ∙ take_all a W (omega (arith, len))),
)
all_taken s W (suc n) a f len =
    let one = one_taken s W a n f (omega (arith, len)) in
    let rest = all_taken s W n (a + 1) one.0 (omega (arith, len)) in (
      rest.0,
      fold-append with_entry (with_widths s (take a W ++ 0 ∷ replicate n 0) f)
          (width_entries a (own_width (get_or W a 0)))
          (flat_map (λ col. width_entries col (own_width (get_or W col 0))) (range_with_len (a + 1) n))
          ∙ ap (λ r. fold with_entry r
          (flat_map (λ col. width_entries col (own_width (get_or W col 0))) (range_with_len (a + 1) n))) one.1
          ∙ rest.1,
    )

-- what the records of own widths say, put over no widths, is the sheet's widths
pub widths_taken : (s : SavedSheet) (g : Grid) (f : Option Place) → AreWidths g.widths
    → (h : Option Place)
    × (fold with_entry (with_widths s (replicate 256 0) f) (widths_entries g) ≡ with_widths s g.widths h)
unfolding columns
widths_taken s g f ws = all_taken s g.widths 256 0 f (omega (arith, ws.all))
