-- The record of hidden columns.
use Rattle.std.proofs.Common.{◌≡◌, ℕ, zero, suc, ◌+◌, ◌*◌, ◌/◌, ◌%◌, ◌^◌, ◌≤◌, ◌<◌, Bool, true, false, List, [], ◌∷◌}
use Rattle.std.proofs.Common.{length, map, get_or, drop, refl, ap, ◌∙◌, sym, arith, drop-cons}
use Rattle.std.specs.List.{range_with_len}
use Rattle.std.specs.Prelude.{◌==◌, sum}
use Rattle.std.proofs.lemmas.List.FromFn.{length-range_with_len}
use Rattle.wk1_records.specs.Meanings.{bit_at, bits_in, byte_at}
use Rattle.wk1_file.specs.Saved.{bits_byte, bits_bytes, on_byte}
use Rattle.std.specs.List.{list_any, AllByRecursion}
use Rattle.std.specs.Prelude.{replicate, Option, None, Ok, fold}
use Rattle.std.proofs.Common.{inl, inr}
use Rattle.std.proofs.Math.ListN.{drop_of_length-le}
use Rattle.std.proofs.lemmas.Bool.{cases_Bool}
use Rattle.std.proofs.lemmas.List.{length-map}
use Rattle.grid_address.specs.Place.{Place}
use Rattle.sheet_store.specs.declared.writes.SavedSheet.{SavedSheet}
use Rattle.wk1_records.specs.Meanings.{meaning}
use Rattle.wk1_file.specs.Said.{IsRecord, Says}
use Rattle.wk1_file.specs.inner.HiddenEntries.{hidden_entries}
use Rattle.wk1_records.specs.Bodies.{made}
use Rattle.wk1_file.specs.Saved.{hidden_pieces}
use Rattle.wk1_file.specs.Sheets.{with_entry}
use Rattle.wk1_file.specs.inner.HiddenEntries.{with_hidden}
use Rattle.wk1_records.specs.declared.entry.Entry.TheVariants as entry
use Rattle.wk1_records.specs.declared.kind.RecordKind.TheVariants as kind
use Rattle.wk1_file.proofs.Heads.{by_type, tested}

one_or_none : (b : Bool) → on_byte b 1 ≤ 1
one_or_none true = omega arith
one_or_none false = omega arith

weighed : (b : Bool) (n : ℕ) → on_byte b n ≡ n * on_byte b 1
weighed true n = omega arith
weighed false n = omega arith

told : (b : Bool) → (on_byte b 1 == 1) ≡ b
told true = refl
told false = refl

-- eight bits in a byte
abbrev eight : (ℕ → Bool) → ℕ
eight b = sum (map (λ j. on_byte (b j) (2 ^ j)) (range_with_len 0 8))

one_bit : (b : ℕ → Bool) (j : ℕ) → j < 8 → eight b / 2 ^ j % 2 ≡ on_byte (b j) 1
one_bit b zero h =
    omega (
      arith,
      weighed (b 0) 1,
      weighed (b 1) 2,
      weighed (b 2) 4,
      weighed (b 3) 8,
      weighed (b 4) 16,
      weighed (b 5) 32,
      weighed (b 6) 64,
      weighed (b 7) 128,
      one_or_none (b 0),
    )
one_bit b (suc zero) h =
    omega (
      arith,
      weighed (b 0) 1,
      weighed (b 1) 2,
      weighed (b 2) 4,
      weighed (b 3) 8,
      weighed (b 4) 16,
      weighed (b 5) 32,
      weighed (b 6) 64,
      weighed (b 7) 128,
      one_or_none (b 0),
      one_or_none (b 1),
    )
one_bit b (suc (suc zero)) h =
    omega (
      arith,
      weighed (b 0) 1,
      weighed (b 1) 2,
      weighed (b 2) 4,
      weighed (b 3) 8,
      weighed (b 4) 16,
      weighed (b 5) 32,
      weighed (b 6) 64,
      weighed (b 7) 128,
      one_or_none (b 0),
      one_or_none (b 1),
      one_or_none (b 2),
    )
one_bit b (suc (suc (suc zero))) h =
    omega (
      arith,
      weighed (b 0) 1,
      weighed (b 1) 2,
      weighed (b 2) 4,
      weighed (b 3) 8,
      weighed (b 4) 16,
      weighed (b 5) 32,
      weighed (b 6) 64,
      weighed (b 7) 128,
      one_or_none (b 0),
      one_or_none (b 1),
      one_or_none (b 2),
      one_or_none (b 3),
    )
one_bit b (suc (suc (suc (suc zero)))) h =
    omega (
      arith,
      weighed (b 0) 1,
      weighed (b 1) 2,
      weighed (b 2) 4,
      weighed (b 3) 8,
      weighed (b 4) 16,
      weighed (b 5) 32,
      weighed (b 6) 64,
      weighed (b 7) 128,
      one_or_none (b 0),
      one_or_none (b 1),
      one_or_none (b 2),
      one_or_none (b 3),
      one_or_none (b 4),
    )
one_bit b (suc (suc (suc (suc (suc zero))))) h =
    omega (
      arith,
      weighed (b 0) 1,
      weighed (b 1) 2,
      weighed (b 2) 4,
      weighed (b 3) 8,
      weighed (b 4) 16,
      weighed (b 5) 32,
      weighed (b 6) 64,
      weighed (b 7) 128,
      one_or_none (b 0),
      one_or_none (b 1),
      one_or_none (b 2),
      one_or_none (b 3),
      one_or_none (b 4),
      one_or_none (b 5),
    )
one_bit b (suc (suc (suc (suc (suc (suc zero)))))) h =
    omega (
      arith,
      weighed (b 0) 1,
      weighed (b 1) 2,
      weighed (b 2) 4,
      weighed (b 3) 8,
      weighed (b 4) 16,
      weighed (b 5) 32,
      weighed (b 6) 64,
      weighed (b 7) 128,
      one_or_none (b 0),
      one_or_none (b 1),
      one_or_none (b 2),
      one_or_none (b 3),
      one_or_none (b 4),
      one_or_none (b 5),
      one_or_none (b 6),
    )
one_bit b (suc (suc (suc (suc (suc (suc (suc zero))))))) h =
    omega (
      arith,
      weighed (b 0) 1,
      weighed (b 1) 2,
      weighed (b 2) 4,
      weighed (b 3) 8,
      weighed (b 4) 16,
      weighed (b 5) 32,
      weighed (b 6) 64,
      weighed (b 7) 128,
      one_or_none (b 0),
      one_or_none (b 1),
      one_or_none (b 2),
      one_or_none (b 3),
      one_or_none (b 4),
      one_or_none (b 5),
      one_or_none (b 6),
      one_or_none (b 7),
    )
one_bit b (suc (suc (suc (suc (suc (suc (suc (suc j)))))))) h = absurd (omega (arith, h))

drop_at_one : (bits : List Bool) (a : ℕ) → a < length bits → drop a bits ≡ get_or bits a false ∷ drop (a + 1) bits
drop_at_one bits a inside =
    drop-cons bits a false inside
    ∙ ap (λ k. get_or bits a false ∷ drop k bits) (let e : suc a ≡ a + 1 = omega arith in e)

get_or-map-range : (f : ℕ → ℕ) (a n i : ℕ) → i < n → get_or (map f (range_with_len a n)) i 0 ≡ f (a + i)
get_or-map-range f a zero i h = absurd (omega (arith, h))
get_or-map-range f a (suc n) zero h = ap f (let e : a ≡ a + 0 = omega arith in e)
get_or-map-range f a (suc n) (suc i) h =
    get_or-map-range f (a + 1) n i (omega (arith, h)) ∙ ap f (let e : a + 1 + i ≡ a + suc i = omega arith in e)

-- the bit of a column in the bytes
bit_back : (bits : List Bool) (c : ℕ) → c < 256 → bit_at (bits_bytes bits) c ≡ get_or bits c false
unfolding bits_bytes
bit_back bits c inside =
    let byte : byte_at (c / 8) (map (bits_byte bits) (range_with_len 0 32)) ≡ bits_byte bits (c / 8) =
    get_or-map-range (bits_byte bits) 0 32 (c / 8) (omega (arith, inside))
    ∙ ap (bits_byte bits) (let e : 0 + c / 8 ≡ c / 8 = omega arith in e) in
    let bit : eight (λ j. get_or bits (8 * (c / 8) + j) false) / 2 ^ (c % 8) % 2
    ≡ on_byte (get_or bits (8 * (c / 8) + c % 8) false) 1 =
    one_bit (λ j. get_or bits (8 * (c / 8) + j) false) (c % 8) (omega arith) in
    let place : 8 * (c / 8) + c % 8 ≡ c = omega arith in
    ap (λ n. n / 2 ^ (c % 8) % 2 == 1) byte ∙ ap (λ n. n == 1) bit ∙ told (get_or bits (8 * (c / 8) + c % 8) false)
    ∙ ap (λ k. get_or bits k false) place

all_back : (f : ℕ → Bool) (bits : List Bool) (a n : ℕ) → a + n ≡ length bits
    → ((c : ℕ) → c < length bits → f c ≡ get_or bits c false) → map f (range_with_len a n) ≡ drop a bits
all_back f bits a zero len each = sym (drop_of_length-le bits (omega (arith, len)))
all_back f bits a (suc n) len each =
    let inside : a < length bits = omega (arith, len) in
    ap (λ l. f a ∷ l) (all_back f bits (a + 1) n (omega (arith, len)) each)
    ∙ ap (λ b. b ∷ drop (a + 1) bits) (each a inside) ∙ sym (drop_at_one bits a inside)

-- the bits of hidden columns are read back from their bytes
pub bits_back : (bits : List Bool) → length bits ≡ 256 → bits_in (bits_bytes bits) ≡ bits
unfolding bits_in
bits_back bits len =
    all_back (bit_at (bits_bytes bits)) bits 0 256 (omega (arith, len))
    (λ c less. bit_back bits c (omega (arith, less, len)))

-- the bits of hidden columns take 32 bytes
pub bits_long : (bits : List Bool) → length (bits_bytes bits) ≡ 32
unfolding bits_bytes
bits_long bits = length-map (range_with_len 0 32) (bits_byte bits) ∙ length-range_with_len 0 32

hidden_one : (bits : List Bool) (n : ℕ) → length bits ≡ 256
    → meaning n (made kind.HiddenColumns (bits_bytes bits)) ≡ Ok (entry.Hidden bits)
hidden_one bits n len =
    by_type n kind.HiddenColumns (bits_bytes bits) (λ x. absurd cc)
    ∙ tested n (bits_bytes bits) kind.HiddenColumns (entry.Hidden bits) (omega (arith, bits_long bits)) refl
    (ap (λ l. Ok (entry.Hidden l)) (bits_back bits len))

-- the record of hidden columns says them, and where none is hidden there is no record
pub hidden_said : (bits : List Bool) → length bits ≡ 256 → Says (hidden_pieces bits) (hidden_entries bits)
hidden_said bits len =
    elim (cases_Bool (list_any (λ b. b) bits)) [
      | inl some ↦ rw some ((λ n. hidden_one bits n len), tt)
      | inr none ↦ rw none tt
    ]

-- the record of hidden columns is short enough, and no EOF
pub hidden_records : (bits : List Bool) → AllByRecursion IsRecord (hidden_pieces bits)
hidden_records bits =
    elim (cases_Bool (list_any (λ b. b) bits)) [
      | inl some ↦
          rw some (
            record { fits = (omega arith, omega (arith, bits_long bits)); inner = λ e. absurd (omega (arith, e)) },
            tt,
          )
      | inr none ↦ rw none tt
    ]

none_hidden : (bits : List Bool) → list_any (λ b. b) bits ≡ false → bits ≡ replicate (length bits) false
none_hidden [] h = refl
none_hidden (true ∷ bits) h = absurd cc
none_hidden (false ∷ bits) h = ap (λ l. false ∷ l) (none_hidden bits h)

-- a sheet of which no column is hidden takes the columns that are
pub hidden_taken : (s : SavedSheet) (bits : List Bool) (f : Option Place) → length bits ≡ 256
    → (h : Option Place)
    × (fold with_entry (with_hidden s (replicate 256 false) f) (hidden_entries bits) ≡ with_hidden s bits h)
hidden_taken s bits f len =
    elim (cases_Bool (list_any (λ b. b) bits)) [
      | inl some ↦ (None, rw some refl)
      | inr none ↦
          (f, rw none (ap (λ l. with_hidden s l f) (sym (none_hidden bits none ∙ ap (λ n. replicate n false) len))))
    ]
