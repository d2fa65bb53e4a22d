-- The bytes of a reference are a text's.
use Rattle.std.proofs.Common.{ℕ, ◌≤◌, ◌+◌, ◌/◌, ◌%◌, Bool, true, false, List, [], ◌∷◌, ◌++◌, Option, Some, None, inl}
use Rattle.std.proofs.Common.{inr, arith}
use Rattle.std.specs.Prelude.{◌==◌, nat_lt, codes}
use Rattle.std.specs.List.{All}
use Rattle.std.specs.Int.Digits.{digits_of}
use Rattle.std.proofs.lemmas.Bool.{cases_Bool}
use Rattle.std.proofs.lemmas.List.Elements.{All-append, All-cons, All-map, All-nil}
use Rattle.grid_address.specs.Address.{column_name, decimal}
use Rattle.grid_address.specs.Place.{Place}
use Rattle.session_rooms.specs.declared.pointed.Signs.{Signs}
use Rattle.room_keys.specs.pointing.Pointing.{anchor_text, fixes_column, fixes_row, reference_by, sign_if}
use Rattle.room_keys.specs.pointing.Pointing.{signed_address}

-- the byte can be shown
abbrev pub Prints : ℕ → Type 0
Prints b = 32 ≤ b

one_prints : (b : ℕ) → 32 ≤ b → All Prints (b ∷ [])
one_prints b h = All-cons Prints b [] h (All-nil Prints)

number_prints : (n : ℕ) → All Prints (decimal n)
number_prints n = elim (cases_Bool (n == 0)) [
  | inl none ↦ rw none (one_prints 48 (omega arith))
  | inr some ↦ rw some (All-map Prints (λ d. 48 + d) (digits_of 10 n) (λ k d h. omega arith))
]

letters_print : (col : ℕ) → All Prints (column_name col)
letters_print col = elim (cases_Bool (nat_lt col 26)) [
  | inl one ↦ rw one (one_prints (65 + col) (omega arith))
  | inr two ↦
      rw two (All-cons Prints (64 + col / 26) ((65 + col % 26) ∷ []) (omega arith)
      (one_prints (65 + col % 26) (omega arith)))
]

sign_prints : (b : Bool) → All Prints (sign_if b)
sign_prints true = one_prints 36 (omega arith)
sign_prints false = All-nil Prints

address_prints : (s : Signs) (p : Place) → All Prints (signed_address s p)
address_prints s p =
    let row : List ℕ = decimal (p.row + 1) in
    let row_sign : List ℕ = sign_if (fixes_row s) in
    All-append Prints (sign_if (fixes_column s)) (column_name p.col ++ (row_sign ++ row)) (sign_prints (fixes_column s))
    (All-append Prints (column_name p.col) (row_sign ++ row) (letters_print p.col)
    (All-append Prints row_sign row (sign_prints (fixes_row s)) (number_prints (p.row + 1))))

dots_print : All Prints (codes "..")
dots_print = All-cons Prints 46 (46 ∷ []) (omega arith) (one_prints 46 (omega arith))

anchor_prints : (s : Signs) (anchor : Option Place) → All Prints (anchor_text s anchor)
anchor_prints s None = All-nil Prints
anchor_prints s (Some a) = All-append Prints (signed_address s a) (codes "..") (address_prints s a) dots_print

-- a reference is written in such bytes
pub reference_prints : (s : Signs) (anchor : Option Place) (corner : Place) → All Prints (reference_by s anchor corner)
reference_prints s anchor corner =
    All-append Prints (anchor_text s anchor) (signed_address s corner) (anchor_prints s anchor)
    (address_prints s corner)
