-- The code that is written is at the front of its bytes, whatever follows.
use Rattle.std.proofs.Common.{◌≡◌, ℕ, ◌+◌, ◌-◌, ◌*◌, ◌/◌, ◌%◌, ◌^◌, ◌≤◌, ◌<◌, true, false, nat_le, List, [], ◌∷◌, ◌++◌}
use Rattle.std.proofs.Common.{length, refl, ap, ◌∙◌, arith, inl, inr}
use Rattle.std.specs.Int.{from_le_bytes, to_le_bytes, w16, w64}
use Rattle.std.specs.Int.RustNames.{int_lt}
use Rattle.std.specs.List.{list_all}
use Rattle.std.specs.Prelude.{Some, None, ◌==◌, nat_lt, ℤ, pos, negsuc, nat_abs, ◌⊎◌}
use Rattle.std.proofs.lemmas.Bool.{and_parts, cases_Bool}
use Rattle.std.proofs.lemmas.Bool.Decides.{nat_tests}
use Rattle.std.proofs.lemmas.Nat.{from_le_bytes-to_le_bytes_2, from_le_bytes-to_le_bytes_8}
use Rattle.fixed_value.specs.Doubles.{nearest_even, sign_bit}
use Rattle.grid_address.specs.Axes.{number_of, Reference}
use Rattle.grid_address.specs.Place.{InSheet, Place}
use Rattle.grid_address.specs.declared.reference.Axis.{Axis}
use Rattle.grid_address.specs.declared.reference.Axis.TheVariants.{Fixed, Offset}
use Rattle.formula_tree.specs.Ranges.{is_reference, is_text}
use Rattle.formula_tree.specs.Shape.{has_no_quote, is_short, not_negative}
use Rattle.formula_tree.specs.Table.{call_size, counts_of, counts_size, takes}
use Rattle.formula_tree.specs.declared.ast.Op.{Op}
use Rattle.formula_tree.specs.declared.ast.Op.TheVariants.{Pow, Mul, Div, Add, Sub, Eq, Ne, Lt, Gt, Le, Ge, And, Or}
use Rattle.formula_tree.specs.declared.ast.Op.TheVariants.{Join}
use Rattle.wk1_formula.specs.Codes.{number, reference, range, text, operator, function}
use Rattle.wk1_formula.specs.Doubles.{bits_of}
use Rattle.wk1_formula.specs.Kinds.{front_kind, function_kind, kind_of, op_code, operator_kind, operator_of}
use Rattle.wk1_formula.specs.declared.kind.CodeKind.TheVariants as kind
use Rattle.wk1_formula.specs.Reading.{axis_of, before_zero, both_axes, text_code, front_of, is_formula_text, least_of}
use Rattle.wk1_formula.specs.Reading.{reference_at, short_at, short_value, with_byte, whole}
use Rattle.wk1_formula.specs.Written.{coordinate, function_bytes, number_bytes, reference_bytes}
use Rattle.wk1_formula.proofs.Bits.{bits_back, written}
use Rattle.formula_tree.specs.declared.function.Function.{Function}
use Rattle.wk1_formula.specs.FunctionCodes as table
use Rattle.formula_tree.specs.declared.table.Counts.{Counts}
use Rattle.formula_tree.specs.declared.table.Counts.TheVariants.{Exactly, AtLeast}
use Rattle.wk1_formula.proofs.CodesFound.{found, least}

-- a number isn't below one that is no more than it
pub no_less : (a b : ℕ) → b ≤ a → nat_lt a b ≡ false
no_less a b h = grind (arith, nat_tests, h)

-- ---- numbers

even_most : (x : ℕ) → x < 9007199254740992000000 → nearest_even x 1000000 ≤ 9007199254740992
even_most x h =
    elim (cases_Bool (nat_lt 1000000 (2 * (x % 1000000) + x / 1000000 % 2))) [
      | inl up ↦ rw up (omega (arith, h))
      | inr down ↦ rw down (omega (arith, h))
    ]

sign_most : (v : ℤ) → sign_bit v ≤ 9223372036854775808
sign_most v = elim (cases_Bool (int_lt v (pos 0))) [ inl e ↦ rw e (omega arith) | inr e ↦ rw e (omega arith) ]

zero_bits : (v : ℤ) → nat_abs v ≡ 0 → bits_of v ≡ 0
unfolding bits_of
zero_bits v none = rw none refl

-- a number's bits fit eight bytes
pub bits_most : (v : ℤ) → nat_abs v ≤ 999999999999999 → bits_of v < 2 ^ 64
bits_most v most =
    elim (cases_Bool (nat_lt 0 (nat_abs v))) [
      | inl some ↦
          (let w = written v (grind (arith, nat_tests, some)) most in
          omega (arith, w.bits_are, w.scale_from, sign_most v, even_most (nat_abs v * 2 ^ w.scale) w.below))
      | inr none ↦ (let e : bits_of v ≡ 0 = zero_bits v (grind (arith, nat_tests, none)) in omega (arith, e))
    ]

-- two bytes of a number are read back as it
pub short_again : (n : ℕ) (rest : List ℕ) → n < 65536 → short_at 0 (to_le_bytes w16 n ++ rest) ≡ n
short_again n rest h = from_le_bytes-to_le_bytes_2 n (omega (arith, h))

short_is : (v : ℤ) → not_negative v ≡ true → is_short v ≡ true → short_value (nat_abs v / 1000000) ≡ v
short_is (pos n) sign short =
    let x = and_parts (n % 1000000 == 0) (nat_le n 32767000000) short in
    let whole : n % 1000000 ≡ 0 = grind (arith, nat_tests, x.0) in
    let few : n ≤ 32767000000 = grind (arith, nat_tests, x.1) in
    let less : nat_lt (n / 1000000) 32768 ≡ true =
    (let h : n / 1000000 < 32768 = omega (arith, few) in grind (arith, nat_tests, h)) in
    rw less (ap pos (omega (arith, whole)))
short_is (negsuc n) sign short = absurd cc

short_size : (v : ℤ) → is_short v ≡ true → nat_abs v / 1000000 < 65536
short_size v short =
    let x = and_parts (nat_abs v % 1000000 == 0) (nat_le (nat_abs v) 32767000000) short in
    let few : nat_abs v ≤ 32767000000 = grind (arith, nat_tests, x.1) in
    omega (arith, few)

-- a number's bytes are read as the number
pub number_front : (v : ℤ) (rest : List ℕ) → not_negative v ≡ true → nat_abs v ≤ 999999999999999
    → front_of (number_bytes v ++ rest) ≡ whole (number v) (length (number_bytes v))
unfolding front_of kind_of operator_of front_kind
number_front v rest sign most =
    elim (cases_Bool (is_short v)) [
      | inl short ↦ (
          let n = nat_abs v / 1000000 in
          let size = short_size v short in
          rw (
            short,
            no_less (length (to_le_bytes w16 n ++ rest)) 2 (omega arith),
            short_again n rest size,
            short_is v sign short,
          ) refl
          )
      | inr long ↦ (
          let back : from_le_bytes w64 (to_le_bytes w64 (bits_of v)) ≡ bits_of v =
          from_le_bytes-to_le_bytes_8 (bits_of v) (bits_most v most) in
          rw (long, no_less (length (to_le_bytes w64 (bits_of v) ++ rest)) 8 (omega arith), back, bits_back v most) refl
          )
    ]

-- ---- references

column_back : (n own : ℕ) → own < 256 → n < 256 → (32768 + ((own + n) % 256 + 16384 - own) % 16384) % 256 ≡ n
column_back n own own_in n_in =
    let s : ℕ = (own + n) % 256 in
    let d : ℕ = (s + 16384 - own) % 16384 in
    elim (cases_Bool (nat_lt (own + n) 256)) [
      | inl less ↦ (
          let below : own + n < 256 = grind (arith, nat_tests, less) in
          let first : s ≡ own + n = omega (arith, below) in
          let second : d ≡ n = omega (arith, first, n_in) in
          omega (arith, second, n_in)
          )
      | inr more ↦ (
          let above : 256 ≤ own + n = grind (arith, nat_tests, more) in
          let first : s + 256 ≡ own + n = omega (arith, above, own_in, n_in) in
          let second : d ≡ n + 16128 = omega (arith, first, n_in, own_in) in
          omega (arith, second, n_in)
          )
    ]

row_back : (n own : ℕ) → own < 8192 → n < 8192 → (32768 + ((own + n) % 8192 + 16384 - own) % 16384) % 8192 ≡ n
row_back n own own_in n_in =
    let s : ℕ = (own + n) % 8192 in
    let d : ℕ = (s + 16384 - own) % 16384 in
    elim (cases_Bool (nat_lt (own + n) 8192)) [
      | inl less ↦ (
          let below : own + n < 8192 = grind (arith, nat_tests, less) in
          let first : s ≡ own + n = omega (arith, below) in
          let second : d ≡ n = omega (arith, first, n_in) in
          omega (arith, second, n_in)
          )
      | inr more ↦ (
          let above : 8192 ≤ own + n = grind (arith, nat_tests, more) in
          let first : s + 8192 ≡ own + n = omega (arith, above, own_in, n_in) in
          let second : d ≡ n + 8192 = omega (arith, first, n_in, own_in) in
          omega (arith, second, n_in)
          )
    ]

offset_column : (n own count : ℕ) → count ≡ 256 → own < count → n < count
    → (32768 + ((own + n) % count + 16384 - own) % 16384) % count ≡ n
offset_column n own count e own_in n_in = rw e (column_back n own (omega (arith, e)) (omega (arith, e)))

offset_row : (n own count : ℕ) → count ≡ 8192 → own < count → n < count
    → (32768 + ((own + n) % count + 16384 - own) % 16384) % count ≡ n
offset_row n own count e own_in n_in = rw e (row_back n own (omega (arith, e)) (omega (arith, e)))

axis_back : (a : Axis) (own count : ℕ) → own < count → number_of a < count → (count ≡ 256) ⊎ (count ≡ 8192)
    → axis_of (coordinate a own count) count ≡ Some a
axis_back (Fixed n) own count own_in n_in counts =
    let small : count ≤ 8192 = elim counts [ inl e ↦ omega (arith, e) | inr e ↦ omega (arith, e) ] in
    let plain : nat_le 32768 n ≡ false = grind (arith, nat_tests, small, n_in) in
    let inside : nat_lt n count ≡ true = grind (arith, nat_tests, n_in) in
    rw (plain, inside) refl
axis_back (Offset n) own count own_in n_in counts =
    let c = coordinate (Offset n) own count in
    let high : nat_le 32768 c ≡ true = (let h : 32768 ≤ c = omega arith in grind (arith, nat_tests, h)) in
    let low : c % count ≡ n = elim counts [
      | inl e ↦ offset_column n own count e own_in n_in
      | inr e ↦ offset_row n own count e own_in n_in
    ] in
    rw (high, low) refl

coordinate_most : (a : Axis) (own count : ℕ) → number_of a < count → count ≤ 8192 → coordinate a own count < 65536
coordinate_most (Fixed n) own count n_in few = omega (arith, n_in, few)
coordinate_most (Offset n) own count n_in few = omega arith

-- a reference that is in its ranges
module _ (r : Reference) (at : Place) (ok : is_reference r ≡ true) (inside : InSheet at) where
  col_in : number_of r.col < 256
  col_in =
      (let x = (and_parts (nat_lt (number_of r.col) 256) (nat_lt (number_of r.row) 8192) ok).0 in
      grind (arith, nat_tests, x))

  row_in : number_of r.row < 8192
  row_in =
      (let x = (and_parts (nat_lt (number_of r.col) 256) (nat_lt (number_of r.row) 8192) ok).1 in
      grind (arith, nat_tests, x))

  abbrev col : ℕ
  col = coordinate r.col at.col 256

  abbrev row : ℕ
  row = coordinate r.row at.row 8192

  col_again : from_le_bytes w16 (to_le_bytes w16 col) ≡ col
  col_again = from_le_bytes-to_le_bytes_2 col (omega (arith, coordinate_most r.col at.col 256 col_in (omega arith)))

  row_again : from_le_bytes w16 (to_le_bytes w16 row) ≡ row
  row_again = from_le_bytes-to_le_bytes_2 row (omega (arith, coordinate_most r.row at.row 8192 row_in (omega arith)))

  col_back : axis_of col 256 ≡ Some r.col
  col_back = axis_back r.col at.col 256 inside.1 col_in (inl refl)

  row_back_to : axis_of row 8192 ≡ Some r.row
  row_back_to = axis_back r.row at.row 8192 inside.0 row_in (inr refl)

  -- the first four bytes of a reference are read as it
  pub first_reference : (rest : List ℕ) → reference_at 0 (reference_bytes r at ++ rest) ≡ Some r
  first_reference rest =
      ap (λ n. both_axes (axis_of n 256) (axis_of (from_le_bytes w16 (to_le_bytes w16 row)) 8192)) col_again
      ∙ ap (λ n. both_axes (axis_of col 256) (axis_of n 8192)) row_again
      ∙ ap (λ a. both_axes a (axis_of row 8192)) col_back ∙ ap (both_axes (Some r.col)) row_back_to

  -- the four bytes behind a range's first reference are read as its second
  pub second_reference : (s : Reference) (rest : List ℕ)
      → reference_at 4 ((reference_bytes s at ++ reference_bytes r at) ++ rest) ≡ Some r
  second_reference s rest =
      ap (λ n. both_axes (axis_of n 256) (axis_of (from_le_bytes w16 (to_le_bytes w16 row)) 8192)) col_again
      ∙ ap (λ n. both_axes (axis_of col 256) (axis_of n 8192)) row_again
      ∙ ap (λ a. both_axes a (axis_of row 8192)) col_back ∙ ap (both_axes (Some r.col)) row_back_to

-- the bytes of a reference, with their code, are read as it
pub reference_front_is : (r : Reference) (at : Place) (rest : List ℕ) → is_reference r ≡ true → InSheet at
    → front_of (1 ∷ (reference_bytes r at ++ rest)) ≡ whole (reference r) 5
unfolding front_of kind_of operator_of front_kind
reference_front_is r at rest ok inside =
    rw (no_less (length (reference_bytes r at ++ rest)) 4 (omega arith), first_reference r at ok inside rest) refl

-- the bytes of a range, with their code, are read as it
pub range_front_is : (a b : Reference) (at : Place) (rest : List ℕ) → is_reference a ≡ true → is_reference b ≡ true
    → InSheet at → front_of (2 ∷ ((reference_bytes a at ++ reference_bytes b at) ++ rest)) ≡ whole (range a b) 9
unfolding front_of kind_of operator_of front_kind
range_front_is a b at rest first last inside =
    rw (
      no_less (length ((reference_bytes a at ++ reference_bytes b at) ++ rest)) 8 (omega arith),
      first_reference a at first inside (reference_bytes b at ++ rest),
      second_reference b at last inside a rest,
    ) refl

-- ---- texts

-- before the first 00 stands the text that was written
pub before_back : (t rest : List ℕ) → list_all (λ b. nat_le 32 b) t ≡ true
    → before_zero ((t ++ 0 ∷ []) ++ rest) ≡ Some t
before_back [] rest h = refl
before_back (b ∷ bs) rest h =
    let x = and_parts (nat_le 32 b) (list_all (λ c. nat_le 32 c) bs) h in
    let some : (b == 0) ≡ false = grind (arith, nat_tests, x.0) in
    rw some (ap (with_byte b) (before_back bs rest x.1))

-- a text's bytes, with their code and the 00, are read as the text
pub text_front_is : (t rest : List ℕ) → is_text t ≡ true → has_no_quote t ≡ true
    → front_of (6 ∷ ((t ++ 0 ∷ []) ++ rest)) ≡ whole (text t) (length t + 2)
unfolding front_of kind_of operator_of front_kind
text_front_is t rest ok plain =
    let bytes = (and_parts (nat_le (length t) 240) (list_all (λ b. nat_le 32 b) t) ok).1 in
    let both : is_formula_text t ≡ true = rw (ok, plain) refl in
    ap text_code (before_back t rest bytes) ∙ rw both refl

-- ---- operators and functions

-- an operator's code is read as the operator
pub operator_front_is : (op : Op) (rest : List ℕ) → front_of (op_code op ∷ rest) ≡ whole (operator op) 1
unfolding front_of kind_of operator_of
operator_front_is Pow rest = refl
operator_front_is Mul rest = refl
operator_front_is Div rest = refl
operator_front_is Add rest = refl
operator_front_is Sub rest = refl
operator_front_is Eq rest = refl
operator_front_is Ne rest = refl
operator_front_is Lt rest = refl
operator_front_is Gt rest = refl
operator_front_is Le rest = refl
operator_front_is Ge rest = refl
operator_front_is And rest = refl
operator_front_is Or rest = refl
operator_front_is Join rest = refl

-- a function's code is above those of operators
apart : (c k : ℕ) → 31 ≤ c → k < 31 → (c == k) ≡ false
apart c k high low = grind (arith, nat_tests, high, low)

no_operator : (c : ℕ) → 31 ≤ c → operator_of c ≡ None
unfolding operator_of
no_operator c high =
    rw (
      apart c 9 high (omega arith),
      apart c 10 high (omega arith),
      apart c 11 high (omega arith),
      apart c 12 high (omega arith),
      apart c 13 high (omega arith),
      apart c 14 high (omega arith),
      apart c 15 high (omega arith),
      apart c 16 high (omega arith),
      apart c 17 high (omega arith),
      apart c 18 high (omega arith),
      apart c 19 high (omega arith),
      apart c 20 high (omega arith),
      apart c 21 high (omega arith),
      apart c 24 high (omega arith),
    ) refl

kind_is : (f : Function) → kind_of (table.code_of f) ≡ kind.Function f
unfolding kind_of
kind_is f =
    ap (λ o. operator_kind o (table.code_of f)) (no_operator (table.code_of f) (least f))
    ∙ ap (λ o. function_kind o (table.code_of f)) (found f)

-- where the count isn't written one number of arguments is taken
exactly : (c : Counts) (n : ℕ) → takes c n ≡ true → (counts_size c == 2) ≡ false → n ≡ least_of c
exactly (Exactly k) n e fixed = grind (arith, nat_tests, e)
exactly (AtLeast k) n e fixed = absurd cc

-- a function's bytes are read as the function with so many arguments
pub function_front_is : (f : Function) (n : ℕ) (rest : List ℕ) → takes (counts_of f) n ≡ true
    → front_of (function_bytes f n ++ rest) ≡ whole (function f n) (length (function_bytes f n))
unfolding front_of
function_front_is f n rest called =
    elim (cases_Bool (call_size f == 2)) [
      | inl free ↦ rw (free, kind_is f, free, called) refl
      | inr fixed ↦ rw (fixed, kind_is f, fixed, ← exactly (counts_of f) n called fixed) refl
    ]
