-- A code that is read lies within the bytes, and its text or count is one that a formula may have.
use Rattle.std.proofs.Common.{◌≡◌, ℕ, suc, ◌≤◌, ◌<◌, true, false, List, [], ◌∷◌, length, refl, ap, arith, inl, inr}
use Rattle.std.specs.Prelude.{◌==◌, nat_lt, Option, Some, None}
use Rattle.std.proofs.lemmas.Bool.{cases_Bool}
use Rattle.std.proofs.lemmas.Bool.Decides.{nat_tests}
use Rattle.std.proofs.lemmas.Option.{same_Some}
use Rattle.fixed_value.specs.declared.doubles.DoubleRead.{DoubleRead}
use Rattle.fixed_value.specs.declared.doubles.DoubleRead.TheVariants as double
use Rattle.grid_address.specs.Axes.{Reference}
use Rattle.formula_tree.specs.Table.{call_size, counts_of, counts_size, takes}
use Rattle.wk1_formula.specs.Kinds.{kind_of}
use Rattle.wk1_formula.specs.Reading.{before_zero, counted_front, double_code, front_by, front_of, function_front}
use Rattle.wk1_formula.specs.Reading.{is_formula_text, least_of, one_reference, text_code, two_references, with_byte}
use Rattle.wk1_formula.specs.inner.Steps.{IsSound}
use Rattle.wk1_formula.specs.declared.kind.CodeKind.{CodeKind}
use Rattle.wk1_formula.specs.declared.kind.CodeKind.TheVariants as kind
use Rattle.formula_tree.specs.declared.function.Function.{Function}
use Rattle.formula_tree.specs.declared.table.Counts.{Counts}
use Rattle.formula_tree.specs.declared.table.Counts.TheVariants.{Exactly, AtLeast}

double_sound : (d : DoubleRead) (len : ℕ) → 9 ≤ len → IsSound (double_code d) len
double_sound (double.Num v) len h = (refl, omega arith, h)
double_sound double.Na len h = (refl, omega arith, h)
double_sound double.Err len h = (refl, omega arith, h)
double_sound double.TooLarge len h = tt

one_sound : (r : Option Reference) (len : ℕ) → 5 ≤ len → IsSound (one_reference r) len
one_sound (Some r) len h = (refl, omega arith, h)
one_sound None len h = tt

two_sound : (a b : Option Reference) (len : ℕ) → 9 ≤ len → IsSound (two_references a b) len
two_sound (Some a) (Some b) len h = (refl, omega arith, h)
two_sound (Some a) None len h = tt
two_sound None b len h = tt

none_more : (b : ℕ) (o : Option (List ℕ)) (t : List ℕ) → with_byte b o ≡ Some t
    → (u : List ℕ) × (o ≡ Some u) × (t ≡ b ∷ u)
none_more b None t e = absurd cc
none_more b (Some u) t e = (u, refl, cc)

zero_behind : (bytes t : List ℕ) → before_zero bytes ≡ Some t → length t < length bytes
zero_behind [] t e = absurd cc
zero_behind (b ∷ bs) t e =
    elim (cases_Bool (b == 0)) [
      | inl z ↦ (let x : [] ≡ t = same_Some _ _ (rw z at e) in omega (arith, ap length x))
      | inr z ↦
          (let x = none_more b (before_zero bs) t (rw z at e) in omega (arith, zero_behind bs x.0 x.1, ap length x.2))
    ]

text_sound : (o : Option (List ℕ)) (bytes : List ℕ) → before_zero bytes ≡ o → IsSound (text_code o) (suc (length bytes))
text_sound None bytes e = tt
text_sound (Some t) bytes e =
    elim (cases_Bool (is_formula_text t)) [
      | inl ok ↦ rw ok (ok, omega arith, omega (arith, zero_behind bytes t e))
      | inr e2 ↦ rw e2 tt
    ]

counted_sound : (f : Function) (bytes : List ℕ) → IsSound (counted_front f bytes) (suc (length bytes))
counted_sound f [] = tt
counted_sound f (n ∷ bytes) =
    elim (cases_Bool (takes (counts_of f) n)) [
      | inl ok ↦ rw ok (ok, omega arith, omega arith)
      | inr e2 ↦ rw e2 tt
    ]

-- a count that is fixed is taken
fixed_taken : (c : Counts) → (counts_size c == 2) ≡ false → takes c (least_of c) ≡ true
fixed_taken (Exactly n) h = grind (arith, nat_tests)
fixed_taken (AtLeast n) h = absurd cc

function_sound : (f : Function) (bytes : List ℕ) → IsSound (function_front f bytes) (suc (length bytes))
function_sound f bytes =
    elim (cases_Bool (call_size f == 2)) [
      | inl free ↦ rw free (counted_sound f bytes)
      | inr fixed ↦ rw fixed (fixed_taken (counts_of f) fixed, omega arith, omega arith)
    ]

by_kind : (k : CodeKind) (code : ℕ) (bytes : List ℕ) → IsSound (front_by k code bytes) (suc (length bytes))
by_kind kind.Double code bytes =
    elim (cases_Bool (nat_lt (length bytes) 8)) [
      | inl e ↦ rw e tt
      | inr e ↦
          (let long : 9 ≤ suc (length bytes) = grind (arith, nat_tests, e) in
          rw e (double_sound _ (suc (length bytes)) long))
    ]
by_kind kind.Reference code bytes =
    elim (cases_Bool (nat_lt (length bytes) 4)) [
      | inl e ↦ rw e tt
      | inr e ↦
          (let long : 5 ≤ suc (length bytes) = grind (arith, nat_tests, e) in
          rw e (one_sound _ (suc (length bytes)) long))
    ]
by_kind kind.Range code bytes =
    elim (cases_Bool (nat_lt (length bytes) 8)) [
      | inl e ↦ rw e tt
      | inr e ↦
          (let long : 9 ≤ suc (length bytes) = grind (arith, nat_tests, e) in
          rw e (two_sound _ _ (suc (length bytes)) long))
    ]
by_kind kind.Finish code bytes = tt
by_kind kind.Brackets code bytes = (refl, omega arith, omega arith)
by_kind kind.Short code bytes =
    elim (cases_Bool (nat_lt (length bytes) 2)) [
      | inl e ↦ rw e tt
      | inr e ↦ (let long : 3 ≤ suc (length bytes) = grind (arith, nat_tests, e) in rw e (refl, omega arith, long))
    ]
by_kind kind.Text code bytes = text_sound (before_zero bytes) bytes refl
by_kind kind.Minus code bytes = (refl, omega arith, omega arith)
by_kind kind.Not code bytes = (refl, omega arith, omega arith)
by_kind kind.Plus code bytes = (refl, omega arith, omega arith)
by_kind (kind.Operator op) code bytes = (refl, omega arith, omega arith)
by_kind (kind.Function f) code bytes = function_sound f bytes
by_kind kind.LeftOut code bytes = tt
by_kind kind.Unknown code bytes = tt

-- a code at the front lies within the bytes, and keeps what a code that is read keeps
pub sound_front : (bytes : List ℕ) → IsSound (front_of bytes) (length bytes)
unfolding front_of
sound_front [] = tt
sound_front (code ∷ bytes) = by_kind (kind_of code) code bytes
