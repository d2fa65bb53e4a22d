-- What a record says is within the limits of a sheet.
use Rattle.std.proofs.Common.{◌≡◌, ℕ, ◌≤◌, ◌&&◌, true, List, length, take, drop, refl}
use Rattle.std.proofs.Common.{arith, inl, inr, subst}
use Rattle.std.specs.Prelude.{⊤, not, nat_lt, nat_le, Option, Some, None, Result, Ok, Err}
use Rattle.std.proofs.lemmas.Bool.{and_parts, cases_Bool}
use Rattle.std.proofs.lemmas.Bool.Decides.{nat_tests}
use Rattle.fixed_value.specs.declared.doubles.DoubleRead.{DoubleRead}
use Rattle.fixed_value.specs.declared.doubles.DoubleRead.TheVariants as double
use Rattle.formula_tree.specs.Ranges.{is_text}
use Rattle.formula_tree.specs.Tree.{Tree}
use Rattle.formula_tree.specs.declared.value.Value.TheVariants as value
use Rattle.range_names.specs.Names.{fault_of}
use Rattle.range_names.specs.declared.fault.NameFault.{NameFault}
use Rattle.sheet_store.specs.Choices.{is_global_prefix}
use Rattle.wk1_formula.specs.Reading.{before_zero, short_at}
use Rattle.wk1_formula.specs.Stack.{tree_in}
use Rattle.wk1_formula.specs.declared.fault.CodeFault.{CodeFault}
use Rattle.wk1_formula.specs.declared.fault.CodeFault.TheVariants as code
use Rattle.wk1_records.specs.Kinds.{has_head, least_length}
use Rattle.wk1_records.specs.Meanings.{byte_at, cell_of, code_in, double_at, formula_state}
use Rattle.wk1_records.specs.Meanings.{global_prefix, if_name, is_inside, is_span, is_width, label_of, label_state}
use Rattle.wk1_records.specs.Meanings.{meaning_by, name_entry, number_state, place_at, said, span_entry}
use Rattle.wk1_records.specs.Meanings.{stored_value, text_entry, width_entry, window_entry}
use Rattle.wk1_file.specs.inner.Takes.{IsEntry}
use Rattle.wk1_records.specs.declared.entry.Entry.{Entry}
use Rattle.wk1_records.specs.declared.fault.Wk1Fault.{Wk1Fault}
use Rattle.wk1_records.specs.declared.kind.RecordKind.{RecordKind}
use Rattle.wk1_records.specs.declared.kind.RecordKind.TheVariants as kind
use Rattle.lics_text.specs.Prefixes.{prefix_of}
use Rattle.lics_text.specs.declared.prefix.LabelPrefix.{LabelPrefix}

-- an answer that is within the limits, or a fault
abbrev pub AreEntry : Result Entry Wk1Fault → Type 0
AreEntry (Ok e) = IsEntry e
AreEntry (Err f) = ⊤

known_prefix : (o : Option LabelPrefix) → is_global_prefix (global_prefix o) ≡ true
known_prefix None = refl
known_prefix (Some p) = elim (cases_Bool (is_global_prefix p)) [
  | inl known ↦ rw known known
  | inr other ↦ rw other refl
]

wide : (n : ℕ) → is_width n ≡ true → (1 ≤ n) × (n ≤ 240)
wide n h =
    (let p = and_parts (nat_le 1 n) (nat_le n 240) h in (grind (arith, nat_tests, p.0), grind (arith, nat_tests, p.1)))

window_is : (body : List ℕ) → IsEntry (window_entry body)
window_is body = elim (cases_Bool (is_width (short_at 6 body))) [
  | inl ok ↦ rw ok (wide (short_at 6 body) ok)
  | inr other ↦ rw other (omega arith, omega arith)
]

width_is : (body : List ℕ) → IsEntry (width_entry body)
width_is body = elim (cases_Bool (nat_lt (short_at 0 body) 256 && is_width (byte_at 2 body))) [
  | inl ok ↦ rw ok (wide (byte_at 2 body) (and_parts (nat_lt (short_at 0 body) 256) (is_width (byte_at 2 body)) ok).1)
  | inr other ↦ rw other tt
]

span_is : (n : ℕ) (body name : List ℕ) → AreEntry (span_entry n body name)
span_is n body name = elim (cases_Bool (is_span (place_at 16 body) (place_at 20 body))) [
  | inl ok ↦ rw ok tt
  | inr other ↦ rw other tt
]

named_is : (n : ℕ) (body name : List ℕ) (f : Option NameFault) → AreEntry (if_name n body name f)
named_is n body name None = span_is n body name
named_is n body name (Some f) = tt

name_is : (n : ℕ) (body : List ℕ) (o : Option (List ℕ)) → AreEntry (name_entry n body o)
name_is n body None = tt
name_is n body (Some name) = named_is n body name (fault_of name)

number_is : (n : ℕ) (body : List ℕ) (d : DoubleRead) → AreEntry (number_state n body d)
number_is n body (double.Num v) = refl
number_is n body double.Err = λ x. absurd cc
number_is n body double.Na = λ x. absurd cc
number_is n body double.TooLarge = tt

label_is : (n : ℕ) (body : List ℕ) (o : Option (List ℕ)) → AreEntry (label_state n body o)
label_is n body None = tt
label_is n body (Some t) = elim (cases_Bool (is_text (label_of t).1)) [
  | inl ok ↦ rw ok refl
  | inr other ↦ rw other tt
]

stored_is : (d : DoubleRead) → stored_value d ≡ value.Blank → ⊥
stored_is (double.Num v) h = absurd cc
stored_is double.Err h = absurd cc
stored_is double.Na h = absurd cc
stored_is double.TooLarge h = absurd cc

formula_is : (n : ℕ) (body : List ℕ) (r : Result Tree CodeFault) → AreEntry (formula_state n body r)
formula_is n body (Ok t) = (stored_is (double_at 5 body), refl)
formula_is n body (Err (code.Bad at)) = tt
formula_is n body (Err (code.Outside f)) = tt
formula_is n body (Err code.TooLarge) = tt
formula_is n body (Err code.TooDeep) = tt
formula_is n body (Err code.Memory) = tt

text_is : (n : ℕ) (body : List ℕ) (o : Option (List ℕ)) → AreEntry (text_entry n body o)
text_is n body None = tt
text_is n body (Some t) = elim (cases_Bool (is_text t)) [
  | inl ok ↦ rw ok tt
  | inr other ↦ rw other tt
]

said_is : (n : ℕ) (body : List ℕ) (k : RecordKind) → AreEntry (said n body k)
said_is n body kind.Bof = tt
said_is n body kind.Eof = tt
said_is n body kind.CalcMode = tt
said_is n body kind.CalcOrder = tt
said_is n body kind.Range = tt
said_is n body kind.Window = window_is body
said_is n body kind.ColumnWidth = width_is body
said_is n body kind.Name = name_is n body (before_zero (take 16 body))
said_is n body kind.Blank = refl
said_is n body kind.Integer = refl
said_is n body kind.Number = number_is n body (double_at 5 body)
said_is n body kind.Label = label_is n body (before_zero (drop 5 body))
said_is n body kind.Formula = formula_is n body (tree_in (code_in body))
said_is n body kind.Protection = tt
said_is n body kind.LabelFormat = known_prefix (prefix_of (byte_at 0 body))
said_is n body kind.CalcCount = (omega arith, omega arith)
said_is n body kind.Str = text_is n body (before_zero (drop 5 body))
said_is n body kind.HiddenColumns = tt
said_is n body kind.Other = tt

meant_is : (n : ℕ) (body : List ℕ) (k : RecordKind) → AreEntry (meaning_by n body k)
meant_is n body k = elim (cases_Bool (nat_lt (length body) (least_length k body))) [
  | inl short ↦ rw short tt
  | inr long ↦ elim (cases_Bool (has_head k && not (is_inside (cell_of body)))) [
    | inl outside ↦ (let x : AreEntry (meaning_by n body k) = rw (long, outside) tt in x)
    | inr inside ↦ (let x : AreEntry (meaning_by n body k) = rw (long, inside) (said_is n body k) in x)
  ]
]

-- what a record says is within the limits
pub meant : (n : ℕ) (body : List ℕ) (k : RecordKind) (e : Entry) → meaning_by n body k ≡ Ok e → IsEntry e
meant n body k e h = subst AreEntry h (meant_is n body k)
