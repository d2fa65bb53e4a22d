-- A meaning is never Blank, and a formula that isn't volatile means what the cells that it reads make of it.
use Rattle.std.specs.Prelude.{◌≡◌, ◌||◌, refl, Bool, true, false, List, [], ◌∷◌, ◌++◌}
use Rattle.std.specs.List.{list_any}
use Rattle.std.proofs.Common.{ap, sym, ◌∙◌, arith, inl, inr}
use Rattle.std.proofs.lemmas.Bool.{cases_Bool}
use Rattle.grid_address.specs.Leads.{resolve}
use Rattle.grid_address.specs.Place.{is_within, Extent, Place}
use Rattle.formula_tree.specs.Spans.{any_volatile, is_volatile, spans_of, spans_of_all}
use Rattle.formula_tree.specs.Table.{is_volatile_function}
use Rattle.formula_tree.specs.declared.function.Function.{Function}
use Rattle.formula_tree.specs.declared.function.Function.TheVariants as function
use Rattle.formula_tree.specs.Tree.{Tree, num, str, cell, span, group, neg, not, binary, call, Trees, no_trees, trees}
use Rattle.formula_tree.specs.declared.value.Value.{Value}
use Rattle.formula_tree.specs.declared.value.Value.TheVariants as value
use Rattle.formula_parts.specs.declared.argument.Argument.{Argument}
use Rattle.formula_eval.specs.inner.Agreement.{in_arguments, in_operand, same_of, within_itself}
use Rattle.formula_parts.specs.Lists.{items_of, list_value}
use Rattle.formula_eval.specs.inner.Lookalike.{same_index, same_lookup}
use Rattle.formula_parts.specs.Lookups.{lookup_value}
use Rattle.formula_parts.specs.Calls.{called, one_value, three_value, two_value}
use Rattle.record_match.specs.Databases.{database_value}
use Rattle.formula_eval.specs.Mean.{mean, Reads}
use Rattle.formula_parts.specs.Parts.{arguments_by, call_value, filled_in, operand_of, value_by, Database}
use Rattle.value_functions.specs.Operators.{binary_value, denied, negated}
use Rattle.value_functions.specs.Scalars.{constant_value}
use Rattle.formula_parts.specs.Outlook.{Outlook}

not_blank : (v : Value) → filled_in v ≡ value.Blank → ⊥
not_blank value.Blank h = absurd cc
not_blank (value.Num x) h = absurd cc
not_blank (value.Str t) h = absurd cc
not_blank value.Err h = absurd cc
not_blank value.Na h = absurd cc

pub never_blank : (t : Tree) (at : Place) (w : Outlook) → mean t at w ≡ value.Blank → ⊥
unfolding mean
never_blank t at w h = not_blank (value_by database_value t at w) h

either_false : (a b : Bool) → (a || b) ≡ false → (a ≡ false) × (b ≡ false)
either_false true b h = absurd cc
either_false false b h = (refl, h)

-- values agree where a function's arguments are
abbrev AgreeOn : List Argument → Outlook → Outlook → Type 0
AgreeOn args w u = (p : Place) → in_arguments args p ≡ true → w.sight.values p ≡ u.sight.values p

same_constant : (f : Function) (w u : Outlook) → is_volatile_function f ≡ false →
    constant_value f w.day w.second ≡ constant_value f u.day u.second
same_constant function.Now w u s = absurd cc
same_constant f w u s = refl

same_one : (f : Function) (w u : Outlook) (a : Argument) → is_volatile_function f ≡ false →
    one_value f w a ≡ one_value f u a
same_one function.CellPointer w u a s = absurd cc
same_one function.Pointed w u a s = absurd cc
same_one f w u a s = refl

same_two : (f : Function) (w u : Outlook) (a b : Argument) → is_volatile_function f ≡ false →
    two_value f w a b ≡ two_value f u a b
same_two function.Cell w u a b s = absurd cc
same_two f w u a b s = refl

among : (args : List Argument) (a : Argument) (p : Place) (w u : Outlook) → AgreeOn (a ∷ args) w u →
    in_operand a.operand p ≡ true → w.sight.values p ≡ u.sight.values p
among args a p w u agree h = agree p (first (in_operand a.operand p) (in_arguments args p) h)
  where
    first : (a b : Bool) → a ≡ true → (a || b) ≡ true
    first a b h = grind arith

behind : (args : List Argument) (a : Argument) (w u : Outlook) → AgreeOn (a ∷ args) w u → AgreeOn args w u
behind args a w u agree = λ p h. agree p (second (in_operand a.operand p) (in_arguments args p) h)
  where
    second : (a b : Bool) → b ≡ true → (a || b) ≡ true
    second a b h = grind arith

same_table : (w u : Outlook) (across : Bool) (a b c : Argument) → AgreeOn (a ∷ b ∷ c ∷ []) w u →
    lookup_value w.sight.values across a.value b.operand c.value ≡
    lookup_value u.sight.values across a.value b.operand c.value
same_table w u across a b c agree =
    let within = behind (b ∷ c ∷ []) a w u agree in
    same_lookup w.sight.values u.sight.values across a.value b.operand c.value (λ p h. among (c ∷ []) b p w u within h)

same_three : (f : Function) (w u : Outlook) (a b c : Argument) → AgreeOn (a ∷ b ∷ c ∷ []) w u →
    three_value f w a b c ≡ three_value f u a b c
same_three function.VLookup w u a b c agree = same_table w u false a b c agree
same_three function.HLookup w u a b c agree = same_table w u true a b c agree
same_three function.Index w u a b c agree =
    same_index w.sight.values u.sight.values a.operand b.value c.value (λ p h. among (b ∷ c ∷ []) a p w u agree h)
same_three f w u a b c agree = refl

same_called : (f : Function) (w u : Outlook) (args : List Argument) → is_volatile_function f ≡ false →
    AgreeOn args w u → called f w args ≡ called f u args
same_called f w u [] s agree = same_constant f w u s
same_called f w u (a ∷ []) s agree = same_one f w u a s
same_called f w u (a ∷ b ∷ []) s agree = same_two f w u a b s
same_called f w u (a ∷ b ∷ c ∷ []) s agree = same_three f w u a b c agree
same_called f w u (a ∷ b ∷ c ∷ d ∷ []) s agree = refl
same_called f w u (a ∷ b ∷ c ∷ d ∷ e ∷ more) s agree = refl

same_list : (f : Function) (w u : Outlook) (args : List Argument) → AgreeOn args w u →
    list_value f (items_of w.sight.values args) ≡ list_value f (items_of u.sight.values args)
same_list f w u args agree = ap (list_value f) (same_of w.sight.values u.sight.values args agree)

same_call : (d : Database) (f : Function) (w u : Outlook) (args : List Argument) → is_volatile_function f ≡ false →
    AgreeOn args w u →
    call_value d f w args ≡ call_value d f u args
same_call d function.Choose w u args s agree = refl
same_call d function.If w u args s agree = refl
same_call d function.Sum w u args s agree = same_list function.Sum w u args agree
same_call d function.Avg w u args s agree = same_list function.Avg w u args agree
same_call d function.Count w u args s agree = same_list function.Count w u args agree
same_call d function.Min w u args s agree = same_list function.Min w u args agree
same_call d function.Max w u args s agree = same_list function.Max w u args agree
same_call d function.DSum w u args s agree = absurd cc
same_call d function.DAvg w u args s agree = absurd cc
same_call d function.DCount w u args s agree = absurd cc
same_call d function.DMin w u args s agree = absurd cc
same_call d function.DMax w u args s agree = absurd cc
same_call d f w u args s agree = same_called f w u args s agree

-- the ranges of arguments are among the spans that they read
any_here : (p : Place) (xs ys : List Extent) → list_any (λ s. is_within s p) xs ≡ true →
    list_any (λ s. is_within s p) (xs ++ ys) ≡ true
any_here p [] ys h = absurd cc
any_here p (x ∷ xs) ys h = elim (cases_Bool (is_within x p)) [
  | inl yet ↦ rw yet refl
  | inr no_more ↦ rw no_more (any_here p xs ys (sym (ap (λ b. b || list_any (λ s. is_within s p) xs) no_more) ∙ h))
]

any_there : (p : Place) (xs ys : List Extent) → list_any (λ s. is_within s p) ys ≡ true →
    list_any (λ s. is_within s p) (xs ++ ys) ≡ true
any_there p [] ys h = h
any_there p (x ∷ xs) ys h = second (is_within x p) (list_any (λ s. is_within s p) (xs ++ ys)) (any_there p xs ys h)
  where
    second : (a b : Bool) → b ≡ true → (a || b) ≡ true
    second a b h = grind arith

read_operand : (t : Tree) (at p : Place) → in_operand (operand_of t at) p ≡ true →
    list_any (λ s. is_within s p) (spans_of t at) ≡ true
read_operand (cell r) at p h = rw h refl
read_operand (span a b) at p h = rw h refl
read_operand (num v) at p h = absurd cc
read_operand (str t) at p h = absurd cc
read_operand (group a) at p h = absurd cc
read_operand (neg a) at p h = absurd cc
read_operand (not a) at p h = absurd cc
read_operand (binary op a b) at p h = absurd cc
read_operand (call f ts) at p h = absurd cc

-- values agree on the cells that are read
abbrev AgreeFor : List Extent → Outlook → Outlook → Type 0
AgreeFor spans w u = (c : Place) → list_any (λ s. is_within s c) spans ≡ true → w.sight.values c ≡ u.sight.values c

read_arguments : (d : Database) (ts : Trees) (at : Place) (w : Outlook) (p : Place) →
    in_arguments (arguments_by d ts at w) p ≡ true → list_any (λ s. is_within s p) (spans_of_all ts at) ≡ true
read_arguments d no_trees at w p h = absurd cc
read_arguments d (trees a ts) at w p h = elim (cases_Bool (in_operand (operand_of a at) p)) [
  | inl here ↦ any_here p (spans_of a at) (spans_of_all ts at) (read_operand a at p here)
  | inr later ↦ any_there p (spans_of a at) (spans_of_all ts at)
      (read_arguments d ts at w p (sym (ap (λ b. b || in_arguments (arguments_by d ts at w) p) later) ∙ h))
]

for_left : (xs ys : List Extent) (w u : Outlook) → AgreeFor (xs ++ ys) w u → AgreeFor xs w u
for_left xs ys w u h = λ c r. h c (any_here c xs ys r)

for_right : (xs ys : List Extent) (w u : Outlook) → AgreeFor (xs ++ ys) w u → AgreeFor ys w u
for_right xs ys w u h = λ c r. h c (any_there c xs ys r)

mutual
  value_reads : (d : Database) (t : Tree) (at : Place) (w u : Outlook) → is_volatile t ≡ false →
      AgreeFor (spans_of t at) w u → value_by d t at w ≡ value_by d t at u
  value_reads d (num v) at w u s h = refl
  value_reads d (str v) at w u s h = refl
  value_reads d (cell r) at w u s h = h (resolve r at) (rw (within_itself (resolve r at)) refl)
  value_reads d (span a b) at w u s h = refl
  value_reads d (group a) at w u s h = value_reads d a at w u s h
  value_reads d (neg a) at w u s h = ap negated (value_reads d a at w u s h)
  value_reads d (not a) at w u s h = ap denied (value_reads d a at w u s h)
  value_reads d (binary op a b) at w u s h =
      let steady_parts = either_false (is_volatile a) (is_volatile b) s in
      let one = value_reads d a at w u steady_parts.0 (for_left (spans_of a at) (spans_of b at) w u h) in
      let two = value_reads d b at w u steady_parts.1 (for_right (spans_of a at) (spans_of b at) w u h) in
      λ i. binary_value op (one i) (two i)
  value_reads d (call f ts) at w u s h =
      let parts = either_false (is_volatile_function f) (any_volatile ts) s in
      same_call d f w u (arguments_by d ts at w) parts.0 (λ p r. h p (read_arguments d ts at w p r))
      ∙ ap (call_value d f u) (arguments_read d ts at w u parts.1 h)

  arguments_read : (d : Database) (ts : Trees) (at : Place) (w u : Outlook) → any_volatile ts ≡ false →
      AgreeFor (spans_of_all ts at) w u → arguments_by d ts at w ≡ arguments_by d ts at u
  arguments_read d no_trees at w u s h = refl
  arguments_read d (trees a ts) at w u s h =
      let parts = either_false (is_volatile a) (any_volatile ts) s in
      let here = value_reads d a at w u parts.0 (for_left (spans_of a at) (spans_of_all ts at) w u h) in
      let more = arguments_read d ts at w u parts.1 (for_right (spans_of a at) (spans_of_all ts at) w u h) in
      λ i. record { value = here i; operand = operand_of a at } ∷ more i

pub reads_alone : (t : Tree) (at : Place) (w u : Outlook) → is_volatile t ≡ false →
    ((c : Place) → Reads t at c → w.sight.values c ≡ u.sight.values c) → mean t at w ≡ mean t at u
unfolding mean
reads_alone t at w u s h = ap filled_in (value_reads database_value t at w u s h)
