-- The tests of values, contents and states tell whether they are one.
use Rattle.std.specs.Bool.{Decides}
use Rattle.std.specs.Prelude.{◌≡◌, ℕ, nat_eq, Bool, true, false, bytes_eq, refl, List, Some, IfOk, Result, Ok, Err}
use Rattle.std.proofs.Common.{ap, sym, subst, ◌∙◌}
use Rattle.std.proofs.lemmas.Bool.{and_from, and_parts, false≢true}
use Rattle.std.proofs.lemmas.Bool.Decides.{Decides-eqb, Decides-int_eq}
use Rattle.std.proofs.lemmas.Slice.Eq.{bytes_eq-Decides}
use Rattle.formula_tree.specs.Tree.{Tree}
use Rattle.formula_tree.specs.declared.value.Content.{Content}
use Rattle.formula_tree.specs.declared.value.Content.TheVariants as content
use Rattle.formula_tree.specs.declared.value.Value.{Value}
use Rattle.formula_tree.specs.declared.value.Value.TheVariants as value
use Rattle.grid_address.proofs.Places.{same_place_is, same_place_itself}
use Rattle.grid_address.specs.Place.{Extent, InSheet, Place}
use Rattle.lics_text.specs.Prefixes.{prefix_byte, prefix_of}
use Rattle.lics_text.specs.declared.prefix.LabelPrefix.{LabelPrefix}
use Rattle.lics_text.proofs.Prefixes.{prefix_back}
use Rattle.sheet_store.specs.State.{CellState}
use Rattle.formula_tree.specs.Values.{same_value}
use Rattle.formula_tree.proofs.Values.{same_value_is}
use Rattle.sheet_undo.specs.inner.Same.{entry, named, same_content, same_entry, same_name, same_state, IsWritten}
use Rattle.wk1_formula.proofs.Again.{code_read}
use Rattle.wk1_formula.specs.Stack.{tree_in}
use Rattle.wk1_formula.specs.Written.{code_of}

bytes_itself : (xs : List ℕ) → bytes_eq xs xs ≡ true
bytes_itself xs = (bytes_eq-Decides xs xs).1 refl

nat_itself : (n : ℕ) → nat_eq n n ≡ true
nat_itself n = (Decides-eqb n n).1 refl

value_itself : (v : Value) → same_value v v ≡ true
value_itself value.Blank = refl
value_itself (value.Num x) = (Decides-int_eq x x).1 refl
value_itself (value.Str s) = bytes_itself s
value_itself value.Err = refl
value_itself value.Na = refl

prefix_is : (p q : LabelPrefix) → prefix_byte p ≡ prefix_byte q → p ≡ q
prefix_is p q e = let both : Some p ≡ Some q = sym (prefix_back p) ∙ ap prefix_of e ∙ prefix_back q in cc

label_is : (p q : LabelPrefix) (s t : List ℕ) → p ≡ q → s ≡ t → content.Label p s ≡ content.Label q t
label_is p q s t e f = λ i. content.Label (e i) (f i)

tree_is : (f g : Tree) (at : Place) → InSheet at → IsWritten (content.Formula f) → IsWritten (content.Formula g)
    → code_of f at ≡ code_of g at → f ≡ g
tree_is f g at inside v w e =
    let both : Ok f ≡ Ok g = sym (code_read f at v.0 v.1 inside) ∙ ap tree_in e ∙ code_read g at w.0 w.1 inside in cc

content_is : (at : Place) (x y : Content) → InSheet at → IsWritten x → IsWritten y → same_content at x y ≡ true → x ≡ y
content_is at content.Blank content.Blank inside v w h = refl
content_is at content.Blank (content.Number y) inside v w h = absurd (false≢true h)
content_is at content.Blank (content.Label q t) inside v w h = absurd (false≢true h)
content_is at content.Blank (content.Formula g) inside v w h = absurd (false≢true h)
content_is at (content.Number x) content.Blank inside v w h = absurd (false≢true h)
content_is at (content.Number x) (content.Number y) inside v w h = ap content.Number ((Decides-int_eq x y).0 h)
content_is at (content.Number x) (content.Label q t) inside v w h = absurd (false≢true h)
content_is at (content.Number x) (content.Formula g) inside v w h = absurd (false≢true h)
content_is at (content.Label p s) content.Blank inside v w h = absurd (false≢true h)
content_is at (content.Label p s) (content.Number y) inside v w h = absurd (false≢true h)
content_is at (content.Label p s) (content.Label q t) inside v w h = let both = and_parts _ _ h in label_is p q s t
    (prefix_is p q ((Decides-eqb (prefix_byte p) (prefix_byte q)).0 both.0)) ((bytes_eq-Decides s t).0 both.1)
content_is at (content.Label p s) (content.Formula g) inside v w h = absurd (false≢true h)
content_is at (content.Formula f) content.Blank inside v w h = absurd (false≢true h)
content_is at (content.Formula f) (content.Number y) inside v w h = absurd (false≢true h)
content_is at (content.Formula f) (content.Label q t) inside v w h = absurd (false≢true h)
content_is at (content.Formula f) (content.Formula g) inside v w h =
    ap content.Formula (tree_is f g at inside v w ((bytes_eq-Decides (code_of f at) (code_of g at)).0 h))

-- one formula has one code
pub same_codes : (f g : Tree) (at : Place) → f ≡ g → bytes_eq (code_of f at) (code_of g at) ≡ true
same_codes f g at e = ap (λ t. bytes_eq (code_of f at) (code_of t at)) (sym e) ∙ bytes_itself (code_of f at)

content_itself : (at : Place) (x : Content) → same_content at x x ≡ true
content_itself at content.Blank = refl
content_itself at (content.Number x) = (Decides-int_eq x x).1 refl
content_itself at (content.Label p s) = and_from _ _ (nat_itself (prefix_byte p)) (bytes_itself s)
content_itself at (content.Formula f) = bytes_itself (code_of f at)

state_is : (at : Place) (s t : CellState) → InSheet at → IsWritten s.content → IsWritten t.content
    → same_state at s t ≡ true → s ≡ t
state_is at s t inside v w h =
    let both = and_parts _ _ h in
    let rest = and_parts _ _ both.1 in
    let content = content_is at s.content t.content inside v w both.0 in
    let value = same_value_is s.value t.value rest.0 in
    let format = (Decides-eqb s.format.0 t.format.0).0 rest.1 in
    λ i. record { content = content i; value = value i; format = record { 0 = format i } }

state_itself : (at : Place) (s : CellState) → same_state at s s ≡ true
state_itself at s =
    and_from _ _ (content_itself at s.content) (and_from _ _ (value_itself s.value) (nat_itself s.format.0))

-- entries of stores
entry_decides : (b : Bool) (c d : Place) (s t : CellState) → InSheet c → IsWritten s.content → IsWritten t.content
    → b ≡ same_entry c s d t → Decides b (entry c s ≡ entry d t)
entry_decides b c d s t inside v w is = (
  λ e.
      let both = and_parts _ _ (sym is ∙ e) in
      let place = same_place_is c d both.0 in
      let state = state_is c s t inside v w both.1 in
      λ i. (place i, state i),
  λ e. is ∙ subst (λ (z : Place × CellState). same_entry c s z.0 z.1 ≡ true) e
      (and_from _ _ (same_place_itself c) (state_itself c s)),
)

-- where the test of two entries answers, it tells whether they are one
pub entry_told : {E : Type 0} (r : Result Bool E) (c d : Place) (s t : CellState) → InSheet c → IsWritten s.content
    → IsWritten t.content → IfOk r (λ b. b ≡ same_entry c s d t) → IfOk r (λ b. Decides b (entry c s ≡ entry d t))
entry_told (Ok b) c d s t inside v w h = entry_decides b c d s t inside v w h
entry_told (Err e) c d s t inside v w h = h

-- names with their spans
pub name_decides : (b : Bool) (k l : List ℕ) (s t : Extent) → b ≡ same_name k s l t → Decides b (named k s ≡ named l t)
name_decides b k l s t is = (
  λ e.
      let both = and_parts _ _ (sym is ∙ e) in
      let corners = and_parts _ _ both.1 in
      let key = (bytes_eq-Decides k l).0 both.0 in
      let first = same_place_is s.first t.first corners.0 in
      let last = same_place_is s.last t.last corners.1 in
      λ i. (key i, record { first = first i; last = last i }),
  λ e. is ∙ subst (λ (z : List ℕ × Extent). same_name k s z.0 z.1 ≡ true) e
      (and_from _ _ (bytes_itself k) (and_from _ _ (same_place_itself s.first) (same_place_itself s.last))),
)
