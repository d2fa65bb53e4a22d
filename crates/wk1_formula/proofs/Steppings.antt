-- The stack of trees after each code.
use Rattle.std.proofs.Common.{◌≡◌, ℕ, ◌≤◌, ◌<◌, true, false, nat_le, List, [], ◌∷◌, ◌++◌, length, take, drop, reverse}
use Rattle.std.proofs.Common.{refl, ap, ◌∙◌, sym, subst, arith, length-append}
use Rattle.std.specs.Prelude.{nat_lt, Some, None, Bool, IfOk, Result, Ok, Err}
use Rattle.std.proofs.lemmas.Bool.{false≢true}
use Rattle.std.proofs.lemmas.Bool.Decides.{nat_tests}
use Rattle.std.proofs.lemmas.List.{length-reverse, reverse-append, reverse-reverse}
use Rattle.formula_tree.specs.Tree.{Tree, binary, call}
use Rattle.formula_tree.specs.View.{listed}
use Rattle.formula_tree.specs.Table.{counts_of, takes}
use Rattle.formula_tree.specs.declared.ast.Op.{Op}
use Rattle.wk1_formula.specs.Codes.{Code, operator, function, plus}
use Rattle.wk1_formula.specs.inner.Items.{built, AreItems, IsItem}
use Rattle.wk1_formula.specs.inner.Gathered.{IsGathered}
use Rattle.wk1_formula.specs.Stack.{after, called, left_operand, right_operand}
use Rattle.wk1_formula.specs.inner.Steps.{code_over, held, HasStepped}
use Rattle.wk1_formula.specs.declared.gather.Gathered.{Gathered}
use Rattle.wk1_formula.specs.declared.item.Item.{Item}
use Rattle.wk1_formula.specs.declared.item.One.{One}
use Rattle.wk1_formula.specs.declared.item.One.TheVariants.{Group, Neg, Not}
use Rattle.formula_tree.specs.declared.function.Function.{Function}
use Rattle.formula_tree.specs.declared.function.Function.TheVariants as function_named

-- a code that puts a tree
put : (c : Code) (t : Tree) (i : Item) (old now : List Item) → ((ts : List Tree) → after c ts ≡ Some (t ∷ ts))
    → now ≡ i ∷ old → IsItem i t → (ts : List Tree) → AreItems old ts → HasStepped c true now ts
put c t i old now does is item ts h = (t ∷ ts, does ts, subst (λ l. AreItems l (t ∷ ts)) (sym is) (item, h))

-- what going on with an item comes to
pub went_on : {E : Type 0} (c : Code) (i : Item) (old start now : List Item) (r : Result Bool E)
    → (now ≡ i ∷ old → (ts : List Tree) → AreItems start ts → HasStepped c true now ts)
    → IfOk r (λ went. (went ≡ true) × (now ≡ i ∷ old))
    → IfOk r (λ went. (ts : List Tree) → AreItems start ts → HasStepped c went now ts)
went_on c i old start now (Ok true) does h = does h.1
went_on c i old start now (Ok false) does h = absurd (false≢true h.0)
went_on c i old start now (Err e) does h = tt

-- the same of a code that puts a tree
pub put_on : {E : Type 0} (k c : Code) (t : Tree) (i : Item) (old now : List Item) (r : Result Bool E) → k ≡ c
    → ((ts : List Tree) → after c ts ≡ Some (t ∷ ts)) → IsItem i t
    → IfOk r (λ went. (went ≡ true) × (now ≡ i ∷ old))
    → IfOk r (λ went. (ts : List Tree) → AreItems old ts → HasStepped k went now ts)
put_on k c t i old now r is does item =
    went_on k i old old now r (λ e. subst (λ d. (ts : List Tree) → AreItems old ts → HasStepped d true now ts) (sym is)
    (put c t i old now does e item))

over_does : (one : One) (t : Tree) (ts : List Tree)
    → after (code_over one) (t ∷ ts) ≡ Some (built one (held one t) ∷ ts)
over_does Group t ts = refl
over_does Neg t ts = refl
over_does Not t ts = refl

went_over : (one : One) (i j : Item) (rest now : List Item) → now ≡ j ∷ rest
    → ((t : Tree) → IsItem i t → IsItem j (built one (held one t))) → (ts : List Tree) → AreItems (i ∷ rest) ts
    → HasStepped (code_over one) true now ts
went_over one i j rest now is makes [] h = absurd h
went_over one i j rest now is makes (t ∷ ts) h = (
  built one (held one t) ∷ ts,
  over_does one t ts,
  subst (λ l. AreItems l (built one (held one t) ∷ ts)) (sym is) (makes t h.0, h.1),
)

-- with the last item built over, the stack goes on by the code of what stands over it
pub over : (one : One) (i j : Item) (old rest now : List Item) → old ≡ i ∷ rest → now ≡ j ∷ rest
    → ((t : Tree) → IsItem i t → IsItem j (built one (held one t))) → (ts : List Tree) → AreItems old ts
    → HasStepped (code_over one) true now ts
over one i j old rest now was is makes ts h = went_over one i j rest now is makes ts (subst (λ l. AreItems l ts) was h)

went_two : (op : Op) (i j k : Item) (rest now : List Item) → now ≡ k ∷ rest
    → ((a b : Tree) → IsItem j a → IsItem i b → IsItem k (binary op (left_operand op a) (right_operand op b)))
    → (ts : List Tree) → AreItems (i ∷ j ∷ rest) ts → HasStepped (operator op) true now ts
went_two op i j k rest now is makes [] h = absurd h
went_two op i j k rest now is makes (b ∷ []) h = absurd h.1
went_two op i j k rest now is makes (b ∷ a ∷ ts) h =
    let t = binary op (left_operand op a) (right_operand op b) in
    (t ∷ ts, refl, subst (λ l. AreItems l (t ∷ ts)) (sym is) (makes a b h.1.0 h.0, h.1.1))

-- with the last two items joined by an operator, the stack goes on by the operator's code
pub two : (op : Op) (i j k : Item) (old mid rest now : List Item) → old ≡ i ∷ mid → mid ≡ j ∷ rest → now ≡ k ∷ rest
    → ((a b : Tree) → IsItem j a → IsItem i b → IsItem k (binary op (left_operand op a) (right_operand op b)))
    → (ts : List Tree) → AreItems old ts → HasStepped (operator op) true now ts
two op i j k old mid rest now was then is makes ts h =
    went_two op i j k rest now is makes ts (subst (λ l. AreItems l ts) (was ∙ ap (λ l. i ∷ l) then) h)

-- there are as many trees as items
pub same_length : (is : List Item) (ts : List Tree) → AreItems is ts → length is ≡ length ts
same_length [] [] h = refl
same_length [] (t ∷ ts) h = absurd h
same_length (i ∷ is) [] h = absurd h
same_length (i ∷ is) (t ∷ ts) h = omega (arith, same_length is ts h.1)

-- the trees of items that stand before others
first_items : (is js : List Item) (ts : List Tree) → AreItems (is ++ js) ts
    → AreItems is (take (length is) ts) × AreItems js (drop (length is) ts)
first_items [] js ts h = (tt, h)
first_items (i ∷ is) js [] h = absurd h
first_items (i ∷ is) js (t ∷ ts) h = (let x = first_items is js ts h.1 in ((h.0, x.0), x.1))

-- a function that takes more arguments than the stack has lacks operands
pub lacks_call : (f : Function) (n : ℕ) (is : List Item) → length is < n → (ts : List Tree) → AreItems is ts
    → after (function f n) ts ≡ None
lacks_call f n is few ts h =
    let short : nat_le n (length ts) ≡ false =
    (let l : length ts < n = omega (arith, few, same_length is ts h) in grind (arith, nat_tests, l)) in
    rw short refl

-- with its arguments made a call, the stack goes on by the function's code
pub went_call : (f : Function) (n : ℕ) (args rest now : List Item) (g : Gathered) (i : Item) → length args ≡ n
    → now ≡ i ∷ rest → takes (counts_of f) n ≡ true
    → ((ts : List Tree) → AreItems args ts → IsGathered g (reverse ts))
    → ((us : List Tree) → IsGathered g us → takes (counts_of f) (length us) ≡ true → IsItem i (call f (listed us)))
    → (ts : List Tree) → AreItems (args ++ rest) ts → HasStepped (function f n) true now ts
went_call f n args rest now g i len is taken gathers makes ts h =
    let x = first_items args rest ts h in
    let first : List Tree = take (length args) ts in
    let behind : List Tree = drop (length args) ts in
    let count : length first ≡ n = sym (same_length args first x.0) ∙ len in
    let all : n ≤ length ts = omega (arith, same_length (args ++ rest) ts h, len, length-append args rest) in
    let enough : nat_le n (length ts) ≡ true = grind (arith, nat_tests, all) in
    let told : takes (counts_of f) (length (reverse first)) ≡ true =
    ap (takes (counts_of f)) (length-reverse first ∙ count) ∙ taken in
    let does : called f n ts ≡ Some (call f (listed (reverse first)) ∷ behind) =
    rw enough (ap (λ k. Some (call f (listed (reverse (take k ts))) ∷ drop k ts)) (sym len)) in (
      call f (listed (reverse first)) ∷ behind,
      does,
      subst (λ l. AreItems l (call f (listed (reverse first)) ∷ behind)) (sym is)
          (makes (reverse first) (gathers first x.0) told, x.1),
    )

-- what was taken from the end of a stack stands before the rest, the last first
pub turned : (old now args : List Item) → now ++ reverse args ≡ old → reverse old ≡ args ++ reverse now
turned old now args e =
    ap reverse (sym e) ∙ reverse-append now (reverse args) ∙ ap (λ l. l ++ reverse now) (reverse-reverse args)

some_plus : (is : List Item) (n : ℕ) → length is ≡ n → (ts : List Tree) → AreItems is ts
    → HasStepped plus (nat_lt 0 n) is ts
some_plus [] n len [] h = (let none : nat_lt 0 n ≡ false = grind (arith, nat_tests, len) in rw none refl)
some_plus [] n len (t ∷ ts) h = absurd h
some_plus (i ∷ is) n len [] h = absurd h
some_plus (i ∷ is) n len (t ∷ ts) h =
    (let some : nat_lt 0 n ≡ true = (let l : 0 < n = omega (arith, len) in grind (arith, nat_tests, l)) in
    rw some (t ∷ ts, refl, h))

-- a plus leaves the stack as it is, and lacks an operand where there is none
pub plus_went : (stack : List Item) (ts : List Tree) → AreItems (reverse stack) ts
    → HasStepped plus (nat_lt 0 (length stack)) (reverse stack) ts
plus_went stack ts h = some_plus (reverse stack) (length stack) (length-reverse stack) ts h

-- @ERR takes no argument
pub bare_error : takes (counts_of function_named.Err) 0 ≡ true
bare_error = refl

-- @NA takes no argument
pub bare_missing : takes (counts_of function_named.Na) 0 ≡ true
bare_missing = refl
