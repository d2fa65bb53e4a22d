-- A text that has no fault spells the tree of its tokens.
use Rattle.std.proofs.Common.{◌≡◌, ℕ, ◌+◌, ◌≤◌, ◌<◌, min, Bool, true, false, cond, ◌&&◌, nat_le, nat_lt, List, [], ◌∷◌}
use Rattle.std.proofs.Common.{◌++◌, length, Result, Ok, Err, IfOk, refl, sym, ap, ◌∙◌, subst, arith, append_assoc}
use Rattle.std.proofs.Common.{append-nil}
use Rattle.std.proofs.lemmas.Bool.Decides.{nat_tests}
use Rattle.std.proofs.lemmas.Bool.{and_from, and_parts, leb-false, leb-true, lt-ltb, ltb-true}
use Rattle.formula_tree.specs.declared.function.Function.{Function as AtFunction}
use Rattle.formula_tree.specs.declared.ast.Op.{Op}
use Rattle.formula_tree.specs.declared.ast.Op.TheVariants.{Pow, Mul, Div, Add, Sub, Eq, Ne, Lt, Gt, Le, Ge, And, Or}
use Rattle.formula_tree.specs.declared.ast.Op.TheVariants.{Join}
use Rattle.formula_tree.specs.Tree.{Tree, num, str, cell, span, group, neg, not, binary, call, no_trees}
use Rattle.formula_tree.specs.Shape.{every, every_one, is_bracketed, level, lowest, top}
use Rattle.formula_tree.specs.Table.{counts_of, takes}
use Rattle.formula_tree.specs.View.{listed}
use Rattle.formula_tree.proofs.Levels.{level_below}
use Rattle.grid_address.specs.Place.{Place}
use Rattle.range_names.specs.Names.{NameMap}
use Rattle.formula_text.specs.declared.fault.ParseFault.{ParseFault}
use Rattle.formula_text.specs.declared.fault.ParseFault.TheVariants.{TooLong}
use Rattle.formula_text.specs.declared.lexeme.LexemeKind.{LexemeKind}
use Rattle.formula_text.specs.declared.lexeme.LexemeKind.TheVariants.{Bad, Cell, Close, Comma, Constant, Function}
use Rattle.formula_text.specs.declared.lexeme.LexemeKind.TheVariants.{Infix, Not, Num, Open as OpenKind, Span, Str}
use Rattle.formula_text.specs.declared.lexeme.LexemeKind.TheVariants.{Unclosed}
use Rattle.formula_text.specs.declared.lexeme.Lexeme.{Lexeme}
use Rattle.formula_text.specs.declared.parse.Bracket.TheVariants.{Plain, Call}
use Rattle.formula_text.specs.Accepts.{after, bracket_first, bracket_row, close_row, comma_row, front_row}
use Rattle.formula_text.specs.Accepts.{operand_first, operand_row, operator_first, operator_row, Brackets, Verdict}
use Rattle.formula_text.specs.Lexed.{lexed}
use Rattle.formula_text.specs.Reading.{beside, having, reading, told_tree, tree_of_tokens, wanting, Open, plain}
use Rattle.formula_text.specs.Reading.{function}
use Rattle.formula_text.specs.Texts.{ArePartsOf, Spells}
use Rattle.formula_text.specs.Tokens.{Token, number, text, place, places, opening, closing, comma, front_minus}
use Rattle.formula_text.specs.Tokens.{front_not, infix_op, constant, called, tokens, more_tokens}
use Rattle.formula_text.proofs.Treed.{found_again}

-- ---- an operator beside a tree

beside_tokens : (op : Op) (t x : Tree) → tokens (beside op t x) ≡ tokens t ++ (infix_op op ∷ tokens x)
beside_tokens op (num v) x = refl
beside_tokens op (str v) x = refl
beside_tokens op (cell v) x = refl
beside_tokens op (span v w) x = refl
beside_tokens op (group a) x = refl
beside_tokens op (call f ts) x = refl
beside_tokens op (neg a) x = either (nat_le (level op) (lowest (neg a))) (beside_tokens op a x)
  where
    either : (b : Bool) → tokens (beside op a x) ≡ tokens a ++ (infix_op op ∷ tokens x) → tokens (cond b
        (binary op (neg a) x) (neg (beside op a x))) ≡ front_minus ∷ (tokens a ++ (infix_op op ∷ tokens x))
    either true h = refl
    either false h = ap (λ ts. front_minus ∷ ts) h
beside_tokens op (not a) x = either (nat_le (level op) (lowest (not a))) (beside_tokens op a x)
  where
    either : (b : Bool) → tokens (beside op a x) ≡ tokens a ++ (infix_op op ∷ tokens x) → tokens (cond b
        (binary op (not a) x) (not (beside op a x))) ≡ front_not ∷ (tokens a ++ (infix_op op ∷ tokens x))
    either true h = refl
    either false h = ap (λ ts. front_not ∷ ts) h
beside_tokens op (binary o a b) x = either (nat_le (level op) (lowest (binary o a b))) (beside_tokens op b x)
  where
    either : (c : Bool) → tokens (beside op b x) ≡ tokens b ++ (infix_op op ∷ tokens x)
        → tokens (cond c (binary op (binary o a b) x) (binary o a (beside op b x)))
        ≡ (tokens a ++ (infix_op o ∷ tokens b)) ++ (infix_op op ∷ tokens x)
    either true h = refl
    either false h = ap (λ ts. tokens a ++ (infix_op o ∷ ts)) h
        ∙ sym (append_assoc (tokens a) (infix_op o ∷ tokens b) (infix_op op ∷ tokens x))

-- the operator at the top stays, or is the new one
beside_top : (op : Op) (t x : Tree) (n : ℕ) → n < top t → min (lowest t) n < level op → n < top (beside op t x)
beside_top op (num v) x n h k = omega (arith, h, k)
beside_top op (str v) x n h k = omega (arith, h, k)
beside_top op (cell v) x n h k = omega (arith, h, k)
beside_top op (span v w) x n h k = omega (arith, h, k)
beside_top op (group a) x n h k = omega (arith, h, k)
beside_top op (call f ts) x n h k = omega (arith, h, k)
beside_top op (neg a) x n h k = either (nat_le (level op) (lowest (neg a))) refl
  where
    either : (b : Bool) → nat_le (level op) (lowest (neg a)) ≡ b
        → n < top (cond b (binary op (neg a) x) (neg (beside op a x)))
    either true e = omega (arith, k, leb-true (level op) (lowest (neg a)) e)
    either false e = h
beside_top op (not a) x n h k = either (nat_le (level op) (lowest (not a))) refl
  where
    either : (b : Bool) → nat_le (level op) (lowest (not a)) ≡ b
        → n < top (cond b (binary op (not a) x) (not (beside op a x)))
    either true e = omega (arith, k, leb-true (level op) (lowest (not a)) e)
    either false e = h
beside_top op (binary o a b) x n h k = either (nat_le (level op) (lowest (binary o a b))) refl
  where
    either : (c : Bool) → nat_le (level op) (lowest (binary o a b)) ≡ c
        → n < top (cond c (binary op (binary o a b) x) (binary o a (beside op b x)))
    either true e = omega (arith, k, leb-true (level op) (lowest (binary o a b)) e)
    either false e = h

well_binary : (op : Op) (a b : Tree) → every is_bracketed a ≡ true → every is_bracketed b ≡ true
    → nat_le (level op) (lowest a) ≡ true → nat_lt (level op) (top b) ≡ true → every is_bracketed (binary op a b) ≡ true
well_binary op a b p q h k = and_from _ _ (and_from _ _ h k) (and_from _ _ p q)

level_within : (op : Op) → nat_le (level op) 8 ≡ true
level_within op = let h = level_below op in grind (arith, nat_tests, h)

tight : (op : Op) (x : Tree) → top x ≡ 8 → nat_lt (level op) (top x) ≡ true
tight op x e = lt-ltb _ _ (omega (arith, e, level_below op))

-- brackets stay right
beside_well : (op : Op) (t x : Tree) → every is_bracketed t ≡ true → every is_bracketed x ≡ true → top x ≡ 8
    → every is_bracketed (beside op t x) ≡ true
beside_well op (num v) x w u e = well_binary op (num v) x w u (level_within op) (tight op x e)
beside_well op (str v) x w u e = well_binary op (str v) x w u (level_within op) (tight op x e)
beside_well op (cell v) x w u e = well_binary op (cell v) x w u (level_within op) (tight op x e)
beside_well op (span v z) x w u e = well_binary op (span v z) x w u (level_within op) (tight op x e)
beside_well op (group a) x w u e = well_binary op (group a) x w u (level_within op) (tight op x e)
beside_well op (call f ts) x w u e = well_binary op (call f ts) x w u (level_within op) (tight op x e)
beside_well op (neg a) x w u e = either (nat_le (level op) (lowest (neg a))) refl
    (beside_well op a x (and_parts (nat_lt 6 (top a)) (every is_bracketed a) w).1 u e)
  where
    either : (b : Bool) → nat_le (level op) (lowest (neg a)) ≡ b → every is_bracketed (beside op a x) ≡ true
        → every is_bracketed (cond b (binary op (neg a) x) (neg (beside op a x))) ≡ true
    either true k h = well_binary op (neg a) x w u k (tight op x e)
    either false k h = and_from _ _ (lt-ltb _ _ (beside_top op a x 6
        (ltb-true _ _ (and_parts (nat_lt 6 (top a)) (every is_bracketed a) w).0) (leb-false _ _ k))) h
beside_well op (not a) x w u e = either (nat_le (level op) (lowest (not a))) refl
    (beside_well op a x (and_parts (nat_lt 2 (top a)) (every is_bracketed a) w).1 u e)
  where
    either : (b : Bool) → nat_le (level op) (lowest (not a)) ≡ b → every is_bracketed (beside op a x) ≡ true
        → every is_bracketed (cond b (binary op (not a) x) (not (beside op a x))) ≡ true
    either true k h = well_binary op (not a) x w u k (tight op x e)
    either false k h = and_from _ _ (lt-ltb _ _ (beside_top op a x 2
        (ltb-true _ _ (and_parts (nat_lt 2 (top a)) (every is_bracketed a) w).0) (leb-false _ _ k))) h
beside_well op (binary o a b) x w u e =
    let node = (and_parts (is_bracketed (binary o a b)) (every is_bracketed a && every is_bracketed b) w).0 in
    let parts = (and_parts (is_bracketed (binary o a b)) (every is_bracketed a && every is_bracketed b) w).1 in
    either node parts (nat_le (level op) (lowest (binary o a b))) refl
    (beside_well op b x (and_parts (every is_bracketed a) (every is_bracketed b) parts).1 u e)
  where
    either : is_bracketed (binary o a b) ≡ true → (every is_bracketed a && every is_bracketed b) ≡ true → (c : Bool)
        → nat_le (level op) (lowest (binary o a b)) ≡ c → every is_bracketed (beside op b x) ≡ true →
        every is_bracketed (cond c (binary op (binary o a b) x) (binary o a (beside op b x))) ≡ true
    either node parts true k h = well_binary op (binary o a b) x w u k (tight op x e)
    either node parts false k h =
        well_binary o a (beside op b x) (and_parts (every is_bracketed a) (every is_bracketed b) parts).0 h
        (and_parts (nat_le (level o) (lowest a)) (nat_lt (level o) (top b)) node).0
        (lt-ltb _ _ (beside_top op b x (level o)
        (ltb-true _ _ (and_parts (nat_le (level o) (lowest a)) (nat_lt (level o) (top b)) node).1) (leb-false _ _ k)))

-- ---- what stands before an operand

record IsFront (f : Tree → Tree) (front : List Token) : Type 0 where
  same : (x : Tree) → tokens (f x) ≡ front ++ tokens x
  well : (x : Tree) → every is_bracketed x ≡ true → top x ≡ 8 → every is_bracketed (f x) ≡ true

no_front : IsFront (λ x. x) []
no_front = record { same = λ x. refl; well = λ x w e. w }

behind_tree : (op : Op) (t : Tree) → every is_bracketed t ≡ true → IsFront (beside op t) (tokens t ++ infix_op op ∷ [])
behind_tree op t w = record {
  same = λ x. beside_tokens op t x ∙ sym (append_assoc (tokens t) (infix_op op ∷ []) (tokens x));
  well = λ x u e. beside_well op t x w u e;
}

high : (n : ℕ) (x : Tree) → n < 8 → top x ≡ 8 → nat_lt n (top x) ≡ true
high n x h e = lt-ltb _ _ (omega (arith, h, e))

behind_minus : (f : Tree → Tree) (front : List Token) → IsFront f front
    → IsFront (λ x. f (neg x)) (front ++ front_minus ∷ [])
behind_minus f front i = record {
  same = λ x. i.same (neg x) ∙ sym (append_assoc front (front_minus ∷ []) (tokens x));
  well = λ x u e. i.well (neg x) (and_from _ _ (high 6 x (omega arith) e) u) refl;
}

behind_not : (f : Tree → Tree) (front : List Token) → IsFront f front
    → IsFront (λ x. f (not x)) (front ++ front_not ∷ [])
behind_not f front i = record {
  same = λ x. i.same (not x) ∙ sym (append_assoc front (front_not ∷ []) (tokens x));
  well = λ x u e. i.well (not x) (and_from _ _ (high 2 x (omega arith) e) u) refl;
}

-- ---- the tokens of complete arguments, each with its comma

abbrev with_commas : List Tree → List Token
with_commas [] = []
with_commas (t ∷ ts) = tokens t ++ (comma ∷ with_commas ts)

one_comma_more : (us : List Tree) (t : Tree) → with_commas (us ++ t ∷ []) ≡ with_commas us ++ (tokens t ++ comma ∷ [])
one_comma_more [] t = refl
one_comma_more (u ∷ us) t = ap (λ x. tokens u ++ (comma ∷ x)) (one_comma_more us t)
    ∙ sym (append_assoc (tokens u) (comma ∷ with_commas us) (tokens t ++ comma ∷ []))

last_more : (us : List Tree) (t : Tree)
    → more_tokens (listed (us ++ t ∷ [])) ≡ comma ∷ (with_commas us ++ (tokens t ++ closing ∷ []))
last_more [] t = refl
last_more (u ∷ us) t = ap (λ x. comma ∷ (tokens u ++ x)) (last_more us t)
    ∙ ap (λ x. comma ∷ x) (sym (append_assoc (tokens u) (comma ∷ with_commas us) (tokens t ++ closing ∷ [])))

call_tokens : (g : AtFunction) (us : List Tree) (t : Tree)
    → tokens (call g (listed (us ++ t ∷ []))) ≡ called g ∷ (with_commas us ++ (tokens t ++ closing ∷ []))
call_tokens g [] t = refl
call_tokens g (u ∷ us) t = ap (λ x. called g ∷ (tokens u ++ x)) (last_more us t)
    ∙ ap (λ x. called g ∷ x) (sym (append_assoc (tokens u) (comma ∷ with_commas us) (tokens t ++ closing ∷ [])))

all_well : (us : List Tree) (t : Tree) → every_one is_bracketed (listed us) ≡ true → every is_bracketed t ≡ true
    → every_one is_bracketed (listed (us ++ t ∷ [])) ≡ true
all_well [] t p q = and_from _ _ q refl
all_well (u ∷ us) t p q = and_from _ _ (and_parts (every is_bracketed u) (every_one is_bracketed (listed us)) p).0
    (all_well us t (and_parts (every is_bracketed u) (every_one is_bracketed (listed us)) p).1 q)

-- ---- the open brackets, and the tokens before the innermost one's

record IsPlain (f : Tree → Tree) (before earlier : List Token) : Type 0 where
  front : List Token
  is : IsFront f front
  are : before ≡ (earlier ++ front) ++ opening ∷ []

record IsCall (f : Tree → Tree) (g : AtFunction) (us : List Tree) (before earlier : List Token) : Type 0 where
  front : List Token
  is : IsFront f front
  well : every_one is_bracketed (listed us) ≡ true
  are : before ≡ (earlier ++ front) ++ (called g ∷ with_commas us)

abbrev AreOpen : List Open → Brackets → List Token → Type 0
AreOpen [] [] before = before ≡ []
AreOpen [] (b ∷ bs) before = ⊥
AreOpen (o ∷ os) [] before = ⊥
AreOpen (plain f ∷ os) (Plain ∷ bs) before = (earlier : List Token) × IsPlain f before earlier × AreOpen os bs earlier
AreOpen (plain f ∷ os) (Call c n ∷ bs) before = ⊥
AreOpen (function f g us ∷ os) (Plain ∷ bs) before = ⊥
AreOpen (function f g us ∷ os) (Call c n ∷ bs) before =
    (earlier : List Token) × IsCall f g us before earlier × AreOpen os bs earlier

-- ---- what the tokens come to

record IsTreeOf (ts : List Token) (t : Tree) : Type 0 where
  same : tokens t ≡ ts
  well : every is_bracketed t ≡ true

abbrev Told : List Token → (List Token → Tree) → Verdict → Type 0
Told before k (Ok ts) = IsTreeOf (before ++ ts) (k ts)
Told before k (Err f) = Unit {0}

told_more : (x : Token) (before : List Token) (k : List Token → Tree) (v : Verdict)
    → Told (before ++ x ∷ []) (λ ts. k (x ∷ ts)) v → Told before k (after (x ∷ []) v)
told_more x before k (Ok ts) h = record { same = h.same ∙ append_assoc before (x ∷ []) ts; well = h.well }
told_more x before k (Err f) h = tt

abbrev Operands : (Brackets → Verdict) → Type 0
Operands v = (f : Tree → Tree) (front : List Token) → IsFront f front → (os : List Open) (bs : Brackets)
    (before : List Token) → AreOpen os bs before → Told (before ++ front) (wanting f os) (v bs)

abbrev Operators : (Brackets → Verdict) → Type 0
Operators v = (t : Tree) → every is_bracketed t ≡ true → (os : List Open) (bs : Brackets) (before : List Token)
    → AreOpen os bs before → Told (before ++ tokens t) (having t os) (v bs)

abbrev Calls : (AtFunction → Brackets → Verdict) → Type 0
Calls v = (g : AtFunction) (f : Tree → Tree) (front : List Token) → IsFront f front
    → (os : List Open) (bs : Brackets) (before : List Token) → AreOpen os bs before →
    Told ((before ++ front) ++ called g ∷ []) (wanting (λ x. x) (function f g [] ∷ os)) (v g bs)

-- an operand of one token
leaf : (x : Token) (t : Tree) (operator : Brackets → Verdict) → Operators operator → tokens t ≡ x ∷ []
    → every is_bracketed t ≡ true → top t ≡ 8 →
    (f : Tree → Tree) (front : List Token) → IsFront f front → (os : List Open) (bs : Brackets) (before : List Token)
    → AreOpen os bs before → Told ((before ++ front) ++ x ∷ []) (having (f t) os) (operator bs)
leaf x t operator h same well high f front i os bs before o =
    subst (λ ts. Told ts (having (f t) os) (operator bs))
    (ap (λ ts. before ++ ts) (i.same t ∙ ap (λ ts. front ++ ts) same) ∙ sym (append_assoc before front (x ∷ [])))
    (h (f t) (i.well t well high) os bs before o)

-- an operand behind one sign more
behind : (x : Token) (f f' : Tree → Tree) (front : List Token) (operand : Brackets → Verdict) → Operands operand
    → IsFront f' (front ++ x ∷ []) → (os : List Open) (bs : Brackets) (before : List Token) → AreOpen os bs before →
    Told ((before ++ front) ++ x ∷ []) (wanting f' os) (operand bs)
behind x f f' front operand h i os bs before o = subst (λ ts. Told ts (wanting f' os) (operand bs))
    (sym (append_assoc before front (x ∷ []))) (h f' (front ++ x ∷ []) i os bs before o)

front_told : (op : Op) (at : ℕ) (operand : Brackets → Verdict) → Operands operand
    → Operands (λ bs. front_row op at bs operand)
front_told Add at operand h f front i os bs before o = h f front i os bs before o
front_told Sub at operand h f front i os bs before o = told_more front_minus (before ++ front) (wanting f os)
    (operand bs) (behind front_minus f (λ x. f (neg x)) front operand h (behind_minus f front i) os bs before o)
front_told Pow at operand h f front i os bs before o = tt
front_told Mul at operand h f front i os bs before o = tt
front_told Div at operand h f front i os bs before o = tt
front_told Eq at operand h f front i os bs before o = tt
front_told Ne at operand h f front i os bs before o = tt
front_told Lt at operand h f front i os bs before o = tt
front_told Gt at operand h f front i os bs before o = tt
front_told Le at operand h f front i os bs before o = tt
front_told Ge at operand h f front i os bs before o = tt
front_told And at operand h f front i os bs before o = tt
front_told Or at operand h f front i os bs before o = tt
front_told Join at operand h f front i os bs before o = tt

operand_told : (k : LexemeKind) (at : ℕ) (operand operator : Brackets → Verdict) (bracket : AtFunction → Brackets
    → Verdict) → Operands operand → Operators operator → Calls bracket →
    Operands (λ bs. operand_row k at bs operand operator bracket)
operand_told (Num v) at operand operator bracket h g q f front i os bs before o = told_more (number v) (before ++ front)
    (wanting f os) (operator bs) (leaf (number v) (num v) operator g refl refl refl f front i os bs before o)
operand_told (Str t) at operand operator bracket h g q f front i os bs before o = told_more (text t) (before ++ front)
    (wanting f os) (operator bs) (leaf (text t) (str t) operator g refl refl refl f front i os bs before o)
operand_told (Cell r) at operand operator bracket h g q f front i os bs before o = told_more (place r) (before ++ front)
    (wanting f os) (operator bs) (leaf (place r) (cell r) operator g refl refl refl f front i os bs before o)
operand_told (Span a b) at operand operator bracket h g q f front i os bs before o =
    told_more (places a b) (before ++ front) (wanting f os) (operator bs)
    (leaf (places a b) (span a b) operator g refl refl refl f front i os bs before o)
operand_told (Constant c) at operand operator bracket h g q f front i os bs before o =
    told_more (constant c) (before ++ front) (wanting f os) (operator bs)
    (leaf (constant c) (call c no_trees) operator g refl refl refl f front i os bs before o)
operand_told (Function c) at operand operator bracket h g q f front i os bs before o =
    told_more (called c) (before ++ front) (wanting f os) (bracket c bs) (q c f front i os bs before o)
operand_told (Infix op) at operand operator bracket h g q f front i os bs before o =
    front_told op at operand h f front i os bs before o
operand_told Not at operand operator bracket h g q f front i os bs before o =
    told_more front_not (before ++ front) (wanting f os) (operand bs)
    (behind front_not f (λ x. f (not x)) front operand h (behind_not f front i) os bs before o)
operand_told OpenKind at operand operator bracket h g q f front i os bs before o =
    let now : List Token = (before ++ front) ++ opening ∷ [] in
    told_more opening (before ++ front) (wanting f os) (operand (Plain ∷ bs))
    (subst (λ ts. Told ts (wanting (λ x. x) (plain f ∷ os)) (operand (Plain ∷ bs))) (append-nil now)
    (h (λ x. x) [] no_front (plain f ∷ os) (Plain ∷ bs) now (before, record { front = front; is = i; are = refl }, o)))
operand_told Close at operand operator bracket h g q f front i os bs before o = tt
operand_told Comma at operand operator bracket h g q f front i os bs before o = tt
operand_told Unclosed at operand operator bracket h g q f front i os bs before o = tt
operand_told (Bad e) at operand operator bracket h g q f front i os bs before o = tt

comma_told : (at : ℕ) (operand : Brackets → Verdict) → Operands operand → Operators (λ bs. comma_row at bs operand)
comma_told at operand h t w [] [] before o = tt
comma_told at operand h t w [] (b ∷ bs) before o = absurd o
comma_told at operand h t w (x ∷ os) [] before o = absurd o
comma_told at operand h t w (plain f ∷ os) (Plain ∷ bs) before o = tt
comma_told at operand h t w (plain f ∷ os) (Call c n ∷ bs) before o = absurd o
comma_told at operand h t w (function f g us ∷ os) (Plain ∷ bs) before o = absurd o
comma_told at operand h t w (function f g us ∷ os) (Call c n ∷ bs) before o =
    let i = o.1 in
    let first : List Token = o.0 ++ i.front in
    let now : List Token = first ++ (called g ∷ with_commas (us ++ t ∷ [])) in
    let same : now ≡ (before ++ tokens t) ++ comma ∷ [] =
    ap (λ x. first ++ (called g ∷ x)) (one_comma_more us t)
    ∙ sym (append_assoc first (called g ∷ with_commas us) (tokens t ++ comma ∷ []))
    ∙ ap (λ x. x ++ (tokens t ++ comma ∷ [])) (sym i.are) ∙ sym (append_assoc before (tokens t) (comma ∷ [])) in
    told_more comma (before ++ tokens t) (having t (function f g us ∷ os)) (operand (Call c (n + 1) ∷ bs))
    (subst (λ ts. Told ts (wanting (λ x. x) (function f g (us ++ t ∷ []) ∷ os)) (operand (Call c (n + 1) ∷ bs)))
    (append-nil now ∙ same)
    (h (λ x. x) [] no_front (function f g (us ++ t ∷ []) ∷ os) (Call c (n + 1) ∷ bs) now
    (o.0, record { front = i.front; is = i.is; well = all_well us t i.well w; are = refl }, o.2)))

told_if : (b : Bool) (before : List Token) (k : List Token → Tree) (v : Verdict) (e : ParseFault) → Told before k v
    → Told before k (cond b v (Err e))
told_if true before k v e h = h
told_if false before k v e h = tt

close_told : (at : ℕ) (operator : Brackets → Verdict) → Operators operator → Operators (λ bs. close_row at bs operator)
close_told at operator h t w [] [] before o = tt
close_told at operator h t w [] (b ∷ bs) before o = absurd o
close_told at operator h t w (x ∷ os) [] before o = absurd o
close_told at operator h t w (plain f ∷ os) (Call c n ∷ bs) before o = absurd o
close_told at operator h t w (function f g us ∷ os) (Plain ∷ bs) before o = absurd o
close_told at operator h t w (plain f ∷ os) (Plain ∷ bs) before o =
    let i = o.1 in
    let first : List Token = o.0 ++ i.front in
    let same : o.0 ++ tokens (f (group t)) ≡ (before ++ tokens t) ++ closing ∷ [] =
    ap (λ x. o.0 ++ x) (i.is.same (group t)) ∙ sym (append_assoc o.0 i.front (opening ∷ (tokens t ++ closing ∷ [])))
    ∙ sym (append_assoc first (opening ∷ []) (tokens t ++ closing ∷ []))
    ∙ ap (λ x. x ++ (tokens t ++ closing ∷ [])) (sym i.are) ∙ sym (append_assoc before (tokens t) (closing ∷ [])) in
    told_more closing (before ++ tokens t) (having t (plain f ∷ os)) (operator bs)
    (subst (λ ts. Told ts (having (f (group t)) os) (operator bs)) same
    (h (f (group t)) (i.is.well (group t) w refl) os bs o.0 o.2))
close_told at operator h t w (function f g us ∷ os) (Call c n ∷ bs) before o =
    let i = o.1 in
    let first : List Token = o.0 ++ i.front in
    let made : Tree = call g (listed (us ++ t ∷ [])) in
    let same : o.0 ++ tokens (f made) ≡ (before ++ tokens t) ++ closing ∷ [] =
    ap (λ x. o.0 ++ x) (i.is.same made ∙ ap (λ x. i.front ++ x) (call_tokens g us t))
    ∙ sym (append_assoc o.0 i.front (called g ∷ (with_commas us ++ (tokens t ++ closing ∷ []))))
    ∙ sym (append_assoc first (called g ∷ with_commas us) (tokens t ++ closing ∷ []))
    ∙ ap (λ x. x ++ (tokens t ++ closing ∷ [])) (sym i.are) ∙ sym (append_assoc before (tokens t) (closing ∷ [])) in
    told_if (takes (counts_of c) (n + 1)) (before ++ tokens t) (having t (function f g us ∷ os))
    (after (closing ∷ []) (operator bs)) _
    (told_more closing (before ++ tokens t) (having t (function f g us ∷ os)) (operator bs)
    (subst (λ ts. Told ts (having (f made) os) (operator bs)) same
    (h (f made) (i.is.well made (all_well us t i.well w) refl) os bs o.0 o.2)))

operator_told : (k : LexemeKind) (at : ℕ) (operand operator : Brackets → Verdict) → Operands operand
    → Operators operator → Operators (λ bs. operator_row k at bs operand operator)
operator_told (Infix op) at operand operator h g t w os bs before o =
    told_more (infix_op op) (before ++ tokens t) (having t os) (operand bs)
    (behind (infix_op op) (beside op t) (beside op t) (tokens t) operand h (behind_tree op t w) os bs before o)
operator_told Comma at operand operator h g t w os bs before o = comma_told at operand h t w os bs before o
operator_told Close at operand operator h g t w os bs before o = close_told at operator g t w os bs before o
operator_told (Num v) at operand operator h g t w os bs before o = tt
operator_told (Str v) at operand operator h g t w os bs before o = tt
operator_told (Cell r) at operand operator h g t w os bs before o = tt
operator_told (Span a b) at operand operator h g t w os bs before o = tt
operator_told (Constant f) at operand operator h g t w os bs before o = tt
operator_told (Function f) at operand operator h g t w os bs before o = tt
operator_told Not at operand operator h g t w os bs before o = tt
operator_told OpenKind at operand operator h g t w os bs before o = tt
operator_told Unclosed at operand operator h g t w os bs before o = tt
operator_told (Bad e) at operand operator h g t w os bs before o = tt

bracket_told : (k : LexemeKind) (at : ℕ) (operand : Brackets → Verdict) → Operands operand
    → Calls (λ c bs. bracket_row k at (operand (Call c 0 ∷ bs)))
bracket_told OpenKind at operand h c f front i os bs before o =
    let now : List Token = (before ++ front) ++ called c ∷ [] in
    subst (λ ts. Told ts (wanting (λ x. x) (function f c [] ∷ os)) (operand (Call c 0 ∷ bs))) (append-nil now)
    (h (λ x. x) [] no_front (function f c [] ∷ os) (Call c 0 ∷ bs) now
    (before, record { front = front; is = i; well = refl; are = refl }, o))
bracket_told (Num v) at operand h c f front i os bs before o = tt
bracket_told (Str v) at operand h c f front i os bs before o = tt
bracket_told (Cell r) at operand h c f front i os bs before o = tt
bracket_told (Span a b) at operand h c f front i os bs before o = tt
bracket_told (Constant e) at operand h c f front i os bs before o = tt
bracket_told (Function e) at operand h c f front i os bs before o = tt
bracket_told (Infix op) at operand h c f front i os bs before o = tt
bracket_told Not at operand h c f front i os bs before o = tt
bracket_told Close at operand h c f front i os bs before o = tt
bracket_told Comma at operand h c f front i os bs before o = tt
bracket_told Unclosed at operand h c f front i os bs before o = tt
bracket_told (Bad e) at operand h c f front i os bs before o = tt

end_told : Operators (operator_first [])
end_told t w [] [] before o =
    record { same = sym (append-nil (before ++ tokens t) ∙ ap (λ x. x ++ tokens t) o); well = w }
end_told t w [] (b ∷ bs) before o = absurd o
end_told t w (x ∷ os) [] before o = absurd o
end_told t w (x ∷ os) (b ∷ bs) before o = tt

mutual
  operands_told : (ls : List Lexeme) → Operands (operand_first ls)
  operands_told [] = λ f front i os bs before o. tt
  operands_told (l ∷ ls) = operand_told l.kind l.at (operand_first ls) (operator_first ls) (bracket_first ls)
      (operands_told ls) (operators_told ls) (calls_told ls)

  operators_told : (ls : List Lexeme) → Operators (operator_first ls)
  operators_told [] = end_told
  operators_told (l ∷ ls) =
      operator_told l.kind l.at (operand_first ls) (operator_first ls) (operands_told ls) (operators_told ls)

  calls_told : (ls : List Lexeme) → Calls (bracket_first ls)
  calls_told [] = λ c f front i os bs before o. tt
  calls_told (l ∷ ls) = bracket_told l.kind l.at (operand_first ls) (operands_told ls)

-- ---- what a text spells

-- the parts that have no fault spell the tree of their tokens
parts_spell : (ls : List Lexeme) (ts : List Token) → operand_first ls [] ≡ Ok ts → ArePartsOf ls (tree_of_tokens ts)
parts_spell ls ts h =
    let told : IsTreeOf ts (tree_of_tokens ts) =
    subst (Told [] (wanting (λ x. x) [])) h (operands_told ls (λ x. x) [] no_front [] [] [] refl) in
    record { same = h ∙ ap Ok (sym told.same); well = told.well }

short : (n : ℕ) → nat_lt 240 n ≡ false → n ≤ 240
short n h = grind (arith, nat_tests)

not_long : (n : ℕ) → n ≤ 240 → nat_lt 240 n ≡ false
not_long n h = grind (arith, nat_tests)

-- what a text spells is what is read of it
pub reads : (names : NameMap) (at : Place) (bytes : List ℕ) (t : Tree) → Spells names at bytes t
    → reading names at bytes ≡ Ok t
unfolding reading
reads names at bytes t s =
    ap (λ c. cond c (Err TooLong) (told_tree (operand_first (lexed names at 0 0 bytes) [])))
    (not_long (length bytes) s.0)
    ∙ ap told_tree s.1.same ∙ ap Ok (found_again t s.1.well)

abbrev told_ok : Tree → Result Tree ParseFault
told_ok t = Ok t

read_spells : (ls : List Lexeme) (v : Verdict) (t : Tree) → operand_first ls [] ≡ v → told_tree v ≡ Ok t
    → ArePartsOf ls t
read_spells ls (Ok ts) t h e = subst (ArePartsOf ls) (ok_same e) (parts_spell ls ts h)
  where
    ok_same : {a b : Tree} → told_ok a ≡ told_ok b → a ≡ b
    ok_same p = cc
read_spells ls (Err f) t h e = absurd (let p : Err f ≡ Ok t = e in cc)

-- and what is read of it is what it spells
pub spells : (names : NameMap) (at : Place) (bytes : List ℕ) (t : Tree) → reading names at bytes ≡ Ok t
    → Spells names at bytes t
unfolding reading
spells names at bytes t h = either (nat_lt 240 (length bytes)) refl h
  where
    either : (c : Bool) → nat_lt 240 (length bytes) ≡ c → cond c (Err TooLong) (told_tree
        (operand_first (lexed names at 0 0 bytes) [])) ≡ Ok t → Spells names at bytes t
    either true p e = absurd (let q : Err TooLong ≡ Ok t = e in cc)
    either false p e = (
      short (length bytes) p,
      read_spells (lexed names at 0 0 bytes) (operand_first (lexed names at 0 0 bytes) []) t refl e,
    )

-- past 240 bytes a text is too long
pub too_long : (names : NameMap) (at : Place) (bytes : List ℕ) → 240 < length bytes
    → reading names at bytes ≡ Err TooLong
unfolding reading
too_long names at bytes h =
    ap (λ c. cond c (Err TooLong) (told_tree (operand_first (lexed names at 0 0 bytes) []))) (is_long (length bytes) h)
  where
    is_long : (n : ℕ) → 240 < n → nat_lt 240 n ≡ true
    is_long n h = grind (arith, nat_tests)

-- else the first fault of its parts is told
pub first_fault : (names : NameMap) (at : Place) (bytes : List ℕ) (f : ParseFault) → length bytes ≤ 240
    → operand_first (lexed names at 0 0 bytes) [] ≡ Err f → reading names at bytes ≡ Err f
unfolding reading
first_fault names at bytes f s h = ap (λ c. cond c (Err TooLong)
    (told_tree (operand_first (lexed names at 0 0 bytes) []))) (not_long (length bytes) s) ∙ ap told_tree h

-- an answer that is the tree is what the text is read as
pub tree_read : (r v : Result Tree ParseFault) (t : Tree) → IfOk r (λ f. f ≡ t) → v ≡ Ok t → IfOk r (λ f. v ≡ Ok f)
tree_read (Ok f) v t h e = e ∙ ap Ok (sym h)
tree_read (Err f) v t h e = tt
