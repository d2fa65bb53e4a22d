-- What the tree of tokens is.
use Rattle.std.proofs.Common.{◌≡◌, ℕ, ◌≤◌, ◌<◌, min, Bool, true, false, cond, ◌&&◌, nat_le, nat_lt, List, [], ◌∷◌, ◌++◌}
use Rattle.std.proofs.Common.{refl, sym, ap, ◌∙◌, arith, append_assoc, append-nil}
use Rattle.std.proofs.lemmas.Bool.{and_parts, le-leb, leb-true, lt-leb, ltb-true}
use Rattle.formula_tree.specs.declared.ast.Op.{Op}
use Rattle.formula_tree.specs.declared.ast.Op.TheVariants.{Pow, Mul, Div, Add, Sub, Eq, Ne, Lt, Gt, Le, Ge, And, Or}
use Rattle.formula_tree.specs.declared.ast.Op.TheVariants.{Join}
use Rattle.formula_tree.specs.declared.function.Function.{Function as AtFunction}
use Rattle.formula_tree.specs.Tree.{Tree, num, str, cell, span, group, neg, not, binary, call, Trees, no_trees, trees}
use Rattle.formula_tree.specs.Shape.{every, every_one, is_bracketed, level, lowest, top}
use Rattle.formula_tree.specs.View.{listed}
use Rattle.formula_text.specs.Reading.{beside, having, wanting, Open, plain, function, tree_of_tokens}
use Rattle.formula_text.specs.Tokens.{Token, closing, infix_op, tokens, more_tokens}

-- on the left edge everything stays, where the operator binds at least so tightly
lower : (op : Op) (t x : Tree) → lowest (beside op t x) ≤ min (lowest x) (level op)
lower op (num v) x = omega arith
lower op (str v) x = omega arith
lower op (cell v) x = omega arith
lower op (span v w) x = omega arith
lower op (group a) x = omega arith
lower op (call f ts) x = omega arith
lower op (neg a) x = either (nat_le (level op) (lowest (neg a))) (lower op a x)
  where
    either : (b : Bool) → lowest (beside op a x) ≤ min (lowest x) (level op)
        → lowest (cond b (binary op (neg a) x) (neg (beside op a x))) ≤ min (lowest x) (level op)
    either true h = omega arith
    either false h = omega (arith, h)
lower op (not a) x = either (nat_le (level op) (lowest (not a))) (lower op a x)
  where
    either : (b : Bool) → lowest (beside op a x) ≤ min (lowest x) (level op)
        → lowest (cond b (binary op (not a) x) (not (beside op a x))) ≤ min (lowest x) (level op)
    either true h = omega arith
    either false h = omega (arith, h)
lower op (binary o a b) x = either (nat_le (level op) (lowest (binary o a b))) (lower op b x)
  where
    either : (c : Bool) → lowest (beside op b x) ≤ min (lowest x) (level op)
        → lowest (cond c (binary op (binary o a b) x) (binary o a (beside op b x))) ≤ min (lowest x) (level op)
    either true h = omega arith
    either false h = omega (arith, h)

-- what comes behind an operand is passed by what stands before it, where it binds more tightly
abbrev Lets : (Tree → Tree) → ℕ → Type 0
Lets f n = (op : Op) (a b : Tree) → min (lowest a) n < level op → beside op (f a) b ≡ f (beside op a b)

-- an operator takes a tree on whose right edge nothing binds less tightly
taken : (op : Op) (t x : Tree) → level op ≤ lowest t → beside op t x ≡ binary op t x
taken op (num v) x h = refl
taken op (str v) x h = refl
taken op (cell v) x h = refl
taken op (span v w) x h = refl
taken op (group a) x h = refl
taken op (call f ts) x h = refl
taken op (neg a) x h =
    ap (λ c. cond c (binary op (neg a) x) (neg (beside op a x))) (le-leb (level op) (lowest (neg a)) h)
taken op (not a) x h =
    ap (λ c. cond c (binary op (not a) x) (not (beside op a x))) (le-leb (level op) (lowest (not a)) h)
taken op (binary o a b) x h = ap (λ c. cond c (binary op (binary o a b) x) (binary o a (beside op b x)))
    (le-leb (level op) (lowest (binary o a b)) h)

-- and goes inside otherwise
inside_neg : (op : Op) (a x : Tree) → lowest (neg a) < level op → beside op (neg a) x ≡ neg (beside op a x)
inside_neg op a x h =
    ap (λ c. cond c (binary op (neg a) x) (neg (beside op a x))) (lt-leb (level op) (lowest (neg a)) h)

inside_not : (op : Op) (a x : Tree) → lowest (not a) < level op → beside op (not a) x ≡ not (beside op a x)
inside_not op a x h =
    ap (λ c. cond c (binary op (not a) x) (not (beside op a x))) (lt-leb (level op) (lowest (not a)) h)

inside_binary : (op o : Op) (a b x : Tree) → lowest (binary o a b) < level op
    → beside op (binary o a b) x ≡ binary o a (beside op b x)
inside_binary op o a b x h = ap (λ c. cond c (binary op (binary o a b) x) (binary o a (beside op b x)))
    (lt-leb (level op) (lowest (binary o a b)) h)

-- behind an operator a tighter one takes a part of its right operand
passes : (p : Op) (t : Tree) → Lets (beside p t) (level p)
passes p (num v) = λ op a b h. inside_binary op p (num v) a b h
passes p (str v) = λ op a b h. inside_binary op p (str v) a b h
passes p (cell v) = λ op a b h. inside_binary op p (cell v) a b h
passes p (span v w) = λ op a b h. inside_binary op p (span v w) a b h
passes p (group c) = λ op a b h. inside_binary op p (group c) a b h
passes p (call f ts) = λ op a b h. inside_binary op p (call f ts) a b h
passes p (neg c) = λ op a b h. either (nat_le (level p) (lowest (neg c))) op a b h (passes p c op a b h)
  where
    either : (s : Bool) → (op : Op) (a b : Tree) → min (lowest a) (level p) < level op
        → beside op (beside p c a) b ≡ beside p c (beside op a b) → beside op (cond s (binary p (neg c) a)
        (neg (beside p c a))) b ≡ cond s (binary p (neg c) (beside op a b)) (neg (beside p c (beside op a b)))
    either true op a b h r = inside_binary op p (neg c) a b h
    either false op a b h r = inside_neg op (beside p c a) b (omega (arith, lower p c a, h)) ∙ ap neg r
passes p (not c) = λ op a b h. either (nat_le (level p) (lowest (not c))) op a b h (passes p c op a b h)
  where
    either : (s : Bool) → (op : Op) (a b : Tree) → min (lowest a) (level p) < level op
        → beside op (beside p c a) b ≡ beside p c (beside op a b) → beside op (cond s (binary p (not c) a)
        (not (beside p c a))) b ≡ cond s (binary p (not c) (beside op a b)) (not (beside p c (beside op a b)))
    either true op a b h r = inside_binary op p (not c) a b h
    either false op a b h r = inside_not op (beside p c a) b (omega (arith, lower p c a, h)) ∙ ap not r
passes p (binary o c d) = λ op a b h. either (nat_le (level p) (lowest (binary o c d))) op a b h (passes p d op a b h)
  where
    either : (s : Bool) → (op : Op) (a b : Tree) → min (lowest a) (level p) < level op
        → beside op (beside p d a) b ≡ beside p d (beside op a b)
        → beside op (cond s (binary p (binary o c d) a) (binary o c (beside p d a))) b
        ≡ cond s (binary p (binary o c d) (beside op a b)) (binary o c (beside p d (beside op a b)))
    either true op a b h r = inside_binary op p (binary o c d) a b h
    either false op a b h r = inside_binary op o c (beside p d a) b (omega (arith, lower p d a, h)) ∙ ap (binary o c) r

passes_none : Lets (λ x. x) 0
passes_none op a b h = refl

passes_neg : (f : Tree → Tree) (n : ℕ) → Lets f n → Lets (λ x. f (neg x)) 6
passes_neg f n h op a b p = h op (neg a) b (omega (arith, p)) ∙ ap f (inside_neg op a b (omega (arith, p)))

passes_not : (f : Tree → Tree) (n : ℕ) → Lets f n → Lets (λ x. f (not x)) 2
passes_not f n h op a b p = h op (not a) b (omega (arith, p)) ∙ ap f (inside_not op a b (omega (arith, p)))

one_level : (op : Op) → 1 ≤ level op
one_level Pow = omega arith
one_level Mul = omega arith
one_level Div = omega arith
one_level Add = omega arith
one_level Sub = omega arith
one_level Eq = omega arith
one_level Ne = omega arith
one_level Lt = omega arith
one_level Gt = omega arith
one_level Le = omega arith
one_level Ge = omega arith
one_level And = omega arith
one_level Or = omega arith
one_level Join = omega arith

one_top : (t : Tree) → 0 < top t
one_top (num v) = omega arith
one_top (str v) = omega arith
one_top (cell v) = omega arith
one_top (span v w) = omega arith
one_top (group a) = omega arith
one_top (neg a) = omega arith
one_top (not a) = omega arith
one_top (binary op a b) = omega (arith, one_level op)
one_top (call f ts) = omega arith

lowest_below : (t : Tree) → lowest t ≤ top t
lowest_below (num v) = omega arith
lowest_below (str v) = omega arith
lowest_below (cell v) = omega arith
lowest_below (span v w) = omega arith
lowest_below (group a) = omega arith
lowest_below (neg a) = omega arith
lowest_below (not a) = omega arith
lowest_below (binary op a b) = omega arith
lowest_below (call f ts) = omega arith

record Parts (op : Op) (a b : Tree) : Type 0 where
  left : every is_bracketed a ≡ true
  right : every is_bracketed b ≡ true
  edge : level op ≤ lowest a
  tight : level op < top b

parts : (op : Op) (a b : Tree) → every is_bracketed (binary op a b) ≡ true → Parts op a b
parts op a b h =
    let p = and_parts (is_bracketed (binary op a b)) (every is_bracketed a && every is_bracketed b) h in
    let q = and_parts (nat_le (level op) (lowest a)) (nat_lt (level op) (top b)) p.0 in
    let r = and_parts (every is_bracketed a) (every is_bracketed b) p.1 in
    record { left = r.0; right = r.1; edge = leb-true _ _ q.0; tight = ltb-true _ _ q.1 }

-- the arguments behind others
abbrev further : List Tree → Trees → List Tree
further us no_trees = us
further us (trees t ts) = further (us ++ t ∷ []) ts

abbrev behind : List Tree → Trees → Trees
behind [] ts = ts
behind (u ∷ us) ts = trees u (behind us ts)

behind_more : (us : List Tree) (t : Tree) (ts : Trees) → behind (us ++ t ∷ []) ts ≡ behind us (trees t ts)
behind_more [] t ts = refl
behind_more (u ∷ us) t ts = ap (trees u) (behind_more us t ts)

behind_none : (us : List Tree) → listed us ≡ behind us no_trees
behind_none [] = refl
behind_none (u ∷ us) = ap (trees u) (behind_none us)

all_further : (us : List Tree) (ts : Trees) → listed (further us ts) ≡ behind us ts
all_further us no_trees = behind_none us
all_further us (trees t ts) = all_further (us ++ t ∷ []) ts ∙ behind_more us t ts

mutual
  -- a well bracketed tree is found again from its tokens
  found : (t : Tree) (f : Tree → Tree) (n : ℕ) (outer : List Open) (rest : List Token) → every is_bracketed t ≡ true
      → Lets f n → n < top t →
      wanting f outer (tokens t ++ rest) ≡ having (f t) outer rest
  found (num v) f n outer rest w p h = refl
  found (str v) f n outer rest w p h = refl
  found (cell v) f n outer rest w p h = refl
  found (span v u) f n outer rest w p h = refl
  found (group a) f n outer rest w p h =
      ap (λ ts. wanting (λ x. x) (plain f ∷ outer) ts) (append_assoc (tokens a) (closing ∷ []) rest)
      ∙ found a (λ x. x) 0 (plain f ∷ outer) (closing ∷ rest) w passes_none (one_top a)
  found (neg a) f n outer rest w p h =
      let q = and_parts (nat_lt 6 (top a)) (every is_bracketed a) w in
      found a (λ x. f (neg x)) 6 outer rest q.1 (passes_neg f n p) (ltb-true _ _ q.0)
  found (not a) f n outer rest w p h =
      let q = and_parts (nat_lt 2 (top a)) (every is_bracketed a) w in
      found a (λ x. f (not x)) 2 outer rest q.1 (passes_not f n p) (ltb-true _ _ q.0)
  found (binary op a b) f n outer rest w p h =
      let q = parts op a b w in
      ap (wanting f outer) (append_assoc (tokens a) (infix_op op ∷ tokens b) rest)
      ∙ found a f n outer (infix_op op ∷ (tokens b ++ rest)) q.left p (omega (arith, h, q.edge, lowest_below a))
      ∙ found b (beside op (f a)) (level op) outer rest q.right (passes op (f a)) q.tight
      ∙ ap (λ x. having x outer rest) (p op a b (omega (arith, h)) ∙ ap f (taken op a b q.edge))
  found (call g no_trees) f n outer rest w p h = refl
  found (call g (trees a ts)) f n outer rest w p h =
      let q = and_parts (every is_bracketed a) (every_one is_bracketed ts) w in
      ap (λ us. wanting (λ x. x) (function f g [] ∷ outer) us) (append_assoc (tokens a) (more_tokens ts) rest)
      ∙ found a (λ x. x) 0 (function f g [] ∷ outer) (more_tokens ts ++ rest) q.0 passes_none (one_top a)
      ∙ more_found ts a f g [] outer rest q.1
      ∙ ap (λ x. having (f (call g x)) outer rest) (all_further (a ∷ []) ts)

  more_found : (ts : Trees) (a : Tree) (f : Tree → Tree) (g : AtFunction) (us : List Tree) (outer : List Open)
      (rest : List Token) → every_one is_bracketed ts ≡ true → having a (function f g us ∷ outer) (more_tokens ts
      ++ rest) ≡ having (f (call g (listed (further (us ++ a ∷ []) ts)))) outer rest
  more_found no_trees a f g us outer rest w = refl
  more_found (trees b ts) a f g us outer rest w =
      let q = and_parts (every is_bracketed b) (every_one is_bracketed ts) w in
      ap (λ vs. wanting (λ x. x) (function f g (us ++ a ∷ []) ∷ outer) vs)
      (append_assoc (tokens b) (more_tokens ts) rest)
      ∙ found b (λ x. x) 0 (function f g (us ++ a ∷ []) ∷ outer) (more_tokens ts ++ rest) q.0 passes_none (one_top b)
      ∙ more_found ts b f g (us ++ a ∷ []) outer rest q.1

-- the tree of a well-bracketed tree's tokens is that tree
pub found_again : (t : Tree) → every is_bracketed t ≡ true → tree_of_tokens (tokens t) ≡ t
found_again t w = ap tree_of_tokens (sym (append-nil (tokens t))) ∙ found t (λ x. x) 0 [] [] w passes_none (one_top t)
