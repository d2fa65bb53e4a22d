-- A function's arguments are read one by one.
use Rattle.std.proofs.Common.{◌≡◌, ℕ, ◌+◌, ◌≤◌, Bool, true, ◌&&◌, List, [], ◌∷◌, ◌++◌, length, Option, Some, None, refl}
use Rattle.std.proofs.Common.{sym, ap, ◌∙◌, arith, append_assoc, length-append}
use Rattle.std.proofs.lemmas.Bool.{and_from, and_parts}
use Rattle.formula_tree.proofs.Rows.{counted_list}
use Rattle.formula_tree.specs.declared.ast.Op.{Op}
use Rattle.formula_tree.specs.declared.ast.Op.TheVariants.{Pow, Mul, Div, Add, Sub, Eq, Ne, Lt, Gt, Le, Ge, And, Or}
use Rattle.formula_tree.specs.declared.ast.Op.TheVariants.{Join}
use Rattle.formula_tree.specs.declared.function.Function.{Function as AtFunction}
use Rattle.formula_tree.specs.Tree.{Tree, call, no_trees}
use Rattle.formula_tree.specs.Table.{counts_of, takes}
use Rattle.formula_tree.specs.Shape.{count, every, every_one, level}
use Rattle.formula_tree.specs.View.{listed}
use Rattle.formula_text.specs.declared.lexeme.LexemeKind.{LexemeKind}
use Rattle.formula_text.specs.declared.lexeme.LexemeKind.TheVariants.{Constant}
use Rattle.formula_text.specs.declared.lexeme.Lexeme.{Lexeme}
use Rattle.formula_text.specs.declared.parse.Bracket.TheVariants.{Call}
use Rattle.formula_text.specs.Tokens.{Token, tokens, more_tokens, called, closing, comma}
use Rattle.formula_text.specs.Accepts.{Brackets, after, operand_first, operator_first}
use Rattle.formula_text.specs.inner.Levels.{operator_of, level_of}
use Rattle.formula_text.specs.inner.Reads.{commaed, joined, Completes, Continues, Listed, Reads, ReadsCall}
use Rattle.formula_text.specs.inner.Reads.{ReadsOperand}
use Rattle.formula_text.proofs.Grows.{after-after}

small_level : (op : Op) → level op ≤ 8
small_level Pow = omega arith
small_level Mul = omega arith
small_level Div = omega arith
small_level Add = omega arith
small_level Sub = omega arith
small_level Eq = omega arith
small_level Ne = omega arith
small_level Lt = omega arith
small_level Gt = omega arith
small_level Le = omega arith
small_level Ge = omega arith
small_level And = omega arith
small_level Or = omega arith
small_level Join = omega arith

small : (o : Option Op) → level_of o ≤ 8
small None = omega arith
small (Some op) = small_level op

commaed_more : (ts : List Tree) (u : Tree) → commaed (ts ++ u ∷ []) ≡ commaed ts ++ (comma ∷ (tokens u ++ []))
commaed_more [] u = refl
commaed_more (t ∷ ts) u = ap (λ x. comma ∷ (tokens t ++ x)) (commaed_more ts u)
    ∙ ap (λ x. comma ∷ x) (sym (append_assoc (tokens t) (commaed ts) (comma ∷ (tokens u ++ []))))

no_more : (ts : List Token) → ts ++ [] ≡ ts
no_more [] = refl
no_more (t ∷ ts) = ap (λ x. t ∷ x) (no_more ts)

joined_more : (ts : List Tree) (u : Tree) → 1 ≤ length ts → joined (ts ++ u ∷ []) ≡ joined ts ++ (comma ∷ tokens u)
joined_more [] u h = absurd (omega arith)
joined_more (t ∷ ts) u h =
    ap (λ x. tokens t ++ x) (commaed_more ts u ∙ ap (λ x. commaed ts ++ (comma ∷ x)) (no_more (tokens u)))
    ∙ sym (append_assoc (tokens t) (commaed ts) (comma ∷ tokens u))

more_listed : (ts : List Tree) → more_tokens (listed ts) ≡ commaed ts ++ closing ∷ []
more_listed [] = refl
more_listed (t ∷ ts) = ap (λ x. comma ∷ (tokens t ++ x)) (more_listed ts)
    ∙ ap (λ x. comma ∷ x) (sym (append_assoc (tokens t) (commaed ts) (closing ∷ [])))

call_tokens : (f : AtFunction) (t : Tree) (ts : List Tree)
    → tokens (call f (listed (t ∷ ts))) ≡ called f ∷ (joined (t ∷ ts) ++ closing ∷ [])
call_tokens f t ts = ap (λ x. called f ∷ (tokens t ++ x)) (more_listed ts)
    ∙ ap (λ x. called f ∷ x) (sym (append_assoc (tokens t) (commaed ts) (closing ∷ [])))

every_more : (test : Tree → Bool) (ts : List Tree) (u : Tree) → every_one test (listed ts) ≡ true → every test u ≡ true
    → every_one test (listed (ts ++ u ∷ [])) ≡ true
every_more test [] u p q = and_from _ _ q refl
every_more test (t ∷ ts) u p q = and_from _ _ (and_parts (every test t) (every_one test (listed ts)) p).0
    (every_more test ts u (and_parts (every test t) (every_one test (listed ts)) p).1 q)

-- one more argument
pub more_are_listed : (ls : List Lexeme) (f : AtFunction) (n : ℕ) (ts : List Tree) (rest next : List Lexeme)
    (u : Tree) (behind : List Lexeme) → Listed ls f n ts rest → Continues rest next → Reads next 1 u behind
    → Listed ls f (n + 1) (ts ++ u ∷ []) behind
more_are_listed ls f n ts rest next u behind l c r =
    record {
      spelled = λ bs.
          l.spelled bs ∙ ap (after (joined ts)) (c.spelled f n bs ∙ ap (after (comma ∷ [])) (r.spelled (Call f
          (n + 1) ∷ bs)) ∙ after-after (comma ∷ []) (tokens u) (operator_first behind (Call f (n + 1) ∷ bs)))
          ∙ after-after (joined ts) (comma ∷ tokens u) (operator_first behind (Call f (n + 1) ∷ bs))
          ∙ ap (λ x. after x (operator_first behind (Call f (n + 1) ∷ bs)))
          (sym (joined_more ts u (omega (arith, l.many))));
      well = every_more _ ts u l.well r.well;
      counted = every_more _ ts u l.counted r.counted;
      many = omega (arith, l.many, length-append ts (u ∷ []));
      ended = omega (arith, r.ended);
      shorter = omega (arith, l.shorter, c.shorter, r.shorter);
    }

-- all arguments, and the closing bracket
pub call_is_read : (ls : List Lexeme) (f : AtFunction) (n : ℕ) (ts : List Tree) (rest behind : List Lexeme)
    → Listed ls f n ts rest → Completes rest f n behind → ReadsCall ls f (call f (listed ts)) behind
call_is_read ls f n [] rest behind l c = absurd (omega (arith, l.many))
call_is_read ls f n (t ∷ ts) rest behind l c =
    record {
      spelled = λ bs.
          ap (after (called f ∷ [])) (l.spelled bs ∙ ap (after (joined (t ∷ ts))) (c.spelled bs)
          ∙ after-after (joined (t ∷ ts)) (closing ∷ []) (operator_first behind bs))
          ∙ after-after (called f ∷ []) (joined (t ∷ ts) ++ closing ∷ []) (operator_first behind bs)
          ∙ ap (λ x. after x (operator_first behind bs)) (sym (call_tokens f t ts));
      well = l.well;
      counted = and_from _ _ (ap (takes (counts_of f)) (counted_list (t ∷ ts) ∙ l.many) ∙ c.taken) l.counted;
      tight = refl;
      edge = small (operator_of behind);
      shorter = omega (arith, l.shorter, c.shorter);
    }

constant_operand : (k : LexemeKind) (f : AtFunction) (at : ℕ) (rest : List Lexeme) → k ≡ Constant f → (bs : Brackets)
    → operand_first (record { at = at; kind = k } ∷ rest) bs ≡ after (tokens (call f no_trees)) (operator_first rest bs)
constant_operand k f at rest h bs = ap (λ x. operand_first (record { at = at; kind = x } ∷ rest) bs) h

-- a function without arguments
pub constant_is_read : (ls : List Lexeme) (l : Lexeme) (f : AtFunction) (rest : List Lexeme) → ls ≡ l ∷ rest
    → l.kind ≡ Constant f → ReadsOperand ls (call f no_trees) rest
constant_is_read ls l f rest h k =
    record {
      spelled = λ bs. ap (λ x. operand_first x bs) h ∙ constant_operand l.kind f l.at rest k bs;
      well = refl;
      counted = refl;
      tight = refl;
      edge = small (operator_of rest);
      shorter = omega (arith, ap length h);
    }
