-- Signs that are written are read.
use Rattle.std.proofs.Common.{◌≡◌, ℕ, zero, suc, ◌+◌, ◌≤◌, ◌<◌, false, ◌==◌, List, [], ◌∷◌, ◌++◌, take, length, get_or}
use Rattle.std.proofs.Common.{refl, ap, ◌∙◌, arith, length-append}
use Rattle.std.specs.Prelude.{codes, min}
use Rattle.std.specs.Str.{str_eq_ignore_ascii_case}
use Rattle.std.proofs.lemmas.Bool.Decides.{nat_tests}
use Rattle.std.proofs.Math.Nat.{min-eq_left}
use Rattle.grid_address.specs.Place.{Place}
use Rattle.range_names.specs.Names.{NameMap}
use Rattle.formula_tree.specs.declared.ast.Op.{Op}
use Rattle.formula_tree.specs.declared.ast.Op.TheVariants.{Pow, Mul, Div, Add, Sub, Eq, Ne, Lt, Gt, Le, Ge, And, Or}
use Rattle.formula_tree.specs.declared.ast.Op.TheVariants.{Join}
use Rattle.formula_text.specs.declared.lexeme.LexemeKind.TheVariants.{Close, Comma, Infix, Not, Open}
use Rattle.formula_text.specs.Lexed.{found_by, lexed, part_found}
use Rattle.formula_text.specs.Printed.{op_text}
use Rattle.formula_text.specs.Signs.{begins_with, hash_found, sign_of, single_kind}
use Rattle.formula_text.specs.Tokens.{infix_op, front_not, front_minus}
use Rattle.formula_text.specs.Accepts.{Brackets, after, operand_first, operator_first}
use Rattle.formula_text.proofs.Cuts.{cut, take_front, Starts, Stops}

less_found : (names : NameMap) (cell : Place) (rest : List ℕ) (at : ℕ) → Starts (get_or rest 0 0)
    → part_found names cell at (60 ∷ rest) ≡ record { kind = Infix Lt; len = 1 }
unfolding part_found found_by sign_of
less_found names cell rest at s = rw (s.greater, s.equal) refl

greater_found : (names : NameMap) (cell : Place) (rest : List ℕ) (at : ℕ) → Starts (get_or rest 0 0)
    → part_found names cell at (62 ∷ rest) ≡ record { kind = Infix Gt; len = 1 }
unfolding part_found found_by sign_of
greater_found names cell rest at s = rw (s.equal) refl

hash_part : (names : NameMap) (cell : Place) (rest : List ℕ) (at : ℕ)
    → part_found names cell at (35 ∷ rest) ≡ hash_found at (35 ∷ rest)
unfolding part_found found_by
hash_part names cell rest at = refl

begins : (word rest : List ℕ) → begins_with (word ++ rest) word ≡ str_eq_ignore_ascii_case word word
begins word rest =
    let inside : length word ≤ length (word ++ rest) = omega (arith, length-append word rest) in
    ap (λ k. str_eq_ignore_ascii_case (take k (word ++ rest)) word)
    (min-eq_left inside)
    ∙ ap (λ (l : List ℕ). str_eq_ignore_ascii_case l word) (take_front word rest)

-- the second letter tells
two_first : (k : ℕ) (word rest : List ℕ) (b : ℕ) → 2 ≤ k → ((more : List ℕ) → str_eq_ignore_ascii_case
    (35 ∷ b ∷ more) word ≡ false) → str_eq_ignore_ascii_case (take k (35 ∷ b ∷ rest)) word ≡ false
two_first zero word rest b h other = absurd (omega arith)
two_first (suc zero) word rest b h other = absurd (omega arith)
two_first (suc (suc k)) word rest b h other = other (take k rest)

min_more : (a b : ℕ) → 2 ≤ a → 2 ≤ b → 2 ≤ min a b
min_more a b p q = grind (arith, nat_tests, p, q)

no_word : (word rest : List ℕ) (b : ℕ) → 2 ≤ length word → ((more : List ℕ)
    → str_eq_ignore_ascii_case (35 ∷ b ∷ more) word ≡ false) → begins_with (35 ∷ b ∷ rest) word ≡ false
no_word word rest b h other = two_first (min (length word) (length (35 ∷ b ∷ rest))) word rest b
    (min_more (length word) (length (35 ∷ b ∷ rest)) h (omega arith)) other

and_found : (at : ℕ) (rest : List ℕ) → hash_found at (codes "#AND#" ++ rest) ≡ record { kind = Infix And; len = 5 }
unfolding hash_found
and_found at rest = rw (begins (codes "#AND#") rest) refl

or_found : (at : ℕ) (rest : List ℕ) → hash_found at (codes "#OR#" ++ rest) ≡ record { kind = Infix Or; len = 4 }
unfolding hash_found
or_found at rest =
    rw (no_word (codes "#AND#") (82 ∷ 35 ∷ rest) 79 (omega arith) (λ more. refl), begins (codes "#OR#") rest) refl

not_found : (at : ℕ) (rest : List ℕ) → hash_found at (codes "#NOT#" ++ rest) ≡ record { kind = Not; len = 5 }
unfolding hash_found
not_found at rest =
    rw (
      no_word (codes "#AND#") (79 ∷ 84 ∷ 35 ∷ rest) 78 (omega arith) (λ more. refl),
      no_word (codes "#OR#") (79 ∷ 84 ∷ 35 ∷ rest) 78 (omega arith) (λ more. refl),
      begins (codes "#NOT#") rest,
    ) refl

op_found : (names : NameMap) (cell : Place) (op : Op) (rest : List ℕ) (at : ℕ) → Starts (get_or rest 0 0)
    → part_found names cell at (op_text op ++ rest) ≡ record { kind = Infix op; len = length (op_text op) }
unfolding part_found found_by sign_of single_kind
op_found names cell Pow rest at s = refl
op_found names cell Mul rest at s = refl
op_found names cell Div rest at s = refl
op_found names cell Add rest at s = refl
op_found names cell Sub rest at s = refl
op_found names cell Eq rest at s = refl
op_found names cell Ne rest at s = refl
op_found names cell Lt rest at s = less_found names cell rest at s
op_found names cell Gt rest at s = greater_found names cell rest at s
op_found names cell Le rest at s = refl
op_found names cell Ge rest at s = refl
op_found names cell And rest at s = and_found at rest
op_found names cell Or rest at s = or_found at rest
op_found names cell Join rest at s = refl

-- an operator's first byte is no space and ends a part
pub op_stops : (op : Op) (rest : List ℕ) → Stops (op_text op ++ rest)
op_stops Pow rest = record { word = refl; point = refl }
op_stops Mul rest = record { word = refl; point = refl }
op_stops Div rest = record { word = refl; point = refl }
op_stops Add rest = record { word = refl; point = refl }
op_stops Sub rest = record { word = refl; point = refl }
op_stops Eq rest = record { word = refl; point = refl }
op_stops Ne rest = record { word = refl; point = refl }
op_stops Lt rest = record { word = refl; point = refl }
op_stops Gt rest = record { word = refl; point = refl }
op_stops Le rest = record { word = refl; point = refl }
op_stops Ge rest = record { word = refl; point = refl }
op_stops And rest = record { word = refl; point = refl }
op_stops Or rest = record { word = refl; point = refl }
op_stops Join rest = record { word = refl; point = refl }

op_some : (op : Op) (rest : List ℕ) → (0 < length (op_text op)) × ((get_or (op_text op ++ rest) 0 0 == 32) ≡ false)
op_some Pow rest = (omega arith, refl)
op_some Mul rest = (omega arith, refl)
op_some Div rest = (omega arith, refl)
op_some Add rest = (omega arith, refl)
op_some Sub rest = (omega arith, refl)
op_some Eq rest = (omega arith, refl)
op_some Ne rest = (omega arith, refl)
op_some Lt rest = (omega arith, refl)
op_some Gt rest = (omega arith, refl)
op_some Le rest = (omega arith, refl)
op_some Ge rest = (omega arith, refl)
op_some And rest = (omega arith, refl)
op_some Or rest = (omega arith, refl)
op_some Join rest = (omega arith, refl)

-- an operator's text is read as the operator, and an operand follows
pub op_read : (names : NameMap) (cell : Place) (op : Op) (rest : List ℕ) (at : ℕ) (bs : Brackets)
    → Starts (get_or rest 0 0) → operator_first (lexed names cell 0 at (op_text op ++ rest)) bs
    ≡ after (infix_op op ∷ []) (operand_first (lexed names cell 0 (at + length (op_text op)) rest) bs)
op_read names cell op rest at bs s =
    let some = op_some op rest in
    ap (λ ls. operator_first ls bs)
    (cut names cell (op_text op) rest (Infix op) at some.0 some.1 (op_found names cell op rest at s))

-- signs before an operand
pub not_read : (names : NameMap) (cell : Place) (rest : List ℕ) (at : ℕ) (bs : Brackets)
    → operand_first (lexed names cell 0 at (codes "#NOT#" ++ rest)) bs
    ≡ after (front_not ∷ []) (operand_first (lexed names cell 0 (at + 5) rest) bs)
not_read names cell rest at bs =
    ap (λ ls. operand_first ls bs) (cut names cell (codes "#NOT#") rest Not at (omega arith) refl
    (hash_part names cell (78 ∷ 79 ∷ 84 ∷ 35 ∷ rest) at ∙ not_found at rest))

-- a minus in front is read, and an operand follows
pub minus_read : (names : NameMap) (cell : Place) (rest : List ℕ) (at : ℕ) (bs : Brackets)
    → operand_first (lexed names cell 0 at (45 ∷ rest)) bs
    ≡ after (front_minus ∷ []) (operand_first (lexed names cell 0 (at + 1) rest) bs)
unfolding part_found found_by sign_of single_kind
minus_read names cell rest at bs = refl

-- a plus in front is passed over
pub plus_read : (names : NameMap) (cell : Place) (rest : List ℕ) (at : ℕ) (bs : Brackets)
    → operand_first (lexed names cell 0 at (43 ∷ rest)) bs ≡ operand_first (lexed names cell 0 (at + 1) rest) bs
unfolding part_found found_by sign_of single_kind
plus_read names cell rest at bs = refl

-- an opening bracket is one part
pub open_cut : (names : NameMap) (cell : Place) (rest : List ℕ) (at : ℕ)
    → lexed names cell 0 at (40 ∷ rest) ≡ record { at = at; kind = Open } ∷ lexed names cell 0 (at + 1) rest
unfolding part_found found_by sign_of single_kind
open_cut names cell rest at = refl

-- a closing bracket is one part
pub close_cut : (names : NameMap) (cell : Place) (rest : List ℕ) (at : ℕ)
    → lexed names cell 0 at (41 ∷ rest) ≡ record { at = at; kind = Close } ∷ lexed names cell 0 (at + 1) rest
unfolding part_found found_by sign_of single_kind
close_cut names cell rest at = refl

-- a comma is one part
pub comma_cut : (names : NameMap) (cell : Place) (rest : List ℕ) (at : ℕ)
    → lexed names cell 0 at (44 ∷ rest) ≡ record { at = at; kind = Comma } ∷ lexed names cell 0 (at + 1) rest
unfolding part_found found_by sign_of single_kind
comma_cut names cell rest at = refl
