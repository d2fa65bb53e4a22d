-- Functions that are written are read.
use Rattle.std.proofs.Common.{◌≡◌, ℕ, ◌+◌, ◌<◌, Bool, true, false, ◌&&◌, ◌==◌, nat_lt, List, [], ◌∷◌, ◌++◌, take}
use Rattle.std.proofs.Common.{length, get_or, Some, refl, sym, ap, ◌∙◌, subst, arith, inl, inr, ◌⊎◌}
use Rattle.std.specs.Prelude.{codes, if◌then◌else◌}
use Rattle.std.specs.List.{list_all}
use Rattle.std.proofs.lemmas.Bool.{and_parts, cases_Bool}
use Rattle.std.proofs.lemmas.Bool.Decides.{nat_tests}
use Rattle.grid_address.specs.Place.{Place}
use Rattle.range_names.specs.Names.{NameMap}
use Rattle.formula_tree.specs.declared.function.Function.{Function as AtFunction}
use Rattle.formula_tree.specs.declared.function.Function.TheVariants as function
use Rattle.formula_tree.specs.declared.table.Counts.{Counts}
use Rattle.formula_tree.specs.declared.table.Counts.TheVariants.{Exactly, AtLeast}
use Rattle.formula_tree.specs.Table.{counts_of, takes}
use Rattle.formula_text.specs.declared.lexeme.LexemeKind.{LexemeKind}
use Rattle.formula_text.specs.declared.lexeme.LexemeKind.TheVariants.{Constant, Function}
use Rattle.formula_text.specs.Functions.{function_named, name_of}
use Rattle.formula_text.specs.Lexed.{found_by, part_found}
use Rattle.formula_text.specs.Operands.{called_kind, function_found, function_kind, is_name_byte}
use Rattle.formula_text.specs.Words.{is_word_byte}
use Rattle.formula_text.proofs.Cuts.{front_len, take_front, IsPart}

-- a function is found by its name, which is of letters and digits
record IsNamed (f : AtFunction) : Type 0 where
  some : nat_lt 0 (length (name_of f)) ≡ true
  plain : list_all is_name_byte (name_of f) ≡ true
  found : function_named (name_of f) ≡ Some f

-- each function but @@
pointed_or_named : (f : AtFunction) → (f ≡ function.Pointed) ⊎ IsNamed f
pointed_or_named function.Pointed = inl refl
pointed_or_named f = inr (record { some = refl; plain = refl; found = refl })

-- no function takes none or one argument
not_both : (f : AtFunction) → (takes (counts_of f) 0 && takes (counts_of f) 1) ≡ false
not_both function.Choose = refl
not_both f = refl

-- what may stand behind a name
name_stops : (b : ℕ) → is_word_byte b ≡ false → is_name_byte b ≡ false
name_stops b h = grind arith

no_at : (b : ℕ) → is_name_byte b ≡ true → (b == 64) ≡ false
no_at b h = grind (arith, nat_tests, h)

at_found : (names : NameMap) (cell : Place) (rest : List ℕ) (at : ℕ)
    → part_found names cell at (64 ∷ rest) ≡ function_found at (64 ∷ rest)
unfolding part_found found_by
at_found names cell rest at = refl

-- a constant or a function with arguments, by what it takes
abbrev pub kind_of : AtFunction → LexemeKind
kind_of f = if takes (counts_of f) 0 then Constant f else Function f

named_found : (at : ℕ) (f : AtFunction) (name rest : List ℕ) → 0 < length name → list_all is_name_byte name ≡ true
    → function_named name ≡ Some f → is_word_byte (get_or rest 0 0) ≡ false →
    function_found at (64 ∷ (name ++ rest)) ≡ record { kind = kind_of f; len = 1 + length name }
named_found at f [] rest some all h stops = absurd (omega arith)
named_found at f (b ∷ bs) rest some all h stops =
    let apart = no_at b (and_parts (is_name_byte b) (list_all is_name_byte bs) all).0 in
    let long = front_len is_name_byte (b ∷ bs) rest all (name_stops (get_or rest 0 0) stops) in
    rw (apart) (
    ap (λ k. record { kind = called_kind at (take k (b ∷ (bs ++ rest))); len = 1 + k }) long
    ∙ ap (λ (l : List ℕ). record { kind = called_kind at l; len = 1 + length (b ∷ bs) }) (take_front (b ∷ bs) rest)
    ∙ ap (λ f. record { kind = function_kind at (b ∷ bs) f; len = 1 + length (b ∷ bs) }) h)

pointed_found : (at : ℕ) (rest : List ℕ) → function_found at (64 ∷ (name_of function.Pointed ++ rest))
    ≡ record { kind = kind_of function.Pointed; len = length (codes "@" ++ name_of function.Pointed) }
pointed_found at rest = refl

-- the sign and the name of a function are one part, the function
pub function_part : (names : NameMap) (cell : Place) (f : AtFunction)
    → IsPart names cell (codes "@" ++ name_of f) (kind_of f)
function_part names cell f = record {
  some = omega arith;
  first = λ rest. record { space = refl; equal = refl; greater = refl };
  found = λ rest at stops. at_found names cell (name_of f ++ rest) at ∙ (elim (pointed_or_named f) [
    | inl pointed ↦ subst (λ g. function_found at (64 ∷ (name_of g ++ rest)) ≡ record
        { kind = kind_of g; len = length (codes "@" ++ name_of g) }) (sym pointed) (pointed_found at rest)
    | inr named ↦ (
        let some = named.some in
        let less : 0 < length (name_of f) = grind (arith, nat_tests, some) in
        named_found at f (name_of f) rest less named.plain named.found stops.word ∙ ap (λ k. record {
          kind = kind_of f;
          len = k;
        }) (let e : 1 + length (name_of f) ≡ length (64 ∷ name_of f) = omega arith in e))
  ]);
}

middle : (c : Counts) (n : ℕ) → takes c 0 ≡ true → takes c (1 + n) ≡ true → takes c 1 ≡ true
middle (Exactly wanted) n h g = grind (arith, nat_tests, h, g)
middle (AtLeast least) n h g = grind (arith, nat_tests, h, g)

-- a function that takes arguments always takes some
pub some_taken : (f : AtFunction) (n : ℕ) → takes (counts_of f) (1 + n) ≡ true → takes (counts_of f) 0 ≡ false
some_taken f n h = elim (cases_Bool (takes (counts_of f) 0)) [
  | inl none ↦
      absurd (both (takes (counts_of f) 0) (takes (counts_of f) 1) none (middle (counts_of f) n none h) (not_both f))
  | inr some ↦ some
]
  where
    both : (a b : Bool) → a ≡ true → b ≡ true → (a && b) ≡ false → ⊥
    both a b p q h = absurd (grind (arith, p, q, h))
