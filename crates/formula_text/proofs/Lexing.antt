-- A text is cut part by part.
use Rattle.std.proofs.Common.{◌≡◌, ℕ, zero, suc, ◌+◌, ◌-◌, ◌≤◌, ◌<◌, Bool, true, false, ◌&&◌, cond, ◌==◌, List, [], ◌∷◌}
use Rattle.std.proofs.Common.{◌++◌, drop, length, refl, sym, ap, ◌∙◌, arith, append_assoc}
use Rattle.std.proofs.lemmas.List.{drop-drop, get_or-drop}
use Rattle.std.proofs.lemmas.Bool.Decides.{nat_tests}
use Rattle.std.proofs.lemmas.Bool.{and_from, and_parts}
use Rattle.std.specs.Prelude.{slice_index}
use Rattle.grid_address.specs.Place.{Place}
use Rattle.range_names.specs.Names.{NameMap}
use Rattle.formula_text.specs.declared.lexeme.Lexeme.{Lexeme}
use Rattle.formula_text.specs.inner.Fine.{are_fine, is_fine_kind}
use Rattle.formula_text.specs.Lexed.{lexed, part_found}

abbrev part : NameMap → Place → ℕ → List ℕ → Lexeme
part names cell at bytes = record { at = at; kind = (part_found names cell at bytes).kind }

skipped : (names : NameMap) (cell : Place) (s at : ℕ) (bs : List ℕ) → s ≤ length bs
    → lexed names cell s at bs ≡ lexed names cell 0 (at + s) (drop s bs)
skipped names cell zero at bs h = ap (λ k. lexed names cell 0 k bs) (let e : at ≡ at + 0 = omega arith in e)
skipped names cell (suc s) at [] h = absurd (omega arith)
skipped names cell (suc s) at (b ∷ bs) h =
    skipped names cell s (at + 1) bs (omega arith)
    ∙ ap (λ k. lexed names cell 0 k (drop s bs)) (let e : at + 1 + s ≡ at + suc s = omega arith in e)

-- a part that begins at no space is the first, and the others are those behind it
pub here : (names : NameMap) (cell : Place) (at : ℕ) (ds : List ℕ) (len : ℕ) → (slice_index ds 0 == 32) ≡ false
    → len ≡ (part_found names cell at ds).len → 0 < len → len ≤ length ds →
    lexed names cell 0 at ds ≡ part names cell at ds ∷ lexed names cell 0 (at + len) (drop len ds)
here names cell at [] len n e p h = absurd (omega arith)
here names cell at (b ∷ bs) zero n e p h = absurd (omega arith)
here names cell at (b ∷ bs) (suc m) n e p h =
    ap (λ c. cond c (lexed names cell 0 (at + 1) bs)
    (part names cell at (b ∷ bs) ∷ lexed names cell ((part_found names cell at (b ∷ bs)).len - 1) (at + 1) bs)) n
    ∙ ap (λ k. part names cell at (b ∷ bs) ∷ lexed names cell k (at + 1) bs)
    (let q : (part_found names cell at (b ∷ bs)).len - 1 ≡ m = omega arith in q)
    ∙ ap (λ l. part names cell at (b ∷ bs) ∷ l)
    (skipped names cell m (at + 1) bs (omega arith)
    ∙ ap (λ k. lexed names cell 0 k (drop m bs)) (let q : at + 1 + m ≡ at + suc m = omega arith in q))

-- one more part of a text
pub one_part : (names : NameMap) (cell : Place) (text : List ℕ) (at len : ℕ) → at < length text
    → (slice_index text at ≡ 32 → ⊥) → len ≡ (part_found names cell at (drop at text)).len → 0 < len
    → len ≤ length (drop at text) → lexed names cell 0 at (drop at text) ≡ record {
      at = at;
      kind = (part_found names cell at (drop at text)).kind;
    } ∷ lexed names cell 0 (at + len) (drop (at + len) text)
one_part names cell text at len h n e p q =
    let first : slice_index (drop at text) 0 ≡ slice_index text at = get_or-drop at text 0 0
    ∙ ap (slice_index text) (let z : at + 0 ≡ at = omega arith in z) in
    let no : (slice_index (drop at text) 0 == 32) ≡ false = grind (arith, nat_tests) in
    here names cell at (drop at text) len no e p q
    ∙ ap (λ ds. part names cell at (drop at text) ∷ lexed names cell 0 (at + len) ds) (drop-drop len at text)

-- what was found, with one more part at its end
pub kept : (before : List Lexeme) (l : Lexeme) (rest : List Lexeme) (now all : List Lexeme) → before ++ now ≡ all
    → now ≡ l ∷ rest → (before ++ l ∷ []) ++ rest ≡ all
kept before l rest now all e f = append_assoc before (l ∷ []) rest ∙ ap (λ x. before ++ x) (sym f) ∙ e

-- parts that are fine, with one more that is, are fine
pub all_fine : (before : List Lexeme) (l : Lexeme) → are_fine before ≡ true → is_fine_kind l.kind ≡ true
    → are_fine (before ++ l ∷ []) ≡ true
all_fine [] l p q = and_from _ _ q refl
all_fine (b ∷ bs) l p q = and_from _ _ (and_parts (is_fine_kind b.kind) (are_fine bs) p).0
    (all_fine bs l (and_parts (is_fine_kind b.kind) (are_fine bs) p).1 q)
