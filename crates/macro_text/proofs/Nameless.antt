-- A text that spells a formula where there are no names spells the same one whatever names there are.
use Rattle.std.proofs.Common.{◌≡◌, ℕ, zero, suc, ◌+◌, ◌-◌, Bool, true, false, List, [], ◌∷◌, Option, None, Some, Result}
use Rattle.std.proofs.Common.{Ok, Err, refl, ap, sym, subst, ◌∙◌}
use Rattle.std.specs.FinMap.{empty, get, get-empty}
use Rattle.std.specs.Prelude.{◌++◌, ◌==◌, drop, get_or, if◌then◌else◌, length, nat_le, nat_lt, take, IsOk}
use Rattle.std.proofs.lemmas.Bool.{false≢true}
use Rattle.lics_text.specs.Ascii as ascii
use Rattle.formula_tree.specs.Table.{counts_of, takes}
use Rattle.formula_tree.specs.Tree.{Tree}
use Rattle.formula_tree.specs.declared.ast.Op.{Op}
use Rattle.formula_tree.specs.declared.ast.Op.TheVariants.{Pow, Mul, Div, Add, Sub, Eq, Ne, Lt, Gt, Le, Ge, And, Or}
use Rattle.formula_tree.specs.declared.ast.Op.TheVariants.{Join}
use Rattle.formula_tree.specs.declared.function.Function.{Function as AtFunction}
use Rattle.grid_address.specs.Axes.{Reference}
use Rattle.grid_address.specs.Place.{Place}
use Rattle.lics_text.specs.Limits.{MAX_LEN}
use Rattle.range_names.specs.Names.{key_of, name_cmp, NameMap}
use Rattle.formula_text.specs.Accepts.{after, bracket_first, bracket_row, close_row, comma_row, front_row}
use Rattle.formula_text.specs.Accepts.{operand_first, operand_row, operator_first, operator_row, Brackets, Verdict}
use Rattle.formula_text.specs.Lexed.{found_by, lexed, part_found}
use Rattle.formula_text.specs.Operands.{function_found, number_found, number_len, text_found}
use Rattle.formula_text.specs.Reading.{reading, told_tree}
use Rattle.formula_text.specs.Signs.{hash_found, sign_found}
use Rattle.formula_text.specs.Tokens.{Token, number, text, place, places, constant, called, opening, closing, comma}
use Rattle.formula_text.specs.Tokens.{front_minus, front_not, infix_op}
use Rattle.formula_text.specs.Words.{address_found, has_dollar, is_word_byte, name_kind, named_span, reference_in}
use Rattle.formula_text.specs.Words.{span_kind, without_dollar, word_found, word_len, word_or_address}
use Rattle.formula_text.specs.declared.fault.ParseFault.{ParseFault}
use Rattle.formula_text.specs.declared.fault.ParseFault.TheVariants.{ArgCount, TooLong, UnknownName}
use Rattle.formula_text.specs.declared.lexeme.Found.{Found}
use Rattle.formula_text.specs.declared.lexeme.LexemeKind.{LexemeKind}
use Rattle.formula_text.specs.declared.lexeme.LexemeKind.TheVariants.{Num, Str, Cell, Span, Constant, Function, Infix}
use Rattle.formula_text.specs.declared.lexeme.LexemeKind.TheVariants.{Not, Open, Close, Comma, Unclosed, Bad}
use Rattle.formula_text.specs.declared.lexeme.Lexeme.{Lexeme}
use Rattle.formula_text.specs.declared.parse.Bracket.{Bracket}
use Rattle.formula_text.specs.declared.parse.Bracket.TheVariants.{Plain, Call}

-- ---- parts

-- a part is the same, unless it was one that may stand nowhere
abbrev Stays : LexemeKind → LexemeKind → Type 0
Stays (Bad f) k = Unit {0}
Stays (Num v) k = k ≡ Num v
Stays (Str t) k = k ≡ Str t
Stays (Cell r) k = k ≡ Cell r
Stays (Span a b) k = k ≡ Span a b
Stays (Constant f) k = k ≡ Constant f
Stays (Function f) k = k ≡ Function f
Stays (Infix op) k = k ≡ Infix op
Stays Not k = k ≡ Not
Stays Open k = k ≡ Open
Stays Close k = k ≡ Close
Stays Comma k = k ≡ Comma
Stays Unclosed k = k ≡ Unclosed

same_stays : (k : LexemeKind) → Stays k k
same_stays (Bad f) = tt
same_stays (Num v) = refl
same_stays (Str t) = refl
same_stays (Cell r) = refl
same_stays (Span a b) = refl
same_stays (Constant f) = refl
same_stays (Function f) = refl
same_stays (Infix op) = refl
same_stays Not = refl
same_stays Open = refl
same_stays Close = refl
same_stays Comma = refl
same_stays Unclosed = refl

-- so are all of a list, in their order and places
abbrev AllStay : List Lexeme → List Lexeme → Type 0
AllStay [] [] = Unit {0}
AllStay [] (m ∷ ms) = ⊥
AllStay (l ∷ ls) [] = ⊥
AllStay (l ∷ ls) (m ∷ ms) = ((m.at ≡ l.at) × Stays l.kind m.kind) × AllStay ls ms

-- ---- what lists of parts are read as

-- a verdict is the same, where it was tokens
abbrev Same : Verdict → Verdict → Type 0
Same v w = IsOk v → w ≡ v

after_same : (front : List Token) (v w : Verdict) → Same v w → Same (after front v) (after front w)
after_same front (Ok ts) w same h = ap (after front) (same refl)
after_same front (Err f) w same h = absurd (false≢true h)

abbrev SameBy : (Brackets → Verdict) → (Brackets → Verdict) → Type 0
SameBy a b = (bs : Brackets) → Same (a bs) (b bs)

abbrev SameByCall : (AtFunction → Brackets → Verdict) → (AtFunction → Brackets → Verdict) → Type 0
SameByCall a b = (f : AtFunction) (bs : Brackets) → Same (a f bs) (b f bs)

front_same : (op : Op) (at : ℕ) (bs : Brackets) (a b : Brackets → Verdict) → SameBy a b
    → Same (front_row op at bs a) (front_row op at bs b)
front_same Add at bs a b same h = same bs h
front_same Sub at bs a b same h = after_same (front_minus ∷ []) (a bs) (b bs) (same bs) h
front_same Pow at bs a b same h = refl
front_same Mul at bs a b same h = refl
front_same Div at bs a b same h = refl
front_same Eq at bs a b same h = refl
front_same Ne at bs a b same h = refl
front_same Lt at bs a b same h = refl
front_same Gt at bs a b same h = refl
front_same Le at bs a b same h = refl
front_same Ge at bs a b same h = refl
front_same And at bs a b same h = refl
front_same Or at bs a b same h = refl
front_same Join at bs a b same h = refl

comma_same : (at : ℕ) (bs : Brackets) (a b : Brackets → Verdict) → SameBy a b
    → Same (comma_row at bs a) (comma_row at bs b)
comma_same at [] a b same h = refl
comma_same at (Plain ∷ bs) a b same h = refl
comma_same at (Call f n ∷ bs) a b same h =
    after_same (comma ∷ []) (a (Call f (n + 1) ∷ bs)) (b (Call f (n + 1) ∷ bs)) (same (Call f (n + 1) ∷ bs)) h

closed_if : (taken : Bool) (f : ParseFault) (v w : Verdict) → Same v w
    → Same (if taken then v else Err f) (if taken then w else Err f)
closed_if true f v w same h = same h
closed_if false f v w same h = refl

close_same : (at : ℕ) (bs : Brackets) (a b : Brackets → Verdict) → SameBy a b
    → Same (close_row at bs a) (close_row at bs b)
close_same at [] a b same h = refl
close_same at (Plain ∷ bs) a b same h = after_same (closing ∷ []) (a bs) (b bs) (same bs) h
close_same at (Call f n ∷ bs) a b same h =
    closed_if (takes (counts_of f) (n + 1)) (ArgCount at) (after (closing ∷ []) (a bs)) (after (closing ∷ []) (b bs))
    (after_same (closing ∷ []) (a bs) (b bs) (same bs)) h

module _ (at : ℕ) (bs : Brackets) (a b c d : Brackets → Verdict) (operand : SameBy a b) (operator : SameBy c d) where
  operand_row_same : (k m : LexemeKind) (e g : AtFunction → Brackets → Verdict) → SameByCall e g → Stays k m
      → Same (operand_row k at bs a c e) (operand_row m at bs b d g)
  operand_row_same (Bad f) m e g bracket stays h = absurd (false≢true h)
  operand_row_same (Num v) m e g bracket stays h =
      ap (λ (k : LexemeKind). operand_row k at bs b d g) stays
      ∙ after_same (number v ∷ []) (c bs) (d bs) (operator bs) h
  operand_row_same (Str t) m e g bracket stays h =
      ap (λ (k : LexemeKind). operand_row k at bs b d g) stays ∙ after_same (text t ∷ []) (c bs) (d bs) (operator bs) h
  operand_row_same (Cell r) m e g bracket stays h =
      ap (λ (k : LexemeKind). operand_row k at bs b d g) stays ∙ after_same (place r ∷ []) (c bs) (d bs) (operator bs) h
  operand_row_same (Span x y) m e g bracket stays h =
      ap (λ (k : LexemeKind). operand_row k at bs b d g) stays
      ∙ after_same (places x y ∷ []) (c bs) (d bs) (operator bs) h
  operand_row_same (Constant f) m e g bracket stays h =
      ap (λ (k : LexemeKind). operand_row k at bs b d g) stays
      ∙ after_same (constant f ∷ []) (c bs) (d bs) (operator bs) h
  operand_row_same (Function f) m e g bracket stays h =
      ap (λ (k : LexemeKind). operand_row k at bs b d g) stays
      ∙ after_same (called f ∷ []) (e f bs) (g f bs) (bracket f bs) h
  operand_row_same (Infix op) m e g bracket stays h =
      ap (λ (k : LexemeKind). operand_row k at bs b d g) stays ∙ front_same op at bs a b operand h
  operand_row_same Not m e g bracket stays h =
      ap (λ (k : LexemeKind). operand_row k at bs b d g) stays
      ∙ after_same (front_not ∷ []) (a bs) (b bs) (operand bs) h
  operand_row_same Open m e g bracket stays h =
      ap (λ (k : LexemeKind). operand_row k at bs b d g) stays
      ∙ after_same (opening ∷ []) (a (Plain ∷ bs)) (b (Plain ∷ bs)) (operand (Plain ∷ bs)) h
  operand_row_same Close m e g bracket stays h = absurd (false≢true h)
  operand_row_same Comma m e g bracket stays h = absurd (false≢true h)
  operand_row_same Unclosed m e g bracket stays h = absurd (false≢true h)

  operator_row_same : (k m : LexemeKind) → Stays k m → Same (operator_row k at bs a c) (operator_row m at bs b d)
  operator_row_same (Infix op) m stays h =
      ap (λ (k : LexemeKind). operator_row k at bs b d) stays
      ∙ after_same (infix_op op ∷ []) (a bs) (b bs) (operand bs) h
  operator_row_same Comma m stays h =
      ap (λ (k : LexemeKind). operator_row k at bs b d) stays ∙ comma_same at bs a b operand h
  operator_row_same Close m stays h =
      ap (λ (k : LexemeKind). operator_row k at bs b d) stays ∙ close_same at bs c d operator h
  operator_row_same (Bad f) m stays h = absurd (false≢true h)
  operator_row_same (Num v) m stays h = absurd (false≢true h)
  operator_row_same (Str t) m stays h = absurd (false≢true h)
  operator_row_same (Cell r) m stays h = absurd (false≢true h)
  operator_row_same (Span x y) m stays h = absurd (false≢true h)
  operator_row_same (Constant f) m stays h = absurd (false≢true h)
  operator_row_same (Function f) m stays h = absurd (false≢true h)
  operator_row_same Not m stays h = absurd (false≢true h)
  operator_row_same Open m stays h = absurd (false≢true h)
  operator_row_same Unclosed m stays h = absurd (false≢true h)

bracket_row_same : (at : ℕ) (v w : Verdict) → Same v w → (k m : LexemeKind) → Stays k m
    → Same (bracket_row k at v) (bracket_row m at w)
bracket_row_same at v w same Open m stays h = ap (λ (k : LexemeKind). bracket_row k at w) stays ∙ same h
bracket_row_same at v w same (Infix op) m stays h = absurd (false≢true h)
bracket_row_same at v w same Comma m stays h = absurd (false≢true h)
bracket_row_same at v w same Close m stays h = absurd (false≢true h)
bracket_row_same at v w same (Bad f) m stays h = absurd (false≢true h)
bracket_row_same at v w same (Num n) m stays h = absurd (false≢true h)
bracket_row_same at v w same (Str t) m stays h = absurd (false≢true h)
bracket_row_same at v w same (Cell r) m stays h = absurd (false≢true h)
bracket_row_same at v w same (Span x y) m stays h = absurd (false≢true h)
bracket_row_same at v w same (Constant f) m stays h = absurd (false≢true h)
bracket_row_same at v w same (Function f) m stays h = absurd (false≢true h)
bracket_row_same at v w same Not m stays h = absurd (false≢true h)
bracket_row_same at v w same Unclosed m stays h = absurd (false≢true h)

mutual
  operand_same : (ls ms : List Lexeme) → AllStay ls ms → SameBy (operand_first ls) (operand_first ms)
  operand_same [] [] stay bs h = refl
  operand_same [] (m ∷ ms) stay bs h = absurd stay
  operand_same (l ∷ ls) [] stay bs h = absurd stay
  operand_same (l ∷ ls) (m ∷ ms) stay bs h =
      ap (λ (n : ℕ). operand_row m.kind n bs (operand_first ms) (operator_first ms) (bracket_first ms)) stay.0.0
      ∙ operand_row_same l.at bs (operand_first ls) (operand_first ms) (operator_first ls) (operator_first ms)
      (operand_same ls ms stay.1) (operator_same ls ms stay.1) l.kind m.kind (bracket_first ls) (bracket_first ms)
      (bracket_same ls ms stay.1) stay.0.1 h

  operator_same : (ls ms : List Lexeme) → AllStay ls ms → SameBy (operator_first ls) (operator_first ms)
  operator_same [] [] stay bs h = refl
  operator_same [] (m ∷ ms) stay bs h = absurd stay
  operator_same (l ∷ ls) [] stay bs h = absurd stay
  operator_same (l ∷ ls) (m ∷ ms) stay bs h =
      ap (λ (n : ℕ). operator_row m.kind n bs (operand_first ms) (operator_first ms)) stay.0.0
      ∙ operator_row_same l.at bs (operand_first ls) (operand_first ms) (operator_first ls) (operator_first ms)
      (operand_same ls ms stay.1) (operator_same ls ms stay.1) l.kind m.kind stay.0.1 h

  bracket_same : (ls ms : List Lexeme) → AllStay ls ms → SameByCall (bracket_first ls) (bracket_first ms)
  bracket_same [] [] stay f bs h = refl
  bracket_same [] (m ∷ ms) stay f bs h = absurd stay
  bracket_same (l ∷ ls) [] stay f bs h = absurd stay
  bracket_same (l ∷ ls) (m ∷ ms) stay f bs h =
      ap (λ (n : ℕ). bracket_row m.kind n (operand_first ms (Call f 0 ∷ bs))) stay.0.0
      ∙ bracket_row_same l.at (operand_first ls (Call f 0 ∷ bs)) (operand_first ms (Call f 0 ∷ bs))
      (operand_same ls ms stay.1 (Call f 0 ∷ bs)) l.kind m.kind stay.0.1 h

-- ---- the parts of a text

-- as long, and the same unless it was one that may stand nowhere
abbrev FoundStays : Found → Found → Type 0
FoundStays x y = (y.len ≡ x.len) × Stays x.kind y.kind

same_found : (x : Found) → FoundStays x x
same_found x = (refl, same_stays x.kind)

found_if : (b : Bool) (x y z w : Found) → FoundStays x y → FoundStays z w
    → FoundStays (if b then x else z) (if b then y else w)
found_if true x y z w first second = first
found_if false x y z w first second = second

abbrev no_names : NameMap
no_names = empty

module _ (names : NameMap) (cell : Place) where
  -- where there are no names a word that is no address may stand nowhere
  none_named : (name : List ℕ) → named_span no_names name ≡ None
  none_named name = by (nat_le (length name) 15)
    where
      by : (b : Bool) → (if b then get no_names (key_of name) else None) ≡ None
      by true = get-empty name_cmp (key_of name)
      by false = refl

  kind_stays : (at : ℕ) (word : List ℕ) → Stays (name_kind no_names cell at word) (name_kind names cell at word)
  kind_stays at word =
      subst (λ (k : LexemeKind). Stays k (name_kind names cell at word))
      (sym (ap (span_kind cell at (has_dollar word)) (none_named (without_dollar word)))) tt

  by_address : (at : ℕ) (word : List ℕ) (len : ℕ) (behind : List ℕ) (o : Option Reference)
      → FoundStays (word_or_address no_names cell at word len behind o)
      (word_or_address names cell at word len behind o)
  by_address at word len behind None = (refl, kind_stays at word)
  by_address at word len behind (Some r) = same_found (address_found cell r len behind)

  word_stays : (at : ℕ) (bytes : List ℕ)
      → FoundStays (word_found no_names cell at bytes) (word_found names cell at bytes)
  word_stays at bytes =
      by_address at (take (word_len bytes) bytes) (word_len bytes) (drop (word_len bytes) bytes)
      (reference_in cell (take (word_len bytes) bytes))

  by_first : (at : ℕ) (bytes : List ℕ) (first : ℕ)
      → FoundStays (found_by no_names cell at bytes first) (found_by names cell at bytes first)
  unfolding found_by
  by_first at bytes first =
      found_if (first == ascii.quote) _ _ _ _ (same_found (text_found at bytes))
      (found_if (first == ascii.at_sign) _ _ _ _ (same_found (function_found at bytes))
      (found_if (first == ascii.hash) _ _ _ _ (same_found (hash_found at bytes))
      (found_if (is_word_byte first) _ _ _ _ (word_stays at bytes) (same_found (sign_found at bytes)))))

  part_stays : (at : ℕ) (bytes : List ℕ)
      → FoundStays (part_found no_names cell at bytes) (part_found names cell at bytes)
  unfolding part_found
  part_stays at bytes =
      found_if (nat_lt 0 (number_len bytes)) _ _ _ _ (same_found (number_found at bytes))
      (by_first at bytes (get_or bytes 0 0))

  stay_if : (b : Bool) (xs ys zs ws : List Lexeme) → AllStay xs ys → AllStay zs ws
      → AllStay (if b then xs else zs) (if b then ys else ws)
  stay_if true xs ys zs ws first second = first
  stay_if false xs ys zs ws first second = second

  parts_stay : (skipped at : ℕ) (bytes : List ℕ)
      → AllStay (lexed no_names cell skipped at bytes) (lexed names cell skipped at bytes)
  parts_stay skipped at [] = tt
  parts_stay (suc skipped) at (b ∷ bs) = parts_stay skipped (at + 1) bs
  parts_stay zero at (b ∷ bs) =
      let part = part_stays at (b ∷ bs) in
      stay_if (b == ascii.space) _ _ _ _ (parts_stay 0 (at + 1) bs) (
        (refl, part.1),
        subst (λ (n : ℕ). AllStay (lexed no_names cell ((part_found no_names cell at (b ∷ bs)).len - 1) (at + 1) bs)
            (lexed names cell (n - 1) (at + 1) bs)) (sym part.0)
            (parts_stay ((part_found no_names cell at (b ∷ bs)).len - 1) (at + 1) bs),
      )

-- ---- formulas

-- what is told of a verdict that is the same
told_same : (v w : Verdict) (t : Tree) → Same v w → told_tree v ≡ Ok t → told_tree w ≡ Ok t
told_same (Ok ts) w t same h = ap told_tree (same refl) ∙ h
told_same (Err f) w t same h = absurd cc

-- a formula that is read without names is read with any
pub nameless : (at : Place) (bytes : List ℕ) (t : Tree) → reading no_names at bytes ≡ Ok t → (names : NameMap)
    → reading names at bytes ≡ Ok t
unfolding reading
nameless at bytes t h names = by (nat_lt MAX_LEN (length bytes)) h
  where
    by : (b : Bool) → (if b then Err TooLong else told_tree (operand_first (lexed no_names at 0 0 bytes) [])) ≡ Ok t →
        (if b then Err TooLong else told_tree (operand_first (lexed names at 0 0 bytes) [])) ≡ Ok t
    by true k = absurd cc
    by false k =
        told_same (operand_first (lexed no_names at 0 0 bytes) []) (operand_first (lexed names at 0 0 bytes) []) t
        (operand_same (lexed no_names at 0 0 bytes) (lexed names at 0 0 bytes) (parts_stay names at 0 0 bytes) []) k
