-- What the table of names is, and what looking into it tells.
use Rattle.std.specs.Char.{is_ascii_uppercase, to_ascii_uppercase}
use Rattle.std.proofs.Common.{◌≡◌, ℕ, ◌+◌, ◌<◌, true, false, Bool, List, [], ◌∷◌, ◌++◌, length, take, drop, map, get_or}
use Rattle.std.proofs.Common.{Some, refl, ap, sym, ◌∙◌, subst, arith, length-append, inl, inr}
use Rattle.std.specs.Prelude.{◌&&◌, ◌==◌, nat_lt, nat_eq}
use Rattle.std.specs.Str.{bytes_eq}
use Rattle.std.specs.List.{list_all, starts_with}
use Rattle.std.proofs.lemmas.List.{take_more, take_at, take-append-drop}
use Rattle.std.proofs.lemmas.Bool.{cases_Bool, and_parts, and_from, eqb-true, eq-eqb, lt-ltb, ltb-true, true≢false}
use Rattle.std.proofs.lemmas.Slice.Eq.{bytes_eq-Decides}
use Rattle.std.proofs.lemmas.Bool.Decides.{nat_tests}
use Rattle.std.proofs.lemmas.Grind.{common_steps}
use Rattle.key_words.specs.declared.name.Named.{Named}
use Rattle.key_words.specs.Notation.{is_mark}
use Rattle.key_words.specs.Reading.{BeginsName}
use Rattle.lics_text.specs.Names.{name_in}
use Rattle.key_words.specs.Names.{goes_on, longer, longer_in, looked_up, names}

-- the letters are capitals, and there are some
abbrev is_proper : List ℕ → Bool
is_proper name = nat_lt 0 (length name) && list_all is_ascii_uppercase name

abbrev Table : Type 0
Table = List (List ℕ × Named)

abbrev all_proper : Table → Bool
all_proper table = list_all (λ (e : List ℕ × Named). is_proper e.0) table

proper_names : all_proper names ≡ true
proper_names = refl

-- a name that is found stands in the table
found_proper : (table : Table) (name : List ℕ) (m : Named) → all_proper table ≡ true → name_in table name ≡ Some m
    → is_proper name ≡ true
found_proper [] name m all found = absurd cc
found_proper (e ∷ rest) name m all found =
    let parts = and_parts (is_proper e.0) (all_proper rest) all in
    elim (cases_Bool (bytes_eq e.0 name)) [
      | inl same ↦ subst (λ l. is_proper l ≡ true) ((bytes_eq-Decides e.0 name).0 same) parts.0
      | inr apart ↦ (let on : name_in rest name ≡ Some m = rw apart at found in found_proper rest name m parts.1 on)
    ]

-- a name that begins with these letters and one more
goes_on_is : (name letters : List ℕ) (b : ℕ) → goes_on name letters b ≡ true
    → (take (length letters + 1) name ≡ letters ++ b ∷ []) × (length letters < length name)
goes_on_is name letters b is =
    let long : nat_lt (length letters) (length name) ≡ true = (and_parts _ _ is).0 in
    let rest = and_parts (starts_with nat_eq name letters) (get_or name (length letters) 0 == b) (and_parts _ _ is).1 in
    let within : length letters < length name = ltb-true _ _ long in
    let front : letters ≡ take (length letters) name =
    (bytes_eq-Decides letters (take (length letters) name)).0 rest.0 in
    let letter : get_or name (length letters) 0 ≡ b = eqb-true _ _ rest.1 in (
      take_more name (length letters) 0 within
          ∙ ap (λ (l : List ℕ). l ++ get_or name (length letters) 0 ∷ []) (sym front)
          ∙ ap (λ n. letters ++ n ∷ []) letter,
      within,
    )

goes_on_at : (letters more : List ℕ) (b : ℕ) → goes_on (letters ++ b ∷ more) letters b ≡ true
goes_on_at letters more b =
    let name : List ℕ = letters ++ b ∷ more in
    let long : nat_lt (length letters) (length name) ≡ true =
    lt-ltb _ _ (omega (arith, length-append letters (b ∷ more))) in
    let front : starts_with nat_eq name letters ≡ true =
    (bytes_eq-Decides letters (take (length letters) name)).1
    (sym (take_at letters (b ∷ more) (length letters) refl)) in
    let letter : (get_or name (length letters) 0 == b) ≡ true = eq-eqb _ _ (grind (arith, common_steps)) in
    and_from _ _ long (and_from _ _ front letter)

-- a longer front of a name is found
longer_found : (table : Table) (letters more : List ℕ) (b : ℕ) (m : Named)
    → name_in table (letters ++ b ∷ more) ≡ Some m → longer_in table letters b ≡ Some (letters ++ b ∷ [])
longer_found [] letters more b m found = absurd cc
longer_found (e ∷ rest) letters more b m found = elim (cases_Bool (goes_on e.0 letters b)) [
  | inl on ↦ (rw on (ap Some (goes_on_is e.0 letters b on).0))
  | inr off ↦ elim (cases_Bool (bytes_eq e.0 (letters ++ b ∷ more))) [
    | inl same ↦ (let is : e.0 ≡ letters ++ b ∷ more = (bytes_eq-Decides e.0 (letters ++ b ∷ more)).0 same in
        absurd (true≢false (sym (goes_on_at letters more b) ∙ ap (λ l. goes_on l letters b) (sym is) ∙ off)))
    | inr apart ↦
        (let later : name_in rest (letters ++ b ∷ more) ≡ Some m = rw apart at found in
        rw off (longer_found rest letters more b m later))
  ]
]

-- an entry's name is found, though it may be at another entry
abbrev Found : Table → List ℕ → Type 0
Found table name = (m : Named) × (name_in table name ≡ Some m)

found_here : (e : List ℕ × Named) (rest : Table) → Found (e ∷ rest) e.0
found_here e rest = (e.1, rw ((bytes_eq-Decides e.0 e.0).1 refl) refl)

found_later : (e : List ℕ × Named) (rest : Table) (name : List ℕ) → Found rest name → Found (e ∷ rest) name
found_later e rest name (m, is) = elim (cases_Bool (bytes_eq e.0 name)) [
  | inl same ↦ (e.1, rw same refl)
  | inr apart ↦ (m, rw apart is)
]

record LongerIs (table : Table) (letters : List ℕ) (b : ℕ) (l : List ℕ) : Type 0 where
  same : l ≡ letters ++ b ∷ []
  more : List ℕ
  found : Found table (l ++ more)

longer_is : (table : Table) (letters : List ℕ) (b : ℕ) (l : List ℕ) → longer_in table letters b ≡ Some l
    → LongerIs table letters b l
longer_is [] letters b l is = absurd cc
longer_is (e ∷ rest) letters b l is = elim (cases_Bool (goes_on e.0 letters b)) [
  | inl on ↦ (let fact : Some (take (length letters + 1) e.0) ≡ Some l = rw on at is in
      let taken : take (length letters + 1) e.0 ≡ l = cc in
      record {
        same = sym taken ∙ (goes_on_is e.0 letters b on).0;
        more = drop (length letters + 1) e.0;
        found =
            subst (λ (t : List ℕ). Found (e ∷ rest) t)
            (sym (ap (λ (t : List ℕ). t ++ drop (length letters + 1) e.0) (sym taken)
            ∙ take-append-drop (length letters + 1) e.0)) (found_here e rest);
      })
  | inr off ↦ (let fact : longer_in rest letters b ≡ Some l = rw off at is in
      let later = longer_is rest letters b l fact in
      record { same = later.same; more = later.more; found = found_later e rest (l ++ later.more) later.found })
]

-- a name that is found is one of capitals
pub looked_up_proper : (name : List ℕ) (m : Named) → looked_up name ≡ Some m
    → (0 < length name) × (list_all is_ascii_uppercase name ≡ true)
looked_up_proper name m found =
    let parts =
    and_parts (nat_lt 0 (length name)) (list_all is_ascii_uppercase name)
    (found_proper names name m proper_names found) in
    (ltb-true _ _ parts.0, parts.1)

-- each front of a name goes on with its next letter
pub letter_goes_on : (letters more : List ℕ) (b : ℕ) (m : Named) → looked_up (letters ++ b ∷ more) ≡ Some m
    → longer letters b ≡ Some (letters ++ b ∷ [])
letter_goes_on letters more b m found = longer_found names letters more b m found

capital_folded : (b : ℕ) → is_ascii_uppercase b ≡ true → to_ascii_uppercase b ≡ b
capital_folded b is = grind (arith, nat_tests, is)

-- capitals are the same folded
pub capitals_folded : (letters : List ℕ) → list_all is_ascii_uppercase letters ≡ true
    → map to_ascii_uppercase letters ≡ letters
capitals_folded [] all = refl
capitals_folded (b ∷ bs) all =
    let parts = and_parts (is_ascii_uppercase b) (list_all is_ascii_uppercase bs) all in
    let first : to_ascii_uppercase b ≡ b = capital_folded b parts.0 in
    let later : map to_ascii_uppercase bs ≡ bs = capitals_folded bs parts.1 in
    cc

-- the front of a text of capitals, and what is behind
pub capitals_split : (xs ys : List ℕ) → list_all is_ascii_uppercase (xs ++ ys) ≡ true
    → (list_all is_ascii_uppercase xs ≡ true) × (list_all is_ascii_uppercase ys ≡ true)
capitals_split [] ys all = (refl, all)
capitals_split (x ∷ xs) ys all =
    let parts = and_parts (is_ascii_uppercase x) (list_all is_ascii_uppercase (xs ++ ys)) all in
    let rest = capitals_split xs ys parts.1 in
    (and_from _ _ parts.0 rest.0, rest.1)

-- a front that goes on is longer by that letter, and begins a name
pub letter_is : (letters : List ℕ) (b : ℕ) (l : List ℕ) → longer letters b ≡ Some l
    → (l ≡ letters ++ b ∷ []) × BeginsName l
letter_is letters b l is =
    let fact = longer_is names letters b l is in
    let proper = looked_up_proper (l ++ fact.more) fact.found.0 fact.found.1 in
    let same : map to_ascii_uppercase fact.more ≡ fact.more =
    capitals_folded fact.more (capitals_split l fact.more proper.1).1 in
    (fact.same, (fact.more, fact.found.0, rw same fact.found.1))

-- a letter of a name is no mark, brace or space
pub letter_apart : (b : ℕ) → is_ascii_uppercase (to_ascii_uppercase b) ≡ true
    → ((b == 125) ≡ false) × ((b == 32) ≡ false) × (is_mark b ≡ false)
letter_apart b is =
    let brace : (b == 125) ≡ false = elim (cases_Bool (b == 125)) [
      | inl t ↦ absurd (true≢false (sym is ∙ ap (λ n. is_ascii_uppercase (to_ascii_uppercase n)) (eqb-true b 125 t)))
      | inr f ↦ f
    ] in
    let space : (b == 32) ≡ false = elim (cases_Bool (b == 32)) [
      | inl t ↦ absurd (true≢false (sym is ∙ ap (λ n. is_ascii_uppercase (to_ascii_uppercase n)) (eqb-true b 32 t)))
      | inr f ↦ f
    ] in
    let tilde : (b == 126) ≡ false = elim (cases_Bool (b == 126)) [
      | inl t ↦ absurd (true≢false (sym is ∙ ap (λ n. is_ascii_uppercase (to_ascii_uppercase n)) (eqb-true b 126 t)))
      | inr f ↦ f
    ] in
    let open_brace : (b == 123)
    ≡ false = elim (cases_Bool (b == 123)) [
      | inl t ↦ absurd (true≢false (sym is ∙ ap (λ n. is_ascii_uppercase (to_ascii_uppercase n)) (eqb-true b 123 t)))
      | inr f ↦ f
    ] in
    (brace, space, rw (tilde, open_brace, brace) refl)
