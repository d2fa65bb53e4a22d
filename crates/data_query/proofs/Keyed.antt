-- Records are told apart by their keys.
use Rattle.std.proofs.Common.{◌≡◌, ℕ, List, [], ◌∷◌, ◌++◌, map, cond, refl, sym, ap, ◌∙◌}
use Rattle.std.specs.Prelude.{◌&&◌, ◌||◌, Bool, true, false}
use Rattle.std.specs.Cmp.Lexicographic.{pointwise}
use Rattle.std.specs.Global.{Vec}
use Rattle.std.specs.List.{list_any}
use Rattle.std.proofs.lemmas.Cmp.{int_eq_equiv, nat_list_eq_equiv}
use Rattle.std.proofs.lemmas.List.{map-append}
use Rattle.grid_address.specs.Place.{Place}
use Rattle.formula_tree.specs.Values.{same_value}
use Rattle.formula_tree.specs.declared.value.Value.{Value}
use Rattle.formula_parts.specs.Outlook.{Sight}
use Rattle.block_writes.specs.Writing.{at}
use Rattle.data_query.specs.Extraction.{same_record}
use Rattle.data_query.specs.inner.Keys.{all_keyed, keyed, record_values, same_values}
use Rattle.data_query.specs.declared.output.OutputField.{OutputField}
use Rattle.data_query.specs.declared.repeats.ValueKey.{ValueKey}
use Rattle.data_query.specs.declared.repeats.ValueKey.TheVariants as key
use Rattle.data_query.specs.contracts.repeats.ValueKeyPartialEq.TheImpl as key_eq

-- records are the same where their values are
same_as_values : (sight : Sight) (fields : List OutputField) (a b : ℕ)
    → same_record sight fields a b ≡ same_values (record_values sight fields a) (record_values sight fields b)
same_as_values sight [] a b = refl
same_as_values sight (f ∷ fields) a b =
    ap (λ c. same_value (sight.values (at a f.field)) (sight.values (at b f.field)) && c)
    (same_as_values sight fields a b)

-- a test of what is made of each
any_made : {X Y : Type 0} (test : Y → Bool) (f : X → Y) (xs : List X)
    → list_any (λ x. test (f x)) xs ≡ list_any test (map f xs)
any_made test f [] = refl
any_made test f (x ∷ xs) = ap (λ b. test (f x) || b) (any_made test f xs)

-- a record is the same as one of these where its values are those of a key
pub among_keys : {X : Type 0} (values_of : X → List Value) (sight : Sight) (fields : List OutputField) (keys : List X)
    (kept : List Place) (cell : Place) (values : List Value) →
    map values_of keys ≡ map (λ (p : Place). record_values sight fields p.row) kept
    → values ≡ record_values sight fields cell.row →
    list_any (λ k. same_values (values_of k) values) keys
    ≡ list_any (λ (p : Place). same_record sight fields p.row cell.row) kept
among_keys values_of sight fields keys kept cell values are is =
    any_made (λ v. same_values v values) values_of keys
    ∙ ap (list_any (λ v. same_values v values)) are
    ∙ sym (any_made (λ v. same_values v values) (λ (p : Place). record_values sight fields p.row) kept)
    ∙ ap (λ (vs : List Value). list_any (λ (p : Place). same_values (record_values sight fields p.row) vs) kept) is
    ∙ sym (any_same kept)
  where
    any_same : (ps : List Place)
        → list_any (λ (p : Place). same_record sight fields p.row cell.row) ps
        ≡ list_any (λ (p : Place). same_values (record_values sight fields p.row)
        (record_values sight fields cell.row)) ps
    any_same [] = refl
    any_same (p ∷ ps) =
        ap (λ b. b || list_any (λ (q : Place). same_record sight fields q.row cell.row) ps)
        (same_as_values sight fields p.row cell.row)
        ∙ ap (λ b. same_values (record_values sight fields p.row) (record_values sight fields cell.row) || b)
        (any_same ps)

-- what `==` says of two keys of values
abbrev equal : ValueKey → ValueKey → Bool
equal = (key_eq.ghosts).eq

-- keys are equal exactly where the values are
key_alike : (a b : ValueKey) → equal a b ≡ same_value (keyed b) (keyed a)
key_alike key.Blank key.Blank = refl
key_alike key.Blank (key.Number n) = refl
key_alike key.Blank (key.Text t) = refl
key_alike key.Blank key.Err = refl
key_alike key.Blank key.Na = refl
key_alike (key.Number m) key.Blank = refl
key_alike (key.Number m) (key.Number n) = int_eq_equiv.symm m n
key_alike (key.Number m) (key.Text t) = refl
key_alike (key.Number m) key.Err = refl
key_alike (key.Number m) key.Na = refl
key_alike (key.Text s) key.Blank = refl
key_alike (key.Text s) (key.Number n) = refl
key_alike (key.Text s) (key.Text t) = nat_list_eq_equiv.symm s.items t.items
key_alike (key.Text s) key.Err = refl
key_alike (key.Text s) key.Na = refl
key_alike key.Err key.Blank = refl
key_alike key.Err (key.Number n) = refl
key_alike key.Err (key.Text t) = refl
key_alike key.Err key.Err = refl
key_alike key.Err key.Na = refl
key_alike key.Na key.Blank = refl
key_alike key.Na (key.Number n) = refl
key_alike key.Na (key.Text t) = refl
key_alike key.Na key.Err = refl
key_alike key.Na key.Na = refl

keys_alike : (xs ys : List ValueKey) → pointwise equal xs ys ≡ same_values (all_keyed ys) (all_keyed xs)
keys_alike [] [] = refl
keys_alike [] (y ∷ ys) = refl
keys_alike (x ∷ xs) [] = refl
keys_alike (x ∷ xs) (y ∷ ys) =
    ap (λ b. b && pointwise equal xs ys) (key_alike x y)
    ∙ ap (λ b. same_value (keyed y) (keyed x) && b) (keys_alike xs ys)

-- a record's key is among others where one of them stands for the same values
pub among_equal : (key : Vec ValueKey) (keys : List (Vec ValueKey)) →
    list_any (λ (k : Vec ValueKey). pointwise equal key.items k.items) keys
    ≡ list_any (λ (k : Vec ValueKey). same_values (all_keyed k.items) (all_keyed key.items)) keys
among_equal key [] = refl
among_equal key (k ∷ keys) =
    ap (λ b. b || list_any (λ (l : Vec ValueKey). pointwise equal key.items l.items) keys)
    (keys_alike key.items k.items)
    ∙ ap (λ b. same_values (all_keyed k.items) (all_keyed key.items) || b) (among_equal key keys)

-- one more record is looked at, beside the keys of the records that are kept
module _ (sight : Sight) (fields : List OutputField) (key : Vec ValueKey) (keys : List (Vec ValueKey))
    (kept : List Place) (cell : Place)
    (are : map (λ (k : Vec ValueKey). all_keyed k.items) keys
    ≡ map (λ (p : Place). record_values sight fields p.row) kept)
    (is : all_keyed key.items ≡ record_values sight fields cell.row) where
  abbrev among : Bool
  among = list_any (λ (k : Vec ValueKey). same_values (all_keyed k.items) (all_keyed key.items)) keys

  abbrev repeated : Bool
  repeated = list_any (λ (p : Place). same_record sight fields p.row cell.row) kept

  among_is : among ≡ repeated
  among_is =
      among_keys (λ (k : Vec ValueKey). all_keyed k.items) sight fields keys kept cell (all_keyed key.items) are is

  -- it is left out, or joins them
  pub left_out : (told : Bool) → told ≡ among → told ≡ true → kept ≡ cond repeated kept (kept ++ cell ∷ [])
  left_out told tells test = ap (λ b. cond b kept (kept ++ cell ∷ [])) (sym test ∙ tells ∙ among_is)

  -- a record that is like none before joins them
  pub joins : (told : Bool) (new : List Place) → told ≡ among → told ≡ false → new ≡ kept ++ cell ∷ []
      → new ≡ cond repeated kept (kept ++ cell ∷ [])
  joins told new tells test more = more ∙ ap (λ b. cond b kept (kept ++ cell ∷ [])) (sym test ∙ tells ∙ among_is)

  -- and so does its key
  pub keys_left : (told : Bool) (new : List (Vec ValueKey)) → told ≡ among → told ≡ true
      → new ≡ cond among keys (keys ++ key ∷ []) →
      map (λ (k : Vec ValueKey). all_keyed k.items) new ≡ map (λ (p : Place). record_values sight fields p.row) kept
  keys_left told new tells test less =
      ap (map (λ (k : Vec ValueKey). all_keyed k.items))
      (less ∙ ap (λ b. cond b keys (keys ++ key ∷ [])) (sym tells ∙ test)) ∙ are

  -- its key joins theirs
  pub keys_join : (told : Bool) (new : List (Vec ValueKey)) (joined : List Place) → told ≡ among → told ≡ false
      → new ≡ cond among keys (keys ++ key ∷ []) → joined ≡ kept ++ cell ∷ [] →
      map (λ (k : Vec ValueKey). all_keyed k.items) new ≡ map (λ (p : Place). record_values sight fields p.row) joined
  keys_join told new joined tells test more has =
      ap (map (λ (k : Vec ValueKey). all_keyed k.items))
      (more ∙ ap (λ b. cond b keys (keys ++ key ∷ [])) (sym tells ∙ test))
      ∙ map-append (λ (k : Vec ValueKey). all_keyed k.items) keys (key ∷ [])
      ∙ ap (λ l. l ++ all_keyed key.items ∷ []) are
      ∙ ap (λ v. map (λ (p : Place). record_values sight fields p.row) kept ++ v ∷ []) is
      ∙ sym (ap (map (λ (p : Place). record_values sight fields p.row)) has
      ∙ map-append (λ (p : Place). record_values sight fields p.row) kept (cell ∷ []))
