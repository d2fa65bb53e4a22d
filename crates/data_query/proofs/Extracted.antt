-- What an extraction writes, one value and one record at a time, and when it is refused.
use Rattle.std.proofs.Common.{◌≡◌, ℕ, ◌+◌, ◌<◌, ◌≤◌, List, [], ◌∷◌, ◌++◌, map, length, drop, get_or, cond, sym, ap, ◌∙◌}
use Rattle.std.proofs.Common.{append_assoc, subst}
use Rattle.std.specs.Prelude.{◌⊎◌, Bool, Result, Ok, Err, IfOk, IfErr}
use Rattle.std.specs.Result.{result_and}
use Rattle.std.proofs.lemmas.Bool.{le-ltb, lt-ltb}
use Rattle.std.proofs.lemmas.List.{append-nil, drop_all, drop_more}
use Rattle.grid_address.specs.Place.{Extent}
use Rattle.formula_parts.specs.Outlook.{Outlook, Sight}
use Rattle.sheet_store.specs.declared.writes.Write.{Write}
use Rattle.data_query.specs.Extraction.{extraction, fields_extracted, labelled, output_written, room_of, rows_extracted}
use Rattle.data_query.specs.Extraction.{taken_fields}
use Rattle.data_query.specs.Selection.{asked}
use Rattle.data_query.specs.declared.fault.QueryFault.{QueryFault}
use Rattle.data_query.specs.declared.fault.QueryFault.TheVariants as fault
use Rattle.data_query.specs.declared.output.OutputField.{OutputField}

module _ {X W : Type 0} (f : X → W) (xs : List X) where
  -- one more is made
  pub made_next : (i : ℕ) (d : X) (now new all : List W) (w : W) → i < length xs → w ≡ f (get_or xs i d)
      → new ≡ now ++ w ∷ [] → now ++ map f (drop i xs) ≡ all → new ++ map f (drop (i + 1) xs) ≡ all
  made_next i d now new all w inside is more so_far =
      ap (λ l. l ++ map f (drop (i + 1) xs)) more ∙ append_assoc now (w ∷ []) (map f (drop (i + 1) xs))
      ∙ ap (λ x. now ++ x ∷ map f (drop (i + 1) xs)) is ∙ ap (λ l. now ++ map f l) (sym (drop_more xs i d inside))
      ∙ so_far

  -- none is left
  pub made_all : (i : ℕ) (now all : List W) → length xs ≤ i → now ++ map f (drop i xs) ≡ all → now ≡ all
  made_all i now all past so_far = sym (append-nil now) ∙ ap (λ l. now ++ map f l) (sym (drop_all i xs past)) ∙ so_far

-- an answer by one definition is an answer by an equal one
pub found_as : (r e f : Result (List Write) QueryFault) → e ≡ f → IfOk r (λ (l : List Write). e ≡ Ok l)
    → IfOk r (λ (l : List Write). f ≡ Ok l)
found_as r e f same fact =
    subst (λ (x : Result (List Write) QueryFault). IfOk r (λ (l : List Write). x ≡ Ok l)) same fact

-- a fault of what is told is a fault of what is told the same
pub fault_as : (r e f : Result (List Write) QueryFault) → e ≡ f
    → IfErr r (λ (q : QueryFault). (q ≡ fault.Memory) ⊎ (e ≡ Err q))
    → IfErr r (λ (q : QueryFault). (q ≡ fault.Memory) ⊎ (f ≡ Err q))
fault_as r e f same fact =
    subst (λ (x : Result (List Write) QueryFault). IfErr r (λ (q : QueryFault). (q ≡ fault.Memory) ⊎ (x ≡ Err q))) same
    fact

module _ (sight : Sight) (output : Extent) (fields : List OutputField) (rows : List ℕ) where
  -- too many records, or no more than there is room for
  pub too_many : (k : ℕ) → room_of output < length rows → k ≡ length rows
      → rows_extracted sight output fields rows ≡ Err (fault.OutputFull k)
  too_many k more is =
      ap (λ (b : Bool). cond b (Err (fault.OutputFull (length rows))) (Ok (output_written sight output fields rows)))
      (lt-ltb (room_of output) (length rows) more)
      ∙ ap (λ (n : ℕ). Err (fault.OutputFull n)) (sym is)

  -- where the rows have room, they are written
  pub enough : (writes : List Write) → length rows ≤ room_of output → writes ≡ output_written sight output fields rows
      → rows_extracted sight output fields rows ≡ Ok writes
  enough writes fewer is =
      ap (λ (b : Bool). cond b (Err (fault.OutputFull (length rows))) (Ok (output_written sight output fields rows)))
      (le-ltb (room_of output) (length rows) fewer)
      ∙ ap (λ (l : List Write). Ok l) (sym is)

module _ (w : Outlook) (input criterion output : Extent) (unique : Bool) where
  -- an extraction without a fault of its input, criterion or headers
  pub goes_on : asked {X = Unit {0}} w.sight input criterion tt ≡ Ok tt
      → labelled {X = Unit {0}} w.sight input output tt ≡ Ok tt
      → extraction w input criterion output unique
      ≡ fields_extracted w input criterion output unique (taken_fields w.sight input output)
  goes_on asks labels =
      let rest = fields_extracted w input criterion output unique (taken_fields w.sight input output) in
      ap (λ (r : Result (Unit {0}) QueryFault). result_and r
      (result_and {T = Unit {0}} (labelled w.sight input output tt) rest)) asks
      ∙ ap (λ (r : Result (Unit {0}) QueryFault). result_and r rest) labels

  -- one with such a fault
  pub not_asked : (f : QueryFault) → asked {X = Unit {0}} w.sight input criterion tt ≡ Err f
      → extraction w input criterion output unique ≡ Err f
  not_asked f asks =
      let rest = fields_extracted w input criterion output unique (taken_fields w.sight input output) in
      ap (λ (r : Result (Unit {0}) QueryFault). result_and r
      (result_and {T = Unit {0}} (labelled w.sight input output tt) rest)) asks

  -- an output without labels refuses the extraction
  pub not_labelled : (f : QueryFault) → asked {X = Unit {0}} w.sight input criterion tt ≡ Ok tt
      → labelled {X = Unit {0}} w.sight input output tt ≡ Err f → extraction w input criterion output unique ≡ Err f
  not_labelled f asks labels =
      let rest = fields_extracted w input criterion output unique (taken_fields w.sight input output) in
      ap (λ (r : Result (Unit {0}) QueryFault). result_and r
      (result_and {T = Unit {0}} (labelled w.sight input output tt) rest)) asks
      ∙ ap (λ (r : Result (Unit {0}) QueryFault). result_and r rest) labels
