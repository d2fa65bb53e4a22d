-- What comes of an edit that a word makes.
use Rattle.std.specs.Prelude.{ℕ, ◌≡◌, ◌&&◌, ◌||◌, Bool, true, false, if◌then◌else◌, refl, List, [], ◌∷◌, Option, None}
use Rattle.std.specs.Prelude.{Some, OnErr, OnOk, Result, Ok, Err}
use Rattle.std.specs.declared.cmp.Ordering.{Ordering}
use Rattle.std.specs.declared.cmp.Ordering.TheVariants.{Equal, Greater, Less}
use Rattle.std.specs.Ordering.{ordering_reverse}
use Rattle.std.proofs.Common.{ap, subst, sym, ◌∙◌}
use Rattle.std.proofs.lemmas.Bool.{and_parts, false≢true}
use Rattle.formula_eval.specs.Mean.{mean}
use Rattle.formula_parts.specs.declared.look.Scene.{Scene}
use Rattle.grid_address.proofs.Places.{cells_exact, cells_total}
use Rattle.grid_address.specs.Place.{place_cmp, same_place, Place}
use Rattle.macro_words.specs.declared.running.Change.{Change}
use Rattle.cell_maps.specs.Sets.{has}
use Rattle.sheet_edits.proofs.Spanned.{first_more}
use Rattle.sheet_edits.specs.Spans.{IsAnswered, IsFirstProtected, NoneProtected}
use Rattle.sheet_edits.specs.inner.Marks.{IsFirstMarked, IsFirstOf}
use Rattle.sheet_store.specs.Grid.{Grid}
use Rattle.sheet_store.specs.declared.writes.SheetFault.{SheetFault}
use Rattle.sheet_store.specs.declared.writes.SheetFault.TheVariants as fault
use Rattle.work_sheet.proofs.Done.{did_both, left}
use Rattle.work_sheet.specs.Did.{Did, DidEdit}
use Rattle.work_sheet.specs.Doing.{and_then, settled, Done}
use Rattle.work_sheet.specs.Seen.{of_worksheet, Sheet}
use Rattle.work_sheet.specs.Sheets.{Worksheet}
use Rattle.macro_engine.specs.inner.Carried.{HasCarried, HasSettled}
use Rattle.macro_engine.specs.Changes.{changed, changed_cells, first_marked, refused_cell}

-- the first marked cell of a list is just that
first_marked_is : (g : Grid) (cells : List Place) → IsFirstOf g (has same_place cells) (first_marked g cells)
first_marked_is g [] = λ c h. absurd (false≢true h)
first_marked_is g (x ∷ xs) =
    first_more g (has same_place xs) (has same_place (x ∷ xs)) x
    (λ c. turned_about (same_place c x) (has same_place xs c)) (first_marked g xs) (first_marked_is g xs)
  where
    turned_about : (a b : Bool) → (a || b) ≡ (b || (a || false))
    turned_about true true = refl
    turned_about true false = refl
    turned_about false true = refl
    turned_about false false = refl

-- there is one such cell at most
module _ (g : Grid) (among : Place → Bool) (c d : Place) (p : IsFirstMarked g among c)
    (q : IsFirstMarked g among d) where
  one_by : (r : Ordering) → place_cmp c d ≡ r → c ≡ d
  one_by Less h = absurd (q.first c p.here p.marked h)
  one_by Equal h = cells_exact c d h
  one_by Greater h = absurd (p.first d q.here q.marked (cells_total.antisymm d c ∙ ap ordering_reverse h))

  one_first : c ≡ d
  one_first = one_by (place_cmp c d) refl

module _ (v : Worksheet) (cells : List Place) (among : Place → Bool)
    (same : (c : Place) → has same_place cells c ≡ among c) where
  none_marked : (o : Option Place) → NoneProtected v.settings v.grid among → v.settings.protection ≡ true
      → IsFirstOf v.grid (has same_place cells) o → o ≡ None
  none_marked None h t i = refl
  none_marked (Some d) h t i = absurd (false≢true (sym (h d (sym (same d) ∙ i.here)) ∙ (λ j. t j && i.marked j)))

  -- no cell is protected
  pub none_is : NoneProtected v.settings v.grid among → refused_cell (of_worksheet v) cells ≡ None
  none_is h = by v.settings.protection refl
    where
      by : (b : Bool) → v.settings.protection ≡ b → (if b then first_marked v.grid cells else None) ≡ None
      by true t = none_marked (first_marked v.grid cells) h t (first_marked_is v.grid cells)
      by false t = refl

  some_marked : (o : Option Place) (c : Place) → IsFirstMarked v.grid (has same_place cells) c
      → IsFirstOf v.grid (has same_place cells) o → o ≡ Some c
  some_marked None c p i = absurd (false≢true (sym (i c p.here) ∙ p.marked))
  some_marked (Some d) c p i = ap Some (one_first v.grid (has same_place cells) d c i p)

  -- a cell is the first one that is protected
  pub first_is : (c : Place) → IsFirstProtected v.settings v.grid among c → refused_cell (of_worksheet v) cells ≡ Some c
  first_is c h =
      let parts = and_parts _ _ h.protected in
      let marked : IsFirstMarked v.grid (has same_place cells) c = record {
        here = same c ∙ h.among;
        marked = parts.1;
        first = λ d k t l. h.first d (sym (same d) ∙ k) (λ i. parts.0 i && t i) l;
      } in
      ap (λ b. if b then first_marked v.grid cells else None) parts.0
      ∙ some_marked (first_marked v.grid cells) c marked (first_marked_is v.grid cells)

module _ (change : Change) (cells : List Place) (among : Place → Bool)
    (same : (c : Place) → has same_place cells c ≡ among c)
    (edit : Sheet → Done) (scene : Scene) (v mid w : Worksheet) (m n : ℕ)
    (listed : changed_cells change ≡ cells)
    (made : changed scene change (of_worksheet v) ≡ and_then (edit (of_worksheet v)) (settled mean scene)) where
  -- an edit of these cells, with the recalculation behind it, or refused for the first protected one
  pub edit_carried : (answer : Result (Unit {0}) SheetFault) (cell : Option Place)
      → IsAnswered v.settings v.grid among answer
      → OnOk answer (DidEdit edit v mid) → OnErr answer (mid ≡ v) → HasSettled answer scene cell mid w m n
      → HasCarried change scene cell v w m n
  edit_carried (Ok x) cell answered did kept settles =
      subst (λ (o : Option Place). HasCarried change scene o v w m n) (sym settles.0) (record {
        first = sym (ap (refused_cell (of_worksheet v)) listed ∙ none_is v cells among same answered);
        did =
            subst (λ (d : Done). Did d v w m n) (sym made)
            (did_both (edit (of_worksheet v)) (settled mean scene) v mid w m m n (did m) settles.1);
      })
  edit_carried (Err (fault.Protected c)) cell answered did kept settles =
      subst (λ (o : Option Place). HasCarried change scene o v w m n) (sym settles.0) (record {
        first = sym (ap (refused_cell (of_worksheet v)) listed ∙ first_is v cells among same c answered);
        did = left v w m n (settles.1 ∙ kept) settles.2;
      })
  edit_carried (Err (fault.PushedOff c)) cell answered did kept settles = absurd answered
  edit_carried (Err (fault.OutOfSheet s)) cell answered did kept settles = absurd answered
  edit_carried (Err fault.Memory) cell answered did kept settles = absurd settles.0
