-- Notes that are written one after another.
use Rattle.std.proofs.Common.{◌≡◌, ℕ, suc, ◌+◌, Bool, List, [], ◌∷◌, ◌++◌, length, take, Option, Some, None, Result, Ok}
use Rattle.std.proofs.Common.{Err, refl, sym, ap, ◌∙◌, subst, arith, inl, inr, append_assoc, length-append}
use Rattle.std.specs.Prelude.{codes}
use Rattle.std.specs.Result.{IsErr}
use Rattle.std.proofs.lemmas.List.{append-nil, take-append-le}
use Rattle.outside_world.specs.Causes.{Rose}
use Rattle.outside_world.specs.declared.faults.Failed.{Failed}
use Rattle.grid_address.specs.Address.{decimal}
use Rattle.session_core.specs.Machine.{State}
use Rattle.sheet_run.specs.Notes.{AddsPart, AddsText, Tells, ending_note, ending_status, note}
use Rattle.sheet_run.specs.inner.Telling.{HasWritten}
use Rattle.sheet_run.specs.declared.drive.Ending.{Ending}

-- where a text and a status are the same, so is what is told of them
pub told_as : (text line : List ℕ) (found status_found : ℕ) (before now : Option (List ℕ)) (faults faults' status : ℕ)
    → text ≡ line → found ≡ status_found →
    Tells line status_found before now faults faults' status → Tells text found before now faults faults' status
told_as text line found status_found before now faults faults' status same found_so told =
    subst (λ (t : List ℕ). Tells t found before now faults faults' status) (sym same)
    (subst (λ (n : ℕ). Tells line n before now faults faults' status) (sym found_so) told)

take_past : (xs ys : List ℕ) (n : ℕ) → take (length xs + n) (xs ++ ys) ≡ xs ++ take n ys
take_past [] ys n = ap (λ (k : ℕ). take k ys) (omega arith)
take_past (x ∷ xs) ys n =
    let next : suc (length xs) + n ≡ suc (length xs + n) = omega arith in
    ap (λ (k : ℕ). take k (x ∷ xs ++ ys)) next ∙ ap (λ (l : List ℕ). x ∷ l) (take_past xs ys n)

text_then : (first more : List ℕ) (a b c : Option (List ℕ)) → AddsText first a b → AddsText more b c
    → AddsText (first ++ more) a c
text_then first more None None c x y = y
text_then first more None (Some b) c x y = absurd cc
text_then first more (Some a) None c x y = absurd cc
text_then first more (Some a) (Some b) c x y =
    let same : b ≡ a ++ first = cc in
    y ∙ ap (λ (l : List ℕ). Some (l ++ more)) same ∙ ap Some (append_assoc a first more)

text_then_part : (first more : List ℕ) (a b c : Option (List ℕ)) → AddsText first a b → AddsPart more b c
    → AddsPart (first ++ more) a c
text_then_part first more None None c x y = y
text_then_part first more None (Some b) c x y = absurd cc
text_then_part first more (Some a) None c x y = absurd cc
text_then_part first more (Some a) (Some b) c x y =
    let same : b ≡ a ++ first = cc in (
      length first + y.0,
      omega (arith, length-append first more, y.1),
      y.2 ∙ ap (λ (l : List ℕ). Some (l ++ take y.0 more)) same ∙ ap Some (append_assoc a first (take y.0 more))
          ∙ ap (λ (l : List ℕ). Some (a ++ l)) (sym (take_past first more y.0)),
    )

part_of_first : (first more : List ℕ) (a b : Option (List ℕ)) → AddsPart first a b → AddsPart (first ++ more) a b
part_of_first first more None b x = x
part_of_first first more (Some a) b x = (
  x.0,
  omega (arith, length-append first more, x.1),
  x.2
      ∙ ap (λ (l : List ℕ). Some (a ++ l)) (sym (take-append-le x.0 first more x.1)),
)

-- one line was written, and then what comes after it was told
pub told_after : (first more : List ℕ) (found : ℕ) (a b c : Option (List ℕ)) (f f' f'' status : ℕ) → AddsText first a b
    → f' ≡ f → Tells more found b c f' f'' status → Tells (first ++ more) found a c f f'' status
told_after first more found a b c f f' f'' status x same (inl t) =
    inl (t.0, text_then first more a b c x t.1, t.2 ∙ same)
told_after first more found a b c f f' f'' status x same (inr t) =
    inr (t.0, text_then_part first more a b c x t.1, subst (λ (n : ℕ). Rose n f'') same t.2)

-- the first write failed, and no more was written
pub told_none : (first more : List ℕ) (found : ℕ) (a b : Option (List ℕ)) (f f' : ℕ) → AddsPart first a b → Rose f f'
    → Tells (first ++ more) found a b f f' 8
told_none first more found a b f f' x rose = inr (refl, part_of_first first more a b x, rose)

-- nothing was written
pub nothing_written : (text : List ℕ) (a : Option (List ℕ)) (f : ℕ) (u : Unit {0}) → text ≡ []
    → HasWritten text a a f f (Ok u)
nothing_written text None f u none = (refl, refl)
nothing_written text (Some old) f u none =
    (ap Some (sym (append-nil old)) ∙ ap (λ (t : List ℕ). Some (old ++ t)) (sym none), refl)

-- one text was written, and then what comes after it was, or not
pub written_after : (first more : List ℕ) (a b c : Option (List ℕ)) (f f' f'' : ℕ) (r : Result Unit Failed)
    → AddsText first a b → f' ≡ f → HasWritten more b c f' f'' r → HasWritten (first ++ more) a c f f'' r
written_after first more a b c f f' f'' (Ok u) x same w = (text_then first more a b c x w.0, w.1 ∙ same)
written_after first more a b c f f' f'' (Err e) x same w =
    (text_then_part first more a b c x w.0, subst (λ (n : ℕ). Rose n f'') same w.1)

-- the first wasn't, and no more was written
pub written_none : (first more : List ℕ) (a b : Option (List ℕ)) (f f' : ℕ) (r : Result Unit Failed) → IsErr r
    → AddsPart first a b × Rose f f' → HasWritten (first ++ more) a b f f' r
written_none first more a b f f' (Ok u) is w = absurd cc
written_none first more a b f f' (Err e) is w = (part_of_first first more a b w.0, w.1)

-- the same text was written
pub written_as : (text line : List ℕ) (a b : Option (List ℕ)) (f f' : ℕ) (r : Result Unit Failed) → text ≡ line
    → HasWritten line a b f f' r → HasWritten text a b f f' r
written_as text line a b f f' r same w = subst (λ (t : List ℕ). HasWritten t a b f f' r) (sym same) w

-- a line on a sum, part by part
pub sum_parts : (head digits value : List ℕ)
    → (((head ++ digits) ++ 32 ∷ []) ++ value) ++ 10 ∷ [] ≡ head ++ ((digits ++ 32 ∷ value) ++ 10 ∷ [])
sum_parts head digits value =
    ap (λ (l : List ℕ). l ++ 10 ∷ []) (append_assoc (head ++ digits) (32 ∷ []) value
    ∙ append_assoc head digits (32 ∷ value)) ∙ append_assoc head (digits ++ 32 ∷ value) (10 ∷ [])

-- the note of an ending, by an equal limit
pub told_limit : (limit other : ℕ) (s : State) (moved : Bool) (ending : Ending)
    (before now : Option (List ℕ)) (faults faults' status : ℕ) → limit ≡ other
    → Tells (ending_note limit s moved ending) (ending_status moved ending) before now faults faults' status
    → Tells (ending_note other s moved ending) (ending_status moved ending) before now faults faults' status
told_limit limit other s moved ending before now faults faults' status same told =
    subst (λ (n : ℕ). Tells (ending_note n s moved ending) (ending_status moved ending) before now faults faults'
    status) same told

-- the last part of a line with a number in its middle
pub stopped_line : (n : ℕ) → note (codes "stopped after " ++ decimal n ++ codes " steps")
    ≡ (codes "1-2-3: stopped after " ++ decimal n) ++ (codes " steps" ++ 10 ∷ [])
stopped_line n =
    ap (λ (l : List ℕ). codes "1-2-3: stopped after " ++ l) (append_assoc (decimal n) (codes " steps") (10 ∷ []))
