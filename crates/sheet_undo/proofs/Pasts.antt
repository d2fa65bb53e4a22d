-- What is noted of a sheet keeps its history while the sheet changes.
use Rattle.std.specs.Prelude.{◌≡◌, ◌∷◌, [], Bool, true, false, refl, is_some, get_or, length, set, take, drop, List}
use Rattle.std.specs.Prelude.{Option, None, Some}
use Rattle.std.specs.FinMap.{get}
use Rattle.std.proofs.Common.{ap, sym, subst, ◌∙◌, inl, inr}
use Rattle.std.proofs.lemmas.Bool.{true≢false, cases_Bool}
use Rattle.edit_log.proofs.Changed.{all_same}
use Rattle.edit_log.specs.Changes.{all_changed, is_noted, with_changes}
use Rattle.grid_address.specs.Place.{Place}
use Rattle.range_names.specs.Names.{NameMap}
use Rattle.sheet_store.specs.Choices.{Choices}
use Rattle.sheet_store.specs.Grid.{Grid}
use Rattle.sheet_store.specs.State.{CellState}
use Rattle.sheet_undo.proofs.States.{earlier_same, latest_added}
use Rattle.sheet_undo.specs.Histories.{ended, with_kept, History, Sheet}
use Rattle.sheet_undo.specs.inner.Keeping.{base, before, begun_if, columns_or, earlier, grid_before, history_of}
use Rattle.sheet_undo.specs.inner.Keeping.{names_or, sheet_with, with_nothing, Before, IsSameBut, Past}

-- a history is told by the base, the kept differences and whether a command is begun
pub told_alike : (p q : Past) (g h : Grid) (m n : NameMap) → q.kept ≡ p.kept → q.is_begun ≡ p.is_begun
    → base q h n ≡ base p g m → history_of q h n ≡ history_of p g m
told_alike p q g h m n k b e = λ i. record { kept = earlier (e i) (k i); begun = begun_if (b i) (e i) }

-- the base has these cells and columns
with_grid : (p : Past) (g h : Grid) (n : NameMap) (w c : Option Grid) (l : List (Place × Option CellState))
    → grid_before w c l h ≡ grid_before p.whole p.columns p.log g →
    base (record p { whole = w; columns = c; log = l }) h n ≡ base p g n
with_grid p g h n w c l e = λ i.
    record { grid = e i; circular = p.circular; stale = p.stale; names = names_or p.names n; settings = p.settings }

-- the cells that may change are noted
grids_same : (w c : Option Grid) (l o : List (Place × Option CellState)) (g h : Grid) → is_some w ≡ false →
    with_changes h l ≡ with_changes g o → grid_before w c l h ≡ grid_before w c o g
grids_same None c l o g h none e = ap (columns_or c) e
grids_same (Some x) c l o g h none e = absurd (true≢false none)

-- where the cells that may change are noted, a change of them leaves the history
pub noted_free : (p : Past) (l : List (Place × Option CellState)) (among : Place → Bool) (g h : Grid) (n : NameMap) →
    is_some p.whole ≡ false → all_changed g.cells l ≡ all_changed g.cells p.log →
    ((c : Place) → among c ≡ true → is_noted l c ≡ true) →
    IsSameBut among g h → history_of (record p { log = l }) h n ≡ history_of p g n
noted_free p l among g h n none before noted same =
    let cells : all_changed h.cells l ≡ all_changed g.cells p.log =
    all_same h.cells g.cells l (λ q out. same.others q (outside q out)) ∙ before in
    let grids : with_changes h l ≡ with_changes g p.log =
    λ i. record { cells = cells i; widths = same.widths i; hidden = same.hidden i } in
    told_alike p (record p { log = l }) g h n n refl refl
    (with_grid p g h n p.whole p.columns l (grids_same p.whole p.columns l p.log g h none grids))
  where
    outside : (q : Place) → is_noted l q ≡ false → among q ≡ false
    outside q out = elim (cases_Bool (among q)) [ inl t ↦ absurd (true≢false (sym (noted q t) ∙ out)) | inr f ↦ f ]

-- the log grew, and tells the same of the sheet
pub noted_same : (p : Past) (l : List (Place × Option CellState)) (g : Grid) (n : NameMap) → is_some p.whole ≡ false →
    all_changed g.cells l ≡ all_changed g.cells p.log → history_of (record p { log = l }) g n ≡ history_of p g n
noted_same p l g n none before =
    let grids : with_changes g l ≡ with_changes g p.log =
    λ i. record { cells = before i; widths = g.widths; hidden = g.hidden } in
    told_alike p (record p { log = l }) g g n n refl refl
    (with_grid p g g n p.whole p.columns l (grids_same p.whole p.columns l p.log g g none grids))

-- a command that changed nothing ends
pub alike_ended : (p : Past) (g : Grid) (n : NameMap) → p.is_begun ≡ true → (base p g n).grid ≡ g
    → (base p g n).names ≡ n → history_of (record (with_nothing p) { is_begun = false }) g n
    ≡ ended false (begun_if p.is_begun (base p g n)) (earlier (base p g n) p.kept)
alike_ended p g n begun grid names =
    (λ i. record {
      kept = earlier_same (base (with_nothing p) g n) (base p g n) p.kept (sym grid) (sym names) i;
      begun = None;
    })
    ∙ ap (λ b. ended false (begun_if b (base p g n)) (earlier (base p g n) p.kept)) (sym begun)

is_nothing : List Sheet → Type 0
is_nothing [] = Unit {0}
is_nothing (x ∷ xs) = ⊥

none_there : (s : Sheet) (kept : List Sheet) → [] ≡ s ∷ kept → ⊥
unfolding is_nothing
none_there s kept h = subst is_nothing h tt

first_of : Sheet → List Sheet → Sheet
first_of none [] = none
first_of none (x ∷ xs) = x

-- the states before a sheet that is like the latest state in its cells, columns and names
rest_kept : (b now : Sheet) (ds : List Before) (s : Sheet) (kept : List Sheet) → earlier b ds ≡ s ∷ kept
    → now.grid ≡ s.grid →
    now.names ≡ s.names → earlier now (drop 1 ds) ≡ kept
unfolding first_of
rest_kept b now [] s kept e g n = absurd (none_there s kept e)
rest_kept b now (d ∷ ds) s kept e g n =
    let head : before d b ≡ s = ap (λ (l : List Sheet). first_of s l) e in
    earlier_same now (before d b) ds (g ∙ sym (ap (λ (x : Sheet). x.grid) head))
    (n ∙ sym (ap (λ (x : Sheet). x.names) head))
    ∙ ap (λ (l : List Sheet). drop 1 l) e

-- the latest state comes in the sheet's place
pub latest_dropped : (p x : Past) (old new : Grid) (m n : NameMap) (s : Sheet) (kept : List Sheet)
    → x.kept ≡ drop 1 p.kept →
    earlier (base p old m) p.kept ≡ s ∷ kept → new ≡ s.grid → n ≡ s.names →
    history_of (record (with_nothing x) { is_begun = false }) new n ≡ record { kept = kept; begun = None }
latest_dropped p x old new m n s kept left e g k =
    let now = sheet_with new n x.settings x.circular x.stale in
    let all : earlier now x.kept ≡ kept = ap (earlier now) left ∙ rest_kept (base p old m) now p.kept s kept e g k in
    λ i. record { kept = all i; begun = None }

-- the first difference is told otherwise, by another sheet than the base
pub turned : (s b : Sheet) (ds es : List Before) (d e : Before) → (length ds ≡ 0 → ⊥) → d ≡ get_or ds 0 d
    → es ≡ set ds 0 e →
    before e s ≡ before d b → earlier s es ≡ earlier b ds
turned s b [] es d e some first now is = absurd (some refl)
turned s b (x ∷ ds) es d e some first now is =
    ap (earlier s) now ∙ ap (λ (y : Sheet). y ∷ earlier y ds) (is ∙ ap (λ (y : Before). before y b) first)

-- a state is begun where nothing is noted: it is the base
pub state_begun : (p q : Past) (g : Grid) (n : NameMap) (settings : Choices) (circular stale : Bool)
    → q ≡ with_nothing q → earlier (sheet_with g n settings circular stale) q.kept ≡ earlier (base p g n) p.kept
    → history_of (record q { is_begun = true; settings = settings; circular = circular; stale = stale }) g n
    ≡ record (history_of p g n) { begun = Some (sheet_with g n settings circular stale) }
state_begun p q g n settings circular stale even kept =
    ap (λ (x : Past). history_of
    (record x { is_begun = true; settings = settings; circular = circular; stale = stale }) g n) even
    ∙ (λ i. record { kept = kept i; begun = Some (sheet_with g n settings circular stale) })

-- what was forgotten is nothing
pub even_forgotten : (p q : Past) → q ≡ with_nothing p → q ≡ with_nothing q
even_forgotten p q is = is ∙ ap (λ (x : Past). with_nothing x) (sym is)

-- where nothing was noted, the states before the base are those before the sheet
pub even_same : (p : Past) (g : Grid) (n : NameMap) (settings : Choices) (circular stale : Bool) → p ≡ with_nothing p →
    earlier (sheet_with g n settings circular stale) p.kept ≡ earlier (base p g n) p.kept
even_same p g n settings circular stale even =
    earlier_same (sheet_with g n settings circular stale) (base (with_nothing p) g n) p.kept refl refl
    ∙ ap (λ (r : Past). earlier (base r g n) p.kept) (sym even)

-- a command that changed something ends: the base is kept as the latest state
pub ended_kept : (p q : Past) (g : Grid) (n : NameMap) (d : Before) (ks : List Before) →
    q ≡ record (with_nothing p) { kept = ks; is_begun = false } → ks ≡ d ∷ take 19 p.kept →
    before d (sheet_with g n p.settings p.circular p.stale) ≡ base p g n → p.is_begun ≡ true →
    history_of q g n ≡ ended true (begun_if p.is_begun (base p g n)) (earlier (base p g n) p.kept)
ended_kept p q g n d ks is list told begun =
    let now = sheet_with g n p.settings p.circular p.stale in
    let all : earlier now ks ≡ with_kept (base p g n) (earlier (base p g n) p.kept) =
    ap (earlier now) list ∙ latest_added now (base p g n) d p.kept told in
    ap (λ (x : Past). history_of x g n) is
    ∙ (λ i. record { kept = all i; begun = None })
    ∙ ap (λ b. ended true (begun_if b (base p g n)) (earlier (base p g n) p.kept)) (sym begun)
