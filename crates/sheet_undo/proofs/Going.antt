-- Cells that go, and changes that are made behind others.
use Rattle.std.specs.Prelude.{◌≡◌, ◌<◌, ◌+◌, ◌++◌, ℕ, get_or, length, take, refl, List, [], ◌∷◌, Option, None}
use Rattle.std.specs.FinMap.{remove}
use Rattle.std.proofs.Common.{ap, sym, ◌∙◌}
use Rattle.std.proofs.lemmas.List.{take_more}
use Rattle.edit_log.proofs.Changed.{all_and}
use Rattle.edit_log.specs.Changes.{all_changed, changed_at, with_changes}
use Rattle.grid_address.specs.Place.{Place}
use Rattle.sheet_store.specs.Grid.{Cells, Grid}
use Rattle.sheet_store.specs.State.{CellState}
use Rattle.sheet_undo.specs.inner.Changes.{gone_of}

-- one more cell goes
gone_and : (cs : List Place) (c : Place) → gone_of (cs ++ c ∷ []) ≡ gone_of cs ++ (c, None) ∷ []
gone_and [] c = refl
gone_and (d ∷ cs) c = ap (λ (l : List (Place × Option CellState)). (d, None) ∷ l) (gone_and cs c)

-- the last cell goes last
pub all_gone : (m : Cells) (cs new : List Place) (c : Place) → new ≡ cs ++ c ∷ [] →
    all_changed m (gone_of new) ≡ remove (all_changed m (gone_of cs)) c
all_gone m cs new c is =
    ap (λ l. all_changed m (gone_of l)) is ∙ ap (all_changed m) (gone_and cs c) ∙ all_and m (gone_of cs) (c, None)

-- of the cells of a list one more goes
pub next_gone : (m : Cells) (cs : List Place) (i : ℕ) (c : Place) → c ≡ get_or cs i c → i < length cs →
    all_changed m (gone_of (take (i + 1) cs)) ≡ remove (all_changed m (gone_of (take i cs))) c
next_gone m cs i c is lt =
    all_gone m (take i cs) (take (i + 1) cs) c (take_more cs i c lt ∙ ap (λ y. take i cs ++ y ∷ []) (sym is))

-- changes are made behind others
pub all_joined : (m : Cells) (xs ys : List (Place × Option CellState)) →
    all_changed (all_changed m xs) ys ≡ all_changed m (xs ++ ys)
all_joined m [] ys = refl
all_joined m (x ∷ xs) ys = all_joined (changed_at m x.0 x.1) xs ys

-- and so they are in a store
pub grid_joined : (g h : Grid) (xs ys : List (Place × Option CellState)) → h ≡ with_changes g xs →
    with_changes h ys ≡ with_changes g (xs ++ ys)
grid_joined g h xs ys is = ap (λ (k : Grid). with_changes k ys) is
    ∙ ap (λ (m : Cells). record g { cells = m }) (all_joined g.cells xs ys)
