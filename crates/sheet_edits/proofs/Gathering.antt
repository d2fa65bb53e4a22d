-- Writes that are gathered, one after another.
use Rattle.std.specs.Prelude.{ℕ, ◌≡◌, ◌+◌, ◌<◌, Bool, true, false, cond, not, nat_eq, refl, take, length, List, [], ◌∷◌}
use Rattle.std.specs.Prelude.{◌++◌, Option, None, Some}
use Rattle.std.specs.FinMap.{empty, get, get-empty, insert}
use Rattle.std.proofs.Common.{sym, suc, zero, arith, ◌∙◌, ap, get_or, inl, inr, subst}
use Rattle.std.proofs.lemmas.Bool.{cases_Bool, or_left, or_right, true≢false}
use Rattle.std.proofs.lemmas.Bool.Decides.{nat_tests}
use Rattle.std.proofs.lemmas.List.{map-append, take_more}
use Rattle.std.proofs.lemmas.Option.{none-some, same_Some}
use Rattle.grid_address.proofs.Places.{get_inserted}
use Rattle.grid_address.specs.Place.{place_cmp, same_place, Place}
use Rattle.grid_address.specs.declared.format.Format.{Format}
use Rattle.formula_tree.specs.declared.value.Content.{Content}
use Rattle.formula_tree.specs.declared.value.Content.TheVariants as content
use Rattle.formula_tree.specs.declared.value.Value.{Value}
use Rattle.cell_maps.specs.Sets.{has}
use Rattle.recalculation.specs.Context.{format_of}
use Rattle.sheet_store.specs.Grid.{Cells, Grid, IsSound}
use Rattle.sheet_store.specs.State.{CellState}
use Rattle.sheet_store.specs.declared.writes.Write.{Write}
use Rattle.sheet_edits.proofs.Listed.{pushed}
use Rattle.sheet_edits.proofs.Overlaid.{get_put, same_grid}
use Rattle.sheet_edits.proofs.Sound.{first_sound}
use Rattle.sheet_edits.specs.Spans.{changed, kept_of, write_state, written_all, written_by, written_cells, AreGathered}
use Rattle.sheet_edits.specs.Spans.{Becomes}

same_number : (n : ℕ) → nat_eq n 255 ≡ true → n ≡ 255
same_number n h = grind (arith, nat_tests, h)

-- the format of a state that is kept or not
format_kept : (x : Content) (v : Value) (f : Format)
    → format_of (kept_of (record { content = x; value = v; format = f })) ≡ f.0
format_kept content.Blank v f = by (nat_eq f.0 255) refl
  where
    by : (b : Bool) → nat_eq f.0 255 ≡ b
        → format_of (cond (not b) (Some (record { content = content.Blank; value = v; format = f })) None) ≡ f.0
    by true h = sym (same_number f.0 h)
    by false h = refl
format_kept (content.Number n) v f = refl
format_kept (content.Label b t) v f = refl
format_kept (content.Formula t) v f = refl

-- a cell that is given a state has its format
pub format_changed : (s : CellState) (o : Option CellState) → format_of (changed (Some s) o) ≡ s.format.0
format_changed s o = format_kept s.content s.value s.format

-- one more write
written_more : (g : Grid) (ws : List Write) (w : Write) → written_all g (ws ++ w ∷ []) ≡ written_by (written_all g ws) w
written_more g [] w = refl
written_more g (x ∷ ws) w = written_more (written_by g x) ws w

-- writes leave the own widths
pub written_widths : (g : Grid) (ws : List Write) → (written_all g ws).widths ≡ g.widths
written_widths g [] = refl
written_widths g (w ∷ ws) = written_widths (written_by g w) ws

-- writes leave the hidden columns
pub written_hidden : (g : Grid) (ws : List Write) → (written_all g ws).hidden ≡ g.hidden
written_hidden g [] = refl
written_hidden g (w ∷ ws) = written_hidden (written_by g w) ws

-- before the first write nothing is gathered
pub nothing_gathered : (g : Grid) (listed : List Place) (changes : Cells) → listed ≡ [] → changes ≡ empty
    → AreGathered g [] listed changes
nothing_gathered g listed changes e k = record {
  listed_all = e;
  held =
      λ c. ap (λ m. changed (get m c) (get g.cells c)) k ∙ ap (λ o. changed o (get g.cells c)) (get-empty place_cmp c);
  given = λ c f. ap (λ m. get m c) k ∙ get-empty place_cmp c;
  sound = λ c s h. absurd (none-some s (sym (ap (λ m. get m c) k ∙ get-empty place_cmp c) ∙ h));
}

module _ (g : Grid) (all : List Write) (i : ℕ) (w : Write) (is : w ≡ get_or all i w) (lt : i < length all)
    (listed now : List Place) (changes next : Cells)
    (k : AreGathered g (take i all) listed changes) (one : now ≡ listed ++ w.cell ∷ [])
    (put : next ≡ insert changes w.cell (write_state w (changed (get changes w.cell) (get g.cells w.cell)))) where
  state : CellState
  state = write_state w (changed (get changes w.cell) (get g.cells w.cell))

  as_far : take (i + 1) all ≡ take i all ++ w ∷ []
  as_far = take_more all i w lt ∙ ap (λ x. take i all ++ x ∷ []) (sym is)

  -- with one write more, its cell is listed and its state gathered
  pub one_gathered : AreGathered g (take (i + 1) all) now next
  unfolding state
  one_gathered = record {
    listed_all = one ∙ ap (λ l. l ++ w.cell ∷ []) k.listed_all
        ∙ sym (ap written_cells as_far ∙ map-append (λ (x : Write). x.cell) (take i all) (w ∷ []));
    held = λ c.
        ap (λ m. changed (get m c) (get g.cells c)) put
        ∙ ap (λ o. changed o (get g.cells c)) (get_inserted changes w.cell state c)
        ∙ at c (same_place c w.cell)
        ∙ ap (λ s. cond (same_place c w.cell) (kept_of s) (get (written_all g (take i all)).cells c))
        (ap (write_state w) (k.held w.cell))
        ∙ sym (ap (λ x. get (written_all g x).cells c) as_far
        ∙ ap (λ (x : Grid). get x.cells c) (written_more g (take i all) w) ∙ get_put
        (written_all g (take i all)) w.cell (write_state w (get (written_all g (take i all)).cells w.cell)) c);
    given = λ c f. elim (cases_Bool (same_place c w.cell)) [
      | inl t ↦ absurd (true≢false (sym (pushed listed now w.cell one c ∙ or_right _ _ (or_left _ _ t)) ∙ f))
      | inr e ↦ ap (λ m. get m c) put ∙ get_inserted changes w.cell state c
          ∙ ap (λ b. cond b (Some state) (get changes c)) e ∙ k.given c (before c f)
    ];
    sound = λ c s e. elim (cases_Bool (same_place c w.cell)) [
      | inl t ↦ here c s t e
      | inr q ↦ k.sound c s (sym (ap (λ m. get m c) put ∙ get_inserted changes w.cell state c
          ∙ ap (λ b. cond b (Some state) (get changes c)) q) ∙ e)
    ];
  }
    where
      at : (c : Place) (b : Bool) → changed (cond b (Some state) (get changes c)) (get g.cells c)
          ≡ cond b (kept_of state) (get (written_all g (take i all)).cells c)
      at c true = refl
      at c false = k.held c

      before : (c : Place) → has same_place now c ≡ false → has same_place listed c ≡ false
      before c f = elim (cases_Bool (has same_place listed c)) [
        | inl t ↦ absurd (true≢false (sym (pushed listed now w.cell one c ∙ or_left _ _ t) ∙ f))
        | inr e ↦ e
      ]

      here : (c : Place) (s : CellState) → same_place c w.cell ≡ true → get next c ≡ Some s → IsSound s
      here c s t e = subst IsSound (same_Some state s (sym (ap (λ m. get m c) put ∙ get_inserted changes w.cell state c
          ∙ ap (λ b. cond b (Some state) (get changes c)) t) ∙ e))
          (first_sound w.content)

-- the grid after all writes
pub written_is : (g h : Grid) (ws : List Write) (listed : List Place) (changes : Cells)
    → AreGathered g ws listed changes → Becomes g (λ c. changed (get changes c) (get g.cells c)) h
    → h ≡ written_all g ws
written_is g h ws listed changes k b = same_grid h (written_all g ws) (λ c. b.cells c ∙ k.held c)
    (b.widths ∙ sym (written_widths g ws)) (b.hidden ∙ sym (written_hidden g ws))
