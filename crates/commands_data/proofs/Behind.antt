-- What cells hold behind writes, and their formats.
use Rattle.std.specs.Prelude.{◌≡◌, refl, ◌&&◌, is_none, nat_eq, not, Bool, true, false, cond, List, [], ◌∷◌, map}
use Rattle.std.specs.Prelude.{Option, None, Some}
use Rattle.std.specs.FinMap.{get}
use Rattle.std.proofs.Common.{ap, sym, ◌∙◌, inl, inr}
use Rattle.std.proofs.lemmas.Bool.{and_parts, cases_Bool, false≢true, or_cases, or_left, or_right, true≢false}
use Rattle.block_writes.specs.Writing.{content_or_blank, written}
use Rattle.commands_data.specs.inner.Benched.{contents_behind, keep_formats, on_bench, IsSameBut}
use Rattle.commands_data.specs.Trying.{content_at}
use Rattle.data_blocks.specs.Benches.{with_content, IsSameBench}
use Rattle.formula_tree.specs.declared.value.Content.{Content}
use Rattle.formula_tree.specs.declared.value.Content.TheVariants as content
use Rattle.formula_tree.specs.declared.value.Value.{Value}
use Rattle.grid_address.proofs.Places.{same_place_is}
use Rattle.grid_address.specs.Formats.{has_protection}
use Rattle.grid_address.specs.Place.{same_place, Place}
use Rattle.grid_address.specs.declared.format.Format.{Format}
use Rattle.cell_maps.specs.Sets.{has}
use Rattle.recalculation.specs.Context.{content_of, format_of}
use Rattle.sheet_edits.proofs.Gathering.{format_changed}
use Rattle.sheet_edits.proofs.Overlaid.{get_put}
use Rattle.sheet_edits.specs.Edits.{just}
use Rattle.sheet_edits.specs.Spans.{given_format, kept_of, write_state, written_all, written_by, written_cells}
use Rattle.sheet_store.specs.Grid.{put_state, Grid}
use Rattle.sheet_store.specs.State.{CellState}
use Rattle.sheet_store.specs.declared.writes.Write.{Write}
use Rattle.work_sheet.specs.Sheets.{Worksheet}

-- what is held of a state that is kept or not
kept_content : (x : Content) (v : Value) (f : Format)
    → content_or_blank (content_of (kept_of (record { content = x; value = v; format = f }))) ≡ x
kept_content content.Blank v f = by (nat_eq f.0 255)
  where
    by : (b : Bool) → content_or_blank
        (content_of (cond (not b) (Some (record { content = content.Blank; value = v; format = f })) None))
        ≡ content.Blank
    by true = refl
    by false = refl
kept_content (content.Number n) v f = refl
kept_content (content.Label b t) v f = refl
kept_content (content.Formula t) v f = refl

content_kept : (s : CellState) → content_or_blank (content_of (kept_of s)) ≡ s.content
content_kept s = kept_content s.content s.value s.format

-- a state was put
pub content_put : (g : Grid) (c : Place) (s : CellState) (p : Place)
    → content_at (put_state g c s) p ≡ with_content c s.content (content_at g) p
content_put g c s p =
    ap (λ (o : Option CellState). content_or_blank (content_of o)) (get_put g c s p) ∙ by (same_place p c)
  where
    by : (b : Bool) → content_or_blank (content_of (cond b (kept_of s) (get g.cells p)))
        ≡ cond b s.content (content_at g p)
    by true = content_kept s
    by false = refl

-- so its format is the cell's own
pub format_put : (g : Grid) (c : Place) (s : CellState) (p : Place) → s.format.0 ≡ format_of (get g.cells c) →
    format_of (get (put_state g c s).cells p) ≡ format_of (get g.cells p)
format_put g c s p own = ap format_of (get_put g c s p) ∙ by (same_place p c) refl
  where
    by : (b : Bool) → same_place p c ≡ b → format_of (cond b (kept_of s) (get g.cells p)) ≡ format_of (get g.cells p)
    by true e = format_changed s None ∙ own ∙ ap (λ (x : Place). format_of (get g.cells x)) (sym (same_place_is p c e))
    by false e = refl

-- the contents behind writes
pub contents_written : (ws : List Write) (g : Grid) (p : Place)
    → content_at (written_all g ws) p ≡ contents_behind ws (content_at g) p
contents_written [] g p = refl
contents_written (w ∷ ws) g p = contents_written ws (written_by g w) p
    ∙ ap (λ (h : Place → Content). contents_behind ws h p)
    (λ i q. content_put g w.cell (write_state w (get g.cells w.cell)) q i)

no_format : (o : Option Format) → is_none o ≡ true → o ≡ None
no_format None h = refl
no_format (Some f) h = absurd (false≢true h)

-- the formats behind writes that leave them
pub formats_written : (ws : List Write) (g : Grid) (p : Place) → keep_formats ws ≡ true
    → format_of (get (written_all g ws).cells p) ≡ format_of (get g.cells p)
formats_written [] g p k = refl
formats_written (w ∷ ws) g p k =
    let both = and_parts (is_none w.format) (keep_formats ws) k in
    formats_written ws (written_by g w) p both.1
    ∙ format_put g w.cell (write_state w (get g.cells w.cell)) p
    (ap (λ f. (given_format f (get g.cells w.cell)).0) (no_format w.format both.0))

-- one content more
here : (c p : Place) (x : Content) (h k : Place → Content) → same_place p c ≡ true
    → with_content c x h p ≡ with_content c x k p
here c p x h k t = ap (λ (b : Bool). cond b x (h p)) t ∙ sym (ap (λ (b : Bool). cond b x (k p)) t)

-- another cell's content doesn't change
pub there : (c p : Place) (x : Content) (h : Place → Content) → same_place p c ≡ false → with_content c x h p ≡ h p
there c p x h f = ap (λ (b : Bool). cond b x (h p)) f

-- a cell that isn't written holds what it held
pub other_behind : (ws : List Write) (h : Place → Content) (p : Place) → has same_place (written_cells ws) p ≡ false
    → contents_behind ws h p ≡ h p
other_behind [] h p f = refl
other_behind (w ∷ ws) h p f = elim (cases_Bool (same_place p w.cell)) [
  | inl t ↦ absurd (true≢false (sym (or_left _ _ t) ∙ f))
  | inr n ↦ elim (cases_Bool (has same_place (written_cells ws) p)) [
    | inl t ↦ absurd (true≢false (sym (or_right _ _ t) ∙ f))
    | inr m ↦ other_behind ws (with_content w.cell w.content h) p m ∙ there w.cell p w.content h n
  ]
]

-- a cell that is written holds it, whatever it held
pub listed_behind : (ws : List Write) (h k : Place → Content) (p : Place) → has same_place (written_cells ws) p ≡ true
    → contents_behind ws h p ≡ contents_behind ws k p
listed_behind [] h k p t = absurd (false≢true t)
listed_behind (w ∷ ws) h k p t = elim (cases_Bool (has same_place (written_cells ws) p)) [
  | inl m ↦ listed_behind ws (with_content w.cell w.content h) (with_content w.cell w.content k) p m
  | inr n ↦ elim (or_cases (same_place p w.cell) (has same_place (written_cells ws) p) t) [
    | inl e ↦
        other_behind ws (with_content w.cell w.content h) p n ∙ here w.cell p w.content h k e
        ∙ sym (other_behind ws (with_content w.cell w.content k) p n)
    | inr m ↦ absurd (false≢true (sym n ∙ m))
  ]
]

-- contents that differ in written cells alone are the same behind the writes
pub same_behind : (ws : List Write) (h k : Place → Content)
    → ((p : Place) → has same_place (written_cells ws) p ≡ false → h p ≡ k p)
    → contents_behind ws h ≡ contents_behind ws k
same_behind ws h k others = λ i p. at p i
  where
    at : (p : Place) → contents_behind ws h p ≡ contents_behind ws k p
    at p = elim (cases_Bool (has same_place (written_cells ws) p)) [
      | inl t ↦ listed_behind ws h k p t
      | inr f ↦ other_behind ws h p f ∙ others p f ∙ sym (other_behind ws k p f)
    ]

-- what cells hold is written into them
pub held_behind : (cells : List Place) (h : Place → Content) → contents_behind (map (λ c. written c (h c)) cells) h ≡ h
held_behind [] h = refl
held_behind (c ∷ cs) h =
    ap (contents_behind (map (λ d. written d (h d)) cs)) (λ i p. by p (same_place p c) refl i) ∙ held_behind cs h
  where
    by : (p : Place) (b : Bool) → same_place p c ≡ b → cond b (h c) (h p) ≡ h p
    by p true e = ap h (sym (same_place_is p c e))
    by p false e = refl

-- a bench whose sheet is the same but in the cells that it puts back
pub same_bench : (ws : List Write) (a b : Worksheet) → IsSameBut (has same_place (written_cells ws)) a b
    → IsSameBench (on_bench a ws) (on_bench b ws)
same_bench ws a b same = record {
  guarded = λ i p. (same.settings i).protection && has_protection (same.formats p i);
  inputs = refl;
  kept = same_behind ws (content_at b.grid) (content_at a.grid) same.contents;
}

-- so it is where one of those cells took an input
pub tried_same : (ws : List Write) (c : Place) (a b : Worksheet) → has same_place (written_cells ws) c ≡ true
    → IsSameBut (just c) a b → IsSameBench (on_bench a ws) (on_bench b ws)
tried_same ws c a b among same =
    same_bench ws a b (record {
      settings = same.settings;
      formats = same.formats;
      contents = λ p f. same.contents p (apart p f (same_place p c) refl);
    })
  where
    apart : (p : Place) → has same_place (written_cells ws) p ≡ false → (t : Bool) → same_place p c ≡ t → t ≡ false
    apart p f true e =
        absurd (true≢false (sym among ∙ sym (ap (has same_place (written_cells ws)) (same_place_is p c e)) ∙ f))
    apart p f false e = refl
