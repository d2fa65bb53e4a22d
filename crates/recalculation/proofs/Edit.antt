-- Why an edit keeps what holds of the dirty formulas.
use Rattle.std.specs.Prelude.{◌≡◌, Bool, true, false, Some, ◌⊎◌}
use Rattle.std.specs.Option.{is_some}
use Rattle.std.proofs.Common.{sym, ◌∙◌, ap, inl, inr}
use Rattle.std.proofs.lemmas.Bool.{true≢false, and_parts, false_from_ne_true, cases_Bool}
use Rattle.grid_address.specs.Place.{same_place, Place}
use Rattle.depend_graph.specs.Network.{ReachesCell}
use Rattle.depend_graph.specs.Network.ReachesCell.{direct, through}
use Rattle.cell_maps.specs.Sets.{has}
use Rattle.natural_order.specs.Walk.{Reaches}
use Rattle.natural_order.specs.Walk.Reaches.{one, more}
use Rattle.range_index.specs.Owners.{hold}
use Rattle.sheet_store.specs.Grid.{value_of, Grid}
use Rattle.recalculation.proofs.First.{reads_formula}
use Rattle.recalculation.proofs.Members.{has_pre, pre_of_read, read_of_pre}
use Rattle.recalculation.specs.Context.{formula_at, formula_of, outlook_at, Context}
use Rattle.recalculation.specs.Passes.{EditKeepsSound, IsSpread, Meaning}
use Rattle.recalculation.specs.inner.Meanings.{IsMeaning}
use Rattle.recalculation.specs.Reading.{is_formula_at, pre, reads_at, spans_at, spans_in}

module _ (old new : Grid) (written dirty spread : Place → Bool) (s : IsSpread old new written dirty spread) where
  formula_other : (c : Place) → written c ≡ false → formula_at new c ≡ formula_at old c
  formula_other c h = ap formula_of (s.others c h)

  -- what a cell that was not written reads
  same_reads : (c d : Place) → written c ≡ false → hold (spans_at new c) d ≡ true → hold (spans_at old c) d ≡ true
  same_reads c d h m = sym (ap (λ o. hold (spans_in o c) d) (formula_other c h)) ∙ m

  old_pre : (c d : Place) → written c ≡ false → written d ≡ false → has same_place (pre new c) d ≡ true
      → has same_place (pre old c) d ≡ true
  old_pre c d h k m = pre_of_read old c d (same_reads c d h (read_of_pre new c d m))
      (sym (ap is_some (formula_other d k)) ∙ (and_parts _ _ (sym (has_pre new c d) ∙ m)).0)

  -- a way in the new sheet meets a written cell, or is one of the old sheet
  meets : {c d : Place} → Reaches same_place (pre new) c d → written c ≡ false
      → ((w : Place) × (written w ≡ true) × ReachesCell (reads_at new) c w) ⊎ Reaches same_place (pre old) c d
  meets {c} {d} (one m) h = elim (cases_Bool (written d)) [
    | inl t ↦ inl (d, t, direct (read_of_pre new c d m))
    | inr k ↦ inr (one (old_pre c d h k m))
  ]
  meets {c} {d} (more {e = e} m r) h = elim (cases_Bool (written e)) [
    | inl t ↦ inl (e, t, direct (read_of_pre new c e m))
    | inr k ↦ elim (meets r k) [
      | inl w ↦ inl (w.0, w.1, through (read_of_pre new c e m) w.2)
      | inr q ↦ inr (more (old_pre c e h k m) q)
    ]
  ]

  calm_old : (c : Place) → is_formula_at new c ≡ true → spread c ≡ false → (written c ≡ false) × (dirty c ≡ false)
  calm_old c f h = (
    false_from_ne_true _ (λ t. true≢false (sym (s.written_too c t f) ∙ h)),
    false_from_ne_true _ (λ t. true≢false (sym (s.kept c t f) ∙ h)),
  )

-- an edit that spreads keeps what holds of the dirty formulas
pub edit_keeps_sound : (mean : Meaning) (ctx : Context) → IsMeaning mean → EditKeepsSound mean ctx
edit_keeps_sound mean ctx meaning old new written dirty spread sound s = record {
  only = s.only;
  up = λ c d m t.
      let f : is_formula_at new c ≡ true = reads_formula new c d m in
      elim (s.exact d t) [
        | inl w ↦ s.reaching c d w (direct (read_of_pre new c d m))
        | inr k ↦ elim k [
          | inl w ↦ s.reaching c w.0 w.1 (through (read_of_pre new c d m) w.2)
          | inr q ↦ elim (cases_Bool (written c)) [
            | inl w ↦ s.written_too c w f
            | inr u ↦ elim (cases_Bool (written d)) [
              | inl w ↦ s.reaching c d w (direct (read_of_pre new c d m))
              | inr v ↦ s.kept c (sound.up c d (old_pre old new written dirty spread s c d u v m) q) f
            ]
          ]
        ]
      ];
  calm = λ c f here e.
      let p = calm_old old new written dirty spread s c (ap is_some here) e in
      sound.calm c f (sym (formula_other old new written dirty spread s c p.0) ∙ here) p.1;
  acyclic = λ c e r.
      let p = calm_old old new written dirty spread s c (start c r) e in
      elim (meets old new written dirty spread s r p.0) [
        | inl w ↦ true≢false (sym (s.reaching c w.0 w.1 w.2) ∙ e)
        | inr q ↦ sound.acyclic c p.1 q
      ];
  right = λ c f here e.
      let p = calm_old old new written dirty spread s c (ap is_some here) e in
      let there : formula_at old c ≡ Some f = sym (formula_other old new written dirty spread s c p.0) ∙ here in
      ap value_of (s.others c p.0) ∙ sound.right c f there p.1
      ∙ meaning.reads f c (outlook_at ctx old) (outlook_at ctx new) (sound.calm c f there p.1)
      (λ d m. sym (ap value_of (s.others d
      (false_from_ne_true _
      (λ w. true≢false (sym (s.reaching c d w (direct (ap (λ o. hold (spans_in o c) d) here ∙ m))) ∙ e))))));
}
  where
    start : (c : Place) → {d : Place} → Reaches same_place (pre new) c d → is_formula_at new c ≡ true
    start c {d} (one m) = reads_formula new c d m
    start c (more {e = e} m r) = reads_formula new c e m
