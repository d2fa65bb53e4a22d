-- What goes into the set, and that it ends with all that is within.
use Rattle.std.specs.Prelude.{◌≡◌, ◌≤◌, ◌+◌, true, false, cond, refl, List, [], ◌∷◌, ◌++◌, length, ◌↔◌, ◌⊎◌, Option}
use Rattle.std.specs.Prelude.{Some, None, is_some}
use Rattle.std.specs.FinMap.{entries, get}
use Rattle.std.specs.BTreeMap.{is_at}
use Rattle.std.specs.List.{IsDistinct}
use Rattle.std.specs.Map.{keys_of, lookup}
use Rattle.std.proofs.Common.{sym, ◌∙◌, ap, inl, inr, arith, length-append}
use Rattle.std.proofs.lemmas.Bool.{false≢true, cases_Bool, or_cases, or_left, or_right}
use Rattle.std.proofs.lemmas.Map.Made.{length-le_from_is_member}
use Rattle.cell_maps.specs.Sets.{has}
use Rattle.grid_address.proofs.Maps.{get_lookup}
use Rattle.grid_address.proofs.Places.{cells_total, place_tied, same_place_is, same_place_laws}
use Rattle.grid_address.specs.Place.{place_cmp, same_place, Place}
use Rattle.depend_graph.specs.Network.{holds, is_formula, reads, IsSpread, Network, ReachesCell, ReachesOneOf}
use Rattle.depend_graph.specs.Network.ReachesCell.{direct, through}
use Rattle.depend_graph.specs.inner.Backward.{all}
use Rattle.depend_graph.specs.inner.Within.{Within}
use Rattle.depend_graph.specs.inner.Within.Within.{reader, seed}
use Rattle.depend_graph.specs.declared.node.Node.{Node}

in_keys : (es : List (Place × Node)) (d : Place) → is_some (lookup (is_at (place_cmp d)) es) ≡ true
    → has same_place (keys_of es) d ≡ true
in_keys [] d h = absurd (false≢true h)
in_keys (e ∷ es) d h = elim (cases_Bool (is_at (place_cmp d) e.0)) [
  | inl t ↦ or_left _ _ (sym (place_tied d e.0) ∙ t)
  | inr f ↦ or_right _ _
      (in_keys es d (sym (ap (λ b. is_some (cond b (Some e.1) (lookup (is_at (place_cmp d)) es))) f) ∙ h))
]

-- a cell with a formula is among all of them
pub formula_known : (g : Network) (d : Place) → is_formula g d ≡ true → has same_place (all g) d ≡ true
formula_known g d h = in_keys (entries g.formulas) d (ap is_some (sym (get_lookup cells_total g.formulas d)) ∙ h)

-- what reads a cell is a formula
pub reader_is_formula : (g : Network) (d c : Place) → reads g d c ≡ true → is_formula g d ≡ true
reader_is_formula g d c h = with (get g.formulas d) h
  where
    with : (o : Option Node) → holds o c ≡ true → is_some o ≡ true
    with None h = absurd (false≢true h)
    with (Some n) h = refl

-- what reads a cell is among all formulas
pub reader_known : (g : Network) (d c : Place) → reads g d c ≡ true → has same_place (all g) d ≡ true
reader_known g d c h = formula_known g d (reader_is_formula g d c h)

module _ (g : Network) (cells : List Place) where
  -- cells of which none stands twice are no more than the cells and the formulas that they are among
  pub small : (keys : List Place) → IsDistinct same_place keys → ((c : Place) → has same_place keys c ≡ true
      → has same_place (cells ++ all g) c ≡ true) → length keys ≤ length cells + length (all g)
  small keys d m = let h = length-le_from_is_member same_place_laws keys (cells ++ all g) d m in
      let k = length-append cells (all g) in omega arith

  -- what is within is one of the cells or reaches one of them
  reaches : {c : Place} → Within g cells c → (has same_place cells c ≡ true) ⊎ ReachesOneOf g cells c
  reaches (seed m) = inl m
  reaches (reader {c = c} w r) = elim (reaches w) [
    | inl m ↦ inr (record { cell = c; among = m; reached = direct r })
    | inr q ↦ inr (record { cell = q.cell; among = q.among; reached = through r q.reached })
  ]

  reached_within : {c d : Place} → ReachesCell (reads g) c d → has same_place cells d ≡ true → Within g cells c
  reached_within (direct r) m = reader (seed m) r
  reached_within (through r q) m = reader (reached_within q m) r

  within_formula : {c : Place} → Within g cells c → (has same_place cells c ≡ true → is_formula g c ≡ true)
      → is_formula g c ≡ true
  within_formula (seed m) f = f m
  within_formula {c = d} (reader {c = c} w r) f = reader_is_formula g d c r

  -- what is within is what the cells spread to, but for the cells themselves that are no formulas
  pub spread : (c : Place)
      → (Within g cells c × (has same_place cells c ≡ true → is_formula g c ≡ true)) ↔ IsSpread g cells c
  spread c = (
    (λ h. record { formula = within_formula h.0 h.1; way = reaches h.0 }),
    (λ s. (elim s.way [ inl m ↦ seed m | inr q ↦ reached_within q.reached q.among ], λ m. s.formula)),
  )

-- no formula reaches a cell that none reads
no_way : (g : Network) (c d : Place) → ((e : Place) → reads g e d ≡ false) → ReachesCell (reads g) c d → ⊥
no_way g c d none (direct r) = false≢true (sym (none c) ∙ r)
no_way g c d none (through {e = e} r more) = no_way g e d none more

-- so such cells are all that there is of themselves
pub spread_unread : (g : Network) (cells : List Place)
    → ((d : Place) → has same_place cells d ≡ true → (e : Place) → reads g e d ≡ false) → (c : Place)
    → ((has same_place cells c ≡ true) × (is_formula g c ≡ true)) ↔ IsSpread g cells c
spread_unread g cells none c = (
  (λ h. record { formula = h.1; way = inl h.0 }),
  (λ s. elim s.way [
    | inl m ↦ (m, s.formula)
    | inr q ↦ absurd (no_way g c q.cell (none q.cell q.among) q.reached)
  ]),
)
