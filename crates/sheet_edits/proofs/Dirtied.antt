-- Which formulas are dirty after a cell was written.
use Rattle.std.specs.Prelude.{◌≡◌, ◌↔◌, ◌⊎◌, ◌||◌, Bool, true, false, is_some, refl, cond, List, [], ◌∷◌, ◌++◌, Option}
use Rattle.std.specs.Prelude.{None, Some}
use Rattle.std.specs.FinMap.{get}
use Rattle.std.proofs.Common.{sym, ◌∙◌, ap, subst, inl, inr}
use Rattle.std.proofs.lemmas.Bool.{cases_Bool, false≢true, or_cases, or_left, or_right, true≢false}
use Rattle.std.proofs.lemmas.List.Folds.{list_any-append}
use Rattle.grid_address.proofs.Places.{same_place_is, same_place_laws}
use Rattle.grid_address.specs.Place.{same_place, Place}
use Rattle.formula_tree.specs.Tree.{Tree}
use Rattle.depend_graph.specs.Network as network
use Rattle.depend_graph.proofs.Spreads.{spread_along}
use Rattle.depend_graph.specs.Network.{reads, IsSpread, Network, ReachesCell}
use Rattle.depend_graph.specs.Network.ReachesCell.{direct, through}
use Rattle.cell_maps.specs.Sets.{has, insert_key}
use Rattle.sheet_store.specs.Grid.{is_formula, is_kept, put_state, Grid}
use Rattle.sheet_store.specs.State.{CellState}
use Rattle.recalculation.specs.Context.{formula_at, formula_in}
use Rattle.recalculation.specs.Reading.{is_formula_at, node_of, Matches}
use Rattle.sheet_edits.proofs.Reaching.{accepted_told, dropped_told, formula_beside, formula_here, formula_in_is}
use Rattle.sheet_edits.proofs.Reaching.{matches_written, reaching_formula, to_new, to_old}
use Rattle.sheet_edits.specs.Edits.{just, AreDirtied, AreUpward, IsDirtied}
use Rattle.sheet_edits.specs.inner.Settling.{kept_at, settled, WithReached}

only_one : (c cell : Place) → has same_place (cell ∷ []) c ≡ true → same_place c cell ≡ true
only_one c cell m = elim (or_cases (same_place c cell) false m) [ inl h ↦ h | inr h ↦ absurd (false≢true h) ]

node_is_formula : (o : Option Tree) (c : Place) → is_some (node_of o c) ≡ is_some o
node_is_formula None c = refl
node_is_formula (Some t) c = refl

module _ (g h : Grid) (cells : List Place) (written changed given : Place → Bool) (same : (c : Place)
    → (written c ≡ true) ↔ (has same_place cells c ≡ true)) (sub : (c : Place) → changed c ≡ true → written c ≡ true)
    (beside : (c : Place) → changed c ≡ false → formula_at h c ≡ formula_at g c) (gives : (c : Place) → given c ≡ true
    → changed c ≡ true) (gave : (c : Place) → changed c ≡ true → is_formula_at h c ≡ true → given c ≡ true)
    (n : Network) (m : Matches n g) where
  formula_same : (c : Place) → network.is_formula n c ≡ is_formula_at g c
  formula_same c = ap is_some (m c) ∙ node_is_formula (formula_at g c) c

  formula_after : (c : Place) → changed c ≡ false → is_formula_at h c ≡ is_formula_at g c
  formula_after c k = ap is_some (beside c k)

  -- what is in the set is what the edit makes dirty
  pub dirtied : (old mid : List Place) (now : Place → Bool)
      → ((c : Place) → has same_place old c ≡ true → is_formula_at g c ≡ true) → WithReached n cells given old mid
      → ((c : Place) → (now c ≡ true) ↔ ((has same_place mid c ≡ true) × (written c ≡ true → is_formula_at h c ≡ true)))
      → AreDirtied h (has same_place old) written now
  dirtied old mid now only w x c = (forth, back)
    where
      beside_it : changed c ≡ false → has same_place mid c ≡ true → IsDirtied h (has same_place old) written c
      beside_it f k = elim ((w c).0 k) [
        | inl o ↦ record { formula = formula_after c f ∙ only c o; why = inl o }
        | inr r ↦ elim r [
          | inl t ↦ absurd (true≢false (sym (gives c t) ∙ f))
          | inr p ↦ elim p.way [
            | inl a ↦ record {
              formula = formula_after c f ∙ sym (formula_same c) ∙ p.formula;
              why = inr (inl ((same c).1 a));
            }
            | inr q ↦
                let new = to_new g h written changed sub beside n m q.reached ((same q.cell).1 q.among) f in
                record { formula = reaching_formula h new.2; why = inr (inr new) }
          ]
        ]
      ]

      forth : now c ≡ true → IsDirtied h (has same_place old) written c
      forth t =
          let p = (x c).0 t in
          elim (cases_Bool (changed c)) [
            | inl e ↦ record { formula = p.1 (sub c e); why = inr (inl (sub c e)) }
            | inr e ↦ beside_it e p.0
          ]

      formula_before : changed c ≡ false → is_formula_at h c ≡ true → network.is_formula n c ≡ true
      formula_before f k = formula_same c ∙ sym (formula_after c f) ∙ k

      member : changed c ≡ false → IsDirtied h (has same_place old) written c → has same_place mid c ≡ true
      member f d = elim d.why [
        | inl o ↦ (w c).1 (inl o)
        | inr r ↦ elim r [
          | inl t ↦ (w c).1 (inr (inr (record { formula = formula_before f d.formula; way = inl ((same c).0 t) })))
          | inr q ↦
              let o = to_old g h written changed sub beside n m q.2 q.1 f in
              (w c).1 (inr (inr (record {
                formula = formula_before f d.formula;
                way = inr (record { cell = o.0; among = (same o.0).0 o.1; reached = o.2 });
              })))
        ]
      ]

      back : IsDirtied h (has same_place old) written c → now c ≡ true
      back d = elim (cases_Bool (changed c)) [
        | inl e ↦ (x c).1 ((w c).1 (inr (inl (gave c e d.formula))), λ _. d.formula)
        | inr f ↦ (x c).1 (member f d, λ _. d.formula)
      ]

-- a list into which a cell was put has what it had, and the cell
pub inserted_members : (keys : List Place) (k c : Place) → (has same_place
    (insert_key same_place keys k) c ≡ true) ↔ ((has same_place keys c ≡ true) ⊎ (same_place c k ≡ true))
inserted_members keys k c = elim (has same_place keys k) as (λ b. has same_place keys k ≡ b → (has same_place
    (cond b keys (keys ++ k ∷ [])) c ≡ true) ↔ ((has same_place keys c ≡ true) ⊎ (same_place c k ≡ true))) [
      | true ↦ λ h. (
        λ m. inl m,
        λ a. elim a [ inl m ↦ m | inr e ↦ subst (λ x. has same_place keys x ≡ true) (sym (same_place_is c k e)) h ],
      )
      | false ↦ λ h. (
        λ x. elim (or_cases _ _ (sym (list_any-append (same_place c) keys (k ∷ [])) ∙ x))
            [ inl q ↦ inl q | inr q ↦ inr (only_one c k q) ],
        λ a. list_any-append (same_place c) keys (k ∷ [])
            ∙ elim a [ inl q ↦ or_left _ _ q | inr e ↦ or_right _ _ (or_left _ _ e) ],
      )
    ] refl

-- what the set has after the growths
pub with_reached : (n : Network) (cell : Place) (old mid reached : List Place)
    → ((c : Place) → has same_place mid c ≡ (has same_place old c || has same_place reached c))
    → ((c : Place) → (has same_place reached c ≡ true) ↔ IsSpread n (cell ∷ []) c)
    → WithReached n (cell ∷ []) (just cell) old (insert_key same_place mid cell)
with_reached n cell old mid reached h r c = (forth, back)
  where
    forth : has same_place (insert_key same_place mid cell) c ≡ true
        → (has same_place old c ≡ true) ⊎ ((same_place c cell ≡ true) ⊎ IsSpread n (cell ∷ []) c)
    forth m = elim ((inserted_members mid cell c).0 m) [
      | inl k ↦ elim (or_cases _ _ (sym (h c) ∙ k)) [
        | inl q ↦ inl q
        | inr q ↦ inr (inr ((r c).0 q))
      ]
      | inr k ↦ inr (inl k)
    ]

    back : (has same_place old c ≡ true) ⊎ ((same_place c cell ≡ true) ⊎ IsSpread n (cell ∷ []) c)
        → has same_place (insert_key same_place mid cell) c ≡ true
    back a = (inserted_members mid cell c).1 (elim a [
      | inl q ↦ inl (h c ∙ or_left _ _ q)
      | inr k ↦ elim k [
        | inl q ↦ inr q
        | inr q ↦ inl (h c ∙ or_right _ _ ((r c).1 q))
      ]
    ])

-- where all that read the cell are in the set, and all that read one of it are, so is all that reaches the cell
module _ (n : Network) (cell : Place) (old : List Place) (up : AreUpward n (has same_place old))
    (readers : (d : Place) → reads n d cell ≡ true → has same_place old d ≡ true) where
  reaching_in : {c d : Place} → ReachesCell (reads n) c d → same_place d cell ≡ true → has same_place old c ≡ true
  reaching_in {c} {d} (direct r) e = readers c (subst (λ (x : Place). reads n c x ≡ true) (same_place_is d cell e) r)
  reaching_in {c} {d} (through {e = x} r q) e = up c x r (reaching_in q e)

  -- then the set has what the growths would give it once it has the cell
  pub with_cell : WithReached n (cell ∷ []) (just cell) old (insert_key same_place old cell)
  with_cell c = (forth, back)
    where
      forth : has same_place (insert_key same_place old cell) c ≡ true
          → (has same_place old c ≡ true) ⊎ ((same_place c cell ≡ true) ⊎ IsSpread n (cell ∷ []) c)
      forth m = elim ((inserted_members old cell c).0 m) [ inl k ↦ inl k | inr k ↦ inr (inl k) ]

      back : (has same_place old c ≡ true) ⊎ ((same_place c cell ≡ true) ⊎ IsSpread n (cell ∷ []) c)
          → has same_place (insert_key same_place old cell) c ≡ true
      back a = (inserted_members old cell c).1 (elim a [
        | inl q ↦ inl q
        | inr k ↦ elim k [
          | inl q ↦ inr q
          | inr p ↦ elim p.way [
            | inl h ↦ inr (only_one c cell h)
            | inr q ↦ inl (reaching_in q.reached (only_one q.cell cell q.among))
          ]
        ]
      ])

-- graphs with the same formulas
module _ (n o : Network) (e : o.formulas ≡ n.formulas) where
  -- tell the same of what reads one of some cells
  pub upward_along : (these : Place → Bool) → AreUpward n these → AreUpward o these
  upward_along these up c d r = up c d (sym (ap (λ f. network.holds (get f c) d) e) ∙ r)

  -- and add the same
  pub reached_along : (cells : List Place) (given : Place → Bool) (old new : List Place)
      → WithReached o cells given old new → WithReached n cells given old new
  reached_along cells given old new w c = (
    λ m. elim ((w c).0 m) [
      | inl q ↦ inl q
      | inr k ↦ elim k [ inl q ↦ inr (inl q) | inr q ↦ inr (inr (spread_along o n e cells c q)) ]
    ],
    λ a. (w c).1 (elim a [
      | inl q ↦ inl q
      | inr k ↦ elim k [ inl q ↦ inr (inl q) | inr q ↦ inr (inr (spread_along n o (sym e) cells c q)) ]
    ]),
  )

module _ (g : Grid) (cell : Place) (s : CellState) (keeps : is_formula s.content ≡ true → is_kept s ≡ true)
    (n o : Network) (m : Matches n g) (same : o.formulas ≡ n.formulas) where
  -- an offer that is accepted
  pub matches_formula : get o.offers cell ≡ node_of (formula_in s.content) cell → is_formula s.content ≡ true
      → Matches (network.accepted o cell) (put_state g cell s)
  matches_formula offer h = matches_written g cell s keeps n m (network.accepted o cell)
      (λ d. accepted_told o cell (formula_in s.content) (sym (formula_in_is s.content) ∙ h) offer d
      ∙ ap (λ f. cond (same_place d cell) (node_of (formula_in s.content) cell) (get f d)) same)

  -- a formula that is dropped
  pub matches_other : is_formula s.content ≡ false → Matches (network.dropped o cell) (put_state g cell s)
  matches_other h = matches_written g cell s keeps n m (network.dropped o cell)
      (λ d. dropped_told o cell (formula_in s.content) (sym (formula_in_is s.content) ∙ h) d
      ∙ ap (λ f. cond (same_place d cell) (node_of (formula_in s.content) cell) (get f d)) same)

  -- whichever it is
  pub matches_settled : get o.offers cell ≡ node_of (formula_in s.content) cell → (b : Bool) → is_formula s.content ≡ b
      → Matches (settled b o cell) (put_state g cell s)
  matches_settled offer true h = matches_formula offer h
  matches_settled offer false h = matches_other h

  here_is : is_formula_at (put_state g cell s) cell ≡ is_formula s.content
  here_is = ap is_some (formula_here g cell s keeps) ∙ sym (formula_in_is s.content)

  module _ (old mid : List Place) (only : (c : Place) → has same_place old c ≡ true → is_formula_at g c ≡ true)
      (w : WithReached n (cell ∷ []) (just cell) old mid) where
    dirtied_here : (now : Place → Bool) → ((c : Place)
        → (now c ≡ true) ↔ ((has same_place mid c ≡ true) × (same_place c cell ≡ true → is_formula s.content ≡ true)))
        → AreDirtied (put_state g cell s) (has same_place old) (just cell) now
    dirtied_here now x = dirtied g (put_state g cell s) (cell ∷ []) (just cell) (just cell) (just cell) (λ c.
        (λ t. or_left _ _ t, only_one c cell)) (λ _ t. t) (formula_beside g cell s keeps) (λ _ t. t) (λ _ t _. t) n m
        old mid now only w (λ c. (
          λ t. let p = (x c).0 t in (
            p.0,
            λ e. subst (λ y. is_formula_at (put_state g cell s) y ≡ true)
                (sym (same_place_is c cell e)) (here_is ∙ p.1 e),
          ),
          λ p. (x c).1 (
            p.0,
            λ e. sym here_is
                ∙ subst (λ y. is_formula_at (put_state g cell s) y ≡ true) (same_place_is c cell e) (p.1 e),
          ),
        ))

    dirtied_formula : is_formula s.content ≡ true
        → AreDirtied (put_state g cell s) (has same_place old) (just cell) (has same_place mid)
    dirtied_formula h = dirtied_here (has same_place mid) (λ c. (λ t. (t, λ _. h), λ p. p.0))

    dirtied_other : is_formula s.content ≡ false → (now : Place → Bool)
        → ((c : Place) → now c ≡ cond (same_place cell c) false (has same_place mid c))
        → AreDirtied (put_state g cell s) (has same_place old) (just cell) now
    dirtied_other h now u = dirtied_here now (λ c. (forth c, back c))
      where
        forth : (c : Place) → now c ≡ true → (has same_place mid c ≡ true)
            × (same_place c cell ≡ true → is_formula s.content ≡ true)
        forth c t = elim (cases_Bool (same_place cell c)) [
          | inl e ↦ absurd (false≢true (sym (u c ∙ ap (λ b. cond b false (has same_place mid c)) e) ∙ t))
          | inr e ↦ (
            sym (u c ∙ ap (λ b. cond b false (has same_place mid c)) e)
                ∙ t,
            λ k. absurd (true≢false (sym k ∙ same_place_laws.symm c cell ∙ e)),
          )
        ]

        back : (c : Place) → (has same_place mid c ≡ true) × (same_place c cell ≡ true → is_formula s.content ≡ true)
            → now c ≡ true
        back c p = elim (cases_Bool (same_place cell c)) [
          | inl e ↦ absurd (true≢false (sym (p.1 (same_place_laws.symm c cell ∙ e)) ∙ h))
          | inr e ↦ u c ∙ ap (λ b. cond b false (has same_place mid c)) e ∙ p.0
        ]

    -- with the cell in the set or out of it, by whether it holds a formula, the set has what the edit makes dirty
    pub dirtied_settled : (b : Bool) → is_formula s.content ≡ b → (now : Place → Bool)
        → ((c : Place) → now c ≡ kept_at b cell c (has same_place mid c))
        → AreDirtied (put_state g cell s) (has same_place old) (just cell) now
    dirtied_settled true h now u = subst (AreDirtied (put_state g cell s) (has same_place old) (just cell))
        (λ i c. sym (u c) i) (dirtied_formula h)
    dirtied_settled false h now u = dirtied_other h now u

-- no formula becomes dirty where none is dirty, none is written, and none reads the cell
pub dirtied_alone : (g : Grid) (cell : Place) (s : CellState) → is_formula s.content ≡ false → (n : Network)
    → Matches n g → (old : List Place) → old ≡ [] → ((d : Place) → reads n d cell ≡ false)
    → AreDirtied (put_state g cell s) (has same_place old) (just cell) (has same_place old)
dirtied_alone g cell s other n m old none unread = subst
    (λ (l : List Place). AreDirtied (put_state g cell s) (has same_place l) (just cell) (has same_place l)) (sym none)
    (dirtied_settled g cell s (λ is. absurd (true≢false (sym is ∙ other))) n n m refl [] (cell ∷ [])
    (λ c in_none. absurd (false≢true in_none))
    (with_cell n cell [] (λ c d r in_none. absurd (false≢true in_none))
    (λ d r. absurd (true≢false (sym r ∙ unread d)))) false other (has same_place []) out)
  where
    out : (c : Place) → false ≡ cond (same_place cell c) false (has same_place (cell ∷ []) c)
    out c = elim (cases_Bool (same_place cell c)) [
      | inl e ↦ sym (ap (λ b. cond b false (has same_place (cell ∷ []) c)) e)
      | inr e ↦ sym (ap (λ b. b || false) (same_place_laws.symm c cell ∙ e))
          ∙ sym (ap (λ b. cond b false (has same_place (cell ∷ []) c)) e)
    ]
