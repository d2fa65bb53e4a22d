-- Many cells are put, and the graph takes what they hold.
use Rattle.std.specs.Prelude.{ℕ, not, nat_eq, ◌≡◌, ◌⊎◌, ◌↔◌, ◌+◌, ◌<◌, ◌&&◌, ◌||◌, Bool, true, false, cond, is_some}
use Rattle.std.specs.Prelude.{refl, take, length, List, [], ◌∷◌, Option, None, Some}
use Rattle.std.specs.FinMap.{get, insert, remove}
use Rattle.std.proofs.Common.{sym, ◌∙◌, ap, get_or, inl, inr, subst}
use Rattle.std.proofs.lemmas.Bool.{and_from, and_parts, cases_Bool, false≢true, or_cases, or_left, or_right, true≢false}
use Rattle.std.proofs.lemmas.Option.{none-some}
use Rattle.grid_address.proofs.Places.{get_inserted, get_removed, same_place_is, same_place_itself, same_places}
use Rattle.grid_address.specs.Place.{same_place, Place}
use Rattle.grid_address.specs.declared.format.Format.{Format}
use Rattle.formula_tree.specs.Tree.{Tree}
use Rattle.formula_tree.specs.declared.value.Content.{Content}
use Rattle.formula_tree.specs.declared.value.Content.TheVariants as content
use Rattle.formula_tree.specs.declared.value.Value.{Value}
use Rattle.depend_graph.specs.Network.{promoted, IsSpread, Network}
use Rattle.depend_graph.specs.declared.node.Node.{Node}
use Rattle.cell_maps.specs.Sets.{has}
use Rattle.recalculation.specs.Context.{formula_at, formula_in, formula_of}
use Rattle.recalculation.specs.Reading.{is_formula_at, node_of, Matches}
use Rattle.sheet_store.specs.Grid.{is_kept, put_state, Cells, Grid}
use Rattle.sheet_store.specs.State.{CellState}
use Rattle.depend_graph.proofs.Spreads.{spread_along}
use Rattle.sheet_edits.proofs.Dirtied.{dirtied}
use Rattle.sheet_edits.proofs.Listed.{is_among, more_seen, seen_beside}
use Rattle.sheet_edits.proofs.Reaching.{formula_in_is}
use Rattle.sheet_edits.specs.Edits.{AreDirtied}
use Rattle.sheet_edits.specs.inner.Settling.{settled, WithReached}
use Rattle.sheet_edits.specs.Spans.{changed, kept_of, Becomes}
use Rattle.sheet_edits.specs.inner.Putting.{gives_formula, put_given, ArePut, HaveRoom, IsGrown, IsOffered}

-- a grid by its three parts
pub same_grid : (g h : Grid) → ((c : Place) → get g.cells c ≡ get h.cells c) → g.widths ≡ h.widths
    → g.hidden ≡ h.hidden → g ≡ h
same_grid g h cells widths hidden =
    λ i. record { cells = same_places g.cells h.cells cells i; widths = widths i; hidden = hidden i }

-- what was added is cleared
pub undone : (grown listed : List Place) (old mid new : Grid) → IsGrown grown old mid → listed ≡ grown
    → ((c : Place) → get new.cells c ≡ cond (has same_place listed c) None (get mid.cells c)) → new.widths ≡ mid.widths
    → new.hidden ≡ mid.hidden → new ≡ old
undone grown listed old mid new k e h w d = same_grid new old
    (λ c. h c ∙ ap (λ l. cond (has same_place l c) None (get mid.cells c)) e ∙ elim (has same_place grown c) as
    (λ b. has same_place grown c ≡ b → cond b None (get mid.cells c) ≡ get old.cells c) [
      | true ↦ λ t. sym (k.absent c t)
      | false ↦ λ f. k.others c f
    ] refl)
    (w ∙ k.widths) (d ∙ k.hidden)

-- what a cell holds after a state was put
pub get_put : (g : Grid) (cell : Place) (s : CellState) (c : Place)
    → get (put_state g cell s).cells c ≡ cond (same_place c cell) (kept_of s) (get g.cells c)
get_put g cell s c = elim (is_kept s) as (λ b. get (cond b (insert g.cells cell s) (remove g.cells cell)) c ≡ cond
    (same_place c cell) (cond b (Some s) None) (get g.cells c)) [
      | true ↦ get_inserted g.cells cell s c
      | false ↦ get_removed g.cells cell c
    ]

get_given : (g : Grid) (cell : Place) (o : Option CellState) (c : Place)
    → get (put_given g cell o).cells c ≡ cond (same_place c cell) (changed o (get g.cells c)) (get g.cells c)
get_given g cell (Some s) c = get_put g cell s c
get_given g cell None c = elim (same_place c cell) as (λ b. get g.cells c ≡ cond b (get g.cells c) (get g.cells c))
    [ true ↦ refl | false ↦ refl ]

given_widths : (g : Grid) (cell : Place) (o : Option CellState) → (put_given g cell o).widths ≡ g.widths
given_widths g cell None = refl
given_widths g cell (Some s) = refl

given_hidden : (g : Grid) (cell : Place) (o : Option CellState) → (put_given g cell o).hidden ≡ g.hidden
given_hidden g cell None = refl
given_hidden g cell (Some s) = refl

put_case : (h s : Bool) (w v o : Option CellState) → w ≡ cond h None v
    → cond s (changed w (cond h (changed v o) o)) (cond h (changed v o) o) ≡ cond (h || (s || false)) (changed v o) o
put_case true true w v o e = ap (λ z. changed z (changed v o)) e
put_case true false w v o e = refl
put_case false true w v o e = ap (λ z. changed z o) e
put_case false false w v o e = refl

module _ (cells : List Place) (i : ℕ) (x : Place) (is : x ≡ get_or cells i x) (lt : i < length cells) (old : Grid)
    (first : Cells) (g : Grid) (changes : Cells)
    (store : Becomes old
    (λ c. cond (has same_place (take i cells) c) (changed (get first c) (get old.cells c)) (get old.cells c)) g)
    (rest : (c : Place) → get changes c ≡ cond (has same_place (take i cells) c) None (get first c)) where
  -- one more cell that is put
  pub put_more : (h : Grid) → h ≡ put_given g x (get changes x) → Becomes old (λ c.
      cond (has same_place (take (i + 1) cells) c) (changed (get first c) (get old.cells c)) (get old.cells c)) h
  put_more h e = record {
    cells = λ c.
        let held : Option CellState = get old.cells c in
        let seen : Bool = has same_place (take i cells) c in
        ap (λ (k : Grid). get k.cells c) e ∙ get_given g x (get changes x) c
        ∙ elim (same_place c x) as (λ b. same_place c x ≡ b → cond b (changed (get changes x) (get g.cells c))
        (get g.cells c) ≡ cond b (changed (get changes c) (get g.cells c)) (get g.cells c)) [
          | true ↦ λ t. ap (λ y. changed (get changes y) (get g.cells c)) (sym (same_place_is c x t))
          | false ↦ λ _. refl
        ] refl
        ∙ ap (λ z. cond (same_place c x) (changed (get changes c) z) z) (store.cells c)
        ∙ put_case seen (same_place c x) (get changes c) (get first c) held (rest c)
        ∙ sym (ap (λ b. cond b (changed (get first c) held) held) (more_seen cells i x is lt c));
    widths = ap (λ (k : Grid). k.widths) e ∙ given_widths g x (get changes x) ∙ store.widths;
    hidden = ap (λ (k : Grid). k.hidden) e ∙ given_hidden g x (get changes x) ∙ store.hidden;
  }

  -- there is room for it
  pub room_next : HaveRoom first (has same_place cells) old → (s : CellState) → get changes x ≡ Some s
      → is_kept s ≡ true → get g.cells x ≡ None → ⊥
  room_next room s some kept gone = elim (cases_Bool (has same_place (take i cells) x)) [
    | inl t ↦ none-some s (sym (rest x ∙ ap (λ b. cond b None (get first x)) t) ∙ some)
    | inr f ↦ room x s (is_among cells i x is lt) (sym (rest x ∙ ap (λ b. cond b None (get first x)) f) ∙ some) kept
        (sym (store.cells x ∙ ap (λ b. cond b (changed (get first x) (get old.cells x)) (get old.cells x)) f) ∙ gone)
  ]

-- what the graph holds at a cell that is settled
module _ (n : Network) (g : Grid) (c : Place) where
  -- a cell that is settled has in the graph the formula that it holds
  pub settled_here : IsOffered n g c → get (settled (is_formula_at g c) n c).formulas c ≡ node_of (formula_at g c) c
  settled_here o = by (formula_at g c) refl
    where
      taken_here : (t : Tree) → formula_at g c ≡ Some t → (a : Option Node) → get n.offers c ≡ a
          → get (promoted a n c).formulas c ≡ node_of (Some t) c
      taken_here t e None k = elim o.some [
        | inl f ↦ f ∙ ap (λ z. node_of z c) e
        | inr f ↦ absurd (none-some _ (sym k ∙ f ∙ ap (λ z. node_of z c) e))
      ]
      taken_here t e (Some a) k = get_inserted n.formulas c a c
          ∙ ap (λ b. cond b (Some a) (get n.formulas c)) (same_place_itself c) ∙ sym k ∙ elim o.offer [
            | inl f ↦ absurd (none-some a (sym f ∙ k))
            | inr f ↦ f ∙ ap (λ z. node_of z c) e
          ]

      by : (f : Option Tree) → formula_at g c ≡ f → get (settled (is_some f) n c).formulas c ≡ node_of f c
      by None e = get_removed n.formulas c c ∙ ap (λ b. cond b None (get n.formulas c)) (same_place_itself c)
      by (Some t) e = taken_here t e (get n.offers c) refl

module _ (n : Network) (c : Place) where
  taken_offer : (a : Option Node) → get n.offers c ≡ a → (get (promoted a n c).offers c ≡ None)
      ⊎ (get (promoted a n c).offers c ≡ get n.offers c)
  taken_offer None k = inr refl
  taken_offer (Some a) k = inl (get_removed n.offers c c ∙ ap (λ b. cond b None (get n.offers c)) (same_place_itself c))

  -- of a cell that is settled no offer is left, or the one that waited
  pub settled_offer : (b : Bool) → (get (settled b n c).offers c ≡ None)
      ⊎ (get (settled b n c).offers c ≡ get n.offers c)
  settled_offer true = taken_offer (get n.offers c) refl
  settled_offer false = inr refl

  module _ (d : Place) (f : same_place d c ≡ false) where
    taken_beside : (a : Option Node) → get (promoted a n c).formulas d ≡ get n.formulas d
    taken_beside None = refl
    taken_beside (Some a) = get_inserted n.formulas c a d ∙ ap (λ b. cond b (Some a) (get n.formulas d)) f

    -- other cells keep their formulas in the graph
    pub settled_beside : (b : Bool) → get (settled b n c).formulas d ≡ get n.formulas d
    settled_beside true = taken_beside (get n.offers c)
    settled_beside false = get_removed n.formulas c d ∙ ap (λ b. cond b None (get n.formulas d)) f

    taken_offers : (a : Option Node) → get (promoted a n c).offers d ≡ get n.offers d
    taken_offers None = refl
    taken_offers (Some a) = get_removed n.offers c d ∙ ap (λ b. cond b None (get n.offers d)) f

    -- other cells keep their offers
    pub settled_offers : (b : Bool) → get (settled b n c).offers d ≡ get n.offers d
    settled_offers true = taken_offers (get n.offers c)
    settled_offers false = refl

dirty_case : (h s o f : Bool)
    → cond s ((cond h (o && f) o) && f) (cond h (o && f) o) ≡ cond (h || (s || false)) (o && f) o
dirty_case true true true true = refl
dirty_case true true true false = refl
dirty_case true true false f = refl
dirty_case true false o f = refl
dirty_case false true o f = refl
dirty_case false false o f = refl

-- one more cell for which what is told of it is offered
pub offers_more : (cells : List Place) (i : ℕ) (x : Place) → x ≡ get_or cells i x → i < length cells →
    (told : Place → Option Node) (n m : Network)
    → ((c : Place) → same_place c x ≡ false → get m.offers c ≡ get n.offers c) →
    get m.offers x ≡ told x → ((c : Place) → has same_place (take i cells) c ≡ true → get n.offers c ≡ told c) →
    (c : Place) → has same_place (take (i + 1) cells) c ≡ true → get m.offers c ≡ told c
offers_more cells i x is lt told n m others here done c t = elim (cases_Bool (same_place c x)) [
  | inl e ↦ subst (λ y. get m.offers y ≡ told y) (sym (same_place_is c x e)) here
  | inr f ↦ others c f ∙ done c (sym (seen_beside cells i x is lt c f) ∙ t)
]

-- one more cell that is settled
module _ (cells : List Place) (i : ℕ) (x : Place) (is : x ≡ get_or cells i x) (lt : i < length cells) (g : Grid)
    (n m : Network)
    (here : get m.formulas x ≡ node_of (formula_at g x) x)
    (offer : (get m.offers x ≡ None) ⊎ (get m.offers x ≡ get n.offers x))
    (formulas : (c : Place) → same_place c x ≡ false → get m.formulas c ≡ get n.formulas c)
    (offers : (c : Place) → same_place c x ≡ false → get m.offers c ≡ get n.offers c) where
  -- with one cell more settled, those so far have their formulas in the graph
  pub done_more : ((c : Place) → has same_place (take i cells) c ≡ true → get n.formulas c ≡ node_of (formula_at g c) c)
      → (c : Place) → has same_place (take (i + 1) cells) c ≡ true → get m.formulas c ≡ node_of (formula_at g c) c
  done_more done c t = elim (cases_Bool (same_place c x)) [
    | inl e ↦ subst (λ y. get m.formulas y ≡ node_of (formula_at g y) y) (sym (same_place_is c x e)) here
    | inr f ↦ formulas c f ∙ done c (sym (seen_beside cells i x is lt c f) ∙ t)
  ]

  offered_here : IsOffered n g x → IsOffered m g x
  offered_here o = record {
    offer = elim offer [
      | inl k ↦ inl k
      | inr k ↦ elim o.offer [ inl a ↦ inl (k ∙ a) | inr a ↦ inr (k ∙ a) ]
    ];
    some = inl here;
  }

  -- all cells still have their formulas offered or in the graph
  pub offered_more : ((c : Place) → has same_place cells c ≡ true → IsOffered n g c) → (c : Place)
      → has same_place cells c ≡ true → IsOffered m g c
  offered_more offered c t = elim (cases_Bool (same_place c x)) [
    | inl e ↦ subst (IsOffered m g) (sym (same_place_is c x e)) (offered_here (offered x (is_among cells i x is lt)))
    | inr f ↦ record {
      offer = elim (offered c t).offer [ inl a ↦ inl (offers c f ∙ a) | inr a ↦ inr (offers c f ∙ a) ];
      some = elim (offered c t).some [ inl a ↦ inl (formulas c f ∙ a) | inr a ↦ inr (offers c f ∙ a) ];
    }
  ]

  -- cells beside the list still have their formulas in the graph
  pub others_more : ((c : Place) → has same_place cells c ≡ false → get n.formulas c ≡ node_of (formula_at g c) c)
      → (c : Place) → has same_place cells c ≡ false → get m.formulas c ≡ node_of (formula_at g c) c
  others_more others c t = elim (cases_Bool (same_place c x)) [
    | inl e ↦ absurd (true≢false (sym
        (subst (λ y. has same_place cells y ≡ true) (sym (same_place_is c x e)) (is_among cells i x is lt)) ∙ t))
    | inr f ↦ formulas c f ∙ others c t
  ]

  -- with one cell more settled, the set has of those so far what still holds a formula
  pub dirty_more : (old keys new : List Place) → ((c : Place) → has same_place new c
      ≡ cond (same_place c x) (has same_place keys c && is_formula_at g c) (has same_place keys c))
      → ((c : Place) → has same_place keys c ≡ cond (has same_place (take i cells) c) (has same_place old c
      && is_formula_at g c) (has same_place old c)) → (c : Place) → has same_place new c
      ≡ cond (has same_place (take (i + 1) cells) c) (has same_place old c && is_formula_at g c) (has same_place old c)
  dirty_more old keys new e inv c =
      e c ∙ ap (λ b. cond (same_place c x) (b && is_formula_at g c) b) (inv c)
      ∙ dirty_case (has same_place (take i cells) c) (same_place c x) (has same_place old c) (is_formula_at g c)
      ∙ sym (ap (λ b. cond b (has same_place old c && is_formula_at g c) (has same_place old c))
      (more_seen cells i x is lt c))

-- what the set has after the growths
pub reached_all : (n o : Network) → o.formulas ≡ n.formulas
    → (cells : List Place) (given : Place → Bool) (old mid reached new : List Place)
    → ((c : Place) → has same_place mid c ≡ (has same_place old c || has same_place reached c))
    → ((c : Place) → has same_place new c ≡ (has same_place mid c || given c))
    → ((c : Place) → (has same_place reached c ≡ true) ↔ IsSpread o cells c) → WithReached n cells given old new
reached_all n o e cells given old mid reached new h k r c = (forth, back)
  where
    forth : has same_place new c ≡ true → (has same_place old c ≡ true) ⊎ ((given c ≡ true) ⊎ IsSpread n cells c)
    forth t = elim (or_cases _ _ (sym (k c) ∙ t)) [
      | inl a ↦ elim (or_cases _ _ (sym (h c) ∙ a)) [
        | inl q ↦ inl q
        | inr q ↦ inr (inr (spread_along o n e cells c ((r c).0 q)))
      ]
      | inr a ↦ inr (inl a)
    ]

    back : (has same_place old c ≡ true) ⊎ ((given c ≡ true) ⊎ IsSpread n cells c) → has same_place new c ≡ true
    back a = k c ∙ elim a [
      | inl q ↦ or_left _ _ (h c ∙ or_left _ _ q)
      | inr b ↦ elim b [
        | inl q ↦ or_right _ _ q
        | inr q ↦ or_left _ _ (h c ∙ or_right _ _ ((r c).1 (spread_along n o (sym e) cells c q)))
      ]
    ]

-- the formula of a state that is kept where it has one
pub formula_kept : (x : Content) (v : Value) (f : Format)
    → formula_of (kept_of (record { content = x; value = v; format = f })) ≡ formula_in x
formula_kept content.Blank v f = elim (not (nat_eq f.0 255)) as (λ b. formula_of (cond b
    (Some (record { content = content.Blank; value = v; format = f })) None) ≡ None) [ true ↦ refl | false ↦ refl ]
formula_kept (content.Number x) v f = refl
formula_kept (content.Label p t) v f = refl
formula_kept (content.Formula t) v f = refl

-- the formulas after cells were given states
module _ (changes : Cells) (g h : Grid)
    (held : (c : Place) → get h.cells c ≡ changed (get changes c) (get g.cells c)) where
  formula_given : (c : Place) (s : CellState) → get changes c ≡ Some s → formula_at h c ≡ formula_in s.content
  formula_given c s e = ap formula_of (held c ∙ ap (λ z. changed z (get g.cells c)) e)
      ∙ formula_kept s.content s.value s.format

  formula_same : (c : Place) → get changes c ≡ None → formula_at h c ≡ formula_at g c
  formula_same c e = ap formula_of (held c ∙ ap (λ z. changed z (get g.cells c)) e)

  module _ (cells : List Place) (outside : (c : Place) → has same_place cells c ≡ false → get changes c ≡ None)
      (n : Network) (m : Matches n g) where
    abbrev is_changed : Place → Bool
    is_changed c = is_some (get changes c)

    none_unchanged : (o : Option CellState) → is_some o ≡ false → o ≡ None
    none_unchanged None e = refl
    none_unchanged (Some s) e = absurd (true≢false e)

    within : (c : Place) → is_changed c ≡ true → has same_place cells c ≡ true
    within c t = elim (cases_Bool (has same_place cells c)) [
      | inl a ↦ a
      | inr f ↦ absurd (false≢true (sym (ap is_some (outside c f)) ∙ t))
    ]

    some_given : (o : Option CellState) → gives_formula o ≡ true → is_some o ≡ true
    some_given None e = absurd (false≢true e)
    some_given (Some s) e = refl

    gave : (c : Place) (o : Option CellState) → get changes c ≡ o → is_some o ≡ true → is_formula_at h c ≡ true
        → gives_formula o ≡ true
    gave c None k e f = absurd (false≢true e)
    gave c (Some s) k e f = formula_in_is s.content ∙ sym (ap is_some (formula_given c s k)) ∙ f

    -- which formulas are dirty then
    pub dirtied_all : (old mid new : List Place)
        → ((c : Place) → has same_place old c ≡ true → is_formula_at g c ≡ true)
        → WithReached n cells (λ c. has same_place cells c && gives_formula (get changes c)) old mid
        → ((c : Place) → has same_place new c ≡ cond (has same_place cells c)
        (has same_place mid c && is_formula_at h c) (has same_place mid c))
        → AreDirtied h (has same_place old) (has same_place cells) (has same_place new)
    dirtied_all old mid new only w e = dirtied g h cells (has same_place cells) is_changed
        (λ c. has same_place cells c && gives_formula (get changes c)) (λ c. (λ t. t, λ t. t)) within
        (λ c f. formula_same c (none_unchanged (get changes c) f))
        (λ c t. some_given (get changes c) (and_parts _ _ t).1)
        (λ c t f. and_from _ _ (within c t) (gave c (get changes c) refl t f)) n m old mid (has same_place new) only w
        (λ c. (forth c, back c))
      where
        forth : (c : Place) → has same_place new c ≡ true
            → (has same_place mid c ≡ true) × (has same_place cells c ≡ true → is_formula_at h c ≡ true)
        forth c t = elim (cases_Bool (has same_place cells c)) [
          | inl a ↦ let p = and_parts _ _ (sym (e c ∙ ap (λ b. cond b (has same_place mid c && is_formula_at h c)
              (has same_place mid c)) a) ∙ t) in (p.0, λ _. p.1)
          | inr f ↦ (
            sym (e c ∙ ap (λ b. cond b (has same_place mid c && is_formula_at h c) (has same_place mid c)) f)
                ∙ t,
            λ a. absurd (true≢false (sym a ∙ f)),
          )
        ]

        back : (c : Place) → (has same_place mid c ≡ true) × (has same_place cells c ≡ true → is_formula_at h c ≡ true)
            → has same_place new c ≡ true
        back c p = e c ∙ elim (cases_Bool (has same_place cells c)) [
          | inl a ↦ ap (λ b. cond b (has same_place mid c && is_formula_at h c) (has same_place mid c)) a
              ∙ and_from _ _ p.0 (p.1 a)
          | inr f ↦ ap (λ b. cond b (has same_place mid c && is_formula_at h c) (has same_place mid c)) f ∙ p.0
        ]

-- a cell whose state was put is no longer among those that are left
module _ (left m : Cells) (x : Place) (e : m ≡ remove left x) where
  taken_there : (c : Place) → same_place c x ≡ true → get m c ≡ None
  taken_there c t = ap (λ k. get k c) e ∙ get_removed left x c ∙ ap (λ b. cond b None (get left c)) t

  left_beside : (c : Place) → same_place c x ≡ false → get m c ≡ get left c
  left_beside c f = ap (λ k. get k c) e ∙ get_removed left x c ∙ ap (λ b. cond b None (get left c)) f

  module _ (g h : Grid) (put : h ≡ put_given g x (get left x)) where
    put_there : (c : Place) → same_place c x ≡ true → get h.cells c ≡ changed (get left c) (get g.cells c)
    put_there c t =
        ap (λ (k : Grid). get k.cells c) put ∙ get_given g x (get left x) c
        ∙ ap (λ b. cond b (changed (get left x) (get g.cells c)) (get g.cells c)) t
        ∙ ap (λ y. changed (get left y) (get g.cells c)) (sym (same_place_is c x t))

    put_beside : (c : Place) → same_place c x ≡ false → get h.cells c ≡ get g.cells c
    put_beside c f = ap (λ (k : Grid). get k.cells c) put ∙ get_given g x (get left x) c
        ∙ ap (λ b. cond b (changed (get left x) (get g.cells c)) (get g.cells c)) f

    -- one more cell whose state is put
    pub put_next : (given : Cells) (old : Grid) → ArePut given old left g → ArePut given old m h
    put_next given old k = record {
      among = λ c s some. elim (cases_Bool (same_place c x)) [
        | inl t ↦ absurd (none-some s (sym (taken_there c t) ∙ some))
        | inr f ↦ k.among c s (sym (left_beside c f) ∙ some)
      ];
      held = λ c. elim (cases_Bool (same_place c x)) [
        | inl t ↦ ap (λ z. changed z (get h.cells c)) (taken_there c t) ∙ put_there c t ∙ k.held c
        | inr f ↦ ap (λ z. changed z (get h.cells c)) (left_beside c f)
            ∙ ap (changed (get left c)) (put_beside c f) ∙ k.held c
      ];
      widths = ap (λ (k : Grid). k.widths) put ∙ given_widths g x (get left x) ∙ k.widths;
      hidden = ap (λ (k : Grid). k.hidden) put ∙ given_hidden g x (get left x) ∙ k.hidden;
    }

    -- there is room for those that are left
    pub room_put : (cells : List Place) (i : ℕ) → x ≡ get_or cells i x → i < length cells
        → HaveRoom left (has same_place (take i cells)) g → HaveRoom m (has same_place (take (i + 1) cells)) h
    room_put cells i is lt room c s seen some kept gone = elim (cases_Bool (same_place c x)) [
      | inl t ↦ none-some s (sym (taken_there c t) ∙ some)
      | inr f ↦ room c s (sym (seen_beside cells i x is lt c f) ∙ seen) (sym (left_beside c f) ∙ some) kept
          (sym (put_beside c f) ∙ gone)
    ]

-- a cell for which there is room
pub room_there : (left : Cells) (g : Grid) (x : Place) → ((s : CellState) → get left x ≡ Some s → is_kept s ≡ true
    → get g.cells x ≡ None → ⊥) → (cells : List Place) (i : ℕ) → x ≡ get_or cells i x → i < length cells
    → HaveRoom left (has same_place (take i cells)) g → HaveRoom left (has same_place (take (i + 1) cells)) g
room_there left g x here cells i is lt room c s seen some kept gone = elim (cases_Bool (same_place c x)) [
  | inl t ↦ let e = same_place_is c x t in here s (ap (get left) (sym e) ∙ some) kept (ap (get g.cells) (sym e) ∙ gone)
  | inr f ↦ room c s (sym (seen_beside cells i x is lt c f) ∙ seen) some kept gone
]

-- one more cell that wasn't there
pub grown_more : (grown more : List Place) (old g h : Grid) (x : Place) → IsGrown grown old g → get g.cells x ≡ None
    → ((c : Place) → has same_place more c ≡ true → (has same_place grown c ≡ true) ⊎ (same_place c x ≡ true))
    → ((c : Place) → has same_place grown c ≡ true → has same_place more c ≡ true)
    → ((c : Place) → has same_place more c ≡ false → get h.cells c ≡ get g.cells c) → h.widths ≡ g.widths
    → h.hidden ≡ g.hidden → IsGrown more old h
grown_more grown more old g h x k none either held others widths hidden = record {
  absent = λ c t. elim (either c t) [
    | inl a ↦ k.absent c a
    | inr b ↦ elim (cases_Bool (has same_place grown c)) [
      | inl a ↦ k.absent c a
      | inr f ↦ sym (k.others c f) ∙ ap (get g.cells) (same_place_is c x b) ∙ none
    ]
  ];
  others = λ c f. others c f ∙ elim (cases_Bool (has same_place grown c)) [
    | inl t ↦ absurd (true≢false (sym (held c t) ∙ f))
    | inr e ↦ k.others c e
  ];
  widths = widths ∙ k.widths;
  hidden = hidden ∙ k.hidden;
}

-- the states of new cells are put, as far as some cells
pub record Putting (given : Cells) (old : Grid) (seen grown : List Place) (left : Cells) (g : Grid) : Type 0 where
  pub are_grown : IsGrown grown old g
  pub are_put : ArePut given old left g
  pub have_room : HaveRoom left (has same_place seen) g

-- by other names
pub putting_is : (given : Cells) (old : Grid) (seen grown more : List Place) (left m : Cells) (g h : Grid)
    → more ≡ grown → m ≡ left → h ≡ g → Putting given old seen grown left g → Putting given old seen more m h
putting_is given old seen grown more left m g h a b c k = subst (λ y. Putting given old seen y m h) (sym a)
    (subst (λ y. Putting given old seen grown y h) (sym b) (subst (λ y. Putting given old seen grown left y) (sym c) k))

none_taken : (cells : List Place) → take 0 cells ≡ []
none_taken [] = refl
none_taken (x ∷ cells) = refl

-- before the first cell
pub putting_none : (given : Cells) (old : Grid) (cells grown : List Place) → grown ≡ []
    → Putting given old (take 0 cells) grown given old
putting_none given old cells grown e = record {
  are_grown = record {
    absent = λ c t. absurd (false≢true (sym (ap (λ l. has same_place l c) e) ∙ t));
    others = λ c f. refl;
    widths = refl;
    hidden = refl;
  };
  are_put = record { among = λ c s t. t; held = λ c. refl; widths = refl; hidden = refl };
  have_room = λ c s t. absurd (false≢true (sym (ap (λ l. has same_place l c) (none_taken cells)) ∙ t));
}

module _ (given : Cells) (old : Grid) (cells : List Place) (i : ℕ) (x : Place)
    (is : x ≡ get_or cells i x) (lt : i < length cells) (grown : List Place) (left : Cells) (g : Grid)
    (k : Putting given old (take i cells) grown left g) where
  -- one more cell that is new
  pub putting_new : (more : List Place) (m : Cells) (h : Grid) → get g.cells x ≡ None
      → ((c : Place) → has same_place more c ≡ true → (has same_place grown c ≡ true) ⊎ (same_place c x ≡ true))
      → ((c : Place) → has same_place grown c ≡ true → has same_place more c ≡ true)
      → ((c : Place) → has same_place more c ≡ false → get h.cells c ≡ get g.cells c) → m ≡ remove left x
      → h ≡ put_given g x (get left x) → Putting given old (take (i + 1) cells) more m h
  putting_new more m h none either held others e put = record {
    are_grown = grown_more grown more old g h x k.are_grown none either held others (ap (λ (y : Grid). y.widths) put
        ∙ given_widths g x (get left x)) (ap (λ (y : Grid). y.hidden) put ∙ given_hidden g x (get left x));
    are_put = put_next left m x e g h put given old k.are_put;
    have_room = room_put left m x e g h put cells i is lt k.have_room;
  }

  -- one more cell that isn't
  pub putting_same : ((s : CellState) → get left x ≡ Some s → is_kept s ≡ true → get g.cells x ≡ None → ⊥)
      → Putting given old (take (i + 1) cells) grown left g
  putting_same here = record {
    are_grown = k.are_grown;
    are_put = k.are_put;
    have_room = room_there left g x here cells i is lt k.have_room;
  }

-- what was left is put
pub put_whole : (cells : List Place) (given left : Cells) (old mid new : Grid)
    → ((c : Place) → has same_place cells c ≡ false → get given c ≡ None) → ArePut given old left mid
    → Becomes mid (λ c. cond (has same_place cells c) (changed (get left c) (get mid.cells c)) (get mid.cells c)) new
    → Becomes old (λ c. changed (get given c) (get old.cells c)) new
put_whole cells given left old mid new outside k b = record {
  cells = λ c. b.cells c ∙ whole c (cases_Bool (has same_place cells c)) ∙ k.held c;
  widths = b.widths ∙ k.widths;
  hidden = b.hidden ∙ k.hidden;
}
  where
    none_left : (c : Place) → has same_place cells c ≡ false → get left c ≡ None
    none_left c f = at (get left c) refl
      where
        at : (o : Option CellState) → get left c ≡ o → o ≡ None
        at None e = refl
        at (Some s) e = absurd (none-some s (sym (outside c f) ∙ k.among c s e))

    whole : (c : Place) → (has same_place cells c ≡ true) ⊎ (has same_place cells c ≡ false)
        → cond (has same_place cells c) (changed (get left c) (get mid.cells c)) (get mid.cells c)
        ≡ changed (get left c) (get mid.cells c)
    whole c (inl t) = ap (λ z. cond z (changed (get left c) (get mid.cells c)) (get mid.cells c)) t
    whole c (inr f) = ap (λ z. cond z (changed (get left c) (get mid.cells c)) (get mid.cells c)) f
        ∙ sym (ap (λ z. changed z (get mid.cells c)) (none_left c f))
