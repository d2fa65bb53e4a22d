-- What a search has met, step by step.
use Rattle.std.specs.Prelude.{ℕ, ◌≡◌, ◌<◌, ◌||◌, ◌⊎◌, ◌↔◌, Bool, true, false, cond, List, [], ◌∷◌, ◌++◌, length}
use Rattle.std.proofs.Common.{sym, ◌∙◌, ap, subst, inl, inr, arith, length-append}
use Rattle.std.specs.List.{IsDistinct}
use Rattle.std.proofs.lemmas.Bool.{true≢false, false≢true, cases_Bool, false_from_ne_true, or_cases, or_left, or_right}
use Rattle.std.proofs.lemmas.List.Folds.{list_any-append}
use Rattle.std.proofs.lemmas.Map.Keys.{IsDistinct-push}
use Rattle.cell_maps.specs.Sets.{has}
use Rattle.grid_address.proofs.Places.{same_place_is, same_place_itself, same_place_laws}
use Rattle.grid_address.specs.Place.{same_place, InSheet, Place}
use Rattle.depend_graph.specs.inner.Backward.{all, work_left, IsDeeper, IsSearched}
use Rattle.depend_graph.specs.Network.{reads, Network}
use Rattle.depend_graph.specs.inner.Marked.{mark_at}
use Rattle.depend_graph.specs.inner.Within.{Within}
use Rattle.depend_graph.specs.inner.Within.Within.{reader, seed}
use Rattle.depend_graph.specs.declared.closure.Search.{Search}
use Rattle.depend_graph.proofs.Growth.{reader_known, small}

snoc_is : (xs : List Place) (c d : Place) → has same_place (xs ++ c ∷ []) d ≡ true
    → (has same_place xs d ≡ true) ⊎ (same_place d c ≡ true)
snoc_is xs c d m = elim
    (or_cases (has same_place xs d) (same_place d c || false) (sym (list_any-append (same_place d) xs (c ∷ [])) ∙ m)) [
      | inl h ↦ inl h
      | inr h ↦ elim (or_cases (same_place d c) false h) [ inl q ↦ inr q | inr q ↦ absurd (false≢true q) ]
    ]

snoc_in : (xs : List Place) (c d : Place) → has same_place xs d ≡ true → has same_place (xs ++ c ∷ []) d ≡ true
snoc_in xs c d h = list_any-append (same_place d) xs (c ∷ []) ∙ or_left _ _ h

snoc_last : (xs : List Place) (c d : Place) → same_place d c ≡ true → has same_place (xs ++ c ∷ []) d ≡ true
snoc_last xs c d h = list_any-append (same_place d) xs (c ∷ [])
    ∙ or_right (has same_place xs d) (same_place d c || false) (or_left _ _ h)

turned : (c d : Place) (b : Bool) → same_place c d ≡ b → same_place d c ≡ b
turned c d b h = sym (same_place_laws.symm c d) ∙ h

snoc_not : (xs : List Place) (c d : Place) → has same_place xs d ≡ false → same_place d c ≡ false
    → has same_place (xs ++ c ∷ []) d ≡ false
snoc_not xs c d h k = false_from_ne_true _
    (λ m. elim (snoc_is xs c d m) [ inl n ↦ true≢false (sym n ∙ h) | inr n ↦ true≢false (sym n ∙ k) ])

apart_none : IsDistinct same_place []
unfolding IsDistinct
apart_none = tt

module _ (g : Network) (cells : List Place) where
  -- nothing is met, and the cells are on the stack
  pub searched_none : (s : Search) → ((d : Place) → mark_at s.marks d ≡ 0) → s.met.items ≡ [] → s.left.items ≡ []
      → s.stack.items ≡ cells → IsSearched g cells s
  searched_none s marks met left stack = record {
    unmet = λ c i z. ap (λ xs. has same_place xs c) met;
    marked = λ c i n. absurd (n (marks c));
    over = λ c i n k. absurd (n (marks c));
    begun = λ c m. absurd (none c met m);
    left = λ c m. absurd (none c left m);
    cells_in = λ c m. inr (ap (λ xs. has same_place xs c) stack ∙ m);
    readers_in = λ c d m r. absurd (none c met m);
    met = λ c m. absurd (none c met m);
    stacked = λ c m. seed (sym (ap (λ xs. has same_place xs c) stack) ∙ m);
    distinct = subst (IsDistinct same_place) (sym met) apart_none;
  }
    where
      none : {xs : List Place} (c : Place) → xs ≡ [] → has same_place xs c ≡ true → ⊥
      none c e m = true≢false (sym m ∙ ap (λ ys. has same_place ys c) e)

  module _ (s t : Search) (rest : List Place) (c : Place) (h : IsSearched g cells s)
      (st : s.stack.items ≡ rest ++ c ∷ []) (inside : InSheet c) where
    within_here : Within g cells c
    within_here = h.stacked c (ap (λ xs. has same_place xs c) st ∙ snoc_last rest c c (same_place_itself c))

    old_stack : (d : Place) → has same_place s.stack.items d ≡ true
        → (has same_place rest d ≡ true) ⊎ (same_place d c ≡ true)
    old_stack d m = snoc_is rest c d (sym (ap (λ xs. has same_place xs d) st) ∙ m)

    in_old : (d : Place) → has same_place rest d ≡ true → has same_place s.stack.items d ≡ true
    in_old d m = ap (λ xs. has same_place xs d) st ∙ snoc_in rest c d m

    -- a cell is met
    pub entered : mark_at s.marks c ≡ 0
        → ((d : Place) → InSheet d → mark_at t.marks d ≡ cond (same_place c d) 1 (mark_at s.marks d))
        → t.met.items ≡ s.met.items ++ c ∷ [] → t.left.items ≡ s.left.items → IsDeeper g c rest t.stack.items
        → IsSearched g cells t
    entered zero_here marks met left deep = record {
      unmet = λ d i z. elim (cases_Bool (same_place c d)) [
        | inl e ↦ absurd (one_not (sym (at_here d i e) ∙ z))
        | inr n ↦ ap (λ xs. has same_place xs d) met
            ∙ snoc_not s.met.items c d (h.unmet d i (sym (at_other d i n) ∙ z)) (turned c d false n)
      ];
      marked = λ d i n. elim (cases_Bool (same_place c d)) [
        | inl e ↦ ap (λ xs. has same_place xs d) met ∙ snoc_last s.met.items c d (turned c d true e)
        | inr k ↦ met_in d (h.marked d i (λ z. n (at_other d i k ∙ z)))
      ];
      over = λ d i n k. elim (cases_Bool (same_place c d)) [
        | inl e ↦ absurd (k (at_here d i e))
        | inr f ↦ ap (λ xs. has same_place xs d) left
            ∙ h.over d i (λ z. n (at_other d i f ∙ z)) (λ z. k (at_other d i f ∙ z))
      ];
      begun = λ d m. elim (met_is d m) [
        | inl k ↦ elim (h.begun d k) [ inl l ↦ inl (ap (λ xs. has same_place xs d) left ∙ l) | inr w ↦ inr (kept d w) ]
        | inr q ↦ inr ((deep.members d).1 (inr (inl q)))
      ];
      left = λ d m. met_in d (h.left d (sym (ap (λ xs. has same_place xs d) left) ∙ m));
      cells_in = λ d m. elim (h.cells_in d m) [ inl k ↦ inl (met_in d k) | inr w ↦ inr (kept d w) ];
      readers_in = λ x d m r. elim (met_is x m) [
        | inl k ↦ elim (h.readers_in x d k r) [ inl l ↦ inl (met_in d l) | inr w ↦ inr (kept d w) ]
        | inr q ↦ inr ((deep.members d).1 (inr (inr (subst (λ y. reads g d y ≡ true) (same_place_is x c q) r))))
      ];
      met = λ d m. elim
          (met_is d m) [ inl k ↦ h.met d k | inr q ↦ subst (Within g cells) (sym (same_place_is d c q)) within_here ];
      stacked = λ d m. elim ((deep.members d).0 m) [
        | inl k ↦ h.stacked d (in_old d k)
        | inr k ↦ elim k [
          | inl q ↦ subst (Within g cells) (sym (same_place_is d c q)) within_here
          | inr r ↦
              reader within_here r
        ]
      ];
      distinct =
          subst (IsDistinct same_place) (sym met)
          (IsDistinct-push same_place_laws s.met.items c h.distinct (h.unmet c inside zero_here));
    }
      where
        one_not : ◌≡◌ {A = ℕ} 1 0 → ⊥
        one_not e = omega (arith, e)

        at_here : (d : Place) → InSheet d → same_place c d ≡ true → mark_at t.marks d ≡ 1
        at_here d i e = marks d i ∙ ap (λ b. cond b 1 (mark_at s.marks d)) e

        at_other : (d : Place) → InSheet d → same_place c d ≡ false → mark_at t.marks d ≡ mark_at s.marks d
        at_other d i e = marks d i ∙ ap (λ b. cond b 1 (mark_at s.marks d)) e

        met_in : (d : Place) → has same_place s.met.items d ≡ true → has same_place t.met.items d ≡ true
        met_in d m = ap (λ xs. has same_place xs d) met ∙ snoc_in s.met.items c d m

        met_is : (d : Place) → has same_place t.met.items d ≡ true
            → (has same_place s.met.items d ≡ true) ⊎ (same_place d c ≡ true)
        met_is d m = snoc_is s.met.items c d (sym (ap (λ xs. has same_place xs d) met) ∙ m)

        kept : (d : Place) → has same_place s.stack.items d ≡ true → has same_place t.stack.items d ≡ true
        kept d m =
            elim (old_stack d m) [ inl k ↦ (deep.members d).1 (inl k) | inr q ↦ (deep.members d).1 (inr (inl q)) ]

    -- a cell that was met is off the stack
    shortened : t.met.items ≡ s.met.items → t.stack.items ≡ rest → has same_place t.left.items c ≡ true
        → has same_place s.met.items c ≡ true
        → ((d : Place) → has same_place s.left.items d ≡ true → has same_place t.left.items d ≡ true)
        → ((d : Place) → has same_place t.left.items d ≡ true → has same_place s.met.items d ≡ true)
        → ((d : Place) → InSheet d → mark_at t.marks d ≡ 0 → has same_place s.met.items d ≡ false)
        → ((d : Place) → InSheet d → (mark_at t.marks d ≡ 0 → ⊥) → has same_place s.met.items d ≡ true)
        → ((d : Place) → InSheet d → (mark_at t.marks d ≡ 0 → ⊥) → (mark_at t.marks d ≡ 1 → ⊥)
        → has same_place t.left.items d ≡ true) → IsSearched g cells t
    shortened met stack here known more only unmet marked over = record {
      unmet = λ d i z. ap (λ xs. has same_place xs d) met ∙ unmet d i z;
      marked = λ d i n. met_in d (marked d i n);
      over = over;
      begun = λ d m. elim (h.begun d (met_is d m)) [
        | inl l ↦ inl (more d l)
        | inr w ↦ elim (old_stack d w) [
          | inl k ↦ inr (stack_in d k)
          | inr q ↦
              inl (subst (λ y. has same_place t.left.items y ≡ true) (sym (same_place_is d c q)) here)
        ]
      ];
      left = λ d m. met_in d (only d m);
      cells_in = λ d m. off d (h.cells_in d m);
      readers_in = λ x d m r. off d (h.readers_in x d (met_is x m) r);
      met = λ d m. h.met d (met_is d m);
      stacked = λ d m. h.stacked d (in_old d (sym (ap (λ xs. has same_place xs d) stack) ∙ m));
      distinct = subst (IsDistinct same_place) (sym met) h.distinct;
    }
      where
        met_in : (d : Place) → has same_place s.met.items d ≡ true → has same_place t.met.items d ≡ true
        met_in d m = ap (λ xs. has same_place xs d) met ∙ m

        met_is : (d : Place) → has same_place t.met.items d ≡ true → has same_place s.met.items d ≡ true
        met_is d m = sym (ap (λ xs. has same_place xs d) met) ∙ m

        stack_in : (d : Place) → has same_place rest d ≡ true → has same_place t.stack.items d ≡ true
        stack_in d m = ap (λ xs. has same_place xs d) stack ∙ m

        off : (d : Place) → (has same_place s.met.items d ≡ true) ⊎ (has same_place s.stack.items d ≡ true)
            → (has same_place t.met.items d ≡ true) ⊎ (has same_place t.stack.items d ≡ true)
        off d (inl m) = inl (met_in d m)
        off d (inr w) = elim (old_stack d w) [
          | inl k ↦ inr (stack_in d k)
          | inr q ↦ inl (met_in d (subst (λ y. has same_place s.met.items y ≡ true) (sym (same_place_is d c q)) known))
        ]

    -- a cell is left
    pub left_now : (mark_at s.marks c ≡ 0 → ⊥)
        → ((d : Place) → InSheet d → mark_at t.marks d ≡ cond (same_place c d) 2 (mark_at s.marks d))
        → t.met.items ≡ s.met.items → t.left.items ≡ s.left.items ++ c ∷ [] → t.stack.items ≡ rest
        → IsSearched g cells t
    left_now some marks met left stack = shortened met stack (last c (same_place_itself c)) known more only
        (λ d i z. elim (cases_Bool (same_place c d)) [
          | inl e ↦ absurd (two_not (sym (at_here d i e) ∙ z))
          | inr n ↦ h.unmet d i (sym (at_other d i n) ∙ z)
        ])
        (λ d i n. elim (cases_Bool (same_place c d)) [
          | inl e ↦ subst (λ y. has same_place s.met.items y ≡ true) (same_place_is c d e) known
          | inr k ↦ h.marked d i (λ z. n (at_other d i k ∙ z))
        ])
        (λ d i n k. elim (cases_Bool (same_place c d)) [
          | inl e ↦ last d (turned c d true e)
          | inr f ↦ more d (h.over d i (λ z. n (at_other d i f ∙ z)) (λ z. k (at_other d i f ∙ z)))
        ])
      where
        two_not : ◌≡◌ {A = ℕ} 2 0 → ⊥
        two_not e = omega (arith, e)

        known : has same_place s.met.items c ≡ true
        known = h.marked c inside some

        at_here : (d : Place) → InSheet d → same_place c d ≡ true → mark_at t.marks d ≡ 2
        at_here d i e = marks d i ∙ ap (λ b. cond b 2 (mark_at s.marks d)) e

        at_other : (d : Place) → InSheet d → same_place c d ≡ false → mark_at t.marks d ≡ mark_at s.marks d
        at_other d i e = marks d i ∙ ap (λ b. cond b 2 (mark_at s.marks d)) e

        last : (d : Place) → same_place d c ≡ true → has same_place t.left.items d ≡ true
        last d q = ap (λ xs. has same_place xs d) left ∙ snoc_last s.left.items c d q

        more : (d : Place) → has same_place s.left.items d ≡ true → has same_place t.left.items d ≡ true
        more d m = ap (λ xs. has same_place xs d) left ∙ snoc_in s.left.items c d m

        only : (d : Place) → has same_place t.left.items d ≡ true → has same_place s.met.items d ≡ true
        only d m = elim (snoc_is s.left.items c d (sym (ap (λ xs. has same_place xs d) left) ∙ m)) [
          | inl k ↦ h.left d k
          | inr q ↦ subst (λ y. has same_place s.met.items y ≡ true) (sym (same_place_is d c q)) known
        ]

    -- a cell that was left before is off the stack
    pub passed : (mark_at s.marks c ≡ 0 → ⊥) → (mark_at s.marks c ≡ 1 → ⊥) → t.marks ≡ s.marks
        → t.met.items ≡ s.met.items → t.left.items ≡ s.left.items → t.stack.items ≡ rest → IsSearched g cells t
    passed some gone marks met left stack =
        shortened met stack (ap (λ xs. has same_place xs c) left ∙ h.over c inside some gone) (h.marked c inside some)
        (λ d m. ap (λ xs. has same_place xs d) left ∙ m)
        (λ d m. h.left d (sym (ap (λ xs. has same_place xs d) left) ∙ m))
        (λ d i z. h.unmet d i (sym (ap (λ m. mark_at m d) marks) ∙ z))
        (λ d i n. h.marked d i (λ z. n (ap (λ m. mark_at m d) marks ∙ z)))
        (λ d i n k. ap (λ xs. has same_place xs d) left
        ∙ h.over d i (λ z. n (ap (λ m. mark_at m d) marks ∙ z)) (λ z. k (ap (λ m. mark_at m d) marks ∙ z)))

    -- a step that meets a new cell leaves less work, whatever it puts on the stack
    pub entered_less : IsSearched g cells t → t.met.items ≡ s.met.items ++ c ∷ [] → IsDeeper g c rest t.stack.items
        → work_left g cells t < work_left g cells s
    entered_less new met deep =
        let a = ap length met in
        let b = length-append s.met.items (c ∷ []) in
        let k = small g cells t.met.items new.distinct (λ d m. within_known (new.met d m)) in
        let l = deep.short in
        omega (arith, a, b, k, l)
      where
        within_known : {d : Place} → Within g cells d → has same_place (cells ++ all g) d ≡ true
        within_known {d} (seed m) = list_any-append (same_place d) cells (all g) ∙ or_left _ _ m
        within_known {d} (reader {c = e} w r) = list_any-append (same_place d) cells (all g)
            ∙ or_right (has same_place cells d) _ (reader_known g d e r)

  met_all : (s : Search) → IsSearched g cells s → s.stack.items ≡ [] → {c : Place} → Within g cells c
      → has same_place s.met.items c ≡ true
  met_all s h e {c} (seed m) =
      elim (h.cells_in c m) [ inl k ↦ k | inr w ↦ absurd (true≢false (sym w ∙ ap (λ xs. has same_place xs c) e)) ]
  met_all s h e {c} (reader {c = d} w r) = elim (h.readers_in d c (met_all s h e w) r)
      [ inl k ↦ k | inr w ↦ absurd (true≢false (sym w ∙ ap (λ xs. has same_place xs c) e)) ]

  -- with nothing on the stack, what was left is all that is within
  pub searched_all : (s : Search) → IsSearched g cells s → s.stack.items ≡ [] → (c : Place)
      → (has same_place s.left.items c ≡ true) ↔ Within g cells c
  searched_all s h e c = (
    (λ m. h.met c (h.left c m)),
    (λ w. elim (h.begun c (met_all s h e w))
        [ inl k ↦ k | inr m ↦ absurd (true≢false (sym m ∙ ap (λ xs. has same_place xs c) e)) ]),
  )
