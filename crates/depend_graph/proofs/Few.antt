-- Marks in a list, before there are so many that they stand in a table.
use Rattle.std.specs.Prelude.{ℕ, zero, suc, ◌≡◌, ◌<◌, ◌≤◌, ◌++◌, ◌||◌, Bool, true, false, cond, List, [], ◌∷◌}
use Rattle.std.specs.Prelude.{length, take, drop, set, get_or}
use Rattle.std.proofs.Common.{sym, ◌∙◌, ap, refl, arith, drop-cons}
use Rattle.std.proofs.lemmas.Bool.{true≢false}
use Rattle.grid_address.proofs.Places.{same_place_is}
use Rattle.grid_address.specs.Place.{same_place, Place}
use Rattle.depend_graph.specs.inner.Marked.{is_among, mark_among, StandsAt}
use Rattle.depend_graph.specs.declared.marks.Marked.{Marked}

-- from a place on, the item there stands before the rest
pub front : {A : Type 0} (xs : List A) (i n : ℕ) (x : A) → i ≡ suc n → i ≤ length xs → x ≡ get_or xs n x
    → drop n xs ≡ x ∷ drop i xs
front xs i n x e le is = drop-cons xs n x (let h = le in let k = e in omega (arith, h, k))
    ∙ ap (λ y. y ∷ drop (suc n) xs) (sym is) ∙ ap (λ k. x ∷ drop k xs) (sym e)

-- where neither is so
pub neither : (a b : Bool) → (a || b) ≡ false → (a ≡ false) × (b ≡ false)
neither false b h = (refl, h)
neither true b h = absurd (true≢false h)

over : (b : Bool) (m p q : ℕ) → (b ≡ false → p ≡ q) → cond b m p ≡ cond b m q
over true m p q h = refl
over false m p q h = h refl

swap : (a b : Bool) (p m q : ℕ) → (b ≡ true → a ≡ false) → cond a p (cond b m q) ≡ cond b m (cond a p q)
swap true true p m q h = absurd (true≢false (h refl))
swap true false p m q h = refl
swap false b p m q h = refl

-- a cell that isn't one has no mark that is another's
apart : (x c d : Place) → same_place x c ≡ false → same_place c d ≡ true → same_place x d ≡ false
apart x c d h t = ap (same_place x) (sym (same_place_is c d t)) ∙ h

-- beside a list the number counts that a cell has elsewhere
pub none_among : (xs : List Marked) (n : ℕ) (c : Place) → is_among xs c ≡ false → mark_among xs n c ≡ n
none_among [] n c h = refl
none_among (x ∷ xs) n c h =
    let k = neither (same_place x.cell c) (is_among xs c) h in
    ap (λ b. cond b x.mark (mark_among xs n c)) k.0 ∙ none_among xs n c k.1

-- the mark that stands there is the cell's
pub mark_here : (xs : List Marked) (i : ℕ) (c : Place) (x : Marked) (n : ℕ) → StandsAt xs i c → x ≡ get_or xs i x
    → mark_among xs n c ≡ x.mark
mark_here [] i c x n s is = absurd s
mark_here (y ∷ xs) zero c x n s is =
    ap (λ b. cond b y.mark (mark_among xs n c)) s ∙ ap (λ (z : Marked). z.mark) (sym is)
mark_here (y ∷ xs) (suc i) c x n s is =
    ap (λ b. cond b y.mark (mark_among xs n c)) s.0 ∙ mark_here xs i c x n s.1 is

-- where a cell is met that wasn't met before, its first mark stands
pub stands : (xs : List Marked) (i : ℕ) (x : Marked) (c : Place) → i < length xs
    → same_place (get_or xs i x).cell c ≡ true → is_among (take i xs) c ≡ false → StandsAt xs i c
stands [] i x c lt here before = absurd (omega (arith, lt))
stands (y ∷ xs) zero x c lt here before = here
stands (y ∷ xs) (suc i) x c lt here before =
    let k = neither (same_place y.cell c) (is_among (take i xs) c) before in
    (k.0, stands xs i x c (omega (arith, lt)) here k.1)

-- it stands within the list
pub stands_within : (xs : List Marked) (i : ℕ) (c : Place) → StandsAt xs i c → i < length xs
stands_within [] i c s = absurd s
stands_within (x ∷ xs) zero c s = omega arith
stands_within (x ∷ xs) (suc i) c s = let h = stands_within xs i c s.1 in omega (arith, h)

-- a cell gets another mark where its first one stands
pub put_here : (xs : List Marked) (i : ℕ) (c : Place) (m n : ℕ) (d : Place) → StandsAt xs i c
    → mark_among (set xs i (record { cell = c; mark = m })) n d ≡ cond (same_place c d) m (mark_among xs n d)
put_here [] i c m n d s = absurd s
put_here (x ∷ xs) zero c m n d s =
    over (same_place c d) m (mark_among xs n d) (cond (same_place x.cell d) x.mark (mark_among xs n d))
    (λ f. sym (ap (λ b. cond b x.mark (mark_among xs n d)) (ap (λ y. same_place y d) (same_place_is x.cell c s) ∙ f)))
put_here (x ∷ xs) (suc i) c m n d s = ap (cond (same_place x.cell d) x.mark) (put_here xs i c m n d s.1)
    ∙ swap (same_place x.cell d) (same_place c d) x.mark m (mark_among xs n d) (apart x.cell c d s.0)

-- a cell that isn't in the list gets its mark behind the others
pub put_last : (xs : List Marked) (c : Place) (m n : ℕ) (d : Place) → is_among xs c ≡ false
    → mark_among (xs ++ record { cell = c; mark = m } ∷ []) n d ≡ cond (same_place c d) m (mark_among xs n d)
put_last [] c m n d h = refl
put_last (x ∷ xs) c m n d h =
    let k = neither (same_place x.cell c) (is_among xs c) h in
    ap (cond (same_place x.cell d) x.mark) (put_last xs c m n d k.1)
    ∙ swap (same_place x.cell d) (same_place c d) x.mark m (mark_among xs n d) (apart x.cell c d k.0)
