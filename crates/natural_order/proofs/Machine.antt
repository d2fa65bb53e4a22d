-- What the frames of the machine come to.
use Rattle.std.specs.Prelude.{ℕ, zero, suc, ◌≡◌, ◌-◌, ◌+◌, ◌≤◌, Bool, true, false, cond, ◌||◌, List, [], ◌∷◌, ◌++◌}
use Rattle.std.specs.Prelude.{length, drop, map}
use Rattle.std.specs.List.{fold, sum_by, IsDistinct, AllByRecursion}
use Rattle.std.specs.Option.{IsSome, option_to_list}
use Rattle.std.proofs.Common.{sym, ◌∙◌, ap, subst, refl, inl, inr, arith, get_or, ◌<◌, Option, Some, None}
use Rattle.std.proofs.lemmas.Bool.{true≢false, or_cases, or_left, or_right, or_from, false_from_ne_true}
use Rattle.std.proofs.lemmas.List.{length-map, map-append, length-append}
use Rattle.std.proofs.lemmas.List.Folds.{list_any-append}
use Rattle.std.proofs.lemmas.List.Sums.{sum_by-append, sum_by-cons, sum_by-le-sum_by}
use Rattle.std.proofs.Math.Seq.{drop-cons}
use Rattle.std.proofs.lemmas.Map.Made.{length-le_from_is_member}
use Rattle.std.proofs.Math.Bool.{or-false}
use Rattle.grid_address.specs.Place.{same_place, Place}
use Rattle.grid_address.proofs.Places.{same_place_is, same_place_itself, same_place_laws}
use Rattle.cell_maps.specs.Sets.{has}
use Rattle.natural_order.specs.Walk.{Walked, appended, raised, walk}
use Rattle.indexmap.specs.IndexSet.{insert_key}
use Rattle.natural_order.specs.Machine.{fuel}
use Rattle.natural_order.specs.inner.Stack.{left, walk_on, finish, trail, EachFrame, IsOnPath, work_left, Entered}
use Rattle.natural_order.specs.declared.walker.Frame.{Frame}

module _ (pre : Place → List Place) (n : ℕ) where
  -- the frame is done, over what its last walk made
  abbrev pub closing : List Place → Frame → Walked Place → Walked Place
  closing path g s = appended same_place g.cell (fold (walk_on pre n (g.cell ∷ path)) s (left g))

  -- the last frame is done first, and then those before it
  pub finish-snoc : (path : List Place) (fs : List Frame) (g : Frame) (s : Walked Place)
      → finish pre n path (fs ++ g ∷ []) s ≡ finish pre n path fs (closing (trail path fs) g s)
  finish-snoc path [] g s = refl
  finish-snoc path (f ∷ fs) g s =
      ap (λ t. appended same_place f.cell (fold (walk_on pre n (f.cell ∷ path)) t (left f)))
      (finish-snoc (f.cell ∷ path) fs g s)

  -- a cell on the path that isn't done is a circle, and nothing more is walked
  pub walk-path : (m : ℕ) (path : List Place) (s : Walked Place) (c : Place) → has same_place s.done c ≡ false
      → has same_place path c ≡ true → walk same_place pre (suc m) path s c ≡ raised same_place s
  walk-path m path s c h p = rw (h, p)

  -- a cell that is neither done nor on the path is done behind all that it reads
  pub walk-enter : (m : ℕ) (path : List Place) (s : Walked Place) (c : Place) → has same_place s.done c ≡ false
      → has same_place path c ≡ false
      → walk same_place pre (suc m) path s c ≡ appended same_place c (fold (walk same_place pre m (c ∷ path)) s (pre c))
  walk-enter m path s c h p = rw (h, p)

-- the last frame's cell stands first in the trail
pub trail-snoc : (path : List Place) (fs : List Frame) (g : Frame) → trail path (fs ++ g ∷ []) ≡ g.cell ∷ trail path fs
trail-snoc path [] g = refl
trail-snoc path (f ∷ fs) g = trail-snoc (f.cell ∷ path) fs g

-- a trail has as many cells as frames and the path together
pub length-trail : (path : List Place) (fs : List Frame) → length (trail path fs) ≡ length fs + length path
length-trail path [] = omega arith
length-trail path (f ∷ fs) = let h = length-trail (f.cell ∷ path) fs in omega arith

-- the cells of a trail are those of the frames and those of the path
pub has-trail : (path : List Place) (fs : List Frame) (c : Place)
    → has same_place (trail path fs) c ≡ (has same_place (map (λ (f : Frame). f.cell) fs) c || has same_place path c)
has-trail path [] c = refl
has-trail path (f ∷ fs) c =
    has-trail (f.cell ∷ path) fs c
    ∙ swap_or (same_place c f.cell) (has same_place (map (λ (f : Frame). f.cell) fs) c) (has same_place path c)
  where
    swap_or : (a b d : Bool) → (b || (a || d)) ≡ ((a || b) || d)
    swap_or true true d = refl
    swap_or true false d = refl
    swap_or false b d = refl

all_fit : (pre : Place → List Place) (all done path : List Place) (stack : List Frame)
    → IsOnPath pre all done path stack → length (trail [] stack) ≤ length all
all_fit pre all done path stack on =
    let h : length path ≤ length all = length-le_from_is_member same_place_laws path all on.distinct on.known in
    let e : length path ≡ length stack = ap length on.cells ∙ length-map stack (λ (f : Frame). f.cell) in
    let t = length-trail [] stack in
    omega arith

module _ (pre : Place → List Place) (all done path : List Place) (stack : List Frame)
    (on : IsOnPath pre all done path stack) where
  room : (fuel all) - length (trail [] stack) ≡ suc (length all - length (trail [] stack))
  room = let h = all_fit pre all done path stack on in omega arith

  on_trail : (c : Place) → has same_place (trail [] stack) c ≡ has same_place path c
  on_trail c = has-trail [] stack c ∙ or-false _ ∙ sym (ap (λ p. has same_place p c) on.cells)

  -- the walk of a cell on the path does no more than tell a circle
  pub visited_on_path : (circular : Bool) (c : Place) → has same_place done c ≡ false → has same_place path c ≡ true
      → finish pre (fuel all) [] stack (record { done = done; circular = true })
      ≡ finish pre (fuel all) [] stack
      (walk_on pre (fuel all) (trail [] stack) (record { done = done; circular = circular }) c)
  visited_on_path circular c d p =
      let s : Walked Place = record { done = done; circular = circular } in
      ap (finish pre (fuel all) [] stack) (sym (ap (λ m. walk same_place pre m (trail [] stack) s c) room
      ∙ walk-path pre (fuel all) (length all - length (trail [] stack)) (trail [] stack) s c d (on_trail c ∙ p)))

  closing_new : (s : Walked Place) (c : Place) (f : Frame) → has same_place s.done c ≡ false
      → has same_place path c ≡ false → f.cell ≡ c → left f ≡ pre c
      → closing pre (fuel all) (trail [] stack) f s ≡ walk_on pre (fuel all) (trail [] stack) s c
  closing_new s c f d p e l =
      let down : fuel all - length (c ∷ trail [] stack) ≡ length all - length (trail [] stack) = omega arith in
      ap (λ x. appended same_place x (fold (walk_on pre (fuel all) (x ∷ trail [] stack)) s (left f))) e
      ∙ ap (λ ds. appended same_place c (fold (walk_on pre (fuel all) (c ∷ trail [] stack)) s ds)) l
      ∙ ap (λ m. appended same_place c (fold (walk same_place pre m (c ∷ trail [] stack)) s (pre c))) down
      ∙ sym (ap (λ m. walk same_place pre m (trail [] stack) s c) room
      ∙ walk-enter pre (fuel all) (length all - length (trail [] stack)) (trail [] stack) s c d (on_trail c ∙ p))

  -- with the frame of a new cell, the frames come to what they do where the cell's walk is made first
  pub visited_new : (s : Walked Place) (c : Place) (new : List Frame) → has same_place s.done c ≡ false
      → has same_place path c ≡ false → Entered (pre c) c stack new
      → finish pre (fuel all) [] new s ≡ finish pre (fuel all) [] stack (walk_on pre (fuel all) (trail [] stack) s c)
  visited_new s c new d p e =
      ap (λ fs. finish pre (fuel all) [] fs s) e.pushed ∙ finish-snoc pre (fuel all) [] stack e.frame s
      ∙ ap (finish pre (fuel all) [] stack)
      (closing_new s c e.frame d p e.cell (ap (λ k. drop k e.frame.reads.items) e.begun
      ∙ drop-zero e.frame.reads.items ∙ e.items))
    where
      drop-zero : (xs : List Place) → drop 0 xs ≡ xs
      drop-zero xs = refl

  -- what a cell that was not met adds to the work
  abbrev fresh : List Place → List Place → Place → ℕ
  fresh ended trod c = cond (has same_place ended c || has same_place trod c) 0 (length (pre c) + 2)

  fresh-falls : (trod : List Place) (c x : Place) → trod ≡ path ++ c ∷ [] → fresh done trod x ≤ fresh done path x
  fresh-falls trod c x e =
      rw (e, list_any-append)
      (at_most (has same_place done x) (has same_place path x) (same_place x c) (length (pre x) + 2))
    where
      at_most : (a b d : Bool) (w : ℕ) → cond (a || (b || (d || false))) 0 w ≤ cond (a || b) 0 w
      at_most true b d w = omega arith
      at_most false true d w = omega arith
      at_most false false true w = omega arith
      at_most false false false w = omega arith

  fresh-gone : (trod : List Place) (c : Place) → trod ≡ path ++ c ∷ [] → fresh done trod c ≡ 0
  fresh-gone trod c e =
      rw (e, list_any-append, same_place_itself)
      (none (has same_place done c) (has same_place path c) (length (pre c) + 2))
    where
      none : (a b : Bool) (w : ℕ) → cond (a || (b || (true || false))) 0 w ≡ 0
      none true b w = refl
      none false true w = refl
      none false false w = refl

  fresh-was : (c : Place) → has same_place done c ≡ false → has same_place path c ≡ false
      → fresh done path c ≡ length (pre c) + 2
  fresh-was c d p = rw (d, p)

  sum_falls : (f g : Place → ℕ) (w : ℕ) (c : Place) (xs : List Place) → ((x : Place) → g x ≤ f x) → g c + w ≤ f c
      → has same_place xs c ≡ true → sum_by g xs + w ≤ sum_by f xs
  sum_falls f g w c [] le h m = absurd (true≢false (sym m))
  sum_falls f g w c (x ∷ xs) le h m =
      let a = sum_by-cons f x xs in
      let b = sum_by-cons g x xs in
      let all_le = sum_by-le-sum_by g f xs le in
      let here = le x in
      elim (or_cases (same_place c x) (has same_place xs c) m) [
        | inl e ↦ let k : g x + w ≤ f x = subst (λ y. g y + w ≤ f y) (same_place_is c x e) h in omega arith
        | inr i ↦ let k : sum_by g xs + w ≤ sum_by f xs = sum_falls f g w c xs le h i in omega arith
      ]

  -- a new cell's frame is no more work than the cell was before it was met
  pub visited_less : (c : Place) (trod : List Place) (new : List Frame) → has same_place all c ≡ true
      → has same_place done c ≡ false → has same_place path c ≡ false
      → trod ≡ path ++ c ∷ [] → Entered (pre c) c stack new
      → work_left pre all done trod new ≤ work_left pre all done path stack
  visited_less c trod new k d p e enters =
      let gone = fresh-gone trod c e in
      let was = fresh-was c d p in
      let falls : sum_by (fresh done trod) all + (length (pre c) + 2) ≤ sum_by (fresh done path) all =
      sum_falls (fresh done path) (fresh done trod) (length (pre c) + 2) c all (λ x. fresh-falls trod c x e)
      (omega arith) k in
      let frames : sum_by (λ (f : Frame). length (left f) + 1) new
      ≡ sum_by (λ (f : Frame). length (left f) + 1) stack + (length (pre c) + 1) =
      ap (sum_by (λ (f : Frame). length (left f) + 1)) enters.pushed
      ∙ sum_by-append (λ (f : Frame). length (left f) + 1) stack (enters.frame ∷ [])
      ∙ ap (λ n. sum_by (λ (f : Frame). length (left f) + 1) stack + n)
      (last enters.frame (ap (λ k. drop k enters.frame.reads.items) enters.begun ∙ enters.items)) in
      omega arith
    where
      last : (f : Frame) → left f ≡ pre c → sum_by (λ (f : Frame). length (left f) + 1) (f ∷ []) ≡ length (pre c) + 1
      last f e = ap (λ ds. 0 + (length ds + 1)) e ∙ omega arith

-- the first part of a list that ends with one more
pub snoc_front : {A : Type 0} (xs ys : List A) (x y : A) → xs ++ x ∷ [] ≡ ys ++ y ∷ [] → xs ≡ ys
snoc_front [] [] x y e = refl
snoc_front [] (b ∷ ys) x y e =
    let h : length (x ∷ []) ≡ length (b ∷ (ys ++ y ∷ [])) = ap length e in
    let k = length-append ys (y ∷ []) in absurd (omega arith)
snoc_front (a ∷ xs) [] x y e =
    let h : length (a ∷ (xs ++ x ∷ [])) ≡ length (y ∷ []) = ap length e in
    let k = length-append xs (x ∷ []) in absurd (omega arith)
snoc_front (a ∷ xs) (b ∷ ys) x y e =
    let t : xs ++ x ∷ [] ≡ ys ++ y ∷ [] = cc in
    let h : a ≡ b = cc in
    let r : xs ≡ ys = snoc_front xs ys x y t in
    cc

last_of : (P : Place → Type 0) (xs : List Place) (x : Place) → AllByRecursion P (xs ++ x ∷ []) → P x
last_of P [] x h = h.0
last_of P (y ∷ ys) x h = last_of P ys x h.1

firsts_of : (P : Place → Type 0) (xs : List Place) (x : Place) → AllByRecursion P (xs ++ x ∷ []) → AllByRecursion P xs
firsts_of P [] x h = tt
firsts_of P (y ∷ ys) x h = (h.0, firsts_of P ys x h.1)

last_new : (front : List Place) (x : Place) → IsDistinct same_place (front ++ x ∷ []) → has same_place front x ≡ false
unfolding IsDistinct
last_new [] x h = refl
last_new (y ∷ ys) x h =
    or_from _ _ (same_place_laws.symm x y ∙ last_of (λ z. same_place y z ≡ false) ys x h.0) (last_new ys x h.1)

IsDistinct-front : (front : List Place) (x : Place) → IsDistinct same_place (front ++ x ∷ [])
    → IsDistinct same_place front
unfolding IsDistinct
IsDistinct-front [] x h = tt
IsDistinct-front (y ∷ ys) x h = (firsts_of (λ z. same_place y z ≡ false) ys x h.0, IsDistinct-front ys x h.1)

EachFrame-split : (P : Frame → Type 0) (fs : List Frame) (g : Frame) → EachFrame P (fs ++ g ∷ []) → EachFrame P fs × P g
EachFrame-split P [] g h = (tt, h.0)
EachFrame-split P (f ∷ fs) g h = let r = EachFrame-split P fs g h.1 in ((h.0, r.0), r.1)

EachFrame-push : (P : Frame → Type 0) (fs : List Frame) (g : Frame) → EachFrame P fs → P g → EachFrame P (fs ++ g ∷ [])
EachFrame-push P [] g h k = (k, tt)
EachFrame-push P (f ∷ fs) g h k = (h.0, EachFrame-push P fs g h.1 k)

-- the frame behind its next read
abbrev pub advanced : Frame → Frame
advanced f = record f { next = f.next + 1 }

-- what is left of a frame is its next read, and what is left behind that
pub left-advanced : (f : Frame) (d : Place) → f.next < length f.reads.items
    → left f ≡ get_or f.reads.items f.next d ∷ left (advanced f)
left-advanced f d h =
    drop-cons f.reads.items f.next d h
    ∙ (let e : suc f.next ≡ f.next + 1 = omega arith in
    ap (λ k. get_or f.reads.items f.next d ∷ drop k f.reads.items) e)

module _ (pre : Place → List Place) (all done path : List Place) (rest : List Frame) (f : Frame)
    (on : IsOnPath pre all done path (rest ++ f ∷ [])) where
  -- the frames are still those of the path where the last one is past a read
  pub on-advanced : IsOnPath pre all done path (rest ++ advanced f ∷ [])
  on-advanced =
      let r = EachFrame-split (λ g. g.reads.items ≡ pre g.cell) rest f on.reads in
      record {
        cells =
            on.cells ∙ map-append (λ (g : Frame). g.cell) rest (f ∷ [])
            ∙ sym (map-append (λ (g : Frame). g.cell) rest (advanced f ∷ []));
        known = on.known;
        reads = EachFrame-push (λ g. g.reads.items ≡ pre g.cell) rest (advanced f) r.0 r.1;
        apart = on.apart;
        distinct = on.distinct;
      }

  -- the last frame reads what its cell reads
  pub reads-last : f.reads.items ≡ pre f.cell
  reads-last = (EachFrame-split (λ g. g.reads.items ≡ pre g.cell) rest f on.reads).1

  -- the frames come to what they do where the walk of the last one's next read is made first
  pub finish-advanced : (s : Walked Place) (d : Place) → left f ≡ d ∷ left (advanced f)
      → finish pre (fuel all) [] (rest ++ f ∷ []) s
      ≡ finish pre (fuel all) [] (rest ++ advanced f ∷ [])
      (walk_on pre (fuel all) (trail [] (rest ++ advanced f ∷ [])) s d)
  finish-advanced s d e =
      finish-snoc pre (fuel all) [] rest f s
      ∙ ap (λ ds. finish pre (fuel all) [] rest
      (appended same_place f.cell (fold (walk_on pre (fuel all) (f.cell ∷ trail [] rest)) s ds))) e
      ∙ ap (λ p. finish pre (fuel all) [] rest (appended same_place f.cell (fold (walk_on pre (fuel all)
      (f.cell ∷ trail [] rest)) (walk_on pre (fuel all) p s d) (left (advanced f)))))
      (sym (trail-snoc [] rest (advanced f)))
      ∙ sym (finish-snoc pre (fuel all) [] rest (advanced f)
      (walk_on pre (fuel all) (trail [] (rest ++ advanced f ∷ [])) s d))

  -- where nothing is left of the last frame, its cell is done, and then the frames before it are
  pub finish-closed : (s : Walked Place) → left f ≡ []
      → finish pre (fuel all) [] (rest ++ f ∷ []) s ≡ finish pre (fuel all) [] rest (appended same_place f.cell s)
  finish-closed s e = finish-snoc pre (fuel all) [] rest f s
      ∙ ap (λ ds. finish pre (fuel all) [] rest
      (appended same_place f.cell (fold (walk_on pre (fuel all) (f.cell ∷ trail [] rest)) s ds))) e

  -- the cell that was taken off the path's end is the last frame's
  pub path-front : (front : List Place) (r : Option Place) → path ≡ front ++ option_to_list r → IsSome r
      → path ≡ front ++ f.cell ∷ []
  path-front front None e h = absurd (true≢false (sym h))
  path-front front (Some c) e h =
      let was : path ≡ map (λ (g : Frame). g.cell) rest ++ f.cell ∷ [] =
      on.cells ∙ map-append (λ (g : Frame). g.cell) rest (f ∷ []) in
      let same : front ≡ map (λ (g : Frame). g.cell) rest =
      snoc_front front (map (λ (g : Frame). g.cell) rest) c f.cell (sym e ∙ was) in
      was ∙ ap (λ cs. cs ++ f.cell ∷ []) (sym same)

  -- the last frame's cell isn't done
  pub last-apart : (front : List Place) → path ≡ front ++ f.cell ∷ [] → has same_place done f.cell ≡ false
  last-apart front e =
      on.apart f.cell (ap (λ p. has same_place p f.cell) e ∙ list_any-append (same_place f.cell) front (f.cell ∷ [])
      ∙ or_right _ _ (or_left _ _ (same_place_itself f.cell)))

  -- with the last frame's cell done, less work is left
  pub closed_less : (front : List Place) → path ≡ front ++ f.cell ∷ [] → left f ≡ []
      → work_left pre all (done ++ f.cell ∷ []) front rest < work_left pre all done path (rest ++ f ∷ [])
  closed_less front e l =
      let frames : sum_by (λ (g : Frame). length (left g) + 1) (rest ++ f ∷ [])
      ≡ sum_by (λ (g : Frame). length (left g) + 1) rest + (0 + (length (left f) + 1)) =
      sum_by-append (λ (g : Frame). length (left g) + 1) rest (f ∷ []) in
      let cells : sum_by
      (λ x. cond (has same_place (done ++ f.cell ∷ []) x || has same_place front x) 0 (length (pre x) + 2)) all
      ≤ sum_by (λ x. cond (has same_place done x || has same_place path x) 0 (length (pre x) + 2)) all =
      sum_by-le-sum_by _ _ all (λ x. rw (e, list_any-append, list_any-append) (at_most (has same_place done x)
      (has same_place front x) (same_place x f.cell) (length (pre x) + 2))) in
      omega arith
    where
      at_most : (a b d : Bool) (w : ℕ) → cond ((a || (d || false)) || b) 0 w ≤ cond (a || (b || (d || false))) 0 w
      at_most true b d w = omega arith
      at_most false b true w = omega arith
      at_most false true false w = omega arith
      at_most false false false w = omega arith

  -- the frames before the last are those of the path before its cell
  pub on-closed : (front : List Place) → path ≡ front ++ f.cell ∷ [] → IsOnPath pre all (done ++ f.cell ∷ []) front rest
  on-closed front e =
      let apart : IsDistinct same_place (front ++ f.cell ∷ []) = subst (IsDistinct same_place) e on.distinct in
      let within : (c : Place) → has same_place front c ≡ true → has same_place path c ≡ true =
      λ c m. ap (λ p. has same_place p c) e ∙ list_any-append (same_place c) front (f.cell ∷ []) ∙ or_left _ _ m in
      record {
        cells =
            snoc_front front (map (λ (g : Frame). g.cell) rest) f.cell f.cell
            (sym e ∙ on.cells ∙ map-append (λ (g : Frame). g.cell) rest (f ∷ []));
        known = λ c m. on.known c (within c m);
        reads = (EachFrame-split (λ g. g.reads.items ≡ pre g.cell) rest f on.reads).0;
        apart = λ c m. list_any-append (same_place c) done (f.cell ∷ []) ∙ or_from _ _ (on.apart c (within c m))
            (or_from _ _
            (false_from_ne_true (same_place c f.cell)
            (λ s. true≢false (sym (subst (λ x. has same_place front x ≡ true) (same_place_is c f.cell s) m)
            ∙ last_new front f.cell apart))) refl);
        distinct = IsDistinct-front front f.cell apart;
      }

-- a list has what stands at one of its places
pub has_at : (xs : List Place) (i : ℕ) (d : Place) → i < length xs → d ≡ get_or xs i d → has same_place xs d ≡ true
has_at [] i d h e = absurd (omega arith)
has_at (x ∷ xs) zero d h e = or_left _ _ (ap (same_place d) (sym e) ∙ same_place_itself d)
has_at (x ∷ xs) (suc i) d h e = or_right _ _ (has_at xs i d (omega arith) e)

-- no frame is without a cell on the path, so one is taken off its end, the last frame's
pub path-last : (pre : Place → List Place) (all done path : List Place) (rest : List Frame) (f : Frame)
    → IsOnPath pre all done path (rest ++ f ∷ []) → (front : List Place) (r : Option Place)
    → path ≡ front ++ option_to_list r → (0 < length path → IsSome r) → path ≡ front ++ f.cell ∷ []
path-last pre all done path rest f on front r e h =
    let long : length path ≡ length rest + 1 =
    ap length on.cells ∙ length-map (rest ++ f ∷ []) (λ (g : Frame). g.cell) ∙ length-append rest (f ∷ []) in
    path-front pre all done path rest f on front r e (h (omega arith))

-- a cell that isn't done goes behind those that are
pub inserted_new : (done : List Place) (c : Place) → has same_place done c ≡ false
    → insert_key same_place done c ≡ done ++ c ∷ []
inserted_new done c h = rw h

-- an empty stack holds the empty path
pub on-begun : (pre : Place → List Place) (all done path : List Place) (stack : List Frame) → path ≡ [] → stack ≡ []
    → IsOnPath pre all done path stack
unfolding IsDistinct
on-begun pre all done path stack p s =
    subst (λ ps. IsOnPath pre all done ps stack) (sym p) (subst (IsOnPath pre all done []) (sym s) (record {
      cells = refl;
      known = λ c m. absurd (true≢false (sym m));
      reads = tt;
      apart = λ c m. absurd (true≢false (sym m));
      distinct = tt;
    }))

-- before any frame is begun, the walk that goes on at a root is the walk of the root
pub begun_walk : (pre : Place → List Place) (n : ℕ) (fs : List Frame) (s : Walked Place) (c : Place) → fs ≡ []
    → finish pre n [] fs (walk_on pre n (trail [] fs) s c) ≡ walk same_place pre n [] s c
begun_walk pre n fs s c e =
    let all_left : n - 0 ≡ n = omega arith in
    ap (λ gs. finish pre n [] gs (walk_on pre n (trail [] gs) s c)) e ∙ ap (λ k. walk same_place pre k [] s c) all_left

-- the walks of the roots from a place on begin with that of the root there
pub walked_more : (f : Walked Place → Place → Walked Place) (s : Walked Place) (roots : List Place) (i : ℕ) (x : Place)
    → i < length roots → x ≡ get_or roots i x → fold f (f s x) (drop (i + 1) roots) ≡ fold f s (drop i roots)
walked_more f s roots i x lt is =
    let e : i + 1 ≡ suc i = omega arith in
    ap (λ k. fold f (f s x) (drop k roots)) e ∙ ap (λ y. fold f (f s y) (drop (suc i) roots)) is
    ∙ sym (ap (fold f s) (drop-cons roots i x lt))

-- a frame with one read less to walk is less work
pub advanced_less : (pre : Place → List Place) (all done path : List Place) (rest : List Frame) (f : Frame)
    → f.next < length f.reads.items
    → work_left pre all done path (rest ++ advanced f ∷ []) < work_left pre all done path (rest ++ f ∷ [])
advanced_less pre all done path rest f lt =
    let new : sum_by (λ (g : Frame). length (left g) + 1) (rest ++ advanced f ∷ [])
    ≡ sum_by (λ (g : Frame). length (left g) + 1) rest + (0 + (length (left (advanced f)) + 1)) =
    sum_by-append (λ (g : Frame). length (left g) + 1) rest (advanced f ∷ []) in
    let old : sum_by (λ (g : Frame). length (left g) + 1) (rest ++ f ∷ [])
    ≡ sum_by (λ (g : Frame). length (left g) + 1) rest + (0 + (length (left f) + 1)) =
    sum_by-append (λ (g : Frame). length (left g) + 1) rest (f ∷ []) in
    let one : length (left f) ≡ suc (length (left (advanced f))) = ap length (left-advanced f f.cell lt) in
    omega arith
