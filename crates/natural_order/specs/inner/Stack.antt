-- The stack of the machine that walks with a list.
use Rattle.std.specs.Prelude.{ℕ, ◌≡◌, ◌-◌, ◌+◌, true, false, cond, ◌||◌, List, [], ◌∷◌, ◌++◌, length, drop, map}
use Rattle.std.specs.List.{fold, sum_by, IsDistinct}
use Rattle.grid_address.specs.Place.{same_place, Place}
use Rattle.cell_maps.specs.Sets.{has}
use Rattle.natural_order.specs.Walk.{Walked, appended, walk}
use Rattle.natural_order.specs.declared.walker.Frame.{Frame}
use Rattle.natural_order.specs.Machine.{walked}

-- the cells still to be walked for a frame
abbrev pub left : Frame → List Place
left f = drop f.next f.reads.items

-- a walk that goes on at a cell behind a path, with as many steps less as the path has cells
abbrev pub walk_on : (Place → List Place) → ℕ → List Place → Walked Place → Place → Walked Place
walk_on pre n path = walk same_place pre (n - length path) path

-- what comes of the walks that the frames have begun, the outermost first
abbrev pub finish : (Place → List Place) → ℕ → List Place → List Frame → Walked Place → Walked Place
finish pre n path [] s = s
finish pre n path (f ∷ fs) s =
    appended same_place f.cell (fold (walk_on pre n (f.cell ∷ path)) (finish pre n (f.cell ∷ path) fs s) (left f))

-- each frame of the stack has a property
abbrev pub EachFrame : (Frame → Type 0) → List Frame → Type 0
EachFrame P [] = Unit {0}
EachFrame P (f ∷ fs) = P f × EachFrame P fs

-- the cells of the frames, the innermost first, and then the path
abbrev pub trail : List Place → List Frame → List Place
trail path [] = path
trail path (f ∷ fs) = trail (f.cell ∷ path) fs

-- the stack holds the path: its cells and what each reads; none of them is done yet, and none stands there twice
pub record IsOnPath (pre : Place → List Place) (all done path : List Place) (stack : List Frame) : Type 0 where
  pub cells : path ≡ map (λ (f : Frame). f.cell) stack
  pub known : (c : Place) → has same_place path c ≡ true → has same_place all c ≡ true
  pub reads : EachFrame (λ f. f.reads.items ≡ pre f.cell) stack
  pub apart : (c : Place) → has same_place path c ≡ true → has same_place done c ≡ false
  pub distinct : IsDistinct same_place path

-- the work that is left: of the cells that were not met, and of the frames
abbrev pub work_left : (Place → List Place) → List Place → List Place → List Place → List Frame → ℕ
work_left pre all done path stack =
    sum_by (λ c. cond (has same_place done c || has same_place path c) 0 (length (pre c) + 2)) all
    + sum_by (λ f. length (left f) + 1) stack

-- a frame for the cell, with all that it reads left, was put on the stack
pub record Entered (reads : List Place) (c : Place) (old new : List Frame) : Type 0 where
  pub frame : Frame
  pub pushed : new ≡ old ++ frame ∷ []
  pub cell : frame.cell ≡ c
  pub items : frame.reads.items ≡ reads
  pub begun : frame.next ≡ 0
