-- What each column has of its own, after columns were inserted or deleted.
use Rattle.std.specs.Prelude.{ℕ, ◌+◌, List, ◌++◌, take, drop, replicate}
use Rattle.grid_address.specs.Limits.{COLUMNS}
use Rattle.ref_adjust.specs.declared.change.Change.{Change}
use Rattle.ref_adjust.specs.declared.change.Change.TheVariants.{InsertRows, InsertColumns, DeleteRows, DeleteColumns}
use Rattle.sheet_shifts.specs.declared.shift.Shift.{Shift}
use Rattle.sheet_shifts.specs.declared.shift.Shift.TheVariants.{Lines, Block}

-- the new columns have nothing of their own; the later ones move on, and what is pushed past the last one is lost
abbrev pub columns_inserted : {X : Type 0} → X → ℕ → ℕ → List X → List X
columns_inserted none first count xs = take COLUMNS (take first xs ++ (replicate count none ++ drop first xs))

-- the deleted columns take what they have along; the later ones move back, and the last ones have nothing of their own
abbrev pub columns_deleted : {X : Type 0} → X → ℕ → ℕ → List X → List X
columns_deleted none first count xs = take first xs ++ (drop (first + count) xs ++ replicate count none)

-- rows leave the columns as they are
abbrev pub columns_changed : {X : Type 0} → Change → X → List X → List X
columns_changed (InsertRows first count) none xs = xs
columns_changed (InsertColumns first count) none xs = columns_inserted none first count xs
columns_changed (DeleteRows first count) none xs = xs
columns_changed (DeleteColumns first count) none xs = columns_deleted none first count xs

-- and so does a move
abbrev pub columns_after : {X : Type 0} → Shift → X → List X → List X
columns_after (Lines change) none xs = columns_changed change none xs
columns_after (Block from to) none xs = xs
