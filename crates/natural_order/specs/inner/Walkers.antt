-- What a walker has come to.
use Rattle.std.specs.Prelude.{ℕ, List, []}
use Rattle.grid_address.specs.Place.{Place}
use Rattle.natural_order.specs.Machine.{fuel, walked}
use Rattle.natural_order.specs.Walk.{Walked}
use Rattle.natural_order.specs.inner.Stack.{finish, work_left, IsOnPath}
use Rattle.natural_order.specs.declared.walker.Walker.{Walker}

-- its stack holds its path
abbrev pub IsWalking : (Place → List Place) → List Place → Walker → Type 0
IsWalking pre all w = IsOnPath pre all w.done.keys w.path.keys w.stack.items

-- what comes of its walks
abbrev pub outcome : (Place → List Place) → List Place → Walker → Walked Place
outcome pre all w = finish pre (fuel all) [] w.stack.items (walked w.done w.circular)

-- the work that it has left
abbrev pub work_of : (Place → List Place) → List Place → Walker → ℕ
work_of pre all w = work_left pre all w.done.keys w.path.keys w.stack.items
