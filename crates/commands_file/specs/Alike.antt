-- Shelves whose files are the same.
use Rattle.std.specs.Prelude.{◌≡◌, Some}
use Rattle.commands_file.specs.Calls.{ShelfView}
use Rattle.outside_world.specs.Shelf.{OnShelf}

-- both shelves tell what their files hold, and it is the same
pub record HoldAlike (a b : ShelfView) : Type 0 where
  pub one : OnShelf
  pub other : OnShelf
  pub one_told : a.told ≡ Some one
  pub other_told : b.told ≡ Some other
  pub files : one.files ≡ other.files
