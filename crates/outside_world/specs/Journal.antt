-- What a list of happenings on a shelf, the newest first, tells of it.
use Rattle.std.specs.Prelude.{List, [], ◌∷◌, ◌++◌, Some, None}
use Rattle.std.specs.FinMap as map
use Rattle.outside_world.specs.Shelf.{Files, OnShelf, ShelfAnswer, done, failed, held_as, on_shelf}
use Rattle.outside_world.specs.declared.map_shelf.Entry.{Entry}
use Rattle.outside_world.specs.declared.map_shelf.Entry.TheVariants as it

-- the files that a shelf holds behind the calls of its journal, of which the last stands in front
abbrev pub files_of : List Entry → Files
files_of [] = map.empty
files_of (it.Added name bytes ∷ before) = held_as name (Some bytes) (files_of before)
files_of (it.Asked ∷ before) = files_of before
files_of (it.Put name bytes ∷ before) = held_as name (Some bytes) (files_of before)
files_of (it.Removed name ∷ before) = held_as name None (files_of before)
files_of (it.Failed held ∷ before) = files_of before

-- what the calls of a journal answered, in the order of the calls
abbrev pub answers_of : List Entry → List ShelfAnswer
answers_of [] = []
answers_of (it.Added name bytes ∷ before) = answers_of before
answers_of (it.Asked ∷ before) = answers_of before ++ done ∷ []
answers_of (it.Put name bytes ∷ before) = answers_of before ++ done ∷ []
answers_of (it.Removed name ∷ before) = answers_of before ++ done ∷ []
answers_of (it.Failed held ∷ before) = answers_of before ++ failed held ∷ []

-- the shelf that a journal tells of: its files, and what its calls answered
abbrev pub told_by : List Entry → OnShelf
told_by journal = on_shelf (files_of journal) (answers_of journal)
