-- What a shelf holds, and what its calls tell.
use Rattle.std.specs.Prelude.{◌≡◌, ◌≤◌, ℕ, Bool, List, [], ◌∷◌, ◌++◌, Option, Some, None, Result, Ok, Err, is_some}
use Rattle.std.specs.Ordering.{nat_cmp}
use Rattle.std.specs.declared.cmp.Ordering.{Ordering}
use Rattle.std.specs.Cmp.Lexicographic.{slice_cmp}
use Rattle.std.specs.FinMap as map
use Rattle.std.specs.FinMap.{FinMap}
use Rattle.outside_world.specs.Causes.{Rose}
use Rattle.outside_world.specs.declared.faults.ShelfFault.{ShelfFault}
use Rattle.outside_world.specs.declared.faults.ShelfFault.TheVariants.{Failed, Memory}

-- byte order
abbrev pub file_cmp : List ℕ → List ℕ → Ordering
file_cmp = slice_cmp nat_cmp

-- the bytes of each file, by its name
abbrev pub Files : Type 0
Files = FinMap file_cmp (List ℕ)

-- what a call of a shelf answered: it was done, or it failed and this is what its file then holds
pub data ShelfAnswer : Type 0 where
  done : ShelfAnswer
  failed : Option (List ℕ) → ShelfAnswer

-- the files, and the answers of the calls so far
pub record OnShelf : Type 0 where
  pub files : Files
  pub answers : List ShelfAnswer

-- a shelf as it is seen: what its files hold, and what its calls answered
abbrev pub on_shelf : Files → List ShelfAnswer → OnShelf
on_shelf files answers = record { files = files; answers = answers }

-- what the file of a name holds; none where there is no such file
abbrev pub file_in : List ℕ → Files → Option (List ℕ)
file_in name files = map.get files name

-- whether there is a file of a name
abbrev pub has_file : List ℕ → Files → Bool
has_file name files = is_some (file_in name files)

-- the file holds these bytes, or is gone
abbrev pub held_as : List ℕ → Option (List ℕ) → Files → Files
held_as name None files = map.remove files name
held_as name (Some bytes) files = map.insert files name bytes

-- a shelf with what a name's file holds replaced, or with the file removed
abbrev pub holding : List ℕ → Option (List ℕ) → OnShelf → OnShelf
holding name held s = on_shelf (held_as name held s.files) s.answers

-- one more answer
abbrev pub answered : ShelfAnswer → OnShelf → OnShelf
answered answer s = on_shelf s.files (s.answers ++ answer ∷ [])

-- A call that changes no file gives what the files tell. Of a shelf that tells nothing nothing is said.
abbrev pub HasRead : {A : Type 0} → (Files → A) → List ℕ → Option OnShelf → Option OnShelf → Result A ShelfFault
    → Type 0
HasRead told name None after result = after ≡ None
HasRead told name (Some s) after (Ok value) = (value ≡ told s.files) × (after ≡ Some (answered done s))
HasRead told name (Some s) after (Err Failed) = after ≡ Some (answered (failed (file_in name s.files)) s)
HasRead told name (Some s) after (Err Memory) = after ≡ Some s

-- A put writes the file; one that fails leaves something of that name, or nothing.
abbrev pub HasPut : List ℕ → List ℕ → Option OnShelf → Option OnShelf → Result Unit ShelfFault → Type 0
HasPut name bytes None after result = after ≡ None
HasPut name bytes (Some s) after (Ok _) = after ≡ Some (answered done (holding name (Some bytes) s))
HasPut name bytes (Some s) after (Err Failed) =
    (held : Option (List ℕ)) × (after ≡ Some (answered (failed held) (holding name held s)))
HasPut name bytes (Some s) after (Err Memory) = (held : Option (List ℕ)) × (after ≡ Some (holding name held s))

-- A call takes a file away and tells whether it was there; one that fails changes no file.
abbrev pub HasRemoved : List ℕ → Option OnShelf → Option OnShelf → Result Bool ShelfFault → Type 0
HasRemoved name None after result = after ≡ None
HasRemoved name (Some s) after (Ok there) =
    (there ≡ has_file name s.files) × (after ≡ Some (answered done (holding name None s)))
HasRemoved name (Some s) after (Err Failed) = after ≡ Some (answered (failed (file_in name s.files)) s)
HasRemoved name (Some s) after (Err Memory) = after ≡ Some s

-- the count of faults rose where the call answered that it failed, and stands elsewhere
abbrev pub HasCause : {A : Type 0} → ℕ → ℕ → Result A ShelfFault → Type 0
HasCause before now (Ok value) = now ≡ before
HasCause before now (Err Failed) = (before ≤ now) × Rose before now
HasCause before now (Err Memory) = now ≡ before
