-- Where two screens differ.
use Rattle.std.specs.Prelude.{◌≡◌, ⊤, ℕ, ◌+◌, Bool, true, false, ◌==◌, if◌then◌else◌, List, [], ◌∷◌, Option, Some, slice_get}

-- at how many places two lines differ
abbrev pub line_differences : List ℕ → List ℕ → ℕ
line_differences [] after = 0
line_differences (b ∷ before) [] = 0
line_differences (b ∷ before) (a ∷ after) = (if b == a then 0 else 1) + line_differences before after

-- in how many longest stretches two lines differ; the flag says whether they differ at the place before
abbrev pub runs_after : Bool → List ℕ → List ℕ → ℕ
runs_after inside [] after = 0
runs_after inside (b ∷ before) [] = 0
runs_after inside (b ∷ before) (a ∷ after) =
    if b == a then runs_after false before after else ((if inside then 0 else 1) + runs_after true before after)

-- in how many longest stretches two lines differ
abbrev pub line_runs : List ℕ → List ℕ → ℕ
line_runs before after = runs_after false before after

-- at how many places two screens differ
abbrev pub differences : List (List ℕ) → List (List ℕ) → ℕ
differences [] after = 0
differences (b ∷ before) [] = 0
differences (b ∷ before) (a ∷ after) = line_differences b a + differences before after

-- in how many longest stretches of one line two screens differ
abbrev pub changed_runs : List (List ℕ) → List (List ℕ) → ℕ
changed_runs [] after = 0
changed_runs (b ∷ before) [] = 0
changed_runs (b ∷ before) (a ∷ after) = line_runs b a + changed_runs before after

-- a line has the byte of `before` at each place at which `before` and `after` are equal
abbrev pub AgreesInLine : List ℕ → List ℕ → List ℕ → Type 0
AgreesInLine [] after line = ⊤
AgreesInLine (b ∷ before) [] line = ⊤
AgreesInLine (b ∷ before) (a ∷ after) [] = ⊤
AgreesInLine (b ∷ before) (a ∷ after) (x ∷ line) = (b ≡ a → x ≡ b) × AgreesInLine before after line

-- a screen agrees with `before` wherever `before` and `after` are equal
abbrev pub Agrees : List (List ℕ) → List (List ℕ) → List (List ℕ) → Type 0
Agrees [] after screen = ⊤
Agrees (b ∷ before) [] screen = ⊤
Agrees (b ∷ before) (a ∷ after) [] = ⊤
Agrees (b ∷ before) (a ∷ after) (x ∷ screen) = AgreesInLine b a x × Agrees before after screen

-- at each line that is not in the set of lines, two screens have the same line
abbrev pub Unchanged : List Bool → List (List ℕ) → List (List ℕ) → Type 0
Unchanged lines before after = (row : ℕ) → slice_get lines row ≡ Some false → slice_get before row ≡ slice_get after row

-- the last frame, where there is one, has all lines in common with the screen that are not in the set of lines
abbrev pub FrameUnchanged : List Bool → Option (List (List ℕ)) → List (List ℕ) → Type 0
FrameUnchanged lines last screen = (frame : List (List ℕ)) → last ≡ Some frame → Unchanged lines frame screen
