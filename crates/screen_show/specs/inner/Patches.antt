-- What a screen is while lines are sent.
use Rattle.std.specs.Prelude.{ℕ, suc, ◌==◌, if◌then◌else◌, List, [], ◌∷◌}

-- a line after the bytes of `after` were put where `before` and `after` differ
abbrev pub patched_line : List ℕ → List ℕ → List ℕ → List ℕ
patched_line [] after line = []
patched_line (b ∷ before) [] line = []
patched_line (b ∷ before) (a ∷ after) [] = []
patched_line (b ∷ before) (a ∷ after) (x ∷ line) = (if b == a then x else a) ∷ patched_line before after line

-- a screen after the bytes of `after` were put where `before` and `after` differ
abbrev pub patched : List (List ℕ) → List (List ℕ) → List (List ℕ) → List (List ℕ)
patched [] after screen = []
patched (b ∷ before) [] screen = []
patched (b ∷ before) (a ∷ after) [] = []
patched (b ∷ before) (a ∷ after) (x ∷ screen) = patched_line b a x ∷ patched before after screen

-- how far two lines differ from their beginning on
abbrev pub differing_front : List ℕ → List ℕ → ℕ
differing_front [] after = 0
differing_front (b ∷ before) [] = 0
differing_front (b ∷ before) (a ∷ after) = if b == a then 0 else suc (differing_front before after)
