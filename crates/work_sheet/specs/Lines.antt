-- What a line means that is entered as a label.
use Rattle.std.specs.Prelude.{ℕ, List, [], ◌∷◌, Option, None, Some}
use Rattle.formula_tree.specs.declared.value.Content.{Content}
use Rattle.formula_tree.specs.declared.value.Content.TheVariants as content
use Rattle.lics_text.specs.Prefixes.{prefix_of}
use Rattle.lics_text.specs.declared.prefix.LabelPrefix.{LabelPrefix}

-- by the prefix that the first byte is
abbrev pub label_with : Option LabelPrefix → LabelPrefix → ℕ → List ℕ → Content
label_with (Some own) prefix b bs = content.Label own bs
label_with None prefix b bs = content.Label prefix (b ∷ bs)

-- a label begins with its prefix, or takes the sheet's
abbrev pub label_content : LabelPrefix → List ℕ → Content
label_content prefix [] = content.Label prefix []
label_content prefix (b ∷ bs) = label_with (prefix_of b) prefix b bs
