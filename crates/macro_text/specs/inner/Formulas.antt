-- The formulas that are kept of arguments.
use Rattle.std.specs.Prelude.{ℕ, [], get_or, List}
use Rattle.std.specs.List.{All}
use Rattle.macro_text.specs.declared.arguments.PlacedFormula.{PlacedFormula}
use Rattle.macro_text.specs.Read.{IsRead}

-- each is the formula that the text at its place spells in its cell
abbrev pub AreReadOf : List (List ℕ) → List PlacedFormula → Type 0
AreReadOf texts formulas = All (λ (f : PlacedFormula). IsRead f.cell (get_or texts f.place []) f.formula) formulas
