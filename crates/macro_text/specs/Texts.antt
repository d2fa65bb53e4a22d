-- The text of a macro, and its parts.
use Rattle.std.specs.Prelude.{ℕ, List, take, drop, Option, Some, None}
use Rattle.formula_parts.specs.Outlook.{Sight}
use Rattle.formula_tree.specs.declared.value.Content.{Content}
use Rattle.formula_tree.specs.declared.value.Content.TheVariants as content
use Rattle.formula_tree.specs.declared.value.Value.{Value}
use Rattle.grid_address.specs.Place.{Place}
use Rattle.key_words.specs.declared.macro_word.Cut.{Cut}
use Rattle.value_functions.specs.Values.{text_in}

-- a label's text without its prefix, or the text that a formula has as its value; any other content ends the routine
abbrev pub text_held : Option Content → Value → Option (List ℕ)
text_held None v = None
text_held (Some content.Blank) v = None
text_held (Some (content.Number x)) v = None
text_held (Some (content.Label prefix text)) v = Some text
text_held (Some (content.Formula t)) v = text_in v

-- the text from which a macro is read in a cell, as the cell now stands
abbrev pub macro_text : Sight → Place → Option (List ℕ)
macro_text s c = text_held (s.contents c) (s.values c)

-- the bytes from one offset on up to another, as far as the text has them
abbrev pub part : List ℕ → Cut → List ℕ
part text c = drop c.from (take c.to text)
