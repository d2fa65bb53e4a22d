-- What blocks of cells write: copies of cells, values, and nothing.
use Rattle.std.specs.Prelude.{ℕ, List, map, Option, None, Some}
use Rattle.std.specs.List.{flat_map, zip}
use Rattle.grid_address.specs.Place.{Extent, Place}
use Rattle.grid_address.specs.declared.format.Format.{Format}
use Rattle.lics_text.specs.declared.prefix.LabelPrefix.TheVariants.{Left}
use Rattle.formula_tree.specs.Tree.{call, no_trees}
use Rattle.formula_tree.specs.declared.function.Function.TheVariants as function
use Rattle.formula_tree.specs.declared.value.Content.{Content}
use Rattle.formula_tree.specs.declared.value.Content.TheVariants as content
use Rattle.formula_tree.specs.declared.value.Value.{Value}
use Rattle.formula_tree.specs.declared.value.Value.TheVariants as value
use Rattle.formula_parts.specs.Outlook.{Sight}
use Rattle.sheet_store.specs.declared.writes.Write.{Write}
pub use Rattle.grid_address.specs.Lines.{at, columns_of, numbers_from, rows_below, rows_of}

-- the cells of some rows of a column, and of some columns of a row
abbrev pub down : ℕ → List ℕ → List Place
down col rows = map (λ row. at row col) rows

-- the cells of a row in these columns
abbrev pub across : ℕ → List ℕ → List Place
across row columns = map (λ col. at row col) columns

-- the cells of a span, column by column
abbrev pub by_columns : Extent → List Place
by_columns s = flat_map (λ col. down col (rows_of s)) (columns_of s)

-- a content for a cell that keeps its format
abbrev pub written : Place → Content → Write
written p c = record { cell = p; content = c; format = None }

-- a cell that is erased keeps its format
abbrev pub erased : Place → Write
erased p = written p content.Blank

-- a value as a content: a text is a label with ', ERR is @ERR and NA is @NA
abbrev pub as_content : Value → Content
as_content value.Blank = content.Blank
as_content (value.Num x) = content.Number x
as_content (value.Str t) = content.Label Left t
as_content value.Err = content.Formula (call function.Err no_trees)
as_content value.Na = content.Formula (call function.Na no_trees)

-- a cell of which nothing is kept is blank
abbrev pub content_or_blank : Option Content → Content
content_or_blank None = content.Blank
content_or_blank (Some c) = c

-- the format that a cell is seen with
abbrev pub format_at : Sight → Place → Format
format_at sight p = record { 0 = sight.formats p }

-- the content and the format of one cell, for another
abbrev pub copied : Sight → Place → Place → Write
copied sight from to =
    record { cell = to; content = content_or_blank (sight.contents from); format = Some (format_at sight from) }

-- the value and the format of one cell, for another
abbrev pub value_copied : Sight → Place → Place → Write
value_copied sight from to =
    record { cell = to; content = as_content (sight.values from); format = Some (format_at sight from) }

-- some columns of one row, for another row
abbrev pub row_copied : Sight → List ℕ → ℕ → ℕ → List Write
row_copied sight columns from to = map (λ col. copied sight (at from col) (at to col)) columns

-- rows, each for the row beside it
abbrev pub rows_copied : Sight → List ℕ → List ℕ → List ℕ → List Write
rows_copied sight columns froms tos = flat_map (λ p. row_copied sight columns p.0 p.1) (zip froms tos)
