-- Names of files: 1 to 8 bytes of A to Z, 0 to 9, `_` and `-`, and an extension.
use Rattle.std.specs.Prelude.{◌≡◌, ℕ, ◌-◌, ◌==◌, ◌&&◌, ◌||◌, nat_le, Bool, List, ◌++◌, length, map, take, drop, Option, Some, None, if◌then◌else◌, codes}
use Rattle.std.specs.List.{list_all}
use Rattle.std.specs.Char.{is_ascii_alphanumeric, to_ascii_uppercase}
use Rattle.std.specs.Str.{bytes_eq}
use Rattle.lics_text.specs.Ascii as ascii
use Rattle.outside_world.specs.declared.file_name.Ext.{Ext}
use Rattle.outside_world.specs.declared.file_name.Ext.TheVariants.{Wk1, Prn, Txt}

-- a dot and three letters: .WK1, .PRN, .TXT
abbrev pub dotted : Ext → List ℕ
dotted Wk1 = codes ".WK1"
dotted Prn = codes ".PRN"
dotted Txt = codes ".TXT"

-- bytes in capitals, as names of files are compared
abbrev pub folded : List ℕ → List ℕ
folded bytes = map to_ascii_uppercase bytes

-- the last four bytes, folded, are the extension
abbrev pub has_ending : Ext → List ℕ → Bool
has_ending ext bytes = nat_le 4 (length bytes) && bytes_eq (dotted ext) (folded (drop (length bytes - 4) bytes))

-- the bytes before the extension; all, where it isn't there
abbrev pub stem_in : Ext → List ℕ → List ℕ
stem_in ext bytes = if has_ending ext bytes then take (length bytes - 4) bytes else bytes

-- a letter, a digit, `_` or `-`
abbrev pub is_name_byte : ℕ → Bool
is_name_byte b = is_ascii_alphanumeric b || ((b == ascii.underscore) || (b == ascii.minus))

-- whether bytes can be a file's name without its ending: one to eight, each allowed in names
abbrev pub is_stem : List ℕ → Bool
is_stem stem = nat_le 1 (length stem) && (nat_le (length stem) 8 && list_all is_name_byte stem)

-- the folded name with its extension
abbrev pub file_name : Ext → List ℕ → Option (List ℕ)
file_name ext bytes = if is_stem (stem_in ext bytes) then Some (folded (stem_in ext bytes) ++ dotted ext) else None

-- the name ends in the extension
abbrev pub HasExt : List ℕ → Ext → Type 0
HasExt name ext = drop (length name - 4) name ≡ dotted ext
