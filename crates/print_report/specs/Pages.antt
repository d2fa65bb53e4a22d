-- The report: each band's pages after those of the band before.
use Rattle.std.specs.Prelude.{ℕ, zero, suc, ◌+◌, ◌-◌, ◌/◌, ◌≡◌, ⊤, nat_le, nat_lt, ◌||◌, Bool, List, [], ◌∷◌, ◌++◌, map, take, drop, length, unwrap_or, Option, Result, Ok, Err, if◌then◌else◌}
use Rattle.cell_format.specs.Labels.{masked}
use Rattle.grid_address.specs.Lines.{at}
use Rattle.grid_address.specs.Place.{height_of, Extent}
use Rattle.sheet_store.specs.declared.writes.SavedSheet.{SavedSheet}
use Rattle.print_report.specs.declared.settings.PrintFault.{PrintFault}
use Rattle.print_report.specs.declared.settings.PrintFault.TheVariants.{PageTooSmall, TooLong, Memory}
use Rattle.print_report.specs.declared.settings.PrintSettings.{PrintSettings}
use Rattle.print_report.specs.Bands.{bands, columns_of, width_in}
use Rattle.shown_cells.specs.Cells.{padded}
use Rattle.print_report.specs.Cells.{cell_text}
use Rattle.print_report.specs.Lines.{empty_lines, line, line_end}
use Rattle.print_report.specs.Running.{running}

-- what is printed, and how
pub record Printing : Type 0 where
  pub set : PrintSettings
  pub saved : SavedSheet
  pub range : Extent
  pub day : Option ℕ

-- all of that
abbrev pub printing : PrintSettings → SavedSheet → Extent → Option ℕ → Printing
printing set saved range day = record { set = set; saved = saved; range = range; day = day }

-- how many bytes stand between the margins
abbrev pub page_width : PrintSettings → ℕ
page_width set = set.right - set.left

-- how many rows of the range a page has
abbrev pub page_rows : PrintSettings → ℕ
page_rows set = set.length - set.top - set.bottom - 6

-- The columns of a band beside each other, each cut or filled to its width. What is left of a text runs on over blank
-- cells to the right.
abbrev pub beside : SavedSheet → ℕ → List ℕ → List ℕ → List ℕ
beside s row [] over = []
beside s row (c ∷ cs) over =
    padded (width_in s c) (unwrap_or (cell_text s (at row c) (width_in s c)) over)
    ++ beside s row cs (drop (width_in s c) (unwrap_or (cell_text s (at row c) (width_in s c)) over))

-- a row's line, in bytes that can be printed
abbrev pub row_text : SavedSheet → ℕ → List ℕ → ℕ → List ℕ
row_text s width band row = map masked (take width (beside s row band []))

-- a row of the range, or an empty line below it
abbrev pub row_line : Printing → List ℕ → ℕ → List ℕ
row_line p band row =
    if nat_le row p.range.last.row then line p.set.left (row_text p.saved (page_width p.set) band row) else line_end

-- so many rows from one on
abbrev pub rows : Printing → List ℕ → ℕ → ℕ → List ℕ
rows p band row zero = []
rows p band row (suc n) = row_line p band row ++ rows p band (row + 1) n

-- the line at the head or the foot of the page with this number
abbrev pub running_line : Printing → ℕ → List ℕ → List ℕ
running_line p number text = line p.set.left (running (page_width p.set) number p.day text)

-- the page with this number, from a row on
abbrev pub page : Printing → List ℕ → ℕ → ℕ → List ℕ
page p band number row =
    empty_lines p.set.top ++ (running_line p number p.set.header ++ (empty_lines 2
    ++ (rows p band row (page_rows p.set)
    ++ (empty_lines 2 ++ (running_line p number p.set.footer ++ empty_lines p.set.bottom)))))

-- so many pages of a band
abbrev pub pages : Printing → List ℕ → ℕ → ℕ → ℕ → List ℕ
pages p band number row zero = []
pages p band number row (suc n) = page p band number row ++ pages p band (number + 1) (row + page_rows p.set) n

-- how many pages each band has
abbrev pub page_count : Printing → ℕ
page_count p = (height_of p.range + page_rows p.set - 1) / page_rows p.set

-- the bands' pages, whose numbers run on
abbrev pub banded : Printing → ℕ → List (List ℕ) → List ℕ
banded p number [] = []
banded p number (band ∷ rest) =
    pages p band number p.range.first.row (page_count p) ++ banded p (number + page_count p) rest

-- all pages
abbrev pub report_text : Printing → List ℕ
report_text p = banded p 1 (bands p.saved (page_width p.set) (columns_of p.saved p.range))

-- there is no room for a row, or for a byte
abbrev pub is_too_small : PrintSettings → Bool
is_too_small set = nat_le set.length (set.top + set.bottom + 6) || nat_le set.right set.left

-- the most bytes of a report
abbrev pub limit : ℕ
limit = 67108864

-- the report, or why there is none
abbrev pub report : Printing → Result (List ℕ) PrintFault
report p =
    if is_too_small p.set then Err PageTooSmall
    else if nat_lt limit (length (report_text p)) then Err TooLong
    else Ok (report_text p)

-- the answer is the one that is defined, unless memory ran out
abbrev pub Gives : Result (List ℕ) PrintFault → Result (List ℕ) PrintFault → Type 0
Gives (Ok bytes) made = made ≡ Ok bytes
Gives (Err PageTooSmall) made = made ≡ Err PageTooSmall
Gives (Err TooLong) made = made ≡ Err TooLong
Gives (Err Memory) made = ⊤
