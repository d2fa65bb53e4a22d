-- The types of records (worksheet file format).
use Rattle.std.specs.Prelude.{ℕ, ◌+◌, Bool, true, false, ◌==◌, List, if◌then◌else◌}
use Rattle.wk1_formula.specs.Reading.{short_at}
use Rattle.wk1_records.specs.declared.kind.RecordKind.{RecordKind}
use Rattle.wk1_records.specs.declared.kind.RecordKind.TheVariants.{Blank, Bof, CalcCount, CalcMode, CalcOrder, ColumnWidth, Eof, Formula, HiddenColumns, Integer, Label, LabelFormat, Name, Number, Other, Protection, Range, Str, Window}
use Rattle.sheet_store.specs.declared.order.Order.{Order}
use Rattle.sheet_store.specs.declared.order.Order.TheVariants.{Natural, Columnwise, Rowwise}

-- the number of a type
abbrev pub number_of : RecordKind → ℕ
number_of Bof = 0x00
number_of Eof = 0x01
number_of CalcMode = 0x02
number_of CalcOrder = 0x03
number_of Range = 0x06
number_of Window = 0x07
number_of ColumnWidth = 0x08
number_of Name = 0x0B
number_of Blank = 0x0C
number_of Integer = 0x0D
number_of Number = 0x0E
number_of Label = 0x0F
number_of Formula = 0x10
number_of Protection = 0x24
number_of LabelFormat = 0x29
number_of CalcCount = 0x2F
number_of Str = 0x33
number_of HiddenColumns = 0x64
number_of Other = 0xFFFF

-- the type of a record by its number
unfoldable pub kind_of : ℕ → RecordKind
kind_of n =
    if n == number_of Bof then Bof
    else if n == number_of Eof then Eof
    else if n == number_of CalcMode then CalcMode
    else if n == number_of CalcOrder then CalcOrder
    else if n == number_of Range then Range
    else if n == number_of Window then Window
    else if n == number_of ColumnWidth then ColumnWidth
    else if n == number_of Name then Name
    else if n == number_of Blank then Blank
    else if n == number_of Integer then Integer
    else if n == number_of Number then Number
    else if n == number_of Label then Label
    else if n == number_of Formula then Formula
    else if n == number_of Protection then Protection
    else if n == number_of LabelFormat then LabelFormat
    else if n == number_of CalcCount then CalcCount
    else if n == number_of Str then Str
    else if n == number_of HiddenColumns then HiddenColumns
    else Other

-- the least length of a body; that of a formula says how long its code is
abbrev pub least_length : RecordKind → List ℕ → ℕ
least_length Bof body = 2
least_length Eof body = 0
least_length CalcMode body = 1
least_length CalcOrder body = 1
least_length Range body = 8
least_length Window body = 8
least_length ColumnWidth body = 3
least_length Name body = 24
least_length Blank body = 5
least_length Integer body = 7
least_length Number body = 13
least_length Label body = 5
least_length Formula body = 15 + short_at 13 body
least_length Protection body = 1
least_length LabelFormat body = 1
least_length CalcCount body = 1
least_length Str body = 5
least_length HiddenColumns body = 32
least_length Other body = 0

-- whether a body begins with a format byte and a cell; no other does
abbrev pub has_head : RecordKind → Bool
has_head Blank = true
has_head Integer = true
has_head Number = true
has_head Label = true
has_head Formula = true
has_head Str = true
has_head kind = false

-- the byte of an order of recalculation
abbrev pub order_byte : Order → ℕ
order_byte Natural = 0x00
order_byte Columnwise = 0x01
order_byte Rowwise = 0xFF
