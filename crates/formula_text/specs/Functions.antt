-- The names of functions (Release 2 manual).
use Rattle.std.specs.Char.{to_ascii_uppercase}
use Rattle.std.specs.Prelude.{ℕ, Bool, true, false, Option, List, [], ◌∷◌, codes, map, if◌then◌else◌}
use Rattle.std.specs.Str.{bytes_eq}
use Rattle.lics_text.specs.Names.{name_in}
use Rattle.formula_tree.specs.Table.{functions}
use Rattle.formula_tree.specs.declared.function.Function.{Function}
use Rattle.formula_tree.specs.declared.function.Function.TheVariants as function

-- the name behind @
abbrev pub name_of : Function → List ℕ
name_of function.Na = codes "NA"
name_of function.Err = codes "ERR"
name_of function.Abs = codes "ABS"
name_of function.Int = codes "INT"
name_of function.Mod = codes "MOD"
name_of function.Choose = codes "CHOOSE"
name_of function.IsNa = codes "ISNA"
name_of function.IsErr = codes "ISERR"
name_of function.False = codes "FALSE"
name_of function.True = codes "TRUE"
name_of function.Date = codes "DATE"
name_of function.Now = codes "NOW"
name_of function.If = codes "IF"
name_of function.Day = codes "DAY"
name_of function.Month = codes "MONTH"
name_of function.Year = codes "YEAR"
name_of function.Round = codes "ROUND"
name_of function.Time = codes "TIME"
name_of function.Hour = codes "HOUR"
name_of function.Minute = codes "MINUTE"
name_of function.Second = codes "SECOND"
name_of function.IsNumber = codes "ISNUMBER"
name_of function.IsString = codes "ISSTRING"
name_of function.Length = codes "LENGTH"
name_of function.Value = codes "VALUE"
name_of function.String = codes "STRING"
name_of function.Mid = codes "MID"
name_of function.Char = codes "CHAR"
name_of function.Code = codes "CODE"
name_of function.Find = codes "FIND"
name_of function.DateValue = codes "DATEVALUE"
name_of function.TimeValue = codes "TIMEVALUE"
name_of function.CellPointer = codes "CELLPOINTER"
name_of function.Sum = codes "SUM"
name_of function.Avg = codes "AVG"
name_of function.Count = codes "COUNT"
name_of function.Min = codes "MIN"
name_of function.Max = codes "MAX"
name_of function.VLookup = codes "VLOOKUP"
name_of function.HLookup = codes "HLOOKUP"
name_of function.DSum = codes "DSUM"
name_of function.DAvg = codes "DAVG"
name_of function.DCount = codes "DCOUNT"
name_of function.DMin = codes "DMIN"
name_of function.DMax = codes "DMAX"
name_of function.Index = codes "INDEX"
name_of function.Cols = codes "COLS"
name_of function.Rows = codes "ROWS"
name_of function.Repeat = codes "REPEAT"
name_of function.Upper = codes "UPPER"
name_of function.Lower = codes "LOWER"
name_of function.Left = codes "LEFT"
name_of function.Right = codes "RIGHT"
name_of function.Replace = codes "REPLACE"
name_of function.Proper = codes "PROPER"
name_of function.Cell = codes "CELL"
name_of function.Trim = codes "TRIM"
name_of function.Clean = codes "CLEAN"
name_of function.Exact = codes "EXACT"
name_of function.Pointed = codes "@"

-- functions of Release 2 that no formula may call
abbrev pub left_out : List (List ℕ)
left_out =
    codes "SQRT" ∷ codes "LOG" ∷ codes "LN" ∷ codes "PI" ∷ codes "SIN" ∷ codes "COS" ∷ codes "TAN" ∷ codes "ATAN2"
    ∷ codes "ATAN" ∷ codes "ASIN" ∷ codes "ACOS" ∷ codes "EXP" ∷ codes "RAND" ∷ codes "PMT" ∷ codes "PV" ∷ codes "FV"
    ∷ codes "NPV" ∷ codes "VAR" ∷ codes "STD" ∷ codes "IRR" ∷ codes "DVAR" ∷ codes "DSTD" ∷ codes "S" ∷ codes "N"
    ∷ codes "RATE" ∷ codes "TERM" ∷ codes "CTERM" ∷ codes "SLN" ∷ codes "SYD" ∷ codes "DDB" ∷ []

-- each name with its function
abbrev pub names : List (List ℕ × Function)
names = map (λ f. (name_of f, f)) functions

-- letters of either case are the same
abbrev pub function_named : List ℕ → Option Function
function_named name = name_in names (map to_ascii_uppercase name)

-- letters of either case are the same
abbrev pub is_among : List (List ℕ) → List ℕ → Bool
is_among [] name = false
is_among (n ∷ ns) name = if bytes_eq n (map to_ascii_uppercase name) then true else is_among ns name
