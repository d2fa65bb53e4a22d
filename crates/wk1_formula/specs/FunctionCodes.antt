-- The codes of functions in the code of a formula (worksheet file format).
use Rattle.std.specs.Prelude.{ℕ, ◌==◌, Option, Some, None, List, [], ◌∷◌, map, if◌then◌else◌}
use Rattle.formula_tree.specs.Table.{functions}
use Rattle.formula_tree.specs.declared.function.Function.{Function}
use Rattle.formula_tree.specs.declared.function.Function.TheVariants as function

-- the code of a function: 31 to 115
abbrev pub code_of : Function → ℕ
code_of function.Na = 31
code_of function.Err = 32
code_of function.Abs = 33
code_of function.Int = 34
code_of function.Mod = 47
code_of function.Choose = 48
code_of function.IsNa = 49
code_of function.IsErr = 50
code_of function.False = 51
code_of function.True = 52
code_of function.Date = 54
code_of function.Now = 55
code_of function.If = 59
code_of function.Day = 60
code_of function.Month = 61
code_of function.Year = 62
code_of function.Round = 63
code_of function.Time = 64
code_of function.Hour = 65
code_of function.Minute = 66
code_of function.Second = 67
code_of function.IsNumber = 68
code_of function.IsString = 69
code_of function.Length = 70
code_of function.Value = 71
code_of function.String = 72
code_of function.Mid = 73
code_of function.Char = 74
code_of function.Code = 75
code_of function.Find = 76
code_of function.DateValue = 77
code_of function.TimeValue = 78
code_of function.CellPointer = 79
code_of function.Sum = 80
code_of function.Avg = 81
code_of function.Count = 82
code_of function.Min = 83
code_of function.Max = 84
code_of function.VLookup = 85
code_of function.HLookup = 90
code_of function.DSum = 91
code_of function.DAvg = 92
code_of function.DCount = 93
code_of function.DMin = 94
code_of function.DMax = 95
code_of function.Index = 98
code_of function.Cols = 99
code_of function.Rows = 100
code_of function.Repeat = 101
code_of function.Upper = 102
code_of function.Lower = 103
code_of function.Left = 104
code_of function.Right = 105
code_of function.Replace = 106
code_of function.Proper = 107
code_of function.Cell = 108
code_of function.Trim = 109
code_of function.Clean = 110
code_of function.Exact = 113
code_of function.Pointed = 115

-- each code with its function
abbrev pub rows : List (ℕ × Function)
rows = map (λ f. (code_of f, f)) functions

-- the function of a code among these
abbrev pub found_in : List (ℕ × Function) → ℕ → Option Function
found_in [] code = None
found_in (r ∷ rs) code = if r.0 == code then Some r.1 else found_in rs code

-- the function of a code; none for a code that no formula may have
abbrev pub function_of : ℕ → Option Function
function_of code = found_in rows code
