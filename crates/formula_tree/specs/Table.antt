-- How functions are called (Release 2 manual).
use Rattle.std.specs.Prelude.{ℕ, Bool, true, false, ◌==◌, ◌&&◌, nat_le, List, [], ◌∷◌}
use Rattle.formula_tree.specs.declared.function.Function.{Function}
use Rattle.formula_tree.specs.declared.function.Function.TheVariants as function
use Rattle.formula_tree.specs.declared.table.Counts.{Counts}
use Rattle.formula_tree.specs.declared.table.Counts.TheVariants.{Exactly, AtLeast}

-- all of them
abbrev pub functions : List Function
functions =
    function.Na ∷ function.Err ∷ function.Abs ∷ function.Int ∷ function.Mod ∷ function.Choose
    ∷ function.IsNa ∷ function.IsErr ∷ function.False ∷ function.True ∷ function.Date ∷ function.Now
    ∷ function.If ∷ function.Day ∷ function.Month ∷ function.Year ∷ function.Round ∷ function.Time
    ∷ function.Hour ∷ function.Minute ∷ function.Second ∷ function.IsNumber ∷ function.IsString ∷ function.Length
    ∷ function.Value ∷ function.String ∷ function.Mid ∷ function.Char ∷ function.Code ∷ function.Find
    ∷ function.DateValue ∷ function.TimeValue ∷ function.CellPointer ∷ function.Sum ∷ function.Avg ∷ function.Count
    ∷ function.Min ∷ function.Max ∷ function.VLookup ∷ function.HLookup ∷ function.DSum ∷ function.DAvg
    ∷ function.DCount ∷ function.DMin ∷ function.DMax ∷ function.Index ∷ function.Cols ∷ function.Rows
    ∷ function.Repeat ∷ function.Upper ∷ function.Lower ∷ function.Left ∷ function.Right ∷ function.Replace
    ∷ function.Proper ∷ function.Cell ∷ function.Trim ∷ function.Clean ∷ function.Exact ∷ function.Pointed ∷ []

-- how many arguments a function takes
abbrev pub counts_of : Function → Counts
counts_of function.Na = Exactly 0
counts_of function.Err = Exactly 0
counts_of function.Abs = Exactly 1
counts_of function.Int = Exactly 1
counts_of function.Mod = Exactly 2
counts_of function.Choose = AtLeast 2
counts_of function.IsNa = Exactly 1
counts_of function.IsErr = Exactly 1
counts_of function.False = Exactly 0
counts_of function.True = Exactly 0
counts_of function.Date = Exactly 3
counts_of function.Now = Exactly 0
counts_of function.If = Exactly 3
counts_of function.Day = Exactly 1
counts_of function.Month = Exactly 1
counts_of function.Year = Exactly 1
counts_of function.Round = Exactly 2
counts_of function.Time = Exactly 3
counts_of function.Hour = Exactly 1
counts_of function.Minute = Exactly 1
counts_of function.Second = Exactly 1
counts_of function.IsNumber = Exactly 1
counts_of function.IsString = Exactly 1
counts_of function.Length = Exactly 1
counts_of function.Value = Exactly 1
counts_of function.String = Exactly 2
counts_of function.Mid = Exactly 3
counts_of function.Char = Exactly 1
counts_of function.Code = Exactly 1
counts_of function.Find = Exactly 3
counts_of function.DateValue = Exactly 1
counts_of function.TimeValue = Exactly 1
counts_of function.CellPointer = Exactly 1
counts_of function.Sum = AtLeast 1
counts_of function.Avg = AtLeast 1
counts_of function.Count = AtLeast 1
counts_of function.Min = AtLeast 1
counts_of function.Max = AtLeast 1
counts_of function.VLookup = Exactly 3
counts_of function.HLookup = Exactly 3
counts_of function.DSum = Exactly 3
counts_of function.DAvg = Exactly 3
counts_of function.DCount = Exactly 3
counts_of function.DMin = Exactly 3
counts_of function.DMax = Exactly 3
counts_of function.Index = Exactly 3
counts_of function.Cols = Exactly 1
counts_of function.Rows = Exactly 1
counts_of function.Repeat = Exactly 2
counts_of function.Upper = Exactly 1
counts_of function.Lower = Exactly 1
counts_of function.Left = Exactly 2
counts_of function.Right = Exactly 2
counts_of function.Replace = Exactly 4
counts_of function.Proper = Exactly 1
counts_of function.Cell = Exactly 2
counts_of function.Trim = Exactly 1
counts_of function.Clean = Exactly 1
counts_of function.Exact = Exactly 2
counts_of function.Pointed = Exactly 1

-- exactly so many, or at least so many and at most 255
abbrev pub takes : Counts → ℕ → Bool
takes (Exactly wanted) count = wanted == count
takes (AtLeast least) count = nat_le least count && nat_le count 255

-- whether a function's value changes by itself, or hangs on cells that its formula doesn't name
abbrev pub is_volatile_function : Function → Bool
is_volatile_function function.Now = true
is_volatile_function function.Cell = true
is_volatile_function function.CellPointer = true
is_volatile_function function.Pointed = true
is_volatile_function function.DSum = true
is_volatile_function function.DAvg = true
is_volatile_function function.DCount = true
is_volatile_function function.DMin = true
is_volatile_function function.DMax = true
is_volatile_function f = false

-- a byte for the function, and one more where the count of arguments is free
abbrev pub counts_size : Counts → ℕ
counts_size (Exactly wanted) = 1
counts_size (AtLeast least) = 2

-- what a call takes of the code of a formula: the count of its arguments is written where it is free
abbrev pub call_size : Function → ℕ
call_size f = counts_size (counts_of f)
