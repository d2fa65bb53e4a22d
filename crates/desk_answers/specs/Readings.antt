-- What each answer means, and why it is refused. The place is that of the answer among those of its command.
use Rattle.std.specs.Prelude.{ℕ, ◌/◌, ◌%◌, Bool, true, false, ◌&&◌, nat_eq, nat_le, ℤ, pos, negsuc, List, [], ◌∷◌, Option, None, Some, Result, Ok, Err, if◌then◌else◌}
use Rattle.std.specs.Char.{to_ascii_uppercase}
use Rattle.std.specs.FinMap as map
use Rattle.lics_text.specs.Ascii as ascii
use Rattle.fixed_value.specs.Decimals.{decimal_of}
use Rattle.fixed_value.specs.declared.decimal.Decimal.{Decimal}
use Rattle.fixed_value.specs.declared.decimal.Decimal.TheVariants as decimal
use Rattle.grid_address.specs.Place.{Extent}
use Rattle.grid_address.specs.TypedSpans.{span_in}
use Rattle.outside_world.specs.FileNames.{file_name}
use Rattle.outside_world.specs.declared.file_name.Ext.TheVariants as ext
use Rattle.range_names.specs.Names.{fault_of, key_of, NameMap}
use Rattle.range_names.specs.declared.fault.NameFault.{NameFault}
use Rattle.menu_tree.specs.declared.menu.Ask.{Ask}
use Rattle.menu_tree.specs.declared.menu.Ask.TheVariants as ask
use Rattle.desk_errors.specs.declared.error.CommandError.{CommandError}
use Rattle.desk_errors.specs.declared.error.CommandError.TheVariants as error

-- the span of a name that is there
abbrev pub found_span : Option Extent → ℕ → Result Extent CommandError
found_span None place = Err (error.NameNotFound place)
found_span (Some s) place = Ok s

-- a text that can't be a name is no address
abbrev pub named_span : Option NameFault → NameMap → List ℕ → ℕ → Result Extent CommandError
named_span (Some fault) names line place = Err (error.InvalidAddress place)
named_span None names line place = found_span (map.get names (key_of line)) place

-- an address or a span, or else the name of one
abbrev pub span_or_name : Option Extent → NameMap → List ℕ → ℕ → Result Extent CommandError
span_or_name (Some s) names line place = Ok s
span_or_name None names line place = named_span (fault_of line) names line place

-- an address, a span or a name
abbrev pub span_answer : NameMap → List ℕ → ℕ → Result Extent CommandError
span_answer names line place = span_or_name (span_in line) names line place

-- in how many parts a decimal is counted
abbrev pub millionths : ℕ
millionths = 1000000

-- so many millionths are a whole number within bounds
abbrev pub is_whole_within : ℕ → ℕ → ℕ → Bool
is_whole_within low high n = nat_eq (n % millionths) 0 && (nat_le low (n / millionths) && nat_le (n / millionths) high)

-- the whole number that so many millionths are; one below 0 lies outside the bounds
abbrev pub whole_of : ℕ → ℕ → ℤ → ℕ → Result ℕ CommandError
whole_of low high (pos n) place =
    if is_whole_within low high n then Ok (n / millionths) else Err (error.InvalidNumber place)
whole_of low high (negsuc n) place = Err (error.InvalidNumber place)

-- the whole number that a decimal is
abbrev pub whole_in : ℕ → ℕ → Decimal → ℕ → Result ℕ CommandError
whole_in low high (decimal.Num v) place = whole_of low high v place
whole_in low high decimal.TooLarge place = Err (error.InvalidNumber place)
whole_in low high decimal.NotNumber place = Err (error.InvalidNumber place)

-- a whole number within bounds
abbrev pub whole_answer : ℕ → ℕ → List ℕ → ℕ → Result ℕ CommandError
whole_answer low high line place = whole_in low high (decimal_of line) place

-- a decimal that is a number and not too large
abbrev pub number_in : Decimal → ℕ → Result ℤ CommandError
number_in (decimal.Num v) place = Ok v
number_in decimal.TooLarge place = Err (error.InvalidNumber place)
number_in decimal.NotNumber place = Err (error.InvalidNumber place)

-- a decimal, in millionths
abbrev pub decimal_answer : List ℕ → ℕ → Result ℤ CommandError
decimal_answer line place = number_in (decimal_of line) place

-- A or D, in either case: whether a sort is descending
abbrev pub order_of : ℕ → ℕ → Result Bool CommandError
order_of b place =
    if nat_eq (to_ascii_uppercase b) ascii.capital_a then Ok false
    else if nat_eq (to_ascii_uppercase b) ascii.capital_d then Ok true
    else Err (error.InvalidNumber place)

-- one letter, and no more
abbrev pub order_answer : List ℕ → ℕ → Result Bool CommandError
order_answer [] place = Err (error.InvalidNumber place)
order_answer (b ∷ []) place = order_of b place
order_answer (b ∷ c ∷ rest) place = Err (error.InvalidNumber place)

-- why a reading is refused
abbrev pub fault_in : {A : Type 0} → Result A CommandError → Option CommandError
fault_in (Ok a) = None
fault_in (Err e) = Some e

-- a name to be given is refused where it can't be one
abbrev pub new_name_by : Option NameFault → Option CommandError
new_name_by None = None
new_name_by (Some fault) = Some (error.InvalidName fault)

-- a name without a span isn't found
abbrev pub unless_there : Option Extent → ℕ → Option CommandError
unless_there None place = Some (error.NameNotFound place)
unless_there (Some s) place = None

-- a name that must be there is refused where it can't be one or isn't found
abbrev pub old_name_by : Option NameFault → NameMap → List ℕ → ℕ → Option CommandError
old_name_by (Some fault) names line place = Some (error.InvalidName fault)
old_name_by None names line place = unless_there (map.get names (key_of line)) place

-- a text that is no file's name is refused
abbrev pub unless_named : Option (List ℕ) → ℕ → Option CommandError
unless_named None place = Some (error.InvalidFileName place)
unless_named (Some name) place = None

-- why an answer is refused; none where it is not
abbrev pub refusal_of : Ask → NameMap → List ℕ → ℕ → Option CommandError
refusal_of ask.Range names line place = fault_in (span_answer names line place)
refusal_of ask.Cell names line place = fault_in (span_answer names line place)
refusal_of (ask.Whole low high) names line place = fault_in (whole_answer low high line place)
refusal_of ask.Decimal names line place = fault_in (decimal_answer line place)
refusal_of ask.NewName names line place = new_name_by (fault_of line)
refusal_of ask.OldName names line place = old_name_by (fault_of line) names line place
refusal_of ask.Order names line place = fault_in (order_answer line place)
refusal_of ask.Text names line place = None
refusal_of ask.File names line place = unless_named (file_name ext.Wk1 line) place
refusal_of ask.Report names line place = unless_named (file_name ext.Prn line) place
refusal_of ask.Replace names line place = None
refusal_of ask.Confirm names line place = None
