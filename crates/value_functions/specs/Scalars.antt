-- Functions of single values, one row each.
use Rattle.std.specs.Char.{to_ascii_lowercase, to_ascii_uppercase}
use Rattle.std.specs.Prelude.{ℕ, ◌+◌, ◌*◌, not, ℤ, pos, nat_abs, Option, Some, None, List, length, map}
use Rattle.std.specs.Str.{bytes_eq}
use Rattle.fixed_value.specs.Numbers.{remainder, whole_part}
use Rattle.serial_date.specs.Fractions.{millionths_of_day}
use Rattle.lics_text.specs.Texts.{proper_of, trimmed}
use Rattle.at_functions.specs.Dates.{date, day, hour, minute, month, second, time, year}
use Rattle.at_functions.specs.Numbers.{round, units}
use Rattle.at_functions.specs.Readings.{datevalue, timevalue, value as value_of_text}
use Rattle.at_functions.specs.Texts.{char_of, code, find_in, left, mid, repeat, replace, right, string}
use Rattle.formula_tree.specs.declared.function.Function.{Function}
use Rattle.formula_tree.specs.declared.function.Function.TheVariants as function
use Rattle.formula_tree.specs.declared.value.Value.{Value}
use Rattle.formula_tree.specs.declared.value.Value.TheVariants as value
use Rattle.value_functions.specs.Values.{answer, is_err, is_na, is_text, number_in, on_number, on_text, stop_four, stop_one, stop_three, stop_two, text_in, truth, unless_stopped, worded}

-- the moment: the day number and the part of the day
abbrev pub now_value : Option ℕ → ℕ → Value
now_value None second = value.Err
now_value (Some day) second = value.Num (pos (day * 1000000 + millionths_of_day second))

-- NA, ERR, FALSE, TRUE and NOW
abbrev pub constant_value : Function → Option ℕ → ℕ → Value
constant_value function.Na day second = value.Na
constant_value function.False day second = value.Num (pos 0)
constant_value function.True day second = value.Num (pos 1000000)
constant_value function.Now day second = now_value day second
constant_value f day second = value.Err

-- ABS, INT, DAY, MONTH, YEAR, HOUR, MINUTE and SECOND
abbrev pub number_row : Function → ℤ → Option ℤ
number_row function.Abs x = Some (pos (nat_abs x))
number_row function.Int x = Some (whole_part x)
number_row function.Day x = day x
number_row function.Month x = month x
number_row function.Year x = year x
number_row function.Hour x = hour x
number_row function.Minute x = minute x
number_row function.Second x = second x
number_row f x = None

-- LENGTH, VALUE, CODE, DATEVALUE and TIMEVALUE
abbrev pub text_row : Function → List ℕ → Option ℤ
text_row function.Length t = Some (units (length t))
text_row function.Value t = value_of_text t
text_row function.Code t = code t
text_row function.DateValue t = datevalue t
text_row function.TimeValue t = timevalue t
text_row f t = None

-- UPPER, LOWER, PROPER, TRIM and CLEAN
abbrev pub changed_row : Function → List ℕ → Option (List ℕ)
changed_row function.Upper t = Some (map to_ascii_uppercase t)
changed_row function.Lower t = Some (map to_ascii_lowercase t)
changed_row function.Proper t = Some (proper_of t)
changed_row function.Trim t = Some (trimmed t)
changed_row function.Clean t = Some t
changed_row f t = None

-- MOD and ROUND
abbrev pub numbers_row : Function → ℤ → ℤ → Option ℤ
numbers_row function.Mod x y = remainder x y
numbers_row function.Round x y = round x y
numbers_row f x y = None

-- DATE and TIME
abbrev pub parts_row : Function → ℤ → ℤ → ℤ → Option ℤ
parts_row function.Date x y z = date x y z
parts_row function.Time x y z = time x y z
parts_row f x y z = None

-- REPEAT, LEFT and RIGHT
abbrev pub cut_row : Function → List ℕ → ℤ → Option (List ℕ)
cut_row function.Repeat t n = repeat t n
cut_row function.Left t n = left t n
cut_row function.Right t n = right t n
cut_row f t n = None

-- a function of one number
abbrev pub of_number : Function → Value → Value
of_number f a = unless_stopped (stop_one a) (on_number (number_in a) (λ x. answer (number_row f x)))

-- a function of one text that answers a number
abbrev pub of_text : Function → Value → Value
of_text f a = unless_stopped (stop_one a) (on_text (text_in a) (λ t. answer (text_row f t)))

-- a function of one text that answers a text
abbrev pub changed : Function → Value → Value
changed f a = unless_stopped (stop_one a) (on_text (text_in a) (λ t. worded (changed_row f t)))

-- CHAR
abbrev pub char_value : Value → Value
char_value a = unless_stopped (stop_one a) (on_number (number_in a) (λ x. worded (char_of x)))

-- a function of two numbers
abbrev pub of_numbers : Function → Value → Value → Value
of_numbers f a b =
    unless_stopped (stop_two a b) (on_number (number_in a) (λ x. on_number (number_in b) (λ y.
    answer (numbers_row f x y))))

-- STRING, of a number and of how many places it shows
abbrev pub string_value : Value → Value → Value
string_value a b =
    unless_stopped (stop_two a b) (on_number (number_in a) (λ x. on_number (number_in b) (λ y.
    worded (string x y))))

-- a function of a text and a count
abbrev pub cut_value : Function → Value → Value → Value
cut_value f a b =
    unless_stopped (stop_two a b) (on_text (text_in a) (λ t. on_number (number_in b) (λ n.
    worded (cut_row f t n))))

-- EXACT: whether two texts have the same bytes
abbrev pub exact_value : Value → Value → Value
exact_value a b =
    unless_stopped (stop_two a b) (on_text (text_in a) (λ s. on_text (text_in b) (λ t.
    truth (bytes_eq s t))))

-- a function of three numbers
abbrev pub of_parts : Function → Value → Value → Value → Value
of_parts f a b c =
    unless_stopped (stop_three a b c) (on_number (number_in a) (λ x. on_number (number_in b) (λ y.
    on_number (number_in c) (λ z. answer (parts_row f x y z)))))

-- MID, of a text, where its part starts, and how long that is
abbrev pub mid_value : Value → Value → Value → Value
mid_value a b c =
    unless_stopped (stop_three a b c) (on_text (text_in a) (λ t. on_number (number_in b) (λ s.
    on_number (number_in c) (λ n. worded (mid t s n)))))

-- FIND, of what is looked for, the text, and where the search starts
abbrev pub find_value : Value → Value → Value → Value
find_value a b c =
    unless_stopped (stop_three a b c) (on_text (text_in a) (λ w. on_text (text_in b) (λ t.
    on_number (number_in c) (λ s. answer (find_in w t s)))))

-- REPLACE, of a text, where its part starts, how long that is, and what stands there then
abbrev pub replace_value : Value → Value → Value → Value → Value
replace_value a b c d =
    unless_stopped (stop_four a b c d) (on_text (text_in a) (λ t. on_number (number_in b) (λ s.
    on_number (number_in c) (λ n. on_text (text_in d) (λ new. worded (replace t s n new))))))

-- ISNA, ISERR, ISNUMBER and ISSTRING; any value passes the test
abbrev pub test_value : Function → Value → Value
test_value function.IsNa a = truth (is_na a)
test_value function.IsErr a = truth (is_err a)
test_value function.IsString a = truth (is_text a)
test_value f a = truth (not (is_text a))
