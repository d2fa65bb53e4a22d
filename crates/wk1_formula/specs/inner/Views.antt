-- The codes that the program's values stand for.
use Rattle.wk1_formula.specs.declared.front.Code.{Code}
use Rattle.wk1_formula.specs.declared.front.Code.TheVariants as code
use Rattle.wk1_formula.specs.declared.front.Front.{Front}
use Rattle.wk1_formula.specs.declared.front.Front.TheVariants as front
use Rattle.wk1_formula.specs.Codes as codes
use Rattle.wk1_formula.specs.Reading as reading

-- a code of the program as a code of the definitions
abbrev pub seen_code : Code → codes.Code
seen_code (code.Number v) = codes.number v
seen_code code.Error = codes.error
seen_code code.Missing = codes.missing
seen_code (code.Reference r) = codes.reference r
seen_code (code.Range a b) = codes.range a b
seen_code (code.Text t) = codes.text t
seen_code code.Brackets = codes.brackets
seen_code code.Minus = codes.minus
seen_code code.Plus = codes.plus
seen_code code.Negation = codes.negation
seen_code (code.Operator op) = codes.operator op
seen_code (code.Function f n) = codes.function f n

-- a front of the program as a front of the definitions
abbrev pub seen : Front → reading.Front
seen (front.Whole c n) = reading.whole (seen_code c) n
seen front.Finish = reading.finish
seen front.Faulty = reading.faulty
seen (front.LeftOut f) = reading.left_out f
seen front.TooLarge = reading.too_large
