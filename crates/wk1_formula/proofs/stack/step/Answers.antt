use Rattle.std.proofs.Common.{ap, refl}
use Rattle.formula_tree.specs.Tree.{call, cell, no_trees, span, str}
use Rattle.formula_tree.specs.declared.function.Function.TheVariants as function
use Rattle.wk1_formula.specs.Codes as codes
use Rattle.wk1_formula.specs.Stack.{number_tree}
use Rattle.wk1_formula.specs.inner.Views.{seen_code}
use Rattle.wk1_formula.proofs.Steppings.{bare_error, bare_missing, put_on}
use Rattle.wk1_formula.proofs.stack.step.Goals as goal

pub bare_call-requires : goal.bare_call-requires
bare_call-requires c = bare_error

pub bare_call-requires-in-Missing : goal.bare_call-requires-in-Missing
bare_call-requires-in-Missing c = bare_missing

pub returns-in_ok-item-in-Number : goal.returns-in_ok-item-in-Number
returns-in_ok-item-in-Number c =
    put_on _ (codes.number c.in-Number.number) (number_tree c.in-Number.number) c.in_ok-item-in-Number.item _ _
    c.go_on.result (ap seen_code c.in-Number.is) (λ us. refl) c.in_ok-item-in-Number.ensures c.go_on.ensures

pub returns-in-Error : goal.returns-in-Error
returns-in-Error c =
    put_on _ codes.error (call function.Err no_trees) c.bare_call.result _ _ c.go_on-in-Error.result
    (ap seen_code c.in-Error.is) (λ us. refl) c.bare_call.ensures c.go_on-in-Error.ensures

pub returns-in-Missing : goal.returns-in-Missing
returns-in-Missing c =
    put_on _ codes.missing (call function.Na no_trees) c.bare_call-in-Missing.result _ _ c.go_on-in-Missing.result
    (ap seen_code c.in-Missing.is) (λ us. refl) c.bare_call-in-Missing.ensures c.go_on-in-Missing.ensures

pub returns-in-Reference : goal.returns-in-Reference
returns-in-Reference c =
    put_on _ (codes.reference c.in-Reference.reference) (cell c.in-Reference.reference) c.leaf.result _ _
    c.go_on-in-Reference.result (ap seen_code c.in-Reference.is) (λ us. refl) c.leaf.ensures
    c.go_on-in-Reference.ensures

pub returns-in-Range : goal.returns-in-Range
returns-in-Range c =
    put_on _ (codes.range c.in-Range.first c.in-Range.last) (span c.in-Range.first c.in-Range.last)
    c.leaf-in-Range.result _ _ c.go_on-in-Range.result (ap seen_code c.in-Range.is) (λ us. refl) c.leaf-in-Range.ensures
    c.go_on-in-Range.ensures

pub returns-in-Text : goal.returns-in-Text
returns-in-Text c =
    put_on _ (codes.text c.in-Text.text) (str c.in-Text.text) c.text_item.result _ _ c.go_on-in-Text.result
    (ap seen_code c.in-Text.is) (λ us. refl) c.text_item.ensures c.go_on-in-Text.ensures
