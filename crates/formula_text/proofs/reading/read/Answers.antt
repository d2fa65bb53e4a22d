use Rattle.std.proofs.Common.{◌≡◌, Err, [], sym, ap, subst, ◌∙◌, arith, inl, inr}
use Rattle.std.proofs.lemmas.Result.{err_from_is_err_and}
use Rattle.formula_tree.specs.View.{tree_of}
use Rattle.formula_text.specs.Accepts.{operand_first}
use Rattle.formula_text.specs.Lexed.{lexed}
use Rattle.formula_text.specs.Texts.{ArePartsOf}
use Rattle.formula_text.specs.Reading.{reading}
use Rattle.formula_text.proofs.Shaped.{is_formula}
use Rattle.formula_text.proofs.Spelling.{first_fault, reads, too_long, tree_read}
use Rattle.formula_text.proofs.reading.read.Goals as goal

pub formula-requires : goal.formula-requires
formula-requires c =
    let items = c.in_ok-lexemes.lexemes.items in
    let t = tree_of c.in_ok-expr.expr in
    let s = subst (λ ls. ArePartsOf ls t) c.as_slice.ensures.value c.in_ok-expr.ensures.found in
    is_formula items t (omega (arith, c.in_ok-lexemes.ensures.few)) c.in_ok-lexemes.ensures.fine s.same s.well
    c.in_ok-expr.ensures.called

pub returns-then-text-gt-MAX_LEN-clause-fault : goal.returns-then-text-gt-MAX_LEN-clause-fault
returns-then-text-gt-MAX_LEN-clause-fault c = inr (too_long c.args.names.now c.args.at c.args.text.now (omega arith))

pub returns-in_err-expr-clause-fault : goal.returns-in_err-expr-clause-fault
returns-in_err-expr-clause-fault c =
    let p = err_from_is_err_and c.from_residual-in_err-expr.result c.from_residual-in_err-expr.ensures.1 in
    let names = c.args.names.now in
    let same : operand_first (lexed names c.args.at 0 0 c.args.text.now) [] ≡ operand_first c.as_slice.result.now [] =
    ap (λ ls. operand_first ls []) (sym (c.as_slice.ensures.value ∙ c.in_ok-lexemes.ensures.ok)) in
    rw p.1 (elim c.in_err-expr.ensures.fault [
      | inl m ↦ inl (p.2 ∙ m)
      | inr e ↦
          inr (first_fault names c.args.at c.args.text.now _ (omega arith) (same ∙ e) ∙ ap Err (sym p.2))
    ])

pub returns-clause-found : goal.returns-clause-found
returns-clause-found c =
    let t = tree_of c.in_ok-expr.expr in
    let s = subst (λ ls. ArePartsOf ls t) (c.as_slice.ensures.value ∙ c.in_ok-lexemes.ensures.ok)
    c.in_ok-expr.ensures.found in
    tree_read c.formula.result (reading c.args.names.now c.args.at c.args.text.now) t c.formula.ensures.ok
    (reads c.args.names.now c.args.at c.args.text.now t (omega arith, s))
