use Rattle.std.proofs.Common.{◌+◌, ◌≤◌, ◌++◌, ◌∷◌, [], length, drop, ap, ◌∙◌, arith, length-append, length-drop}
use Rattle.formula_text.specs.declared.lexeme.LexemeKind.{LexemeKind}
use Rattle.formula_text.specs.declared.lexeme.Lexeme.{Lexeme}
use Rattle.formula_text.specs.inner.Fine.{are_fine}
use Rattle.formula_text.specs.Lexed.{lexed, part_found}
use Rattle.formula_text.proofs.Lexing.{all_fine, kept, one_part}
use Rattle.formula_text.proofs.lex.lex.Goals as goal

pub loop-at-preserved : goal.loop-at-preserved
loop-at-preserved c =
    let names = c.args.names.now in
    let cell = c.args.cell in
    let text = c.args.text.now in
    let at = c.loop-at.at in
    let len = c.in_ok-found.found.len in
    let before = c.loop-at.lexemes.items in
    let rest = lexed names cell 0 (at + len) (drop (at + len) text) in
    let part = λ (k : LexemeKind). (let l : Lexeme = record { at = at; kind = k } in l) in
    let f = c.from.ensures in
    let found = c.in_ok-found.ensures.found ∙ ap (part_found names cell at) f in
    let high : len ≤ length (drop at text) = omega (arith, c.in_ok-found.ensures.high, ap length f) in
    let here = one_part names cell text at len c.loop-at-test.true c.if-text-at-eq32.false
    (ap (λ p. p.len) found) c.in_ok-found.ensures.low high in (
      omega (arith, high, length-drop at text),
      ap (λ x. x ++ rest) (c.in_ok-add.ensures.ok ∙ ap (λ k. before ++ part k ∷ []) (ap (λ p. p.kind) found))
          ∙ kept before (part (part_found names cell at (drop at text)).kind) rest
          (lexed names cell 0 at (drop at text)) (lexed names cell 0 0 text) c.loop-at.invariant.1 here,
      ap are_fine c.in_ok-add.ensures.ok
          ∙ all_fine before (part c.in_ok-found.found.kind) c.loop-at.invariant.2 c.in_ok-found.ensures.fine,
      omega (
        arith,
        c.loop-at.invariant.3,
        c.in_ok-found.ensures.low,
        ap length c.in_ok-add.ensures.ok,
        length-append before (part c.in_ok-found.found.kind ∷ []),
      ),
    )
