use Rattle.std.proofs.Common.{◌++◌, ◌∙◌, ℕ, List, [], ◌∷◌, codes, ap, subst, sym, append-nil}
use Rattle.std.specs.Prelude.{flat_map}
use Rattle.list_lemmas.proofs.Results.{on_err_always}
use Rattle.grid_address.specs.Place.{Extent}
use Rattle.sheet_listing.specs.Lines.{line}
use Rattle.sheet_listing.specs.Listed.{corners, name_line}
use Rattle.sheet_listing.specs.Waiting.{added, IsFront}
use Rattle.sheet_listing.proofs.Fronts.{broken, one_line}
use Rattle.sheet_listing.proofs.names.list_names.Goals as goal

pub loop-key-preserved : goal.loop-key-preserved
loop-key-preserved g c =
    let written = g.N.Notes.written in
    let old = c.loop-key.waiting.items in
    let now = written c.loop-key.lines in
    let same = ap (λ (l : List (List ℕ × Extent)). added now (old ++ flat_map name_line l))
    (sym c.in-Some.ensures.steps) ∙ c.loop-key.invariant.0 in
    let step = c.in_ok-list_name.ensures.ok ∙
    ap (λ (n : List ℕ). added now (old ++ line (codes "name") (n ∷ corners c.in-Some.span.now ∷ [])))
    c.name_in.ensures.name in (
      one_line _ now _ old _ _ _ (flat_map name_line c.next.new.self) same step,
      c.in_ok-list_name.ensures.cause ∙
          c.loop-key.invariant.1,
    )

pub returns-in_err-list_name-clause-err : goal.returns-in_err-list_name-clause-err
returns-in_err-list_name-clause-err g c =
    let written = g.N.Notes.written in
    let old = c.loop-key.waiting.items in
    let now = written c.loop-key.lines in
    let same = ap (λ (l : List (List ℕ × Extent)). added now (old ++ flat_map name_line l))
    (sym c.in-Some.ensures.steps) ∙ c.loop-key.invariant.0 in
    let front = subst (λ (n : List ℕ). IsFront (written c.list_name.new.lines)
    (added now (old ++ line (codes "name") (n ∷ corners c.in-Some.span.now ∷ [])))) c.name_in.ensures.name
    c.in_err-list_name.ensures.err in
    on_err_always c.from_residual.result (broken _ now _ old _ _ (flat_map name_line c.next.new.self) same front)

pub returns-clause-ok : goal.returns-clause-ok
returns-clause-ok g c =
    let old = c.loop-key.waiting.items in
    let now = g.N.Notes.written c.loop-key.lines in
    ap (added now) (sym (append-nil old)) ∙ ap (λ (l : List (List ℕ × Extent)). added now (old ++ flat_map name_line l))
    (sym c.in-None.ensures.steps.0) ∙ c.loop-key.invariant.0
