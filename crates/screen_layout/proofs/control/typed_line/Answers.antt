use Rattle.std.proofs.Common.{◌≡◌, ◌++◌, ◌+◌, ◌-◌, length, drop, take, ap, sym, ◌∙◌, List, ℕ, arith, length-append}
use Rattle.screen_layout.specs.Control.{with_space}
use Rattle.screen_layout.specs.Lines.{shown_line}
use Rattle.screen_layout.proofs.Cuts.{added_from, shown_cut}
use Rattle.screen_layout.proofs.control.typed_line.Goals as goal

pub returns : goal.returns
returns c =
    let prompt : List ℕ = c.args.panel.now.prompt.now in
    let blank : List ℕ = c.blank_behind-blank.result.now in
    let typed : List ℕ = c.args.panel.now.typed.now in
    let n : ℕ = c.saturating_sub-start.result in
    let part : List ℕ = with_space prompt in
    let one : c.add_from.new.line ≡ take 80 (drop n prompt) =
    c.add_from.ensures ∙ ap (λ (l : List ℕ). l ++ take (80 - length l) (drop n prompt)) c.new-line.ensures in
    let two : c.add_from-2.new.line ≡ take 80 (drop n (prompt ++ blank)) =
    added_from n prompt blank c.add_from.new.line c.add_from-2.new.line one
    (c.add_from-2.ensures ∙ ap
    (λ (k : ℕ). c.add_from.new.line ++ take (80 - length c.add_from.new.line) (drop k blank))
    c.saturating_sub.ensures) in
    let behind : c.saturating_sub-2.result ≡ n - length (prompt ++ blank) =
    omega (arith, c.saturating_sub-2.ensures, length-append prompt blank) in
    let three : c.add_from-3.new.line ≡ take 80 (drop n ((prompt ++ blank) ++ typed)) =
    added_from n (prompt ++ blank) typed c.add_from-2.new.line c.add_from-3.new.line two
    (c.add_from-3.ensures ∙ ap
    (λ (k : ℕ). c.add_from-2.new.line ++ take (80 - length c.add_from-2.new.line) (drop k typed)) behind) in
    let whole : prompt ++ blank ≡ part = sym c.blank_behind-blank.ensures.text in
    let start : n ≡ length part + c.args.panel.now.cursor - 79 =
    omega (
      arith,
      c.saturating_sub-start.ensures,
      ap length whole,
      length-append prompt blank,
      c.from-cursor.ensures,
      c.cursor_of.ensures,
    ) in
    c.finish.ensures ∙ ap shown_line three ∙ shown_cut (drop n ((prompt ++ blank) ++ typed))
    ∙ ap (λ (t : List ℕ). shown_line (drop n (t ++ typed))) whole
    ∙ ap (λ (k : ℕ). shown_line (drop k (part ++ typed))) start
