use Rattle.std.proofs.Common.{is_ok, ◌∙◌, ap, sym}
use Rattle.key_words.specs.MacroText.{unit_at}
use Rattle.macro_text.specs.Kept.{arguments_in}
use Rattle.macro_text.proofs.Keeping.{kept_more}
use Rattle.macro_text.proofs.kept.TextWords.keep.Goals as goal

pub invariant_of-self : goal.invariant_of-self
invariant_of-self c =
    kept_more c.self.inside.text c.self.inside.words.items c.push.new.self.items
    (record { at = c.args.at; word = c.args.word.now; end = c.args.end; args = c.args.args }) (is_ok c.push.result)
    c.push.ensures.items (ap (λ t. unit_at t c.args.at) c.self.view_is ∙ c.requires.word)
    (c.requires.args ∙ sym (ap (λ t. arguments_in t c.args.word.now) c.self.view_is)) c.self.invariant

pub invariant_of-self-2 : goal.invariant_of-self-2
invariant_of-self-2 c =
    kept_more c.self.inside.text c.self.inside.words.items c.push.new.self.items
    (record { at = c.args.at; word = c.args.word.now; end = c.args.end; args = c.args.args }) (is_ok c.push.result)
    c.push.ensures.items (ap (λ t. unit_at t c.args.at) c.self.view_is ∙ c.requires.word)
    (c.requires.args ∙ sym (ap (λ t. arguments_in t c.args.word.now) c.self.view_is)) c.self.invariant
