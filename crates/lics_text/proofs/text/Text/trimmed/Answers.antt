use Rattle.std.proofs.Common.{arith, rules, ap, ◌≡◌, length}
use Rattle.lics_text.specs.Texts.{trimmed}
use Rattle.lics_text.proofs.Kept.{front_shorter, trim_kept}
use Rattle.lics_text.proofs.text.Text.trimmed.Goals as goal

pub single_spaced-requires : goal.single_spaced-requires
single_spaced-requires c =
    omega (
      arith,
      ap length c.without_front.ensures,
      front_shorter c.bytes.result.now,
      ap length c.bytes.ensures.value,
      c.bytes.ensures.text.0,
    )

pub returns-clause-text : goal.returns-clause-text
returns-clause-text c =
    let is : c.single_spaced.result ≡ trimmed c.args.self.now = search rules in
    rw is (trim_kept c.args.self.now c.bytes.ensures.text)
