use Rattle.std.specs.Prelude.{is_some}
use Rattle.std.proofs.Common.{ap}
use Rattle.session_core.proofs.Staying.{at_line, unheld}
use Rattle.session_core.specs.declared.glance.Still.{Still}
use Rattle.session_core.specs.inner.Glances.{lacks_menu}
use Rattle.session_core.proofs.glance.calm_lines.Goals as goal

-- the panel and the last line are known, and the others are told as elsewhere
pub returns : goal.returns
returns c n out =
    let was : Still = c.args.before.now.still in
    let now : Still = c.args.after.now.still in
    let panel = c.requires.0.0 in
    let windows = c.requires.0.1 in
    let ready = c.requires.1.0 in
    let pointer_out = c.insert_unless-2.ensures.stay n out in
    record {
      pointer = λ is. unheld was.panel now.panel _ panel.0 panel.1
          (c.keeps_pointer-pointer.ensures (c.insert_unless.ensures.told (at_line _ n 0 is pointer_out)));
      typed = λ is. unheld was.panel now.panel _ panel.0 panel.1 ready;
      below = λ is. unheld was.panel now.panel _ panel.0 panel.1 (ap lacks_menu ready.0, ap lacks_menu ready.1);
      letters = λ is. unheld was.windows now.windows _ windows.0 windows.1
          (c.keeps_letters-letters.ensures (c.insert_unless-2.ensures.told (at_line _ n 3 is out)));
      rows = λ least most. c.row_lines-lines.ensures n least most (c.insert_unless.ensures.stay n pointer_out);
      foot = λ is. (ap is_some ready.0, (ap is_some ready.1, c.requires.1.1));
    }
