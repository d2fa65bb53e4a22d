use Rattle.std.specs.Prelude.{false, true, Bool}
use Rattle.session_core.proofs.Staying.{at_line}
use Rattle.session_core.specs.inner.Glances.{Stays}
use Rattle.session_core.proofs.glance.lines_beside_kept.Goals as goal

-- what stays is the same by what else tells it
stays_by : (before after : Bool) (P Q : Type 0) → (P → Q) → Stays before after P → Stays before after Q
stays_by before true P Q tells stays = tt
stays_by true false P Q tells stays = stays
stays_by false false P Q tells stays = tells stays

-- a line that none of the insertions put in is kept by what each of them asks
pub returns : goal.returns
returns c n out =
    let letters_out = c.insert_unless-5.ensures.stay n out in
    let below_out = c.insert_unless-4.ensures.stay n letters_out in
    let typed_out = c.insert_unless-3.ensures.stay n below_out in
    let pointer_out = c.insert_unless-2.ensures.stay n typed_out in
    record {
      pointer = λ is. stays_by _ _ _ _ c.keeps_pointer.ensures
          (c.stays-pointer.ensures (c.insert_unless.ensures.told (at_line _ n 0 is pointer_out)));
      typed = λ is. stays_by _ _ _ _ c.keeps_typed.ensures
          (c.stays-typed.ensures (c.insert_unless-2.ensures.told (at_line _ n 1 is typed_out)));
      below = λ is. stays_by _ _ _ _ c.keeps_below.ensures
          (c.stays-below.ensures (c.insert_unless-3.ensures.told (at_line _ n 2 is below_out)));
      letters = λ is. stays_by _ _ _ _ c.keeps_letters.ensures
          (c.stays-letters.ensures (c.insert_unless-4.ensures.told (at_line _ n 3 is letters_out)));
      rows = λ least most. c.row_lines-lines.ensures n least most (c.insert_unless.ensures.stay n pointer_out);
      foot = λ is. c.keeps_foot.ensures (c.insert_unless-5.ensures.told (at_line _ n 24 is out));
    }
