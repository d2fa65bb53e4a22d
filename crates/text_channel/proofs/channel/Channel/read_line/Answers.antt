use Rattle.text_channel.proofs.Passing.{is_within}
use Rattle.text_channel.proofs.channel.Channel.read_line.Goals as goal

pub pass-requires : goal.pass-requires
pass-requires c =
    is_within c.args.self.now c.in-Some.left.now c.next_line-next.result.passed c.in-Some.ensures
    c.next_line-next.ensures.within.1
