use Rattle.std.proofs.Common.{sym}
use Rattle.key_words.proofs.Feeding.{ended, goes_on, refused}
use Rattle.key_words.proofs.reader.KeyReader.feed.Goals as goal

pub returns-in-Going-clause-fed : goal.returns-in-Going-clause-fed
returns-in-Going-clause-fed c bytes keys read =
    goes_on bytes keys c.args.self.now c.args.byte read c.in-Going.begun (sym (c.in-Going.ensures))

pub returns-in-Ended-clause-fed : goal.returns-in-Ended-clause-fed
returns-in-Ended-clause-fed c bytes keys read =
    ended bytes keys c.args.self.now c.args.byte read c.in-Ended.key c.in-Ended.times (sym (c.in-Ended.ensures))

pub returns-in-Refused-clause-fed : goal.returns-in-Refused-clause-fed
returns-in-Refused-clause-fed c bytes keys read =
    (read.taken, refused bytes keys c.args.self.now c.args.byte read (sym (c.in-Refused.ensures)))
