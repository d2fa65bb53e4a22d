use Rattle.std.proofs.lemmas.Bool.{or_right}
use Rattle.depend_graph.proofs.Listing.{behind}
use Rattle.depend_graph.proofs.lists.put_reader.Goals as goal

pub returns-in_err-put-clause-kept : goal.returns-in_err-put-clause-kept
returns-in_err-put-clause-kept c = λ d h. behind c.args.readers.now.first c.args.readers.now.more.items
    c.put.new.list.items c.put.ensures.kept d h

pub returns-clause-kept : goal.returns-clause-kept
returns-clause-kept c = λ d h. behind c.args.readers.now.first c.args.readers.now.more.items c.put.new.list.items
    c.put.ensures.kept d h

pub returns-clause-here : goal.returns-clause-here
returns-clause-here c = or_right _ _ c.in_ok-put.ensures.here
