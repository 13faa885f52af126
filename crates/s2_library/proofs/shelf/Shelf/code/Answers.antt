use Rattle.s2_library.proofs.Shelves.{put_last}
use Rattle.s2_library.proofs.shelf.Shelf.code.Goals as goal

pub returns-clause-same : goal.returns-clause-same
returns-clause-same c = put_last c.args.self.now c.put.new.self c.args.matrix c.put.result c.put.ensures.put (c.find.ensures.none c.in-None.is)
