use Rattle.iddqd_groups.specs.ByHashMultiLaws.{FilesWithin-kept}
use Rattle.iddqd_groups.proofs.FilesLemmas.{room_beside}
use Rattle.iddqd_groups.proofs.by_hash_multi.ByHashMultiOfChanges.make_room.Goals as goal

pub returns-clause-contents : goal.returns-clause-contents
returns-clause-contents g c = λ state s.
    FilesWithin-kept _ _ s c.args.self.now.table c.reserve.new.table c.reserve.ensures.contents

pub returns-clause-ready : goal.returns-clause-ready
returns-clause-ready g c =
    room_beside c.reserve.result c.args.items.now.store c.args.self.now.table c.reserve.new.table
    c.requires.indexed.files.held c.reserve.ensures.contents c.reserve.ensures.reserved
