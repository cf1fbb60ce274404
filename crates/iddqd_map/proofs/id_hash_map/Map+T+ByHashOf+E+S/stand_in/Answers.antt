use Rattle.iddqd_map.specs.Map.{shares}
use Rattle.iddqd_map.proofs.OneKeyLemmas.{never_refused}
use Rattle.iddqd_map.proofs.id_hash_map.Map+T+ByHashOf+E+S.stand_in.Goals as goal

pub unreachable-requires : goal.unreachable-requires
unreachable-requires g c =
    never_refused (shares g.E.HashKey.key_of g.E.HashKey.eq) c.args.self.now c.replace_at.new.self c.args.at c.args.item c.in-Err.field-0 c.requires.only c.in-Err.ensures.replaces
