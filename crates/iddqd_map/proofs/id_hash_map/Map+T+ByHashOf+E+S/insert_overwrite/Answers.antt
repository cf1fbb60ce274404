use Rattle.iddqd_map.proofs.id_hash_map.Map+T+ByHashOf+E+S.insert_overwrite.Goals as goal

pub stand_in-requires : goal.stand_in-requires
stand_in-requires g c =
    let did = rw c.in-Err-Duplicate.field-0-is at c.in-Err-Duplicate.ensures.inserts in
    record { only = rw (did.2, did.0) did.1 }
