use Rattle.iddqd_map.proofs.tri_hash_map.index.TriIndexOfChanges.make_room.Goals as goal

pub returns-in_err-make_room-clause-contents : goal.returns-in_err-make_room-clause-contents
returns-in_err-make_room-clause-contents g c = λ state s is. (c.in_err-make_room.ensures.contents state s is.0, is.1)

pub returns-in_err-make_room-2-clause-contents : goal.returns-in_err-make_room-2-clause-contents
returns-in_err-make_room-2-clause-contents g c = λ state s is. (
  c.in_ok-make_room.ensures.contents state s is.0,
  (
    c.in_err-make_room-2.ensures.contents state s is.1.0,
    is.1.1,
  ),
)

pub returns-clause-contents : goal.returns-clause-contents
returns-clause-contents g c = λ state s is. (
  c.in_ok-make_room.ensures.contents state s is.0,
  (
    c.in_ok-make_room-2.ensures.contents state s is.1.0,
    c.make_room-3.ensures.contents state s is.1.1,
  ),
)
