use Rattle.std.proofs.Common.{◌≡◌, ◌++◌, ◌+◌, ◌≤◌, length}
use Rattle.std.specs.Vec.{vec_len, vec_capacity}
use Rattle.std.specs.Vec.Iter.{into_iter_items}
use Rattle.iddqd_driver.specs.Keys.{keys_of}
use Rattle.iddqd_driver.proofs.ObeyLemmas.{Obeyed}
use Rattle.iddqd_driver.proofs.keyed_items.KeyedItems.run.Given as goal

-- the commands so far were obeyed, and there is room for a reply to each command left
abbrev pub invariant-loop-command : goal.invariant-loop-command
invariant-loop-command g l =
    let keys = keys_of g.T.KeyedItem g.T.Key1.PartialEq.eq g.T.Key1.Hash.hash_input g.T.Key2.Ord.cmp g.S.BuildHasher
    g.S.Hasher.Hasher in record {
      can_next : (goal.iterator-loop-command g).can_next l.command-iterator;
      is_finite : (goal.iterator-loop-command g).is_finite l.command-iterator;
      yielded : l.yielded ++ into_iter_items l.command-iterator ≡ l.fn.commands.items;
      obeyed : Obeyed keys l.fn.self l.yielded l.replies.items l.self;
      room : vec_len l.replies + length (into_iter_items l.command-iterator) ≤ vec_capacity l.replies;
    }
