use Rattle.iddqd_map.proofs.CloneLemmas.{IsValid-cloned, HaveSameKeys-cloned}
use Rattle.iddqd_map.proofs.map.Map.copied.Goals as goal

pub invariant_of-result : goal.invariant_of-result
invariant_of-result g c =
    let is_clone = g.T.Clone.is_clone in
    let s = c.self.inside.items.store in
    let state = c.self.inside.state in
    let table = c.self.inside.indexes in
    let copy = c.in_ok-clone.field-0.store in
    let is = c.in_ok-clone.ensures.cases in
    let kept = HaveSameKeys-cloned is_clone s copy is g.X.KeyIndex.same_keys c.requires in
    let indexed = g.met.X.IndexLaws.same_items table state s copy kept c.self.invariant.indexed in
    record {
      valid = IsValid-cloned is_clone s copy is c.self.invariant.valid;
      indexed = c.in_ok-copied.ensures.contents state copy indexed;
    }
