use Rattle.iddqd.proofs.CompactionLemmas.{IsValid-compacted}
use Rattle.iddqd_map.proofs.map.Map.compact.Goals as goal

pub invariant_of-self-2 : goal.invariant_of-self-2
invariant_of-self-2 g c =
    let s = c.self.inside.items.store in
    let was = c.self.invariant in
    let did = c.in_ok-remap.ensures in
    record {
      valid = rw did.compacted (IsValid-compacted s was.valid);
      indexed = rw did.compacted (c.remap.ensures.indexed c.self.inside.state s was.indexed was.valid did.remap);
    }
