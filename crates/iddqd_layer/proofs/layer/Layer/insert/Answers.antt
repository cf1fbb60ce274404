use Rattle.std.proofs.Common.{◌∙◌, ap, refl, subst}
use Rattle.iddqd_layer.specs.Layer.{Each, LeadsToGap, hashed_of, ordered_of}
use Rattle.iddqd_layer.proofs.LayerLemmas.{filed-from, placed-from, ways-still}
use Rattle.iddqd_layer.proofs.layer.Layer.insert.Goals as goal

pub insert_reserved-requires-clause-ways : goal.insert_reserved-requires-clause-ways
insert_reserved-requires-clause-ways c =
    let old = ordered_of c.args.self.now in
    let lead : Each LeadsToGap old c.args.ways.now =
    subst (λ z. Each LeadsToGap z c.args.ways.now) (c.deref.ensures.value ∙ ap ordered_of c.self.view_is)
    (c.if-not-lead_to_gaps.ensures.0 refl) in
    ways-still c.args.ways.now old (ordered_of c.reserve.new.self) c.reserve.ensures.same.ordered lead

pub returns-clause-hashed : goal.returns-clause-hashed
returns-clause-hashed c =
    filed-from c.insert_reserved.result c.args.hashes.now (hashed_of c.args.self.now) (hashed_of c.reserve.new.self)
    (hashed_of c.insert_reserved.new.self)
    c.reserve.ensures.same.hashed c.insert_reserved.ensures.hashed

pub returns-clause-ordered : goal.returns-clause-ordered
returns-clause-ordered c =
    placed-from c.insert_reserved.result c.args.ways.now (ordered_of c.args.self.now) (ordered_of c.reserve.new.self)
    (ordered_of c.insert_reserved.new.self)
    c.reserve.ensures.same.ordered c.insert_reserved.ensures.ordered
