use Rattle.iddqd_order.proofs.Names.{◌≡◌, ◌∙◌, ◌-◌, [], ◌∷◌, ap, refl, subst, arith, rules, All, nil_from_length, IsChild}
use Rattle.std.proofs.lemmas.List.Sums.{sum_by_push}
use Rattle.iddqd_order.specs.Node.{inners}
use Rattle.iddqd_order.specs.Removal.{inners_of}
use Rattle.iddqd_order.proofs.NodeLemmas.{formed-inner}
use Rattle.iddqd_order.proofs.WeaveLemmas.{All-front}
use Rattle.iddqd_order.proofs.RecountLemmas.{inners-leaf, inners-inner}
use Rattle.iddqd_order.proofs.btree_table.node.Node.+dissolve.Goals as goal

pub returns-then-height-eq0-clause-given : goal.returns-then-height-eq0-clause-given
returns-then-height-eq0-clause-given t c = omega (arith, inners-leaf c.args.height c.args.self c.if-height-eq0.true)

pub loop-child-init : goal.loop-child-init
loop-child-init t c =
    let f = formed-inner c.args.height c.args.self c.if-height-eq0.false c.requires.formed in
    record {
      room = f.inner.has_room;
      formed = f.below;
      counted = omega (arith, c.requires.counted, inners-inner c.args.height c.args.self c.if-height-eq0.false);
      given = refl;
      reserved = refl;
    }

pub loop-child-preserved : goal.loop-child-preserved
loop-child-preserved t c =
    let i = c.loop-child.invariant in let last = c.in-Some.ensures.items in let given = c.dissolve.ensures.given in
    let all = ap (inners_of (c.args.height - 1)) last in
    let sum = sum_by_push (λ k. inners (c.args.height - 1) k) c.pop.new.self.items c.in-Some.child in
    record {
      room = rw c.pop.ensures.capacity i.room;
      formed =
          All-front (IsChild (c.args.height - 1)) c.pop.new.self.items (c.in-Some.child ∷ [])
          (subst (All (IsChild (c.args.height - 1))) last i.formed);
      counted = omega (arith, i.counted, all, sum, given);
      given = omega (arith, i.given, all, sum, given);
      reserved = c.dissolve.ensures.reserved ∙ i.reserved;
    }

pub returns-clause-given : goal.returns-clause-given
returns-clause-given t c =
    let i = c.loop-child.invariant in
    let none : c.loop-child.children.items ≡ [] = nil_from_length c.loop-child.children.items (search rules) in
    omega (arith, i.given, c.put_back.ensures.one_less, ap (inners_of (c.args.height - 1)) none, inners-inner c.args.height c.args.self c.if-height-eq0.false)
