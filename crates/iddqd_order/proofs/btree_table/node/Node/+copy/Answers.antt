use Rattle.std.proofs.Common.{arith}
use Rattle.std.proofs.lemmas.Grind.{common_steps}
use Rattle.iddqd_order.proofs.Names.{rules, ◌≡◌, ◌∙◌, ◌-◌, ◌<◌, ◌≤◌, length, vec_len, sym, ap, arith, take_all, roll-Node, IsCopy, get_or, children}
use Rattle.std.proofs.lemmas.List.Elements.{all_zip_more, AllZip-get_or, length_all_zip}
use Rattle.iddqd_order.proofs.MendLemmas.{arity-most}
use Rattle.iddqd_order.proofs.NodeRenameLemmas.{copied}
use Rattle.iddqd_order.proofs.NodeLemmas.{formed-inner, formed-leaf, row-roll, children-roll, room-roll}
use Rattle.iddqd_order.proofs.btree_table.node.Node.+copy.Goals as goal

pub returns-then-height-eq0 : goal.returns-then-height-eq0
returns-then-height-eq0 t c =
    let none = (formed-leaf c.args.height c.args.self.now c.if-height-eq0.true c.requires).childless in
    let empty = ap length none in
    copied c.args.height c.args.self.now (roll-Node _) c.requires (row-roll _ ∙ c.copy.ensures)
    (rw c.if-height-eq0.true (omega arith)) (ap length (children-roll _ ∙ c.new.ensures.items ∙ sym none))
    (λ j d lt. absurd (omega arith))

pub copy-requires-in-loop-i : goal.copy-requires-in-loop-i
copy-requires-in-loop-i t c =
    let is : c.index.result.now ≡ get_or (children c.args.self.now) c.loop-i.i c.index.result.now = search rules in
    (omega arith, rw is ((formed-inner c.args.height c.args.self.now c.if-height-eq0.false c.requires).below c.loop-i.i c.index.result.now (search rules)).1)

pub push_reserved-requires : goal.push_reserved-requires
push_reserved-requires t c =
    let inner = (formed-inner c.args.height c.args.self.now c.if-height-eq0.false c.requires).inner in
    let few = inner.within in
    let one = inner.one_more in
    let lt : c.loop-i.i < length (children c.args.self.now) = search rules in let room = c.loop-i.invariant.room in
    let count : vec_len c.loop-i.children ≡ c.loop-i.i = search (rules, c.loop-i.invariant.count) in
    omega arith

pub loop-i-preserved : goal.loop-i-preserved
loop-i-preserved t c =
    record {
      room = rw c.push_reserved.ensures.capacity c.loop-i.invariant.room;
      count = search rules;
      done = rw c.push_reserved.ensures.items (all_zip_more (IsCopy (c.args.height - 1)) (children c.args.self.now) c.loop-i.children.items c.loop-i.i c.index.result.now c.in_ok-copy.field-0 (search rules) (search rules) c.loop-i.invariant.done c.in_ok-copy.ensures);
    }

pub returns : goal.returns
returns t c =
    let n = c.args.self.now in
    let over : length (children n) ≤ c.loop-i.i = search rules in
    let done = rw (take_all c.loop-i.i (children n) over) at c.loop-i.invariant.done in
    copied c.args.height n (roll-Node _) c.requires (row-roll _ ∙ c.copy-2.ensures)
    (rw room-roll (omega (arith, arity-most c.args.height 11, c.loop-i.invariant.room)))
    (ap length (children-roll _) ∙ sym (length_all_zip (IsCopy (c.args.height - 1)) (children n) c.loop-i.children.items done))
    (λ j d lt. rw (children-roll _) (AllZip-get_or (IsCopy (c.args.height - 1)) (children n) c.loop-i.children.items j d d done lt))

pub loop-i-init : goal.loop-i-init
loop-i-init t c = grind (arith, common_steps)
