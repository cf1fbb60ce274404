use Rattle.iddqd_hash.specs.{filed}
use Rattle.iddqd_groups.proofs.LinkLemmas.{head_under, none_under}
use Rattle.iddqd_groups.proofs.ChainLemmas.{IsStart, IsStart-head, IsStart-none, IsWalk-start}
use Rattle.iddqd_groups.proofs.linked_table.LinkedTable.indexes_under.Goals as goal
use Rattle.iddqd_groups.proofs.linked_table.LinkedTable.indexes_under.Goals.{in-Some, in-None}

pub invariant_of-result : goal.invariant_of-result
invariant_of-result c =
    let heads = filed c.self.inside.heads in
    let links = c.self.inside.links.items in
    let linked = c.self.invariant.linked in
    let hash = c.args.hash in
    let start : IsStart links hash c.match-next.result =
    elim c.match-next.branch [
      | in-Some w ↦
          let led = head_under heads hash _ w.in-Some.head _ c.indexes_under.ensures w.in-Some.ensures.steps in
          rw w.result-is (IsStart-head heads links linked hash w.in-Some.head led)
      | in-None w ↦
          let none = none_under heads hash _ c.indexes_under.ensures w.in-None.ensures.steps.0 in
          IsStart-none heads links linked hash _ none w.result-is
    ] in
    rw c.as_slice.ensures.value (IsWalk-start hash _ c.self.invariant start)

pub returns-clause-under : goal.returns-clause-under
returns-clause-under c =
    let heads = filed c.self.inside.heads in
    let links = c.self.inside.links.items in
    let linked = c.self.invariant.linked in
    let hash = c.args.hash in
    let start : IsStart links hash c.match-next.result =
    elim c.match-next.branch [
      | in-Some w ↦
          let led = head_under heads hash _ w.in-Some.head _ c.indexes_under.ensures w.in-Some.ensures.steps in
          rw w.result-is (IsStart-head heads links linked hash w.in-Some.head led)
      | in-None w ↦
          let none = none_under heads hash _ c.indexes_under.ensures w.in-None.ensures.steps.0 in
          IsStart-none heads links linked hash _ none w.result-is
    ] in
    rw (← c.self.view_is, c.as_slice.ensures.value) start.under

pub returns-clause-bound : goal.returns-clause-bound
returns-clause-bound c = rw (← c.self.view_is) c.self.invariant.counted
