use Rattle.std.proofs.Common.{◌≡◌, ◌-◌, [], ◌∷◌, None, Some, refl, ap, subst, arith}
use Rattle.std.specs.Prelude.{Ok, Err}
use Rattle.iddqd.specs.Store.{IsValid, slot_count}
use Rattle.iddqd_map.specs.Append.{AppendsItem, GivesMove, ReportsMoves}
use Rattle.iddqd_map.specs.Map.{MapState}
use Rattle.iddqd_map.proofs.AppendLemmas.{AppendLeaves, Appending-first, Appending-step, Appending-all, Appending-stops, Appending-stores, CanReport-after, CanReport-may, Reporting-first, Reporting-step, ReportsMoves-all}
use Rattle.iddqd_map.proofs.map.Map.append.Given.{Over}
use Rattle.iddqd_map.proofs.map.Map.append.Goals as goal

pub loop-at-init : goal.loop-at-init
loop-at-init g c =
    let other = ap (λ (m : MapState _). m.store) c.other.view_is in
    record {
      appending = Appending-first g.X.KeyIndex.alike g.X.KeyIndex.grown c.args.self.now c.args.other.now
          c.len-before.ensures.state.valid (subst IsValid other c.other.invariant.valid);
      reporting = Reporting-first g.X.KeyIndex.alike g.X.KeyIndex.grown (GivesMove g.F.FnMut) c.args.moved c.args.self.now
          c.args.other.now;
      can = CanReport-may g.F.FnMut c.args.moved c.requires;
    }

pub append_reported-requires : goal.append_reported-requires
append_reported-requires g c = λ at. (c.loop-at.invariant.can ((c.new-from.result, at) ∷ [])).0

pub loop-at-preserved : goal.loop-at-preserved
loop-at-preserved g c =
    let i = c.loop-at.invariant in
    let (to, did, reports) = rw c.in_default.is at c.append_reported.ensures.moved in
    record {
      appending = Appending-step g.X.KeyIndex.alike g.X.KeyIndex.grown c.args.self.now c.args.other.now c.loop-at.self
          c.loop-at.other c.loop-at.at i.appending c.append_reported.new.self c.append_reported.new.other c.new-from.result to
          did c.new-from.ensures;
      reporting = Reporting-step g.X.KeyIndex.alike g.X.KeyIndex.grown (GivesMove g.F.FnMut) c.args.moved c.args.self.now
          c.args.other.now c.loop-at.self c.loop-at.other c.loop-at.at c.loop-at.moved i.appending i.reporting
          c.append_reported.new.self c.append_reported.new.other c.new-from.result to c.append_reported.new.moved did reports
          c.new-from.ensures;
      can = CanReport-after g.F.FnMut c.loop-at.moved c.new-from.result to c.append_reported.new.moved i.can reports;
    }

-- what is there after a refusal
stops :
    (g : Over) (c : goal.After-len g)
    → AppendLeaves g.X.KeyIndex.alike g.X.KeyIndex.grown c.args.self.now c.args.other.now
    (Err (record { moved = c.len.result - c.len-before.result; error = c.in-Err.error })) c.append_reported.new.self
    c.append_reported.new.other
stops g c =
    Appending-stops g.X.KeyIndex.alike g.X.KeyIndex.grown c.args.self.now c.args.other.now c.loop-at.self c.loop-at.other
    c.loop-at.at c.len-before.ensures.state.valid c.loop-at.invariant.appending c.len-before.result c.len.result
    c.len-before.ensures.value c.append_reported.new.self c.append_reported.new.other c.new-from.result c.in-Err.error c.in-Err.ensures.refused.1
    c.new-from.ensures c.len.ensures.value

-- what is there after all slots
goes_over :
    (g : Over) (c : goal.After-len-2 g)
    → AppendLeaves g.X.KeyIndex.alike g.X.KeyIndex.grown c.args.self.now c.args.other.now
    (Ok (c.len-2.result - c.len-before.result)) c.loop-at.self c.loop-at.other
goes_over g c =
    let other = ap (λ (m : MapState _). slot_count m.store) c.other.view_is in
    Appending-all g.X.KeyIndex.alike g.X.KeyIndex.grown c.args.self.now c.args.other.now c.loop-at.self c.loop-at.other
    c.loop-at.at c.len-before.ensures.state.valid c.loop-at.invariant.appending c.len-before.result c.len-2.result
    c.len-before.ensures.value c.len-2.ensures.value (omega (arith, other))

pub overflow_sub-result : goal.overflow_sub-result
overflow_sub-result g c = omega (arith, (stops g c).count)

pub overflow_sub-result-2 : goal.overflow_sub-result-2
overflow_sub-result-2 g c = omega (arith, (goes_over g c).count)

pub returns-in-Err-clause-reported : goal.returns-in-Err-clause-reported
returns-in-Err-clause-reported g c =
    let (same, same_from) =
    Appending-stores g.X.KeyIndex.alike g.X.KeyIndex.grown c.args.self.now c.args.other.now c.loop-at.self c.loop-at.other
    c.loop-at.at c.len-before.ensures.state.valid c.loop-at.invariant.appending c.len-before.result c.len.result
    c.len-before.ensures.value c.append_reported.new.self c.append_reported.new.other c.new-from.result c.in-Err.error c.in-Err.ensures.refused.1
    c.new-from.ensures in (
      c.append_reported.new.moved,
      ReportsMoves-all g.X.KeyIndex.alike g.X.KeyIndex.grown (GivesMove g.F.FnMut) c.args.moved c.args.self.now
          c.args.other.now c.loop-at.self c.loop-at.other c.loop-at.at c.append_reported.new.moved c.append_reported.new.self
          c.append_reported.new.other (c.len.result - c.len-before.result)
          (rw c.in-Err.ensures.refused.0 c.loop-at.invariant.reporting) same same_from
          (stops g c.before).left,
    )

pub returns-clause-reported : goal.returns-clause-reported
returns-clause-reported g c = (
  c.loop-at.moved,
  ReportsMoves-all g.X.KeyIndex.alike g.X.KeyIndex.grown (GivesMove g.F.FnMut) c.args.moved c.args.self.now c.args.other.now
      c.loop-at.self c.loop-at.other c.loop-at.at c.loop-at.moved c.loop-at.self c.loop-at.other
      (c.len-2.result - c.len-before.result) c.loop-at.invariant.reporting refl refl (goes_over g c.before).left,
)

pub returns-in-Err-clause-appends : goal.returns-in-Err-clause-appends
returns-in-Err-clause-appends g c = (stops g c.before).appends

pub returns-in-Err-clause-count : goal.returns-in-Err-clause-count
returns-in-Err-clause-count g c = (stops g c.before).count

pub returns-in-Err-clause-left : goal.returns-in-Err-clause-left
returns-in-Err-clause-left g c = (stops g c.before).left

pub returns-in-Err-clause-others : goal.returns-in-Err-clause-others
returns-in-Err-clause-others g c = (stops g c.before).others

pub returns-in-Err-clause-stay : goal.returns-in-Err-clause-stay
returns-in-Err-clause-stay g c = (stops g c.before).stay

pub returns-in-Err-clause-kept : goal.returns-in-Err-clause-kept
returns-in-Err-clause-kept g c = (stops g c.before).kept

pub returns-in-Err-clause-full : goal.returns-in-Err-clause-full
returns-in-Err-clause-full g c = (stops g c.before).full

pub returns-in-Err-clause-not_refused : goal.returns-in-Err-clause-not_refused
returns-in-Err-clause-not_refused g c = (stops g c.before).not_refused

pub returns-clause-appends : goal.returns-clause-appends
returns-clause-appends g c = (goes_over g c.before).appends

pub returns-clause-count : goal.returns-clause-count
returns-clause-count g c = (goes_over g c.before).count

pub returns-clause-left : goal.returns-clause-left
returns-clause-left g c = (goes_over g c.before).left

pub returns-clause-others : goal.returns-clause-others
returns-clause-others g c = (goes_over g c.before).others

pub returns-clause-stay : goal.returns-clause-stay
returns-clause-stay g c = (goes_over g c.before).stay

pub returns-clause-kept : goal.returns-clause-kept
returns-clause-kept g c = (goes_over g c.before).kept

pub returns-clause-conflicts : goal.returns-clause-conflicts
returns-clause-conflicts g c = (goes_over g c.before).conflicts
