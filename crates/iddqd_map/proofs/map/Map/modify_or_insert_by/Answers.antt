use Rattle.std.proofs.Common.{◌≡◌, refl, sym, ap, subst}
use Rattle.std.specs.Prelude.{Ok}
use Rattle.iddqd_keys.specs.Scan.{IsLive}
use Rattle.iddqd_map.specs.Map.{MapState}
use Rattle.iddqd_map.specs.PairLaws.{reports_none}
use Rattle.iddqd_map.specs.Upsert.{MergesAt}
use Rattle.iddqd_map.proofs.FoundLemmas.{hit_live}
use Rattle.iddqd_map.proofs.map.Map.modify_or_insert_by.Goals as goal

pub merge_at-requires-clause-live : goal.merge_at-requires-clause-live
merge_at-requires-clause-live g c =
    let old = c.args.self.now in
    let (back, reported, same) = rw c.in-Err-Duplicate.field-0-is at c.in-Err-Duplicate.ensures.inserts in
    let scan = c.in-Some.ensures old.store c.args.item reported in
    subst (λ (m : MapState _). IsLive m.store c.in-Some.ix) (sym same) (hit_live old.store _ c.in-Some.ix scan)

pub merge_at-requires-clause-callable : goal.merge_at-requires-clause-callable
merge_at-requires-clause-callable g c = λ was live.
    let (back, reported, same) = rw c.in-Err-Duplicate.field-0-is at c.in-Err-Duplicate.ensures.inserts in
    let scan = c.in-Some.ensures c.args.self.now.store c.args.item reported in
    rw back (c.requires.callable was (c.in-Some.ix, record { live = rw same at live; only = scan }))

pub merge_at-requires-clause-keeps : goal.merge_at-requires-clause-keeps
merge_at-requires-clause-keeps g c = λ was live.
    let (back, reported, same) = rw c.in-Err-Duplicate.field-0-is at c.in-Err-Duplicate.ensures.inserts in
    let scan = c.in-Some.ensures c.args.self.now.store c.args.item reported in
    rw back (c.requires.keeps was (c.in-Some.ix, record { live = rw same at live; only = scan }))

pub returns-in-Some-clause-modifies : goal.returns-in-Some-clause-modifies
returns-in-Some-clause-modifies g c = λ ix hit.
    let old = c.args.self.now in
    let (back, reported, same) = rw c.in-Err-Duplicate.field-0-is at c.in-Err-Duplicate.ensures.inserts in
    let scan = c.in-Some.ensures old.store c.args.item reported in
    let at : ix ≡ c.in-Some.ix = (scan ix).0 hit in (
      ap Ok (sym at),
      rw at
          (subst (λ m. MergesAt g.F.FnOnce c.args.f c.args.item m c.in-Some.ix c.merge_at.new.self) same
          (subst (λ i. MergesAt g.F.FnOnce c.args.f i c.insert_unique.new.self c.in-Some.ix c.merge_at.new.self) back
          c.merge_at.ensures)),
    )

pub returns-in-Some-clause-inserts : goal.returns-in-Some-clause-inserts
returns-in-Some-clause-inserts g c = λ none.
    let (back, reported, same) = rw c.in-Err-Duplicate.field-0-is at c.in-Err-Duplicate.ensures.inserts in
    let scan = c.in-Some.ensures c.args.self.now.store c.args.item reported in
    absurd (none c.in-Some.ix ((scan c.in-Some.ix).1 refl))

pub returns-in-None-clause-modifies : goal.returns-in-None-clause-modifies
returns-in-None-clause-modifies g c = λ ix hit.
    let (back, reported, same) = rw c.in-Err-Duplicate.field-0-is at c.in-Err-Duplicate.ensures.inserts in
    absurd (c.in-None.ensures c.args.self.now.store c.args.item reported ix hit)

pub returns-in-Ok-clause-modifies : goal.returns-in-Ok-clause-modifies
returns-in-Ok-clause-modifies g c = λ ix hit.
    absurd (reports_none g.X.KeyIndex.alike g.X.ReportsAt.alike_at g.met.X.ReportsAt.alike_there c.args.self.now.store c.args.item c.in-Ok.ensures.inserts.no_conflict ix hit)

pub returns-in-Err-Full-clause-modifies : goal.returns-in-Err-Full-clause-modifies
returns-in-Err-Full-clause-modifies g c = λ ix hit.
    let out = rw c.in-Err-Full.field-0-is at c.in-Err-Full.ensures.inserts in
    absurd (reports_none g.X.KeyIndex.alike g.X.ReportsAt.alike_at g.met.X.ReportsAt.alike_there c.args.self.now.store c.args.item out.no_conflict ix hit)

pub returns-in-Err-Memory-clause-modifies : goal.returns-in-Err-Memory-clause-modifies
returns-in-Err-Memory-clause-modifies g c = λ ix hit.
    let out = rw c.in-Err-Memory.field-0-is at c.in-Err-Memory.ensures.inserts in
    absurd (reports_none g.X.KeyIndex.alike g.X.ReportsAt.alike_at g.met.X.ReportsAt.alike_there c.args.self.now.store c.args.item out.no_conflict ix hit)
