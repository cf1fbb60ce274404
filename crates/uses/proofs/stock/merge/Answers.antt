use Rattle.std.proofs.Common.{rules, ◌≡◌, ◌∙◌, inl, inr, Some, refl, sym, ap}
use Rattle.iddqd_maps.specs.Scan.{HasNoHit}
use Rattle.iddqd_maps.specs.Store.{rebound}
use Rattle.uses.specs.Stock.{same_kind, sum_of}
use Rattle.uses.proofs.UpdateLemmas.{merges_item}
use Rattle.uses.proofs.stock.merge.Goals as goal

pub unreachable-requires : goal.unreachable-requires
unreachable-requires c =
    let none : HasNoHit c.args.stock.now.store (same_kind c.args.part) =
    λ ix hit. (let ok = (c.in-Err-Duplicate.ensures.modifies ix hit).0 in cc) in
    let (back, scan, same) = rw c.in-Err-Duplicate.field-0-is at (c.in-Err-Duplicate.ensures.inserts none) in
    none c.in-Err-Duplicate.field-0-1 ((scan c.in-Err-Duplicate.field-0-1).1 refl)

pub returns-in-Ok-clause-added : goal.returns-in-Ok-clause-added
returns-in-Ok-clause-added c = λ none. (c.in-Ok.ensures.inserts none).stored

pub returns-in-Ok-clause-merged : goal.returns-in-Ok-clause-merged
returns-in-Ok-clause-merged c = λ ix was only.
    let s = c.args.stock.now.store in
    let (is, live, left) =
    merges_item _ _ _ (sum_of c.args.part) (λ was left called. search rules) _ _ _
    (c.in-Ok.ensures.modifies ix ((only.only ix).1 refl)).1 in
    let one : Some is ≡ Some was = sym live ∙ only.live in
    let same : is ≡ was = cc in
    left ∙ ap (λ p. rebound s ix (sum_of c.args.part p)) same

pub returns-in-Err-Full-clause-taken : goal.returns-in-Err-Full-clause-taken
returns-in-Err-Full-clause-taken c = λ ix was only.
    let none : HasNoHit c.args.stock.now.store (same_kind c.args.part) =
    λ ix hit. (let ok = (c.in-Err-Full.ensures.modifies ix hit).0 in cc) in
    absurd (none ix ((only.only ix).1 refl))

pub returns-in-Err-Full-clause-merged : goal.returns-in-Err-Full-clause-merged
returns-in-Err-Full-clause-merged c = λ ix was only.
    let none : HasNoHit c.args.stock.now.store (same_kind c.args.part) =
    λ ix hit. (let ok = (c.in-Err-Full.ensures.modifies ix hit).0 in cc) in
    absurd (none ix ((only.only ix).1 refl))

pub returns-in-Err-Full-clause-refused : goal.returns-in-Err-Full-clause-refused
returns-in-Err-Full-clause-refused c =
    let none : HasNoHit c.args.stock.now.store (same_kind c.args.part) =
    λ ix hit. (let ok = (c.in-Err-Full.ensures.modifies ix hit).0 in cc) in
    let out = rw c.in-Err-Full.field-0-is at (c.in-Err-Full.ensures.inserts none) in
    (out.given_back, none, inl out.full)

pub returns-in-Err-Memory-clause-taken : goal.returns-in-Err-Memory-clause-taken
returns-in-Err-Memory-clause-taken c = λ ix was only.
    let none : HasNoHit c.args.stock.now.store (same_kind c.args.part) =
    λ ix hit. (let ok = (c.in-Err-Memory.ensures.modifies ix hit).0 in cc) in
    absurd (none ix ((only.only ix).1 refl))

pub returns-in-Err-Memory-clause-merged : goal.returns-in-Err-Memory-clause-merged
returns-in-Err-Memory-clause-merged c = λ ix was only.
    let none : HasNoHit c.args.stock.now.store (same_kind c.args.part) =
    λ ix hit. (let ok = (c.in-Err-Memory.ensures.modifies ix hit).0 in cc) in
    absurd (none ix ((only.only ix).1 refl))

pub returns-in-Err-Memory-clause-refused : goal.returns-in-Err-Memory-clause-refused
returns-in-Err-Memory-clause-refused c =
    let none : HasNoHit c.args.stock.now.store (same_kind c.args.part) =
    λ ix hit. (let ok = (c.in-Err-Memory.ensures.modifies ix hit).0 in cc) in
    let out = rw c.in-Err-Memory.field-0-is at (c.in-Err-Memory.ensures.inserts none) in
    (out.given_back, none, inr out.no_room)
