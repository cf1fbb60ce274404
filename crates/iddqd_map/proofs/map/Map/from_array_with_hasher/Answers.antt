use Rattle.std.proofs.Common.{◌∙◌, ap, length, sym}
use Rattle.std.specs.Array.Iter.{array_into_iter_items}
use Rattle.std.proofs.lemmas.List.{nil_from_length}
use Rattle.iddqd_map.specs.Map.{MapState}
use Rattle.iddqd_map.proofs.BulkLemmas.{made_all, made_refused, made_with}
use Rattle.iddqd_map.proofs.map.Map.from_array_with_hasher.Goals as goal

pub returns-in-None-clause-items : goal.returns-in-None-clause-items
returns-in-None-clause-items g c =
    let (taken, did) = c.in-None.ensures.inserts in
    let none = c.reserve-reserved.ensures.store ∙ ap (λ (m : MapState _). m.store) c.with_hasher-map.ensures in
    (made_all _ array_into_iter_items (λ s t x step. step) (λ s t end. nil_from_length _ end.0)
    g.X.KeyIndex.alike g.X.KeyIndex.grown g.X.Changes.conflicts _ _ _ c.into_iter-iter.ensures.into_iter_gives.0 _ _ none taken did).0

pub returns-in-None-clause-count : goal.returns-in-None-clause-count
returns-in-None-clause-count g c =
    let (taken, did) = c.in-None.ensures.inserts in
    let none = c.reserve-reserved.ensures.store ∙ ap (λ (m : MapState _). m.store) c.with_hasher-map.ensures in
    (made_all _ array_into_iter_items (λ s t x step. step) (λ s t end. nil_from_length _ end.0)
    g.X.KeyIndex.alike g.X.KeyIndex.grown g.X.Changes.conflicts _ _ _ c.into_iter-iter.ensures.into_iter_gives.0 _ _ none taken did).1

pub returns-in-None-clause-memory : goal.returns-in-None-clause-memory
returns-in-None-clause-memory g c =
    let (taken, did) = c.in-None.ensures.inserts in
    let none = c.reserve-reserved.ensures.store ∙ ap (λ (m : MapState _). m.store) c.with_hasher-map.ensures in
    made_with _ array_into_iter_items (λ s t x step. step) (λ s t end. nil_from_length _ end.0)
    g.X.KeyIndex.alike g.X.KeyIndex.grown g.X.Changes.conflicts _ _ _ c.into_iter-iter.ensures.into_iter_gives.0 _ _
    none taken
    _ _ c.with_hasher-map.ensures (sym c.into_iter-iter.ensures.into_iter_gives.1 ∙ ap length
    c.into_iter-iter.ensures.into_iter_gives.0) c.reserve-reserved.ensures did

pub returns-in-Some-clause-refused : goal.returns-in-Some-clause-refused
returns-in-Some-clause-refused g c =
    let (taken, did) = c.in-Some.ensures.inserts in
    let none = c.reserve-reserved.ensures.store ∙ ap (λ (m : MapState _). m.store) c.with_hasher-map.ensures in
    made_refused _ array_into_iter_items (λ s t x step. step) (λ s t end. nil_from_length _ end.0)
    g.X.KeyIndex.alike g.X.KeyIndex.grown g.X.Changes.conflicts _ _ _ c.into_iter-iter.ensures.into_iter_gives.0 _ _ none taken c.in-Some.refusal did
