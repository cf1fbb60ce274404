use Rattle.std.proofs.Common.{◌≤◌, ◌↔◌, inl, inr, ℕ, List, length, IsSome}
use Rattle.std.specs.List.{Contains}
use Rattle.iddqd_keys.specs.Scan.{IsHit}
use Rattle.iddqd_map.specs.PairConflict.{IsReportedBy, Reports, first_of, second_of}
use Rattle.iddqd_map.specs.PairLaws.{few_both, reported_both}
use Rattle.iddqd_map.proofs.pair.PairChanges.next_reported.Goals as goal

pub returns-clause-reported : goal.returns-clause-reported
returns-clause-reported g c = λ s item is ix.
    let at = c.args.conflict.now in
    let one : Reports g.A.KeyIndex.alike g.A.Changes.conflicts s item c.first.result = rw c.first.ensures is.first in
    let other : Reports g.B.KeyIndex.alike g.B.Changes.conflicts s item c.second.result =
    rw c.second.ensures is.second in
    let here : IsReportedBy g.A.Changes.reports (first_of at) ix ↔ IsHit s (g.A.KeyIndex.alike item) ix =
    rw (← c.first.ensures) (c.next_of-first.ensures.reported s item one ix) in
    let there : IsReportedBy g.B.Changes.reports (second_of at) ix ↔ IsHit s (g.B.KeyIndex.alike item) ix =
    rw (← c.second.ensures) (c.next_of-second.ensures.reported s item other ix) in
    reported_both g.A.KeyIndex.alike g.B.KeyIndex.alike s item (IsReportedBy g.A.Changes.reports (first_of at))
    (IsReportedBy g.B.Changes.reports (second_of at)) ix here there

pub returns-clause-some : goal.returns-clause-some
returns-clause-some g c = λ s item is.
    let at = c.args.conflict.now in
    let one : Reports g.A.KeyIndex.alike g.A.Changes.conflicts s item c.first.result = rw c.first.ensures is.first in
    let other : Reports g.B.KeyIndex.alike g.B.Changes.conflicts s item c.second.result =
    rw c.second.ensures is.second in
    let here : IsSome (first_of at) → (ix : ℕ) × IsReportedBy g.A.Changes.reports (first_of at) ix =
    rw (← c.first.ensures) (c.next_of-first.ensures.some s item one) in
    let there : IsSome (second_of at) → (ix : ℕ) × IsReportedBy g.B.Changes.reports (second_of at) ix =
    rw (← c.second.ensures) (c.next_of-second.ensures.some s item other) in
    elim is.some [
      | inl some ↦ let (ix, reported) = here some in (ix, inl reported)
      | inr some ↦ let (ix, reported) = there some in (ix, inr reported)
    ]

pub returns-clause-few : goal.returns-clause-few
returns-clause-few g c =
    let at = c.args.conflict.now in
    let one :
    (l : List ℕ) × (length l ≤ g.A.KeyIndex.unique_keys)
    × ((ix : ℕ) → IsReportedBy g.A.Changes.reports (first_of at) ix → Contains l ix) =
    rw (← c.first.ensures) c.next_of-first.ensures.few in
    let other :
    (l : List ℕ) × (length l ≤ g.B.KeyIndex.unique_keys)
    × ((ix : ℕ) → IsReportedBy g.B.Changes.reports (second_of at) ix → Contains l ix) =
    rw (← c.second.ensures) c.next_of-second.ensures.few in
    few_both (IsReportedBy g.A.Changes.reports (first_of at)) (IsReportedBy g.B.Changes.reports (second_of at))
    g.A.KeyIndex.unique_keys g.B.KeyIndex.unique_keys one other
