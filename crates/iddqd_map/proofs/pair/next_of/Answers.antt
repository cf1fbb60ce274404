use Rattle.std.proofs.Common.{◌≡◌, ◌↔◌, ℕ, Bool, Option, Some, None}
use Rattle.iddqd.specs.Store.{Store}
use Rattle.iddqd_keys.specs.Scan.{IsHit}
use Rattle.iddqd_map.specs.PairConflict.{IsReportedBy, Reports}
use Rattle.iddqd_map.proofs.pair.next_of.Goals as goal

-- what reported nothing reports no hit, and there is none
none_reported :
    {T C : Type 0} (reports : C → ℕ → Type 0) (alike : T → T → Bool) (conflicts : Store T → T → C → Type 0)
    (s : Store T) (item : T) (found : Option C)
    → found ≡ None
    → Reports alike conflicts s item found
    → (ix : ℕ)
    → IsReportedBy reports found ix ↔ IsHit s (alike item) ix
none_reported reports alike conflicts s item None is none ix = (λ reported. absurd reported, λ hit. none ix hit)
none_reported reports alike conflicts s item (Some at) is none ix = absurd (cc)

pub returns-in-None-clause-reported : goal.returns-in-None-clause-reported
returns-in-None-clause-reported g c = λ s item none ix.
    none_reported g.X.Changes.reports g.X.KeyIndex.alike g.X.Changes.conflicts s item c.args.conflict c.in-None.is none
    ix
