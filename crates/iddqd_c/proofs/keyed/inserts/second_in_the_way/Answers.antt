use Rattle.std.proofs.Common.{◌∙◌, sym, subst}
use Rattle.iddqd_map.specs.PairConflict.{Reports}
use Rattle.iddqd_c.proofs.keyed.inserts.second_in_the_way.Goals as goal

pub returns-in-Some-clause-answers : goal.returns-in-Some-clause-answers
returns-in-Some-clause-answers g c s entry reports =
    c.reported.ensures s entry (subst (Reports g.B.KeyIndex.alike g.B.Changes.conflicts s entry) (sym c.in-Some.ensures) reports)

pub returns-in-None-clause-answers : goal.returns-in-None-clause-answers
returns-in-None-clause-answers g c s entry reports ix (other, live, passes) =
    let none = subst (Reports g.B.KeyIndex.alike g.B.Changes.conflicts s entry) (sym c.in-None.ensures) reports in
    none ix (other, live, g.met.B.SecondKey.alike_is_taken entry other ∙ passes)
