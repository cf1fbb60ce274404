use Rattle.std.proofs.Common.{◌∙◌, ap, refl}
use Rattle.iddqd_c.specs.Rows.{number_of}
use Rattle.iddqd_c.proofs.keyed.inserts.report.Goals as goal

pub returns-in-Duplicate-clause-says : goal.returns-in-Duplicate-clause-says
returns-in-Duplicate-clause-says g c =
    let way = c.second_in_the_way in
    rw c.in-Duplicate.is (
      refl,
      c.conflict_of.ensures.first ∙ ap number_of c.first.ensures,
      (way.result, c.conflict_of.ensures.second, way.ensures.some, way.ensures.answers),
    )
