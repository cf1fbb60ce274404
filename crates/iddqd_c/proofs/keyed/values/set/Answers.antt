use Rattle.std.proofs.Common.{rules, ◌≡◌, ◌∙◌, inl, refl, ap}
use Rattle.iddqd.specs.Store.{rebound}
use Rattle.iddqd_c.specs.Entries.{with_value}
use Rattle.iddqd_c.specs.declared.entry.Entry.{Entry}
use Rattle.iddqd_c.proofs.keyed.values.set.Goals as goal

pub modify_at-requires : goal.modify_at-requires
modify_at-requires g c item live = (
  tt,
  λ u left same i.
      ((same i).first, g.met.B.SecondKey.files_by_second left.now item.now (ap (λ (e : Entry). e.second) same) i),
)

pub returns-in-Some : goal.returns-in-Some
returns-in-Some g c =
    let (modified, memory) = c.in-Some.ensures.modifies in
    let set : modified.is ≡ with_value modified.was c.args.value = search (rules, modified.called) in
    inl (refl, memory, (modified.was, modified.live, modified.left ∙ ap (rebound c.args.keyed.now.entries.store c.args.ix) set))
