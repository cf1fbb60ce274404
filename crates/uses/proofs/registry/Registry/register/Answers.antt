use Rattle.std.proofs.Common.{rules, Some, refl}
use Rattle.std.specs.Str.{bytes_eq}
use Rattle.std.specs.String.{string_bytes}
use Rattle.iddqd_maps.specs.Scan.{AnswersScan}
use Rattle.uses.specs.declared.registry.Entry.{Entry}
use Rattle.uses.proofs.RegistryLemmas.{hit_named, contained_hit, IsDense-inserted, names_of-inserted, full_counted, counted_full}
use Rattle.uses.proofs.registry.Registry.register.Goals as goal

pub invariant_of-self : goal.invariant_of-self
invariant_of-self c =
    rw c.in-Ok.ensures.inserts.stored
    (IsDense-inserted c.self.inside.entries.store c.self.invariant (record { name = c.args.name }))

pub returns-in-Ok-clause-registered : goal.returns-in-Ok-clause-registered
returns-in-Ok-clause-registered c =
    let out = c.in-Ok.ensures.inserts in
    rw (out.stored, ← c.self.view_is)
    (names_of-inserted c.self.inside.entries.store c.self.invariant (record { name = c.args.name }))

pub returns-in-Ok-clause-was_new : goal.returns-in-Ok-clause-was_new
returns-in-Ok-clause-was_new c = λ _ here.
    let named = rw (← c.self.view_is) at here in
    let hit = contained_hit c.self.inside.entries.store c.self.invariant (string_bytes c.args.name) named in
    c.in-Ok.ensures.inserts.no_conflict hit.0 hit.1

pub returns-in-Err-Duplicate-clause-refused : goal.returns-in-Err-Duplicate-clause-refused
returns-in-Err-Duplicate-clause-refused c =
    let s = c.self.inside.entries.store in
    let name = string_bytes c.args.name in
    let at = c.in-Err-Duplicate.at in
    let scan : AnswersScan s (λ (entry : Entry). bytes_eq name (string_bytes entry.name)) (Some at) =
    search (rules, c.in-Err-Duplicate.ensures.inserts) in
    rw (← c.self.view_is) (hit_named s c.self.invariant name at ((scan at).1 refl))

pub returns-in-Err-Full-clause-refused : goal.returns-in-Err-Full-clause-refused
returns-in-Err-Full-clause-refused c =
    let s = c.self.inside.entries.store in
    let out = rw c.in-Err-Full.field-0-is at c.in-Err-Full.ensures.inserts in
    rw (← c.self.view_is) (
      λ here. (let hit = contained_hit s c.self.invariant (string_bytes c.args.name) here in out.no_conflict hit.0 hit.1),
      full_counted s c.self.invariant out.full,
    )

pub returns-clause-refused : goal.returns-clause-refused
returns-clause-refused c =
    let s = c.self.inside.entries.store in
    let out = rw c.in-Err-Memory.field-0-is at c.in-Err-Memory.ensures.inserts in
    rw (← c.self.view_is) (
      λ here. (let hit = contained_hit s c.self.invariant (string_bytes c.args.name) here in out.no_conflict hit.0 hit.1),
      λ counted. out.not_full (counted_full s c.self.invariant counted),
    )
