use Rattle.std.proofs.Common.{rules, ◌⊎◌, false, inl, inr, IsSome, refl, sym}
use Rattle.std.specs.Prelude.{◌||◌}
use Rattle.iddqd_keys.specs.Scan.{IsLive}
use Rattle.iddqd_map.specs.Several.{both_keys, either_key}
use Rattle.iddqd_c.proofs.AnswerLemmas.{alike_first}
use Rattle.iddqd_c.proofs.ReplaceLemmas.{alone, stays, taken_both}
use Rattle.iddqd_c.proofs.keyed.replaces.rebind.Goals as goal
use Rattle.iddqd_c.proofs.keyed.replaces.rebind.Goals.{then-is_some-via-then-is_some, then-is_some-via-else-is_some+then-is_some-2}

pub returns-then-is_some-clause-replaces : goal.returns-then-is_some-clause-replaces
returns-then-is_some-clause-replaces g c =
    let store = c.args.keyed.now.entries.store in
    let live : IsLive store c.args.ix = search (rules, c.get_at.ensures, c.if-is_none.false) in
    let some : IsSome c.other_than-first_at.result ⊎ IsSome c.other_than-second_at.result =
    elim c.then-is_some.branch [
      | then-is_some-via-then-is_some w ↦ inl (search (rules, w.if-is_some))
      | then-is_some-via-else-is_some+then-is_some-2 w ↦ inr (search (rules, w.if-is_some-2))
    ]
    in
    inr (inr (inl (
      refl,
      record {
        live = live;
        first = c.other_than-first_at.result;
        other = c.other_than-second_at.result;
        first_number = c.conflict_of.ensures.first;
        other_number = c.conflict_of.ensures.second;
        some = some;
        by_first = c.other_than-first_at.ensures store _ c.find_by.ensures;
        by_second = c.other_than-second_at.ensures store _ c.in_the_way.ensures;
      },
      refl,
    )))

pub returns-in_default-clause-replaces : goal.returns-in_default-clause-replaces
returns-in_default-clause-replaces g c =
    let store = c.args.keyed.now.entries.store in
    let live : IsLive store c.args.ix = search (rules, c.get_at.ensures, c.if-is_none.false) in
    inr (inr (inr (
      refl,
      alone _ c.args.ix c.args.key.now c.args.second c.args.keyed.now.entries _ _ live (sym c.if-is_some.ensures) (sym c.if-is_some-2.ensures)
          (c.other_than-first_at.ensures store _ c.find_by.ensures) (c.other_than-second_at.ensures store _ c.in_the_way.ensures),
      refl,
    )))

pub returns-in-Ok-replace_at-clause-replaces : goal.returns-in-Ok-replace_at-clause-replaces
returns-in-Ok-replace_at-clause-replaces g c =
    let store = c.args.keyed.now.entries.store in
    let live : IsLive store c.args.ix = search (rules, c.get_at.ensures, c.if-is_none.false) in
    let out = c.in-Ok-replace_at.ensures.replaces.1 in
    inl (
      refl,
      alone _ c.args.ix c.args.key.now c.args.second c.args.keyed.now.entries _ _ live (sym c.if-is_some.ensures) (sym c.if-is_some-2.ensures)
          (c.other_than-first_at.ensures store _ c.find_by.ensures) (c.other_than-second_at.ensures store _ c.in_the_way.ensures),
      record {
        entry = record { first = record { bytes = c.in-Ok.bytes }; second = c.args.second; value = c.args.value };
        is_entry = record { has_bytes = c.in-Ok.ensures.items; has_second = refl; has_value = refl };
        left = out.left;
        memory = out.memory;
      },
    )

pub returns-in-Err-clause-replaces : goal.returns-in-Err-clause-replaces
returns-in-Err-clause-replaces g c =
    let store = c.args.keyed.now.entries.store in
    let live : IsLive store c.args.ix = search (rules, c.get_at.ensures, c.if-is_none.false) in
    inr (inr (inr (
      refl,
      alone _ c.args.ix c.args.key.now c.args.second c.args.keyed.now.entries _ _ live (sym c.if-is_some.ensures) (sym c.if-is_some-2.ensures)
          (c.other_than-first_at.ensures store _ c.find_by.ensures) (c.other_than-second_at.ensures store _ c.in_the_way.ensures),
      stays (either_key alike_first g.B.KeyIndex.alike) (both_keys alike_first g.B.KeyIndex.same_keys)
          (false || g.B.KeyIndex.may_need_memory)
          (taken_both g.B.KeyIndex.alike g.B.Moves.taken) c.args.keyed.now.entries c.replace_at.new.self c.args.ix _ c.in-Err._refusal c.in-Err.ensures.replaces,
    )))
