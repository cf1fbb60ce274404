use Rattle.std.proofs.Common.{◌∙◌, inl, refl}
use Rattle.iddqd.proofs.LiveLemmas.{get-inserted_at}
use Rattle.iddqd.specs.Store.{get}
use Rattle.iddqd_c.specs.Keys.{IsEntry}
use Rattle.iddqd_c.specs.declared.entry.Entry.{Entry}
use Rattle.iddqd_c.proofs.InsertLemmas.{are_new, refused}
use Rattle.iddqd_c.proofs.keyed.inserts.store.Goals as goal

pub returns-in-Ok-insert_unique-clause-inserts : goal.returns-in-Ok-insert_unique-clause-inserts
returns-in-Ok-insert_unique-clause-inserts g c =
    let out = c.in-Ok-insert_unique.ensures in
    let old = c.args.keyed.now.entries in
    let entry : Entry = record { first = record { bytes = c.in-Ok.bytes }; second = c.args.second; value = c.args.value } in
    let is : IsEntry c.args.key.now c.args.second c.args.value entry =
    record { has_bytes = c.in-Ok.ensures.items; has_second = refl; has_value = refl } in
    let index = c.as_u32.ensures ∙ out.index in
    inl (
      refl,
      record {
        entry = entry;
        is_entry = is;
        new_keys = are_new g.B.SecondKey.taken g.B.KeyIndex.alike g.met.B.SecondKey.alike_is_taken c.args.key.now c.args.second c.args.value entry is old
            out.inserts.no_conflict;
        not_full = out.inserts.not_full;
        index = index;
        stored = out.stored;
        live = (λ i. get (out.stored i) (index i)) ∙ get-inserted_at old.store entry c.len-count.ensures.state.valid;
      },
    )

pub returns-in-Err-clause-inserts : goal.returns-in-Err-clause-inserts
returns-in-Err-clause-inserts g c =
    let entry : Entry = record { first = record { bytes = c.in-Ok.bytes }; second = c.args.second; value = c.args.value } in
    let is : IsEntry c.args.key.now c.args.second c.args.value entry =
    record { has_bytes = c.in-Ok.ensures.items; has_second = refl; has_value = refl } in
    refused g.B.SecondKey.taken g.B.KeyIndex.alike g.met.B.SecondKey.alike_is_taken c.args.key.now c.args.second c.args.value entry is
    g.B.Changes.conflicts _ c.report.result c.args.at.now c.report.new.found c.in-Err.refusal c.args.keyed.now.entries
    c.insert_unique.new.self c.report.ensures.says c.in-Err.ensures.inserts
