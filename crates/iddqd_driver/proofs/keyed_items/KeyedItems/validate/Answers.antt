use Rattle.std.proofs.Common.{◌∙◌, length, IfErr, refl, sym, subst}
use Rattle.std.proofs.lemmas.Result.{err_from_is_err_and}
use Rattle.iddqd.specs.Validation.{Allows, AreAsExpected, IsMemory}
use Rattle.iddqd_hash.specs.MapHashTable.{indexes_of}
use Rattle.iddqd_driver.specs.State.{state_of}
use Rattle.iddqd_driver.proofs.ValidationLemmas.{AreAsExpected-filed, AreAsExpected-order, IsMemory-with_table_name, Validates-refused, Validates-or_memory, Validates-also, AreStored-paired, not_ok, one_way}
use Rattle.iddqd_driver.proofs.keyed_items.KeyedItems.validate.Goals.{After-from_residual-in_err-of_table, After-from_residual-in_err-of_table-2}
use Rattle.iddqd_driver.proofs.keyed_items.KeyedItems.validate.Goals as goal

-- the hash table is refused for want of memory alone
first_memory :
    (g : _) (c : After-from_residual-in_err-of_table g)
    → IfErr c.from_residual-in_err-of_table.result IsMemory
first_memory g c =
    let s = state_of c.self.inside.state c.self.inside.items.store c.self.inside.filed c.self.inside.order in
    let allowed = c.in_ok-validate.ensures.allows.0 refl in
    let expected = subst (λ n. AreAsExpected c.args.compactness n (indexes_of s.filed)) (sym c.len-len.ensures) (AreAsExpected-filed s c.self.invariant c.args.compactness allowed) in
    let told = IsMemory-with_table_name (AreAsExpected c.args.compactness c.len-len.result (indexes_of s.filed)) _ c.validate-2.result expected c.validate-2.ensures in
    let memory = subst (λ r. IfErr r IsMemory) (sym c.of_table.ensures ∙ c.in_err-of_table.was) told in
    let p = err_from_is_err_and c.from_residual-in_err-of_table.result c.from_residual-in_err-of_table.ensures.1 in
    rw (p.1, p.2) memory

-- and so is the ordered table
second_memory :
    (g : _) (c : After-from_residual-in_err-of_table-2 g)
    → IfErr c.from_residual-in_err-of_table-2.result IsMemory
second_memory g c =
    let s = state_of c.self.inside.state c.self.inside.items.store c.self.inside.filed c.self.inside.order in
    let allowed = c.in_ok-validate.ensures.allows.0 refl in
    let expected = subst (λ n. AreAsExpected c.args.compactness n s.order) (sym c.len-len.ensures) (AreAsExpected-order s c.self.invariant c.args.compactness allowed) in
    let told = IsMemory-with_table_name (AreAsExpected c.args.compactness c.len-len.result s.order) _ c.validate-3.result expected c.validate-3.ensures.sound in
    let memory = subst (λ r. IfErr r IsMemory) (sym c.of_table-2.ensures ∙ c.in_err-of_table-2.was) told in
    let p = err_from_is_err_and c.from_residual-in_err-of_table-2.result c.from_residual-in_err-of_table-2.ensures.1 in
    rw (p.1, p.2) memory

pub returns-in_err-of_table : goal.returns-in_err-of_table
returns-in_err-of_table g c =
    let allowed : Allows c.args.compactness (length c.args.self.now.state.store.free) = rw (← c.self.view_is) (c.in_ok-validate.ensures.allows.0 refl) in
    let told = Validates-refused (Allows c.args.compactness (length c.args.self.now.state.store.free)) c.from_residual-in_err-of_table.result c.from_residual-in_err-of_table.ensures.0 (first_memory g c) in
    record {
      paired = rw (← c.self.view_is) c.self.invariant;
      allowed = λ _. allowed;
      not_compact = λ never. absurd (never allowed);
      by_scans = λ _. told;
      in_sync = λ _. told;
      by_keys = λ _ ok. absurd (not_ok c.from_residual-in_err-of_table.result c.from_residual-in_err-of_table.ensures.0 ok);
    }

pub returns-in_err-of_table-2 : goal.returns-in_err-of_table-2
returns-in_err-of_table-2 g c =
    let allowed : Allows c.args.compactness (length c.args.self.now.state.store.free) = rw (← c.self.view_is) (c.in_ok-validate.ensures.allows.0 refl) in
    let told = Validates-refused (Allows c.args.compactness (length c.args.self.now.state.store.free)) c.from_residual-in_err-of_table-2.result c.from_residual-in_err-of_table-2.ensures.0 (second_memory g c) in
    record {
      paired = rw (← c.self.view_is) c.self.invariant;
      allowed = λ _. allowed;
      not_compact = λ never. absurd (never allowed);
      by_scans = λ _. told;
      in_sync = λ _. told;
      by_keys = λ _ ok. absurd (not_ok c.from_residual-in_err-of_table-2.result c.from_residual-in_err-of_table-2.ensures.0 ok);
    }

pub returns-in-Yes : goal.returns-in-Yes
returns-in-Yes g c =
    let allowed : Allows c.args.compactness (length c.args.self.now.state.store.free) = rw (← c.self.view_is) (c.in_ok-validate.ensures.allows.0 refl) in
    let told =
    Validates-also _ (Allows c.args.compactness (length c.args.self.now.state.store.free)) _
    (AreStored-paired (state_of c.self.inside.state c.self.inside.items.store c.self.inside.filed c.self.inside.order) c.self.invariant) allowed c.check_stored.ensures in
    record {
      paired = rw (← c.self.view_is) c.self.invariant;
      allowed = λ _. allowed;
      not_compact = λ never. absurd (never allowed);
      by_scans = λ _. told;
      in_sync = λ _. told;
      by_keys = λ keys. absurd (one_way c.args.chaos c.in-Yes.is keys);
    }

pub returns-in-No : goal.returns-in-No
returns-in-No g c =
    let allowed : Allows c.args.compactness (length c.args.self.now.state.store.free) = rw (← c.self.view_is) (c.in_ok-validate.ensures.allows.0 refl) in
    record {
      paired = rw (← c.self.view_is) c.self.invariant;
      allowed = λ _. allowed;
      not_compact = λ never. absurd (never allowed);
      by_scans = λ scans. absurd (one_way c.args.chaos scans c.in-No.is);
      in_sync = λ sync. Validates-or_memory (Allows c.args.compactness (length c.args.self.now.state.store.free)) c.check_by_keys.result allowed (c.check_by_keys.ensures.in_sync sync);
      by_keys = λ _ ok. c.check_by_keys.ensures.by_keys ok;
    }
