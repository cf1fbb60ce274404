use Rattle.std.proofs.Common.{◌≤◌, sym, subst, arith}
use Rattle.iddqd.proofs.CompactionLemmas.{rank-le, rank_below}
use Rattle.iddqd.proofs.LiveLemmas.{renames}
use Rattle.iddqd_by_hash.proofs.HashedCountLemmas.{len-held}
use Rattle.iddqd_by_hash.proofs.HoldsLemmas.{Renames-by_rank, CanRemap-held, one_name-held}
use Rattle.iddqd_groups.proofs.linked_steps.remap.Goals as goal

pub remap_indexes-requires-clause-can_remap : goal.remap_indexes-requires-clause-can_remap
remap_indexes-requires-clause-can_remap g c =
    let (s, is, valid, named) = c.requires in
    CanRemap-held s c.args.table.now.filed is c.args.remap.now valid named

pub remap_indexes-requires-clause-distinct : goal.remap_indexes-requires-clause-distinct
remap_indexes-requires-clause-distinct g c =
    let (s, is, valid, named) = c.requires in
    one_name-held s c.args.table.now.filed is c.args.remap.now valid named

pub remap_indexes-requires-clause-never_up : goal.remap_indexes-requires-clause-never_up
remap_indexes-requires-clause-never_up g c = λ ix filed.
    let (s, is, valid, named) = c.requires in
    subst (λ n. n ≤ ix) (sym (renames s c.args.remap.now valid named ix ((is ix).0 filed)).1) (rank-le s ix)

pub remap_indexes-requires-clause-dense : goal.remap_indexes-requires-clause-dense
remap_indexes-requires-clause-dense g c = λ ix filed.
    let (s, is, valid, named) = c.requires in
    let live = (is ix).0 filed in
    let less = rank_below s ix live in
    let name = (renames s c.args.remap.now valid named ix live).1 in
    let counted = len-held s c.args.table.now.filed is in
    omega (arith, less, name, counted)

pub returns-clause-renamed : goal.returns-clause-renamed
returns-clause-renamed g c = λ s is valid named.
    Renames-by_rank s c.args.table.now.filed is c.args.remap.now valid named c.remap_indexes.new.self.filed
    c.remap_indexes.ensures.renamed
