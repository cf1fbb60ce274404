-- The names of std and of specs/ that proofs cite.
pub use Rattle.iddqd.specs.Compaction.{CanRemap, remapped}
pub use Rattle.iddqd.specs.MapHashLaws.{greater_before_in}
pub use Rattle.iddqd.specs.declared.index_remap.IndexRemap.{IndexRemap}
pub use Rattle.iddqd.specs.declared.index_remap.IndexRemap.TheVariants.{Identity, Permuted}
pub use Rattle.iddqd_order.specs.Asking.{ask_count, closure_of}
pub use Rattle.iddqd_order.specs.Asks.{After, AsksWithin, At_once, CanAsk, CanAskAgain, CanAskEach, One_more, Steady}
pub use Rattle.iddqd_order.specs.Copies.{IsCopy}
pub use Rattle.iddqd_order.specs.Descent.{Descends, FindsIn, index_at, EndsIn, stop_of, end_at, level_of}
pub use Rattle.iddqd_order.specs.Digits.{bound, digits_within, row_asks}
unfoldable pub use Rattle.iddqd_order.specs.Digits.{digits}
pub use Rattle.iddqd_order.specs.KeyOrder.{ComparesKeys, InsertsInKeyOrder, IsInKeyOrder, StaysInKeyOrder, key_then_index}
pub use Rattle.iddqd_order.specs.MapBTreeTable.{IsIndexList, sentinel, without, Order}
pub use Rattle.iddqd_order.specs.Node.{AtIndex, FullBelow, InGap, Stop, IsInner, IsLeaf, after, before, child, children, child_room, row, weave, IsPlaceIn, ReachesGap, ReachesIndex, LeadsToIndex, IsPut, place, Reaches}
unfoldable pub use Rattle.iddqd_order.specs.Node.{IsFormed, IsFullBelow, flat, place_at_level, Passes}
pub use Rattle.iddqd_order.specs.Removal.{IsChild, IsEmptied, IsMended, LeadsBelow, MayLackOne, all_children, gaps_before, joined_rows, place_below}
pub use Rattle.iddqd_order.specs.Row.{IsSplit}
pub use Rattle.iddqd_order.specs.Search.{Askable, CanSearch, Finds, IsPlace, IsRising, IsSteadyRising, Searches, SearchesWithin, with_ties}
pub use Rattle.iddqd_order.specs.Tree.{ReachesGapIn, ReachesIndexIn, IsTree, in_order, inners_in, place_in, place_at_level_in, FullIn, IsTable, ReachesIn, blocks_for}
pub use Rattle.iddqd_order.specs.SpotCursor.{IsSpotCursor, SamePlaces, StepsToNext}
pub use Rattle.iddqd_order.specs.declared.btree_table.asking.Asking.{Asking}
pub use Rattle.iddqd_order.specs.declared.btree_table.node.Node.{Node}
pub use Rattle.iddqd_order.specs.declared.btree_table.gap.Gap.{Gap}
pub use Rattle.iddqd_order.specs.Shape.{most_children, most_levels, free_indexes, indexes_of_a_block, most_in_row, least_in_row}
pub use Rattle.iddqd_order.specs.declared.btree_table.spot.Spot.{Spot}
pub use Rattle.iddqd_order.specs.declared.btree_table.reserve.TheConstants.{MOST_INDEXES}
pub use Rattle.iddqd_order.specs.declared.btree_table.node.Node.TheOpen.{Node-F}
pub use Rattle.iddqd_order.specs.declared.btree_table.node.Node.TheViews.{out-Node, out-roll-Node, roll-Node, roll-out-Node}
pub use Rattle.iddqd_order.specs.declared.btree_table.spot_cursor.SpotCursor.{SpotCursor}
pub use Rattle.std.proofs.Common.{All, Bool, Contains, Err, IfOk, IfSome, IsNone, IsSome, IsTrue, List, None, Ok, Option, Ordering, Result, Some, Vec, [], add-one, ap, append_assoc, arith, below_more, drop, eq-eqb, eqb, eqb-true, false, filter, get_or, get_or-set_other, get_or-set_same, if◌then◌else◌, inl, inr, insert, is_ok, is_some, length, length-append, length-drop, length-set, map, min, nat_eq, ne_eqb, not, option_to_list, refl, remove, rules, set, slice_index, slice_set, sub-one, subst, suc, sym, take, true, vec_capacity, vec_len, zero, zero-add, ℕ, ◌*◌, ◌++◌, ◌+◌, ◌-◌, ◌/◌, ◌<◌, ◌==◌, ◌^◌, ◌↔◌, ◌∙◌, ◌∷◌, ◌≡◌, ◌≢◌, ◌≤◌, ◌⊎◌, IsPermutation, is_err, nat_lt}
pub use Rattle.std.proofs.Math.Nat.{mul-le-mul_right, one-le-pow, pow-le-pow_right, pow-suc}
pub use Rattle.std.proofs.lemmas.Bool.{cases_eq, cases_lt, eqb-false, true≢false, cond_both, not-true}
pub use Rattle.std.proofs.lemmas.Bool.Decides.{nat_tests}
pub use Rattle.std.proofs.lemmas.Cmp.{alike_right, nat_cmp_total, on_total, ranked, then_total, tied_itself, by_ranked}
pub use Rattle.std.proofs.lemmas.List.{append-nil, drop-map, drop-take, drop_all, get_or-append-add, get_or-append_right, get_or-map, get_or_append_left, get_or_default, get_or_push, length-map, length-take, length-take-le, length_push, map-append, map-set, nil_from_length, same_lists, set-append_left, set-append_right, set-get_or, set_comm, take-map, take-take, take_all, take_more, get_or_at}
pub use Rattle.std.proofs.lemmas.List.Edits.{get_or-remove_above, get_or-remove_below, insert-append_left, insert-append_right, length-insert, length-remove, map_over_more, remove-append_left, remove-append_right, take-paste}
pub use Rattle.std.proofs.lemmas.List.Elements.{All-append, All-cons, All-contains, All-drop, All-filter, All-from_recursion, All-get_or, All-head, All-map, All-nil, All-set, All-tail, All-take, Contains-append_cases, Contains-get_or, recursion_from_All, All-contains_itself, All-weaker, filter_passes}
pub use Rattle.std.proofs.lemmas.List.Folds.{Any-from_list_any}
pub use Rattle.std.proofs.lemmas.List.Kept.{AllPairs-filter, IsStrictlySortedBy-filter}
pub use Rattle.std.proofs.lemmas.Map.Keys.{IsDistinct-from_apart, IsDistinct-head, IsDistinct-tail, Less-from_sorted, apart_from_distinct, sorted_from_all_adjacent, IsDistinct-IsPermutation, IsDistinct-cons}
pub use Rattle.std.proofs.lemmas.Map.Steps.{length-le_from_distinct_below}
pub use Rattle.std.proofs.lemmas.Option.{slice_get-get_or}
pub use Rattle.std.specs.Cmp.{IsTotalOrder, nat_cmp_is, nat_eq_equiv}
pub use Rattle.std.specs.Coded.{Coded-set, coded_ℕ, le_prop, ×_prop}
pub use Rattle.std.specs.Fn.{Called, Mut}
pub use Rattle.std.specs.List.{AllByRecursion, AllPairs, copy_within, list_any}
unfoldable pub use Rattle.std.specs.List.{IsDistinct}
pub use Rattle.std.specs.Ordering.{MatchOrdering, nat_cmp, ordering_reverse, ordering_then}
pub use Rattle.std.specs.Vec.{with_item}
pub use Rattle.std.specs.declared.cmp.Ordering.TheVariants.{Equal, Greater, Less}
pub use Rattle.iddqd_order.specs.declared.btree_table.cursor.End.{End}
pub use Rattle.iddqd_order.specs.declared.btree_table.cursor.End.TheVariants.{Back, Front}
pub use Rattle.iddqd_order.specs.Cursor.{Agree, AreBeside, AtEdge, Compares, IsAt, IsBehind, IsGap, IsLeafParent, StepsOver, Stands, Steps, next_behind, part, edge_of, gap_of, leaf_in, opposite, to_gap}
unfoldable pub use Rattle.iddqd_order.specs.Cursor.{leaf, leaf_parent}
unfoldable pub use Rattle.iddqd_order.specs.MapBTreeTable.{order_of}
pub use Rattle.std.proofs.Math.Seq.{drop-append_seam, take-append_seam}
pub use Rattle.std.proofs.lemmas.List.Sorted.{All-permutation, Contains-permutation, IsPermutation-filter_both, IsPermutation-insert, IsPermutation-sym}
pub use Rattle.std.proofs.lemmas.Result.{IfErr-weaker}
unfoldable pub use Rattle.std.specs.List.Sorted.{IsStrictlySortedBy}
