use Rattle.std.proofs.Common.{◌≡◌, ◌==◌, ◌%◌, ◌^◌, ◌∙◌, cond, map, arith, bit_or, not, ap}
use Rattle.std.specs.Int.{w64, trailing_zeros}
use Rattle.std.specs.List.{prefix_len}
use Rattle.std.specs.Prelude.{replicate}
use Rattle.std.proofs.lemmas.Simd.{first_set_mask_l, run_in_chunk_fails, run_in_chunk_le, run_in_chunk_stops, length-chunk}
use lib.Lanes.{zip2, mask_l, top, chunk}
use Rattle.iddqd_hash.specs.OpenTable.{is_stop}
use Rattle.iddqd_hash.proofs.OpenLaneLemmas.{same, stops_mask}
use Rattle.iddqd_hash.proofs.open_table.lanes.first_stop.Goals as goal

counted :
    (c : goal.After-first_set)
    → c.first_set.result ≡ prefix_len (λ x. not (is_stop c.args.tag x)) (chunk c.args.at 16 c.args.tags.now)
counted c =
    let v = chunk c.args.at 16 c.args.tags.now in
    let long = length-chunk c.args.at 16 c.args.tags.now c.requires in
    let mask =
    mask_l (map (top 7) (zip2 bit_or (zip2 same v (replicate 16 c.args.tag)) (zip2 same v (replicate 16 0)))) % 2 ^ 64 in
    let first : c.first_set.result ≡ cond (mask == 0) 16 (trailing_zeros w64 mask) = c.first_set.ensures in
    first ∙ ap (λ m. cond (m == 0) 16 (trailing_zeros w64 m)) (stops_mask v c.args.tag long)
    ∙ first_set_mask_l (is_stop c.args.tag) v 16 long (omega arith)

pub returns-clause-inside : goal.returns-clause-inside
returns-clause-inside c =
    let run = run_in_chunk_le (is_stop c.args.tag) c.args.tags.now c.args.at 16 _ 0 c.requires (counted c) in
    omega arith

pub returns-clause-others : goal.returns-clause-others
returns-clause-others c =
    run_in_chunk_fails (is_stop c.args.tag) c.args.tags.now c.args.at 16 _ 0 c.requires (counted c)

pub returns-clause-stop : goal.returns-clause-stop
returns-clause-stop c = run_in_chunk_stops (is_stop c.args.tag) c.args.tags.now c.args.at 16 _ 0 c.requires (counted c)
