use Rattle.std.proofs.Common.{◌≡◌, ◌==◌, ◌%◌, ◌^◌, ◌∙◌, cond, map, arith, not, ap}
use Rattle.std.specs.Int.{w64, trailing_zeros}
use Rattle.std.specs.List.{prefix_len}
use Rattle.std.specs.Prelude.{replicate}
use Rattle.std.proofs.lemmas.Simd.{first_set_mask_l, run_in_chunk_fails, run_in_chunk_le, length-chunk}
use lib.Lanes.{zip2, mask_l, top, chunk}
use Rattle.iddqd_hash.proofs.OpenLaneLemmas.{less, is_free, free_mask, not_free}
use Rattle.iddqd_hash.proofs.open_table.lanes.first_free.Goals as goal

counted :
    (c : goal.After-first_set)
    → c.first_set.result ≡ prefix_len (λ x. not (is_free x)) (chunk c.args.at 16 c.args.tags.now)
counted c =
    let v = chunk c.args.at 16 c.args.tags.now in
    let long = length-chunk c.args.at 16 c.args.tags.now c.requires in
    let mask = mask_l (map (top 7) (zip2 less v (replicate 16 128))) % 2 ^ 64 in
    let first : c.first_set.result ≡ cond (mask == 0) 16 (trailing_zeros w64 mask) = c.first_set.ensures in
    first ∙ ap (λ m. cond (m == 0) 16 (trailing_zeros w64 m)) (free_mask v long)
    ∙ first_set_mask_l is_free v 16 long (omega arith)

pub returns-clause-inside : goal.returns-clause-inside
returns-clause-inside c =
    let run = run_in_chunk_le is_free c.args.tags.now c.args.at 16 _ 0 c.requires (counted c) in
    omega arith

pub returns-clause-full : goal.returns-clause-full
returns-clause-full c = λ k from to. not_free _ (run_in_chunk_fails is_free c.args.tags.now c.args.at 16 _ 0 c.requires (counted c) k from to)
