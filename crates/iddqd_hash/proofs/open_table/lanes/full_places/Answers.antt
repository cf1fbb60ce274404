use Rattle.std.proofs.Common.{◌≡◌, ◌∙◌, ◌+◌, ◌-◌, map, take, drop, ap, arith}
use lib.Lanes.{chunk, mask_l}
use Rattle.std.proofs.lemmas.Simd.{length-chunk}
use Rattle.iddqd_hash.proofs.OpenLaneLemmas.{full_mask}
use Rattle.iddqd_hash.specs.OpenWalk.{is_full}
use Rattle.iddqd_hash.proofs.open_table.lanes.full_places.Goals as goal

pub returns : goal.returns
returns c =
    let at = c.args.at in
    let tags = c.args.tags.now in
    let wide : 16 ≡ at + 16 - at = omega arith in
    full_mask (chunk at 16 tags) (length-chunk at 16 tags c.requires)
    ∙ ap (λ n. mask_l (map is_full (take n (drop at tags)))) wide
