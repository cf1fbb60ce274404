use Rattle.std.proofs.Common.{◌≡◌, ◌∙◌, ◌==◌, not, true, false, sym, ap, ne_eqb, eq-eqb}
use Rattle.iddqd_hash.proofs.MemberLemmas.{filed_at}
use Rattle.iddqd_groups.specs.Links.{prev_of}
use Rattle.iddqd_groups.proofs.LinksLemmas.{link_read, present, filed_where}
use Rattle.iddqd_groups.proofs.linked_table.links.is_present.Goals as goal

pub returns : goal.returns
returns c =
    let links = c.args.links.now in
    let ix = c.args.ix in
    let read =
    link_read links c.place_of.result ix c.index-links-place_of.result c.place_of.ensures c.requires
    c.index-links-place_of.is in
    let is : c.ne.result ≡ not (prev_of links ix == ix) =
    c.ne.ensures ∙ ap (λ l. not (l.prev == ix)) (sym c.index-links-place_of.is ∙ read) in (
      λ yes. filed_at _ _ (filed_where links ix
          (λ same. absurd (let never : false ≡ true = ap not (sym (eq-eqb (prev_of links ix) ix same)) ∙ sym is ∙ yes in
          cc))),
      λ here. is ∙ ap not (ne_eqb (prev_of links ix) ix (present links ix here)),
    )
