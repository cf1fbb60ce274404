use Rattle.std.proofs.Common.{Some, sym, ap, ◌∙◌}
use Rattle.iddqd.specs.ItemSet.{with_item}
use Rattle.iddqd.proofs.StoreLemmas.{get-rebound_other}
use Rattle.iddqd.proofs.item_set.ItemSet.replace.Goals as goal

pub returns : goal.returns
returns g c = record {
  value = c.item_mut.ensures.value ∙ ap Some (sym c.replace.ensures.value);
  rebound = ap (λ item. with_item c.args.self.now c.args.ix item) c.replace.ensures.after;
  others = λ other apart. get-rebound_other c.args.self.now.store c.args.ix other c.replace.new.dest apart;
}
