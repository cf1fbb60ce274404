use Rattle.iddqd_order_reference.proofs.Names.{arith, Some, Err, refl, sym, ap, subst, Askable, CanSearch, Searches}
use Rattle.iddqd_order_reference.specs.OrderedTable.{order_of, capacity}
use Rattle.iddqd_order_reference.specs.PreparedInsert.{place_of, index_of}
use Rattle.iddqd_order.proofs.AskLemmas.{asks_more, asks_none}
use Rattle.iddqd_order_reference.proofs.ordered_table_reference.OrderedTable.prepare.Goals as goal

pub returns-in-Err : goal.returns-in-Err
returns-in-Err g c = (
  (refl, λ _. tt, c.in-Err.ensures.refused),
  record {
    unchanged = tt;
    same_reference = tt;
    asked = asks_more g.F.FnMut _ (omega arith) (asks_none g.F.FnMut (Askable (order_of c.args.self.now) (Some c.args.ix)) _);
    prepared = tt;
    has_room = tt;
    memory = tt;
    roomy = λ room. c.in-Err.ensures.roomy room;
    no_memory = λ _. tt;
  },
)

pub search_in-requires : goal.search_in-requires
search_in-requires g c =
    subst (λ xs. CanSearch g.F.FnMut xs (Some c.args.ix) c.args.asking.now) (sym c.make_room.ensures.kept) c.requires.can_ask

pub returns : goal.returns
unfolding place_of index_of
returns g c =
    let kept = c.make_room.ensures.kept in
    let searched =
    subst (λ xs. Searches g.F.FnMut (g.H.Reads.reading c.args.how.now) xs (Some c.args.ix) c.args.asking.now (Err c.in-Err-search_in.gap) c.search_in.new.asking) kept c.in-Err-search_in.ensures in (
      (refl, λ w. refl, tt),
      record {
        unchanged = tt;
        same_reference = refl;
        asked = searched.asked;
        prepared = record { table = kept; index = refl; within = omega (arith, searched.missed); place = searched.place };
        has_room = c.in_default.ensures.room refl;
        memory = c.make_room.ensures.never_less;
        roomy = λ _. refl;
        no_memory = λ room. ap capacity (c.make_room.ensures.no_memory room);
      },
    )
