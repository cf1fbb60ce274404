use Rattle.std.proofs.Common.{◌++◌, ◌∷◌, [], refl, ap, sym, ◌∙◌, append_assoc}
use Rattle.iddqd_lines.specs.Line.{line_feed}
use Rattle.iddqd_lines.proofs.ServeLemmas.{Obeys-fails, Feeds-none, Feeds-line, Feeds-rest, kept_none, on_failed}
use Rattle.iddqd_lines.proofs.serve.feed.Goals as goal

pub loop-end-init : goal.loop-end-init
loop-end-init g c = record {
  feeds = λ line keeps. record {
    seen = [];
    seen_and_rest = refl;
    feeds = Feeds-none _ g.O.Sink _ _ _ keeps;
  };
  writing = refl;
}

pub loop-end-preserved : goal.loop-end-preserved
loop-end-preserved g c = record {
  feeds = λ line keeps.
      let before = c.loop-end.invariant.feeds line keeps in
      let cut = c.in-Some.ensures in
      let end = c.in-Some.end.now ++ line_feed ∷ [] in
      record {
        seen = before.seen ++ end;
        seen_and_rest =
            before.seen_and_rest ∙ ap (λ l. before.seen ++ l) (cut.whole ∙ sym (append_assoc c.in-Some.end.now (line_feed ∷ []) c.in-Some.after.now))
            ∙ sym (append_assoc before.seen end c.in-Some.after.now);
        feeds = Feeds-line _ g.O.Sink _ _ _ _ _ _ _ c.loop-end.rest.now c.in-Some.end.now c.in-Some.after.now [] _ before.feeds cut c.in_ok-end_line.ensures.obeys (kept_none _ c.in_ok-end_line.ensures.forgets);
      };
  writing = c.in_ok-end_line.ensures.failed ∙ c.loop-end.invariant.writing;
}

pub returns-in_err-end_line-clause-feeds : goal.returns-in_err-end_line-clause-feeds
returns-in_err-end_line-clause-feeds g c = λ line keeps.
    let before = c.loop-end.invariant.feeds line keeps in
    let cut = c.in-Some.ensures in
    let failed = c.from_residual.ensures.0 in
    rw (before.seen_and_rest, cut.whole)
    (Feeds-line _ g.O.Sink _ _ _ _ _ _ _ c.loop-end.rest.now c.in-Some.end.now c.in-Some.after.now c.in-Some.after.now c.from_residual.result before.feeds cut
    (λ begun kept. Obeys-fails _ g.O.Sink _ _ _ _ c.from_residual.result failed (c.in_err-end_line.ensures.obeys begun kept))
    (on_failed _ c.from_residual.result failed))

pub returns-clause-feeds : goal.returns-clause-feeds
returns-clause-feeds g c = λ line keeps.
    let before = c.loop-end.invariant.feeds line keeps in
    rw before.seen_and_rest (Feeds-rest _ g.O.Sink _ _ _ _ _ _ _ before.feeds c.in_default.ensures c.extend.ensures)
