use Rattle.std.proofs.Common.{◌≡◌, ◌∙◌, ℕ, true, false, List, ◌∷◌, length, Option, Some, None, refl, sym, ap, subst, arith}
use Rattle.iddqd.specs.ItemSet.{SizedStore}
use Rattle.iddqd.specs.Store.{Store, get, live_count, removed}
use Rattle.iddqd_keys.specs.Scan.{IsHit}
use Rattle.iddqd_map.specs.Groups.{listed_from}
use Rattle.iddqd_map.specs.Sweep.{CalledPairAt, GivesPair, SweepsAlong, TakesPair, TakesPairAt, removes, stops}
use Rattle.iddqd_map.specs.declared.verdict.Verdict.TheVariants.{Stop}
use Rattle.iddqd_map.proofs.SweepLemmas.{Sweeping, Sweeping-first, Sweeping-hit, Sweeping-next, Sweeping-none, Sweeping-stopped, Sweeping-visit, not_stopped, stop_keeps, swept-fewer, swept-limit}
use Rattle.iddqd_map.proofs.map.sweep.sweep_along.Goals as goal

-- none is selected
pub returns-in_err-first-clause-swept : goal.returns-in_err-first-clause-swept
returns-in_err-first-clause-swept g c =
    let takes = TakesPairAt g.F.FnMut in
    let ask = CalledPairAt g.F.FnMut in
    let reads = g.R.Answer.reads in
    let accepts = TakesPair g.G.FnMut in
    let give = GivesPair g.G.FnMut in
    let lists = g.W.Selection.lists c.args.which.now in
    let test = g.W.Selection.selects c.args.which.now in
    let old = c.args.items.now.store in
    let behind = g.W.Selection.behind c.args.which.now c.args.indexes.now old in
    let first = Sweeping-first takes ask reads accepts give lists test c.args.ask.now c.args.gone.now old (listed_from behind None) c.in_err-first.ensures.listed (g.met.W.Selection.hits c.args.which.now old (listed_from behind None) c.in_err-first.ensures.listed) c.requires.callable in
    rw c.from_residual.ensures (Sweeping-none takes ask reads accepts give lists test c.args.ask.now c.args.gone.now old old c.args.ask.now c.args.gone.now first)

pub loop-next-init : goal.loop-next-init
loop-next-init g c =
    let takes = TakesPairAt g.F.FnMut in
    let ask = CalledPairAt g.F.FnMut in
    let reads = g.R.Answer.reads in
    let accepts = TakesPair g.G.FnMut in
    let give = GivesPair g.G.FnMut in
    let lists = g.W.Selection.lists c.args.which.now in
    let test = g.W.Selection.selects c.args.which.now in
    let old = c.args.items.now.store in
    let behind = g.W.Selection.behind c.args.which.now c.args.indexes.now old in
    record {
      kept = c.requires.indexed;
      stands = c.in_ok-first.ensures.stands;
      sweeping = Sweeping-first takes ask reads accepts give lists test c.args.ask.now c.args.gone.now old (listed_from behind (Some c.in_ok-first.first)) c.in_ok-first.ensures.listed (g.met.W.Selection.hits c.args.which.now old (listed_from behind (Some c.in_ok-first.first)) c.in_ok-first.ensures.listed) c.requires.callable;
      slots = refl;
      capacity = refl;
      cells = refl;
    }

pub visit-answer-requires-clause-hit : goal.visit-answer-requires-clause-hit
visit-answer-requires-clause-hit g c =
    let takes = TakesPairAt g.F.FnMut in
    let ask = CalledPairAt g.F.FnMut in
    let reads = g.R.Answer.reads in
    let accepts = TakesPair g.G.FnMut in
    let give = GivesPair g.G.FnMut in
    let lists = g.W.Selection.lists c.args.which.now in
    let test = g.W.Selection.selects c.args.which.now in
    let old = c.args.items.now.store in
    let s = c.loop-next.items.store in
    let f = c.loop-next.ask in
    let gone = c.loop-next.gone in
    let behind = g.W.Selection.behind c.args.which.now c.loop-next.indexes s in
    let ix : ℕ = c.in-Some.ix in
    let w = subst (λ n. Sweeping takes ask reads accepts give lists test c.args.ask.now c.args.gone.now old s (listed_from behind n) f gone) c.in-Some.is c.loop-next.invariant.sweeping in
    Sweeping-hit takes ask reads accepts give lists test c.args.ask.now c.args.gone.now old s f gone ix (behind ix) w

pub visit-answer-requires-clause-callable : goal.visit-answer-requires-clause-callable
visit-answer-requires-clause-callable g c = λ item live.
    let takes = TakesPairAt g.F.FnMut in
    let ask = CalledPairAt g.F.FnMut in
    let reads = g.R.Answer.reads in
    let accepts = TakesPair g.G.FnMut in
    let give = GivesPair g.G.FnMut in
    let lists = g.W.Selection.lists c.args.which.now in
    let test = g.W.Selection.selects c.args.which.now in
    let old = c.args.items.now.store in
    let s = c.loop-next.items.store in
    let f = c.loop-next.ask in
    let gone = c.loop-next.gone in
    let behind = g.W.Selection.behind c.args.which.now c.loop-next.indexes s in
    let ix : ℕ = c.in-Some.ix in
    let w = subst (λ n. Sweeping takes ask reads accepts give lists test c.args.ask.now c.args.gone.now old s (listed_from behind n) f gone) c.in-Some.is c.loop-next.invariant.sweeping in
    Sweeping-visit takes ask reads accepts give lists test c.args.ask.now c.args.gone.now old s f gone ix (behind ix) w item live

pub returns-in-Stop-clause-swept : goal.returns-in-Stop-clause-swept
returns-in-Stop-clause-swept g c =
    let takes = TakesPairAt g.F.FnMut in
    let ask = CalledPairAt g.F.FnMut in
    let reads = g.R.Answer.reads in
    let accepts = TakesPair g.G.FnMut in
    let give = GivesPair g.G.FnMut in
    let lists = g.W.Selection.lists c.args.which.now in
    let test = g.W.Selection.selects c.args.which.now in
    let old = c.args.items.now.store in
    let s = c.loop-next.items.store in
    let f = c.loop-next.ask in
    let gone = c.loop-next.gone in
    let behind = g.W.Selection.behind c.args.which.now c.loop-next.indexes s in
    let ix : ℕ = c.in-Some.ix in
    let w = subst (λ n. Sweeping takes ask reads accepts give lists test c.args.ask.now c.args.gone.now old s (listed_from behind n) f gone) c.in-Some.is c.loop-next.invariant.sweeping in
    let (item, live, passes) = Sweeping-hit takes ask reads accepts give lists test c.args.ask.now c.args.gone.now old s f gone ix (behind ix) w in
    let stopped : stops (reads c.visit-answer.result.0) ≡ true = ap stops (sym c.verdict.ensures ∙ c.in-Stop.is) in
    let same = ap (λ (z : SizedStore _). z.store) (c.visit-answer.ensures.kept (stop_keeps (reads c.visit-answer.result.0) stopped)) in
    rw same
    (Sweeping-stopped takes ask reads accepts give lists test c.args.ask.now c.args.gone.now old s f gone ix (behind ix) w item live c.visit-answer.new.ask c.visit-answer.result.0
    (c.visit-answer.ensures.asked item live) stopped)

pub returns-in-Stop-clause-fewer : goal.returns-in-Stop-clause-fewer
returns-in-Stop-clause-fewer g c =
    let takes = TakesPairAt g.F.FnMut in
    let ask = CalledPairAt g.F.FnMut in
    let reads = g.R.Answer.reads in
    let accepts = TakesPair g.G.FnMut in
    let give = GivesPair g.G.FnMut in
    let lists = g.W.Selection.lists c.args.which.now in
    let test = g.W.Selection.selects c.args.which.now in
    let old = c.args.items.now.store in
    swept-fewer takes ask reads accepts give lists c.args.ask.now c.args.gone.now old c.visit-answer.new.items.store (Some (c.in-Some.ix, c.visit-answer.result.0))
    (returns-in-Stop-clause-swept g c)

pub returns-in-Stop-clause-limit : goal.returns-in-Stop-clause-limit
returns-in-Stop-clause-limit g c =
    let takes = TakesPairAt g.F.FnMut in
    let ask = CalledPairAt g.F.FnMut in
    let reads = g.R.Answer.reads in
    let accepts = TakesPair g.G.FnMut in
    let give = GivesPair g.G.FnMut in
    let lists = g.W.Selection.lists c.args.which.now in
    let test = g.W.Selection.selects c.args.which.now in
    let old = c.args.items.now.store in
    swept-limit takes ask reads accepts give lists c.args.ask.now c.args.gone.now old c.visit-answer.new.items.store (Some (c.in-Some.ix, c.visit-answer.result.0))
    (returns-in-Stop-clause-swept g c)

pub loop-next-preserved : goal.loop-next-preserved
loop-next-preserved g c =
    let takes = TakesPairAt g.F.FnMut in
    let ask = CalledPairAt g.F.FnMut in
    let reads = g.R.Answer.reads in
    let accepts = TakesPair g.G.FnMut in
    let give = GivesPair g.G.FnMut in
    let lists = g.W.Selection.lists c.args.which.now in
    let test = g.W.Selection.selects c.args.which.now in
    let old = c.args.items.now.store in
    let s = c.loop-next.items.store in
    let f = c.loop-next.ask in
    let gone = c.loop-next.gone in
    let behind = g.W.Selection.behind c.args.which.now c.loop-next.indexes s in
    let ix : ℕ = c.in-Some.ix in
    let w = subst (λ n. Sweeping takes ask reads accepts give lists test c.args.ask.now c.args.gone.now old s (listed_from behind n) f gone) c.in-Some.is c.loop-next.invariant.sweeping in
    let i = c.loop-next.invariant in
    let did = c.visit-answer.ensures in
    let a = c.visit-answer.result.0 in
    let then = c.visit-answer.new.items.store in
    let (item, live, passes) = Sweeping-hit takes ask reads accepts give lists test c.args.ask.now c.args.gone.now old s f gone ix (behind ix) w in
    let goes_on : stops (reads a) ≡ false = not_stopped (reads a) (λ is. c.in_default-verdict.not-Stop (c.verdict.ensures ∙ is)) in
    let rest = listed_from (g.W.Selection.behind c.args.which.now c.visit-answer.new.indexes then) c.visit-answer.result.1 in
    let w_rest = subst (λ l. Sweeping takes ask reads accepts give lists test c.args.ask.now c.args.gone.now old s (ix ∷ l) f gone) (did.next goes_on) w in
    record {
      kept = did.indexed;
      stands = did.stands goes_on;
      sweeping = Sweeping-next takes ask reads accepts give lists test c.args.ask.now c.args.gone.now old s f gone ix rest w_rest item live c.visit-answer.new.ask a (did.asked item live) goes_on then
          c.visit-answer.new.gone (λ is. ap (λ (z : SizedStore _). z.store) (did.kept is)) (λ is. ap (λ (z : SizedStore _). z.store) (did.removed is))
          did.ungiven (λ is. did.given is item live);
      slots = did.slots ∙ i.slots;
      capacity = did.capacity ∙ i.capacity;
      cells = did.cells ∙ i.cells;
    }

pub returns-clause-swept : goal.returns-clause-swept
returns-clause-swept g c =
    let takes = TakesPairAt g.F.FnMut in
    let ask = CalledPairAt g.F.FnMut in
    let reads = g.R.Answer.reads in
    let accepts = TakesPair g.G.FnMut in
    let give = GivesPair g.G.FnMut in
    let lists = g.W.Selection.lists c.args.which.now in
    let test = g.W.Selection.selects c.args.which.now in
    let old = c.args.items.now.store in
    let s = c.loop-next.items.store in
    let f = c.loop-next.ask in
    let gone = c.loop-next.gone in
    let behind = g.W.Selection.behind c.args.which.now c.loop-next.indexes s in
    let none = subst (λ n. Sweeping takes ask reads accepts give lists test c.args.ask.now c.args.gone.now old s (listed_from behind n) f gone) c.in_default.is c.loop-next.invariant.sweeping in
    Sweeping-none takes ask reads accepts give lists test c.args.ask.now c.args.gone.now old s f gone none

pub returns-clause-fewer : goal.returns-clause-fewer
returns-clause-fewer g c =
    let takes = TakesPairAt g.F.FnMut in
    let ask = CalledPairAt g.F.FnMut in
    let reads = g.R.Answer.reads in
    let accepts = TakesPair g.G.FnMut in
    let give = GivesPair g.G.FnMut in
    let lists = g.W.Selection.lists c.args.which.now in
    let test = g.W.Selection.selects c.args.which.now in
    let old = c.args.items.now.store in
    swept-fewer takes ask reads accepts give lists c.args.ask.now c.args.gone.now old c.loop-next.items.store None (returns-clause-swept g c)

pub returns-clause-limit : goal.returns-clause-limit
returns-clause-limit g c =
    let takes = TakesPairAt g.F.FnMut in
    let ask = CalledPairAt g.F.FnMut in
    let reads = g.R.Answer.reads in
    let accepts = TakesPair g.G.FnMut in
    let give = GivesPair g.G.FnMut in
    let lists = g.W.Selection.lists c.args.which.now in
    let test = g.W.Selection.selects c.args.which.now in
    let old = c.args.items.now.store in
    swept-limit takes ask reads accepts give lists c.args.ask.now c.args.gone.now old c.loop-next.items.store None (returns-clause-swept g c)
