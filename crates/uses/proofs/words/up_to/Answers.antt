use Rattle.std.proofs.Common.{rules, ◌≡◌, nat_le, refl}
use Rattle.iddqd_maps.proofs.CallerLemmas.{RetainsAlong-tested, walked}
use Rattle.uses.specs.declared.words.Word.{Word}
use Rattle.uses.proofs.WordLemmas.{listed_up_to}
use Rattle.uses.proofs.words.up_to.Goals as goal

pub returns : goal.returns
returns c = λ ix text page.
    let (walk, before, after) =
    RetainsAlong-tested _ (λ s. s.0.now ≡ c.args.last) (λ (word : Word). nat_le word.page c.args.last) (λ s x b t i asked. search rules) _ _ _ _ refl c.retain.ensures.retained in
    listed_up_to _ c.args.words.now.store c.in_ok-some.some.store c.in_ok-some.ensures.cases.store.items refl (λ o none. none)
    (λ word o some. (some.0, some.1, some.2.0, some.2.1))
    ix c.args.last c.retain.new.self.store (λ item. walked _ _ _ _ _ walk before after ix item) text page
