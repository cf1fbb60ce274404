-- `into_box` gives both words to the call that makes a box of them, with what lies there.
use Rattle.std.proofs.Common.{◌≡◌, List, [], ◌∷◌, refl}
use mir.Syntax.{a_type, dcons, dnil}
use mir.Val.{Val}
use mir.MapTy.{inst_fn}
use base.Fml.{ftrue}
use base.Logic.{id⊢}
use prog.Wp.{WpFn}
use types.Kit.{‵, raw, prop, at_ret, ◌⊛◌, some, later, ◌$◌, ◌∵◌, !, qed, done, move, keep, drop, use1, split, join, fjoin, feq_i, group, pick, await, regoal, suffices}
use types.Run.{enter, of_opd, stop, fld, no_more, and_then, first, blocks, exec, returns}
use types.ByLocal.{alloc_all, pass_all, free_all, look_at, get, get_in, sets, lands_last, env}
use types.Part.{sub, whole}
use contract.BorrowLft.{◌⊑◌}
use contract.Monad.{fact}
use contract.Running.{tables}
use denote.Exit.{no}
use denote.Laws.{Is, shows}
use denote.Param.{bounded, param, layout}
use denote.Param.Laws.{Laws, param_laws}
use denote.RattleType.{RattleType}
use denote.RawPtr.{ptr_val}
use denote.Signature.{plain}
use denote.Steps.{nothing, heard, peeks}
use denote.Triple.Call.{calls_at_last}
use denote.Triple.Clauses.{Lasts, lasts}
use denote.Triple.Entry.{alive}
use denote.Triple.Spec.{triple_of}
use denote.Triple.Table.{framed}
use denote.Triple.Walked.{Stays, stay_dropped, walk_of, says, ends_at}
use Rattle.std.proofs.VecSteps.Shapes.{after}
use Rattle.std.proofs.alloc.Calls.{Goes-blank}
use Rattle.std.proofs.boxed.Box.TheLaws as box_laws
use Rattle.std.proofs.boxed.Box.from_raw.Met as made_met
use Rattle.std.proofs.raw_atomic.Walks.{proved_at}
use Rattle.std.specs.contracts.boxed.Box as box
use Rattle.std.specs.contracts.boxed.Box.from_raw as made
use Rattle.iddqd_raw_box.proofs.Words.{Raw, pointer_typed, word_typed, words_typed, raw_opens}
use Rattle.iddqd_raw_box.specs.contracts.RawBox.into_box as f
use Rattle.iddqd_raw_box.proofs.RawBox.into_box.Statement.{statement}
use Rattle.iddqd_raw_box.proofs.RawBox.into_box.Code as code

pub into_box_spec : {M : Type 1} → statement M
into_box_spec 𝓤 𝓛 𝓜 𝓡 wired T A T_laws A_laws g d T_drop A_drop met T_met A_met =
    let args = bounded (a_type ∷ a_type ∷ []) (T, (A, tt)) (dcons d (dcons T_drop (dcons A_drop dnil))) in
    let function = inst_fn args code.function in
    let ended = f.ended T A g d T_drop A_drop in
    let clauses = f.clauses T A g d T_drop A_drop 𝓛 𝓜.mem 𝓡.returns in
    let 𝓣 = tables 𝓤 𝓛.H 𝓜 𝓡 𝓡.env in
    let Given : RattleType = Raw (param 0 T) (param 1 A) g in
    let Box : RattleType = box.the_row (param 0 T) (param 1 A) g in
    let Box_laws : Laws Box = box_laws.the_row_laws (param 0 T) (param 1 A) g (param_laws 0 T T_laws) (param_laws 1 A A_laws) in
    let stays : Stays ended.signature.params ended.kept = (stay_dropped (plain (λ _. Given)) no, tt) in
    let W = walk_of 𝓛 ended stays clauses in
    proved_at 𝓛 ended stays clauses 𝓜 𝓡 (Goes-blank 𝓛 2 (plain (λ _. Given)) no (λ κs x w. tt), tt) (f.Key.name args) function
    (code.unfolded 𝓤 𝓛.H 𝓜 𝓡 wired (T, (A, tt)) d T_drop A_drop) (λ y are.
    let given = y.0.3.0 in
    let Tokens = raw (alive 𝓛 ended.signature y.0.0 y.0.1) in
    let at_words : List Val → W.Ghost = λ ws. ((y.0.0, y.0.1, y.0.2, y.0.3, (ws, tt)), tt) in
    let made_ended = made.ended T A g d A_drop in
    let G = triple_of 𝓛 (made.signature T A g d A_drop) (made.spec T A g d A_drop 𝓛 𝓜.mem 𝓡.returns) in
    let meets = made_met.met 𝓤 𝓛 𝓜 𝓡 (code.calls-std::boxed::Box::from_raw 𝓡.env wired) T A T_laws A_laws g d A_drop met A_met in
    qed 𝓛 ((Tokens ⊛ (‵ (Given.own_val given y.0.4.0) ⊛ ‵ ftrue)) ∷ raw (fact 𝓤 (y.0.0.0 ⊑ T.lives)) ∷ raw (fact 𝓤 (y.0.0.1.0 ⊑ A.lives)) ∷ ‵ ftrue ∷ []) ∵
    split ! $ move ! (1 ∷ []) $ split ! $ raw_opens (param 0 T) (param 1 A) g ! (param_laws 1 A A_laws) given y.0.4.0 (λ word is good.
    let z : G.Ghost = ((y.0.0, y.0.1, y.0.2, (given.alloc, (given.at, tt)), (word ∷ [], (ptr_val given.at ∷ [], tt))), given.value) in
    regoal ! (λ (ws : List Val). prop (WpFn 𝓤 𝓛.H 𝓣.C 𝓣.Λ function (W.args (at_words ws)) (W.post y))) is refl $
    -- [the allocator; what the box owned; nothing; the tokens; two bounds; nothing]
    feq_i ! (List Val) (ptr_val given.at ∷ []) (ptr_val given.at ∷ []) refl $ move ! (0 ∷ 3 ∷ []) $ fjoin ! $ move ! (1 ∷ 0 ∷ []) $ fjoin ! $
    move ! (2 ∷ 0 ∷ []) $ join ! $ move ! (0 ∷ 2 ∷ 3 ∷ 1 ∷ []) $ group ! 4 $ use1 𝓛 (raw (G.pre z)) (id⊢ 𝓤 _) $
    enter ! _ _ _ _ _ $ alloc_all ! (λ l. pass_all ! refl (words_typed 𝓛 (layout A) given.at word good, tt) $
    sets ! (of_opd ! (get_in ! (fld ! refl (stop !)) (sub ! 0 refl (whole !)))) refl (pointer_typed 𝓛 given.at) $
    sets ! (of_opd ! (get_in ! (fld ! refl (stop !)) (sub ! 1 refl (whole !)))) refl good $
    first ! $ blocks ! $ sets ! (of_opd ! (get ! refl)) refl good $
    calls_at_last ! (framed 𝓤 𝓛.H 𝓜 𝓣) G meets z (and_then ! (get ! refl) (and_then ! (get ! refl) (no_more !))) (λ v.
    use1 𝓛 (later (some (λ (b : Box.Denot). (Tokens ⊛ ‵ (Box.own_val b (v ∷ [])))
    ⊛ some (λ (ws : Lasts made_ended y.0.0 z.0.3). ‵ (lasts made_ended y.0.0 z.0.3 ws)
    ⊛ raw (fact 𝓤 (b.value ≡ given.value)) ⊛ raw (fact 𝓤 (b.alloc ≡ given.alloc)))))) (id⊢ 𝓤 _) $
    await ! tt $ pick ! (λ b. split ! $ split ! $ move ! (1 ∷ []) $ peeks ! Box (Is Box) (shows 𝓛 Box) b (v ∷ []) (λ box_is.
    let box_typed = word_typed 𝓛 Box Box_laws b v box_is in
    move ! (2 ∷ []) $ pick ! (λ ws. split ! $ drop ! $ split ! $ heard ! (b.value ≡ given.value) (λ same. drop ! $
    -- [the box; the tokens; nothing; the locals]
    lands_last ! refl box_typed $ exec ! 𝓣.C 𝓣.Λ (env function.locals l) (after 3 function.body) (at_ret _ (W.post y)) $
    sets ! (of_opd ! (get ! refl)) refl box_typed $ returns ! (look_at ! 0 refl) $ free_all ! refl $
    suffices ! _ (ends_at 𝓛 ended stays clauses y v b ((tt, (tt, tt)), tt) (tt, tt)) $ says ! same $
    nothing ! $ nothing ! $ fjoin ! $ keep ! (2 ∷ 0 ∷ 1 ∷ []) $ done !))))))))
