-- `of` hands the whole box on to the call that takes it apart, and packs what comes back.
use Rattle.std.proofs.Common.{◌≡◌, List, [], ◌∷◌, refl, sym, subst, ap}
use mir.Syntax.{a_type, dcons, dnil}
use mir.Val.{Val}
use mir.MapTy.{inst_fn}
use base.Logic.{ent, id⊢}
use prog.Wp.{WpFn}
use types.Kit.{‵, raw, ◌⊛◌, some, later, ◌$◌, ◌∵◌, !, qed, done, move, drop, use1, split, fjoin, pick, await, rewrite, suffices}
use types.Run.{enter, of_opd, stop, fld, no_more, and_then, returns}
use types.ByLocal.{alloc_all, pass_all, free_all, look_at, get, get_in, sets, lands_as}
use types.Part.{agg, sub, whole}
use contract.Monad.{fact}
use contract.Running.{tables}
use denote.Exit.{no}
use denote.Param.{bounded, param, layout}
use denote.Param.Laws.{Laws, param_laws}
use denote.RattleType.{RattleType}
use denote.RawPtr.{Ptr, ptr_val}
use denote.Signature.{plain}
use denote.Steps.{nothing, heard, only}
use denote.Triple.Call.{calls_at}
use denote.Triple.Clauses.{Lasts, lasts}
use denote.Triple.Entry.{alive}
use denote.Triple.Spec.{triple_of}
use denote.Triple.Table.{framed}
use denote.Triple.Walked.{Stays, stay_dropped, walk_of, says, ends_at}
use Rattle.std.proofs.alloc.Calls.{Goes-blank}
use Rattle.std.proofs.boxed.Box.TheLaws as box_laws
use Rattle.std.proofs.boxed.Box.into_raw_with_allocator.Met as apart_met
use Rattle.std.proofs.raw_atomic.Walks.{proved_at}
use Rattle.std.specs.Box.Ownership.{box_owns}
use Rattle.std.specs.contracts.boxed.Box as box
use Rattle.std.specs.contracts.boxed.Box.into_raw_with_allocator as apart
use Rattle.iddqd_raw_box.proofs.Words.{Raw, two_words, fields_own, one_word, pointer_typed, words_typed, fields_open, raw_closes}
use Rattle.iddqd_raw_box.specs.contracts.RawBox.of as f
use Rattle.iddqd_raw_box.proofs.RawBox.of.Statement.{statement}
use Rattle.iddqd_raw_box.proofs.RawBox.of.Code as code

pub of_spec : {M : Type 1} → statement M
of_spec 𝓤 𝓛 𝓜 𝓡 wired T A T_laws A_laws g d T_drop A_drop met T_met A_met =
    let args = bounded (a_type ∷ a_type ∷ []) (T, (A, tt)) (dcons d (dcons T_drop (dcons A_drop dnil))) in
    let ended = f.ended T A g d T_drop A_drop in
    let clauses = f.clauses T A g d T_drop A_drop 𝓛 𝓜.mem 𝓡.returns in
    let 𝓣 = tables 𝓤 𝓛.H 𝓜 𝓡 𝓡.env in
    let Box : RattleType = box.the_row (param 0 T) (param 1 A) g in
    let Box_laws : Laws Box = box_laws.the_row_laws (param 0 T) (param 1 A) g (param_laws 0 T T_laws) (param_laws 1 A A_laws) in
    let stays : Stays ended.signature.params ended.kept = (stay_dropped (plain (λ _. Box)) no, tt) in
    let W = walk_of 𝓛 ended stays clauses in
    proved_at 𝓛 ended stays clauses 𝓜 𝓡 (Goes-blank 𝓛 2 (plain (λ _. Box)) no (λ κs x w. tt), tt) (f.Key.name args) (inst_fn args code.function)
    (code.unfolded 𝓤 𝓛.H 𝓜 𝓡 wired (T, (A, tt)) d T_drop A_drop) (λ y are.
    let b = y.0.3.0 in
    let given : List Val → W.Ghost = λ ws. ((y.0.0, y.0.1, y.0.2, y.0.3, (ws, tt)), tt) in
    let Walk : List Val → Type 1 = λ ws. ent 𝓤 (W.pre (given ws)) (WpFn 𝓤 𝓛.H 𝓣.C 𝓣.Λ (inst_fn args code.function) (W.args (given ws)) (W.post (given ws))) in
    let word = one_word 𝓛 Box Box_laws b y.0.4.0 are.0 in
    let G = triple_of 𝓛 (apart.signature T A g d A_drop T_drop) (apart.spec T A g d A_drop T_drop 𝓛 𝓜.mem 𝓡.returns) in
    let raw_of : Ptr × A.Denot → (Raw (param 0 T) (param 1 A) g).Denot = λ r. record { at = r.0; alloc = r.1; value = b.value } in
    let apart_ended = apart.ended T A g d A_drop T_drop in
    let z : G.Ghost = given (word.0 ∷ []) in
    let meets = apart_met.met 𝓤 𝓛 𝓜 𝓡 (code.calls-std::boxed::Box::into_raw_with_allocator 𝓡.env wired) T A T_laws A_laws g d A_drop T_drop met A_met T_met in
    subst Walk (sym word.1) (qed 𝓛 (raw (G.pre z) ∷ []) ∵ enter ! _ _ _ _ _ $ alloc_all ! (λ l. pass_all ! refl (word.2, tt) $
    sets ! (of_opd ! (get ! refl)) refl word.2 $
    calls_at ! (framed 𝓤 𝓛.H 𝓜 𝓣) G meets z (and_then ! (get ! refl) (no_more !)) (λ v.
    let Tokens = raw (alive 𝓛 ended.signature y.0.0 y.0.1) in
    use1 𝓛 (later (some (λ (r : Ptr × A.Denot). (Tokens ⊛ ‵ (fields_own (param 1 A) r.0 r.1 (v ∷ [])))
    ⊛ some (λ (ws : Lasts apart_ended y.0.0 y.0.3). ‵ (lasts apart_ended y.0.0 y.0.3 ws)
    ⊛ raw (fact 𝓤 (r.1 ≡ b.alloc)) ⊛ ‵ (box_owns (g.dealloc_token b.alloc) (param 0 T) r.0 b.value))))) (id⊢ 𝓤 _) $
    await ! tt $ pick ! (λ r. split ! $ split ! $ move ! (1 ∷ []) $
    fields_open ! (param 1 A) (param_laws 1 A A_laws) r.0 r.1 (v ∷ []) (λ handle is good. move ! (2 ∷ []) $ pick ! (λ ws. split ! $ drop ! $
    split ! $ heard ! (r.1 ≡ b.alloc) (λ same. rewrite ! 0 (λ (z : A.Denot). ‵ (box_owns (g.dealloc_token z) (param 0 T) r.0 b.value)) (sym same) refl $
    -- [what the box owned; the allocator; the tokens; the locals]
    lands_as ! (ap only is) refl (words_typed 𝓛 (layout A) r.0 handle good) $
    sets ! (of_opd ! (get_in ! (fld ! refl (stop !)) (sub ! 0 refl (whole !)))) refl (pointer_typed 𝓛 r.0) $
    sets ! (of_opd ! (get_in ! (fld ! refl (stop !)) (sub ! 1 refl (whole !)))) refl good $
    sets ! (of_opd ! (get ! refl)) refl good $
    sets ! (agg ! (and_then ! (get ! refl) (and_then ! (get ! refl) (no_more !)))) refl (words_typed 𝓛 (layout A) r.0 handle good) $
    move ! (1 ∷ []) $ raw_closes (param 0 T) (param 1 A) g ! (raw_of r) handle $
    returns ! (look_at ! 0 refl) $ free_all ! refl $
    suffices ! _ (ends_at 𝓛 ended stays clauses z (two_words (ptr_val r.0) handle) (raw_of r) ws (tt, tt)) $ says ! refl $
    nothing ! $ nothing ! $ fjoin ! $ move ! (2 ∷ []) $ done !))))))))
