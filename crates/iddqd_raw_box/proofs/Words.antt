-- A box and a `RawBox` are two words in memory: a pointer and an allocator. Assumes `Logic`.
use Rattle.std.proofs.Common.{◌≡◌, ◌∙◌, List, [], ◌∷◌, ◌++◌, refl, subst}
use seplogic.Ra.Ura.{Ura}
use lib.Dec.{T}
use mir.Syntax.{Ty, ty_ptr}
use mir.Val.{Val, WTs, vstruct, of_list, has_tys}
use base.Fml.{Fml, feq, fex, fsep}
use types.Logic.{Logic}
use types.Kit.{Item, Goal, Seq, Step, step, ‵, ◌$◌, move, drop, rewrite, fsplit, fjoin, fpick, fpack, feq_i, feq_l}
use denote.Laws.{Is, Typed, shows}
use denote.Param.{layout}
use denote.Param.Laws.{Laws}
use denote.RattleType.{RattleType, Valss, flat, owns}
use denote.RawPtr.{Ptr, RawPtr, ptr_val, rawptr_Lawful}
use denote.Steps.{nothing, peeks}
use denote.Struct.Struct.{to_tys, as_fields}
use Rattle.std.proofs.cell.Inside.{Good, one}
use Rattle.std.specs.Box.Ownership.{box_owns}
use Rattle.std.specs.declared.alloc.Allocator.{Ghosts}
use Rattle.iddqd_raw_box.specs.contracts.RawBox as raw_box

abbrev pub two_words : Val → Val → Val
two_words first second = vstruct (of_list (first ∷ second ∷ []))

-- the type `RawBox` at a type and an allocator
abbrev pub Raw : (T Z : RattleType) → Ghosts Z.Denot → RattleType
Raw T Z g = raw_box.the_row T Z g

-- what the fields of a struct of a pointer and an allocator own, whatever its name
abbrev pub fields_own : (Z : RattleType) → Ptr → Z.Denot → List Val → Fml
fields_own Z at alloc words =
    let both : List RattleType = RawPtr ∷ Z ∷ [] in
    fex (Valss both) (λ parts. fsep (feq (List Val) words (vstruct (of_list (flat both parts)) ∷ [])) (owns both (at, (alloc, tt)) parts))

module _ {M : Type 1} {𝓤 : Ura M} (𝓛 : Logic 𝓤) where
  typed : (R : RattleType) → Laws R → (x : R.Denot) (words : List Val) → Is R x words → Typed (layout R ∷ []) words
  typed R laws x words is = subst (λ (τs : List Ty). Typed τs words) laws.one ((laws.lawful 𝓛).typed x words is)

  pub pointer_typed : (at : Ptr) → Good ty_ptr (ptr_val at)
  pointer_typed at = ((rawptr_Lawful 𝓛).typed at (ptr_val at ∷ []) refl).0

  -- a value of a type with laws is one word, and that word is of the type
  pub one_word :
      (R : RattleType) → Laws R → (x : R.Denot) (words : List Val) → Is R x words
      → (word : Val) × (words ≡ word ∷ []) × Good (layout R) word
  one_word R laws x words is = one (layout R) words (typed R laws x words is)

  pub word_typed :
      (R : RattleType) → Laws R → (x : R.Denot) (word : Val) → Is R x (word ∷ []) → Good (layout R) word
  word_typed R laws x word is = (typed R laws x (word ∷ []) is).0

  -- a pointer and a word of another type are of the types of a struct's fields
  pub words_typed :
      (τ : Ty) (at : Ptr) (word : Val) → Good τ word
      → T (has_tys (to_tys (ty_ptr ∷ τ ∷ [])) (of_list (ptr_val at ∷ word ∷ [])))
      × WTs (of_list (ptr_val at ∷ word ∷ []))
  words_typed τ at word good = as_fields (ty_ptr ∷ τ ∷ []) (ptr_val at ∷ word ∷ []) (pointer_typed at, (good, tt))

module _ {M : Type 1} {𝓤 : Ura M} {𝓛 : Logic 𝓤} {K : Type 0} {Γ : List (Item 𝓤)} {G : Goal 𝓤 𝓛.H} where
  -- the fields lie in two words, and the allocator is owned at the second one
  pub fields_open :
      K → (Z : RattleType) → Laws Z → (at : Ptr) (alloc : Z.Denot) (words : List Val)
      → ((word : Val) → words ≡ two_words (ptr_val at) word ∷ [] → Good (layout Z) word
      → Seq K 𝓛 (‵ (Z.own_val alloc (word ∷ [])) ∷ Γ) G)
      → Seq K 𝓛 (‵ (fields_own Z at alloc words) ∷ Γ) G
  fields_open t Z laws at alloc words next =
      fpick t (λ parts. fsplit t $ feq_l t (λ whole. fsplit t $ feq_l t (λ pointer. fsplit t $ move t (1 ∷ []) $ drop t $
      peeks t Z (Is Z) (shows 𝓛 Z) alloc parts.1.0 (λ is.
      let handle = one_word 𝓛 Z laws alloc parts.1.0 is in
      rewrite t 0 (λ (ws : List Val). ‵ (Z.own_val alloc ws)) handle.1 refl $
      next handle.0 (whole ∙ (λ i. vstruct (of_list (pointer i ++ (handle.1 i ++ []))) ∷ [])) handle.2))))

  -- and the other way round
  pub fields_close :
      K → (Z : RattleType) (at : Ptr) (alloc : Z.Denot) (word : Val)
      → Step K 𝓛 (‵ (fields_own Z at alloc (two_words (ptr_val at) word ∷ [])) ∷ Γ) G
      (‵ (Z.own_val alloc (word ∷ [])) ∷ Γ) G
  fields_close t Z at alloc word = step (λ next.
      let both : List RattleType = RawPtr ∷ Z ∷ [] in
      let words : List Val = two_words (ptr_val at) word ∷ [] in
      nothing t $ move t (1 ∷ []) $ fjoin t $
      feq_i t (List Val) (ptr_val at ∷ []) (ptr_val at ∷ []) refl $ fjoin t $ feq_i t (List Val) words words refl $ fjoin t $
      fpack t (Valss both) (λ parts. fsep (feq (List Val) words (vstruct (of_list (flat both parts)) ∷ [])) (owns both (at, (alloc, tt)) parts))
      (ptr_val at ∷ [], (word ∷ [], tt)) $ next)

module _ {M : Type 1} {𝓤 : Ura M} {𝓛 : Logic 𝓤} {K : Type 0} {Γ : List (Item 𝓤)} {G : Goal 𝓤 𝓛.H}
    (T Z : RattleType) (g : Ghosts Z.Denot) where
  -- a `RawBox` owns the allocator in its second word, and what the box owned
  pub raw_opens :
      K → Laws Z → (raw : (Raw T Z g).Denot) (words : List Val)
      → ((word : Val) → words ≡ two_words (ptr_val raw.at) word ∷ [] → Good (layout Z) word
      → Seq K 𝓛 (‵ (Z.own_val raw.alloc (word ∷ []))
      ∷ ‵ (box_owns (g.dealloc_token raw.alloc) T raw.at raw.value) ∷ Γ) G)
      → Seq K 𝓛 (‵ ((Raw T Z g).own_val raw words) ∷ Γ) G
  raw_opens t laws raw words next = fsplit t $ fields_open t Z laws raw.at raw.alloc words next

  pub raw_closes :
      K → (raw : (Raw T Z g).Denot) (word : Val)
      → Step K 𝓛 (‵ ((Raw T Z g).own_val raw (two_words (ptr_val raw.at) word ∷ [])) ∷ Γ) G
      (‵ (Z.own_val raw.alloc (word ∷ [])) ∷ ‵ (box_owns (g.dealloc_token raw.alloc) T raw.at raw.value) ∷ Γ) G
  raw_closes t raw word = step (λ next. fields_close t Z raw.at raw.alloc word $ fjoin t $ next)
