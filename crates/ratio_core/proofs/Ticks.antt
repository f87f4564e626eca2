-- A function with an empty body changes the steps behind its one borrow: it opens the borrow, and closes it with the new steps.
-- The change is a parameter, since the two ticks differ in nothing else.
use Rattle.std.proofs.Common.{◌≡◌, [], ◌∷◌, refl}
use Rattle.std.proofs.raw_atomic.Walks.{proved}
use seplogic.Ra.Ura.{Ura}
use base.Fml.{ftrue, flft}
use contract.Monad.{fact}
use contract.Running.{Running, tables}
use mir.Syntax.{Callee, Fn, Lifetime, Mutability, Ty, assign, local, named, opd_unit, place, return, rv_opd, seq, ty_ref, ty_unit, value_local}
use mir.Val.{vunit}
use prog.Model.{Model}
use prog.Wp.{Closed}
use types.Kit.{‵, ◌⊛◌, ◌$◌, ◌∵◌, !, qed, done, move, keep, split, join, fsplit3, feq_i, suffices, frame, group}
use types.Logic.{Logic}
use types.Run.{enter, of_opd, unit_lit, returns}
use types.ByLocal.{alloc_all, pass_all, free_all, look_at, sets}
use denote.Ref.{MutRef, mut_vals, mut_Tells}
use denote.Signature.{plain}
use denote.Steps.{nothing, opens, closes}
use denote.Triple.Clauses.{Clauses, closing}
use denote.Triple.Spec.{Meets}
use denote.Triple.Walked.{Stays, walk_of, says, stay_ref, Goes-ref, ends_at}
use Rattle.ratio_core.specs.contracts.steps.Steps.tick_left as f
use Rattle.ratio_core.specs.contracts.steps.Steps.{the_row as R}
use Rattle.ratio_core.specs.declared.steps.Steps.{Steps}

abbrev stayed : Stays f.ended.signature.params f.ended.kept
stayed = (stay_ref (0 ∷ []) tt (plain (λ _. R)), tt)

-- the compiled code of such a function, with the parts of its parameter's type
abbrev pub empty : Lifetime → Mutability → Ty → Fn
empty lifetime mutability pointee = record {
  lifetimes = 1;
  outlives = [];
  ty_params = [];
  givens = 0;
  params = 1;
  locals = local ty_unit value_local ∷ local (ty_ref lifetime mutability pointee) value_local ∷ [];
  body = seq (assign (place 0 []) (rv_opd opd_unit)) return;
}

module _ {M : Type 1} {𝓤 : Ura M} (𝓛 : Logic 𝓤) (𝓜 : Model 𝓤 𝓛.H) (𝓡 : Running 𝓤 𝓛.H 𝓜) (next : Steps → Steps) where
  abbrev pub changes : Clauses 𝓤 f.ended
  changes κs a = record (f.clauses 𝓛 𝓜.mem 𝓡.returns κs a) { ensures = λ _ r w. fact 𝓤 (w.0.now ≡ next a.0.now) }

  pub changed : (k : Callee) (life : Lifetime) (mode : Mutability) (type : Ty) → Closed 𝓤 𝓛.H (tables 𝓤 𝓛.H 𝓜 𝓡 𝓡.env).C (tables 𝓤 𝓛.H 𝓜 𝓡 𝓡.env).Λ k (empty life mode type) → Meets 𝓛 f.ended.signature ((tables 𝓤 𝓛.H 𝓜 𝓡 𝓡.env).C k) (closing 𝓛 f.ended changes)
  changed k life mode type closed =
      let W = walk_of 𝓛 f.ended stayed changes in
      proved 𝓛 f.ended stayed changes 𝓜 𝓡 (Goes-ref 𝓛 1 0 tt (plain (λ _. R)), tt) k (empty life mode type) closed
      (λ κs. (mut_vals, tt)) (λ κs. (mut_Tells (named 0) κs.0 R, tt)) (λ κs qs bounds a _ are.
      let b = a.0.ref_ptr.0 in let o = a.0.ref_ptr.1 in let vs = mut_vals a.0 in
      let y : W.Ghost = ((κs, qs, bounds, a, (vs, tt)), tt) in
      qed 𝓛 (((‵ (flft κs.0 qs.0) ⊛ ‵ ftrue) ⊛ ‵ ((MutRef (named 0) κs.0 R).own_val a.0 vs) ⊛ ‵ ftrue) ∷ ‵ ftrue ∷ []) ∵
      split ! $ split ! $ move ! (2 ∷ []) $ split ! $ keep ! (0 ∷ 2 ∷ []) $
      enter ! _ _ _ _ _ $ alloc_all ! (λ l. pass_all ! refl ((tt, tt), tt) $
      fsplit3 ! $ move ! (1 ∷ 2 ∷ 3 ∷ []) $ opens ! tt R b o (λ us.
      closes ! tt R (next a.0.now) us b o $
      sets ! (of_opd ! (unit_lit !)) refl (tt, tt) $
      returns ! (look_at ! 0 refl) $ free_all ! refl $ move ! (3 ∷ []) $
      suffices ! _ (ends_at 𝓛 f.ended stayed changes y vunit tt (next a.0.now, tt) (tt, tt)) $ says ! refl $
      group ! 3 $ nothing ! $ move ! (1 ∷ 0 ∷ []) $ join ! $ nothing ! $ move ! (2 ∷ 0 ∷ []) $ join ! $ frame ! $ frame ! $
      feq_i ! _ (vunit ∷ []) _ refl $ done !)))
