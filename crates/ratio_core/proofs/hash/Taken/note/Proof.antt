-- The body is empty: the proof opens the borrow, and closes it with the number of `_t` at the end of the codes.
use Rattle.std.proofs.Common.{List, [], ◌∷◌, ◌++◌, refl}
use Rattle.std.proofs.raw_atomic.Walks.{proved}
use base.Fml.{ftrue, flft}
use mir.Syntax.{named, a_type, dcons, dnil}
use mir.MapTy.{inst_fn}
use mir.Val.{Val, vunit}
use types.Kit.{‵, raw, ◌⊛◌, ◌$◌, ◌∵◌, !, qed, done, move, keep, drop, split, join, fsplit, fsplit3, fjoin, fjoin3, feq_i, suffices, frame}
use types.Run.{enter, of_opd, unit_lit, returns}
use types.ByLocal.{alloc_all, pass_all, free_all, look_at, sets}
use denote.Exit.{yes}
use denote.Param.{bounded, copied}
use denote.RattleType.{owns}
use denote.Ref.{MutRef, ShrRef, mut_vals, mut_Tells, shr_vals, shr_Tells}
use denote.Signature.{plain}
use denote.Steps.{opens, closes}
use denote.Triple.Walked.{Stays, walk_of, says, stay_ref, stay_none_ref, Goes-ref, Goes-none_ref, ends_at}
use Rattle.ratio_core.specs.contracts.hash.Taken.note as f
use Rattle.ratio_core.specs.contracts.hash.Taken.note.Key.{name as #self}
use Rattle.ratio_core.proofs.hash.Taken.note.Statement.{statement}
use Rattle.ratio_core.proofs.hash.Taken.note.Code as code
use Rattle.ratio_core.specs.contracts.hash.Taken.{the_row as R}
use Rattle.ratio_core.specs.declared.hash.Taken.{Taken}

pub note_spec : {M : Type 1} → statement M
note_spec 𝓤 𝓛 𝓜 𝓡 wired T _ _ gi di gc dc go dord ge de gpe dpe gpo dpo gh dh _ _ _ _ _ _ _ =
    let ds = dcons di (dcons dc (dcons dord (dcons de (dcons dpe (dcons dpo (dcons dh dnil)))))) in
    let inst = bounded (a_type ∷ []) (T, tt) ds in let fn = inst_fn inst code.function in
    let En = f.ended T gi di gc dc go dord ge de gpe dpe gpo dpo gh dh in
    let c = f.clauses T gi di gc dc go dord ge de gpe dpe gpo dpo gh dh 𝓛 𝓜.mem 𝓡.returns in
    let Row = copied 0 T in
    let stayed : Stays En.signature.params En.kept = (stay_ref (0 ∷ []) tt (plain (λ _. R)), (stay_none_ref (1 ∷ []) tt (plain (λ _. Row)) yes, tt)) in
    let W = walk_of 𝓛 En stayed c in
    proved 𝓛 En stayed c 𝓜 𝓡 (Goes-ref 𝓛 3 0 tt (plain (λ _. R)), (Goes-none_ref 𝓛 3 (1 ∷ []) tt (plain (λ _. Row)) yes, tt))
    (#self inst) fn (code.unfolded 𝓤 𝓛.H 𝓜 𝓡 wired (T, tt) di dc dord de dpe dpo dh)
    (λ κs. (mut_vals, (shr_vals, tt))) (λ κs. (mut_Tells (named 0) κs.0 R, (shr_Tells (named 1) κs.1.0 Row, tt))) (λ κs qs bounds a gh' are.
    let b = a.0.ref_ptr.0 in let o = a.0.ref_ptr.1 in
    let new : Taken = record { codes = a.0.now.codes ++ (f.T-Integer-whole T gi di gc dc go dord ge de gpe dpe gpo dpo gh dh).value a.1.0.now ∷ [] } in
    let vs = mut_vals a.0 in let ws = shr_vals a.1.0 in
    let y : W.Ghost = ((κs, qs, bounds, a, (vs, (ws, tt))), gh') in
    qed 𝓛 (((‵ (flft κs.0 qs.0) ⊛ (‵ (flft κs.1.0 qs.1.0) ⊛ (‵ (flft κs.1.1.0 qs.1.1.0) ⊛ ‵ ftrue))) ⊛ ‵ (owns (MutRef (named 0) κs.0 R ∷ ShrRef (named 1) κs.1.0 Row ∷ []) a (vs, (ws, tt)))) ∷ raw ((c κs a).requires gh') ∷ []) ∵
    split ! $ keep ! (0 ∷ 1 ∷ []) $
    split ! $ move ! (2 ∷ []) $ fsplit ! $ fsplit3 ! $ drop ! $ move ! (0 ∷ 1 ∷ 3 ∷ []) $
    enter ! _ _ _ _ _ $ alloc_all ! (λ l. pass_all ! refl ((tt, tt), ((tt, tt), tt)) $
    move ! (0 ∷ 1 ∷ 2 ∷ []) $ opens ! tt R b o (λ us.
    closes ! tt R new us b o $
    sets ! (of_opd ! (unit_lit !)) refl (tt, tt) $
    returns ! (look_at ! 0 refl) $ free_all ! refl $
    suffices ! _ (ends_at 𝓛 En stayed c y vunit tt (new, (tt, tt)) (tt, (tt, tt))) $ says ! refl $ move ! (2 ∷ 4 ∷ []) $ join ! $
    frame ! $ feq_i ! (List Val) vs vs refl $ fjoin3 ! $ fjoin ! $
    feq_i ! (List Val) (vunit ∷ []) (vunit ∷ []) refl $ move ! (1 ∷ 0 ∷ []) $ done !)))
