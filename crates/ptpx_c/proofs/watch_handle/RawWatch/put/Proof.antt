-- `RawWatch::put` meets its contract: a walk of its MIR. The watch moves into the room behind the handle.
use Rattle.std.proofs.Common.{◌≡◌, List, [], ◌∷◌, ◌++◌, refl, sym, ap, ◌∙◌, MutBor}
use Rattle.std.specs.Prelude.{Option, None}
use Rattle.std.proofs.raw_atomic.Walks.{proved_at}
use Rattle.std.proofs.alloc.Calls.{Goes-blank}
use Rattle.std.proofs.VecSteps.Shapes.{after}
use base.Fraction.{full_share}
use base.Logic.{id⊢}
use base.Fml.{ftrue, flft}
use mir.Syntax.{named}
use mir.Val.{Val, vunit}
use prog.Wp.{WpFn}
use contract.Monad.{fact}
use contract.Running.{tables}
use types.Kit.{‵, raw, ◌⊛◌, prop, at_ret, ◌$◌, ◌∵◌, !, qed, done, move, keep, use2, split, join, fsplit, fsplit3, fjoin, fjoin3, feq_i, rewrite, regoal, suffices, frame}
use types.Part.{whole, sub, look_in}
use types.Run.{enter, of_opd, unit_lit, init, load, stop, fld, assigns_last, first, blocks, exec, returns}
use types.ByLocal.{alloc_all, pass_all, free_all, look_at, get, through, sets, env}
use borrow.Table.OneValue.{part_in}
use denote.Exit.{yes}
use denote.Laws.{shows}
use denote.Memory.{cell_at, lone}
use denote.RawPtr.{Ptr, block_ptr, lies_at, room_at, in_a_block}
use denote.Ref.{MutRef, mut_vals, mut_Tells}
use denote.Signature.{plain}
use denote.Steps.{nothing, opens, closes, peeks, heard}
use denote.Triple.Walked.{Stays, walk_of, says, stay_ref, stay_dropped, Goes-ref, ends_at}
use Rattle.ptpx_c.specs.declared.watch_handle.RawWatch.{RawWatch}
use Rattle.ptpx_c.specs.declared.ring_watch.RingWatch.{RingWatch}
use Rattle.ptpx_c.specs.Watches.{with_watch}
use Rattle.ptpx_c.specs.Memory.{watch_memory}
use Rattle.ptpx_c.specs.contracts.watch_handle.RawWatch.put as f
use Rattle.ptpx_c.specs.contracts.watch_handle.RawWatch.{the_row as R}
use Rattle.ptpx_c.specs.contracts.ring_watch.RingWatch.{the_row as T}
use Rattle.ptpx_c.proofs.Ports.{alone}
use Rattle.ptpx_c.proofs.ring_watch.RingWatch.TheLaws.{the_row_laws}
use Rattle.ptpx_c.proofs.watch_handle.RawWatch.TheLaws.{lowers}
use Rattle.ptpx_c.proofs.watch_handle.RawWatch.put.Statement.{statement}
use Rattle.ptpx_c.proofs.watch_handle.RawWatch.put.Code as code

abbrev stayed : Stays f.ended.signature.params f.ended.kept
stayed = (stay_ref (0 ∷ []) tt (plain (λ _. R)), (stay_dropped (plain (λ _. T)) yes, tt))

pub put_spec : {M : Type 1} → statement M
put_spec 𝓤 𝓛 𝓜 𝓡 wired =
    let c = f.clauses 𝓛 𝓜.mem 𝓡.returns in let W = walk_of 𝓛 f.ended stayed c in let 𝓣 = tables 𝓤 𝓛.H 𝓜 𝓡 𝓡.env in
    proved_at 𝓛 f.ended stayed c 𝓜 𝓡 (Goes-ref 𝓛 1 0 tt (plain (λ _. R)), (Goes-blank 𝓛 1 (plain (λ _. T)) yes (λ κs x w. tt), tt))
    f.Key.name code.function (code.unfolded 𝓤 𝓛.H 𝓜 𝓡 wired) (λ y are.
    let κ = y.0.0.0 in let q = y.0.1.0 in let r : MutBor RawWatch = y.0.3.0 in let x : RingWatch = y.0.3.1.0 in let us = y.0.4.0 in let vs = y.0.4.1.0 in
    let rb = r.ref_ptr.0 in let ro = r.ref_ptr.1 in let h = r.now in
    let told : us ≡ mut_vals r = mut_Tells (named 0) κ R r us are.0 in
    let one = alone (lone T.mir) vs ((the_row_laws.lawful 𝓛).typed x vs are.1.0) in
    let v : Val = one.0 in let held : vs ≡ v ∷ [] = one.1.0 in let good = one.1.1 in
    let Ref = λ (s : MutBor RawWatch) (ws : List Val). (MutRef (named 0) κ R).own_val s ws in
    let Cell = λ (ws : List Val). ‵ (cell_at full_share R.mir ws rb ro) in
    qed 𝓛 (((‵ (flft κ q) ⊛ ‵ ftrue) ⊛ ‵ (Ref r us) ⊛ ‵ (T.own_val x vs) ⊛ ‵ ftrue) ∷ raw (fact 𝓤 (h.port ≡ None)) ∷ []) ∵
    move ! (1 ∷ []) $ heard ! _ (λ none.
    split ! $ split ! $ move ! (2 ∷ []) $ split ! $ move ! (1 ∷ []) $ split ! $ keep ! (2 ∷ 0 ∷ 3 ∷ []) $
    rewrite ! 0 (λ (ws : List Val). ‵ (Ref r ws)) told refl $ rewrite ! 1 (λ (ws : List Val). ‵ (T.own_val x ws)) held refl $
    regoal ! (λ (ws : List Val × List Val). prop (WpFn 𝓤 𝓛.H 𝓣.C 𝓣.Λ code.function (ws.0 ++ (ws.1 ++ [])) (W.post y))) (λ i. (told i, held i)) refl $
    enter ! _ _ _ _ _ $ alloc_all ! (λ l. pass_all ! refl ((tt, tt), (good, tt)) $
    fsplit3 ! $ move ! (1 ∷ 2 ∷ 4 ∷ []) $ opens ! tt R rb ro (λ ws.
    move ! (1 ∷ []) $ peeks ! R _ (shows 𝓛 R) h ws (λ is. fsplit ! $ move ! (1 ∷ []) $
    rewrite ! 0 (λ (m : Option RingWatch). ‵ (watch_memory h.at m)) none refl $
    in_a_block ! h.at (λ p. room_at T p) (id⊢ 𝓤 _) (λ b o e.
    let word = lowers.val_is h ws is ∙ ap (λ (p : Ptr). lowers.lowered (record h { at = p }) ∷ []) e in
    rewrite ! 2 Cell word refl $
    -- [the room; what the fields own; the handle's cell; the open borrow, in three entries; where self is; the port]
    first ! $ blocks ! $
    sets ! (of_opd ! (load ! (through ! refl (fld ! refl (stop !))) (look_in ! 2 (sub ! 0 refl (whole !))))) refl (tt, tt) $
    sets ! (of_opd ! (get ! refl)) refl (tt, tt) $
    assigns_last ! (of_opd ! (get ! refl)) (through ! refl (stop !)) (init ! 0 refl good) $
    exec ! 𝓣.C 𝓣.Λ (env code.Mir.locals l) (after 1 (code.function).body) (at_ret _ (W.post y)) $
    sets ! (of_opd ! (unit_lit !)) refl (tt, tt) $
    rewrite ! 2 Cell (sym word) refl $ move ! (0 ∷ 7 ∷ []) $ use2 𝓛 (‵ (lies_at T full_share (block_ptr b o) x)) (part_in 𝓛 T refl full_share x b o v) $
    rewrite ! 0 (λ (p : Ptr). ‵ (lies_at T full_share p x)) (sym e) refl $
    move ! (1 ∷ []) $ fjoin ! $ move ! (1 ∷ []) $ closes ! tt R (with_watch h x) ws rb ro $
    returns ! (look_at ! 0 refl) $ free_all ! refl $ move ! (3 ∷ []) $
    suffices ! _ (ends_at 𝓛 f.ended stayed c y vunit tt (with_watch h x, ((tt, tt), tt)) (tt, (tt, tt))) $ says ! refl $
    fjoin3 ! $ rewrite ! 0 (λ (ws : List Val). ‵ (Ref (record r { now = with_watch h x }) ws)) (sym told) refl $
    nothing ! $ nothing ! $ join ! $ move ! (1 ∷ 0 ∷ []) $ join ! $ nothing ! $ move ! (2 ∷ 0 ∷ []) $ join ! $ frame ! $ frame ! $
    feq_i ! _ (vunit ∷ []) _ refl $ done !))))))
