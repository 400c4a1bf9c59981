-- `RawWatch::port` meets its contract: a walk of its MIR. The memory behind the handle is lent, and the handle ends with what was left there.
use Rattle.std.proofs.Common.{◌≡◌, ℕ, List, [], ◌∷◌, refl, sym, ap, ◌∙◌, MutBor}
use Rattle.std.specs.Prelude.{IsSome, Option}
use Rattle.std.proofs.raw_atomic.Walks.{proved}
use Rattle.std.proofs.VecSteps.Shapes.{after}
use seplogic.Ra.Ura.{Ura}
use base.Fraction.{full_share}
use base.Logic.{ent, sep, id⊢}
use base.Fml.{Fml, GName, ftrue, fsep, flft}
use mir.Syntax.{named}
use mir.Val.{Val, vptr}
use contract.Monad.{fact}
use contract.Running.{tables}
use types.Logic.{Logic, sem}
use types.Kit.{‵, raw, ◌⊛◌, some, later, at_ret, ◌$◌, ◌∵◌, !, qed, by, done, move, keep, drop, use1, split, join, fsplit, fsplit3, fjoin, fpack, pick, await, rewrite, suffices, frame, group}
use types.Part.{whole, sub, look_in}
use types.Run.{enter, of_opd, addr, load, stop, fld, first, blocks, exec, returns}
use types.ByLocal.{alloc_all, pass_all, free_all, look_at, get, through, sets, sets_last, env}
use denote.Exit.{no}
use denote.Follow.{follows, Part, lends_Part}
use denote.Laws.{shows}
use denote.Memory.{cell_at, part_of, mem}
use denote.RawPtr.{Ptr, block_ptr, lies_at, in_a_block}
use denote.Ref.{MutRef, mut_vals, mut_Tells}
use denote.Signature.{plain, mut_ref_to}
use denote.Steps.{nothing, opens, peeks, heard}
use denote.Struct.Struct.{Struct}
use denote.Struct.Owning.{shape, to}
use denote.Triple.Walked.{Stays, walk_of, says, stay_dropped, Goes-spent_ref, ends_at}
use Rattle.ptpx_c.specs.declared.watch_handle.RawWatch.{RawWatch}
use Rattle.ptpx_c.specs.declared.ring_watch.RingWatch.{RingWatch}
use Rattle.ptpx_c.specs.Watches.{with_watch}
use Rattle.ptpx_c.specs.Memory.{watch_memory}
use Rattle.ptpx_c.specs.contracts.watch_handle.RawWatch.port as f
use Rattle.ptpx_c.specs.contracts.watch_handle.RawWatch.{the_row as R, the_type}
use Rattle.ptpx_c.specs.contracts.ring_watch.RingWatch.{the_row as T}
use Rattle.ptpx_c.proofs.Ports.{the_some}
use Rattle.ptpx_c.proofs.watch_handle.RawWatch.TheLaws.{lowers}
use Rattle.ptpx_c.proofs.watch_handle.RawWatch.port.Statement.{statement}
use Rattle.ptpx_c.proofs.watch_handle.RawWatch.port.Code as code

abbrev stayed : Stays f.ended.signature.params f.ended.kept
stayed = (stay_dropped (mut_ref_to (0 ∷ []) tt (plain (λ _. R))) no, tt)

-- all of the handle but its port
abbrev Rest : RawWatch → List Val → ℕ → ℕ → Fml
Rest h us rb ro = fsep ((Struct (shape the_type)).own_val (to the_type h) us) (cell_at full_share R.mir us rb ro)

module _ {M : Type 1} {𝓤 : Ura M} (𝓛 : Logic 𝓤) (h : RawWatch) (us : List Val) (rb ro b o : ℕ) where
  back : h.at ≡ block_ptr b o → (w : RingWatch) → ent 𝓤 (sep 𝓤 (sem 𝓛 ((mem T).own_at w b o)) (sem 𝓛 (Rest h us rb ro))) (sem 𝓛 ((mem R).own_at (with_watch h w) rb ro))
  unfolding part_of
  back e w =
      qed 𝓛 (‵ (lies_at T full_share (block_ptr b o) w) ∷ ‵ (Rest h us rb ro) ∷ []) ∵
      rewrite ! 0 (λ (p : Ptr). ‵ (lies_at T full_share p w)) (sym e) refl $ move ! (1 ∷ []) $ fsplit ! $ move ! (0 ∷ 2 ∷ []) $ fjoin ! $ move ! (1 ∷ []) $ fjoin ! $
      fpack ! (List Val) (λ (vs : List Val). fsep (cell_at full_share R.mir vs rb ro) (R.own_val (with_watch h w) vs)) us $ done !

pub port_spec : {M : Type 1} → statement M
port_spec 𝓤 𝓛 𝓜 𝓡 wired =
    let c = f.clauses 𝓛 𝓜.mem 𝓡.returns in let W = walk_of 𝓛 f.ended stayed c in let 𝓣 = tables 𝓤 𝓛.H 𝓜 𝓡 𝓡.env in
    proved 𝓛 f.ended stayed c 𝓜 𝓡 (Goes-spent_ref 𝓛 1 (0 ∷ []) tt (plain (λ _. R)), tt)
    f.Key.name code.function (code.unfolded 𝓤 𝓛.H 𝓜 𝓡 wired)
    (λ κs. (mut_vals, tt)) (λ κs. (mut_Tells (named 0) κs.0 R, tt)) (λ κs qs bounds a _ are.
    let κ = κs.0 in let q = qs.0 in
    let rb = a.0.ref_ptr.0 in let ro = a.0.ref_ptr.1 in let γ = a.0.ghost_name in let h = a.0.now in let vs = mut_vals a.0 in
    let y : W.Ghost = ((κs, qs, bounds, a, (vs, tt)), tt) in
    let Cell = λ (ws : List Val). ‵ (cell_at full_share R.mir ws rb ro) in
    qed 𝓛 (((‵ (flft κ q) ⊛ ‵ ftrue) ⊛ ‵ ((MutRef (named 0) κ R).own_val a.0 vs) ⊛ ‵ ftrue) ∷ raw (fact 𝓤 (IsSome h.port)) ∷ []) ∵
    move ! (1 ∷ []) $ heard ! _ (λ some_port.
    let v = (the_some h.port some_port).0 in let there = (the_some h.port some_port).1 in
    split ! $ split ! $ move ! (2 ∷ []) $ split ! $ keep ! (0 ∷ 2 ∷ []) $
    enter ! _ _ _ _ _ $ alloc_all ! (λ l. pass_all ! refl ((tt, tt), tt) $
    fsplit3 ! $ drop ! $ move ! (0 ∷ 1 ∷ 2 ∷ []) $ opens ! tt R rb ro (λ us.
    move ! (1 ∷ []) $ peeks ! R _ (shows 𝓛 R) h us (λ is. fsplit ! $ move ! (1 ∷ []) $
    rewrite ! 0 (λ (m : Option RingWatch). ‵ (watch_memory h.at m)) there refl $
    in_a_block ! h.at (λ p. lies_at T full_share p v) (id⊢ 𝓤 _) (λ b o e.
    let word = lowers.val_is h us is ∙ ap (λ (p : Ptr). lowers.lowered (record h { at = p }) ∷ []) e in
    rewrite ! 2 Cell word refl $
    -- [the port; what the fields own; the handle's cell; the open borrow, in three entries]
    first ! $ blocks ! $
    sets ! (of_opd ! (load ! (through ! refl (fld ! refl (stop !))) (look_in ! 2 (sub ! 0 refl (whole !))))) refl (tt, tt) $
    sets ! (of_opd ! (get ! refl)) refl (tt, tt) $
    sets_last ! (addr ! (through ! refl (stop !))) refl (tt, tt) $
    exec ! 𝓣.C 𝓣.Λ (env code.Mir.locals l) (after 1 (code.function).body) (at_ret _ (W.post y)) $
    sets ! (of_opd ! (get ! refl)) refl (tt, tt) $
    rewrite ! 2 Cell (sym word) refl $ move ! (1 ∷ 2 ∷ []) $ fjoin ! $ move ! (2 ∷ 3 ∷ 4 ∷ 1 ∷ 0 ∷ []) $ group ! 5 $
    use1 𝓛 (later (some (λ (δ : GName). raw (Part 𝓛 R T (with_watch h) (named 0) κ q rb ro b o γ (sem 𝓛 (Rest h us rb ro)) (back 𝓛 h us rb ro b o e) v δ))))
    (lends_Part 𝓛 R T (with_watch h) (named 0) κ q rb ro b o γ (sem 𝓛 (Rest h us rb ro)) (back 𝓛 h us rb ro b o e) (R.coded.code h) (R.coded.code h) v) $
    await ! tt $ pick ! (λ δ.
    returns ! (look_at ! 0 refl) $ free_all ! refl $ keep ! (0 ∷ []) $
    let lent : MutBor RingWatch = record { ref_ptr = (b, o); ghost_name = δ; now = v } in
    let Lent = (MutRef (named 0) κ T).own_val lent (vptr b o ∷ []) in let Follows = follows R T γ δ (with_watch h) in
    let exits : ent 𝓤 (sep 𝓤 (sem 𝓛 Lent) (sep 𝓤 (𝓛.A.lft κ q) (sem 𝓛 Follows))) (W.post y (vptr b o)) =
    qed 𝓛 (‵ Lent ∷ ‵ (flft κ q) ∷ ‵ Follows ∷ []) ∵
    suffices ! _ (ends_at 𝓛 f.ended stayed c y (vptr b o) lent (tt, tt) (tt, tt)) $
    nothing ! $ nothing ! $ fjoin ! $ join ! $ nothing ! $ move ! (2 ∷ 0 ∷ []) $ join ! $ join ! $ frame ! $ says ! there $ done ! in
    by ! exits)))))))
