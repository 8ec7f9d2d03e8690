-- `end_mut` lends the end, and the handle follows it.
use Rattle.std.proofs.Common.{◌≡◌, ℕ, List, [], ◌∷◌, refl, sym, ap, ◌∙◌}
use seplogic.Ra.Ura.{Ura}
use base.Fraction.{full_share}
use mir.Syntax.{Fn, Body, named, seq, assign, return, place, copy, rv_opd}
use mir.Val.{Val, vptr}
use mir.Raw.{raw as bare}
use base.Logic.{SProp, ent, sep}
use base.Fml.{Lft, GName, Share, Fml, ftrue, fsep, flft}
use prog.Wp.{Env, Calls, Loops, WpFn}
use prog.Memory.{Memory}
use prog.Routine.{Routine}
use types.Logic.{Logic, sem}
use types.Kit.{‵, raw, ◌⊛◌, some, later, await, pick, at_ret, ◌$◌, ◌∵◌, !, qed, by, move, keep, drop, use1, split, join, group, rewrite, fsplit, fsplit3, fjoin, fpack, suffices, frame, done}
use types.Part.{whole, sub, look_in}
use types.Run.{stop, fld, load, of_opd, addr, first, blocks, exec, returns, enter}
use types.ByLocal.{alloc_all, pass_all, free_all, look_at, get, through, sets, sets_last, env}
use contract.Monad.{fact, Fun}
use contract.Running.{tables}
use denote.Exit.{no}
use denote.RattleType.{RattleType, owns}
use denote.Memory.{lone, mem, cell_at, part_at, part_of}
use denote.RawPtr.{Ptr, block_ptr, ptr_val}
use denote.Ref.{MutBor, MutRef, mut_vals, mut_Tells}
use denote.Signature.{plain, mut_ref_to}
use denote.Steps.{nothing, heard, opens}
use denote.Follow.{follows, Part, lends_Part}
use denote.Triple.Clauses.{Clauses}
use denote.Triple.Walked.{says, Stays, stay_dropped, walk_of, ends_at, Goes-spent_ref}
use Rattle.std.specs.Prelude.{IsSome, Some}
use Rattle.std.specs.contracts.impls.GlobalAllocator.TheImpl.{ghosts}
use Rattle.std.proofs.raw_atomic.Walks.{proved}
use Rattle.h263rps_c.specs.Holds.{holds_end}
use Rattle.h263rps_c.specs.Lending.{handle_with_end}
use Rattle.h263rps_c.specs.contracts.ends.End as held
use Rattle.h263rps_c.proofs.LooseValues.{both}
use Rattle.h263rps_c.proofs.HandleValues.{Z, Hd, handle_in, handle_out, in_it}
use Rattle.h263rps_c.specs.contracts.handles.Handle.end_mut.{ended, clauses}
use Rattle.h263rps_c.specs.contracts.handles.Handle.end_mut.Key.{name as #self}
use Rattle.h263rps_c.proofs.handles.Handle.end_mut.Statement.{statement}
use Rattle.h263rps_c.proofs.handles.Handle.end_mut.Code as code

abbrev R : RattleType
R = held.the_row

abbrev stayed : Stays ended.signature.params ended.kept
stayed = (stay_dropped (mut_ref_to (0 ∷ []) tt (plain (λ _. Hd))) no, tt)

abbrev rest : Body
rest = seq (assign (place 0 []) (rv_opd (copy (place 2 [])))) return

module _ {M : Type 1} {𝓤 : Ura M} (𝓛 : Logic 𝓤) (at_mem : Memory → SProp 𝓤) (run : Routine
    → Fun 𝓤) (κ : Lft) (q : Share) (rb ro : ℕ) (γ : GName) (d : Hd.Denot) where
  open 𝓛 use {H, A}

  abbrev c : Clauses 𝓤 ended
  c = clauses 𝓛 at_mem run

  abbrev self : MutBor Hd.Denot
  self = record { ref_ptr = (rb, ro); ghost_name = γ; now = d }

  abbrev bound : (walk_of 𝓛 ended stayed c).Ghost
  bound = (((κ, tt), (q, tt), tt, (self, tt), (vptr rb ro ∷ [], tt)), tt)

  abbrev Post : Val → SProp 𝓤
  Post = (walk_of 𝓛 ended stayed c).post bound

  module _ (b o : ℕ) (h : Val) where
    -- all of the handle but the end in it
    abbrev Rest : Fml
    Rest = fsep (fsep (ghosts.dealloc_token d.alloc (bare (lone R.mir)) (block_ptr b o)) (Z.own_val d.alloc (h ∷ [])))
        (cell_at full_share Hd.mir (both (vptr b o) h ∷ []) rb ro)

    back : d.at ≡ block_ptr b o → (w : R.Denot)
        → ent 𝓤 (sep 𝓤 (sem 𝓛 ((mem R).own_at w b o)) (sem 𝓛 Rest))
        (sem 𝓛 ((mem Hd).own_at (handle_with_end d w) rb ro))
    unfolding part_of
    back e w =
        qed 𝓛 (‵ (part_at R full_share w b o) ∷ ‵ Rest ∷ []) ∵ move ! (1 ∷ []) $ fsplit ! $ fsplit ! $ move !
        (3 ∷ 0 ∷ []) $ fjoin ! $
        rewrite ! 0 (λ (p : Ptr). ‵ (holds_end d.alloc p (Some w))) (sym e) refl $ rewrite ! 2
        (λ (p : Ptr). ‵ (cell_at full_share Hd.mir (both (ptr_val p) h ∷ []) rb ro)) (sym e) refl $
        handle_in ! d.at h d.alloc (Some w) $ move ! (1 ∷ 0 ∷ []) $ fjoin ! $
        fpack ! (List Val) (λ us. fsep (cell_at full_share Hd.mir us rb ro) (Hd.own_val (handle_with_end d w) us))
        (both (ptr_val d.at) h ∷ []) $ done !

  exits : (v : Val) (r : MutBor R.Denot) → d.inside ≡ Some r.now
      → ent 𝓤 (sep 𝓤 (sem 𝓛 ((MutRef (named 0) κ R).own_val r (v ∷ [])))
      (sep 𝓤 (A.lft κ q) (sem 𝓛 (follows Hd R γ r.ghost_name (handle_with_end d))))) (Post v)
  exits v r e =
      qed 𝓛 (‵ ((MutRef (named 0) κ R).own_val r (v ∷ [])) ∷ ‵ (flft κ q) ∷ ‵
      (follows Hd R γ r.ghost_name (handle_with_end d)) ∷ []) ∵
      suffices ! _ (ends_at 𝓛 ended stayed c bound v r (tt, tt) (tt, tt)) $
      nothing ! $ nothing ! $ fjoin ! $ join ! $ nothing ! $ move ! (2 ∷ 0 ∷ []) $ join ! $ join ! $ frame ! $ says ! e
      $ done !

  walk : (C : Calls 𝓤 H) (Λ : Loops 𝓤 H)
      → ent 𝓤 (sep 𝓤 (sep 𝓤 (sep 𝓤 (A.lft κ q) (sem 𝓛 ftrue))
      (sem 𝓛 (owns (MutRef (named 0) κ Hd ∷ []) (self, tt) (vptr rb ro ∷ [], tt)))) (fact 𝓤 (IsSome d.inside)))
      (WpFn 𝓤 H C Λ code.function (vptr rb ro ∷ []) Post)
  walk C Λ =
      let fn : Fn = code.function in let k = Hd.coded.code d in
      qed 𝓛 (((‵ (flft κ q) ⊛ ‵ ftrue) ⊛ ‵ (owns (MutRef (named 0) κ Hd ∷ []) (self, tt) (vptr rb ro ∷ [], tt))) ∷ raw
      (fact 𝓤 (IsSome d.inside)) ∷ []) ∵ move ! (1 ∷ []) $ heard ! (IsSome d.inside) (λ full.
      enter ! C Λ fn (vptr rb ro ∷ []) _ $ alloc_all ! (λ l. pass_all ! refl ((tt, tt), tt) $
      let En : Env 𝓤 H = env fn.locals l in
      split ! $ split ! $ move ! (2 ∷ []) $ fsplit ! $ fsplit3 ! $ drop ! $ move ! (0 ∷ 1 ∷ 3 ∷ []) $
      opens ! tt Hd {h = d} rb ro (λ vs. move ! (1 ∷ []) $ handle_out ! d vs
      (λ h ws fits. in_it ! d.alloc d.at d.inside full (λ b o x e ei. fsplit ! $
      -- [the end; the token; the allocator; the handle's word; the open borrow; obs; auth]
      rewrite ! 3 (λ (us : List Val). ‵ (cell_at full_share Hd.mir us rb ro)) (ws
      ∙ ap (λ (p : Ptr). both (ptr_val p) h ∷ []) e) refl $
      first ! $ blocks ! $
      sets ! (of_opd ! (load ! (through ! refl (fld ! refl (stop !))) (look_in ! 3 (sub ! 0 refl (whole !))))) refl (
        tt,
        tt,
      ) $ sets ! (of_opd ! (get ! refl)) refl (tt, tt) $
      sets_last ! (addr ! (through ! refl (stop !))) refl (tt, tt) $ exec ! C Λ En rest (at_ret En Post) $ sets !
      (of_opd ! (get ! refl)) refl (tt, tt) $
      move ! (1 ∷ 2 ∷ []) $ fjoin ! $ move ! (0 ∷ 2 ∷ []) $ fjoin ! $ move ! (2 ∷ 3 ∷ 4 ∷ 1 ∷ 0 ∷ []) $ group ! 5 $
      use1 𝓛 (later (some (λ (δ : GName). raw (Part 𝓛 Hd R (handle_with_end d) (named 0) κ q rb ro b o γ
      (sem 𝓛 (Rest b o h))
      (back b o h e) x δ))))
      (lends_Part 𝓛 Hd R (handle_with_end d) (named 0) κ q rb ro b o γ (sem 𝓛 (Rest b o h)) (back b o h e) k k x) $
      await ! tt
      $ pick ! (λ δ.
      returns ! (look_at ! 0 refl) $ free_all ! refl $ keep ! (0 ∷ []) $ by !
      (exits (vptr b o) (record { ref_ptr = (b, o); ghost_name = δ; now = x }) ei)))))))

pub end_mut_spec : {M : Type 1} → statement M
end_mut_spec 𝓤 𝓛 𝓜 𝓡 wired =
    let H = 𝓛.H in let 𝓣 = tables 𝓤 H 𝓜 𝓡 𝓡.env in
    proved 𝓛 ended stayed (clauses 𝓛 𝓜.mem 𝓡.returns) 𝓜 𝓡 (
      Goes-spent_ref 𝓛 1 (0 ∷ []) tt (plain (λ _. Hd)),
      tt,
    ) #self code.function (code.unfolded 𝓤 H 𝓜 𝓡 wired)
    (λ κs. (mut_vals, tt)) (λ κs. (mut_Tells (named 0) κs.0 Hd, tt))
    (λ κs qs bounds a g are. walk 𝓛 𝓜.mem 𝓡.returns κs.0 qs.0 a.0.ref_ptr.0 a.0.ref_ptr.1 a.0.ghost_name a.0.now 𝓣.C
    𝓣.Λ)
