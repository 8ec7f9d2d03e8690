use Rattle.std.proofs.Common.{◌≡◌, List, [], ◌∷◌, ◌++◌, refl, sym, subst}
use mir.Val.{Val}
use base.Logic.{SProp, ent, emp, id⊢}
use prog.Wp.{WpFn}
use types.Kit.{‵, raw, ◌⊛◌, ◌$◌, ◌∵◌, !, qed, by, move, keep, split, fsplit3, fjoin, feq_l, suffices, use0, use1}
use types.Run.{no_more, and_then, returns, enter}
use types.ByLocal.{alloc_all, pass_all, free_all, look_at, get, sets}
use types.Part.{agg}
use contract.Monad.{fact, fact_i}
use contract.Running.{tables}
use denote.Exit.{yes}
use denote.RattleType.{owns}
use denote.Signature.{types_at, plain}
use denote.RawPtr.{RawPtr, ptr_val}
use denote.Steps.{nothing}
use denote.Triple.Entry.{alive}
use denote.Triple.Walked.{Stays, stay_dropped, walk_of, Goes-dropped}
use Rattle.core.proofs.alloc.Calls.{handle_tells}
use Rattle.core.proofs.atomic.Steps.{Ptr-Good}
use Rattle.std.specs.declared.option.Option.{Option}
use Rattle.core.specs.declared.option.Option.TheVariants.{None}
use Rattle.std.proofs.alloc.Global.TheLaws as heap_laws
use Rattle.std.proofs.raw_atomic.Walks.{proved_at, leaves}
use Rattle.h263rps_c.specs.Holds.{holds_end}
use Rattle.h263rps_c.specs.contracts.ends.End as held
use Rattle.h263rps_c.proofs.LooseValues.{both}
use Rattle.h263rps_c.proofs.HandleValues.{Z, handle_in, al, handle_good}
use Rattle.h263rps_c.specs.contracts.handles.Handle.empty.{ended, clauses}
use Rattle.h263rps_c.specs.contracts.handles.Handle.empty.Key.{name as #self}
use Rattle.h263rps_c.proofs.handles.Handle.empty.Statement.{statement}
use Rattle.h263rps_c.proofs.handles.Handle.empty.Code as code

pub empty_spec : {M : Type 1} → statement M
empty_spec 𝓤 𝓛 𝓜 𝓡 wired =
    let H = 𝓛.H in let 𝓣 = tables 𝓤 H 𝓜 𝓡 𝓡.env in let En = ended in let c = clauses 𝓛 𝓜.mem 𝓡.returns in
    let fn = code.function in
    let none : Option (held.the_row).Denot = None in let LZ = heap_laws.the_row_laws in
    let hs : Stays En.signature.params En.kept = (
      stay_dropped (plain (λ _. RawPtr)) yes,
      (stay_dropped (plain (λ _. Z)) yes, tt),
    ) in
    proved_at 𝓛 En hs c 𝓜 𝓡 (
      Goes-dropped 𝓛 0 (plain (λ _. RawPtr)) yes (λ κs x f. refl),
      (Goes-dropped 𝓛 0 (plain (λ _. Z)) yes (λ κs x f. refl), tt),
    ) #self fn (code.unfolded 𝓤 H 𝓜 𝓡 wired) (λ z are.
    let p = z.0.3.0 in let a = z.0.3.1.0 in let Post : Val → SProp 𝓤 = (walk_of 𝓛 En hs c).post z in let Run : List Val
    → SProp 𝓤 = λ ws. WpFn 𝓤 H 𝓣.C 𝓣.Λ fn ws Post in
    qed 𝓛 ((raw (alive 𝓛 En.signature z.0.0 z.0.1) ⊛ ‵ (owns (types_at En.signature.params z.0.0) z.0.3 z.0.4)) ∷ raw
    ((c z.0.0 z.0.3).requires z.1) ∷ []) ∵ split ! $ move ! (1 ∷ []) $ fsplit3 ! $
    feq_l ! (λ ep. handle_tells al ! a z.0.4.1.0 (λ h eh fits.
    let w : Val = both (ptr_val p) h in let typed = handle_good p h fits in
    suffices ! (Run (ptr_val p ∷ h ∷ [])) (subst (λ (us : List Val). ent 𝓤 (Run (ptr_val p ∷ h ∷ [])) (Run us))
    (sym (λ i. ep i ++ (eh i ++ []))) (id⊢ 𝓤 (Run (ptr_val p ∷ h ∷ [])))) $
    enter ! 𝓣.C 𝓣.Λ fn (ptr_val p ∷ h ∷ []) Post $ alloc_all ! (λ l. pass_all ! refl (Ptr-Good p, (fits, tt)) $
    sets ! (agg ! (and_then ! (get ! refl) (and_then ! (get ! refl) (no_more !)))) refl typed $
    nothing ! $ use1 𝓛 (‵ (holds_end a p None)) (id⊢ 𝓤 _) $ handle_in ! p h a none $
    use0 𝓛 (raw (fact 𝓤 (none ≡ none))) (fact_i 𝓤 (none ≡ none) (emp 𝓤) refl) $ nothing ! $ nothing ! $ fjoin ! $
    nothing ! $ fjoin ! $
    returns ! (look_at ! 0 refl) $ free_all ! refl $ keep ! (4 ∷ 0 ∷ 2 ∷ 1 ∷ []) $ by !
    (leaves 𝓛 En hs c z w (record { at = p; alloc = a; inside = none }) (tt, (tt, tt)) (tt, (tt, tt)))))))
