-- `packet_in` takes the slot for good, and says what becomes of it. What it answers goes to
-- `note_packet`.
use Rattle.std.proofs.Common.{◌≡◌, ℕ, List, [], ◌∷◌, refl, ap, ◌∙◌, subst}
use Rattle.std.specs.Prelude.{◌≢◌, IfOk, Ok, Result}
use mir.Syntax.{named, w16}
use base.Logic.{emp, id⊢}
use base.Fml.{Lft, ftrue, flft}
use types.Kit.{‵, raw, ◌⊛◌, some, later, ◌$◌, ◌∵◌, !, qed, by, move, keep, drop, use0, use1, use2, split, join, fjoin, pick, await}
use types.Run.{enter, addr, stop, no_more, and_then, returns}
use types.ByLocal.{alloc_all, pass_all, free_all, look_at, get, through, sets, lands_as}
use contract.Monad.{fact, fact_i}
use contract.Running.{tables}
use denote.Builtin.{u8, u16, u32}
use denote.Plain.{uint_vals, uint_Tells}
use denote.Exit.{no, yes}
use denote.Laws.{shows}
use denote.Param.Laws.{Laws, of_field}
use denote.Param.Shared.{copy_shared}
use denote.RattleType.{RattleType}
use denote.Ref.{Bor, NamedLft, MutRef, mut_vals, mut_Tells}
use denote.Signature.{Slot, plain, mut_ref_to, named_lft}
use denote.Steps.{nothing, heard, peeks}
use denote.Struct.Field.{Field, u8-field, u32-field, shr_slice_field}
use denote.Struct.Laws.{u8-laws, u8-copy, u32-laws, u32-copy, shr_slice_laws, shr_slice_copy}
use denote.Triple.Call.{calls_at}
use denote.Triple.Clauses.{lasts}
use denote.Triple.Spec.{triple_of}
use denote.Triple.Table.{framed}
use denote.Triple.Walked.{Stays, stay_dropped, gave_ref, Goes-dropped, Goes-spent_ref, Goes-gave_ref}
use Rattle.core.specs.contracts.result.Result as results
use Rattle.core.proofs.result.Result.TheLaws as result_laws
use Rattle.std.proofs.raw_atomic.Walks.{proved, leaves}
use Rattle.h263rps_c.specs.declared.receiver.Lent.{Lent}
use Rattle.h263rps_c.specs.declared.refusals.EndRefusal.{EndRefusal}
use Rattle.h263rps_c.specs.Refusals.{end_refusal, status_of}
use Rattle.h263rps_c.specs.Slots.{for_repeats}
use Rattle.h263rps_c.specs.Repeating.{FindsPacket}
use Rattle.h263rps_c.specs.Returned.{KeepsEnd}
use Rattle.h263rps_c.specs.contracts.handles.Slot as slots
use Rattle.h263rps_c.specs.contracts.receiver.Lent as lents
use Rattle.h263rps_c.specs.contracts.refusals.EndRefusal as refusals
use Rattle.h263rps_c.proofs.refusals.EndRefusal.TheLaws as refusal_laws
use Rattle.h263rps_c.specs.contracts.repeating.packet_in as f
use Rattle.h263rps_c.proofs.repeating.packet_in.Met as f-met
use Rattle.h263rps_c.specs.contracts.repeating.note_packet as g
use Rattle.h263rps_c.proofs.repeating.note_packet.Met as g-met
use Rattle.h263rps_c.specs.contracts.repeating.h263rps_raw_repeats_find.{ended, clauses}
use Rattle.h263rps_c.specs.contracts.repeating.h263rps_raw_repeats_find.Key.{name as #self}
use Rattle.h263rps_c.proofs.repeating.h263rps_raw_repeats_find.Statement.{statement}
use Rattle.h263rps_c.proofs.repeating.h263rps_raw_repeats_find.Code as code

abbrev slot_row : Slot 2
slot_row = plain (λ _. slots.the_row)

abbrev lent_row : Slot 2
lent_row = plain (λ κs. lents.the_row (named_lft 2 0 tt κs))

abbrev stayed : Stays ended.signature.params ended.kept
stayed = (
  stay_dropped (mut_ref_to (0 ∷ []) tt slot_row) no,
  (
    stay_dropped (plain (λ _. u16)) yes,
    (gave_ref (1 ∷ []) tt lent_row, tt),
  ),
)

-- what `packet_in` answers
abbrev Packet : Type 0
Packet = Result (Bor (List ℕ)) EndRefusal

abbrev samples_field : Lft → Field
samples_field κ = shr_slice_field (named_lft 1 0 tt (κ, tt)) u8 tt

abbrev R : Lft → RattleType
R κ = results.the_row (samples_field κ).row refusals.the_row

u8_laws : Laws u8
u8_laws = of_field u8-field u8-laws refl (copy_shared u8-field u8-copy)

u32_laws : Laws u32
u32_laws = of_field u32-field u32-laws refl (copy_shared u32-field u32-copy)

samples_laws : (κ : Lft) → Laws (R κ)
samples_laws κ =
    let a : NamedLft = named_lft 1 0 tt (κ, tt) in
    result_laws.the_row_laws (samples_field κ).row refusals.the_row
    (of_field (samples_field κ) (shr_slice_laws a u8 tt) refl
    (copy_shared (samples_field κ) (shr_slice_copy a u8 tt u8_laws.shr_laws)))
    refusal_laws.the_row_laws

pub h263rps_raw_repeats_find_spec : {M : Type 1} → statement M
h263rps_raw_repeats_find_spec 𝓤 𝓛 𝓜 𝓡 wired =
    let c = clauses 𝓛 𝓜.mem 𝓡.returns in let run = framed 𝓤 𝓛.H 𝓜 (tables 𝓤 𝓛.H 𝓜 𝓡 𝓡.env) in
    proved 𝓛 ended stayed c 𝓜 𝓡 (
      Goes-spent_ref 𝓛 2 (0 ∷ []) tt slot_row,
      (Goes-dropped 𝓛 2 (plain (λ _. u16)) yes (λ κs x f. refl), (Goes-gave_ref 𝓛 2 1 tt lent_row, tt)),
    ) #self
    code.function (code.unfolded 𝓤 𝓛.H 𝓜 𝓡 wired)
    (λ κs. (mut_vals, (uint_vals w16, (mut_vals, tt)))) (λ κs. (
      mut_Tells (named 0) κs.0 (slot_row.row κs),
      (uint_Tells w16, (mut_Tells (named 1) κs.1.0 (lent_row.row κs), tt)),
    )) (λ κs qs bounds a _ are.
    let κ = κs.0 in let q = qs.0 in let κ' = κs.1.0 in let q' = qs.1.0 in let slot = a.0 in let sequence = a.1.0 in
    let lent = a.1.1.0 in let fits = are.1.0.1 in let inside = slot.now.handle.inside in
    let own_slot = ‵ ((MutRef (named 0) κ (slot_row.row κs)).own_val slot (mut_vals slot)) in
    let own_number = ‵ (u16.own_val sequence (uint_vals w16 sequence)) in
    let own_lent = ‵ ((MutRef (named 1) κ' (lent_row.row κs)).own_val lent (mut_vals lent)) in
    let F = triple_of 𝓛 f.signature (f.spec 𝓛 𝓜.mem 𝓡.returns) in
    let G = triple_of 𝓛 g.signature (g.spec 𝓛 𝓜.mem 𝓡.returns) in
    qed 𝓛 (((‵ (flft κ q) ⊛ ‵ (flft κ' q') ⊛ ‵ ftrue) ⊛ own_slot ⊛ own_number ⊛ own_lent ⊛ ‵ ftrue) ∷ ‵ ftrue ∷ []) ∵
    split ! $ split ! $ move ! (1 ∷ []) $ split ! $ move ! (3 ∷ []) $ split ! $ move ! (1 ∷ []) $ split ! $ move !
    (1 ∷ []) $ split ! $ keep ! (3 ∷ 2 ∷ 0 ∷ 6 ∷ 4 ∷ []) $
    enter ! _ _ _ _ _ $ alloc_all ! (λ l. pass_all ! refl ((tt, tt), ((tt, record { fits = fits }), ((tt, tt), tt))) $
    sets ! (addr ! (through ! refl (stop !))) refl (tt, tt) $
    -- [slot; the number; lent; the token of κ; the token of κ']
    let x : F.Ghost = (
      ((κ, tt), (q, tt), tt, (slot, (sequence, tt)), (mut_vals slot, (uint_vals w16 sequence, tt))),
      tt,
    ) in
    nothing ! $ move ! (2 ∷ 0 ∷ []) $ join ! $ move ! (1 ∷ 0 ∷ []) $ join ! $ nothing ! $ move !
    (3 ∷ 0 ∷ []) $ join ! $ join ! $ nothing ! $ move ! (1 ∷ 0 ∷ []) $ use2 𝓛 (raw (F.pre x)) (id⊢ 𝓤 _) $
    calls_at ! run F (f-met.met 𝓤 𝓛 𝓜 𝓡 (code.calls-h263rps_c::repeating::packet_in 𝓡.env wired)) x
    (and_then ! (get ! refl) (and_then ! (get ! refl) (no_more !))) (λ u.
    use1 𝓛 (later (some (λ (r : Packet). ((‵ (flft κ q) ⊛ ‵ ftrue) ⊛ ‵ ((R κ).own_val r (u ∷ []))) ⊛ some
    (λ (ws : Unit {0} × (Unit {0} × Unit {0})). ‵ (lasts f.ended (κ, tt) (slot, (sequence, tt)) ws) ⊛
    (raw (fact 𝓤 (end_refusal r ≡ for_repeats inside)) ⊛ (raw (fact 𝓤 (IfOk r (λ s. FindsPacket sequence inside s.now)))
    ⊛ ‵ (KeepsEnd slot))))))) (id⊢ 𝓤 _) $
    await ! tt $ pick ! (λ r. split ! $ split ! $ split ! $ move ! (3 ∷ []) $ pick !
    (λ _. split ! $ drop ! $ split ! $ heard ! _ (λ refused. split ! $ heard ! _ (λ shown.
    move ! (3 ∷ []) $ peeks ! (R κ) _ (shows 𝓛 (R κ)) r (u ∷ [])
    (λ is. lands_as ! refl refl (((samples_laws κ).lawful 𝓛).typed r (u ∷ []) is).0 $
    sets ! (addr ! (through ! refl (stop !))) refl (tt, tt) $
    -- [the samples; what becomes of the slot; the token of κ; nothing; lent; the token of κ']
    let y : G.Ghost = ((κs, qs, bounds, (r, (lent, tt)), (u ∷ [], (mut_vals lent, tt))), tt) in
    move ! (4 ∷ []) $ nothing ! $ move ! (1 ∷ 0 ∷ []) $ join ! $ move ! (1 ∷ 0 ∷ []) $ join ! $ move !
    (4 ∷ 3 ∷ []) $ join ! $ move ! (3 ∷ 0 ∷ []) $ join ! $ join ! $
    nothing ! $ move ! (1 ∷ 0 ∷ []) $ use2 𝓛 (raw (G.pre y)) (id⊢ 𝓤 _) $
    calls_at ! run G (g-met.met 𝓤 𝓛 𝓜 𝓡 (code.calls-h263rps_c::repeating::note_packet 𝓡.env wired)) y
    (and_then ! (get ! refl) (and_then ! (get ! refl) (no_more !))) (λ v.
    use1 𝓛 (later (some (λ (n : ℕ). ((‵ (flft κ q) ⊛ ‵ (flft κ' q') ⊛ ‵ ftrue) ⊛ ‵ (u32.own_val n (v ∷ []))) ⊛ some
    (λ (ws : Unit {0} × (Lent × Unit {0})). ‵ (lasts g.ended κs (r, (lent, tt)) ws) ⊛
    (raw (fact 𝓤 (n ≡ status_of (end_refusal r))) ⊛ (raw (fact 𝓤 (n ≢ 0 → ws.1.0 ≡ lent.now)) ⊛ raw (fact 𝓤 (n ≡ 0
    → r ≡ Ok ws.1.0.samples)))))))) (id⊢ 𝓤 _) $
    await ! tt $ pick ! (λ n. split ! $ split ! $ move ! (2 ∷ []) $ pick !
    (λ ws. split ! $ move ! (1 ∷ []) $ split ! $ heard ! _
    (λ told. split ! $ heard ! _ (λ unlent. heard ! _ (λ noted.
    move ! (2 ∷ []) $ peeks ! u32 _ (shows 𝓛 u32) n (v ∷ [])
    (λ is'. lands_as ! refl refl ((u32_laws.lawful 𝓛).typed n (v ∷ []) is').0 $
    returns ! (look_at ! 0 refl) $ free_all ! refl $
    -- [the number; lent's last value; the tokens; what becomes of the slot]
    let last = ws.1.0 in
    move ! (3 ∷ []) $ use0 𝓛 (raw (fact 𝓤 (n ≡ 0 → FindsPacket sequence inside last.samples.now)))
    (fact_i 𝓤 _ (emp 𝓤) (λ zero. subst (λ (s : Packet). IfOk s (λ s. FindsPacket sequence inside s.now))
    (noted zero) shown)) $ join ! $
    use0 𝓛 (raw (fact 𝓤 (n ≢ 0 → last ≡ lent.now))) (fact_i 𝓤 _ (emp 𝓤) unlent) $ join ! $
    use0 𝓛 (raw (fact 𝓤 (n ≡ status_of (for_repeats inside)))) (fact_i 𝓤 _ (emp 𝓤) (told ∙ ap status_of refused)) $ join
    ! $
    move ! (1 ∷ 0 ∷ []) $ join ! $ move ! (1 ∷ 0 ∷ []) $ nothing ! $ fjoin ! $ join ! $ move ! (1 ∷ 0 ∷ []) $
    by ! (leaves 𝓛 ended stayed c (
      (κs, qs, bounds, a, (mut_vals slot, (uint_vals w16 sequence, (mut_vals lent, tt)))),
      tt,
    ) v n (tt, (tt, (last, tt))) (tt, (tt, (tt, tt)))))))))))))))))))
