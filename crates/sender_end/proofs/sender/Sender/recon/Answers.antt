-- The picture that was coded last is drawn, and is the run's reconstruction.
use Rattle.std.proofs.Common.{◌≡◌, inl, inr, ℕ, ◌-◌, ◌%◌, ◌<◌, Option, Some, None, IfSome, sym, ap, ◌∙◌, subst, arith, length}
use Rattle.std.specs.Option.{option_map}
use Rattle.std.proofs.lemmas.Option.{slice_get_cases}
use Rattle.std.proofs.Math.Nat.{mod-lt}
use Rattle.h263_types.specs.declared.blocks.Mb.{Mb}
use Rattle.h263_planes.specs.Lent.{picture}
use Rattle.h263_planes.specs.Picture.{Picture}
use Rattle.picture_store.specs.Pictures.{picture_in, slot_of, slots_of}
use Rattle.call_model.specs.CodedPictures.{Coded, picture_at}
use Rattle.call_model.specs.Sending.{SenderRun}
use Rattle.call_model.specs.Stands.{Sender, SenderKeeps}
use Rattle.call_decoding.specs.Rules.{rules_of}
use Rattle.call_decoding.specs.Samples.{pictures}
use Rattle.call_decoding.specs.Styles.{Style}
use Rattle.call_encoding.specs.Encoding.{encoding}
use Rattle.sender_end.specs.Parts.{sender_state}
use Rattle.sender_end.specs.Stands.{Holds, IsSeen, PacedStands, entries_run}
use Rattle.sender_end.specs.State.{SenderState}
use Rattle.sender_end.proofs.sender.Sender.recon.Given.{Over}
use Rattle.sender_end.proofs.sender.Sender.recon.Goals.{After-unwrap}
use Rattle.sender_end.proofs.sender.Sender.recon.Goals as goal

-- the slot of the last number has the picture that was coded last
last_is : {P : Type 0} (state : SenderState P) (s : Sender Picture) (run : SenderRun Style Mb Picture) → IsSeen state s
    → SenderKeeps (pictures state.params.format) (encoding state.params) (rules_of state.params) s run
    → slots_of state.store ≡ state.params.slots → 0 < state.params.slots → 0 < state.sent
    → Some (picture_in state.store (slot_of state.store (state.sent - 1))) ≡ picture_at run.coded (state.sent - 1)
last_is state s run seen keeps held room some =
    let m = state.sent - 1 in
    let all : state.sent ≡ length run.coded = sym seen.sent ∙ keeps.sent in
    elim (slice_get_cases run.coded m).1 [
      | inl at ↦
          ap (λ (p : Picture). let o : Option Picture = Some p in o)
          (ap (λ (l : ℕ). picture_in state.store (m % l)) held
          ∙ sym (seen.picture (m % state.params.slots) (mod-lt m room))
          ∙ keeps.kept m at.0 (at.1, omega (arith, all, some, room)) at.2)
          ∙ sym (ap (λ (o : Option (Coded Style Mb Picture)). option_map (λ (y : Coded Style Mb Picture). y.picture) o)
          at.2)
      | inr past ↦ absurd (omega (arith, past.0, all, some))
    ]

if_some : {A : Type 0} (Q : A → Type 0) (o : Option A) (x : A) → o ≡ Some x → IfSome o Q → Q x
if_some Q None x is holds = absurd (cc is)
if_some Q (Some y) x is holds = subst Q (cc is) holds

-- the picture that is lent, by the run whose state is kept
lent_is : (g : Over) (c : After-unwrap g) (s : Sender Picture) (run : SenderRun Style Mb Picture)
    → IsSeen (sender_state c.self.inside) s
    → SenderKeeps (pictures c.self.inside.params.format) (encoding c.self.inside.params) (rules_of c.self.inside.params)
    s run
    → Some (picture c.unwrap.result) ≡ picture_at run.coded (c.self.inside.sent - 1)
lent_is g c s run seen keeps =
    let i = c.self.inside in
    let ready = c.self.invariant in
    let some : 0 < i.sent = omega (
      arith,
      c.requires.coded,
      ap (λ (x : SenderState g.row.P.Denot). x.sent) c.self.view_is,
    ) in
    let shown : picture c.unwrap.result ≡ picture_in i.store.store (slot_of i.store.store (i.sent - 1)) =
    if_some (λ r. picture r ≡ picture_in i.store.store (slot_of i.store.store (i.sent - 1))) c.view.result
    c.unwrap.result c.unwrap.ensures c.view.ensures.picture
    in
    ap (λ (p : Picture). let o : Option Picture = Some p in o) shown
    ∙ last_is (sender_state i) s run seen keeps ready.slots (omega (arith, ready.params.slots_low)) some

pub returns-clause-stands : goal.returns-clause-stands
returns-clause-stands g c = λ entries stood.
    let i = c.self.inside in
    let was = subst (λ (x : SenderState g.row.P.Denot). PacedStands (g.P.Pace.quant_of x.pace) x entries)
    (sym c.self.view_is) stood in
    subst (λ (x : SenderState g.row.P.Denot). Some (picture c.unwrap.result)
    ≡ picture_at (entries_run x.params (g.P.Pace.quant_of x.pace) entries).coded (x.sent - 1)) c.self.view_is
    (lent_is g c was.s (entries_run i.params (g.P.Pace.quant_of i.pace) entries) was.seen was.stands)

pub returns-clause-holds : goal.returns-clause-holds
returns-clause-holds g c = λ run held.
    let was = subst (λ (x : SenderState g.row.P.Denot). Holds x run) (sym c.self.view_is) held in
    subst (λ (x : SenderState g.row.P.Denot). Some (picture c.unwrap.result) ≡ picture_at run.run.coded (x.sent - 1))
    c.self.view_is
    (lent_is g c was.s run.run was.seen was.holds.keeps)
