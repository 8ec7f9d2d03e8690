-- An event of a receiver: it is refused, or done.
use Rattle.std.proofs.Common.{◌≡◌, inl, inr, ℕ, zero, suc, ◌+◌, ◌<◌, ◌≤◌, Bool, true, false, List, length, map, Option, Some, None, Result, Ok, Err, IsErrAnd, OnOk, OnErr, IfErr, refl, sym, ap, subst, ◌∙◌, arith}
use Rattle.std.specs.Prelude.{nat_le, slice_get, if◌then◌else◌}
use Rattle.std.specs.Option.{option_map_or}
use Rattle.std.proofs.lemmas.Bool.{leb-false}
use Rattle.h263_types.specs.Clocks.{half_of, period_of}
use Rattle.h263_types.specs.Sizes.{mbs_of}
use Rattle.h263_types.specs.declared.format.Format.{Format}
use Rattle.h263_types.specs.declared.format.Format.TheVariants.{SubQcif, Qcif, Cif}
use Rattle.h263_types.specs.declared.params.Params.{Params}
use Rattle.h263_outside.specs.declared.desk.Role.{Role}
use Rattle.call_report.specs.declared.status.Status.{Status}
use Rattle.call_report.specs.declared.status.Status.TheVariants.{TraceRefused, WriteFault}
use Rattle.call_model.specs.Coding.{Rules}
use Rattle.call_model.specs.IdealCall.{Event, Send, Deliver, Play, Back}
use Rattle.call_model.specs.JoinedRun.{SaidMessage}
use Rattle.call_model.specs.Refusals.{Refusal, NotSent, Far, PlayBeforeSend, NoFrame, first_refusal}
use Rattle.call_decoding.specs.Rules.{rules_of}
use Rattle.call_rings.specs.Messages.{kept_messages}
use Rattle.call_command.specs.Refused.{IsNotRefused, IsRefusedWith, fault_on_line}
use Rattle.desk_program.specs.Ends.{Gains, GainsFronts}
use Rattle.receiver_end.specs.State.{run_of}
use Rattle.one_way.specs.declared.refusals.EventRefusal.{EventRefusal as Told}
use Rattle.one_way.specs.Refused.{IsAllowed}
use Rattle.group_sender.specs.Holding.{Groups}
use Rattle.group_call.specs.declared.broadcast.Broadcast.{Broadcast}
use Rattle.group_call.specs.Holding.{HoldsBroadcast, IsCast, IsCasting, cast_period, places_in}
use Rattle.group_call.specs.Refused.{view_refusal}
use Rattle.group_call.specs.Viewing.{ViewerRun, told_at, view_delivery, view_packet, view_places}
use Rattle.group_command.specs.declared.line.OwnEvent.{OwnEvent}
use Rattle.group_command.specs.declared.line.OwnEvent.TheVariants as own
use Rattle.group_command.specs.Group.{event_of, group_heard, run_after, texts_after, view_after}
use Rattle.group_command.specs.Turning.{OwnEventGives, KeepsCast}

-- ---- by what it answers

-- one that is not refused has no refusal
pub none_so : (r : Result Unit Told) (e : Event) (refusal : Option Refusal) → IsNotRefused r → IsAllowed r e refusal
    → refusal ≡ None
none_so (Ok u) e refusal free allowed = allowed
none_so (Err told) e refusal free allowed = absurd free

module _ (line : ℕ) (e : Event) (refusal : Option Refusal) (after : Type 0) (texts : Role → List ℕ) (old new : Role
    → Option (List ℕ)) where
  pub refused_gives : (r : Result Unit Status) (status : Status) (checked : Result Unit Told)
      → IsErrAnd r (λ z. z ≡ status) → IsRefusedWith line checked status → IsAllowed checked e refusal → new ≡ old
      → OwnEventGives r line e refusal after texts old new
  refused_gives (Ok u) status checked is told allowed same = absurd is
  refused_gives (Err z) status (Ok u) is told allowed same = absurd told
  refused_gives (Err z) status (Err t) is told allowed same =
      inl (allowed.0, allowed.1, is ∙ told ∙ ap (λ (q : Told). TraceRefused (fault_on_line line q)) allowed.2, same)

  pub written_gives : (r : Result Unit Status) → refusal ≡ None → after → OnOk r (Gains texts old new)
      → OnErr r (GainsFronts texts old new) → IfErr r (λ status. status ≡ WriteFault)
      → OwnEventGives r line e refusal after texts old new
  written_gives (Ok u) none done gains fronts kind = (none, done, gains)
  written_gives (Err z) none done gains fronts kind = inr (none, kind, fronts)

-- ---- what is near

module _ (rules : Rules) (pictures sent played : ℕ) (abouts : List ℕ) where
  number_near : (a b : Bool) (n : ℕ) → nat_le sent n ≡ a → nat_le (n + rules.half) played ≡ b
      → (if a then Some NotSent else if b then Some (Far n played) else None) ≡ None
      → (n < sent) × (played < n + rules.half)
  number_near true b n unsent far is = absurd (cc is)
  number_near false true n unsent far is = absurd (cc is)
  number_near false false n unsent far is = (leb-false sent n unsent, leb-false (n + rules.half) played far)

  pub packet_near : (n j : ℕ) → first_refusal rules pictures sent played abouts (Deliver n j) ≡ None
      → (n < sent) × (played < n + rules.half)
  unfolding first_refusal
  packet_near n j is = number_near (nat_le sent n) (nat_le (n + rules.half) played) n refl refl is

  capture_tests : (a b : Bool) → nat_le (played + rules.half) sent ≡ a
      → (if a then Some (Far sent played) else if b then Some NoFrame else None) ≡ None → sent < played + rules.half
  capture_tests true b far is = absurd (cc is)
  capture_tests false b far is = leb-false (played + rules.half) sent far

  pub capture_near : first_refusal rules pictures sent played abouts Send ≡ None → sent < played + rules.half
  unfolding first_refusal
  capture_near is = capture_tests (nat_le (played + rules.half) sent) (nat_le pictures sent) refl is

  play_test : (a : Bool) → nat_le sent played ≡ a → (if a then Some PlayBeforeSend else None) ≡ None → played < sent
  play_test true early is = absurd (cc is)
  play_test false early is = leb-false sent played early

  pub play_near : first_refusal rules pictures sent played abouts Play ≡ None → played < sent
  unfolding first_refusal
  play_near is = play_test (nat_le sent played) refl is

-- a message that may come back is kept
pub message_kept : (p : Params) (run : Groups) (view : ViewerRun) (m : ℕ) → view_refusal p run view (Back m) ≡ None
    → told_at view.told m ≡ slice_get view.told m
message_kept p run view m is = by_test (nat_le (length view.told) (m + kept_messages)) refl is
  where
    by_test : (b : Bool) → nat_le (length view.told) (m + kept_messages) ≡ b
        → (if b then first_refusal (rules_of p) (length run.coded + 1) (length run.coded) (run_of p view.entries).played
        (map (λ (told : SaidMessage). told.about) view.told) (Back m) else Some (Far m (length run.coded))) ≡ None
        → (if b then slice_get view.told m else None) ≡ slice_get view.told m
    by_test true kept free = refl
    by_test false kept free = absurd (cc free)

module _ (p : Params) (run : Groups) (view : ViewerRun) where
  abbrev sent : ℕ
  sent = length run.coded

  abbrev played : ℕ
  played = (run_of p view.entries).played

  abbrev abouts : List ℕ
  abouts = map (λ (told : SaidMessage). told.about) view.told

  -- the packets of a picture that may reach the receiver are kept
  pub is_cast : (cast : Broadcast) (n j : ℕ) → cast_period cast ≡ period_of p.clock → sent ≤ played + half_of p.clock
      → view_refusal p run view (Deliver n j) ≡ None → IsCast cast sent n
  is_cast cast n j period near free =
      let e = packet_near (rules_of p) (sent + 1) sent played abouts n j free in
      (e.0, omega (arith, e.1, near, period))

  pub may_play : view_refusal p run view Play ≡ None → played < sent
  may_play free = play_near (rules_of p) (sent + 1) sent played abouts free

  pub may_capture : view_refusal p run view Send ≡ None → sent < played + half_of p.clock
  may_capture free = capture_near (rules_of p) (sent + 1) sent played abouts free

-- ---- what stays

-- packets play nothing
pub delivery_plays : (p : Params) (packets : List (List ℕ)) (n j : ℕ) (view : ViewerRun)
    → (run_of p (view_delivery p packets n j view).entries).played ≡ (run_of p view.entries).played
delivery_plays p packets n j view = by_packet (slice_get packets j)
  where
    by_packet : (o : Option (List ℕ)) → (run_of p (option_map_or (view_packet p n view) o view).entries).played
        ≡ (run_of p view.entries).played
    by_packet None = refl
    by_packet (Some bytes) = refl

pub places_play : (p : Params) (packets : List (List ℕ)) (n count : ℕ) (view : ViewerRun)
    → (run_of p (view_places p packets n count view).entries).played ≡ (run_of p view.entries).played
places_play p packets n zero view = refl
places_play p packets n (suc j) view = delivery_plays p packets n j (view_places p packets n j view)
    ∙ places_play p packets n j view

-- no picture is coded by what a receiver does or says
heard_codes : (p : Params) (k : ℕ) (run : Groups) (view : ViewerRun) (o : Option SaidMessage)
    → (group_heard p k run view o).coded ≡ run.coded
heard_codes p k run view None = refl
heard_codes p k run view (Some told) = refl

pub own_codes : (p : Params) (k : ℕ) (run : Groups) (view : ViewerRun) (e : OwnEvent) → (run_after p k run view e).coded
    ≡ run.coded
own_codes p k run view (own.Packet n j) = refl
own_codes p k run view (own.All n) = refl
own_codes p k run view (own.Back m) = heard_codes p k run view (slice_get view.told m)
own_codes p k run view own.Play = refl

-- ---- how many packets a picture has

few_mbs : (f : Format) → mbs_of f ≤ 396
few_mbs SubQcif = omega arith
few_mbs Qcif = omega arith
few_mbs Cif = omega arith

-- ---- an event, by which it is

module _ (r : Result Unit Status) (line k : ℕ) (p : Params) (run : Groups) (view : ViewerRun) (Holds : Groups
    → ViewerRun → Type 0) (cast : Broadcast) (old new : Role → Option (List ℕ)) where
  abbrev pub Gives : OwnEvent → Type 0
  Gives e =
      OwnEventGives r line (event_of e) (view_refusal p run view (event_of e))
      (HoldsBroadcast p cast (run_after p k run view e) × Holds (run_after p k run view e) (view_after p k run view e))
      (texts_after p k run view e) old new

  pub of_event : (event said : OwnEvent) → event ≡ said → Gives said → Gives event
  of_event event said is gives = subst Gives (sym is) gives
