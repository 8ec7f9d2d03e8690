-- All receivers of a group, event by event.
use Rattle.std.proofs.Common.{◌≡◌, ℕ, zero, suc, ◌+◌, ◌<◌, ◌≤◌, Bool, true, false, List, [], ◌∷◌, length, Option, Some, refl, sym, ap, subst, ◌∙◌, arith, eqb}
use Rattle.std.specs.Prelude.{slice_get, slice_set, replicate}
use Rattle.std.proofs.lemmas.Bool.{eq-eqb, eqb-true}
use Rattle.std.proofs.lemmas.List.{get_or-set_other, get_or-set_same, get_or-replicate, length-replicate, length-set}
use Rattle.h263_types.specs.declared.blocks.Mb.{Mb}
use Rattle.h263_types.specs.declared.params.Params.{Params}
use Rattle.h263_planes.specs.Picture.{Picture}
use Rattle.call_model.specs.IdealCall.{Call, Event, Send, Deliver, Play, Back, NumberedMessage, about, slices_at}
use Rattle.call_model.specs.TwoStores.{travelling}
use Rattle.call_decoding.specs.Rules.{rules_of}
use Rattle.call_decoding.specs.Styles.{Style}
use Rattle.call_encoding.specs.Frames.{Frame}
use Rattle.call_encoding.specs.Messages.{write_message}
use Rattle.one_way.specs.Laws.{NetworkLaws}
use Rattle.group_sender.specs.Holding.{Groups}
use Rattle.group_call.specs.One.{one_sends}
use Rattle.group_call.specs.Viewing.{ViewerRun, no_view, coded_packets, view_delivery, view_picture, view_places, view_play}
use Rattle.group_command.specs.Group.{after_joins, view_in}
use Rattle.group_command.specs.Recorded.{AllReferToNewest, Captured, Happening, Played, Reached, Returned, after_note, call_at, call_with, events_at, group_at, if_own, with_slices}
use Rattle.group_command.proofs.Lives as life
use Rattle.group_command.proofs.Lives.{Lives, ViewLaws, starts_in}
use Rattle.group_command.proofs.Meeting.{packets_count}
use Rattle.group_command.proofs.Referring.{PartiesAre, ReferenceLaws, parties_said, parties_start, refers}

same_place : (k : ℕ) → eqb k k ≡ true
same_place k = eq-eqb k k refl

other_place : (k i : ℕ) → (k ≡ i → ⊥) → eqb k i ≡ false
other_place k i apart = by_test (eqb k i) refl
  where
    by_test : (b : Bool) → eqb k i ≡ b → b ≡ false
    by_test true is = absurd (apart (eqb-true k i is))
    by_test false is = refl

-- what the laws say of a group's parts
pub record GroupLaws (p : Params) : Type 0 where
  pub views : ViewLaws p
  pub references : ReferenceLaws p
  pub messages : NetworkLaws p

module _ (p : Params) (count : ℕ) (frames : List Frame) (laws : GroupLaws p) (most : count ≤ 16) where
  abbrev group : List Happening → Groups
  group past = group_at p count frames past

  abbrev call : ℕ → List Happening → Call Style Mb Picture
  call k past = call_at p count frames k past

  abbrev Lived : ℕ → Groups → List Event → ViewerRun → Type 0
  Lived k run events view = Lives p laws.views k run events view

  -- so it is of all receivers after these events, whose views are these
  pub record AllLive (past : List Happening) (views : List ViewerRun) : Type 0 where
    pub long : length views ≡ count
    pub lives : (k : ℕ) → k < count → Lived k (group past) (events_at k past) (view_in views k)
    pub parties : PartiesAre count (group past).parties
    pub refer : AllReferToNewest p count frames past

  pub all_start : AllLive [] (replicate count no_view)
  all_start = record {
    long = length-replicate count no_view;
    lives = λ k few. subst (λ (v : ViewerRun). Lived k (after_joins count) [] v)
        (sym (get_or-replicate count k no_view no_view few)) (starts_in p laws.views k count few most);
    parties = parties_start count most;
    refer = tt;
  }

  -- one receiver goes on
  one_on : (k : ℕ) → k < count → (past past2 : List Happening) (views : List ViewerRun) (view : ViewerRun)
      → AllLive past views → Lived k (group past2) (events_at k past2) view
      → ((i : ℕ) → i < count → (k ≡ i → ⊥) → Lived i (group past2) (events_at i past2) (view_in views i))
      → PartiesAre count (group past2).parties → AllReferToNewest p count frames past2
      → AllLive past2 (slice_set views k view)
  one_on k few past past2 views view all own others parties refer = record {
    long = length-set views k view ∙ all.long;
    lives = each;
    parties = parties;
    refer = refer;
  }
    where
      each : (i : ℕ) → i < count → Lived i (group past2) (events_at i past2) (view_in (slice_set views k view) i)
      each i less = by_test (eqb k i) refl
        where
          by_test : (b : Bool) → eqb k i ≡ b
              → Lived i (group past2) (events_at i past2) (view_in (slice_set views k view) i)
          by_test true is =
              let same : k ≡ i = eqb-true k i is in
              let below : k < length views = omega (arith, few, all.long) in
              subst (λ (j : ℕ). Lived j (group past2) (events_at j past2) (view_in (slice_set views k view) j)) same
              (subst (λ (v : ViewerRun). Lived k (group past2) (events_at k past2) v)
              (sym (get_or-set_same views k view no_view below)) own)
          by_test false is =
              let apart : k ≡ i → ⊥ = λ same. let wrong : true ≡ false = sym (eq-eqb k i same) ∙ is in
              absurd (cc wrong)
              in
              subst (λ (v : ViewerRun). Lived i (group past2) (events_at i past2) v)
              (sym (get_or-set_other views k i view no_view (λ e. apart (sym e)))) (others i less apart)

  abbrev IsNear : ℕ → Groups → List Event → ℕ → Type 0
  IsNear k run events n = (n < length (call_with p run.coded events).coded)
      × ((call_with p run.coded events).played < n + (rules_of p).half)

  -- an event of its own goes to a receiver, and to no other
  to_own : (k : ℕ) (run : Groups) (e : Event) (events : List Event) (view : ViewerRun)
      → Lived k run (e ∷ events) view → Lived k run (if_own (eqb k k) e events) view
  to_own k run e events view l = subst (λ (b : Bool). Lived k run (if_own b e events) view) (sym (same_place k)) l

  to_other : (k i : ℕ) → (k ≡ i → ⊥) → (run : Groups) (e : Event) (events : List Event) (view : ViewerRun)
      → Lived i run events view → Lived i run (if_own (eqb k i) e events) view
  to_other k i apart run e events view l =
      subst (λ (b : Bool). Lived i run (if_own b e events) view) (sym (other_place k i apart)) l

  module _ (past : List Happening) (views : List ViewerRun) (all : AllLive past views) where
    abbrev run : Groups
    run = group past

    abbrev view : ℕ → ViewerRun
    view k = view_in views k

    -- ---- packets

    pub all_reached : (k n j : ℕ) → k < count → IsNear k run (events_at k past) n
        → AllLive (Reached k n j ∷ past)
        (slice_set views k (view_delivery p (coded_packets p run.coded n) n j (view k)))
    all_reached k n j few may =
        one_on k few past (Reached k n j ∷ past) views _ all
        (to_own k run (Deliver n j) (events_at k past) _
        (life.reaches p laws.views k n j run (events_at k past) (view k) (all.lives k few) may))
        (λ i less apart. to_other k i apart run (Deliver n j) (events_at i past) (view i) (all.lives i less))
        all.parties all.refer

    abbrev slices : ℕ → ℕ → ℕ → List Happening
    slices k n m = with_slices p count frames k n m past

    pub group_slices : (k n m : ℕ) → group (slices k n m) ≡ run
    group_slices k n zero = refl
    group_slices k n (suc m) = group_slices k n m

    refer_slices : (k n m : ℕ) → AllReferToNewest p count frames (slices k n m)
    refer_slices k n zero = all.refer
    refer_slices k n (suc m) = refer_slices k n m

    pub others_slices : (k n m i : ℕ) → (k ≡ i → ⊥) → events_at i (slices k n m) ≡ events_at i past
    others_slices k n zero i apart = refl
    others_slices k n (suc m) i apart =
        ap (λ (b : Bool). if_own b (Deliver n m) (events_at i (slices k n m))) (other_place k i apart)
        ∙ others_slices k n m i apart

    own_slices : (k n m : ℕ) → k < count → IsNear k run (events_at k past) n
        → Lived k run (events_at k (slices k n m)) (view_places p (coded_packets p run.coded n) n m (view k))
        × IsNear k run (events_at k (slices k n m)) n
    own_slices k n zero few may = (all.lives k few, may)
    own_slices k n (suc m) few may =
        let before = own_slices k n m few may in
        let events = events_at k (slices k n m) in
        subst (λ (b : Bool). Lived k run (if_own b (Deliver n m) events)
        (view_places p (coded_packets p run.coded n) n (suc m) (view k))
        × IsNear k run (if_own b (Deliver n m) events) n)
        (sym (same_place k)) (
          life.reaches p laws.views k n m run events (view_places p (coded_packets p run.coded n) n m (view k)) before.0
              before.1,
          before.1,
        )

    pub all_slices : (k n : ℕ) → k < count → IsNear k run (events_at k past) n
        → AllLive (slices k n (length (slices_at run.coded n)))
        (slice_set views k (view_picture p (coded_packets p run.coded n) n (view k)))
    all_slices k n few may =
        let packets = coded_packets p run.coded n in
        let m = length packets in
        let is : group (slices k n m) ≡ run = group_slices k n m in
        subst (λ (c : ℕ). AllLive (slices k n c) (slice_set views k (view_picture p packets n (view k))))
        (packets_count p laws.messages run.coded n)
        (one_on k few past (slices k n m) views (view_picture p packets n (view k)) all
        (subst (λ (g : Groups). Lived k g (events_at k (slices k n m)) (view_picture p packets n (view k))) (sym is)
        (own_slices k n m few may).0)
        (λ i less apart. subst (λ (g : Groups). Lived i g (events_at i (slices k n m)) (view i)) (sym is)
        (subst (λ (e : List Event). Lived i run e (view i)) (sym (others_slices k n m i apart)) (all.lives i less)))
        (subst (λ (g : Groups). PartiesAre count g.parties) (sym is) all.parties) (refer_slices k n m))

    -- ---- a play

    pub all_played : (k : ℕ) → k < count → (call k past).played < length (call k past).coded
        → AllLive (Played k ∷ past) (slice_set views k (view_play p (view k)))
    all_played k few may =
        one_on k few past (Played k ∷ past) views _ all
        (to_own k run Play (events_at k past) _
        (life.plays_next p laws.views k run (events_at k past) (view k) (all.lives k few) may))
        (λ i less apart. to_other k i apart run Play (events_at i past) (view i) (all.lives i less))
        all.parties all.refer

    -- ---- a message that comes back

    pub all_returned : (k m : ℕ) (note : NumberedMessage) → k < count → slice_get (call k past).said m ≡ Some note
        → length (call k past).coded < about note + (rules_of p).half
        → AllLive (Returned k m ∷ past) (slice_set views k (view k))
    all_returned k m note few said close =
        let bytes = write_message (travelling (rules_of p) note) in
        let is = ap (λ (o : Option NumberedMessage). after_note p k o run) (sym said) in
        one_on k few past (Returned k m ∷ past) views (view k) all
        (subst (λ (g : Groups). Lived k g (if_own (eqb k k) (Back m) (events_at k past)) (view k)) is
        (to_own k _ (Back m) (events_at k past) (view k)
        (life.returns_own p laws.views k m note run (events_at k past) (view k) (all.lives k few) said close)))
        (λ i less apart. subst (λ (g : Groups). Lived i g (if_own (eqb k i) (Back m) (events_at i past)) (view i)) is
        (to_other k i apart _ (Back m) (events_at i past) (view i)
        (life.others_say p laws.views i k bytes run (events_at i past) (view i) apart (all.lives i less))))
        (subst (λ (g : Groups). PartiesAre count g.parties) is
        (parties_said count k _ run.parties few most all.parties))
        all.refer

    -- ---- a capture

    pub all_captured : (frame : Frame) → slice_get frames (length run.coded) ≡ Some frame
        → ((k : ℕ) → k < count → length (call k past).coded < (call k past).played + (rules_of p).half)
        → AllLive (Captured ∷ past) views
    all_captured frame there close =
        let is : one_sends p (Some frame) run ≡ group (Captured ∷ past) =
        ap (λ (o : Option Frame). one_sends p o run) (sym there) in
        record {
          long = all.long;
          lives = λ k few. subst (λ (g : Groups). Lived k g (Send ∷ events_at k past) (view k)) is
              (life.captured p laws.views k frame run (events_at k past) (view k) (all.lives k few) (close k few));
          parties = subst (λ (g : Groups). PartiesAre count g.parties) is all.parties;
          refer = (
            refers p count frames laws.references past all.parties most
                (λ k few. (life.heard p laws.views k run (events_at k past) (view k) (all.lives k few)).knows)
                frame there,
            all.refer,
          );
        }
