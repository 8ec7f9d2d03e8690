-- A call with ends that are lent, before its first event.
use Rattle.std.proofs.Common.{◌≡◌, ℕ, ◌-◌, Bool, true, false, List, [], ◌++◌, Option, refl, sym, ap, subst, ◌∙◌, arith, if◌then◌else◌}
use Rattle.h263_outside.specs.Desk.{Outside}
use Rattle.h263_outside.specs.declared.desk.Role.{Role}
use Rattle.call_report.specs.declared.status.Status.{Status}
use Rattle.call_report.specs.Status.{Phase, phase}
use Rattle.call_report.specs.Status.Phase.{finished, refused, unread, unwritten, starved, unasked, unopened}
use Rattle.call_model.specs.Receiving.{ReceiverEntry}
use Rattle.desk_program.specs.Ends.{AfterAll, OnceSettled, Tells}
use Rattle.desk_program.specs.Laws.{TurnLaws}
use Rattle.desk_program.specs.Run.{Run, end_state, machine_run}
use Rattle.desk_program.specs.UnderWay.{EndsIn, IsUnderWay, LeftIn}
use Rattle.h263_types.specs.declared.params.Params.{Params}
use Rattle.one_way.specs.Both.{State}
use Rattle.sender_end.specs.Stands as sender_end
use Rattle.receiver_end.specs.State as receiver_end
use Rattle.receiver_end.specs.declared.kept.Kept.{Kept}
use Rattle.call_command.specs.declared.begun.Begun.{Begun}
use Rattle.call_command.specs.declared.link.Link.{Link}
use Rattle.call_command.specs.declared.world.World.{World}
use Rattle.call_command.specs.declared.terms.Terms.{Terms}
use Rattle.one_way.specs.Both.{steady}
use Rattle.one_way.specs.Laws.{WayLaws}
use Rattle.call_command.specs.Call.{CallState, call_step, call_at_start, may_read, most_turns, talk_step}
use Rattle.call_command.specs.Converse.{IsCallStart, WorldAnswers, WorldStands, WorldStays, talk_end, talk_of}
use Rattle.call_command.specs.Laws.{TalkIsTheCall}
use Rattle.call_command.specs.Standing.{EndsStand, IsFreshLink, CallParts, PartsStand, more_of, call_parts}
use Rattle.call_command.specs.Turning.{IsAnswer, LeavesEnds, names_of}
use Rattle.call_command.proofs.Counting.{ends_stand}
use Rattle.call_command.proofs.Starting.{stands_first}

-- what was begun, and what carries it
abbrev pub parts_with : Begun → Link → CallParts
parts_with begun link =
    record {
      terms = begun.terms;
      video = begun.video;
      sender = begun.both.sender;
      receiver = begun.both.receiver;
      link = link;
    }

-- its parts stand
pub lent_first : (x : CallParts) (before : List ReceiverEntry) (inputs : Role → List ℕ) → WayLaws x.terms.params
    → IsFreshLink x.terms x.link
    → x.sender.params ≡ x.terms.params → sender_end.PacedStands (steady x.terms.params) x.sender [] → x.sender.sent ≡ 0
    → x.video.more ≡ 1048576 → x.receiver.params ≡ x.terms.params → x.receiver.played ≡ 0
    → receiver_end.Stands x.receiver before
    → PartsStand x (call_at_start x.terms before x.video.at) inputs
lent_first x before inputs laws fresh sender_params sends sent more receiver_params played receives =
    stands_first x fresh laws sender_params sends sent more before x.video.at inputs refl receiver_params receives
    (subst (λ (p : Params). (receiver_end.run_of p before).played ≡ 0) receiver_params (sym receives.played ∙ played))

-- no frame and no line was read yet
most_is : (x : CallParts) → x.link.trace.lines ≡ 0 → x.video.more ≡ 1048576 → more_of x ≡ most_turns x.terms.plain
most_is x lines more = by_trace x.terms.plain
  where
    by_trace : (plain : Bool) → (if plain then x.video.more else 16777216 - x.link.trace.lines) ≡ most_turns plain
    by_trace true = more
    by_trace false = ap (λ (n : ℕ). 16777216 - n) lines

-- a run of the ideal call that is under way before the first event is one by both ends
pub alone_under_way : (x : CallParts) → x.link.trace.lines ≡ 0 → x.video.more ≡ 1048576
    → ((rest : Role → List ℕ) → PartsStand x (call_at_start x.terms [] x.video.at) rest) → TalkIsTheCall x.terms
    → (run : Run) (inputs : Role → List ℕ) (start : Role → Option (List ℕ)) (now : Outside)
    → IsUnderWay call_step may_read run inputs start (IsCallStart x.terms x.video.at) (most_turns x.terms.plain) now
    → IsUnderWay talk_step may_read run inputs start (PartsStand x) (more_of x) now
alone_under_way x lines more kept talk run inputs start now u =
    let most = most_turns x.terms.plain in
    let same : machine_run talk_step (more_of x) u.state u.rest ≡ machine_run call_step most u.state u.rest =
    ap (λ (n : ℕ). machine_run talk_step n u.state u.rest) (most_is x lines more)
    ∙ subst (λ (s : CallState). machine_run talk_step most s u.rest ≡ machine_run call_step most s u.rest) (sym u.kept)
    (talk x.video.at most u.rest)
    in
    record {
      done = u.done;
      state = u.state;
      rest = u.rest;
      kept = subst (λ (s : CallState). PartsStand x s u.rest) (sym u.kept) (kept u.rest);
      turns = ap (λ (r : Run). u.done ++ r.turns) same ∙ u.turns;
      last = ap (λ (r : Run). r.last) same ∙ u.last;
      place = u.place;
      told = u.told;
      whole = u.whole;
      written = u.written;
    }

module _ (x : CallParts) (before : List ReceiverEntry) (inputs : Role → List ℕ) (now : Outside)
    (lines : x.link.trace.lines
    ≡ 0) (more : x.video.more ≡ 1048576)
    (kept : PartsStand x (call_at_start x.terms before x.video.at) inputs) (told : Tells now inputs) where
  abbrev first : CallState
  first = call_at_start x.terms before x.video.at

  more_is : more_of x ≡ most_turns x.terms.plain
  more_is = most_is x lines more

  pub under_way : TurnLaws
      → IsUnderWay talk_step may_read (talk_of x.terms before x.video.at inputs) inputs now.written (PartsStand x)
      (more_of x) now
  under_way laws = record {
    done = [];
    state = first;
    rest = inputs;
    kept = kept;
    turns = ap (λ (n : ℕ). (machine_run talk_step n first inputs).turns) more_is;
    last = ap (λ (n : ℕ). (machine_run talk_step n first inputs).last) more_is;
    place = refl;
    told = told;
    whole = λ _ k turn less. absurd (omega (arith, less));
    written = laws.no_text now.written now.written refl;
  }

  pub ends_in : EndsIn talk_step (talk_end x.terms before x.video.at inputs) (PartsStand x) (more_of x) now
  ends_in = record {
    state = first;
    rest = inputs;
    kept = kept;
    told = told;
    ends = ap (λ (n : ℕ). end_state talk_step n first inputs) more_is;
  }

-- what is so after `Ok` and a refusal, by what else is
after_all : (status : Status) (P Q : Type 0) → (P → Q) → AfterAll status P → AfterAll status Q
after_all status P Q leads p = by_phase (phase status) p
  where
    by_phase : (ph : Phase) → OnceSettled ph P → OnceSettled ph Q
    by_phase finished p = leads p
    by_phase refused p = leads p
    by_phase unread p = tt
    by_phase unwritten p = tt
    by_phase starved p = tt
    by_phase unasked p = tt
    by_phase (unopened role) p = tt

-- the ends of the machine stand where it stood before its last turn
pub left_standing : (status : Status) (s : CallState) (w : World) → AfterAll status (LeftIn WorldStands LeavesEnds s w)
    → AfterAll status (EndsStand w.terms w.sender.now w.receiver.now s)
left_standing status s w = after_all status (LeftIn WorldStands LeavesEnds s w)
    (EndsStand w.terms w.sender.now w.receiver.now s) ends
  where
    ends : LeftIn WorldStands LeavesEnds s w → EndsStand w.terms w.sender.now w.receiver.now s
    ends l = l.left s (ends_stand (call_parts l.last) s l.rest l.stood)

-- what stays of a machine, by what it was itself
pub stays_itself : {old new : World} → ((first : World) → WorldStays first old → WorldStays first new)
    → names_of new ≡ names_of old
stays_itself {old} {new} stays = (stays old (record { names = refl })).names

-- how it is answered, likewise
pub answers_itself : {w : World} (status : Status) → ((first : World) → WorldStays first w → WorldAnswers first status)
    → IsAnswer w.terms.plain status
answers_itself {w} status answers = answers w (record { names = refl })

-- what was lent stands, too
pub lent_stand : (status : Status) (s : CallState) (t u : Terms) (sender their_sender : State)
    (receiver their_receiver : Kept)
    → u ≡ t → their_sender ≡ sender → their_receiver ≡ receiver
    → AfterAll status (EndsStand u their_sender their_receiver s) → AfterAll status (EndsStand t sender receiver s)
lent_stand status s t u sender their_sender receiver their_receiver terms senders receivers stand =
    subst (λ (t : Terms). AfterAll status (EndsStand t sender receiver s)) terms
    (subst (λ (x : State). AfterAll status (EndsStand u x receiver s)) senders
    (subst (λ (receiver : Kept). AfterAll status (EndsStand u their_sender receiver s)) receivers stand))
