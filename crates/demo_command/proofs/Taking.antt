-- The turns of the machine.
use Rattle.std.proofs.Common.{◌≡◌, ℕ, Bool, true, List, [], ◌∷◌, Result, Ok, Err, refl, sym, ap, subst, ◌∙◌}
use Rattle.h263_outside.specs.Desk.{Outside}
use Rattle.h263_outside.specs.declared.desk.Role.{Role}
use Rattle.h263_outside.specs.declared.desk.Role.TheVariants.{Report}
use Rattle.loss_trace.specs.declared.event.Event.{Event as Line}
use Rattle.loss_trace.specs.declared.event.Event.TheVariants as says
use Rattle.call_report.specs.declared.status.Status.{Status}
use Rattle.call_report.specs.declared.status.Status.TheVariants.{Ok as Fine, WriteFault}
use Rattle.call_report.specs.Status.{phase}
use Rattle.desk_program.specs.Run.{End, Step}
use Rattle.desk_program.specs.Run.Step.{Ends}
use Rattle.desk_program.specs.Ends.{Tells, Gains, GainsFronts, Ended, GivesUp, TurnGives, Went, step_texts}
use Rattle.desk_program.specs.Laws.{TurnLaws}
use Rattle.desk_program.specs.Texts.{no_bytes, on}
use Rattle.std.specs.Result.{IsErrAnd}
use Rattle.make_input.specs.Left.{lines_left}
use Rattle.call_model.specs.IdealCall.{AllMayHappen, Event}
use Rattle.call_decoding.specs.Rules.{rules_of}
use Rattle.coded_call.specs.Coding.{coding}
use Rattle.make_input.specs.Trace.{made_trace}
use Rattle.one_way.specs.Both.{steady}
use Rattle.call_command.specs.Counts.{call_text}
use Rattle.one_way.specs.Seen.{in_call}
use Rattle.demo_command.specs.declared.demo.Demo.{Demo}
use Rattle.demo_command.specs.declared.terms.DemoTerms.{DemoTerms}
use Rattle.demo_command.specs.Demo.{DemoState, all_done, demo_step, lines_step, made_call, made_events, made_video, silent_turn, with_made_line}
use Rattle.demo_command.specs.Laws.{MadeLaws}
use Rattle.demo_command.specs.Machine.{AreInPlace, DemoStands, DemoHasDone, sent_after}
use Rattle.demo_command.proofs.Made.{after_line, near_line}

-- ---- what is answered

pub turn_gives : (r : Result Bool Status) (status : Status) (step : Step DemoState) (after : DemoState → (Role → List ℕ)
    → Type 0) (reads : DemoState → Bool) (now : Bool) (inputs : Role → List ℕ) (old new : Outside)
    → IsErrAnd r (λ x. x ≡ status) → GivesUp (phase status) status step now inputs old new
    → TurnGives r step after reads now inputs old new
turn_gives (Ok b) status step after reads now inputs old new is gives = absurd is
turn_gives (Err x) status step after reads now inputs old new is gives =
    subst (λ (y : Status). GivesUp (phase y) y step now inputs old new) (sym is) gives

-- a write that failed
pub cut_gives : (status : Status) (step : Step DemoState) (now : Bool) (inputs : Role → List ℕ) (old new : Outside)
    → status ≡ WriteFault → GainsFronts (step_texts step) old.written new.written
    → GivesUp (phase status) status step now inputs old new
cut_gives status step now inputs old new is fronts = subst (λ (y : Status). GivesUp (phase y) y step now inputs old new)
    (sym is) fronts

-- ---- lines in place

after_in_place : (sent : ℕ) (event : Line) (lines : List Line) → AreInPlace 10000 sent (event ∷ lines)
    → AreInPlace 10000 (sent_after event sent) lines
after_in_place sent says.Nothing lines placed = placed
after_in_place sent says.Send lines placed = placed.1
after_in_place sent (says.Packet n j) lines placed = placed
after_in_place sent (says.All n) lines placed = placed.1
after_in_place sent (says.Back k) lines placed = placed
after_in_place sent says.Play lines placed = placed

-- the first of them alone
pub first_only : (sent : ℕ) (event : Line) (lines : List Line) → AreInPlace 10000 sent (event ∷ lines)
    → AreInPlace 10000 sent (event ∷ [])
first_only sent says.Nothing lines placed = tt
first_only sent says.Send lines placed = (placed.0, tt)
first_only sent (says.Packet n j) lines placed = tt
first_only sent (says.All n) lines placed = (placed.0, tt)
first_only sent (says.Back k) lines placed = tt
first_only sent says.Play lines placed = tt

pub next_in_place : (sent now : ℕ) (event : Line) (all lines : List Line) → all ≡ event ∷ lines
    → now ≡ sent_after event sent → AreInPlace 10000 sent all → AreInPlace 10000 now lines
next_in_place sent now event all lines is after placed =
    subst (λ (n : ℕ). AreInPlace 10000 n lines) (sym after)
    (after_in_place sent event lines (subst (λ (l : List Line). AreInPlace 10000 sent l) is placed))

-- ---- a turn

abbrev step_of : End → Step DemoState
step_of last = Ends last

module _ (m : Demo) (s : DemoState) (inputs : Role → List ℕ) (k : DemoStands m s inputs) where
  abbrev t : DemoTerms
  t = m.terms

  step_is : (lines : List Line) → lines_left m.lines ≡ lines → demo_step s inputs ≡ lines_step s lines
  step_is lines is = ap (lines_step s) (k.lines ∙ is)

  -- after the last line

  module _ (text : List ℕ) (told : text ≡ call_text (in_call (made_call t s.past))) (over : lines_left m.lines
      ≡ []) (old new : Outside) where
    text_is : text ≡ call_text (in_call (made_call s.terms s.past))
    text_is = told ∙ ap (λ (x : DemoTerms). call_text (in_call (made_call x s.past))) (sym k.terms)

    end_is : demo_step s inputs ≡ step_of (all_done s)
    end_is = step_is [] over

    pub end_cut : GainsFronts (on Report text) old.written new.written
        → GainsFronts (step_texts (demo_step s inputs)) old.written new.written
    end_cut fronts =
        subst (λ (step : Step DemoState). GainsFronts (step_texts step) old.written new.written) (sym end_is)
        (subst (λ (l : List ℕ). GainsFronts (on Report l) old.written new.written) text_is fronts)

    pub end_told : (laws : TurnLaws) → Tells old inputs → new.left ≡ old.left
        → Gains (on Report text) old.written new.written → Ended (demo_step s inputs) Fine inputs old new
    end_told laws tells still gains = record {
      last = all_done s;
      is = end_is;
      by = laws.ends Fine no_bytes (on Report (call_text (in_call (made_call s.terms s.past)))) inputs old new
          (laws.no_byte old new inputs still tells)
          (subst (λ (l : List ℕ). Gains (on Report l) old.written new.written) text_is gains);
    }

  -- a line

  module _ (event : Line) (lines : List Line) (is : lines_left m.lines ≡ event ∷ lines) where
    pub near_now : MadeLaws t → AllMayHappen (coding t.params) (rules_of t.params) (steady t.params) (made_video t)
        (with_made_line t s.past event)
    near_now made =
        near_line t s.past event lines
        (subst (λ (l : List Line). AllMayHappen (coding t.params) (rules_of t.params) (steady t.params) (made_video t)
        (made_events t s.past l)) (k.lines ∙ is)
        (subst (λ (l : List Event). AllMayHappen (coding t.params) (rules_of t.params) (steady t.params)
        (made_video t) l) (sym k.ahead) made.near))

    module _ (after : Demo) (terms : after.terms ≡ t) (left : lines_left after.lines
        ≡ lines) (done : DemoHasDone after (with_made_line t s.past event)) where
      abbrev next : DemoState
      next = record { terms = s.terms; past = with_made_line s.terms s.past event; lines = lines }

      past_is : with_made_line t s.past event ≡ with_made_line s.terms s.past event
      past_is = ap (λ (x : DemoTerms). with_made_line x s.past event) (sym k.terms)

      kept : (rest : Role → List ℕ) → DemoStands after next rest
      kept rest = record {
        terms = k.terms ∙ sym terms;
        lines = sym left;
        ahead = subst (λ (x : DemoTerms). made_events x next.past lines ≡ made_events x [] (made_trace x.seed x.frames))
            (sym terms)
            (ap (λ (l : List Event). made_events t l lines) (sym past_is)
            ∙ sym (after_line t s.past event lines)
            ∙ ap (λ (l : List Line). made_events t s.past l) (sym (k.lines ∙ is))
            ∙ k.ahead);
        done = subst (λ (l : List Event). DemoHasDone after l) past_is done;
      }

      pub went : TurnLaws → (old : Outside) → Tells old inputs
          → Went (demo_step s inputs) (DemoStands after) (λ _. true) true inputs old old
      went laws old tells = record {
        next = next;
        turn = silent_turn;
        could = refl;
        is = step_is (event ∷ lines) is;
        kept = kept _;
        whole = refl;
        left = laws.no_byte old old inputs refl tells;
        written = laws.no_text old.written old.written refl;
      }
