-- A capture by a sender with the pace that its aim gives.
use Rattle.std.proofs.Common.{◌≡◌, ℕ, List, length, sym, ap, ◌∙◌, subst}
use Rattle.h263_types.specs.declared.Kind.{Kind}
use Rattle.h263_types.specs.declared.params.Params.{Params}
use Rattle.call_encoding.specs.Frames.{Frame}
use Rattle.sender_end.specs.declared.answers.Coded.{Coded}
use Rattle.sender_end.specs.State.{SenderState}
use Rattle.sender_end.specs.Stands.{Describes, Holds, SentRun, after_code, next_in, packets_after}
use Rattle.rate_control.specs.declared.send_pace.SendPace.{SendPace}
use Rattle.rate_control.specs.Pace.{first_quant, quant_after_sizes, target_of}
use Rattle.fitted_sender.specs.declared.aim.Aim.{Aim}
use Rattle.fitted_sender.specs.Aiming.{Sent, aim_after, counted_bytes, first_by, next_kind, pace_by, target_by}
use Rattle.fitted_sender.specs.Stands.{IsCaptured}

-- the packets of a sender are those of its run's last picture
packets_are : (p : Params) (state : SenderState SendPace) (run : SentRun) → state.params ≡ p → Holds state run
    → state.packets ≡ packets_after p run
packets_are p state run same h =
    sym h.seen.packets ∙ h.holds.keeps.packets ∙ ap (λ (q : Params). packets_after q run) same

module _ (p : Params) (run : SentRun) (aim : Aim) (kind : Kind) (pace : SendPace) (kind_is : kind ≡ next_kind p run)
    (target_is : target_of pace ≡ target_by aim.target aim.fit) (first_is : first_quant pace
    ≡ first_by aim.quant kind aim.fit) where
  abbrev sent : Sent
  sent = record { run = run; aim = aim }

  abbrev paced : List ℕ → ℕ
  paced = quant_after_sizes (target_of pace) (first_quant pace)

  pace_is : paced ≡ pace_by p sent
  pace_is = λ i. quant_after_sizes (target_is i) ((first_is
      ∙ ap (λ (k : Kind). first_by aim.quant k aim.fit) kind_is) i)

  pub is_captured : (frame : Frame) (new : SenderState SendPace) (after : Aim) (answer : Coded) → new.params ≡ p
      → Holds new (after_code p paced frame run) → Describes (length run.run.coded) (next_in p paced frame run) answer
      → after ≡ aim_after kind (counted_bytes new.packets) aim → IsCaptured frame p sent new after answer
  is_captured frame new after answer same holds tells told =
      let held : Holds new (after_code p (pace_by p sent) frame run) =
      subst (λ (f : List ℕ → ℕ). Holds new (after_code p f frame run)) pace_is holds in
      let says : Describes (length run.run.coded) (next_in p (pace_by p sent) frame run) answer =
      subst (λ (f : List ℕ → ℕ). Describes (length run.run.coded) (next_in p f frame run) answer) pace_is tells
      in
      let packets = packets_are p new (after_code p (pace_by p sent) frame run) same held in
      record {
        holds = held;
        follows = told ∙ (λ i. aim_after (kind_is i) (counted_bytes (packets i)) aim);
        packets = packets;
        describes = says;
      }
