-- A play shows the receiver's picture, and a message where it isn't complete.
use Rattle.std.proofs.Common.{◌≡◌, ℕ, List, ◌∷◌, OnOk, OnErr, sym, ap, ◌∙◌, subst}
use Rattle.h263_outside.specs.declared.desk.Role.{Role}
use Rattle.h263_types.specs.declared.Mark.{Mark}
use Rattle.h263_types.specs.declared.params.Params.{Params}
use Rattle.h263_planes.specs.Lent.{picture as lent}
use Rattle.desk_program.specs.Ends.{Gains, GainsFronts}
use Rattle.call_model.specs.Receiving.{PlayNext}
use Rattle.receiver_end.specs.Answers.{mark_from}
use Rattle.receiver_end.specs.State.{mark_after, message_after, run_of}
use Rattle.recv_command.specs.Recv.{played_text}
use Rattle.recv_command.specs.Tally.{with_mark}
use Rattle.recv_command.proofs.Showing.{shown_same}
use Rattle.recv_command.proofs.recv.Receiving.play.Goals as goal

pub returns-clause-stands : goal.returns-clause-stands
returns-clause-stands g c = λ s bytes stands.
    let told = c.play-played.ensures.told s.past stands.run in
    record {
      params = stands.params ∙ sym c.play-played.ensures.params;
      tally = (λ i. with_mark (mark_from (mark_after (stands.params i) s.past)) (stands.tally i))
          ∙ sym (c.play.ensures.counts ∙ ap (λ (m : Mark). with_mark m c.args.self.now.tally) told.mark_is);
      run = c.play-played.ensures.stands s.past stands.run;
    }

pub returns-clause-ok : goal.returns-clause-ok
returns-clause-ok g c = λ s bytes stands.
    let outside = g.D.Desk.outside in
    let r = c.args.self.now.receiver in
    let told = c.play-played.ensures.told s.past stands.run in
    let after = c.play-played.ensures.stands s.past stands.run in
    let picture : lent c.shown.result ≡ (run_of r.params (PlayNext ∷ s.past)).screen =
    c.shown.ensures.run (PlayNext ∷ s.past) after
    ∙ ap (λ (p : Params). (run_of p (PlayNext ∷ s.past)).screen) c.play-played.ensures.params
    in
    let text = shown_same (message_after r.params s.past) (c.play-played.ensures.run s.past stands.run) told.mark_is
    picture
    ∙ ap (λ (p : Params). played_text p s.past) (sym stands.params)
    in
    subst (λ (t : Role → List ℕ). OnOk c.show.result (Gains t (outside c.args.desk.now).written
    (outside c.show.new.desk).written)) text
    (c.show.ensures.ok r.params.clock (message_after r.params s.past) told.message_is)

pub returns-clause-err : goal.returns-clause-err
returns-clause-err g c = λ s bytes stands.
    let outside = g.D.Desk.outside in
    let r = c.args.self.now.receiver in
    let told = c.play-played.ensures.told s.past stands.run in
    let after = c.play-played.ensures.stands s.past stands.run in
    let picture : lent c.shown.result ≡ (run_of r.params (PlayNext ∷ s.past)).screen =
    c.shown.ensures.run (PlayNext ∷ s.past) after
    ∙ ap (λ (p : Params). (run_of p (PlayNext ∷ s.past)).screen) c.play-played.ensures.params
    in
    let text = shown_same (message_after r.params s.past) (c.play-played.ensures.run s.past stands.run) told.mark_is
    picture
    ∙ ap (λ (p : Params). played_text p s.past) (sym stands.params)
    in
    subst (λ (t : Role → List ℕ). OnErr c.show.result (GainsFronts t (outside c.args.desk.now).written
    (outside c.show.new.desk).written)) text
    (c.show.ensures.err r.params.clock (message_after r.params s.past) told.message_is)
