use Rattle.std.proofs.Common.{◌≡◌, ℕ, List, OnOk, OnErr, ap, ◌∙◌, subst}
use Rattle.h263_outside.specs.declared.desk.Role.{Role}
use Rattle.h263_outside.specs.declared.desk.Role.TheVariants.{Wire}
use Rattle.back_messages.specs.Said.{text_of_said}
use Rattle.event_logs.specs.Text.{entry_text}
use Rattle.desk_program.specs.Ends.{Gains, GainsFronts}
use Rattle.desk_program.specs.Texts.{on}
use Rattle.coded_call.specs.Bytes.{AreBytes}
use Rattle.recv_command.specs.Said.{said_message_text}
use Rattle.recv_command.proofs.Saying.{said_text}
use Rattle.recv_command.proofs.parts.say.Goals as goal

pub returns-in-Some-clause-ok : goal.returns-in-Some-clause-ok
returns-in-Some-clause-ok g c = λ clock message is.
    let outside = g.D.Desk.outside in
    let fit : AreBytes (text_of_said c.in-Some.said) = subst AreBytes c.text-text.ensures c.are_bytes.ensures in
    let text : on Wire (entry_text 66 c.text-text.result.now) ≡ said_message_text message =
    ap (λ (l : List ℕ). on Wire (entry_text 66 l)) c.text-text.ensures
    ∙ said_text c.said_bytes.ensures.written clock c.args.said c.in-Some.said message c.in-Some.is fit is
    in
    subst (λ (t : Role → List ℕ). OnOk c.put_entry.result (Gains t (outside c.args.desk.now).written
    (outside c.put_entry.new.desk).written)) text c.put_entry.ensures.ok

pub returns-in-Some-clause-err : goal.returns-in-Some-clause-err
returns-in-Some-clause-err g c = λ clock message is.
    let outside = g.D.Desk.outside in
    let fit : AreBytes (text_of_said c.in-Some.said) = subst AreBytes c.text-text.ensures c.are_bytes.ensures in
    let text : on Wire (entry_text 66 c.text-text.result.now) ≡ said_message_text message =
    ap (λ (l : List ℕ). on Wire (entry_text 66 l)) c.text-text.ensures
    ∙ said_text c.said_bytes.ensures.written clock c.args.said c.in-Some.said message c.in-Some.is fit is
    in
    subst (λ (t : Role → List ℕ). OnErr c.put_entry.result (GainsFronts t (outside c.args.desk.now).written
    (outside c.put_entry.new.desk).written)) text c.put_entry.ensures.err
