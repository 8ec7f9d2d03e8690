-- A message changes which of the last pictures are known, and nothing else.
use Rattle.std.proofs.Common.{◌≡◌, Ok, sym, ap, ◌∙◌, subst, ◌∷◌}
use Rattle.h263_planes.specs.Picture.{Picture}
use Rattle.reference_selector.specs.Messages.{message_of}
use Rattle.call_model.specs.Sending.{Feedback}
use Rattle.call_model.specs.Stands.{Sender}
use Rattle.call_decoding.specs.Rules.{rules_of}
use Rattle.call_decoding.specs.Samples.{pictures}
use Rattle.call_encoding.specs.Encoding.{encoding}
use Rattle.call_encoding.specs.Messages.{as_read, read_message}
use Rattle.sender_end.specs.Parts.{sender_state}
use Rattle.sender_end.specs.Stands.{Holds, IsSeen, PacedStands, after_message}
use Rattle.sender_end.specs.State.{SenderState}
use Rattle.sender_end.proofs.Keeping.{own_numbers}
use Rattle.sender_end.proofs.Noted.{IsNoted, noted}
use Rattle.sender_end.proofs.sender.Sender.feedback.Given.{Over}
use Rattle.sender_end.proofs.sender.Sender.feedback.Goals.{Joined-note}
use Rattle.sender_end.proofs.sender.Sender.feedback.Goals as goal

pub invariant_of-self : goal.invariant_of-self
invariant_of-self g c =
    let ready = c.self.invariant in
    let i = c.self.inside in
    record {
      params = ready.params;
      cutter_format = ready.cutter_format;
      cutter_limit = ready.cutter_limit;
      store_format = ready.store_format;
      slots = ready.slots;
      works = ready.works;
      kept = ready.kept;
      selects = own_numbers (rules_of i.params) c.note.new.self i.sent _ _ (c.note.ensures.known (rules_of i.params) _
          _ ready.selects);
      few = ready.few;
      small = ready.small;
    }

-- the sender as it was, and what became of it
abbrev before : (g : Over) → Joined-note g → SenderState g.row.P.Denot
before g c = sender_state c.self.inside

abbrev after : (g : Over) → Joined-note g → SenderState g.row.P.Denot
after g c = sender_state (record (c.self.inside) { selector = c.note.new.self })

seen_after : (g : Over) (c : Joined-note g) (s : Sender Picture) → IsSeen (before g c) s
    → IsNoted (before g c) c.args.bytes.now c.note.new.self s
seen_after g c s seen =
    let i = c.self.inside in
    let read : read_message i.params.clock c.args.bytes.now ≡ Ok (message_of c.in-Ok.message) =
    ap as_read (sym c.read.ensures.value ∙ c.in-Ok.is) in
    noted (before g c) c.args.bytes.now s seen (message_of c.in-Ok.message) read c.note.new.self
    (c.note.ensures.known (rules_of i.params))

pub returns-after-note-clause-stands : goal.returns-after-note-clause-stands
returns-after-note-clause-stands g c = λ entries stood.
    let i = c.self.inside in
    let p = i.params in
    let pace = g.P.Pace.quant_of i.pace in
    let was = subst (λ (x : SenderState g.row.P.Denot). PacedStands (g.P.Pace.quant_of x.pace) x entries)
    (sym c.self.view_is) stood in
    let noted_now = seen_after g c was.s was.seen in
    let now : PacedStands pace (after g c) (Feedback c.args.bytes.now ∷ entries) = record {
      s = noted_now.t;
      seen = noted_now.seen;
      since = was.since;
      stands =
          c.sender_stands.ensures.feedback (pictures p.format) (encoding p) (rules_of p)
          (c.are_rules.ensures p c.self.invariant.params)
          pace c.args.bytes.now was.s noted_now.t entries was.stands noted_now.after;
    } in
    subst (λ (x : SenderState g.row.P.Denot). PacedStands (g.P.Pace.quant_of x.pace) (after g c)
    (Feedback c.args.bytes.now ∷ entries)) c.self.view_is now

pub returns-after-note-clause-holds : goal.returns-after-note-clause-holds
returns-after-note-clause-holds g c = λ run held.
    let i = c.self.inside in
    let p = i.params in
    let was = subst (λ (x : SenderState g.row.P.Denot). Holds x run) (sym c.self.view_is) held in
    let noted_now = seen_after g c was.s was.seen in
    let now : Holds (after g c) (after_message p c.args.bytes.now run) = record {
      s = noted_now.t;
      seen = noted_now.seen;
      since = was.since;
      holds =
          c.sender_holds.ensures.feedback (pictures p.format) (encoding p) (rules_of p)
          (c.are_rules.ensures p c.self.invariant.params)
          c.args.bytes.now was.s noted_now.t run.run was.holds noted_now.after;
    } in
    subst (λ (x : SenderState g.row.P.Denot). Holds (after g c) (after_message x.params c.args.bytes.now run))
    c.self.view_is now
