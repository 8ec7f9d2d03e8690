-- The group's next picture is the sender's, by the newest picture that all have.
use Rattle.std.proofs.Common.{◌≡◌, ℕ, ◌+◌, ◌&&◌, ◌∙◌, ◌∷◌, ◌++◌, [], List, Option, ap, arith, leb, length, refl, subst, sym}
use Rattle.std.proofs.lemmas.List.{length-append, with_items_is}
use Rattle.h263_types.specs.declared.blocks.Mb.{Mb}
use Rattle.h263_types.specs.declared.params.Params.{Params}
use Rattle.h263_planes.specs.Lent.{picture}
use Rattle.h263_planes.specs.Picture.{Picture}
use Rattle.call_model.specs.Coding.{window}
use Rattle.call_model.specs.CodedPictures.{Coded as CodedPicture, capture, depth_at}
use Rattle.call_model.specs.Numbers.{greatest}
use Rattle.call_model.specs.Sending.{last_sizes}
use Rattle.call_decoding.specs.Rules.{rules_of}
use Rattle.call_decoding.specs.Samples.{pictures}
use Rattle.call_decoding.specs.Styles.{Style}
use Rattle.call_encoding.specs.Encoding.{encoding}
use Rattle.call_encoding.specs.Frames.{Frame}
use Rattle.sender_end.specs.Stands.{Describes, Holds, SentRun, next_with}
use Rattle.group_sender.specs.declared.member.Member.{Member}
use Rattle.group_sender.specs.Parties.{all_have}
use Rattle.group_sender.specs.Running.{newest_of_all}
use Rattle.group_sender.specs.Holding.{Groups, HoldsGroup, next_of_group, pictures_alone}
use Rattle.group_sender.proofs.Grouping.{chosen_is, stand_as}
use Rattle.group_sender.proofs.group.Group.code.Given.{Over}
use Rattle.group_sender.proofs.group.Group.code.Goals as goal

abbrev frame_of : (g : Over) → goal.After-self-2-1 g → Frame
frame_of g c = record { picture = picture c.args.frame; messages = c.args.back.now }

sent_is : (g : Over) (c : goal.After-self-2-1 g) (run : Groups) → HoldsGroup c.args.self.now run
    → c.sent-sent.result ≡ length run.coded
sent_is g c run held = c.sent-sent.ensures.holds (pictures_alone run) held.sender

-- what was chosen is the newest picture that all have
newest_is : (g : Over) (c : goal.After-self-2-1 g) (run : Groups) → HoldsGroup c.args.self.now run
    → c.newest_for_all-reference.result ≡ newest_of_all (rules_of c.args.self.now.params) run
newest_is g c run held =
    let p = c.args.self.now.params in
    let rules = rules_of p in
    let sent = c.sent-sent.result in
    let is = sent_is g c run held in
    let before = stand_as rules c.args.self.now.members.items c.as_slice.result.now (length run.coded) sent run.parties
    (sym c.as_slice.ensures.value) (sym is) held.members in
    c.newest_for_all-reference.ensures.value rules run.parties before refl (omega arith)
    ∙ ap (λ (n : ℕ). greatest (λ m. all_have run.parties m && leb n (m + window rules)) n) is

-- so the picture that was coded is the run's next one
next_is : (g : Over) (c : goal.After-self-2-1 g) (run : Groups) → HoldsGroup c.args.self.now run
    → next_with c.args.self.now.sender.params (g.P.Pace.quant_of c.args.self.now.sender.pace)
    c.newest_for_all-reference.result (frame_of g c) (pictures_alone run)
    ≡ next_of_group c.args.self.now.params (g.P.Pace.quant_of c.args.self.now.sender.pace) (frame_of g c) run
next_is g c run held =
    let p = c.args.self.now.params in
    let pace = g.P.Pace.quant_of c.args.self.now.sender.pace in
    let frame = frame_of g c in
    ap (λ (q : Params). next_with q pace c.newest_for_all-reference.result frame (pictures_alone run))
    c.args.self.now.same
    ∙ ap (λ (r : Option ℕ). next_with p pace r frame (pictures_alone run)) (newest_is g c run held)
    ∙ ap (λ (r : Option ℕ). capture (pictures p.format) (encoding p)
    (pace (last_sizes (encoding p) (rules_of p) run.coded)) frame run.coded r)
    (chosen_is (rules_of p) (depth_at run.coded) (all_have run.parties) (length run.coded))

-- the run of its sender with one more picture
abbrev with_one : Groups → CodedPicture Style Mb Picture → SentRun
with_one run x = pictures_alone (record run { coded = run.coded ++ x ∷ [] })

pub returns-clause-holds : goal.returns-clause-holds
returns-clause-holds g c = λ run held.
    let v = c.args.self.now.members in
    let p = c.args.self.now.params in
    let rules = rules_of p in
    let sent = c.sent-sent.result in
    let is = sent_is g c run held in
    let x = next_of_group p (g.P.Pace.quant_of c.args.self.now.sender.pace) (frame_of g c) run in
    let before = stand_as rules v.items c.as_mut_slice.result.now (length run.coded) sent run.parties
    (sym c.as_mut_slice.ensures.value) (sym is) held.members in
    let after = c.tell_coded.ensures.stands rules run.parties before in
    let as_long : length c.as_mut_slice.result.now
    ≡ length v.items = ap (λ (l : List Member). length l) c.as_mut_slice.ensures.value in
    let items = with_items_is v c.tell_coded.new.members (omega (arith, c.tell_coded.ensures.count, as_long, v.ok.0)) in
    let more : sent + 1 ≡ length (run.coded ++ x ∷ []) = ap (λ (n : ℕ). n + 1) is
    ∙ sym (length-append run.coded (x ∷ [])) in
    record {
      sender =
          subst (λ (y : CodedPicture Style Mb Picture). Holds c.code_from-coded.new.self (with_one run y))
          (next_is g c run held)
          (c.code_from-coded.ensures.holds (pictures_alone run) held.sender);
      members = stand_as rules c.tell_coded.new.members _ (sent + 1) (length (run.coded ++ x ∷ [])) run.parties
          (sym items) more after;
    }

pub returns-clause-makes : goal.returns-clause-makes
returns-clause-makes g c = λ run held.
    subst (λ (y : CodedPicture Style Mb Picture). Describes (length run.coded) y c.code_from-coded.result)
    (next_is g c run held)
    (c.code_from-coded.ensures.makes (pictures_alone run) held.sender)
