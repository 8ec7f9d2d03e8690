use Rattle.std.proofs.Common.{◌≡◌, ℕ, List, ◌∷◌, ◌++◌, Option, sym, ap, subst, ◌∙◌}
use Rattle.back_messages.specs.declared.writing.Said.{Said}
use Rattle.h263_types.specs.declared.params.Params.{Params}
use Rattle.h263_planes.specs.Picture.{Picture}
use Rattle.call_model.specs.Coding.{Shown}
use Rattle.call_model.specs.JoinedRun.{SaidMessage, said_at_play}
use Rattle.call_model.specs.Receiving.{played_shown}
use Rattle.call_decoding.specs.Rules.{rules_of}
use Rattle.coded_call.specs.Coding.{coding}
use Rattle.receiver_end.specs.Answers.{SaysMessage, IsPlayed}
use Rattle.receiver_end.specs.Decoding.{decoding}
use Rattle.receiver_end.specs.State.{mark_after, message_after, run_of}
use Rattle.one_way.specs.Counts.{AreCounted}
use Rattle.one_way.specs.declared.tally.Tally.{Tally}
use Rattle.one_way.specs.Network.{HasMessages, told_by}
use Rattle.group_call.proofs.viewer.Viewer.play.Goals as goal

pub returns-clause-mark : goal.returns-clause-mark
returns-clause-mark c = λ p view h.
    let told =
    subst (λ (q : Params). IsPlayed q.clock c.play-played.result (mark_after q view.entries)
    (message_after q view.entries)) h.params
    (c.play-played.ensures.told view.entries h.receives)
    in
    told.mark_is

pub returns-clause-holds : goal.returns-clause-holds
returns-clause-holds c = λ p view h.
    let told =
    subst (λ (q : Params). IsPlayed q.clock c.play-played.result (mark_after q view.entries)
    (message_after q view.entries)) h.params
    (c.play-played.ensures.told view.entries h.receives)
    in
    let run = run_of p view.entries in
    let laws = c.ring_laws.ensures p in
    let shown : Shown Picture = played_shown (decoding p.format) (rules_of p) run in
    let number : c.play-played.result.number ≡ run.played =
    c.play-played.ensures.run view.entries h.receives ∙ ap (λ (q : Params). (run_of q view.entries).played) h.params
    in
    let says : SaysMessage p.clock c.as_bytes.result (message_after p view.entries) =
    subst (λ (o : Option Said). SaysMessage p.clock o (message_after p view.entries)) (sym c.as_bytes.ensures.same)
    told.message_is
    in
    let is : told_by c.play-played.result.number c.as_bytes.result ≡ said_at_play (coding p) (rules_of p) run =
    ap (λ (n : ℕ). told_by n c.as_bytes.result) number
    ∙ laws.told run.played c.as_bytes.result (message_after p view.entries) says c.as_bytes.ensures.bytes
    in
    record {
      params = c.play-played.ensures.params ∙ h.params;
      receives = c.play-played.ensures.stands view.entries h.receives;
      messages = subst (λ (l : List SaidMessage). HasMessages c.keep_told.new.messages (view.told ++ l)) is
          (c.keep_told.ensures.kept view.told h.messages);
      marks = subst (λ (x : Tally). AreCounted x (shown ∷ view.plays)) (sym c.count.ensures.value)
          (laws.counted c.play-played.result.mark c.args.self.now.tally shown view.plays told.mark_is h.marks);
    }
