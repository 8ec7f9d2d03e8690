-- With a reference that was chosen elsewhere the picture is the steered run's next one.
use Rattle.std.proofs.Common.{◌≡◌, ℕ, ◌+◌, ◌%◌, ◌<◌, ◌≤◌, Bool, true, false, sym, ap, ◌∙◌, subst, arith, IfSome, List, Option, Some, None, length, ltb}
use Rattle.std.specs.Prelude.{if◌then◌else◌}
use Rattle.std.specs.Option.{option_map_or}
use Rattle.std.proofs.lemmas.Option.{IfSome_then}
use Rattle.h263_types.specs.declared.blocks.Mb.{Mb}
use Rattle.h263_types.specs.Params.{IsParams}
use Rattle.h263_planes.specs.Lent.{picture}
use Rattle.h263_planes.specs.Picture.{Picture}
use Rattle.call_model.specs.CodedPictures.{Coded as CodedPicture, capture, depth_at}
use Rattle.call_model.specs.Stands.{Sender}
use Rattle.call_model.specs.SenderStanding.{IsAfterCapture}
use Rattle.call_decoding.specs.Rules.{rules_of}
use Rattle.call_decoding.specs.Samples.{pictures}
use Rattle.call_decoding.specs.Styles.{Style}
use Rattle.call_encoding.specs.Encoding.{encoding}
use Rattle.call_encoding.specs.Frames.{Frame}
use Rattle.sender_end.specs.Selecting.{within_chain}
use Rattle.sender_end.specs.Stands.{Describes, Holds, IsCodedWith, IsSeen, SentRun, after_code_from, next_with}
use Rattle.sender_end.specs.State.{SenderState}
use Rattle.sender_end.proofs.Captured.{with_kept}
use Rattle.sender_end.proofs.Choosing.{no_depth}
use Rattle.sender_end.proofs.Stepping.{chain_kept, holds_as, kept_is_capture}
use Rattle.sender_end.proofs.sender.Sender.code_from.Given.{Over}
use Rattle.sender_end.proofs.sender.Sender.code_from.Goals.{After-code_next}
use Rattle.sender_end.proofs.sender.Sender.code_from.Goals as goal

pub code_next-requires-clause-depth : goal.code_next-requires-clause-depth
code_next-requires-clause-depth g c = λ none.
    c.next_given-next.ensures.depth (rules_of c.self.inside.params) _ _ c.self.invariant.selects
    ∙ no_depth c.next_given-next.result.reference _ none

abbrev frame_of : (g : Over) → After-code_next g → Frame
frame_of g c = record { picture = picture c.args.frame; messages = c.args.back.now }

params_are : (g : Over) (c : After-code_next g) → IsParams c.args.self.now.params
params_are g c = subst (λ (x : SenderState g.row.P.Denot). IsParams x.params) c.self.view_is c.self.invariant.params

-- the reference that was given is one of the last pictures
recent : (g : Over) (c : After-code_next g) (s : Sender Picture) → IsSeen c.args.self.now s
    → IfSome c.args.reference (λ m. (m < s.sent) × (s.sent ≤ m + c.args.self.now.params.slots))
recent g c s seen =
    let slots = c.args.self.now.params.slots in
    IfSome_then c.args.reference c.requires.recent
    (λ m r. (
      subst (λ (n : ℕ). m < n) (sym seen.sent) r.0,
      subst (λ (n : ℕ). n ≤ m + slots) (sym seen.sent)
          (omega (arith, r.1)),
    ))

-- so is the one that it is coded with
kept_recent : (s : Sender Picture) (slots : ℕ) (depth : ℕ → ℕ) (given reference : Option ℕ)
    → reference ≡ within_chain (record {
      slots = slots;
      lead = 0;
      half = 0;
      chain = 131;
      mbs = 0;
      flags = 0;
    }) depth given
    → IfSome given (λ m. (m < s.sent) × (s.sent ≤ m + slots))
    → IfSome reference (λ m. (m < s.sent) × (s.sent ≤ m + slots))
kept_recent s slots depth None reference is near = subst (λ (o : Option ℕ). IfSome o (λ m. (m < s.sent)
    × (s.sent ≤ m + slots))) (sym is) tt
kept_recent s slots depth (Some m) reference is near = subst (λ (o : Option ℕ). IfSome o (λ k. (k < s.sent)
    × (s.sent ≤ k + slots))) (sym is) (go (ltb (depth m) 131))
  where
    go : (b : Bool) → IfSome (if b then Some m else None) (λ k. (k < s.sent) × (s.sent ≤ k + slots))
    go true = near
    go false = tt

reference_is : (g : Over) (c : After-code_next g) (s : Sender Picture) → IsSeen c.args.self.now s
    → c.next_given-next.result.reference ≡ within_chain (rules_of c.args.self.now.params)
    (λ m. s.depth (m % c.args.self.now.params.slots)) c.args.reference
reference_is g c s seen =
    let i = c.self.inside in
    let was = subst (λ (x : SenderState g.row.P.Denot). IsSeen x s) (sym c.self.view_is) seen in
    c.next_given-next.ensures.reference (rules_of i.params) (λ m. s.depth (m % i.params.slots))
    (λ m. s.known (m % i.params.slots)) was.selects
    ∙ ap (λ (x : SenderState g.row.P.Denot). within_chain (rules_of x.params) (λ m. s.depth (m % x.params.slots))
    c.args.reference) c.self.view_is

depth_is : (g : Over) (c : After-code_next g) (s : Sender Picture) → IsSeen c.args.self.now s
    → c.next_given-next.result.depth
    ≡ option_map_or (λ m. s.depth (m % c.args.self.now.params.slots) + 1) c.next_given-next.result.reference 0
depth_is g c s seen =
    let i = c.self.inside in
    let was = subst (λ (x : SenderState g.row.P.Denot). IsSeen x s) (sym c.self.view_is) seen in
    c.next_given-next.ensures.depth (rules_of i.params) (λ m. s.depth (m % i.params.slots))
    (λ m. s.known (m % i.params.slots)) was.selects
    ∙ ap (λ (x : SenderState g.row.P.Denot). option_map_or (λ m. s.depth (m % x.params.slots) + 1)
    c.next_given-next.result.reference 0) c.self.view_is

coded_with : (g : Over) (c : After-code_next g) (s : Sender Picture) → IsSeen c.args.self.now s
    → IsCodedWith c.args.self.now.params (g.P.Pace.quant_of c.args.self.now.pace s.sizes)
    (frame_of g c) c.next_given-next.result.reference s c.code_next.new.self c.code_next.result
coded_with g c s seen = c.code_next.ensures.made s seen (depth_is g c s seen)

-- the picture that was coded is the run's next one with that reference
next_is : (g : Over) (c : After-code_next g) (run : SentRun) (was : Holds c.args.self.now run)
    → with_kept c.args.self.now.params (g.P.Pace.quant_of c.args.self.now.pace was.s.sizes)
    (frame_of g c) was.s c.next_given-next.result.reference
    ≡ next_with c.args.self.now.params (g.P.Pace.quant_of c.args.self.now.pace) c.args.reference (frame_of g c) run
next_is g c run was =
    let p = c.args.self.now.params in
    let pace = g.P.Pace.quant_of c.args.self.now.pace in
    let s = was.s in
    let near = recent g c s was.seen in
    let is = reference_is g c s was.seen in
    kept_is_capture p s run.run was.holds (pace s.sizes) (frame_of g c) c.next_given-next.result.reference
    (kept_recent s p.slots (λ m. s.depth (m % p.slots)) c.args.reference c.next_given-next.result.reference is near)
    ∙ ap (λ (r : Option ℕ). capture (pictures p.format) (encoding p) (pace s.sizes) (frame_of g c) run.run.coded r) (is
    ∙ chain_kept p s run.run was.holds c.args.reference near)
    ∙ ap (λ (l : List ℕ). capture (pictures p.format) (encoding p) (pace l) (frame_of g c) run.run.coded
    (within_chain (rules_of p) (depth_at run.run.coded) c.args.reference)) was.holds.keeps.sizes

pub returns-clause-holds : goal.returns-clause-holds
returns-clause-holds g c = λ run was.
    let p = c.args.self.now.params in
    let pace = g.P.Pace.quant_of c.args.self.now.pace in
    let coded = coded_with g c was.s was.seen in
    holds_as p c.code_next.new.self (after_code_from p pace c.args.reference (frame_of g c) run) coded.t
    c.code_next.ensures.params coded.seen (c.code_next.ensures.since ∙ was.since)
    (c.sender_holds.ensures.capture (pictures p.format) (encoding p) (rules_of p) (c.is_encoding.ensures p)
    (c.are_rules.ensures p (params_are g c))
    was.s coded.t run.run (next_with p pace c.args.reference (frame_of g c) run) was.holds
    (subst (λ (y : CodedPicture Style Mb Picture). IsAfterCapture (pictures p.format) (encoding p)
    (rules_of p) was.s coded.t y) (next_is g c run was) coded.after))

pub returns-clause-makes : goal.returns-clause-makes
returns-clause-makes g c = λ run was.
    let p = c.args.self.now.params in
    let pace = g.P.Pace.quant_of c.args.self.now.pace in
    let coded = coded_with g c was.s was.seen in
    subst (λ (x : CodedPicture Style Mb Picture). Describes (length run.run.coded) x c.code_next.result)
    (next_is g c run was)
    (subst (λ (n : ℕ). Describes n
    (with_kept p (pace was.s.sizes) (frame_of g c) was.s c.next_given-next.result.reference) c.code_next.result)
    was.holds.keeps.sent coded.tells)
