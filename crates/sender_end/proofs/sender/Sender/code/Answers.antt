-- The reference is the newest known picture in the window, and the picture is the run's next one.
use Rattle.std.proofs.Common.{◌≡◌, ℕ, ◌+◌, ◌%◌, ◌<◌, ◌≤◌, sym, ap, ◌∙◌, subst, IfSome, ◌∷◌, length}
use Rattle.std.specs.Option.{option_map_or}
use Rattle.h263_types.specs.declared.blocks.Mb.{Mb}
use Rattle.h263_types.specs.Params.{IsParams}
use Rattle.h263_planes.specs.Lent.{picture}
use Rattle.h263_planes.specs.Picture.{Picture}
use Rattle.call_model.specs.CodedPictures.{Coded as CodedPicture}
use Rattle.call_model.specs.Sending.{Capture}
use Rattle.call_model.specs.Stands.{Sender}
use Rattle.call_model.specs.SenderStanding.{IsAfterCapture, next_by_kept}
use Rattle.call_model.specs.Steering.{from_floor}
use Rattle.call_decoding.specs.Rules.{rules_of}
use Rattle.call_decoding.specs.Samples.{pictures}
use Rattle.call_decoding.specs.Styles.{Style}
use Rattle.call_encoding.specs.Encoding.{encoding}
use Rattle.call_encoding.specs.Frames.{Frame}
use Rattle.sender_end.specs.Stands.{Describes, Holds, IsCodedWith, IsSeen, SentRun, after_code, next_after, next_in, entries_run}
use Rattle.sender_end.specs.State.{SenderState}
use Rattle.sender_end.proofs.Captured.{next, reference_at, with_kept}
use Rattle.sender_end.proofs.Choosing.{no_depth}
use Rattle.sender_end.proofs.Stepping.{holds_as, stands_as}
use Rattle.sender_end.proofs.sender.Sender.code.Given.{Over}
use Rattle.sender_end.proofs.sender.Sender.code.Goals.{After-code_next}
use Rattle.sender_end.proofs.sender.Sender.code.Goals as goal

pub code_next-requires-clause-recent : goal.code_next-requires-clause-recent
code_next-requires-clause-recent g c =
    subst (λ (x : SenderState g.row.P.Denot). IfSome c.next_from-next.result.reference (λ m. (m < x.sent)
    × (x.sent ≤ m + x.params.slots))) c.self.view_is
    (c.next_from-next.ensures.recent (rules_of c.self.inside.params) _ _ c.self.invariant.selects)

pub code_next-requires-clause-depth : goal.code_next-requires-clause-depth
code_next-requires-clause-depth g c = λ none.
    c.next_from-next.ensures.depth (rules_of c.self.inside.params) _ _ c.self.invariant.selects
    ∙ no_depth c.next_from-next.result.reference _ none

abbrev frame_of : (g : Over) → After-code_next g → Frame
frame_of g c = record { picture = picture c.args.frame; messages = c.args.back.now }

params_are : (g : Over) (c : After-code_next g) → IsParams c.args.self.now.params
params_are g c = subst (λ (x : SenderState g.row.P.Denot). IsParams x.params) c.self.view_is c.self.invariant.params

-- what its selector gives is the rule of references, by what it keeps
reference_is : (g : Over) (c : After-code_next g) (s : Sender Picture) → IsSeen c.args.self.now s
    → c.next_from-next.result.reference
    ≡ from_floor c.args.self.now.since (reference_at c.args.self.now.params s s.sent)
reference_is g c s seen =
    let i = c.self.inside in
    let was = subst (λ (x : SenderState g.row.P.Denot). IsSeen x s) (sym c.self.view_is) seen in
    c.next_from-next.ensures.reference (rules_of i.params) (λ m. s.depth (m % i.params.slots))
    (λ m. s.known (m % i.params.slots)) was.selects
    ∙ ap (λ (k : ℕ). from_floor i.since (reference_at i.params s k)) (sym was.sent)
    ∙ ap (λ (x : SenderState g.row.P.Denot). from_floor x.since (reference_at x.params s s.sent)) c.self.view_is

depth_is : (g : Over) (c : After-code_next g) (s : Sender Picture) → IsSeen c.args.self.now s
    → c.next_from-next.result.depth
    ≡ option_map_or (λ m. s.depth (m % c.args.self.now.params.slots) + 1) c.next_from-next.result.reference 0
depth_is g c s seen =
    let i = c.self.inside in
    let was = subst (λ (x : SenderState g.row.P.Denot). IsSeen x s) (sym c.self.view_is) seen in
    c.next_from-next.ensures.depth (rules_of i.params) (λ m. s.depth (m % i.params.slots))
    (λ m. s.known (m % i.params.slots)) was.selects
    ∙ ap (λ (x : SenderState g.row.P.Denot). option_map_or (λ m. s.depth (m % x.params.slots) + 1)
    c.next_from-next.result.reference 0) c.self.view_is

-- the picture was coded with what is kept, and that is the next one above the floor
coded_with : (g : Over) (c : After-code_next g) (s : Sender Picture) → IsSeen c.args.self.now s
    → IsCodedWith c.args.self.now.params (g.P.Pace.quant_of c.args.self.now.pace s.sizes)
    (frame_of g c) c.next_from-next.result.reference s c.code_next.new.self c.code_next.result
coded_with g c s seen = c.code_next.ensures.made s seen (depth_is g c s seen)

is_next : (g : Over) (c : After-code_next g) (s : Sender Picture) → IsSeen c.args.self.now s
    → with_kept c.args.self.now.params (g.P.Pace.quant_of c.args.self.now.pace s.sizes)
    (frame_of g c) s c.next_from-next.result.reference
    ≡ next c.args.self.now.params (g.P.Pace.quant_of c.args.self.now.pace) c.args.self.now.since (frame_of g c) s
is_next g c s seen =
    ap (with_kept c.args.self.now.params (g.P.Pace.quant_of c.args.self.now.pace s.sizes) (frame_of g c) s)
    (reference_is g c s seen)

-- ---- a sender that never forgot

next_plain : (g : Over) (c : After-code_next g) (s : Sender Picture) → c.args.self.now.since ≡ 0
    → next c.args.self.now.params (g.P.Pace.quant_of c.args.self.now.pace) c.args.self.now.since (frame_of g c) s
    ≡ next_by_kept (pictures c.args.self.now.params.format) (encoding c.args.self.now.params)
    (rules_of c.args.self.now.params) (g.P.Pace.quant_of c.args.self.now.pace) (frame_of g c) s
next_plain g c s never =
    let p = c.args.self.now.params in
    let pace = g.P.Pace.quant_of c.args.self.now.pace in
    ap (λ (floor : ℕ). next p pace floor (frame_of g c) s) never
    ∙ c.sender_holds.ensures.plain (pictures p.format) (encoding p) (rules_of p) pace (frame_of g c) s

pub returns-clause-stands : goal.returns-clause-stands
returns-clause-stands g c = λ entries was.
    let p = c.args.self.now.params in
    let pace = g.P.Pace.quant_of c.args.self.now.pace in
    let coded = coded_with g c was.s was.seen in
    stands_as p pace c.code_next.new.self (Capture (frame_of g c) ∷ entries) coded.t c.code_next.ensures.params
    coded.seen (c.code_next.ensures.since ∙ was.since)
    (c.sender_stands.ensures.capture (pictures p.format) (encoding p) (rules_of p) (c.is_encoding.ensures p)
    (c.are_rules.ensures p (params_are g c))
    pace (frame_of g c) was.s coded.t entries was.stands
    (subst (λ (y : CodedPicture Style Mb Picture). IsAfterCapture (pictures p.format) (encoding p)
    (rules_of p) was.s coded.t y) (is_next g c was.s was.seen ∙ next_plain g c was.s was.since) coded.after))

pub returns-clause-tells : goal.returns-clause-tells
returns-clause-tells g c = λ entries was.
    let p = c.args.self.now.params in
    let pace = g.P.Pace.quant_of c.args.self.now.pace in
    let coded = coded_with g c was.s was.seen in
    let after : with_kept p (pace was.s.sizes) (frame_of g c) was.s c.next_from-next.result.reference
    ≡ next_after p pace (frame_of g c) entries =
    is_next g c was.s was.seen ∙ next_plain g c was.s was.since
    ∙ c.sender_stands.ensures.next (pictures p.format) (encoding p) (rules_of p)
    (c.are_rules.ensures p (params_are g c)) pace (frame_of g c) was.s entries was.stands
    in
    subst (λ (x : CodedPicture Style Mb Picture). Describes (length (entries_run p pace entries).coded) x
    c.code_next.result)
    after
    (subst (λ (n : ℕ). Describes n
    (with_kept p (pace was.s.sizes) (frame_of g c) was.s c.next_from-next.result.reference) c.code_next.result)
    was.stands.sent coded.tells)

-- ---- a sender that may be steered

-- the picture that was coded is the run's next one
next_is : (g : Over) (c : After-code_next g) (run : SentRun) (was : Holds c.args.self.now run)
    → with_kept c.args.self.now.params (g.P.Pace.quant_of c.args.self.now.pace was.s.sizes)
    (frame_of g c) was.s c.next_from-next.result.reference
    ≡ next_in c.args.self.now.params (g.P.Pace.quant_of c.args.self.now.pace) (frame_of g c) run
next_is g c run was =
    let p = c.args.self.now.params in
    let pace = g.P.Pace.quant_of c.args.self.now.pace in
    is_next g c was.s was.seen
    ∙ ap (λ (floor : ℕ). next p pace floor (frame_of g c) was.s) was.since
    ∙ c.sender_holds.ensures.next (pictures p.format) (encoding p) (rules_of p) (c.are_rules.ensures p (params_are g c))
    pace (frame_of g c) was.s run was.holds

pub returns-clause-holds : goal.returns-clause-holds
returns-clause-holds g c = λ run was.
    let p = c.args.self.now.params in
    let pace = g.P.Pace.quant_of c.args.self.now.pace in
    let coded = coded_with g c was.s was.seen in
    holds_as p c.code_next.new.self (after_code p pace (frame_of g c) run) coded.t c.code_next.ensures.params coded.seen
    (c.code_next.ensures.since ∙ was.since)
    (c.sender_holds.ensures.capture (pictures p.format) (encoding p) (rules_of p) (c.is_encoding.ensures p)
    (c.are_rules.ensures p (params_are g c))
    was.s coded.t run.run (next_in p pace (frame_of g c) run) was.holds
    (subst (λ (y : CodedPicture Style Mb Picture). IsAfterCapture (pictures p.format) (encoding p)
    (rules_of p) was.s coded.t y) (next_is g c run was) coded.after))

pub returns-clause-makes : goal.returns-clause-makes
returns-clause-makes g c = λ run was.
    let p = c.args.self.now.params in
    let pace = g.P.Pace.quant_of c.args.self.now.pace in
    let coded = coded_with g c was.s was.seen in
    subst (λ (x : CodedPicture Style Mb Picture). Describes (length run.run.coded) x c.code_next.result)
    (next_is g c run was)
    (subst (λ (n : ℕ). Describes n
    (with_kept p (pace was.s.sizes) (frame_of g c) was.s c.next_from-next.result.reference) c.code_next.result)
    was.holds.keeps.sent coded.tells)
