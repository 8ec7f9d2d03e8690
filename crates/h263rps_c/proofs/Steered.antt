-- What steering a sender comes to.
use Rattle.std.proofs.Common.{◌≡◌, ℕ, ◌+◌, ◌≤◌, refl, sym, ap, ◌∙◌, arith, List, [], ◌∷◌, ◌++◌, length, length-append, Option, Some, None, Bool, true, false, subst}
use Rattle.std.specs.Prelude.{map}
use Rattle.h263_types.specs.declared.params.Params.{Params}
use Rattle.call_model.specs.CodedPictures.{capture}
use Rattle.call_model.specs.Sending as call
use Rattle.call_model.specs.Sending.{SenderEntry, last_sizes}
use Rattle.call_model.specs.Steering as models
use Rattle.call_decoding.specs.Rules.{rules_of}
use Rattle.call_decoding.specs.Samples.{pictures}
use Rattle.call_encoding.specs.Encoding.{encoding}
use Rattle.call_encoding.specs.Frames.{Frame}
use Rattle.sender_end.specs.Stands.{packets_after, entries_run}
use Rattle.rate_control.specs.Pace.{quant_after_sizes}
use Rattle.picture_pace.specs.declared.fit.FitPace.{FitPace}
use Rattle.picture_pace.specs.Fitting.{fitting_quant}
use Rattle.fitted_sender.specs.declared.aim.Aim.{Aim}
use Rattle.fitted_sender.specs.Aiming.{PlainIsSenderRun, Sent, sent_after_heard, after_sent, aim_after, counted_bytes, first_by, next_kind, pace_by, plain_aim, sent_by, target_by}
use Rattle.h263rps_c.specs.Pace.{target_pace, target_if_any}
use Rattle.h263rps_c.specs.Steering.{Steering, Capture, Feedback, Target, Quant, Forget, target_after, first_after, first_in, steered_sent, steered_run, steered_next, plain, QuantiserIs, QuantiserFits, SteeredForgetIsIntra, ForgetIsForGood, PlainIsRun}

-- where nothing is fitted the aim is the target in force, and the first quantiser
aim_is : (p : Params) (first : Option ℕ) (past : List Steering) → (steered_sent p false first past).aim
    ≡ record { quant = first_after p.quant past; target = target_after first past; fit = None }
aim_is p first [] = refl
aim_is p first (Capture frame ∷ past) =
    let s = steered_sent p false first past in
    ap (aim_after (next_kind p s.run) (counted_bytes (packets_after p (after_sent p frame s).run)))
    (aim_is p first past)
aim_is p first (Feedback bytes ∷ past) = aim_is p first past
aim_is p first (Target target ∷ past) = refl
aim_is p first (Quant quant ∷ past) = refl
aim_is p first (Forget ∷ past) = aim_is p first past

pub quantiser_is : QuantiserIs
unfolding capture
quantiser_is p first frame past =
    let s = steered_sent p false first past in
    ap (λ (a : Aim). quant_after_sizes (target_by a.target a.fit) (first_by a.quant (next_kind p s.run) a.fit)
    (last_sizes (encoding p) (rules_of p) s.run.run.coded)) (aim_is p first past)

pub quantiser_fits : QuantiserFits
unfolding capture
quantiser_fits p first frame past pace e =
    let s = steered_sent p true first past in
    ap (λ (f : Option FitPace). quant_after_sizes (target_by s.aim.target f)
    (first_by s.aim.quant (next_kind p s.run) f)
    (last_sizes (encoding p) (rules_of p) s.run.run.coded)) e

pub forget_is_intra : ((p : Params) → models.ForgetIsIntra (pictures p.format) (encoding p) (rules_of p))
    → SteeredForgetIsIntra
forget_is_intra law p fits first frame past =
    law p (pace_by p (steered_sent p fits first (Forget ∷ past))) frame (steered_run p fits first past)

-- what was forgotten stays below the floor, which is no picture ahead
below_floor : (p : Params) (fits : Bool) (first : Option ℕ) (later past : List Steering) →
    let run = steered_run p fits first (later ++ Forget ∷ past) in
    (length (steered_run p fits first past).run.coded ≤ run.since)
    × (length (steered_run p fits first past).run.coded ≤ length run.run.coded)
below_floor p fits first [] past = (omega arith, omega arith)
below_floor p fits first (Capture frame ∷ later) past =
    let before = below_floor p fits first later past in
    let run = steered_run p fits first (later ++ Forget ∷ past) in
    let x = steered_next p fits first frame (later ++ Forget ∷ past) in
    let longer : length (run.run.coded ++ x ∷ []) ≡ length run.run.coded + 1 = length-append run.run.coded (x ∷ []) in
    (before.0, omega (arith, before.1, longer))
below_floor p fits first (Feedback bytes ∷ later) past = below_floor p fits first later past
below_floor p fits first (Target target ∷ later) past = below_floor p fits first later past
below_floor p fits first (Quant quant ∷ later) past = below_floor p fits first later past
below_floor p fits first (Forget ∷ later) past =
    let before = below_floor p fits first later past in (before.1, before.1)

pub forget_is_for_good : ((p : Params) → models.NeverBelow (pictures p.format) (encoding p) (rules_of p))
    → ForgetIsForGood
forget_is_for_good law p fits first frame later past m is =
    let all = later ++ Forget ∷ past in
    let low = law p (pace_by p (steered_sent p fits first all)) frame (steered_run p fits first all) m is in
    let floor = below_floor p fits first later past in
    omega (arith, floor.0, low)

-- ---- where it isn't steered

same_sent : (p : Params) (fits : Bool) (first : Option ℕ) (entries : List (SenderEntry Frame))
    → steered_sent p fits first (map plain entries) ≡ sent_by p (first_in p fits first) entries
same_sent p fits first [] = refl
same_sent p fits first (call.Capture frame ∷ entries) = ap (after_sent p frame) (same_sent p fits first entries)
same_sent p fits first (call.Feedback bytes ∷ entries) = ap (sent_after_heard p bytes) (same_sent p fits first entries)

plain_from : (p : Params) (fits : Bool) (first : ℕ) → (fits ≡ true → first ≡ 0)
    → first_in p fits (target_if_any first) ≡ plain_aim p (target_if_any first)
plain_from p false first none = refl
plain_from p true first none =
    subst (λ (n : ℕ). first_in p true (target_if_any n) ≡ plain_aim p (target_if_any n)) (sym (none refl)) refl

pub plain_is_run : PlainIsSenderRun → PlainIsRun
plain_is_run law p fits first entries none =
    ap (λ (s : Sent). s.run)
    (same_sent p fits (target_if_any first) entries
    ∙ ap (λ (a : Aim). sent_by p a entries) (plain_from p fits first none)
    ∙ law p (target_if_any first) entries)
