-- A whole run of a group's call over a recorded trace.
use Rattle.std.proofs.Common.{◌≡◌, inl, inr, ℕ, zero, suc, ◌+◌, ◌<◌, ◌≤◌, false, List, [], ◌++◌, length, drop, Option, Some, Result, Ok, refl, sym, ap, subst, ◌∙◌, arith}
use Rattle.std.specs.Prelude.{replicate}
use Rattle.std.proofs.lemmas.List.{append-nil, append_assoc}
use Rattle.std.proofs.lemmas.Option.{slice_get_cases}
use Rattle.h263_types.specs.declared.blocks.Mb.{Mb}
use Rattle.h263_types.specs.declared.format.Format.{Format}
use Rattle.h263_types.specs.declared.params.Params.{Params}
use Rattle.h263_planes.specs.Picture.{Picture}
use Rattle.h263_outside.specs.declared.desk.Role.{Role}
use Rattle.h263_outside.specs.declared.desk.Role.TheVariants.{Video, Events, Report}
use Rattle.y4m.specs.declared.fault.Y4mFault.{Y4mFault}
use Rattle.y4m.specs.Head.{head_of, head_size}
use Rattle.y4m.specs.Laws.{FrameLaws}
use Rattle.y4m.specs.Text.{head_text}
use Rattle.y4m.specs.Video.{fault_after_head, first_video_fault, frames_after_head, frames_of, video_fault, video_frames}
use Rattle.call_model.specs.Before.{Sends}
use Rattle.call_model.specs.Coding.{pictures_of}
use Rattle.call_model.specs.CodedPictures.{Coded, picture_at}
use Rattle.call_model.specs.IdealCall.{AllMayHappenFrom, Event, Source}
use Rattle.call_command.specs.Call.{line_size}
use Rattle.call_command.specs.Recorded.{ShowsWhatArrived, film}
use Rattle.call_decoding.specs.Rules.{rules_of}
use Rattle.call_decoding.specs.Styles.{Style}
use Rattle.call_encoding.specs.Frames.{Frame}
use Rattle.coded_call.specs.Coding.{coding}
use Rattle.desk_program.specs.Run.{Run, left_after, follow, machine_run, taken_of, texts_of}
use Rattle.desk_program.specs.Texts.{of}
use Rattle.group_call.specs.Viewing.{no_view}
use Rattle.group_command.specs.declared.terms.GroupTerms.{GroupTerms}
use Rattle.group_command.specs.Group.{GroupState, group_at_start, group_call_run, group_step, group_head_step, viewers_heads, pictures_at, view_in}
use Rattle.group_command.specs.Recorded.{GroupFollowsItsTrace, Happening, IsGroupEnd, ShowsWhatReached, events_at, group_at, lines_fault, group_lines, one_by_one, with_all_said}
use Rattle.group_command.proofs.Lives as life
use Rattle.group_command.proofs.Lived.{all_start}
use Rattle.group_command.proofs.Recorded.{Comes, RunLaws, in_places, run_comes}

video_is : (video : List ℕ) (f : Format) → head_of video ≡ Ok f
    → video_frames video ≡ frames_of f 1048576 (head_size video) (drop (head_size video) video)
unfolding video_frames
video_is video f is = ap (λ (r : Result Format Y4mFault). frames_after_head r (head_size video)
    (drop (head_size video) video)) is

fault_is : (video : List ℕ) (f : Format) → head_of video ≡ Ok f
    → video_fault video ≡ first_video_fault f 1048576 (head_size video) (drop (head_size video) video)
unfolding video_fault
fault_is video f is = ap (λ (r : Result Format Y4mFault). fault_after_head r (head_size video)
    (drop (head_size video) video)) is

-- what arrived of a call that sends these pictures is shown
abbrev Arrived : Params → Type 0
Arrived p =
    (source : Source Style Mb Picture) (left : ℕ) (past : List Event) → Sends source left
    → AllMayHappenFrom (pictures_of (coding p)) (rules_of p) source left past → ShowsWhatArrived p source past

-- there is a picture for each capture
sends_all : (coded : List (Coded Style Mb Picture)) → Sends (one_by_one coded) (length coded)
sends_all coded c few = elim (slice_get_cases coded (length c.coded)).1 [
  | inl at ↦ (at.0, at.2)
  | inr far ↦ absurd (omega (arith, few, far.0))
]

heads_first : (f : Format) (count k : ℕ) → count ≤ 3 → k < count → viewers_heads f count (pictures_at k) ≡ head_text f
heads_first f zero k most few = absurd (omega (arith, few))
heads_first f (suc zero) zero most few = refl
heads_first f (suc zero) (suc k) most few = absurd (omega (arith, few))
heads_first f (suc (suc zero)) zero most few = append-nil _
heads_first f (suc (suc zero)) (suc zero) most few = refl
heads_first f (suc (suc zero)) (suc (suc k)) most few = absurd (omega (arith, few))
heads_first f (suc (suc (suc zero))) zero most few = append-nil _ ∙ append-nil _
heads_first f (suc (suc (suc zero))) (suc zero) most few = append-nil _
heads_first f (suc (suc (suc zero))) (suc (suc zero)) most few = refl
heads_first f (suc (suc (suc zero))) (suc (suc (suc k))) most few = absurd (omega (arith, few))
heads_first f (suc (suc (suc (suc n)))) k most few = absurd (omega (arith, most))

heads_unreported : (f : Format) (count : ℕ) → viewers_heads f count Report ≡ []
heads_unreported f zero = refl
heads_unreported f (suc zero) = refl
heads_unreported f (suc (suc zero)) = refl
heads_unreported f (suc (suc (suc k))) = append-nil _ ∙ heads_unreported f (suc (suc k))

module _ (t : GroupTerms) (f : Format) (inputs : Role → List ℕ) where
  abbrev p : Params
  p = record t.params { format = f }

  abbrev count : ℕ
  count = t.receivers

  abbrev frames : List Frame
  frames = film p (video_frames (inputs Video))

  abbrev broken : Option Y4mFault
  broken = video_fault (inputs Video)

  module _ (laws : RunLaws p) (arrived : Arrived p) (frame_laws : FrameLaws) (some : 1 ≤ t.receivers)
      (few : t.receivers ≤ 3) (head : head_of (inputs Video) ≡ Ok f) where
    abbrev rest : GroupState → (Role → ℕ) → Run
    rest next taken = machine_run group_step 16777216 next (left_after inputs taken)

    abbrev size : ℕ
    size = head_size (inputs Video)

    abbrev run : Run
    run = rest (group_at_start p count size) (of Video size)

    none_before : (n : ℕ) → 0 + n ≡ n
    none_before n = omega arith

    one_more : (n : ℕ) → 1 + n ≡ n + 1
    one_more n = omega arith

    comes : Comes p count frames broken laws some few [] (group_lines count 16777216 (inputs Events))
        (lines_fault count 16777216 1 (inputs Events)) 1 (inputs Events) run
    comes =
        run_comes p count frames broken laws some few frame_laws 16777216 [] (replicate count no_view) size 1048576 0
        false (left_after inputs (of Video size))
        (all_start p count frames laws.groups (in_places p count frames broken laws some few))
        (record {
          ahead = ap (λ (l : List (Coded Style Mb Picture)). drop (length l) frames) (life.none_coded count)
              ∙ ap (film p) (video_is (inputs Video) f head);
          fault = sym (fault_is (inputs Video) f head);
        })
        (none_before 16777216)

    abbrev past : List Happening
    past = with_all_said p count frames [] comes.lines

    abbrev coded : List (Coded Style Mb Picture)
    coded = (group_at p count frames past).coded

    end_is : IsGroupEnd p count frames broken (lines_fault count 16777216 1 (inputs Events)) (length comes.lines + 1)
        past
        comes.refused run.last.status
    end_is = subst (λ (m : ℕ). IsGroupEnd p count frames broken (lines_fault count 16777216 1 (inputs Events)) m past
        comes.refused run.last.status) (one_more (length comes.lines)) comes.end

    lives : (k : ℕ) → k < count → life.Lives p laws.groups.views k (group_at p count frames past) (events_at k past)
        (view_in comes.views k)
    lives k below = comes.live.lives k below

    shows : (k : ℕ) → k < count → ShowsWhatReached p coded (events_at k past)
    shows k below =
        let happened = events_at k past in
        let near = life.near_now p laws.groups.views k (group_at p count frames past) happened
        (view_in comes.views k) (lives k below) in
        let all = arrived (one_by_one coded) (length coded) happened (sends_all coded) near in
        record {
          exact = all.exact;
          shows = λ n lower reached. all.shows n lower reached
              ∙ ap (λ (l : List (Coded Style Mb Picture)). picture_at l n) (lives k below).own;
        }

    pub follows : GroupFollowsItsTrace p count inputs (group_call_run t inputs)
    follows =
        subst (λ (r : Result Format Y4mFault). GroupFollowsItsTrace p count inputs
        (follow (group_head_step t (inputs Video) r) rest)) (sym head)
        (record {
          lines = comes.lines;
          refused = comes.refused;
          read = comes.read;
          may = comes.may;
          end = end_is;
          others = λ fault is. comes.others fault is
              ∙ ap (λ (n : ℕ). Some (line_size (drop n (inputs Events))))
              (sym (none_before (taken_of run.turns Events)));
          taken = omega (arith, comes.taken);
          are_viewers = record {
            near = λ k below. life.near_now p laws.groups.views k (group_at p count frames past) (events_at k past)
                (view_in comes.views k) (lives k below);
            same = λ k below. (lives k below).own;
            references = comes.live.refer;
            pictures = λ k below.
                append_assoc (viewers_heads f count (pictures_at k)) (texts_of run.turns (pictures_at k))
                (run.last.texts (pictures_at k))
                ∙ (λ i. heads_first f count k few below i ++ sym (comes.pictures k below) i);
            report = append_assoc (viewers_heads f count Report) (texts_of run.turns Report) (run.last.texts Report)
                ∙ (λ i. heads_unreported f count i ++ sym comes.report i);
            arrived = shows;
          };
        })
