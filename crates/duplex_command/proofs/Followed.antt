-- A whole run of a call of two parties over a recorded trace.
use Rattle.std.proofs.Common.{◌≡◌, ℕ, ◌+◌, List, [], ◌++◌, length, drop, Option, Result, Ok, refl, sym, ap, subst, ◌∙◌, arith}
use Rattle.std.specs.Prelude.{false, map}
use Rattle.std.proofs.lemmas.List.{append-nil, append_assoc}
use Rattle.h263_types.specs.declared.format.Format.{Format}
use Rattle.h263_types.specs.declared.params.Params.{Params}
use Rattle.h263_planes.specs.Layout.{picture_of}
use Rattle.h263_planes.specs.Picture.{Picture}
use Rattle.h263_outside.specs.declared.desk.Role.{Role}
use Rattle.h263_outside.specs.declared.desk.Role.TheVariants.{Video, Events, Video2}
use Rattle.y4m.specs.declared.fault.Y4mFault.{Y4mFault}
use Rattle.y4m.specs.Head.{head_of, head_size}
use Rattle.y4m.specs.Laws.{FrameLaws}
use Rattle.y4m.specs.Text.{head_text}
use Rattle.y4m.specs.Video.{fault_after_head, first_video_fault, frames_after_head, frames_of, video_fault, video_frames}
use Rattle.call_encoding.specs.Frames.{Frame}
use Rattle.call_model.specs.Before.{sent_before}
use Rattle.call_command.specs.Recorded.{ShowsWhatArrived, shown_text}
use Rattle.desk_program.specs.Run.{Run, left_after, follow, machine_run, texts_of}
use Rattle.duplex_call.specs.declared.line.Party.{Party}
use Rattle.duplex_call.specs.declared.line.Party.TheVariants.{A, B}
use Rattle.duplex_call.specs.Duplex.{AllMayHappenOf, Lettered, no_runs, way}
use Rattle.duplex_ends.specs.Ways.{sides}
use Rattle.duplex_command.specs.Begin.{duplex_run, heads_step, heads_taken, both_heads, in_formats}
use Rattle.duplex_command.specs.Duplex.{DuplexState, VideoPlace, duplex_step, duplex_at_start, pictures_role, video_place_of, video_of}
use Rattle.duplex_command.specs.Recorded.{BothFollowTheirTrace, AreCallsEnded, party_call_after, fault_in, faults, party_film, line_events, ways_of, with_all_lettered}
use Rattle.duplex_command.proofs.Recorded.{CallLaws, Comes, IsOn, run_comes, state}
use Rattle.call_model.specs.IdealCall.{encoded}
use Rattle.coded_call.specs.Coding.{coding}
use Rattle.call_decoding.specs.Rules.{rules_of}
use Rattle.one_way.specs.Both.{steady}

video_is : (video : List ℕ) (f : Format) → head_of video ≡ Ok f
    → video_frames video ≡ frames_of f 1048576 (head_size video) (drop (head_size video) video)
unfolding video_frames
video_is video f is = ap (λ (r : Result Format Y4mFault). frames_after_head r (head_size video)
    (drop (head_size video) video)) is

fault_is : (video : List ℕ) (f : Format) → head_of video ≡ Ok f
    → video_fault video ≡ first_video_fault f 1048576 (head_size video) (drop (head_size video) video)
unfolding video_fault
fault_is video f is = ap (λ (r : Result Format Y4mFault). fault_after_head r (head_size video)
    (drop (head_size video) video)) is

module _ (q : Params) (f g : Format) (inputs : Role → List ℕ) where
  abbrev p : Party → Params
  p = in_formats q f g

  abbrev captures : Party → List Picture
  captures = party_film p inputs

  abbrev broken : Party → Option Y4mFault
  broken = faults inputs

  module _ (laws : CallLaws p captures) (frame_laws : FrameLaws) (arrived : (past : List Lettered)
      → AllMayHappenOf (sides p) captures past → (x : Party)
      → ShowsWhatArrived (p x) (encoded (coding (p x)) (rules_of (p x)) (steady (p x))
      (way x (ways_of p captures past)).frames) (way x (ways_of p captures past)).past)
      (head_a : head_of (inputs Video) ≡ Ok f) (head_b : head_of (inputs Video2) ≡ Ok g) where
    abbrev rest : DuplexState → (Role → ℕ) → Run
    rest next taken = machine_run duplex_step 16777216 next (left_after inputs taken)

    abbrev left : Role → List ℕ
    left = left_after inputs (heads_taken inputs)

    abbrev first : Party → VideoPlace
    first A = record { at = head_size (inputs Video); more = 1048576 }
    first B = record { at = head_size (inputs Video2); more = 1048576 }

    abbrev run : Run
    run = rest (duplex_at_start p (head_size (inputs Video)) (head_size (inputs Video2))) (heads_taken inputs)

    no_more : (n : ℕ) → n + 0 ≡ n
    no_more n = omega arith

    none_before : (n : ℕ) → 0 + n ≡ n
    none_before n = omega arith

    all_ahead : (x : Party) → captures x ≡ map (λ planes. picture_of (p x).format planes)
        (frames_of (p x).format (first x).more (first x).at (left (video_of x)))
    all_ahead A =
        ap (λ (l : List (List ℕ)). map (λ planes. picture_of f planes) l) (video_is (inputs Video) f head_a)
        ∙ ap (λ (m : ℕ). map (λ planes. picture_of f planes) (frames_of f 1048576 (head_size (inputs Video))
        (drop m (inputs Video)))) (sym (no_more (head_size (inputs Video))))
    all_ahead B =
        ap (λ (l : List (List ℕ)). map (λ planes. picture_of g planes) l) (video_is (inputs Video2) g head_b)
        ∙ ap (λ (m : ℕ). map (λ planes. picture_of g planes) (frames_of g 1048576 (head_size (inputs Video2))
        (drop m (inputs Video2)))) (sym (none_before (head_size (inputs Video2))))

    none_sent : IsOn p captures broken laws no_runs (state p captures broken laws no_runs (first A) (first B) 0 false)
        left
    none_sent = record { sent = sent; ahead = ahead; fault = fault }
      where
        sent : (x : Party) → sent_before (way {Frame = Frame} x no_runs).past
            ≡ length (way {Frame = Frame} x no_runs).frames
        sent A = refl
        sent B = refl

        ahead : (x : Party) → drop (length (way {Frame = Frame} x no_runs).frames) (captures x)
            ≡ map (λ planes. picture_of (p x).format planes)
            (frames_of (p x).format (video_place_of x (state p captures broken laws no_runs (first A) (first B) 0
            false)).more
            (video_place_of x (state p captures broken laws no_runs (first A) (first B) 0 false)).at
            (left (video_of x)))
        ahead A = all_ahead A
        ahead B = all_ahead B

        fault : (x : Party) → first_video_fault (p x).format
            (video_place_of x (state p captures broken laws no_runs (first A) (first B) 0 false)).more
            (video_place_of x (state p captures broken laws no_runs (first A) (first B) 0 false)).at (left (video_of x))
            ≡ broken x
        fault A = ap (λ (m : ℕ). first_video_fault f 1048576 (head_size (inputs Video)) (drop m (inputs Video)))
            (no_more (head_size (inputs Video))) ∙ sym (fault_is (inputs Video) f head_a)
        fault B = ap (λ (m : ℕ). first_video_fault g 1048576 (head_size (inputs Video2)) (drop m (inputs Video2)))
            (none_before (head_size (inputs Video2))) ∙ sym (fault_is (inputs Video2) g head_b)

    comes : Comes p captures broken laws [] (line_events 16777216 (inputs Events)) (fault_in 16777216 1 (inputs Events))
        1 run
    comes = run_comes p captures broken laws frame_laws 16777216 [] (first A) (first B) 0 false left tt none_sent
        (none_before 16777216)

    one_more : (n : ℕ) → 1 + n ≡ n + 1
    one_more n = omega arith

    end_is : AreCallsEnded p captures broken (fault_in 16777216 1 (inputs Events)) (length comes.lines + 1)
        (with_all_lettered p captures [] comes.lines) comes.refused run.last.status
    end_is = subst (λ (m : ℕ). AreCallsEnded p captures broken (fault_in 16777216 1 (inputs Events)) m
        (with_all_lettered p captures [] comes.lines) comes.refused run.last.status) (one_more (length comes.lines))
        comes.end

    -- the head of each party's pictures is written first
    shown_first : (x : Party) → (both_heads f g (pictures_role x) ++ texts_of run.turns (pictures_role x))
        ++ run.last.texts (pictures_role x)
        ≡ head_text (p x).format ++ shown_text (party_call_after p captures x (with_all_lettered p captures []
        comes.lines)).plays
    shown_first A =
        ap (λ (l : List ℕ). (l ++ texts_of run.turns (pictures_role A)) ++ run.last.texts (pictures_role A))
        (append-nil (head_text f))
        ∙ append_assoc (head_text f) (texts_of run.turns (pictures_role A)) (run.last.texts (pictures_role A))
        ∙ ap (λ (l : List ℕ). head_text f ++ l) (sym (comes.pictures A))
    shown_first B = append_assoc (head_text g) (texts_of run.turns (pictures_role B)) (run.last.texts (pictures_role B))
        ∙ ap (λ (l : List ℕ). head_text g ++ l) (sym (comes.pictures B))

    abbrev began : Result Format Y4mFault → Result Format Y4mFault → Run
    began a b = follow (heads_step q inputs a b) rest

    pub follows : BothFollowTheirTrace p inputs (duplex_run q inputs)
    follows =
        subst (λ (a : Result Format Y4mFault). BothFollowTheirTrace p inputs (began a (head_of (inputs Video2))))
        (sym head_a)
        (subst (λ (b : Result Format Y4mFault). BothFollowTheirTrace p inputs (began (Ok f) b)) (sym head_b)
        (record {
          lines = comes.lines;
          refused = comes.refused;
          read = comes.read;
          may = comes.may;
          end = end_is;
          others = comes.others;
          taken = omega (arith, comes.taken);
          are_calls = record {
            near = comes.near;
            pictures = shown_first;
            report = sym comes.report;
            arrived = arrived _ comes.near;
          };
        }))
