-- Both heads, by what their readers say, and what was written.
use Rattle.std.proofs.Common.{◌≡◌, ◌≢◌, ℕ, ◌+◌, ◌≤◌, Bool, true, false, List, take, drop, Option, Some, Result, Ok, Err, IfErr, IsErr, IsErrAnd, OnErr, refl, sym, ap, ◌∙◌, subst, arith}
use Rattle.std.specs.Prelude.{◌&&◌, nat_le}
use Rattle.std.proofs.lemmas.Bool.{leb-true}
use Rattle.h263_outside.specs.Desk.{Outside}
use Rattle.h263_outside.specs.declared.desk.Role.{Role}
use Rattle.h263_outside.specs.declared.desk.Role.TheVariants.{Video, Events, Pictures, Video2, Pictures2}
use Rattle.h263_types.specs.declared.format.Format.{Format}
use Rattle.h263_types.specs.declared.params.Params.{Params}
use Rattle.y4m.specs.declared.fault.Y4mFault.{Y4mFault}
use Rattle.y4m.specs.declared.fault.VideoStop.{VideoStop}
use Rattle.y4m.specs.declared.fault.VideoStop.TheVariants.{Read, Refused}
use Rattle.y4m.specs.Place.{Y4mPlace}
use Rattle.y4m.specs.Head.{head_of, head_size}
use Rattle.y4m.specs.Reader.{HeadGives}
use Rattle.y4m.specs.Text.{head_text}
use Rattle.call_report.specs.declared.status.Status.{Status}
use Rattle.call_report.specs.declared.status.Status.TheVariants.{VideoRefused, Video2Refused}
use Rattle.call_report.specs.Status.{phase, video_stop}
use Rattle.desk_program.specs.Run.{Step, left_after, video_refusal}
use Rattle.desk_program.specs.Ends.{Ended, Gains, GainsFronts, GivesUp, IsPart, Lost, Tells, step_turns}
use Rattle.desk_program.specs.Laws.{TurnLaws}
use Rattle.desk_program.specs.Texts.{and_of, no_bytes, of, on}
use Rattle.duplex_command.specs.Begin.{HaveHeads, duplex_begin, heads_step, heads_taken, both_heads}
use Rattle.duplex_command.specs.declared.heads.Heads.{Heads}
use Rattle.duplex_command.specs.Duplex.{DuplexState}

-- ---- what was taken holds no whole turn

not_held : (size k : ℕ) → (size ≤ k → ⊥) → nat_le size k ≡ false
not_held size k few = at_test (nat_le size k) refl
  where
    at_test : (t : Bool) → nat_le size k ≡ t → t ≡ false
    at_test true is = absurd (few (leb-true size k is))
    at_test false is = refl

second_false : (b c d : Bool) → b ≡ false → (true && b && c && d) ≡ false
second_false b c d is = ap (λ (x : Bool). true && x && c && d) is

fourth_false : (b c d : Bool) → d ≡ false → (true && b && c && d) ≡ false
fourth_false true true d is = is
fourth_false true false d is = refl
fourth_false false c d is = refl

not_an_err : {T E : Type 0} (r : Result T E) (x : T) → r ≡ Ok x → IsErr r → ⊥
not_an_err {T} {E} r x is lost = ok_is_none x (subst IsErr is lost)
  where
    ok_is_none : (x : T) → IsErr {T = T} {E = E} (Ok x) → ⊥
    ok_is_none x lost = absurd (cc lost)

-- a whole head stays what it is where the text after it is cut
abbrev HeadLaw : Type 0
HeadLaw = (video : List ℕ) (f : Format) (k : ℕ) → head_of video ≡ Ok f → head_size video ≤ k
    → (head_of (take k video) ≡ Ok f) × (head_size (take k video) ≡ head_size video)

module _ (law : HeadLaw) (p : Params) (inputs : Role → List ℕ) where
  abbrev Turns : Result Format Y4mFault → Result Format Y4mFault → (Role → ℕ) → Type 0
  Turns a b k = IsPart (step_turns (heads_step p inputs a b)) k

  -- no whole head of the first video
  first_part : (k : ℕ) (a b : Result Format Y4mFault) → head_of (inputs Video) ≡ a
      → IsErr (head_of (take k (inputs Video))) → Turns a b (of Video k)
  first_part k (Err fault) b is lost = tt
  first_part k (Ok f) (Err fault) is lost = tt
  first_part k (Ok f) (Ok g) is lost =
      second_false _ _ _ (not_held (head_size (inputs Video) + 0) k
      (λ le. not_an_err _ f (law (inputs Video) f k is (omega (arith, le))).0 lost))

  -- no whole head of the second one, after the first
  second_part : (k : ℕ) (a b : Result Format Y4mFault) → head_of (inputs Video2) ≡ b
      → IsErr (head_of (take k (inputs Video2)))
      → Turns a b (and_of (of Video (head_size (inputs Video))) (of Video2 k))
  second_part k (Err fault) b is lost = tt
  second_part k (Ok f) (Err fault) is lost = tt
  second_part k (Ok f) (Ok g) is lost =
      let size = head_size (inputs Video) in
      let part = and_of (of Video size) (of Video2 k) in
      fourth_false (nat_le (heads_taken inputs Video) (part Video)) (nat_le (heads_taken inputs Events) (part Events)) _
      (not_held (heads_taken inputs Video2) (part Video2)
      (λ le. not_an_err _ g (law (inputs Video2) g k is (omega (arith, le))).0 lost))

-- ---- a status that is known

pub stops_so : {T : Type 0} (r : Result T Status) (status : Status) (step : Step DuplexState) (inputs : Role
    → List ℕ) (old new : Outside)
    → IsErrAnd r (λ x. x ≡ status) → GivesUp (phase status) status step true inputs old new
    → IfErr r (λ x. GivesUp (phase x) x step true inputs old new)
stops_so (Ok x) status step inputs old new is gives = absurd is
stops_so (Err x) status step inputs old new is gives =
    subst (λ (y : Status). GivesUp (phase y) y step true inputs old new) (sym is) gives

-- ---- the heads were read, from old to mid and from mid to new

no_first : Video2 ≡ Video → ⊥
no_first is = cc is

module _ (turns : TurnLaws) (law : HeadLaw) (inputs : Role → List ℕ) (old mid : Outside) (told : Tells old inputs)
    (others : (r : Role) → r ≢ Video → mid.left r ≡ old.left r) (same : mid.written ≡ old.written) where
  pub first_stops : (p : Params) (stop : VideoStop) → HeadGives (Err stop) (inputs Video) (mid.left Video)
      → GivesUp (phase (video_stop stop)) (video_stop stop) (duplex_begin p inputs) true inputs old mid
  first_stops p Read e = record {
    part = of Video e.0;
    partly = first_part law p inputs e.0 (head_of (inputs Video)) (head_of (inputs Video2)) refl e.2;
    could = refl;
    left = turns.one_read Video e.0 old mid inputs told e.1 others;
    written = same;
  }
  first_stops p (Refused fault) e = record {
    last = video_refusal Video no_bytes (VideoRefused fault);
    is = ap (λ (a : Result Format Y4mFault). heads_step p inputs a (head_of (inputs Video2))) e;
    by = turns.refuses_video Video no_bytes (VideoRefused fault) inputs old mid (λ r input other. others r other
        ∙ told r input) same;
  }

  -- the second video is as it was
  pub still_there : mid.left Video2 ≡ Some (inputs Video2)
  still_there = others Video2 no_first ∙ told Video2 refl

  module _ (a : Y4mPlace) (first : HeadGives (Ok a) (inputs Video) (mid.left Video)) (new : Outside)
      (others2 : (r : Role) → r ≢ Video2 → new.left r ≡ mid.left r) (same2 : new.written ≡ mid.written) where
    read_both : (k : ℕ) → new.left Video2 ≡ Some (drop k (inputs Video2))
        → Tells new (left_after inputs (and_of (of Video (head_size (inputs Video))) (of Video2 k)))
    read_both k gone =
        let size = head_size (inputs Video) in
        turns.both_reads (of Video size) (of Video2 k) new inputs
        (turns.one_read Video2 k mid new (left_after inputs (of Video size))
        (turns.one_read Video size old mid inputs told first.2 others) gone others2)

    lost_so : (p : Params) → HeadGives (Err Read) (inputs Video2) (new.left Video2)
        → Lost (duplex_begin p inputs) true inputs old new
    lost_so p e = record {
      part = and_of (of Video (head_size (inputs Video))) (of Video2 e.0);
      partly = second_part law p inputs e.0 (head_of (inputs Video)) (head_of (inputs Video2)) refl e.2;
      could = refl;
      left = read_both e.0 e.1;
      written = same2 ∙ same;
    }

    pub second_lost : (p : Params) (stop : VideoStop) → stop ≡ Read
        → HeadGives (Err stop) (inputs Video2) (new.left Video2) → Lost (duplex_begin p inputs) true inputs old new
    second_lost p stop is e = lost_so p (subst (λ (x : VideoStop). HeadGives (Err x) (inputs Video2) (new.left Video2))
        is e)

    refused_so : (p : Params) (fault : Y4mFault) → head_of (inputs Video2) ≡ Err fault
        → Ended (duplex_begin p inputs) (Video2Refused fault) inputs old new
    refused_so p fault e = record {
      last = video_refusal Video2 (of Video (head_size (inputs Video))) (Video2Refused fault);
      is = (λ i. heads_step p inputs (first.0 i) (e i));
      by = turns.refuses_video Video2 (of Video (head_size (inputs Video))) (Video2Refused fault) inputs old new
          (λ r input other. others2 r other
          ∙ turns.one_read Video (head_size (inputs Video)) old mid inputs told first.2 others r input) (same2
          ∙ same);
    }

    pub second_refused : (p : Params) (stop : VideoStop) (fault : Y4mFault) → stop ≡ Refused fault
        → HeadGives (Err stop) (inputs Video2) (new.left Video2)
        → Ended (duplex_begin p inputs) (Video2Refused fault) inputs old new
    second_refused p stop fault is e =
        refused_so p fault (subst (λ (x : VideoStop). HeadGives (Err x) (inputs Video2) (new.left Video2)) is e)

    pub both_read : (heads : Heads) → heads.a ≡ a → HeadGives (Ok heads.b) (inputs Video2) (new.left Video2)
        → HaveHeads heads inputs new
    both_read heads is e = record {
      head_a = first.0 ∙ ap (λ (x : Y4mPlace). Ok x.format) (sym is);
      head_b = e.0;
      at_a = ap (λ (x : Y4mPlace). x.at) is ∙ first.1;
      at_b = e.1;
      left = read_both (head_size (inputs Video2)) e.2;
    }

-- ---- what was written

pub on_err : {T P : Type 0} (r : Result T Status) → P → OnErr r P
on_err (Ok x) p = tt
on_err (Err e) p = p

module _ (turns : TurnLaws) (f g : Format) (old mid : Role → Option (List ℕ)) where
  pub first_front : GainsFronts (on Pictures (head_text f)) old mid → GainsFronts (both_heads f g) old mid
  first_front fronts = turns.front_of_first (on Pictures (head_text f)) (on Pictures2 (head_text g)) old mid fronts

  pub second_front : {T : Type 0} (r : Result T Status) (new : Role → Option (List ℕ))
      → Gains (on Pictures (head_text f)) old mid
      → OnErr r (GainsFronts (on Pictures2 (head_text g)) mid new) → OnErr r (GainsFronts (both_heads f g) old new)
  second_front (Ok x) new first fronts = fronts
  second_front (Err x) new first fronts = turns.front_of_second (on Pictures (head_text f)) (on Pictures2 (head_text g))
      old mid new first fronts
