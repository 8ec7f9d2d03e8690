-- In a near call of two parties the events of each party, with the messages that are brought to it, are
-- near by its own ideal call.
use Rattle.std.proofs.Common.{ℕ, ◌+◌, ◌<◌, ◌≤◌, sym, subst, arith, Option, Some, None, List, [], ◌∷◌, ◌++◌, length, length-append}
use Rattle.std.specs.Prelude.{slice_get, if◌then◌else◌, true, false, Bool}
use Rattle.std.specs.Option.{option_map_or}
use Rattle.call_model.specs.Coding.{Rules, Coding}
use Rattle.call_model.specs.CodedPictures.{Coded}
use Rattle.call_model.specs.IdealCall.{Event, Send, Deliver, Play, Back, Call, MayHappen, encoded, ideal, AllMayHappen}
use Rattle.call_model.specs.LaterFrames.{LaterFrames}
use Rattle.duplex_call.specs.declared.line.Party.{Party}
use Rattle.duplex_call.specs.declared.line.Party.TheVariants.{A, B}
use Rattle.duplex_call.specs.Duplex.{Lettered, WayRun, WayRuns, way, WayCoding, call_of, brought, with_capture, event_after, ways_after, MayBeBrought, MayHappenOf, AllMayHappenOf}

module _ {Frame Style Mb Picture Fault MessageFault : Type 0}
    (later : (coding : Coding Frame Style Mb Picture Fault MessageFault) (rules : Rules)
    → LaterFrames coding rules) where
  module _ (coding : Coding Frame Style Mb Picture Fault MessageFault) (rules : Rules) (pace : List ℕ → ℕ) where
    -- no more pictures are coded than there are frames
    within : (frames : List Frame) (past : List Event) → AllMayHappen coding rules pace frames past
        → length (ideal coding rules pace frames past).coded ≤ length frames
    within frames [] near = omega arith
    within frames (Send ∷ past) near = go (encoded coding rules pace frames (ideal coding rules pace frames past))
        near.0.0
      where
        go : (o : Option (Coded Style Mb Picture)) → length (ideal coding rules pace frames past).coded < length frames
            → length ((ideal coding rules pace frames past).coded
            ++ option_map_or (λ (x : Coded Style Mb Picture). x ∷ []) o []) ≤ length frames
        go None lt = simp length-append (omega (arith, lt))
        go (Some x) lt = simp length-append (omega (arith, lt))
    within frames (Deliver n j ∷ past) near = within frames past near.1
    within frames (Play ∷ past) near = within frames past near.1
    within frames (Back k ∷ past) near = within frames past near.1

    -- the next picture is sent, with the frame that is captured for it
    near_sent : (frames more : List Frame) (past : List Event) → AllMayHappen coding rules pace frames past
        → length (ideal coding rules pace frames past).coded < length (frames ++ more)
        → length (ideal coding rules pace frames past).coded < (ideal coding rules pace frames past).played + rules.half
        → AllMayHappen coding rules pace (frames ++ more) (Send ∷ past)
    near_sent frames more past near some few =
        let both = later coding rules pace frames more past near in
        let here : MayHappen rules (length (frames ++ more)) (ideal coding rules pace frames past) Send =
        (some, few) in (
          subst (λ (c : Call Style Mb Picture). MayHappen rules (length (frames ++ more)) c Send) (sym both.0) here,
          both.1,
        )

  module _ {Captured : Type 0} (side : Party → WayCoding Captured Frame Style Mb Picture Fault MessageFault) where
    -- each event of the party is near by its own ideal call
    abbrev pub AreNear : Party → WayRun Frame → Type 0
    AreNear x w = AllMayHappen (side x).coding (side x).rules (side x).pace w.frames w.past

    -- messages that are brought back change neither the counts nor what was said
    near_brought : (x : Party) (w : WayRun Frame) (ks : List ℕ) → AreNear x w → MayBeBrought side x w ks
        → AreNear x (record w { past = brought ks w.past })
    near_brought x w [] near heard = near
    near_brought x w (k ∷ ks) near heard = near_brought x (record w { past = Back k ∷ w.past }) ks (
      heard.0,
      near,
    ) (still ks heard.1)
      where
        still : (ks : List ℕ) → MayBeBrought side x w ks → MayBeBrought side x (record w { past = Back k ∷ w.past }) ks
        still [] heard = heard
        still (l ∷ ks) heard = (heard.0, still ks heard.1)

    none_brought : (x : Party) (w : WayRun Frame) (held : Bool) (ks : List ℕ) → AreNear x w → MayBeBrought side x w ks
        → AreNear x (record w { past = brought (if held then ks else []) w.past })
    none_brought x w true ks near heard = near_brought x w ks near heard
    none_brought x w false ks near heard = near

    sent : (x : Party) (w : WayRun Frame) (frame : Frame) → AreNear x w
        → length (call_of side x w).coded < (call_of side x w).played + (side x).rules.half
        → AllMayHappen (side x).coding (side x).rules (side x).pace (w.frames ++ frame ∷ []) (Send ∷ w.past)
    sent x w frame near here =
        let few = within (side x).coding (side x).rules (side x).pace w.frames w.past near in
        let size = length-append w.frames (frame ∷ []) in
        near_sent (side x).coding (side x).rules (side x).pace w.frames (frame ∷ []) w.past near
        (omega (arith, few, size)) here

    pub step_capture : (x : Party) (captured : Captured) (left : ℕ) (ways : WayRuns Frame)
        → ((y : Party) → AreNear y (way y ways)) → MayHappenOf side left x Send ways → (y : Party)
        → AreNear y (way y (with_capture side x captured ways))
    step_capture A captured left ways near here A = sent A ways.a _ (near A) here.1
    step_capture A captured left ways near here B = near B
    step_capture B captured left ways near here A = near A
    step_capture B captured left ways near here B = sent B ways.b _ (near B) here.1

    pub step : (captures : Party → List Captured) (x : Party) (e : Event) (ways : WayRuns Frame)
        → ((y : Party) → AreNear y (way y ways)) → MayHappenOf side (length (captures x)) x e ways → (y : Party)
        → AreNear y (way y (event_after side captures x e ways))
    step captures x Send ways near here y = go (slice_get (captures x) (length (way x ways).frames))
      where
        go : (o : Option Captured)
            → AreNear y (way y (option_map_or (λ captured. with_capture side x captured ways) o ways))
        go None = near y
        go (Some captured) = step_capture x captured (length (captures x)) ways near here y
    step captures A (Deliver n j) ways near here A = (here.0, near A)
    step captures A (Deliver n j) ways near here B = none_brought B ways.b _ _ (near B) here.1
    step captures B (Deliver n j) ways near here A = none_brought A ways.a _ _ (near A) here.1
    step captures B (Deliver n j) ways near here B = (here.0, near B)
    step captures A Play ways near here A = (here, near A)
    step captures A Play ways near here B = near B
    step captures B Play ways near here A = near A
    step captures B Play ways near here B = (here, near B)
    step captures x (Back k) ways near here y = absurd here

    pub near_each : (captures : Party → List Captured) (past : List Lettered) → AllMayHappenOf side captures past
        → (x : Party) → AreNear x (way x (ways_after side captures past))
    near_each captures [] near A = near
    near_each captures [] near B = near
    near_each captures (e ∷ past) near x = step captures e.party e.event (ways_after side captures past)
        (near_each captures past near.1) near.0 x
