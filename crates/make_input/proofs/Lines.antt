-- The lines that are left, from one line to the next.
use Rattle.std.proofs.Common.{◌≡◌, ◌∙◌, ◌<◌, ◌≤◌, ◌+◌, ◌-◌, ℕ, zero, suc, List, [], ◌∷◌, ◌++◌, Option, Some, None, refl, ap, append_assoc, arith}
use Rattle.std.specs.Prelude.{MatchOption}
use Rattle.loss_trace.specs.declared.event.Event.{Event}
use Rattle.loss_trace.specs.declared.event.Event.TheVariants.{Send, Play}
use Rattle.make_input.specs.Trace.{after_plays, deliveries, draw, frames_from, messages, next_state, one_or_none, plays}

pub some_plays : (n state : ℕ) → 0 < n → plays n state ≡ Play ∷ messages n (draw (next_state state) 8)
some_plays zero state lt = absurd (omega arith)
some_plays (suc m) state lt = refl

pub state_after_play : (n state : ℕ) → 0 < n → after_plays n state ≡ next_state state
state_after_play zero state lt = absurd (omega arith)
state_after_play (suc m) state lt = refl

-- what is left of a frame, and then this many frames and the last line
abbrev pub left : Option Event → Option Event → Option Event → Option Event → ℕ → ℕ → ℕ → Option Event → List Event
left first second play back frames n state last =
    one_or_none first ++ (one_or_none second
    ++ (one_or_none play ++ (one_or_none back ++ (frames_from frames n state ++ one_or_none last))))

regroup : (a b c d e f : List Event) → (((a ++ b) ++ (c ++ d)) ++ e) ++ f ≡ a ++ (b ++ (c ++ (d ++ (e ++ f))))
regroup a b c d e f = simp append_assoc

-- a frame begins with its capture
pub begins : (first second play back last : Option Event) (frames n state : ℕ) → 0 < frames
    → one_or_none first ++ one_or_none second ≡ deliveries n (draw (next_state state) 16)
    → one_or_none play ++ one_or_none back ≡ plays n (next_state state)
    → frames_from frames n state ++ one_or_none last ≡ Send ∷ left first second play back (frames - 1) (n + 1)
    (after_plays n (next_state state)) last
unfolding frames_from
begins first second play back last zero n state some arrive plays_is = absurd (omega arith)
begins first second play back last (suc frames) n state some arrive plays_is =
    let less : (suc frames - 1) ≡ frames = omega arith in
    let rest = frames_from frames (n + 1) (after_plays n (next_state state)) in
    rw (less, ← arrive, ← plays_is)
    (ap (λ (l : List Event). Send ∷ l) (regroup (one_or_none first) (one_or_none second) (one_or_none play)
    (one_or_none back) rest (one_or_none last)))

-- after the frames stands the last line, and then none
pub no_frames : (frames n state : ℕ) → frames ≤ 0 → frames_from frames n state ≡ []
unfolding frames_from
no_frames zero n state none = refl
no_frames (suc frames) n state none = absurd (omega arith)

pub at_end : (f1 f2 f3 f4 last g1 g2 g3 g4 g5 given : Option Event) (frames n state : ℕ) → f1 ≡ None → f2 ≡ None
    → f3 ≡ None → f4 ≡ None → g1 ≡ None → g2 ≡ None → g3 ≡ None → g4 ≡ None → g5 ≡ None
    → given ≡ last → frames ≤ 0
    → MatchOption given ((left f1 f2 f3 f4 frames n state last ≡ []) × (left g1 g2 g3 g4 frames n state g5 ≡ []))
    (λ event. left f1 f2 f3 f4 frames n state last ≡ event ∷ left g1 g2 g3 g4 frames n state g5)
at_end f1 f2 f3 f4 last g1 g2 g3 g4 g5 given frames n state a b c d e f g h i is none =
    rw (a, b, c, d, e, f, g, h, i, is, no_frames frames n state none) (go last)
  where
    go : (last : Option Event)
        → MatchOption last ((one_or_none last ≡ []) × (one_or_none None ≡ [])) (λ event. one_or_none last ≡ event ∷ [])
    go None = (refl, refl)
    go (Some event) = refl

-- the same, from a maker with nothing left of a frame to the next
pub begun : (f1 s1 p1 b1 l1 f2 s2 p2 b2 l2 : Option Event) (frames n state frames2 state2 drawn : ℕ) → 0 < frames
    → f1 ≡ None → s1 ≡ None → p1 ≡ None → b1 ≡ None
    → drawn ≡ draw (next_state state) 16 → one_or_none f2 ++ one_or_none s2 ≡ deliveries n drawn
    → one_or_none p2 ++ one_or_none b2 ≡ plays n (next_state state)
    → state2 ≡ after_plays n (next_state state) → frames2 ≡ frames → l2 ≡ l1
    → left f1 s1 p1 b1 frames n state l1 ≡ Send ∷ left f2 s2 p2 b2 (frames2 - 1) (n + 1) state2 l2
begun f1 s1 p1 b1 l1 f2 s2 p2 b2 l2 frames n state frames2 state2 drawn some a b c d draws arrive play behind same last
    =
    rw (a, b, c, d, behind, same, last) (begins f2 s2 p2 b2 l1 frames n state some (arrive
    ∙ ap (deliveries n) draws) play)
