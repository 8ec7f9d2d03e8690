-- The lines of a made trace.
use Rattle.std.specs.Prelude.{ℕ, zero, suc, ◌+◌, ◌-◌, ◌*◌, ◌/◌, ◌%◌, ◌^◌, ◌==◌, List, [], ◌∷◌, ◌++◌, Option, Some, None, if◌then◌else◌, nat_lt}
use Rattle.loss_trace.specs.declared.event.Event.{Event}
use Rattle.loss_trace.specs.declared.event.Event.TheVariants.{Send, Packet, All, Back, Play}

-- the state before each draw, from the one before it
abbrev pub next_state : ℕ → ℕ
next_state state = (state * 6364136223846793005 + 1442695040888963407) % 2 ^ 64

-- what is drawn of k numbers
abbrev pub draw : ℕ → ℕ → ℕ
draw state k = state / 2 ^ 33 % k

abbrev pub one_or_none : Option Event → List Event
one_or_none None = []
one_or_none (Some event) = event ∷ []

-- how picture n's packets arrive, by a draw of 16
abbrev pub deliveries : ℕ → ℕ → List Event
deliveries n u =
    if u == 0 then []
    else (if u == 1 then All n ∷ All n ∷ []
    else (if u == 2 then Packet n 1 ∷ Packet n 0 ∷ []
    else (if u == 3 then Packet n 0 ∷ []
    else All n ∷ [])))

-- the message of the picture before arrives, by a draw of 8
abbrev pub messages : ℕ → ℕ → List Event
messages n v = if v == 0 then [] else Back (n - 1) ∷ []

-- after a capture but the first the picture before is played, and its message may arrive
abbrev pub plays : ℕ → ℕ → List Event
plays zero state = []
plays (suc m) state = Play ∷ messages (suc m) (draw (next_state state) 8)

-- the state after that, in which nothing is drawn at the first
abbrev pub after_plays : ℕ → ℕ → ℕ
after_plays zero state = state
after_plays (suc m) state = next_state state

-- the lines of frame n
abbrev pub frame_lines : ℕ → ℕ → List Event
frame_lines n state = Send ∷ (deliveries n (draw (next_state state) 16) ++ plays n (next_state state))

-- the lines of this many frames from frame n on
unfoldable pub frames_from : ℕ → ℕ → ℕ → List Event
frames_from zero n state = []
frames_from (suc frames) n state = frame_lines n state ++ frames_from frames (n + 1) (after_plays n (next_state state))

-- after the last frame its picture is played
abbrev pub last_play : ℕ → List Event
last_play frames = if nat_lt 0 frames then Play ∷ [] else []

-- the whole trace
abbrev pub made_trace : ℕ → ℕ → List Event
made_trace seed frames = frames_from frames 0 seed ++ last_play frames
