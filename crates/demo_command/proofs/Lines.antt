-- The lines of a made trace: which pictures they name, and how many there are.
use Rattle.std.proofs.Common.{◌≡◌, ℕ, zero, suc, ◌+◌, ◌-◌, ◌*◌, ◌≤◌, Bool, true, false, List, [], ◌∷◌, ◌++◌, length, refl, sym, subst, arith, append_assoc, length-append}
use Rattle.std.specs.Prelude.{◌==◌, if◌then◌else◌, nat_lt}
use Rattle.loss_trace.specs.declared.event.Event.{Event as Line}
use Rattle.loss_trace.specs.declared.event.Event.TheVariants as says
use Rattle.make_input.specs.Trace.{after_plays, deliveries, draw, frames_from, last_play, made_trace, next_state, plays}
use Rattle.demo_command.specs.Machine.{AreInPlace}

-- ---- which pictures they name

delivering : (n : ℕ) (none twice turned one : Bool) (rest : List Line) → AreInPlace 10000 (n + 1) rest
    → AreInPlace 10000 (n + 1)
    ((if none then [] else (if twice then says.All n ∷ says.All n ∷ [] else (if turned then says.Packet n 1 ∷
    says.Packet n 0 ∷ [] else (if one then says.Packet n 0 ∷ [] else says.All n ∷ []))))
    ++ rest)
delivering n true twice turned one rest ok = ok
delivering n false true turned one rest ok = (omega arith, (omega arith, ok))
delivering n false false true one rest ok = ok
delivering n false false false true rest ok = ok
delivering n false false false false rest ok = (omega arith, ok)

telling : (none : Bool) (k sent : ℕ) (rest : List Line) → AreInPlace 10000 sent rest
    → AreInPlace 10000 sent ((if none then [] else says.Back k ∷ []) ++ rest)
telling true k sent rest ok = ok
telling false k sent rest ok = ok

playing : (n state sent : ℕ) (rest : List Line) → AreInPlace 10000 sent rest
    → AreInPlace 10000 sent (plays n state ++ rest)
playing zero state sent rest ok = ok
playing (suc m) state sent rest ok = telling (draw (next_state state) 8 == 0) (suc m - 1) sent rest ok

four_lists : (a b c d : List Line) → ((a ++ b) ++ c) ++ d ≡ a ++ (b ++ (c ++ d))
four_lists a b c d = simp append_assoc refl

of_frames : (k n state : ℕ) (rest : List Line) → n + k ≤ 10000 → AreInPlace 10000 (n + k) rest
    → AreInPlace 10000 n (frames_from k n state ++ rest)
unfolding frames_from
of_frames zero n state rest few ok =
    let same : n + 0 ≡ n = omega arith in
    subst (λ (m : ℕ). AreInPlace 10000 m rest) same ok
of_frames (suc k) n state rest few ok =
    let u = draw (next_state state) 16 in
    let ahead = frames_from k (n + 1) (after_plays n (next_state state)) in
    let same : n + suc k ≡ (n + 1) + k = omega arith in
    let behind : AreInPlace 10000 (n + 1) (ahead ++ rest) = of_frames k (n + 1) (after_plays n (next_state state)) rest
    (omega (arith, few)) (subst (λ (m : ℕ). AreInPlace 10000 m rest) same ok) in
    let here : AreInPlace 10000 (n + 1) (deliveries n u ++ (plays n (next_state state) ++ (ahead ++ rest))) =
    delivering n (u == 0) (u == 1) (u == 2) (u == 3) (plays n (next_state state) ++ (ahead ++ rest))
    (playing n (next_state state) (n + 1) (ahead ++ rest) behind)
    in (
      omega (arith, few),
      subst (λ (l : List Line). AreInPlace 10000 (n + 1) l)
          (sym (four_lists (deliveries n u) (plays n (next_state state)) ahead rest)) here,
    )

last_in_place : (some : Bool) (sent : ℕ) → AreInPlace 10000 sent (if some then says.Play ∷ [] else [])
last_in_place true sent = tt
last_in_place false sent = tt

pub made_in_place : (seed frames : ℕ) → frames ≤ 10000 → AreInPlace 10000 0 (made_trace seed frames)
made_in_place seed frames few = of_frames frames 0 seed (last_play frames) (omega (arith, few))
    (last_in_place (nat_lt 0 frames) (0 + frames))

-- ---- how many there are

few_delivering : (n : ℕ) (none twice turned one : Bool)
    → length (if none then [] else (if twice then says.All n ∷ says.All n ∷ [] else (if turned then says.Packet n 1 ∷
    says.Packet n 0 ∷ [] else (if one then says.Packet n 0 ∷ [] else says.All n ∷ []))))
    ≤ 2
few_delivering n true twice turned one = omega arith
few_delivering n false true turned one = omega arith
few_delivering n false false true one = omega arith
few_delivering n false false false true = omega arith
few_delivering n false false false false = omega arith

few_telling : (none : Bool) (k : ℕ) → length (if none then [] else says.Back k ∷ []) ≤ 1
few_telling true k = omega arith
few_telling false k = omega arith

few_plays : (n state : ℕ) → length (plays n state) ≤ 2
few_plays zero state = omega arith
few_plays (suc m) state = omega (arith, few_telling (draw (next_state state) 8 == 0) (suc m - 1))

three_lengths : (a b c : List Line) → length ((a ++ b) ++ c) ≡ length a + length b + length c
three_lengths a b c = simp length-append refl

few_frames : (k n state : ℕ) → length (frames_from k n state) ≤ 5 * k
unfolding frames_from
few_frames zero n state = omega arith
few_frames (suc k) n state =
    let u = draw (next_state state) 16 in
    let ahead = frames_from k (n + 1) (after_plays n (next_state state)) in
    omega (
      arith,
      three_lengths (deliveries n u) (plays n (next_state state)) ahead,
      few_delivering n (u == 0) (u == 1) (u == 2) (u == 3),
      few_plays n (next_state state),
      few_frames k (n + 1) (after_plays n (next_state state)),
    )

few_last : (some : Bool) → length (if some then says.Play ∷ [] else []) ≤ 1
few_last true = omega arith
few_last false = omega arith

two_lengths : (a b : List Line) → length (a ++ b) ≡ length a + length b
two_lengths a b = simp length-append refl

pub made_lines_few : (seed frames : ℕ) → length (made_trace seed frames) ≤ 5 * frames + 1
made_lines_few seed frames =
    omega (
      arith,
      two_lengths (frames_from frames 0 seed) (last_play frames),
      few_frames frames 0 seed,
      few_last (nat_lt 0 frames),
    )
