-- The packets by their places are those that are held: before and after one more.
use Rattle.std.proofs.Common.{◌≡◌, inl, inr, ℕ, zero, suc, ◌+◌, ◌-◌, ◌%◌, ◌<◌, ◌≤◌, Bool, true, false, cond, List, [], ◌∷◌, length, get_or, set, Option, Some, None, Result, Ok, Err, refl, sym, ap, subst, ◌∙◌, arith, get_or-set_same, get_or-set_other}
use Rattle.std.specs.Prelude.{nat_le, nat_lt, max, min, ◌==◌, is_some}
use Rattle.std.proofs.lemmas.Bool.{cases_lt, cases_eq, le-leb, lt-leb, lt-ltb, le-ltb, eq-eqb, ne_eqb}
use Rattle.h263_bits.specs.declared.fault.Fault.{Fault}
use Rattle.payload_join.specs.declared.took.Took.{Took}
use Rattle.payload_join.specs.declared.took.Took.TheVariants as tooks
use Rattle.payload_join.specs.Packet.{Packet, packet_in}
use Rattle.payload_join.specs.Unit.{Held, held_packet}
use Rattle.payload_join.specs.Run.{JoinedSoFar, near, joined_number, is_old, top_with, took_as, took, kept_from, with_packet, held_after_as, held_after, joined_by}
use Rattle.payload_join.specs.Places.{place_at, reach_above, packet_judged, forgotten, numbers_passed, left_at, top_after, top_rest, Shows}
use Rattle.payload_join.proofs.AnyOrder.{one_held, kept_at, gone, no_some, some_same}
use Rattle.payload_join.proofs.InSlots.{many_forgotten, many_left}

-- what is held lies within 64 numbers
pub record IsWindow (s : JoinedSoFar) : Type 0 where
  pub big : (t : ℕ) → s.top ≡ Some t → 65536 ≤ t
  pub under : (t n : ℕ) → s.top ≡ Some t → n + 64 ≤ t → held_packet s.held n ≡ None
  pub over : (t n : ℕ) → s.top ≡ Some t → t < n → held_packet s.held n ≡ None
  pub nothing : s.top ≡ None → (n : ℕ) → held_packet s.held n ≡ None

-- ---- what becomes of a packet

-- where a number lies
pub near_reach : (t sequence : ℕ) → 65536 ≤ t → sequence < 65536 → near (t - 32768) sequence
    ≡ t - 32768 + reach_above (t % 65536) sequence
near_reach t sequence big small = omega arith

same_place : (t sequence : ℕ) → 65536 ≤ t → sequence < 65536 → near (t - 32768) sequence % 64 ≡ sequence % 64
same_place t sequence big small = omega arith

old_is : (o : Option ℕ) (held : List Held) (x : ℕ) → is_old o x ≡ true
    → cond (is_old o x) tooks.Old (cond (is_some (held_packet held x)) tooks.Again tooks.Held) ≡ tooks.Old
old_is o held x e = rw e refl

young_is : (o : Option ℕ) (held : List Held) (x : ℕ) → is_old o x ≡ false
    → cond (is_old o x) tooks.Old (cond (is_some (held_packet held x)) tooks.Again tooks.Held)
    ≡ cond (is_some (held_packet held x)) tooks.Again tooks.Held
young_is o held x e = rw e refl

old_some : (s : JoinedSoFar) (t x : ℕ) → s.top ≡ Some t → is_old s.top x ≡ nat_le (x + 64) t
old_some s t x is = ap (λ (o : Option ℕ). is_old o x) is

judged_some : (packets : List (Option Packet)) (s : JoinedSoFar) (sequence t x : ℕ) → s.top ≡ Some t
    → Shows (Some (t % 65536)) packets s → IsWindow s → x ≡ t - 32768 + reach_above (t % 65536) sequence
    → x % 64 ≡ sequence % 64
    → packet_judged (Some (t % 65536)) packets sequence ≡ took_as s x
judged_some packets s sequence t x is shows w at place =
    let r : ℕ = reach_above (t % 65536) sequence in
    let big = w.big t is in
    elim (cases_lt 32768 (r + 64)) [
      | inr old ↦
          let a : nat_le (r + 64) 32768 ≡ true = le-leb (r + 64) 32768 old in
          let b : nat_le (x + 64) t ≡ true = le-leb (x + 64) t (omega arith) in
          let left : packet_judged (Some (t % 65536)) packets sequence ≡ tooks.Old = rw a refl in
          left ∙ sym (old_is s.top s.held x (old_some s t x is ∙ b))
      | inl young ↦
          let a : nat_le (r + 64) 32768 ≡ false = lt-leb (r + 64) 32768 young in
          let b : nat_le (x + 64) t ≡ false = lt-leb (x + 64) t (omega arith) in
          let right = young_is s.top s.held x (old_some s t x is ∙ b) in
          elim (cases_lt 32768 r) [
            | inl above ↦
                let c : nat_lt 32768 r ≡ true = lt-ltb 32768 r above in
                let none : held_packet s.held x ≡ None = w.over t x is (omega arith) in
                let left : packet_judged (Some (t % 65536)) packets sequence ≡ tooks.Held = rw (a, c) refl in
                left ∙ sym (right ∙ (rw none refl))
            | inr upto ↦
                let c : nat_lt 32768 r ≡ false = le-ltb 32768 r upto in
                let same : place_at packets sequence ≡ held_packet s.held x = ap (λ (k : ℕ). get_or packets k None)
                (sym place) ∙ shows.packet t x is (omega arith) (omega arith) in
                let left : packet_judged (Some (t % 65536)) packets sequence
                ≡ cond (is_some (place_at packets sequence)) tooks.Again tooks.Held = rw (a, c) refl in
                left ∙ ap (λ (o : Option Packet). cond (is_some o) tooks.Again tooks.Held) same ∙ sym right
          ]
    ]

-- the code's answer is the definition's
pub judged_is : (top : Option ℕ) (packets : List (Option Packet)) (s : JoinedSoFar) (sequence : ℕ) → Shows top packets s
    → IsWindow s → sequence < 65536
    → packet_judged top packets sequence ≡ took_as s (joined_number s.top sequence)
judged_is top packets s sequence shows w small = at s.top refl
  where
    at : (o : Option ℕ) → s.top ≡ o → packet_judged top packets sequence ≡ took_as s (joined_number s.top sequence)
    at None is =
        let x : ℕ = joined_number s.top sequence in
        let young : is_old s.top x ≡ false = ap (λ (o : Option ℕ). is_old o x) is in
        ap (λ (o : Option ℕ). packet_judged o packets sequence) (shows.top_is ∙ ap top_rest is)
        ∙ sym (young_is s.top s.held x young ∙ (rw (w.nothing is x) refl))
    at (Some t) is =
        let e : top ≡ Some (t % 65536) = shows.top_is ∙ ap top_rest is in
        let big = w.big t is in
        ap (λ (o : Option ℕ). packet_judged o packets sequence) e
        ∙ judged_some packets s sequence t (near (t - 32768) sequence) is
        (subst (λ (o : Option ℕ). Shows o packets s) e shows) w (near_reach t sequence big small)
        (same_place t sequence big small)
        ∙ ap (λ (o : Option ℕ). took_as s (joined_number o sequence)) (sym is)

-- ---- what is held then

forgotten_none : {X : Type 0} (held : List (Option X)) (from count n j : ℕ) → length held ≡ 64 → j < count
    → (from + j) % 64 ≡ n % 64 → get_or (forgotten held from count) (n % 64) None ≡ None
unfolding forgotten
forgotten_none held from zero n j long lt e = absurd (omega arith)
forgotten_none {X} held from (suc count) n j long lt e =
    let rest : List (Option X) = forgotten held from count in
    let many : length rest ≡ length held = many_forgotten held from count in
    elim (cases_eq (n % 64) ((from + count) % 64)) [
      | inl same ↦ ap (λ (k : ℕ). get_or (set rest ((from + count) % 64) None) k None) same
          ∙ get_or-set_same rest ((from + count) % 64) None None (omega arith)
      | inr ne ↦ get_or-set_other rest ((from + count) % 64) (n % 64) None None ne
          ∙ forgotten_none held from count n j long (elim (cases_lt j count) [
            | inl less ↦ less
            | inr ge ↦ let here : j
                ≡ count = omega arith in absurd (ne (sym e ∙ ap (λ (k : ℕ). (from + k) % 64) here))
          ]) e
    ]

forgotten_same : {X : Type 0} (held : List (Option X)) (from count n : ℕ)
    → ((j : ℕ) → j < count → (from + j) % 64 ≡ n % 64 → ⊥) → get_or (forgotten held from count) (n % 64) None
    ≡ get_or held (n % 64) None
unfolding forgotten
forgotten_same held from zero n apart = refl
forgotten_same held from (suc count) n apart =
    get_or-set_other (forgotten held from count) ((from + count) % 64) (n % 64) None None
    (λ e. apart count (omega arith) (sym e))
    ∙ forgotten_same held from count n (λ j lt. apart j (omega arith))

-- without what is forgotten
left_shows : (packets : List (Option Packet)) (s : JoinedSoFar) (sequence t x n : ℕ) → s.top ≡ Some t
    → Shows (Some (t % 65536)) packets s → IsWindow s → length packets ≡ 64
    → x ≡ t - 32768 + reach_above (t % 65536) sequence
    → n ≤ max t x → max t x < n + 64 → place_at (left_at (Some (t % 65536)) packets sequence) n ≡ held_packet s.held n
left_shows packets s sequence t x n is shows w long at le lt =
    let r : ℕ = reach_above (t % 65536) sequence in
    let big = w.big t is in
    let c : ℕ = numbers_passed (t % 65536) sequence in
    let c_is : c ≡ min (r - 32768) 64 = refl in
    elim (cases_lt t n) [
      | inl above ↦
          let j : ℕ = (n - t - 1) % 64 in
          forgotten_none packets (t % 65536 + 1) c n j long (omega arith) (omega arith) ∙ sym (w.over t n is above)
      | inr upto ↦
          forgotten_same packets (t % 65536 + 1) c n (λ j less e. absurd (omega arith))
          ∙ shows.packet t n is upto (omega arith)
    ]

pub upto_top : (o : Option ℕ) (x : ℕ) → x ≤ top_with o x
upto_top None x = omega arith
upto_top (Some t) x = omega arith

-- one more packet is held
record IsMore (top : Option ℕ) (packets : List (Option Packet)) (s : JoinedSoFar) (sequence x : ℕ) : Type 0 where
  place : x % 64 ≡ sequence % 64
  young : top_with s.top x < x + 64
  last : Some (top_after top sequence) ≡ Some (top_with s.top x % 65536)
  others : (n : ℕ) → n ≤ top_with s.top x → top_with s.top x < n + 64 → place_at (left_at top packets sequence) n
      ≡ held_packet s.held n

young_of : (s : JoinedSoFar) (x : ℕ) → took_as s x ≡ tooks.Held → is_old s.top x ≡ false
young_of s x held = at (is_old s.top x) refl
  where
    at : (t : Bool) → is_old s.top x ≡ t → t ≡ false
    at true is = let e : tooks.Old ≡ tooks.Held = sym (old_is s.top s.held x is) ∙ held in absurd cc
    at false is = refl

more_is : (top : Option ℕ) (packets : List (Option Packet)) (s : JoinedSoFar) (sequence : ℕ) → Shows top packets s
    → IsWindow s → sequence < 65536 → length packets ≡ 64
    → is_old s.top (joined_number s.top sequence) ≡ false → IsMore top packets s sequence (joined_number s.top sequence)
more_is top packets s sequence shows w small long young = at s.top refl
  where
    -- the same of what is not computed of the state
    more_some : (t x : ℕ) → s.top ≡ Some t → x ≡ near (t - 32768) sequence → nat_le (x + 64) t ≡ false
        → IsMore (Some (t % 65536)) packets s sequence x
    more_some t x is e young =
        let big = w.big t is in
        let shown : Shows (Some (t % 65536)) packets s = subst (λ (o : Option ℕ). Shows o packets s) (shows.top_is
        ∙ ap top_rest is) shows in
        let at : x ≡ t - 32768 + reach_above (t % 65536) sequence = e ∙ near_reach t sequence big small in
        let top_is : top_with s.top x ≡ max t x = ap (λ (o : Option ℕ). top_with o x) is in
        let near_top : t < x + 64 = elim (cases_lt t (x + 64)) [
          | inl lt ↦ lt
          | inr le ↦ let f : nat_le (x + 64) t
              ≡ true = le-leb (x + 64) t le in absurd cc
        ] in
        record {
          place = ap (λ (k : ℕ). k % 64) e ∙ same_place t sequence big small;
          young = omega arith;
          last = ap (λ (k : ℕ). Some k) (last_is t x big at (ap (λ (k : ℕ). k % 65536) e ∙ same_sequence t big)
              ∙ ap (λ (k : ℕ). k % 65536) (sym top_is));
          others = λ n le lt. left_shows packets s sequence t x n is shown w long at (omega arith) (omega arith);
        }
      where
        same_sequence : (t : ℕ) → 65536 ≤ t → near (t - 32768) sequence % 65536 ≡ sequence
        same_sequence t big = omega arith

        last_is : (t x : ℕ) → 65536 ≤ t → x ≡ t - 32768 + reach_above (t % 65536) sequence → x % 65536 ≡ sequence
            → top_after (Some (t % 65536)) sequence ≡ max t x % 65536
        last_is t x big at same =
            elim (cases_lt 32768 (reach_above (t % 65536) sequence)) [
              | inl above ↦
                  let left : top_after (Some (t % 65536)) sequence
                  ≡ sequence = rw (lt-ltb 32768 (reach_above (t % 65536) sequence) above) refl in
                  left ∙ sym same ∙ (let m : x ≡ max t x = omega arith in ap (λ (k : ℕ). k % 65536) m)
              | inr upto ↦
                  let left : top_after (Some (t % 65536)) sequence
                  ≡ t % 65536 = rw (le-ltb 32768 (reach_above (t % 65536) sequence) upto) refl in
                  left ∙ (let m : t ≡ max t x = omega arith in ap (λ (k : ℕ). k % 65536) m)
            ]

    at : (o : Option ℕ) → s.top ≡ o → IsMore top packets s sequence (joined_number s.top sequence)
    at None is =
        let e : top ≡ None = shows.top_is ∙ ap top_rest is in
        let x_is : joined_number s.top sequence
        ≡ sequence + 65536 = ap (λ (o : Option ℕ). joined_number o sequence) is in
        let t_is : top_with s.top (joined_number s.top sequence) ≡ joined_number s.top sequence =
        ap (λ (o : Option ℕ). top_with o (joined_number s.top sequence)) is in
        record {
          place = omega (arith, x_is);
          young = omega (arith, t_is);
          last = ap (λ (o : Option ℕ). Some (top_after o sequence)) e
              ∙ ap (λ (k : ℕ). Some k) (omega (arith, t_is, x_is));
          others = λ n le lt. ap (λ (o : Option ℕ). place_at (left_at o packets sequence) n) e ∙ shows.nothing is n
              ∙ sym (w.nothing is n);
        }
    at (Some t) is =
        let x_is : joined_number s.top sequence ≡ near (t - 32768) sequence =
        ap (λ (o : Option ℕ). joined_number o sequence) is in
        subst (λ (o : Option ℕ). IsMore o packets s sequence (joined_number s.top sequence)) (sym (shows.top_is
        ∙ ap top_rest is))
        (more_some t (joined_number s.top sequence) is x_is (sym (old_some s t (joined_number s.top sequence) is)
        ∙ young))

pub holds : (top : Option ℕ) (packets : List (Option Packet)) (s : JoinedSoFar) (sequence : ℕ) (p : Packet)
    → Shows top packets s → IsWindow s → sequence < 65536 → length packets ≡ 64
    → took_as s (joined_number s.top sequence) ≡ tooks.Held
    → Shows (Some (top_after top sequence)) (set (left_at top packets sequence) (sequence % 64) (Some p))
    (with_packet s (joined_number s.top sequence) p)
unfolding held_packet
holds top packets s sequence p shows w small long held =
    let x : ℕ = joined_number s.top sequence in
    let m = more_is top packets s sequence shows w small long (young_of s x held) in
    let last : ℕ = top_with s.top x in
    let many : length (left_at top packets sequence) ≡ length packets = many_left top packets sequence in
    let k : ℕ = sequence % 64 in
    let place_is = m.place in
    let x_upto : x ≤ last = upto_top s.top x in
    let young = m.young in
    record {
      top_is = m.last;
      packet = λ t n e le lt.
          let same : last ≡ t = some_same last t e in
          let right : held_packet (kept_from last (one_held x p ∷ s.held)) n
          ≡ cond (x == n) (Some p) (held_packet s.held n) = kept_at last n (one_held x p ∷ s.held)
          (omega (arith, same)) in
          elim (cases_eq n x) [
            | inl here ↦
                let at : n % 64 ≡ k = ap (λ (j : ℕ). j % 64) here ∙ m.place in
                ap (λ (j : ℕ). get_or (set (left_at top packets sequence) k (Some p)) j None) at
                ∙ get_or-set_same (left_at top packets sequence) k (Some p) None (omega arith)
                ∙ sym (right ∙ (rw (eq-eqb x n (sym here)) refl))
            | inr ne ↦
                get_or-set_other (left_at top packets sequence) k (n % 64) (Some p) None (λ f. ne (omega (arith, same)))
                ∙ m.others n (omega (arith, same)) (omega (arith, same))
                ∙ sym (right ∙ (rw (ne_eqb x n (λ f. ne (sym f))) refl))
          ];
      nothing = λ e. absurd (no_some last (sym e));
    }

-- ---- whatever was taken

big_with : (s : JoinedSoFar) (sequence : ℕ) → IsWindow s → 65536 ≤ top_with s.top (joined_number s.top sequence)
big_with s sequence w = at s.top refl
  where
    at : (o : Option ℕ) → s.top ≡ o → 65536 ≤ top_with s.top (joined_number s.top sequence)
    at None is = let e : top_with s.top (joined_number s.top sequence)
        ≡ sequence + 65536 = ap (λ (o : Option ℕ). top_with o (joined_number o sequence)) is in omega (arith, e)
    at (Some t) is = let e : top_with s.top (joined_number s.top sequence) ≡ max t (joined_number s.top sequence) =
        ap (λ (o : Option ℕ). top_with o (joined_number s.top sequence)) is in omega (arith, e, w.big t is)

window_with : (s : JoinedSoFar) (sequence : ℕ) (p : Packet) → IsWindow s
    → IsWindow (with_packet s (joined_number s.top sequence) p)
unfolding held_packet
window_with s sequence p w =
    let x : ℕ = joined_number s.top sequence in
    let last : ℕ = top_with s.top x in
    let b = big_with s sequence w in
    record {
      big = λ t e. let same : last ≡ t = some_same last t e in omega (arith, same, b);
      under = λ t n e le. let same : last ≡ t = some_same last t e in
          gone last n (one_held x p ∷ s.held) (omega (arith, same));
      over = λ t n e lt.
          let same : last ≡ t = some_same last t e in
          let a = upto_top s.top x in
          kept_at last n (one_held x p ∷ s.held) (omega (arith, same))
          ∙ (rw (ne_eqb x n (λ f. absurd (omega (arith, same, f)))) (none_over n (omega (arith, same))));
      nothing = λ e. absurd (no_some last (sym e));
    }
  where
    none_over : (n : ℕ) → top_with s.top (joined_number s.top sequence) < n → held_packet s.held n ≡ None
    none_over n lt = at s.top refl
      where
        at : (o : Option ℕ) → s.top ≡ o → held_packet s.held n ≡ None
        at None is = w.nothing is n
        at (Some t) is = let e : top_with s.top (joined_number s.top sequence) ≡ max t (joined_number s.top sequence) =
            ap (λ (o : Option ℕ). top_with o (joined_number s.top sequence)) is in w.over t n is (omega (arith, e))

window_after : (s : JoinedSoFar) (r : Result Packet Fault) → IsWindow s → IsWindow (held_after s r)
window_after s (Err fault) w = w
window_after s (Ok p) w = at (took s (Ok p))
  where
    at : (t : Took) → IsWindow (held_after_as s p t)
    at tooks.Held = window_with s p.sequence p w
    at tooks.Old = w
    at tooks.Again = w
    at (tooks.Refused fault) = w

-- what is held after any packets lies within 64 numbers
pub is_window : (past : List (List ℕ)) → IsWindow (joined_by past)
unfolding joined_by held_packet
is_window [] = record {
  big = λ t e. absurd (no_some t e);
  under = λ t n e le. refl;
  over = λ t n e lt. refl;
  nothing = λ e n. refl;
}
is_window (bytes ∷ past) = window_after (joined_by past) (packet_in bytes) (is_window past)

-- ---- a packet that is held, as a whole

pub record IsHolding (top : Option ℕ) (packets : List (Option Packet)) (s : JoinedSoFar) (sequence x : ℕ)
    (p : Packet) : Type 0 where
  pub big : 65536 ≤ top_with s.top x
  pub last : top_after top sequence ≡ top_with s.top x % 65536
  pub rest : x % 65536 ≡ sequence
  pub upto : x ≤ top_with s.top x
  pub young : top_with s.top x < x + 64
  pub window : IsWindow (with_packet s x p)
  pub shows : Shows (Some (top_after top sequence)) (set (left_at top packets sequence) (sequence % 64) (Some p))
      (with_packet s x p)

rest_is : (s : JoinedSoFar) (sequence : ℕ) → IsWindow s → sequence < 65536 → joined_number s.top sequence % 65536
    ≡ sequence
rest_is s sequence w small = at s.top refl
  where
    at : (o : Option ℕ) → s.top ≡ o → joined_number s.top sequence % 65536 ≡ sequence
    at None is = ap (λ (o : Option ℕ). joined_number o sequence % 65536) is ∙ omega arith
    at (Some t) is = let big = w.big t is in ap (λ (o : Option ℕ). joined_number o sequence % 65536) is ∙ omega arith

pub holding_is : (top : Option ℕ) (packets : List (Option Packet)) (s : JoinedSoFar) (sequence : ℕ) (p : Packet)
    → Shows top packets s → IsWindow s → sequence < 65536 → length packets ≡ 64
    → took_as s (joined_number s.top sequence) ≡ tooks.Held
    → IsHolding top packets s sequence (joined_number s.top sequence) p
holding_is top packets s sequence p shows w small long held =
    let m = more_is top packets s sequence shows w small long (young_of s (joined_number s.top sequence) held) in
    record {
      big = big_with s sequence w;
      last = some_same (top_after top sequence) (top_with s.top (joined_number s.top sequence) % 65536) m.last;
      rest = rest_is s sequence w small;
      upto = upto_top s.top (joined_number s.top sequence);
      young = m.young;
      window = window_with s sequence p w;
      shows = holds top packets s sequence p shows w small long held;
    }
