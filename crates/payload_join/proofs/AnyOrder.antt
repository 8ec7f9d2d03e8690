-- Two lists of the same packets hold the same in the end, and so the same units were whole.
use Rattle.std.proofs.Common.{◌≡◌, ◌⊎◌, inl, inr, ℕ, zero, suc, ◌+◌, ◌-◌, ◌%◌, ◌<◌, ◌≤◌, Bool, true, false, cond, List, [], ◌∷◌, ◌++◌, length, Option, Some, None, Result, Ok, refl, sym, ap, subst, ◌∙◌, arith, eq-eqb, get_or}
use Rattle.std.specs.Prelude.{nat_eq, nat_lt, map, All, IsPermutation, ◌==◌}
use Rattle.std.specs.List.{IsDistinct, AllByRecursion}
use Rattle.std.proofs.lemmas.Bool.{cases_lt, lt-ltb, le-ltb, lt-leb, eqb-true, eqb-false}
use Rattle.std.proofs.lemmas.List.Sorted.{IsPermutation-refl, IsPermutation-trans, IsPermutation-sym, IsPermutation-append_left, IsPermutation-map, All-permutation}
use Rattle.std.proofs.lemmas.Map.Keys.{IsDistinct-IsPermutation}
use Rattle.h263_bits.specs.declared.fault.Fault.{Fault}
use Rattle.h263_bits.specs.Syntax.{IsIn}
use Rattle.h263_types.specs.declared.format.Format.{Format}
use Rattle.payload_join.specs.declared.took.Took.TheVariants as tooks
use Rattle.payload_join.specs.Packet.{Packet, packet_in}
use Rattle.payload_join.specs.Unit.{Held, held_packet}
use Rattle.payload_join.specs.Run.{JoinedSoFar, nothing_held, near, joined_number, is_old, top_with, took_as, took, kept_from, with_packet, made_from, made, held_after_as, held_after, given_as, given, joined_by, join_run}
use Rattle.payload_join.specs.Laws.{packet_sequence, sequence_in, IsAmong, IsAnyOrder}
use Rattle.payload_join.proofs.Growing.{At, Grows, nothing, more_out}
use Rattle.payload_join.proofs.Orders.{empty_from, window_same, near_is}

-- ---- what is kept

abbrev pub one_held : ℕ → Packet → Held
one_held x p = record { number = x; packet = p }

pub kept_at : (top n : ℕ) (held : List Held) → top < n + 64 → held_packet (kept_from top held) n ≡ held_packet held n
unfolding held_packet
kept_at top n [] lt = refl
kept_at top n (h ∷ held) lt = at (nat_lt top (h.number + 64)) refl (h.number == n) refl (kept_at top n held lt)
  where
    at : (t : Bool) → nat_lt top (h.number + 64) ≡ t → (s : Bool) → (h.number == n) ≡ s
        → held_packet (kept_from top held) n ≡ held_packet held n
        → held_packet (cond t (h ∷ kept_from top held) (kept_from top held)) n
        ≡ cond s (Some h.packet) (held_packet held n)
    at true is true same more = rw same refl
    at true is false same more = rw same more
    at false is true same more =
        let e : h.number ≡ n = eqb-true h.number n same in
        let f : nat_lt top (h.number + 64) ≡ true = lt-ltb top (h.number + 64) (omega arith) in absurd (no_both f is)
      where
        no_both : nat_lt top (h.number + 64) ≡ true → nat_lt top (h.number + 64) ≡ false → ⊥
        no_both f g = cc
    at false is false same more = more

pub gone : (top n : ℕ) (held : List Held) → n + 64 ≤ top → held_packet (kept_from top held) n ≡ None
unfolding held_packet
gone top n [] le = refl
gone top n (h ∷ held) le = at (nat_lt top (h.number + 64)) refl (h.number == n) refl (gone top n held le)
  where
    at : (t : Bool) → nat_lt top (h.number + 64) ≡ t → (s : Bool) → (h.number == n) ≡ s
        → held_packet (kept_from top held) n ≡ None
        → held_packet (cond t (h ∷ kept_from top held) (kept_from top held)) n ≡ None
    at true is true same more =
        let e : h.number ≡ n = eqb-true h.number n same in
        let f : nat_lt top (h.number + 64) ≡ false = le-ltb top (h.number + 64) (omega arith) in absurd (no_both f is)
      where
        no_both : nat_lt top (h.number + 64) ≡ false → nat_lt top (h.number + 64) ≡ true → ⊥
        no_both f g = cc
    at true is false same more = rw same more
    at false is s same more = more

pub no_some : {A : Type 0} (p : A) → None ≡ Some p → ⊥
no_some p f = cc

pub some_same : {A : Type 0} (p q : A) → Some p ≡ Some q → p ≡ q
some_same p q e = cc

kept_sub : (top n : ℕ) (held : List Held) (p : Packet) → held_packet (kept_from top held) n ≡ Some p
    → held_packet held n ≡ Some p
kept_sub top n held p e =
    elim (cases_lt top (n + 64)) [
      | inl lt ↦ sym (kept_at top n held lt) ∙ e
      | inr le ↦ absurd (no_some p (sym (gone top n held le) ∙ e))
    ]

-- ---- a run

-- a packet of a list, with its number
record IsFrom (low : ℕ) (zs : List (List ℕ)) (n : ℕ) (p : Packet) : Type 0 where
  bytes : List ℕ
  listed : IsIn bytes zs
  read : packet_in bytes ≡ Ok p
  number : near low p.sequence ≡ n

-- all that is held lies in 64 numbers from `low` on, and nothing was forgotten
record IsRunOf (low : ℕ) (zs : List (List ℕ)) (s : JoinedSoFar) : Type 0 where
  tops : (t : ℕ) → s.top ≡ Some t → (low ≤ t) × (t < low + 64)
  empty : s.top ≡ None → (n : ℕ) (p : Packet) → held_packet s.held n ≡ Some p → ⊥
  from : (n : ℕ) (p : Packet) → held_packet s.held n ≡ Some p → low ≤ n
  upto : (n t : ℕ) (p : Packet) → held_packet s.held n ≡ Some p → s.top ≡ Some t → n ≤ t
  inside : (n : ℕ) (p : Packet) → held_packet s.held n ≡ Some p → IsFrom low zs n p
  there : (bytes : List ℕ) (p : Packet) → IsIn bytes zs → packet_in bytes ≡ Ok p
      → held_packet s.held (near low p.sequence) ≡ Some p

-- a packet joins those of a run
record IsNext (low : ℕ) (s : JoinedSoFar) (z : List ℕ) (p : Packet) (x : ℕ) : Type 0 where
  read : packet_in z ≡ Ok p
  is : near low p.sequence ≡ x
  from : low ≤ x
  below : x < low + 64
  number : joined_number s.top p.sequence ≡ x
  young : is_old s.top x ≡ false
  fresh : held_packet s.held x ≡ None

held_is : (low : ℕ) (s : JoinedSoFar) (z : List ℕ) (p : Packet) (x : ℕ) → IsNext low s z p x
    → took s (Ok p) ≡ tooks.Held
held_is low s z p x n = ap (took_as s) n.number ∙ (rw (n.young, n.fresh) refl)

state_is : (low : ℕ) (s : JoinedSoFar) (z : List ℕ) (p : Packet) (x : ℕ) → IsNext low s z p x
    → held_after s (packet_in z)
    ≡ with_packet s x p
state_is low s z p x n =
    ap (held_after s) n.read ∙ ap (held_after_as s p) (held_is low s z p x n)
    ∙ ap (λ (k : ℕ). with_packet s k p) n.number

given_is : (format : Format) (low : ℕ) (s : JoinedSoFar) (z : List ℕ) (p : Packet) (x : ℕ) → IsNext low s z p x
    → given format s (packet_in z) ≡ made format s.held (with_packet s x p)
given_is format low s z p x n =
    ap (given format s) n.read ∙ ap (given_as format s p) (held_is low s z p x n)
    ∙ ap (λ (k : ℕ). made format s.held (with_packet s k p)) n.number

-- the greatest number then
record IsTop (low : ℕ) (o : Option ℕ) (x top : ℕ) : Type 0 where
  from : low ≤ top
  below : top < low + 64
  over : x ≤ top
  past : (t : ℕ) → o ≡ Some t → t ≤ top

top_is : (low : ℕ) (o : Option ℕ) (x : ℕ) → ((t : ℕ) → o ≡ Some t → (low ≤ t) × (t < low + 64)) → low ≤ x → x < low + 64
    → IsTop low o x (top_with o x)
top_is low None x tops from below = record {
  from = from;
  below = below;
  over = omega arith;
  past = λ t e. absurd (no_some t e);
}
top_is low (Some top) x tops from below =
    let b = tops top refl in
    record {
      from = omega (arith, b.0);
      below = omega (arith, b.1);
      over = omega arith;
      past = λ t e. let same : top
          ≡ t = some_same top t e in omega (arith, same);
    }

-- what is held then: the packet, and what was held
found_at : (low : ℕ) (zs : List (List ℕ)) (s : JoinedSoFar) (z : List ℕ) (p : Packet) (x m : ℕ) → IsRunOf low zs s
    → IsNext low s z p x → low ≤ m
    → held_packet (with_packet s x p).held m ≡ cond (x == m) (Some p) (held_packet s.held m)
unfolding held_packet
found_at low zs s z p x m run n le =
    let t = top_is low s.top x run.tops n.from n.below in
    kept_at (top_with s.top x) m (one_held x p ∷ s.held) (omega (arith, t.below))

-- and nothing else
found_sub : (low : ℕ) (s : JoinedSoFar) (p : Packet) (x m : ℕ) (q : Packet) → held_packet (with_packet s x p).held m
    ≡ Some q
    → ((x ≡ m) × (p ≡ q)) ⊎ (held_packet s.held m ≡ Some q)
unfolding held_packet
found_sub low s p x m q e = at (x == m) refl (kept_sub (top_with s.top x) m (one_held x p ∷ s.held) q e)
  where
    at : (t : Bool) → (x == m) ≡ t → cond (x == m) (Some p) (held_packet s.held m) ≡ Some q
        → ((x ≡ m) × (p ≡ q)) ⊎ (held_packet s.held m ≡ Some q)
    at true is f = inl (
      eqb-true x m is,
      some_same p q (subst (λ (t : Bool). cond t (Some p) (held_packet s.held m)
          ≡ Some q) is f),
    )
    at false is f = inr (subst (λ (t : Bool). cond t (Some p) (held_packet s.held m) ≡ Some q) is f)

apart : (s : JoinedSoFar) (x m : ℕ) (q : Packet) → held_packet s.held x ≡ None → held_packet s.held m ≡ Some q
    → (x == m) ≡ false
apart s x m q fresh held = at (x == m) refl
  where
    at : (t : Bool) → (x == m) ≡ t → t ≡ false
    at true is = let e : x ≡ m = eqb-true x m is in absurd (no_some q (sym fresh ∙ ap (held_packet s.held) e ∙ held))
    at false is = refl

next_grows : (low : ℕ) (zs : List (List ℕ)) (s : JoinedSoFar) (z : List ℕ) (p : Packet) (x : ℕ) → IsRunOf low zs s
    → IsNext low s z p x → Grows (held_packet s.held) (held_packet (with_packet s x p).held)
next_grows low zs s z p x run n m q e = found_at low zs s z p x m run n (run.from m q e)
    ∙ (rw (apart s x m q n.fresh e) e)

read_same : (p q : Packet) (r : Result Packet Fault) → r ≡ Ok p → r ≡ Ok q → p ≡ q
read_same p q r e f = let g : (Ok p) ≡ (Ok q) = sym e ∙ f in cc

next_run : (low : ℕ) (zs : List (List ℕ)) (s : JoinedSoFar) (z : List ℕ) (p : Packet) (x : ℕ) → IsRunOf low zs s
    → IsNext low s z p x → IsRunOf low (z ∷ zs) (with_packet s x p)
next_run low zs s z p x run n =
    let t = top_is low s.top x run.tops n.from n.below in
    record {
      tops = λ k e. let same : top_with s.top x ≡ k = some_same (top_with s.top x) k e in
          (omega (arith, t.from, same), omega (arith, t.below, same));
      empty = λ e. absurd (no_some (top_with s.top x) (sym e));
      from = λ m q e. elim (found_sub low s p x m q e) [
        | inl here ↦ omega (arith, here.0, n.from)
        | inr old ↦ run.from m q old
      ];
      upto = λ m k q e f.
          let same : top_with s.top x ≡ k = some_same (top_with s.top x) k f in
          elim (found_sub low s p x m q e) [
            | inl here ↦ omega (arith, here.0, t.over, same)
            | inr old ↦ omega (arith, same, below_top m q old (top_with s.top x) t)
          ];
      inside = λ m q e.
          elim (found_sub low s p x m q e) [
            | inl here ↦ record {
              bytes = z;
              listed = inl refl;
              read = n.read ∙ ap (λ (r : Packet). Ok r) here.1;
              number = ap (λ (r : Packet). near low r.sequence) (sym here.1) ∙ n.is ∙ here.0;
            }
            | inr old ↦ let f = run.inside m q old in record {
              bytes = f.bytes;
              listed = inr f.listed;
              read = f.read;
              number = f.number;
            }
          ];
      there = λ b q listed read. listed_at b q listed read;
    }
  where
    below_top : (m : ℕ) (q : Packet) → held_packet s.held m ≡ Some q → (top : ℕ) → IsTop low s.top x top → m ≤ top
    below_top m q old top t = at s.top refl
      where
        at : (o : Option ℕ) → s.top ≡ o → m ≤ top
        at None is = absurd (run.empty is m q old)
        at (Some k) is = omega (arith, run.upto m k q old is, t.past k is)

    listed_at : (b : List ℕ) (q : Packet) → IsIn b (z ∷ zs) → packet_in b ≡ Ok q
        → held_packet (with_packet s x p).held (near low q.sequence) ≡ Some q
    listed_at b q (inl same) read =
        let e : p ≡ q = read_same p q (packet_in b) (ap packet_in (sym same) ∙ n.read) read in
        let at : near low q.sequence ≡ x = ap (λ (r : Packet). near low r.sequence) (sym e) ∙ n.is in
        ap (held_packet (with_packet s x p).held) at ∙ found_at low zs s z p x x run n n.from
        ∙ (rw (eq-eqb x x refl) (ap (λ (r : Packet). Some r) e))
    listed_at b q (inr old) read =
        let e = run.there b q old read in
        next_grows low zs s z p x run n (near low q.sequence) q e

-- ---- whole runs

none_of : (o : Option Packet) → ((p : Packet) → o ≡ Some p → ⊥) → o ≡ None
none_of None none = refl
none_of (Some p) none = absurd (none p refl)

nothing_run : (low : ℕ) → IsRunOf low [] nothing_held
unfolding held_packet
nothing_run low =
    record {
      tops = λ t e. absurd (no_some t e);
      empty = λ e n p f. no_some p f;
      from = λ n p f. absurd (no_some p f);
      upto = λ n t p f e. absurd (no_some p f);
      inside = λ n p f. absurd (no_some p f);
      there = λ b p listed read. absurd listed;
    }

-- all that went out is what goes out of the units that are whole in the end
record Ran (format : Format) (low : ℕ) (zs : List (List ℕ)) : Type 0 where
  run : IsRunOf low zs (joined_by zs)
  out : IsPermutation (join_run format zs) (made_from format nothing (held_packet (joined_by zs).held) (low - 63) 127)

nothing_ran : (format : Format) (low : ℕ) → Ran format low []
unfolding joined_by join_run held_packet
nothing_ran format low =
    record {
      run = nothing_run low;
      out = subst (λ (t : List (List ℕ)). IsPermutation [] t)
          (sym (empty_from format nothing nothing (low - 63) 127 (λ j lt. refl))) (IsPermutation-refl []);
    }

one_step : (format : Format) (low : ℕ) (zs : List (List ℕ)) (z : List ℕ) (p : Packet) (x : ℕ) → 63 ≤ low
    → Ran format low zs → IsNext low (joined_by zs) z p x → Ran format low (z ∷ zs)
unfolding joined_by join_run
one_step format low zs z p x some ran n =
    let s = joined_by zs in
    let e = state_is low s z p x n in
    let run : IsRunOf low (z ∷ zs) (with_packet s x p) = next_run low zs s z p x ran.run n in
    let t = top_is low s.top x ran.run.tops n.from n.below in
    let now : At = held_packet (with_packet s x p).held in
    let window : made format s.held (with_packet s x p) ≡ made_from format (held_packet s.held) now (low - 63) 127 =
    window_same format (held_packet s.held) now low (top_with s.top x) some t.from t.below
    (λ m lt. none_of (now m) (λ q f. absurd (omega (arith, run.from m q f))))
    (λ m lt. none_of (now m) (λ q f. absurd (omega (arith, run.upto m (top_with s.top x) q f refl))))
    in
    let given_so : given format s (packet_in z) ≡ made_from format (held_packet s.held) now (low - 63) 127 =
    given_is format low s z p x n ∙ window in
    let before = made_from format nothing (held_packet s.held) (low - 63) 127 in
    let made_now = made_from format (held_packet s.held) now (low - 63) 127 in
    let all : IsPermutation (join_run format zs ++ made_now) (made_from format nothing now (low - 63) 127) =
    IsPermutation-trans _ (before ++ made_now) _ (IsPermutation-append_left made_now (join_run format zs) before
    ran.out)
    (IsPermutation-sym _ _ (more_out format (held_packet s.held) now (low - 63) 127
    (next_grows low zs s z p x ran.run n)))
    in
    record {
      run = subst (IsRunOf low (z ∷ zs)) (sym e) run;
      out = subst (λ (u : JoinedSoFar). IsPermutation (join_run format zs ++ given format s (packet_in z))
          (made_from format nothing (held_packet u.held) (low - 63) 127)) (sym e)
          (subst (λ (g : List (List ℕ)). IsPermutation (join_run format zs
          ++ g) (made_from format nothing now (low - 63) 127)) (sym given_so) all);
    }

near_low : (low x : ℕ) → low ≤ x → x < low + 64 → near low (x % 65536) ≡ x
near_low low x le lt = omega arith

near_same : (low a b : ℕ) → a < 65536 → b < 65536 → near low a ≡ near low b → a ≡ b
near_same low a b p q e = omega arith

-- a packet that comes first
first_next : (low : ℕ) (z : List ℕ) (a : IsAmong low z) → a.packet.sequence + 65536 ≡ low + a.place
    → IsNext low nothing_held z a.packet (low + a.place)
unfolding held_packet
first_next low z a e =
    record {
      read = a.read;
      is = ap (near low) a.sequence ∙ near_low low (low + a.place) (omega arith) (omega (arith, a.few));
      from = omega arith;
      below = omega (arith, a.few);
      number = e;
      young = refl;
      fresh = refl;
    }

-- a later one, whose sequence number none of the others has
later_next : (low : ℕ) (zs : List (List ℕ)) (s : JoinedSoFar) (t : ℕ) (z : List ℕ) → IsRunOf low zs s → s.top ≡ Some t
    → 65536 ≤ low + 63 → (a : IsAmong low z)
    → ((b : List ℕ) → IsIn b zs → IsAmong low b) → ((b : List ℕ) → IsIn b zs → packet_sequence b ≡ packet_sequence z
    → ⊥)
    → IsNext low s z a.packet (low + a.place)
later_next low zs s t z run top high a among differ =
    let b = run.tops t top in
    let is : near low a.packet.sequence ≡ low + a.place = ap (near low) a.sequence
    ∙ near_low low (low + a.place) (omega arith) (omega (arith, a.few)) in
    record {
      read = a.read;
      is = is;
      from = omega arith;
      below = omega (arith, a.few);
      number = ap (λ (o : Option ℕ). joined_number o a.packet.sequence) top ∙ ap (near (t - 32768)) a.sequence
          ∙ near_is low t (low + a.place) high b.0 b.1 (omega arith) (omega (arith, a.few));
      young = ap (λ (o : Option ℕ). is_old o (low + a.place)) top ∙ lt-leb (low + a.place + 64) t (omega (arith, b.1));
      fresh = none_of (held_packet s.held (low + a.place)) (λ q f. twice q (run.inside (low + a.place) q f) is);
    }
  where
    low_sequence : (b : List ℕ) (q : Packet) → IsAmong low b → packet_in b ≡ Ok q → q.sequence < 65536
    low_sequence b q m read = let same : m.packet ≡ q = read_same m.packet q (packet_in b) m.read read in
        let e : m.packet.sequence ≡ q.sequence = ap (λ (r : Packet). r.sequence) same in omega (arith, m.sequence, e)

    twice : (q : Packet) → IsFrom low zs (low + a.place) q → near low a.packet.sequence ≡ low + a.place → ⊥
    twice q f is =
        let same : q.sequence ≡ a.packet.sequence = near_same low q.sequence a.packet.sequence
        (low_sequence f.bytes q (among f.bytes f.listed) f.read) (low_sequence z a.packet a a.read) (f.number
        ∙ sym is) in
        differ f.bytes f.listed (ap sequence_in f.read ∙ same ∙ sym (ap sequence_in a.read))

-- ---- any order

step_top : (low : ℕ) (zs : List (List ℕ)) (z : List ℕ) (p : Packet) (x : ℕ) → IsNext low (joined_by zs) z p x
    → (joined_by (z ∷ zs)).top ≡ Some (top_with (joined_by zs).top x)
unfolding joined_by
step_top low zs z p x n = ap (λ (u : JoinedSoFar). u.top) (state_is low (joined_by zs) z p x n)

differ_in : (n : ℕ) (zs : List (List ℕ)) (b : List ℕ)
    → AllByRecursion (λ y. nat_eq n y ≡ false) (map packet_sequence zs)
    → IsIn b zs → packet_sequence b ≡ n → ⊥
differ_in n [] b all listed e = listed
differ_in n (z ∷ zs) b all (inl same) e = eqb-false n (packet_sequence z) all.0 (sym e ∙ ap packet_sequence (sym same))
differ_in n (z ∷ zs) b all (inr later) e = differ_in n zs b all.1 later e

distinct_rest : (z : List ℕ) (zs : List (List ℕ)) → IsDistinct nat_eq (map packet_sequence (z ∷ zs))
    → IsDistinct nat_eq (map packet_sequence zs)
unfolding IsDistinct
distinct_rest z zs h = h.1

distinct_here : (z : List ℕ) (zs : List (List ℕ)) → IsDistinct nat_eq (map packet_sequence (z ∷ zs)) → (b : List ℕ)
    → IsIn b zs → packet_sequence b ≡ packet_sequence z → ⊥
unfolding IsDistinct
distinct_here z zs h b listed e = differ_in (packet_sequence z) zs b h.0 listed e

-- a run of these packets, and its greatest number
record RanUp (format : Format) (low : ℕ) (zs : List (List ℕ)) : Type 0 where
  ran : Ran format low zs
  top : ℕ
  top_is : (joined_by zs).top ≡ Some top

all_ran : (format : Format) (low : ℕ) (xs : List (List ℕ)) (first : List ℕ) (a : IsAmong low first)
    → a.packet.sequence + 65536 ≡ low + a.place → 65536 ≤ low + 63
    → ((b : List ℕ) → IsIn b (xs ++ first ∷ []) → IsAmong low b)
    → IsDistinct nat_eq (map packet_sequence (xs ++ first ∷ [])) → RanUp format low (xs ++ first ∷ [])
unfolding joined_by
all_ran format low [] first a e high among distinct =
    let n = first_next low first a e in
    record {
      ran = one_step format low [] first a.packet (low + a.place) (omega arith) (nothing_ran format low) n;
      top = _;
      top_is = step_top low [] first a.packet (low + a.place) n;
    }
all_ran format low (z ∷ xs) first a e high among distinct =
    let zs = xs ++ first ∷ [] in
    let rest = all_ran format low xs first a e high (λ b l. among b (inr l)) (distinct_rest z zs distinct) in
    let m = among z (inl refl) in
    let n = later_next low zs (joined_by zs) rest.top z rest.ran.run rest.top_is high m (λ b l. among b (inr l))
    (distinct_here z zs distinct) in
    record {
      ran = one_step format low zs z m.packet (low + m.place) (omega arith) rest.ran n;
      top = _;
      top_is = step_top low zs z m.packet (low + m.place) n;
    }

all_in : {X : Type 0} (P : X → Type 0) (xs : List X) (b : X) → All P xs → IsIn b xs → P b
all_in P [] b all listed = absurd listed
all_in P (x ∷ xs) b all (inl same) = subst P same (all 0 x (omega arith))
all_in P (x ∷ xs) b all (inr later) = all_in P xs b (λ k d lt. all (suc k) d (omega arith)) later

each_listed : {X : Type 0} (ys : List X) (k : ℕ) (d : X) → k < length ys → IsIn (get_or ys k d) ys
each_listed [] k d lt = absurd (omega arith)
each_listed (y ∷ ys) zero d lt = inl refl
each_listed (y ∷ ys) (suc k) d lt = inr (each_listed ys k d (omega arith))

-- what is in a list is in each of its orders
in_moved : (xs ys : List (List ℕ)) (b : List ℕ) → IsPermutation xs ys → IsIn b xs → IsIn b ys
in_moved xs ys b moves listed =
    all_in (λ (x : List ℕ). IsIn x ys) xs b (All-permutation (λ (x : List ℕ). IsIn x ys) ys xs
    (IsPermutation-sym xs ys moves) (λ k d lt. each_listed ys k d lt)) listed

-- the same packets are found by the same numbers
found_again : (low : ℕ) (zs ws : List (List ℕ)) (s u : JoinedSoFar) → IsRunOf low zs s → IsRunOf low ws u
    → ((b : List ℕ) → IsIn b zs → IsIn b ws)
    → (n : ℕ) (p : Packet) → held_packet s.held n ≡ Some p → held_packet u.held n ≡ Some p
found_again low zs ws s u r q moved n p e =
    let f = r.inside n p e in
    subst (λ (m : ℕ). held_packet u.held m ≡ Some p) f.number (q.there f.bytes p (moved f.bytes f.listed) f.read)

option_same : (o u : Option Packet) → ((p : Packet) → o ≡ Some p → u ≡ Some p)
    → ((p : Packet) → u ≡ Some p → o ≡ Some p) → o ≡ u
option_same None u to back = sym (none_of u (λ p e. no_some p (back p e)))
option_same (Some p) u to back = sym (to p refl)

-- the numbers counted from another one that is congruent
again : (low new place : ℕ) → new % 65536 ≡ low % 65536 → (low + place) % 65536 ≡ (new + place) % 65536
again low new place same = omega arith

counted : (low new : ℕ) (b : List ℕ) → new % 65536 ≡ low % 65536 → IsAmong low b → IsAmong new b
counted low new b same a = record {
  packet = a.packet;
  read = a.read;
  place = a.place;
  few = a.few;
  sequence = a.sequence ∙ again low new a.place same;
}

congruent : (sequence place low : ℕ) → place < 64 → sequence ≡ (low + place) % 65536
    → (sequence + 65536 - place) % 65536 ≡ low % 65536
congruent sequence place low few e = omega arith

last_in : (xs : List (List ℕ)) (first : List ℕ) → IsIn first (xs ++ first ∷ [])
last_in [] first = inl refl
last_in (x ∷ xs) first = inr (last_in xs first)

eqb_flips : (m n : ℕ) → nat_eq m n ≡ nat_eq n m
eqb_flips m n = at (nat_eq m n) (nat_eq n m) refl refl
  where
    at : (s t : Bool) → nat_eq m n ≡ s → nat_eq n m ≡ t → s ≡ t
    at true true e f = refl
    at true false e f = absurd (eqb-false n m f (sym (eqb-true m n e)))
    at false true e f = absurd (eqb-false m n e (sym (eqb-true n m f)))
    at false false e f = refl

pub any_order : IsAnyOrder
any_order format low first xs ys all distinct moves =
    let zs = xs ++ first ∷ [] in
    let ws = ys ++ first ∷ [] in
    let same : IsPermutation zs ws = IsPermutation-append_left (first ∷ []) xs ys moves in
    let a : IsAmong low first = all_in (IsAmong low) zs first all (last_in xs first) in
    let new : ℕ = a.packet.sequence + 65536 - a.place in
    let c : new % 65536 ≡ low % 65536 = congruent a.packet.sequence a.place low a.few a.sequence in
    let among : (b : List ℕ) → IsIn b zs
    → IsAmong new b = λ b l. counted low new b c (all_in (IsAmong low) zs b all l) in
    let first_among : IsAmong new first = record {
      packet = a.packet;
      read = a.read;
      place = a.place;
      few = a.few;
      sequence = a.sequence ∙ again low new a.place c;
    } in
    let number : first_among.packet.sequence + 65536 ≡ new + first_among.place = omega (arith, a.few) in
    let high : 65536 ≤ new + 63 = omega (arith, a.few) in
    let r = all_ran format new xs first first_among number high among distinct in
    let q = all_ran format new ys first first_among number high
    (λ b l. among b (in_moved ws zs b (IsPermutation-sym zs ws same) l))
    (IsDistinct-IsPermutation nat_eq eqb_flips (map packet_sequence zs) (map packet_sequence ws)
    (IsPermutation-map packet_sequence zs ws same) distinct) in
    let held : held_packet (joined_by zs).held ≡ held_packet (joined_by ws).held =
    λ i n. option_same (held_packet (joined_by zs).held n) (held_packet (joined_by ws).held n)
    (found_again new zs ws (joined_by zs) (joined_by ws) r.ran.run q.ran.run (λ b. in_moved zs ws b same) n)
    (found_again new ws zs (joined_by ws) (joined_by zs) q.ran.run r.ran.run
    (λ b. in_moved ws zs b (IsPermutation-sym zs ws same)) n) i
    in
    IsPermutation-trans (join_run format zs) (made_from format nothing (held_packet (joined_by ws).held) (new - 63) 127)
    (join_run format ws)
    (subst (λ (at : At). IsPermutation (join_run format zs) (made_from format nothing at (new - 63) 127)) held
    r.ran.out)
    (IsPermutation-sym (join_run format ws) _ q.ran.out)
