-- What the first three bytes begin, and whether all of it is there.
use Rattle.std.proofs.Common.{◌≡◌, ℕ, zero, suc, ◌<◌, ◌≤◌, nat_lt, Bool, cond, true, false, List, [], ◌∷◌, length, take, drop, get_or, Option, Some, None, refl, sym, ap, ◌∙◌, arith, length-take}
use Rattle.std.proofs.Math.Seq.{take-length}
use Rattle.std.proofs.Math.ListN.{drop_of_length-le}
use borrow.Author.Tests.{lt-ltb, le-ltb, ltb-true, ltb-false}
use Rattle.h263_outside.specs.Desk.{FillsFront}
use Rattle.event_logs.specs.declared.entry.Side.{Side}
use Rattle.event_logs.specs.declared.entry.Entry.{Entry}
use Rattle.event_logs.specs.Entry.{entry_with, entry_begun, entry_reach, reach, entry_in}
use Rattle.byteorder.specs.Endian.{big_number}
use Rattle.byteorder.specs.Numbers.{big_from-take}

pub past : (n : ℕ) (xs : List ℕ) → length xs ≤ n → drop n xs ≡ []
past n xs le = drop_of_length-le xs {i = n} le

-- fewer than three bytes begin nothing
pub short_begins : (side : Side) (bytes : List ℕ) → length bytes < 3 → entry_begun side bytes ≡ None
short_begins side bytes short =
    ap (λ (t : Bool). cond t None (entry_with side (get_or bytes 0 0) (big_number 2 (drop 1 bytes))))
    (lt-ltb (length bytes) 3 short)

pub long_begins : (side : Side) (bytes : List ℕ) → 3 ≤ length bytes
    → entry_begun side bytes ≡ entry_with side (get_or bytes 0 0) (big_number 2 (drop 1 bytes))
long_begins side bytes long =
    ap (λ (t : Bool). cond t None (entry_with side (get_or bytes 0 0) (big_number 2 (drop 1 bytes))))
    (le-ltb (length bytes) 3 long)

begins_cases : (side : Side) (bytes : List ℕ) (entry : Entry) → entry_begun side bytes ≡ Some entry → (t : Bool)
    → nat_lt (length bytes) 3 ≡ t → 3 ≤ length bytes
begins_cases side bytes entry is true short = absurd (let none : entry_begun side bytes
    ≡ None = ap (λ (t : Bool). cond t None (entry_with side (get_or bytes 0 0) (big_number 2 (drop 1 bytes)))) short in
    cc)
begins_cases side bytes entry is false long = ltb-false (length bytes) 3 long

-- what begins something has three bytes
pub begins_long : (side : Side) (bytes : List ℕ) (entry : Entry) → entry_begun side bytes ≡ Some entry
    → 3 ≤ length bytes
begins_long side bytes entry is = begins_cases side bytes entry is (nat_lt (length bytes) 3) refl

-- nothing after the third byte counts
three_count : (side : Side) (n : ℕ) (bytes : List ℕ) → 3 ≤ n
    → entry_with side (get_or (take n bytes) 0 0) (big_number 2 (drop 1 (take n bytes)))
    ≡ entry_with side (get_or bytes 0 0) (big_number 2 (drop 1 bytes))
three_count side zero bytes le = absurd (omega arith)
three_count side (suc n) [] le = refl
three_count side (suc n) (a ∷ bytes) le = ap (λ (len : ℕ). entry_with side a len)
    (big_from-take 0 2 n bytes (omega arith))

front_cases : (side : Side) (n : ℕ) (bytes : List ℕ) → 3 ≤ n → (t : Bool) → nat_lt (length bytes) 3 ≡ t
    → entry_begun side (take n bytes) ≡ entry_begun side bytes
front_cases side n bytes le true short =
    let small : length bytes < 3 = ltb-true (length bytes) 3 short in
    let cut : length (take n bytes) < 3 = omega (arith, length-take n bytes, small) in
    short_begins side (take n bytes) cut ∙ sym (short_begins side bytes small)
front_cases side n bytes le false long =
    let large : 3 ≤ length bytes = ltb-false (length bytes) 3 long in
    let front : 3 ≤ length (take n bytes) = omega (arith, length-take n bytes, large, le) in
    long_begins side (take n bytes) front ∙ three_count side n bytes le ∙ sym (long_begins side bytes large)

-- three bytes say which entry begins
pub begins_front : (side : Side) (n : ℕ) (bytes : List ℕ) → 3 ≤ n → entry_begun side (take n bytes)
    ≡ entry_begun side bytes
begins_front side n bytes le = front_cases side n bytes le (nat_lt (length bytes) 3) refl

-- an entry reaches past its head
reach_least : (o : Option Entry) → 3 ≤ entry_reach o
reach_least None = omega arith
reach_least (Some entry) = omega arith

-- fewer bytes than an entry reaches are none
pub cut_entry : (side : Side) (bytes : List ℕ) → length bytes < reach side bytes → entry_in side bytes ≡ None
cut_entry side bytes short = ap (λ (t : Bool). cond t None (entry_begun side bytes))
    (lt-ltb (length bytes) (reach side bytes) short)

pub cut_head : (side : Side) (bytes : List ℕ) → length bytes < 3 → entry_in side bytes ≡ None
cut_head side bytes short = cut_entry side bytes (omega (arith, reach_least (entry_begun side bytes), short))

-- an entry whose bytes are all there is the one that begins
pub whole_entry : (side : Side) (bytes : List ℕ) → reach side bytes ≤ length bytes
    → entry_in side bytes ≡ entry_begun side bytes
whole_entry side bytes long = ap (λ (t : Bool). cond t None (entry_begun side bytes))
    (le-ltb (length bytes) (reach side bytes) long)

none_cond : {A : Type 0} (t : Bool) (o : Option A) → o ≡ None → cond t None o ≡ None
none_cond true o is = refl
none_cond false o is = is

-- where nothing begins, no entry is
pub none_begun : (side : Side) (bytes : List ℕ) → entry_begun side bytes ≡ None → entry_in side bytes ≡ None
none_begun side bytes is = none_cond (nat_lt (length bytes) (reach side bytes)) (entry_begun side bytes) is

-- the bytes of a head came to a buffer
module _ (rest head : List ℕ) (came : ℕ) (size : length head ≡ 3) (within : came ≤ 3)
    (fills : FillsFront rest head came) where
  pub some_came : (came ≡ 0 → ⊥) → 0 < length rest
  some_came some = omega (arith, fills.within, some)

  short_rest : came < 3 → came ≡ length rest
  short_rest short = fills.ends (omega (arith, short, size))

  three_cases : (t : Bool) → nat_lt came 3 ≡ t → drop came rest ≡ drop 3 rest
  three_cases true short =
      let few : length rest ≤ came = omega (arith, short_rest (ltb-true came 3 short)) in
      past came rest few ∙ sym (past 3 rest (omega (arith, few, within)))
  three_cases false long = let three : came ≡ 3 = omega (arith, within, ltb-false came 3 long) in
      ap (λ (n : ℕ). drop n rest) three

  pub after_head : drop came rest ≡ drop 3 rest
  after_head = three_cases (nat_lt came 3) refl

  begun_cases : (side : Side) (t : Bool) → nat_lt came 3 ≡ t → entry_begun side (take came rest) ≡ entry_begun side rest
  begun_cases side true short = ap (λ (n : ℕ). entry_begun side (take n rest)) (short_rest (ltb-true came 3 short))
      ∙ ap (entry_begun side) (take-length rest)
  begun_cases side false long = begins_front side came rest (ltb-false came 3 long)

  -- the buffer begins what the rest begins
  pub begun_is : (side : Side) → entry_begun side (take came head) ≡ entry_begun side rest
  begun_is side = ap (entry_begun side) fills.same ∙ begun_cases side (nat_lt came 3) refl
