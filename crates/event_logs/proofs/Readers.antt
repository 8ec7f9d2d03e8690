-- What a reader says, from what came to its buffers.
use Rattle.std.proofs.Common.{◌≡◌, ℕ, ◌+◌, ◌<◌, ◌≤◌, ◌++◌, min, List, length, take, drop, Option, Some, None, Result, Err, IsErrAnd, sym, ap, subst, ◌∙◌, arith, length-take, length-drop}
use Rattle.std.proofs.lemmas.List.{drop-drop, drop_min, take-append-le}
use Rattle.h263_outside.specs.Desk.{FillsFront}
use Rattle.event_logs.specs.declared.entry.Entry.{Entry}
use Rattle.event_logs.specs.declared.fault.LogStop.{LogStop}
use Rattle.event_logs.specs.declared.fault.LogStop.TheVariants.{Read}
use Rattle.event_logs.specs.Entry.{entry_size, entry_begun, entry_reach, reach, entry_in}
use Rattle.event_logs.specs.Place.{LogPlace}
use Rattle.event_logs.specs.Reader.{IsLogCut, EntryGives}
use Rattle.event_logs.proofs.Heads.{past, begins_long, begins_front, cut_entry, cut_head, whole_entry}
use Rattle.event_logs.proofs.Results.{err_is}

-- the start of a buffer that takes any entry
pub front_len : (buf new : List ℕ) (n len : ℕ) → length new ≡ length (take n buf) → n ≡ len → len ≤ 65535
    → 65535 ≤ length buf → length new ≡ len
front_len buf new n len same is within room = omega (arith, same, length-take n buf, is, within, room)

-- this many bytes were taken, or all that there were
taken_len : (n : ℕ) (rest : List ℕ) → length (take (min n (length rest)) rest) ≤ n
taken_len n rest = omega (arith, length-take (min n (length rest)) rest)

cut_at : (place : LogPlace) (rest : List ℕ) (n : ℕ) (left : Option (List ℕ)) → left ≡ Some (drop n rest)
    → entry_in place.side (take (min n (length rest)) rest) ≡ None → IsLogCut place rest left
cut_at place rest n left gone none = record {
  taken = min n (length rest);
  within = omega arith;
  gone = gone ∙ ap (λ (l : List ℕ). Some l) (sym (drop_min n rest));
  none = none;
}

-- a read failed in the head
pub head_cut : (place : LogPlace) (rest : List ℕ) (n : ℕ) (left : Option (List ℕ)) → n < 3 → left ≡ Some (drop n rest)
    → IsLogCut place rest left
head_cut place rest n left few gone =
    cut_at place rest n left gone (cut_head place.side (take (min n (length rest)) rest)
    (omega (arith, taken_len n rest, few)))

pub stopped : (r : Result (Option (ℕ × Entry)) LogStop) (stop : LogStop) (place : LogPlace) (rest buf : List ℕ)
    (left : Option (List ℕ)) → IsErrAnd r (λ x. x ≡ stop) → stop ≡ Read → IsLogCut place rest left
    → EntryGives r place rest buf left
stopped r stop place rest buf left is read cut =
    subst (λ (r : Result (Option (ℕ × Entry)) LogStop). EntryGives r place rest buf left) (sym (err_is r stop is
    ∙ ap (λ (s : LogStop). Err s) read)) cut

-- an entry has begun, and its bytes come after the head
module _ (place : LogPlace) (rest : List ℕ) (entry : Entry) (begins : entry_begun place.side rest ≡ Some entry) where
  reach_is : reach place.side rest ≡ 3 + entry_size entry
  reach_is = ap entry_reach begins

  long : 3 ≤ length rest
  long = begins_long place.side rest entry begins

  same_reach : (n : ℕ) → 3 ≤ n → reach place.side (take n rest) ≡ 3 + entry_size entry
  same_reach n le = ap entry_reach (begins_front place.side n rest le) ∙ reach_is

  -- a read failed among them
  pub bytes_cut : (k : ℕ) (left : Option (List ℕ)) → k < entry_size entry → left ≡ Some (drop k (drop 3 rest))
      → IsLogCut place rest left
  bytes_cut k left few gone =
      let n = min (3 + k) (length rest) in
      let short : length (take n rest) < reach place.side (take n rest) = omega (
        arith,
        taken_len (3 + k) rest,
        same_reach n (omega (arith, long)),
        few,
      ) in
      cut_at place rest (3 + k) left (gone ∙ ap (λ (l : List ℕ). Some l) (drop-drop k 3 rest))
      (cut_entry place.side (take n rest) short)

  -- they came to the start of a buffer
  module _ (front : List ℕ) (k : ℕ) (fills : FillsFront (drop 3 rest) front k) (size : length front ≡ entry_size entry)
      (left : Option (List ℕ)) (gone : left ≡ Some (drop k (drop 3 rest))) where
    after : left ≡ Some (drop (3 + k) rest)
    after = gone ∙ ap (λ (l : List ℕ). Some l) (drop-drop k 3 rest)

    pub cut_off : k < entry_size entry → (entry_in place.side rest ≡ None)
        × (left ≡ Some (drop (reach place.side rest) rest))
    cut_off few =
        let all : length rest ≡ 3 + k = omega (
          arith,
          fills.ends (omega (arith, few, size)),
          length-drop 3 rest,
          long,
        ) in
        let short : length rest < reach place.side rest = omega (arith, all, few, reach_is) in (
          cut_entry place.side rest short,
          after ∙ ap (λ (l : List ℕ). Some l) (past (3 + k) rest (omega (arith, all))
              ∙ sym (past (reach place.side rest) rest (omega (arith, short)))),
        )

    pub there : (buf : List ℕ) → k ≤ entry_size entry → entry_size entry ≤ k → (entry_in place.side rest ≡ Some entry)
        × (take (entry_size entry) (front ++ buf) ≡ take (entry_size entry) (drop 3 rest))
        × (left ≡ Some (drop (3 + entry_size entry) rest))
    there buf within all =
        let exact : k ≡ entry_size entry = omega (arith, within, all) in
        let enough : reach place.side rest ≤ length rest = omega (
          arith,
          reach_is,
          fills.within,
          length-drop 3 rest,
          long,
          exact,
        ) in (
          whole_entry place.side rest enough ∙ begins,
          take-append-le (entry_size entry) front buf (omega (arith, size)) ∙ (λ i. take (sym exact i) front)
              ∙ fills.same
              ∙ (λ i. take (exact i) (drop 3 rest)),
          after ∙ ap (λ (n : ℕ). Some (drop (3 + n) rest)) exact,
        )
