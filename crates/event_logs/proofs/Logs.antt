-- A text is read as the entries that it is made of, up to the first byte where none begins.
use Rattle.std.proofs.Common.{◌≡◌, ℕ, zero, suc, ◌+◌, ◌-◌, ◌<◌, ◌≤◌, ◌++◌, List, [], ◌∷◌, length, take, drop, Option, Some, None, refl, sym, ap, subst, ◌∙◌, arith, append-nil, append_assoc, length-append}
use Rattle.std.specs.List.{flat_map}
use Rattle.event_logs.specs.declared.entry.Side.{Side}
use Rattle.event_logs.specs.declared.entry.Entry.{Entry}
use Rattle.event_logs.specs.declared.fault.LogFault.TheVariants.{BadRecord, TooMany}
use Rattle.event_logs.specs.Entry.{entry_size, entry_reach, reach, entry_in}
use Rattle.event_logs.specs.Log.{EntryParts, text_of_entry, IsEntry, Found, Are, IsLog, BeginsNone, found_from, log_fault_from, found_of, first_log_fault, log_entries, log_fault}
use Rattle.event_logs.proofs.Entries.{entry_found, bytes_found, after_found, text_len, read_whole, entry_is}

module _ (side : Side) where
  -- one step of the reading
  fault_step : (n at b : ℕ) (text : List ℕ) → first_log_fault side (suc n) at (b ∷ text)
      ≡ log_fault_from (entry_in side (b ∷ text)) at (first_log_fault side n (at + reach side (b ∷ text))
      (drop (reach side (b ∷ text)) (b ∷ text)))
  unfolding first_log_fault
  fault_step n at b text = refl

  fault_full : (at b : ℕ) (text : List ℕ) → first_log_fault side zero at (b ∷ text) ≡ Some (TooMany at)
  unfolding first_log_fault
  fault_full at b text = refl

  fault_end : (n at : ℕ) → first_log_fault side n at [] ≡ None
  unfolding first_log_fault
  fault_end zero at = refl
  fault_end (suc n) at = refl

  found_step : (n at b : ℕ) (text : List ℕ) → found_of side (suc n) at (b ∷ text)
      ≡ found_from (entry_in side (b ∷ text)) at (b ∷ text) (found_of side n (at + reach side (b ∷ text))
      (drop (reach side (b ∷ text)) (b ∷ text)))
  unfolding found_of
  found_step n at b text = refl

  found_full : (at : ℕ) (text : List ℕ) → found_of side zero at text ≡ []
  unfolding found_of
  found_full at text = refl

  found_end : (n at : ℕ) → found_of side n at [] ≡ []
  unfolding found_of
  found_end zero at = refl
  found_end (suc n) at = refl

  abbrev text_all : List EntryParts → List ℕ
  text_all all = flat_map text_of_entry all

  -- entries that were read, and what is left after them
  record Passed (m at n : ℕ) (found : List Found) (all : List EntryParts) (rest : List ℕ) : Type 0 where
    pub fault : first_log_fault side n at (text_all all ++ rest)
        ≡ first_log_fault side m (at + length (text_all all)) rest
    pub read : found_of side n at (text_all all ++ rest) ≡ found ++ found_of side m (at + length (text_all all)) rest

  -- one entry is read, with a text after it
  module _ (n at : ℕ) (found : Found) (parts : EntryParts) (more : List ℕ) (place : found.at ≡ at) (bytes : found.bytes
      ≡ parts.bytes) (is : IsEntry side found.entry parts) where
    abbrev text : List ℕ
    text = text_of_entry parts ++ more

    says : entry_in side text ≡ Some found.entry
    says = entry_found side found.entry parts more is

    reaches : reach side text ≡ 3 + entry_size found.entry
    reaches = ap entry_reach (read_whole side found.entry text says).0

    after : drop (reach side text) text ≡ more
    after = ap (λ (k : ℕ). drop k text) reaches ∙ after_found side found.entry parts more is

    next : at + reach side text ≡ at + length (text_of_entry parts)
    next = omega (arith, reaches, text_len side found.entry parts more is)

    one_fault : first_log_fault side (suc n) at text ≡ first_log_fault side n (at + length (text_of_entry parts)) more
    one_fault =
        fault_step n at parts.letter ((parts.size ++ parts.bytes) ++ more)
        ∙ ap (λ (o : Option Entry). log_fault_from o at (first_log_fault side n (at + reach side text)
        (drop (reach side text) text))) says
        ∙ (λ i. first_log_fault side n (next i) (after i))

    same : record { at = at; entry = found.entry; bytes = take (entry_size found.entry) (drop 3 text) } ≡ found
    same = λ i. record {
      at = sym place i;
      entry = found.entry;
      bytes = (bytes_found side found.entry parts more is
          ∙ sym bytes) i;
    }

    one_found : found_of side (suc n) at text ≡ found ∷ found_of side n (at + length (text_of_entry parts)) more
    one_found =
        found_step n at parts.letter ((parts.size ++ parts.bytes) ++ more)
        ∙ ap (λ (o : Option Entry). found_from o at text (found_of side n (at + reach side text)
        (drop (reach side text) text))) says
        ∙ (λ i. same i ∷ found_of side n (next i) (after i))

  passed : (m at n : ℕ) (found : List Found) (all : List EntryParts) (rest : List ℕ) → n ≡ length all + m
      → Are side at found all → Passed m at n found all rest
  passed m at n [] [] rest size are =
      let same : n ≡ m = omega (arith, size) in
      let here : at ≡ at + 0 = omega arith in
      record {
        fault = (λ i. first_log_fault side (same i) (here i) rest);
        read = (λ i. found_of side (same i) (here i) rest);
      }
  passed m at n [] (parts ∷ all) rest size are = absurd are
  passed m at n (found ∷ others) [] rest size are = absurd are
  passed m at zero (found ∷ others) (parts ∷ all) rest size are = absurd (omega (arith, size))
  passed m at (suc n) (found ∷ others) (parts ∷ all) rest size are =
      let more = text_all all ++ rest in
      let whole : text_all (parts ∷ all) ++ rest ≡ text_of_entry parts
      ++ more = append_assoc (text_of_entry parts) (text_all all) rest in
      let h = passed m (at + length (text_of_entry parts)) n others all rest (omega (arith, size)) are.3 in
      let place : at + length (text_of_entry parts) + length (text_all all) ≡ at + length (text_all (parts ∷ all)) =
      omega (arith, length-append (text_of_entry parts) (text_all all)) in record {
        fault = ap (λ (l : List ℕ). first_log_fault side (suc n) at l) whole
            ∙ one_fault n at found parts more are.0 are.1 are.2 ∙ h.fault
            ∙ ap (λ (k : ℕ). first_log_fault side m k rest) place;
        read = ap (λ (l : List ℕ). found_of side (suc n) at l) whole
            ∙ one_found n at found parts more are.0 are.1 are.2 ∙ ap (λ (l : List Found). found ∷ l) h.read
            ∙ ap (λ (k : ℕ). (found ∷ others) ++ found_of side m k rest) place;
      }

  module _ (n m at : ℕ) (found : List Found) (all : List EntryParts) (size : n ≡ length all + m)
      (are : Are side at found all) where
    -- all of it is read
    all_read : (first_log_fault side n at (text_all all) ≡ None) × (found_of side n at (text_all all) ≡ found)
    all_read =
        let h = passed m at n found all [] size are in
        let end : text_all all ≡ text_all all ++ [] = sym (append-nil (text_all all)) in (
          ap (λ (l : List ℕ). first_log_fault side n at l) end ∙ h.fault ∙ fault_end m (at + length (text_all all)),
          ap (λ (l : List ℕ). found_of side n at l) end ∙ h.read
              ∙ ap (λ (l : List Found). found ++ l) (found_end m (at + length (text_all all))) ∙ append-nil found,
        )

    module _ (rest : List ℕ) (some : 0 < length rest) where
      stop_full : (k p : ℕ) (rest : List ℕ) → 0 < length rest → k ≡ 0
          → (first_log_fault side k p rest ≡ Some (TooMany p))
          × (found_of side k p rest ≡ [])
      stop_full k p [] some is = absurd (omega (arith, some))
      stop_full zero p (b ∷ rest) some is = (fault_full p b rest, found_full p (b ∷ rest))
      stop_full (suc k) p (b ∷ rest) some is = absurd (omega (arith, is))

      stop_bad : (k p : ℕ) (rest : List ℕ) → 0 < length rest → 0 < k → entry_in side rest ≡ None
          → (first_log_fault side k p rest ≡ Some (BadRecord p)) × (found_of side k p rest ≡ [])
      stop_bad k p [] some more none = absurd (omega (arith, some))
      stop_bad zero p (b ∷ rest) some more none = absurd (omega (arith, more))
      stop_bad (suc k) p (b ∷ rest) some more none = (
        fault_step k p b rest ∙ ap (λ (o : Option Entry). log_fault_from o p
            (first_log_fault side k (p + reach side (b ∷ rest))
            (drop (reach side (b ∷ rest)) (b ∷ rest)))) none,
        found_step k p b rest ∙ ap (λ (o : Option Entry). found_from o p (b ∷ rest)
            (found_of side k (p + reach side (b ∷ rest)) (drop (reach side (b ∷ rest)) (b ∷ rest)))) none,
      )

      -- an entry too many is there
      full : m ≡ 0 → (first_log_fault side n at (text_all all ++ rest) ≡ Some (TooMany (at + length (text_all all))))
          × (found_of side n at (text_all all ++ rest) ≡ found)
      full none =
          let h = passed m at n found all rest size are in
          let stop = stop_full m (at + length (text_all all)) rest some none in
          (h.fault ∙ stop.0, h.read ∙ ap (λ (l : List Found). found ++ l) stop.1 ∙ append-nil found)

      none_in : (o : Option Entry) → entry_in side rest ≡ o → BeginsNone side rest → o ≡ None
      none_in None is begins = refl
      none_in (Some entry) is begins =
          let p = entry_is side entry rest is in
          absurd (begins entry p.0 (drop (3 + entry_size entry) rest) p.1 p.2)

      -- no entry begins there
      bad : 0 < m → BeginsNone side rest
          → (first_log_fault side n at (text_all all ++ rest) ≡ Some (BadRecord (at + length (text_all all))))
          × (found_of side n at (text_all all ++ rest) ≡ found)
      bad more begins =
          let h = passed m at n found all rest size are in
          let stop = stop_bad m (at + length (text_all all)) rest some more (none_in (entry_in side rest) refl begins)
          in
          (h.fault ∙ stop.0, h.read ∙ ap (λ (l : List Found). found ++ l) stop.1 ∙ append-nil found)

  -- what is read without a fault is made of entries
  record Logged (n at : ℕ) (text : List ℕ) : Type 0 where
    pub all : List EntryParts
    pub spelled : text ≡ text_all all
    pub are : Are side at (found_of side n at text) all
    pub few : length all ≤ n

  some_not_none : {A : Type 0} (x : A) (o : Option A) → o ≡ Some x → o ≡ None → ⊥
  some_not_none x o is none = cc

  entry_step : (n at b : ℕ) (text : List ℕ)
      → ((at : ℕ) → first_log_fault side n at (drop (reach side (b ∷ text)) (b ∷ text))
      ≡ None → Logged n at (drop (reach side (b ∷ text)) (b ∷ text))) → first_log_fault side (suc n) at (b ∷ text)
      ≡ None
      → (o : Option Entry) → entry_in side (b ∷ text) ≡ o → Logged (suc n) at (b ∷ text)
  entry_step n at b text more none None is =
      absurd (some_not_none (BadRecord at) (first_log_fault side (suc n) at (b ∷ text)) (fault_step n at b text
      ∙ ap (λ (o : Option Entry). log_fault_from o at (first_log_fault side n (at + reach side (b ∷ text))
      (drop (reach side (b ∷ text)) (b ∷ text)))) is) none)
  entry_step n at b text more none (Some entry) is =
      let r = reach side (b ∷ text) in
      let rest = drop r (b ∷ text) in
      let p = entry_is side entry (b ∷ text) is in
      let reaches : r ≡ 3 + entry_size entry = ap entry_reach (read_whole side entry (b ∷ text) is).0 in
      let next : at + r ≡ at + length (text_of_entry p.0) = omega (arith, reaches, text_len side entry p.0 [] p.1) in
      let h = more (at + r) (sym (fault_step n at b text
      ∙ ap (λ (o : Option Entry). log_fault_from o at (first_log_fault side n (at + r) rest)) is) ∙ none) in
      let first : Found = record { at = at; entry = entry; bytes = take (entry_size entry) (drop 3 (b ∷ text)) } in
      let read : found_of side (suc n) at (b ∷ text) ≡ first ∷ found_of side n (at + r) rest = found_step n at b text
      ∙ ap (λ (o : Option Entry). found_from o at (b ∷ text) (found_of side n (at + r) rest)) is in
      let others : Are side (at + length (text_of_entry p.0)) (found_of side n (at + r) rest) h.all =
      subst (λ (k : ℕ). Are side k (found_of side n (at + r) rest) h.all) next h.are in
      let are : Are side at (first ∷ found_of side n (at + r) rest) (p.0 ∷ h.all) = (refl, sym p.3, p.1, others) in
      record {
        all = p.0 ∷ h.all;
        spelled = p.2 ∙ ap (λ (l : List ℕ). text_of_entry p.0 ++ l) (ap (λ (k : ℕ). drop k (b ∷ text)) (sym reaches)
            ∙ h.spelled);
        are = subst (λ (l : List Found). Are side at l (p.0 ∷ h.all)) (sym read) are;
        few = omega (arith, h.few);
      }

  none_logged : (n at : ℕ) → Logged n at []
  none_logged n at = record {
    all = [];
    spelled = refl;
    are = subst (λ (l : List Found). Are side at l []) (sym (found_end n at)) tt;
    few = omega arith;
  }

  logged : (n : ℕ) (text : List ℕ) (at : ℕ) → first_log_fault side n at text ≡ None → Logged n at text
  logged n [] at none = none_logged n at
  logged zero (b ∷ text) at none = absurd (some_not_none (TooMany at) (first_log_fault side zero at (b ∷ text))
      (fault_full at b text) none)
  logged (suc n) (b ∷ text) at none = entry_step n at b text (logged n (drop (reach side (b ∷ text)) (b ∷ text))) none
      (entry_in side (b ∷ text)) refl

  most_is : (n k : ℕ) → k ≤ n → n ≡ k + (n - k)
  most_is n k le = omega (arith, le)

  log_read : (n : ℕ) (log : List ℕ) (found : List Found) (all : List EntryParts) → log ≡ text_all all
      → Are side 0 found all
      → length all ≤ n → (first_log_fault side n 0 log ≡ None) × (found_of side n 0 log ≡ found)
  log_read n log found all is are few =
      let h = all_read n (n - length all) 0 found all (most_is n (length all) few) are in
      (ap (λ (l : List ℕ). first_log_fault side n 0 l) is ∙ h.0, ap (λ (l : List ℕ). found_of side n 0 l) is ∙ h.1)

-- the whole log
pub log_fault_none : (side : Side) (text : List ℕ) (found : List Found) → IsLog side text found
    → log_fault side text ≡ None
unfolding log_fault
log_fault_none side text found h = (log_read side 16777216 text found h.all h.spelled h.are h.few).0

pub log_entries_are : (side : Side) (text : List ℕ) (found : List Found) → IsLog side text found
    → log_entries side text ≡ found
unfolding log_entries
log_entries_are side text found h = (log_read side 16777216 text found h.all h.spelled h.are h.few).1

pub is_log : (side : Side) (text : List ℕ) → log_fault side text ≡ None → IsLog side text (log_entries side text)
unfolding log_fault log_entries
is_log side text none = let h = logged side 16777216 text 0 none in record {
  all = h.all;
  spelled = h.spelled;
  are = h.are;
  few = h.few;
}

pub bad_log : (side : Side) (text rest : List ℕ) (found : List Found) (all : List EntryParts)
    → text ≡ flat_map text_of_entry all
    ++ rest → Are side 0 found all → length all < 16777216 → 0 < length rest → BeginsNone side rest
    → (log_fault side text ≡ Some (BadRecord (length (flat_map text_of_entry all)))) × (log_entries side text ≡ found)
unfolding log_fault log_entries
bad_log side text rest found all is are few some begins =
    let h = bad side 16777216 (16777216 - length all) 0 found all
    (most_is side 16777216 (length all) (omega (arith, few))) are rest some (omega (arith, few)) begins in
    let place : 0 + length (flat_map text_of_entry all) ≡ length (flat_map text_of_entry all) = omega arith in (
      ap (λ (l : List ℕ). first_log_fault side 16777216 0 l) is ∙ h.0 ∙ ap (λ (n : ℕ). Some (BadRecord n)) place,
      ap (λ (l : List ℕ). found_of side 16777216 0 l) is ∙ h.1,
    )

pub full_log : (side : Side) (text rest : List ℕ) (found : List Found) (all : List EntryParts)
    → text ≡ flat_map text_of_entry all
    ++ rest → Are side 0 found all → length all ≡ 16777216 → 0 < length rest
    → (log_fault side text ≡ Some (TooMany (length (flat_map text_of_entry all)))) × (log_entries side text ≡ found)
unfolding log_fault log_entries
full_log side text rest found all is are every some =
    let h = full side 16777216 0 0 found all (omega (arith, every)) are rest some refl in
    let place : 0 + length (flat_map text_of_entry all) ≡ length (flat_map text_of_entry all) = omega arith in (
      ap (λ (l : List ℕ). first_log_fault side 16777216 0 l) is ∙ h.0 ∙ ap (λ (n : ℕ). Some (TooMany n)) place,
      ap (λ (l : List ℕ). found_of side 16777216 0 l) is ∙ h.1,
    )
