-- A picture is cut packet after packet.
use Rattle.std.proofs.Common.{◌≡◌, ℕ, ◌+◌, ◌%◌, ◌<◌, ◌≤◌, Bool, true, false, List, [], ◌∷◌, ◌++◌, length, take, drop, refl, sym, ap, subst, ◌∙◌, append_assoc, arith}
use Rattle.std.specs.Prelude.{◌==◌}
use Rattle.std.proofs.lemmas.Bool.{eq-eqb, ne_eqb}
use Rattle.std.proofs.lemmas.List.{length-append, length-drop, length-take-le, take-append-drop, drop-drop, drop_all}
use Rattle.h263_types.specs.declared.blocks.Mb.{Mb}
use Rattle.picture_header.specs.declared.header.Header.{Header}
use Rattle.packet_cutter.specs.Cut.{IsLongest, IsCut}
use Rattle.packet_cutter.specs.Packets.{packet_of, is_last, ArePackets, ArePacketsOf}
use Rattle.packet_cutter.proofs.Sent.{same_packet}

-- the packets so far begin those of the picture, whatever the others are
abbrev pub Goes : ℕ → ℕ → Header → ℕ → List Mb → ℕ → List (List ℕ) → Type 0
Goes number sequence h limit mbs first packets =
    (others : List (List Mb)) (more : List (List ℕ)) → 0 < length others → IsCut h limit first (drop first mbs) others
    → ArePackets number (sequence + length packets) h first others more
    → ArePacketsOf number sequence h limit mbs (packets ++ more)

-- the packets have the macroblocks up to number `first`
pub record IsUnderWay (number sequence : ℕ) (h : Header) (limit : ℕ) (mbs : List Mb) (first : ℕ)
    (packets : List (List ℕ)) : Type 0 where
  pub goes : first < length mbs → Goes number sequence h limit mbs first packets
  pub ends : first ≡ length mbs → ArePacketsOf number sequence h limit mbs packets

pub begun : (number sequence : ℕ) (h : Header) (limit : ℕ) (mbs : List Mb) (packets : List (List ℕ)) → 0 < length mbs
    → packets ≡ [] → IsUnderWay number sequence h limit mbs 0 packets
begun number sequence h limit mbs packets some none = subst (IsUnderWay number sequence h limit mbs 0) (sym none)
    (record { goes = goes; ends = λ e. absurd (omega (arith, some, e)) })
  where
    goes : 0 < length mbs → Goes number sequence h limit mbs 0 []
    goes lt others more one cut each =
        let s : sequence + 0 ≡ sequence = omega arith in
        record { runs = others; cut = cut; each = subst (λ (k : ℕ). ArePackets number k h 0 others more) s each }

not_last : (runs : List (List Mb)) → 0 < length runs → is_last runs ≡ false
not_last [] some = absurd (omega arith)
not_last (run ∷ runs) some = refl

-- one packet more
pub record IsNext (number sequence : ℕ) (h : Header) (limit : ℕ) (mbs : List Mb) (first n : ℕ) (packet : List ℕ) : Type
    0 where
  pub few : n ≤ length (drop first mbs)
  pub longest : IsLongest h limit first (take n (drop first mbs)) (drop n (drop first mbs))
  pub packet_is : packet ≡ packet_of number sequence (n == length (drop first mbs)) h first (take n (drop first mbs))

pub turned : (number sequence s : ℕ) (h : Header) (limit : ℕ) (mbs : List Mb) (first n : ℕ) (packets : List (List ℕ))
    (packet : List ℕ) → IsUnderWay number sequence h limit mbs first packets → first < length mbs
    → s % 65536 ≡ (sequence + length packets) % 65536 → IsNext number s h limit mbs first n packet
    → IsUnderWay number sequence h limit mbs (first + n) (packets ++ packet ∷ [])
unfolding IsCut ArePackets
turned number sequence s h limit mbs first n packets packet u lt same next = record { goes = goes; ends = ends }
  where
    left_is : drop n (drop first mbs) ≡ drop (first + n) mbs
    left_is = drop-drop n first mbs

    parts : drop first mbs ≡ take n (drop first mbs) ++ drop (first + n) mbs
    parts = sym (take-append-drop n (drop first mbs)) ∙ ap (λ (t : List Mb). take n (drop first mbs) ++ t) left_is

    len : length (take n (drop first mbs)) ≡ n
    len = length-take-le n (drop first mbs) next.few

    longest : IsLongest h limit first (take n (drop first mbs)) (drop (first + n) mbs)
    longest = subst (λ (t : List Mb). IsLongest h limit first (take n (drop first mbs)) t) left_is next.longest

    is : (last : Bool) → (n == length (drop first mbs)) ≡ last
        → packet ≡ packet_of number (sequence + length packets) last h first (take n (drop first mbs))
    is last e = next.packet_is ∙ ap (λ (b : Bool). packet_of number s b h first (take n (drop first mbs))) e
        ∙ same_packet number s (sequence + length packets) last h first (take n (drop first mbs)) same

    ends : first + n ≡ length mbs → ArePacketsOf number sequence h limit mbs (packets ++ packet ∷ [])
    ends e =
        let none : drop (first + n) mbs ≡ [] = drop_all (first + n) mbs (omega (arith, e)) in
        let all : n ≡ length (drop first mbs) = omega (arith, e, length-drop first mbs) in
        let last = is true (eq-eqb n (length (drop first mbs)) all) in
        u.goes lt (take n (drop first mbs) ∷ []) (packet ∷ []) (omega arith) (
          drop (first + n) mbs,
          parts,
          longest,
          none,
        ) (packet, [], refl, last, refl)

    goes : first + n < length mbs → Goes number sequence h limit mbs (first + n) (packets ++ packet ∷ [])
    goes further others more some cut each =
        let part : (n == length (drop first mbs))
        ≡ false = ne_eqb n (length (drop first mbs)) (λ e. omega (arith, e, further, length-drop first mbs)) in
        let here = is (is_last others) (part ∙ sym (not_last others some)) in
        let cut_after = subst (λ (k : ℕ). IsCut h limit (first + k) (drop (first + n) mbs) others) (sym len) cut in
        let next_sequence : sequence + length (packets ++ packet ∷ []) ≡ sequence + length packets + 1 = omega (
          arith,
          length-append packets (packet ∷ []),
        ) in
        let each_after = subst (λ (k : ℕ). ArePackets number (sequence + length packets + 1) h (first + k) others more)
        (sym len) (subst (λ (k : ℕ). ArePackets number k h (first + n) others more) next_sequence each) in
        subst (ArePacketsOf number sequence h limit mbs) (sym (append_assoc packets (packet ∷ []) more))
        (u.goes lt (take n (drop first mbs) ∷ others) (packet ∷ more) (omega arith) (
          drop (first + n) mbs,
          parts,
          longest,
          cut_after,
        ) (packet, more, refl, here, each_after))
