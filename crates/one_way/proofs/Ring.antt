-- What the rings have is what was sent and said.
use Rattle.std.proofs.Common.{◌≡◌, ℕ, zero, suc, ◌+◌, ◌<◌, ◌≤◌, Bool, List, [], ◌∷◌, length, take, Option, Some, None, refl, ap, ◌∙◌, arith}
use Rattle.std.specs.Prelude.{map, nat_le, nat_lt, slice_get, slice_index_or, if◌then◌else◌}
use Rattle.std.specs.Option.{option_map, option_map_or}
use Rattle.std.proofs.lemmas.Bool.{and_from, le-leb, lt-ltb}
use Rattle.h263_types.specs.declared.blocks.Mb.{Mb}
use Rattle.h263_types.specs.declared.params.Params.{Params}
use Rattle.h263_planes.specs.Picture.{Picture}
use Rattle.back_messages.specs.declared.writing.Said.{Said}
use Rattle.call_model.specs.Coding.{Header, Slice}
use Rattle.call_model.specs.CodedPictures.{Coded}
use Rattle.call_model.specs.IdealCall.{slices_at}
use Rattle.call_model.specs.JoinedRun.{SaidMessage}
use Rattle.call_model.specs.Sending as call
use Rattle.call_decoding.specs.Rules.{rules_of}
use Rattle.call_decoding.specs.Styles.{Style}
use Rattle.call_encoding.specs.Encoding.{encoding}
use Rattle.call_rings.specs.Keeping.{kept_of, ring_period}
use Rattle.call_rings.specs.declared.sent_packets.SentPackets.{SentPackets}
use Rattle.one_way.specs.declared.way.Way.{Way}
use Rattle.one_way.specs.Network.{HasPackets, about_of, told_in}
use Rattle.one_way.specs.Way.{IsAmongLast, kept_in}

-- the packets that the ring has of one of the last pictures
pub kept_in_ring : (p : Params) (ring : SentPackets) (coded : List (Coded Style Mb Picture)) (n : ℕ)
    (has : HasPackets p ring coded)
    → n < length coded → length coded ≤ n + ring_period ring → kept_of (ring_period ring) has.pictures n
    ≡ call.packets_at (encoding p) (rules_of p) coded n
kept_in_ring p ring coded n has few near =
    ap (λ (b : Bool). if b then slice_index_or has.pictures n [] else [])
    (and_from (nat_lt n (length has.pictures)) (nat_le (length has.pictures) (n + ring_period ring))
    (lt-ltb n (length has.pictures) (omega (arith, few, has.count)))
    (le-leb (length has.pictures) (n + ring_period ring) (omega (arith, near, has.count))))
    ∙ has.each n

pub kept_is : (p : Params) (way : Way) (coded : List (Coded Style Mb Picture)) (n : ℕ)
    (has : HasPackets p way.packets coded) → IsAmongLast way (length coded) n
    → kept_of (kept_in way) has.pictures n ≡ call.packets_at (encoding p) (rules_of p) coded n
kept_is p way coded n has among = kept_in_ring p way.packets coded n has among.0 among.1

-- a picture has as many packets as slices
pub count_is : (p : Params) (coded : List (Coded Style Mb Picture)) (n : ℕ)
    → ((number sequence : ℕ) (h : Header Style) (slices : List (Slice Mb))
    → length ((encoding p).packets number sequence h slices) ≡ length slices)
    → length (call.packets_at (encoding p) (rules_of p) coded n) ≡ length (slices_at coded n)
unfolding call.packets_at slices_at
count_is p coded n count = by_slot (slice_get coded n)
  where
    by_slot : (o : Option (Coded Style Mb Picture))
        → length (option_map_or (λ (x : Coded Style Mb Picture). (encoding p).packets n
        (call.packets_before (take n coded)) (call.header_of (rules_of p) n x) x.slices) o [])
        ≡ length (option_map_or (λ (x : Coded Style Mb Picture). x.slices) o [])
    by_slot None = refl
    by_slot (Some x) = count n (call.packets_before (take n coded)) (call.header_of (rules_of p) n x) x.slices

-- ---- messages

-- message k, by its picture and bytes
pub told_at : (pairs : List (ℕ × Said)) (k : ℕ) (x : ℕ × Said) → slice_get pairs k ≡ Some x
    → slice_get (map told_in pairs) k ≡ Some (told_in x)
told_at [] k x is = absurd (cc is)
told_at (y ∷ pairs) zero x is = ap (option_map told_in) is
told_at (y ∷ pairs) (suc k) x is = told_at pairs k x is

-- the pictures that the messages are about
pub abouts_are : (pairs : List (ℕ × Said)) → map (λ (told : SaidMessage). told.about) (map told_in pairs)
    ≡ map about_of pairs
abouts_are [] = refl
abouts_are (x ∷ pairs) = ap (λ (l : List ℕ). x.0 ∷ l) (abouts_are pairs)

pub about_at : (pairs : List (ℕ × Said)) (k : ℕ) (x : ℕ × Said) → slice_get pairs k ≡ Some x
    → slice_get (map about_of pairs) k ≡ Some x.0
about_at [] k x is = absurd (cc is)
about_at (y ∷ pairs) zero x is = ap (option_map about_of) is
about_at (y ∷ pairs) (suc k) x is = about_at pairs k x is
