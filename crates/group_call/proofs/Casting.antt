-- The pictures of a group as its sender keeps them.
use Rattle.std.proofs.Common.{◌≡◌, ℕ, ◌+◌, ◌-◌, ◌*◌, ◌<◌, ◌≤◌, List, [], ◌∷◌, ◌++◌, length, Option, Some, refl, sym, ap, subst, ◌∙◌, arith}
use Rattle.std.specs.Prelude.{slice_get, take}
use Rattle.std.specs.Option.{option_map_or}
use Rattle.std.proofs.lemmas.List.{length-append}
use Rattle.h263_types.specs.declared.blocks.Mb.{Mb}
use Rattle.h263_types.specs.declared.pace.FixedPace.{FixedPace}
use Rattle.h263_types.specs.declared.params.Params.{Params}
use Rattle.h263_types.specs.Sizes.{mbs_of}
use Rattle.h263_planes.specs.Picture.{Picture}
use Rattle.call_model.specs.CodedPictures.{Coded}
use Rattle.call_model.specs.Sending.{header_of, packets_before, packets_at}
use Rattle.call_decoding.specs.Rules.{rules_of}
use Rattle.call_decoding.specs.Styles.{Style}
use Rattle.call_encoding.specs.Encoding.{encoding}
use Rattle.call_encoding.specs.Frames.{Frame}
use Rattle.call_rings.specs.Parts.{total_size}
use Rattle.sender_end.specs.Stands.{Holds}
use Rattle.sender_end.specs.State.{SenderState}
use Rattle.one_way.specs.Laws.{PacketLaws}
use Rattle.group_sender.specs.Holding.{Groups, next_of_group, pictures_alone}
use Rattle.group_call.specs.Viewing.{coded_packets}

-- the pace of one quantiser
abbrev pub paced : ℕ → List ℕ → ℕ
paced quant sizes = quant

-- a list with one more at its end
pub one_longer : {X : Type 0} (xs : List X) (x : X) → length (xs ++ x ∷ []) ≡ length xs + 1
one_longer xs x = length-append xs (x ∷ [])

get_last : {X : Type 0} (xs : List X) (x : X) → slice_get (xs ++ x ∷ []) (length xs) ≡ Some x
get_last [] x = refl
get_last (y ∷ xs) x = get_last xs x

-- the sender has the packets of its last picture, and has coded what the run has
pub last_packets : (p : Params) (state : SenderState FixedPace) (run : Groups) → state.params ≡ p
    → Holds state (pictures_alone run)
    → state.packets ≡ coded_packets p run.coded (length run.coded - 1)
last_packets p state run same h =
    sym h.seen.packets ∙ h.holds.keeps.packets
    ∙ ap (λ (q : Params). coded_packets q run.coded (length run.coded - 1)) same

pub sent_is : (state : SenderState FixedPace) (run : Groups) → Holds state (pictures_alone run)
    → state.sent ≡ length run.coded
sent_is state run h = sym h.seen.sent ∙ h.holds.keeps.sent

-- the run with the next picture
abbrev pub with_next : Params → ℕ → Frame → Groups → List (Coded Style Mb Picture)
with_next p quant frame run = run.coded ++ next_of_group p (paced quant) frame run ∷ []

-- the sender has the packets of the picture that it coded last
pub newest_packets : (p : Params) (quant : ℕ) (frame : Frame) (run : Groups) (state : SenderState FixedPace)
    → state.params ≡ p
    → Holds state (pictures_alone (record run { coded = with_next p quant frame run }))
    → state.packets ≡ coded_packets p (with_next p quant frame run) (length run.coded)
newest_packets p quant frame run state same h =
    let number : length (with_next p quant frame run) - 1
    ≡ length run.coded = omega (arith, one_longer run.coded (next_of_group p (paced quant) frame run)) in
    last_packets p state (record run { coded = with_next p quant frame run }) same h
    ∙ ap (λ (n : ℕ). coded_packets p (with_next p quant frame run) n) number

-- they have room in the ring
pub newest_room : (p : Params) → PacketLaws p → (quant : ℕ) (frame : Frame) (run : Groups) → (0 < quant) × (quant < 32)
    → (total_size (coded_packets p (with_next p quant frame run) (length run.coded)) ≤ 1200 * mbs_of p.format)
    × (length (coded_packets p (with_next p quant frame run) (length run.coded)) ≤ mbs_of p.format)
unfolding packets_at
newest_room p laws quant frame run ranged =
    let x = next_of_group p (paced quant) frame run in
    let n = length run.coded in
    subst (λ (o : Option (Coded Style Mb Picture)).
    (total_size (option_map_or (λ (y : Coded Style Mb Picture). (encoding p).packets n
    (packets_before (take n (run.coded ++ x ∷ []))) (header_of (rules_of p) n y) y.slices) o []) ≤ 1200 * mbs_of
    p.format)
    × (length (option_map_or (λ (y : Coded Style Mb Picture). (encoding p).packets n
    (packets_before (take n (run.coded ++ x ∷ []))) (header_of (rules_of p) n y) y.slices) o []) ≤ mbs_of p.format))
    (sym (get_last run.coded x))
    (laws.captured quant frame run.coded _ n (packets_before (take n (run.coded ++ x ∷ []))) ranged)
