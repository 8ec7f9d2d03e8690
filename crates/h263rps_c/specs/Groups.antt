-- The groups for which a slot stands: what is done to one, what is told of it, and where it refuses.
use Rattle.std.specs.Prelude.{◌≡◌, ℕ, nat_lt, if◌then◌else◌, List, [], ◌∷◌, Option, Some, None, Result, Ok, Err}
use Rattle.h263_types.specs.declared.params.Params.{Params}
use Rattle.back_messages.specs.declared.message.MessageFault.{MessageFault}
use Rattle.call_model.specs.Sending.{Reply}
use Rattle.call_decoding.specs.Rules.{rules_of}
use Rattle.call_decoding.specs.Samples.{pictures}
use Rattle.call_encoding.specs.Encoding.{encoding}
use Rattle.call_encoding.specs.Frames.{Frame}
use Rattle.sender_end.specs.State.{SenderState}
use Rattle.rate_control.specs.declared.send_pace.SendPace.{SendPace}
use Rattle.rate_control.specs.Pace.{first_quant, quant_after_sizes, target_of}
use Rattle.group_sender.specs.Holding.{Groups, HoldsGroup}
use Rattle.group_sender.specs.declared.member.Member.{Member}
use Rattle.group_sender.specs.Running.{GroupEntry, CaptureAll, FeedbackOf, JoinsAt, LeavesAt, group_run}
use Rattle.h263rps_c.specs.declared.kept_group.KeptGroup.{KeptGroup}
use Rattle.h263rps_c.specs.declared.answers.Reply.{Reply as CReply}
use Rattle.h263rps_c.specs.Ends.{TellsReply}
use Rattle.h263rps_c.specs.declared.refusals.EndRefusal.{EndRefusal}
use Rattle.h263rps_c.specs.declared.refusals.EndRefusal.TheVariants.{NotStarted, Started, BadParams, NoReceiver}
use Rattle.h263rps_c.specs.Pace.{target_if_any}

-- what is done to it: a frame is coded, the bytes of a message of the receiver at a place come back,
-- one joins or leaves, it follows another target or none, or it is told its quantiser
pub data Managing : Type 0 where
  Capture : Frame → Managing
  Feedback : ℕ → List ℕ → Managing
  Join : ℕ → Managing
  Leave : ℕ → Managing
  Target : Option ℕ → Managing
  Quant : ℕ → Managing

-- the target in force after this, of a group that began with the first one; the newest first
abbrev pub group_target : Option ℕ → List Managing → Option ℕ
group_target first [] = first
group_target first (Target target ∷ past) = target
group_target first (Quant quant ∷ past) = None
group_target first (Capture frame ∷ past) = group_target first past
group_target first (Feedback k bytes ∷ past) = group_target first past
group_target first (Join k ∷ past) = group_target first past
group_target first (Leave k ∷ past) = group_target first past

-- the first quantiser in force: that of the parameters, or the one that it was told
abbrev pub group_quant : ℕ → List Managing → ℕ
group_quant quant [] = quant
group_quant quant (Target target ∷ past) = quant
group_quant quant (Quant told ∷ past) = told
group_quant quant (Capture frame ∷ past) = group_quant quant past
group_quant quant (Feedback k bytes ∷ past) = group_quant quant past
group_quant quant (Join k ∷ past) = group_quant quant past
group_quant quant (Leave k ∷ past) = group_quant quant past

-- the pace in force
abbrev pub group_pace : Params → Option ℕ → List Managing → List ℕ → ℕ
group_pace p first past = quant_after_sizes (group_target first past) (group_quant p.quant past)

-- what is done to the group by itself: each picture is coded by the pace that was in force then
abbrev pub done_to_group : Params → Option ℕ → List Managing → List (GroupEntry Frame)
done_to_group p first [] = []
done_to_group p first (Capture frame ∷ past) = CaptureAll (group_pace p first past) frame ∷ done_to_group p first past
done_to_group p first (Feedback k bytes ∷ past) = FeedbackOf k bytes ∷ done_to_group p first past
done_to_group p first (Join k ∷ past) = JoinsAt k ∷ done_to_group p first past
done_to_group p first (Leave k ∷ past) = LeavesAt k ∷ done_to_group p first past
done_to_group p first (Target target ∷ past) = done_to_group p first past
done_to_group p first (Quant quant ∷ past) = done_to_group p first past

-- its pictures and receivers then
abbrev pub group_after : Params → Option ℕ → List Managing → Groups
group_after p first past =
    group_run (pictures p.format) (encoding p) (rules_of p) (done_to_group p first past)

-- a group with these parameters and this first target, after all this, the newest first
pub record Manages (p : Params) (first : ℕ) (past : List Managing) (k : KeptGroup) : Type 0 where
  pub params : k.group.params ≡ p
  pub follows : target_of k.group.sender.pace ≡ group_target (target_if_any first) past
  pub quant : first_quant k.group.sender.pace ≡ group_quant p.quant past
  pub holds : HoldsGroup k.group (group_after p (target_if_any first) past)

-- inside is such a group
abbrev pub HoldsKept : Params → ℕ → List Managing → Option KeptGroup → Type 0
HoldsKept p first past None = ⊥
HoldsKept p first past (Some k) = Manages p first past k

-- the packets of the picture that was coded last
abbrev pub group_packets_in : Option KeptGroup → List (List ℕ)
group_packets_in None = []
group_packets_in (Some k) = k.group.sender.packets

-- what is known of its receivers
abbrev pub known_in_group : Option KeptGroup → List Member
known_in_group None = []
known_in_group (Some k) = k.group.members.items

-- the answer to a message is this one, in numbers
abbrev pub TellsSaid : CReply → Option (Reply MessageFault) → Type 0
TellsSaid answer None = ⊥
TellsSaid answer (Some reply) = TellsReply answer reply

-- the place of a receiver, or the number of a picture; the greatest of 32 bits where there is none
abbrev pub number_or_most : Option ℕ → ℕ
number_or_most None = 4294967295
number_or_most (Some n) = n

-- ---- where it refuses

-- a call of a group, which a group refuses so
abbrev pub for_group : (SenderState SendPace → Option EndRefusal) → Option KeptGroup → Option EndRefusal
for_group refuses None = Some NotStarted
for_group refuses (Some k) = refuses k.group.sender

-- a place that it hasn't
abbrev pub place_refusal : ℕ → SenderState SendPace → Option EndRefusal
place_refusal receiver s = if nat_lt 15 receiver then Some BadParams else None

-- a message of the receiver at a place, which has this answer
abbrev pub answer_refusal : Option (Reply MessageFault) → Option EndRefusal
answer_refusal None = Some NoReceiver
answer_refusal (Some reply) = None

abbrev pub said_refusal : ℕ → Option (Reply MessageFault) → Option EndRefusal
said_refusal receiver answer = if nat_lt 15 receiver then Some BadParams else answer_refusal answer

-- a start with these parameters, if there is memory enough
abbrev pub group_refusal : Option KeptGroup → Result Params ℕ → Option EndRefusal
group_refusal (Some k) p = Some Started
group_refusal None (Err number) = Some BadParams
group_refusal None (Ok p) = None

-- the number of the first parameter that is out of its range is told where that is the refusal
abbrev pub group_fault : Option KeptGroup → Result Params ℕ → ℕ → ℕ
group_fault (Some k) p before = before
group_fault None (Err number) before = number
group_fault None (Ok p) before = before
