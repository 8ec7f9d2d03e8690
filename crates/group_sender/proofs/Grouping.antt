-- What a group holds after a call.
use Rattle.std.proofs.Common.{◌≡◌, ℕ, ◌+◌, ◌++◌, [], Bool, true, false, refl, sym, ap, ◌∙◌, subst, List, Option, Some, None, Ok, set}
use Rattle.std.specs.Prelude.{if◌then◌else◌, nat_le, ◌&&◌}
use Rattle.std.specs.Option.{option_map}
use Rattle.std.specs.Result.{result_ok}
use Rattle.std.proofs.lemmas.List.{set-get_or}
use Rattle.h263_types.specs.declared.clock.Clock.{Clock}
use Rattle.back_messages.specs.declared.message.MessageFault.{MessageFault}
use Rattle.call_model.specs.Coding.{Rules, Message, window}
use Rattle.call_model.specs.CodedPictures.{reference_for}
use Rattle.call_model.specs.Numbers.{greatest}
use Rattle.call_model.specs.Sending.{RefusedMessage, Old, Noted, known_by_feedback}
use Rattle.call_encoding.specs.Messages.{read_message}
use Rattle.sender_end.specs.declared.answers.Feedback.TheVariants as answers
use Rattle.sender_end.specs.Selecting.{within_chain}
use Rattle.sender_end.specs.Stands.{reply_of}
use Rattle.group_sender.specs.declared.member.Member.{Member}
use Rattle.group_sender.specs.Parties.{Party, nobody, party_after_saying, party_at, with_party_at}
use Rattle.group_sender.specs.Standing.{MembersStand}

-- the same places, where as many pictures were coded
pub stand_as : (rules : Rules) (a b : List Member) (m n : ℕ) (parties : List Party) → a ≡ b → m ≡ n
    → MembersStand rules a m parties → MembersStand rules b n parties
stand_as rules a b m n parties same sent stand =
    subst (λ (l : List Member). MembersStand rules l n parties) same
    (subst (λ (k : ℕ). MembersStand rules a k parties) sent stand)

-- the newest picture that all have, unless its chain may not grow, is the reference
pub chosen_is : (rules : Rules) (depth : ℕ → ℕ) (known : ℕ → Bool) (n : ℕ)
    → within_chain rules depth (greatest (λ m. known m && nat_le n (m + window rules)) n)
    ≡ reference_for rules depth known n
unfolding reference_for
chosen_is rules depth known n = refl

-- ---- feedback

-- who says nothing is as before
pub nothing_said : (party : Party) → party_after_saying [] party ≡ party
nothing_said party = go party.present
  where
    go : (b : Bool) → (if b then record party { told = [] ++ party.told } else party) ≡ party
    go true = refl
    go false = refl

pub nothing_changes : (k : ℕ) (parties : List Party)
    → with_party_at k (party_after_saying [] (party_at parties k)) parties ≡ parties
nothing_changes k parties = ap (λ (p : Party). set parties k p) (nothing_said (party_at parties k))
    ∙ set-get_or parties k nobody

-- the places after a message that was read
pub said_in : (rules : Rules) (members : List Member) (sent n : ℕ) (parties : List Party) (k : ℕ) (clock : Clock)
    (bytes : List ℕ) (message : Message)
    → sent ≡ n → read_message clock bytes ≡ Ok message
    → MembersStand rules members sent (with_party_at k (party_after_saying (known_by_feedback rules sent (Some message))
    (party_at parties k)) parties)
    → MembersStand rules members n
    (with_party_at k (party_after_saying (known_by_feedback rules n (result_ok (read_message clock bytes)))
    (party_at parties k)) parties)
said_in rules members sent n parties k clock bytes message same read stand =
    subst (λ (o : Option Message). MembersStand rules members n
    (with_party_at k (party_after_saying (known_by_feedback rules n o) (party_at parties k)) parties))
    (sym (ap result_ok read))
    (subst (λ (i : ℕ). MembersStand rules members i
    (with_party_at k (party_after_saying (known_by_feedback rules i (Some message)) (party_at parties k)) parties))
    same stand)

pub refused_reply : (b : Bool) (fault : MessageFault)
    → option_map reply_of (if b then Some (answers.Refused fault) else None)
    ≡ (if b then Some (RefusedMessage fault) else None)
refused_reply true fault = refl
refused_reply false fault = refl

pub noted_reply : (b : Bool) → reply_of (if b then answers.Noted else answers.Old) ≡ (if b then Noted else Old)
noted_reply true = refl
noted_reply false = refl

-- nobody was there
pub was_absent : (b x : Bool) → None ≡ (if b then Some x else None) → b ≡ false
was_absent true x e = cc
was_absent false x e = refl

-- a receiver was there
pub was_there : (b x y : Bool) → Some y ≡ (if b then Some x else None) → (b ≡ true) × (y ≡ x)
was_there true x y e = let same : y ≡ x = cc in (refl, same)
was_there false x y e = cc
