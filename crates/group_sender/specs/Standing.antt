-- What a place of the group keeps of its receiver.
use Rattle.std.specs.Prelude.{◌≡◌, ℕ, ◌<◌, ◌≤◌, Bool, true, List, length, slice_index_or}
use Rattle.call_model.specs.Coding.{Rules}
use Rattle.call_model.specs.CodedPictures.{is_among}
use Rattle.reference_selector.specs.Stands.{SelectorStands}
use Rattle.group_sender.specs.declared.member.Member.{Member}
use Rattle.group_sender.specs.Parties.{Party, party_at}

-- where this many pictures were coded, it stands for this receiver
pub record MemberStands (rules : Rules) (member : Member) (sent : ℕ) (party : Party) : Type 0 where
  pub present : member.present ≡ party.present
  pub since : member.since ≡ party.since
  -- what was ever said from this place: each number that was called complete was sent
  pub said : ℕ → Bool
  pub selects : SelectorStands rules member.selector sent (λ m. 0) said
  pub were_sent : (m : ℕ) → said m ≡ true → m < sent
  -- of what was coded since the receiver joined, it is what the receiver said
  pub same : (m : ℕ) → party.since ≤ m → said m ≡ is_among party.told m

-- the places stand for the receivers, one for one
pub record MembersStand (rules : Rules) (members : List Member) (sent : ℕ) (parties : List Party) : Type 0 where
  pub count : length members ≡ length parties
  pub each : (k : ℕ) (other : Member) → k < length members
      → MemberStands rules (slice_index_or members k other) sent (party_at parties k)
