-- A sender before its first picture, from its start and after a restart.
use Rattle.std.proofs.Common.{All, ◌≡◌, ℕ, ◌+◌, ◌≤◌, false, refl, sym, subst, arith, List, [], length}
use Rattle.h263_types.specs.Params.{IsParams}
use Rattle.h263_planes.specs.Picture.{Picture}
use Rattle.packet_cutter.specs.Cutting.{cut_format, limit_of, cutter_packets}
use Rattle.picture_store.specs.Pictures.{picture_in, slots_of}
use Rattle.reference_selector.specs.Stands.{SelectorStands}
use Rattle.call_model.specs.SenderStanding.{NewSenderStands}
use Rattle.call_model.specs.Stands.{Sender}
use Rattle.call_model.specs.Steering.{NewHolds, nothing_done}
use Rattle.call_decoding.specs.Rules.{rules_of}
use Rattle.call_decoding.specs.Samples.{pictures}
use Rattle.call_encoding.specs.Encoding.{encoding}
use Rattle.sender_end.specs.declared.sender.Sender.TheInside.{Inside}
use Rattle.sender_end.specs.Parts.{IsReady}
use Rattle.sender_end.specs.Stands.{Holds, IsSeen, PacedStands}
use Rattle.sender_end.specs.State.{SenderState}
use Rattle.sender_end.proofs.Keeping.{own_numbers}

-- nothing was coded, no packet is there, and the selector knows of nothing
pub record IsNew {P : Type 0} (state : SenderState P) : Type 0 where
  pub sent : 0 ≡ state.sent
  pub since : state.since ≡ 0
  pub sequence : state.sequence ≡ 0
  pub packets : state.packets ≡ []
  pub sizes : state.sizes ≡ []
  pub selects : SelectorStands (rules_of state.params) state.selector state.sent (λ m. 0) (λ m. false)

module _ {P : Type 0} (state : SenderState P) (new : IsNew state) where
  -- as `call_model` sees it
  abbrev unsent : Sender Picture
  unsent = record {
    sent = 0;
    sequence = state.sequence;
    packets = state.packets;
    sizes = state.sizes;
    picture = λ rest. picture_in state.store rest;
    depth = λ rest. 0;
    known = λ rest. false;
  }

  seen_new : IsSeen state unsent
  seen_new = record {
    sent = new.sent;
    sequence = refl;
    packets = refl;
    sizes = refl;
    picture = λ rest below. refl;
    selects = new.selects;
  }

  pub stands_new : (pace : List ℕ → ℕ) → NewSenderStands (pictures state.params.format) (encoding state.params)
      (rules_of state.params) → PacedStands pace state []
  stands_new pace stands = record {
    s = unsent;
    seen = seen_new;
    since = new.since;
    stands = stands pace unsent refl new.sequence new.packets new.sizes;
  }

  pub holds_new : NewHolds (pictures state.params.format) (encoding state.params) (rules_of state.params)
      → Holds state nothing_done
  holds_new holds = record {
    s = unsent;
    seen = seen_new;
    since = new.since;
    holds = holds unsent refl new.sequence new.packets new.sizes;
  }

-- its parts fit each other, if its cutter and its store do
pub ready_new : {P : Type 0} (s : Inside P) → 0 ≡ s.sent → IsParams s.params → cut_format s.cutter ≡ s.params.format
    → limit_of s.cutter ≡ s.params.limit
    → cutter_packets s.cutter ≡ [] → s.store.store.format ≡ s.params.format → slots_of s.store.store ≡ s.params.slots
    → length s.store.store.pictures ≡ s.params.slots + 1
    → SelectorStands (rules_of s.params) s.selector s.sent (λ m. 0) (λ m. false) → IsReady s
ready_new s none params cutter_format cutter_limit packets store_format slots works selects = record {
  params = params;
  cutter_format = cutter_format;
  cutter_limit = cutter_limit;
  store_format = store_format;
  slots = slots;
  works = works;
  kept = λ m below last. absurd (omega (arith, below, none));
  selects = own_numbers (rules_of s.params) s.selector s.sent (λ m. 0) (λ m. false) selects;
  few = omega (arith, none);
  small =
      subst (λ (l : List (List ℕ)). All (λ packet. length packet ≤ s.params.limit) l) (sym packets)
      (λ k d below. absurd (omega (arith, below)));
}

-- ---- neither the pace nor what was forgotten matters to these

pub ready_as : {P : Type 0} (s : Inside P) (pace : P) (since : ℕ) → IsReady s
    → IsReady (record s { pace = pace; since = since })
ready_as s pace since ready = record {
  params = ready.params;
  cutter_format = ready.cutter_format;
  cutter_limit = ready.cutter_limit;
  store_format = ready.store_format;
  slots = ready.slots;
  works = ready.works;
  kept = ready.kept;
  selects = ready.selects;
  few = ready.few;
  small = ready.small;
}

pub seen_as : {P : Type 0} (state : SenderState P) (pace : P) (since : ℕ) (s : Sender Picture) → IsSeen state s
    → IsSeen (record state { pace = pace; since = since }) s
seen_as state pace since s seen = record {
  sent = seen.sent;
  sequence = seen.sequence;
  packets = seen.packets;
  sizes = seen.sizes;
  picture = seen.picture;
  selects = seen.selects;
}
