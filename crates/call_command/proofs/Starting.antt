-- Before the first event.
use Rattle.std.proofs.Common.{◌≡◌, ℕ, List, [], sym}
use Rattle.h263_outside.specs.declared.desk.Role.{Role}
use Rattle.h263_types.specs.declared.format.Format.{Format}
use Rattle.h263_types.specs.declared.params.Params.{Params}
use Rattle.h263_types.specs.Params.{IsParams}
use Rattle.call_model.specs.Receiving.{ReceiverEntry}
use Rattle.sender_end.specs.Stands as sender_end
use Rattle.receiver_end.specs.State as receiver_end
use Rattle.one_way.specs.Both.{steady}
use Rattle.one_way.specs.Laws.{WayLaws}
use Rattle.call_command.specs.Call.{call_at_start}
use Rattle.call_command.specs.Standing.{IsFreshLink, CallParts, PartsStand, pictures_kept}

-- parameters stay in their ranges in another format
pub in_format : (p : Params) (f : Format) → IsParams p → IsParams (record p { format = f })
in_format p f is = record {
  quant_low = is.quant_low;
  quant_high = is.quant_high;
  keep_low = is.keep_low;
  keep_high = is.keep_high;
  radius = is.radius;
  limit_low = is.limit_low;
  limit_high = is.limit_high;
  slots_low = is.slots_low;
  slots_high = is.slots_high;
  lead = is.lead;
  messages_low = is.messages_low;
  messages_high = is.messages_high;
}

module _ (x : CallParts) (fresh : IsFreshLink x.terms x.link) (laws : WayLaws x.terms.params)
    (sender_params : x.sender.params
    ≡ x.terms.params) (sends : sender_end.PacedStands (steady x.terms.params) x.sender []) (sent : x.sender.sent
    ≡ 0) (more : x.video.more ≡ 1048576) where
  pub stands_first : (before : List ReceiverEntry) (at : ℕ) (inputs : Role → List ℕ) → x.video.at ≡ at
      → x.receiver.params ≡ x.terms.params
      → receiver_end.Stands x.receiver before → (receiver_end.run_of x.terms.params before).played ≡ 0
      → PartsStand x (call_at_start x.terms before at) inputs
  stands_first before at inputs place receiver_params receives begun = record {
    is = λ i. record {
      params = x.terms.params;
      plain = x.terms.plain;
      before = before;
      frames = [];
      past = [];
      at = sym place i;
      more = sym more i;
      lines = sym fresh.lines i;
      ended = sym fresh.ended i;
    };
    begun = begun;
    sent = sent;
    over = λ ended. absurd (cc (fresh.ended, ended));
    holds = λ later. laws.first (pictures_kept x.terms) x.link.network x.sender x.receiver before later fresh.network_is
        sender_params sends receiver_params receives;
  }
