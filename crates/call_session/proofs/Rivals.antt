-- Whether a packet comes beside a live stream.
use Rattle.std.proofs.Common.{◌≡◌, Bool, ap, sym, ◌∙◌}
use Rattle.stream_choice.specs.declared.streams.Streams.{Streams}
use Rattle.stream_choice.specs.declared.streams.Taker.{Taker}
use Rattle.stream_choice.specs.Choice.{is_live_one}
use Rattle.call_session.specs.declared.rules.Rules.{Rules}
use Rattle.call_session.specs.Sessions.{SessionState, is_beside, is_rival}
use Rattle.call_session.specs.Ruled.{StateStands}

-- by what is kept it does as by what came
pub same : (r : Rules) (taker : Taker) (st : SessionState) (live beside : Bool) → StateStands r st
    → live ≡ is_live_one r.following.streams.followed r.time → beside ≡ is_beside taker live
    → is_rival taker st ≡ beside
same r taker st live beside s l b =
    sym (b ∙ ap (is_beside taker) (l
    ∙ ap (λ (x : Streams). is_live_one x.followed r.time) s.follows.streams
    ∙ ap (is_live_one st.follows.streams.followed) s.time))
