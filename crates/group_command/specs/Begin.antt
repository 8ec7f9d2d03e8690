-- A group's call before its first line.
use Rattle.std.specs.Prelude.{◌≡◌, ℕ, false, length, replicate}
use Rattle.h263_types.specs.Clocks.{period_of}
use Rattle.h263_types.specs.declared.params.Params.{Params}
use Rattle.h263_types.specs.Sizes.{size_of_picture}
use Rattle.y4m.specs.Place.{Y4mPlace}
use Rattle.group_call.specs.Holding.{HoldsBroadcast, IsCasting, params_in, cast_period, sent_in}
use Rattle.group_call.specs.Viewing.{no_view}
use Rattle.group_command.specs.declared.room.Room.{Room}
use Rattle.group_command.specs.Group.{after_joins}
use Rattle.group_command.specs.Standing.{AllWatch, AreViewing, viewers_in}

-- with these parameters and so many receivers, after the head of this video
pub record IsNewRoom (p : Params) (receivers : ℕ) (video : Y4mPlace) (m : Room) : Type 0 where
  pub params : m.params ≡ p
  pub video_is : m.video ≡ video
  pub count : length (viewers_in m.viewers) ≡ receivers
  pub params_in_cast : params_in m.cast ≡ p
  pub period : cast_period m.cast ≡ period_of p.clock
  pub sent : sent_in m.cast ≡ 0
  pub casting : IsCasting m.cast
  pub viewing : AreViewing 0 0 m.viewers
  pub cast : HoldsBroadcast p m.cast (after_joins receivers)
  pub views : AllWatch p (after_joins receivers) (viewers_in m.viewers) (replicate receivers no_view)
  pub lines : m.trace.lines ≡ 0
  pub ended : m.trace.ended ≡ false
  pub frame : length m.frame.items ≡ size_of_picture p.format
