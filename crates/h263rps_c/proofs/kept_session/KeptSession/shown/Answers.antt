use Rattle.std.proofs.Common.{◌≡◌, List, length, ap, ◌∙◌}
use Rattle.h263_types.specs.Sizes.{size_of_picture}
use Rattle.h263_planes.specs.Lent.{picture}
use Rattle.h263_planes.specs.Picture.{Picture}
use Rattle.h263_planes.specs.Samples.{bytes_of}
use Rattle.session_intake.specs.declared.settings.Settings.{Settings}
use Rattle.call_session.specs.Sessions.{SessionEntry}
use Rattle.h263rps_c.specs.Sessions.{screen_after}
use Rattle.h263rps_c.proofs.Held.{by_settings, same}
use Rattle.h263rps_c.proofs.kept_session.KeptSession.shown.Goals as goal

pub returns : goal.returns
returns c = λ s past held.
    let x = c.self.inside.session in let h = same x c.args.self.now s past c.self.view_is held in
    let is : picture c.shown.result
    ≡ screen_after s past = by_settings (λ (s : Settings) (past : List SessionEntry). picture c.shown.result
    ≡ screen_after s past) x s past c.shown.ensures.run h in (
      c.bytes.ensures ∙ ap bytes_of is,
      ap length c.bytes.ensures ∙ c.planes_are_bytes.ensures.size (picture c.shown.result) c.shown.ensures.whole.whole
          ∙ ap (λ (p : Picture). size_of_picture p.format) is,
    )
