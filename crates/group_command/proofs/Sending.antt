-- A frame that is asked for is sent to all.
use Rattle.std.proofs.Common.{◌≡◌, ℕ, ◌+◌, ◌-◌, List, [], ◌∷◌, ◌++◌, length, drop, Option, Some, None, refl, sym, ap, subst, ◌∙◌, arith, Global}
use Rattle.std.specs.declared.vec.Vec.{Vec}
use Rattle.std.specs.Vec.{with_items}
use Rattle.std.proofs.lemmas.List.{with_items_is}
use Rattle.h263_types.specs.declared.params.Params.{Params}
use Rattle.h263_planes.specs.Layout.{picture_of}
use Rattle.h263_planes.specs.Picture.{Picture}
use Rattle.h263_outside.specs.Desk.{Outside}
use Rattle.h263_outside.specs.declared.desk.Role.{Role}
use Rattle.h263_outside.specs.declared.desk.Role.TheVariants.{Video, Events}
use Rattle.y4m.specs.Frame.{frame_size}
use Rattle.call_model.specs.IdealCall.{Send}
use Rattle.call_model.specs.Refusals.{Refusal}
use Rattle.call_command.specs.Call.{line_size}
use Rattle.desk_program.specs.Run.{left_after}
use Rattle.desk_program.specs.Texts.{and_of, of}
use Rattle.one_way.specs.Both.{bare, steady}
use Rattle.group_sender.specs.Holding.{Groups, group_after_code}
use Rattle.group_call.specs.declared.viewer.Viewer.{Viewer}
use Rattle.group_call.specs.Holding.{HoldsBroadcast}
use Rattle.group_call.specs.Refused.{view_refusal}
use Rattle.group_call.specs.Viewing.{ViewerRun}
use Rattle.group_command.specs.declared.room.Room.{Room}
use Rattle.group_command.specs.Group.{GroupState, after_group_line, first_behind, or_refused, with_group_frame}
use Rattle.group_command.specs.Standing.{AllWatch, RoomStands, viewers_in}
use Rattle.group_command.specs.Turning.{IsGroupAsked}
use Rattle.group_command.proofs.Doing.{may_capture}

-- where no receiver is too far behind, none is so after one picture more
or_none_first : (a b : Option Refusal) → or_refused a b ≡ None → a ≡ None
or_none_first None b is = refl
or_none_first (Some r) b is = absurd (cc is)

or_none_second : (a b : Option Refusal) → or_refused a b ≡ None → b ≡ None
or_none_second None b is = is
or_none_second (Some r) b is = absurd (cc is)

longer : {X : Type 0} (xs ys : List X) (x : X) → ys ≡ xs ++ x ∷ [] → length ys ≡ length xs + 1
longer [] ys x is = ap (λ l. length l) is
longer (y ∷ xs) ys x is = omega (arith, ap (λ l. length l) is, longer xs (xs ++ x ∷ []) x refl)

pub watch_sent : (p : Params) (run later : Groups) (viewers : List Viewer) (views : List ViewerRun)
    → length later.coded ≡ length run.coded + 1 → first_behind p run views ≡ None → AllWatch p run viewers views
    → AllWatch p later viewers views
watch_sent p run later [] [] more none w = tt
watch_sent p run later (viewer ∷ viewers) (view ∷ views) more none w = (
  record {
    holds = w.0.holds;
    near = omega (
      arith,
      more,
      may_capture p run view (or_none_first (view_refusal p run view Send) (first_behind p run views) none),
    );
  },
  watch_sent p run later viewers views more (or_none_second (view_refusal p run view Send) (first_behind p run views)
      none) w.1,
)
watch_sent p run later [] (view ∷ views) more none w = absurd w
watch_sent p run later (viewer ∷ viewers) [] more none w = absurd w

-- ---- after the line that asks for it

module _ (m : Room) (line : ℕ) (now old : Outside) (s : GroupState) (inputs : Role
    → List ℕ) (b : IsGroupAsked m line now old s inputs) where
  pub asked_more : s.more ≡ m.video.more
  asked_more = b.read.stood.more

  pub asked_place : s.at ≡ m.video.at
  asked_place = b.read.stood.place

  pub asked_format : m.video.format ≡ m.params.format → m.video.format ≡ s.params.format
  asked_format is = is ∙ ap (λ (p : Params). p.format) (sym b.read.stood.params)

  abbrev size : ℕ
  size = frame_size s.params.format (inputs Video)

  less : (a b : ℕ) → a + 1 ≡ b → b - 1 ≡ a
  less a b is = omega (arith, is)

  nothing_more : (n : ℕ) → n + 0 ≡ n
  nothing_more n = omega arith

  -- the machine stands where the frame was sent
  pub sent_stands : (m_new : Room) (out : List ℕ) (shown : Picture) → m_new.params ≡ m.params → m_new.trace ≡ m.trace
      → m_new.viewers ≡ m.viewers
      → m_new.video.at ≡ s.at + size → m_new.video.more + 1 ≡ m.video.more → shown ≡ picture_of s.params.format out
      → HoldsBroadcast s.params m_new.cast (group_after_code s.params (steady s.params) (bare shown) s.run)
      → RoomStands m_new (after_group_line (with_group_frame s size out) (inputs Events))
      (left_after inputs (and_of (of Events (line_size (inputs Events))) (of Video size)) Events)
  sent_stands m_new out shown params trace viewers at fewer shown_is holds =
      let stood = b.read.stood in
      let run = s.run in
      let later : Groups = group_after_code s.params (steady s.params) (bare (picture_of s.params.format out)) run in
      record {
        params = stood.params ∙ sym params;
        place = sym at;
        more = less m_new.video.more s.more (fewer ∙ sym asked_more);
        lines = stood.lines ∙ ap (λ t. t.lines) (sym trace);
        ended = stood.ended ∙ ap (λ t. t.ended) (sym trace);
        over = λ ended. ap (λ (n : ℕ). drop n (inputs Events)) (nothing_more (line_size (inputs Events)))
            ∙ stood.over (ap (λ t. t.ended) (sym trace) ∙ ended);
        cast = subst (λ (q : Picture). HoldsBroadcast s.params m_new.cast (group_after_code s.params (steady s.params)
            (bare q) run)) shown_is holds;
        views = subst (λ v. AllWatch s.params later (viewers_in v) s.views) (sym viewers)
            (watch_sent s.params run later (viewers_in m.viewers) s.views (longer run.coded later.coded _ refl) b.none
            stood.views);
      }

-- a buffer that was lent whole holds what was put there
pub lent : (v : Vec ℕ Global) (l got : List ℕ) (n : ℕ) → got ≡ (with_items v l).items → length l ≡ n → n ≡ v.len
    → got ≡ l
lent v l got n is long whole = is ∙ with_items_is v l (omega (arith, long, whole, v.ok.0))
