-- What a sender has done by its entries, and what its quantisers follow.
use Rattle.std.specs.Prelude.{◌≡◌, ℕ, ◌*◌, ◌==◌, List, [], ◌∷◌, min, Option, Some, None, if◌then◌else◌}
use Rattle.h263_types.specs.declared.format.Format.{Format}
use Rattle.h263_types.specs.declared.Kind.{Kind}
use Rattle.h263_types.specs.declared.Kind.TheVariants.{I, P}
use Rattle.h263_types.specs.declared.params.Params.{Params}
use Rattle.h263_types.specs.declared.blocks.Mb.{Mb}
use Rattle.h263_planes.specs.Picture.{Picture}
use Rattle.call_model.specs.CodedPictures.{Coded}
use Rattle.call_model.specs.Sending.{SenderEntry, Capture, Feedback, bytes_together}
use Rattle.call_model.specs.Steering.{nothing_done}
use Rattle.call_decoding.specs.Styles.{Style}
use Rattle.call_encoding.specs.Frames.{Frame}
use Rattle.rate_control.specs.Pace.{pace_of, quant_after_sizes}
use Rattle.picture_pace.specs.declared.fit.FitPace.{FitPace}
use Rattle.picture_pace.specs.Fitting.{after_coded, fitting_quant, pace_at_start, redirected}
use Rattle.sender_end.specs.Known.{known_in}
use Rattle.sender_end.specs.Stands.{SentRun, after_code, after_message, next_in, packets_after, entries_run}
use Rattle.fitted_sender.specs.declared.aim.Aim.{Aim}

-- ---- what the quantisers follow

-- a pace that fits has room for so many times its target
abbrev pub room_for_target : ℕ → ℕ
room_for_target target = 30 * target

abbrev pub fit_at_start : Format → Option ℕ → Option FitPace
fit_at_start f None = None
fit_at_start f (Some target) = Some (pace_at_start f target (room_for_target target))

-- before the first picture
abbrev pub first_aim : Params → Option ℕ → Option ℕ → Aim
first_aim p target fit = record { quant = p.quant; target = target; fit = fit_at_start p.format fit }

-- one quantiser for all pictures
abbrev pub fixed : ℕ → Aim
fixed quant = record { quant = quant; target = None; fit = None }

-- a pace keeps what it was told where it gets another target
abbrev pub aimed_at : Format → ℕ → Option FitPace → FitPace
aimed_at f target None = pace_at_start f target (room_for_target target)
aimed_at f target (Some pace) = redirected target (room_for_target target) pace

abbrev pub fit_at : Format → Option ℕ → Option FitPace → Option FitPace
fit_at f None fit = None
fit_at f (Some target) fit = Some (aimed_at f target fit)

-- with another target to fit, or none
abbrev pub refitted : Params → Option ℕ → Aim → Aim
refitted p target a = record { quant = p.quant; target = None; fit = fit_at p.format target a.fit }

-- The next picture is predicted where the sender knows one that it may refer to.
abbrev pub kind_by : ℕ → Kind
kind_by known = if known == 0 then I else P

-- a pace that fits gives each picture its quantiser, whatever the target
abbrev pub target_by : Option ℕ → Option FitPace → Option ℕ
target_by target None = target
target_by target (Some pace) = None

abbrev pub first_by : ℕ → Kind → Option FitPace → ℕ
first_by quant kind None = quant
first_by quant kind (Some pace) = fitting_quant kind pace

-- the bytes of a picture, as they are counted
abbrev pub counted_bytes : List (List ℕ) → ℕ
counted_bytes packets = min (bytes_together packets) 4294967295

-- it is told of each picture
abbrev pub fit_after : Kind → ℕ → Option FitPace → Option FitPace
fit_after kind bytes None = None
fit_after kind bytes (Some pace) = Some (after_coded kind (fitting_quant kind pace) bytes pace)

abbrev pub aim_after : Kind → ℕ → Aim → Aim
aim_after kind bytes a = record a { fit = fit_after kind bytes a.fit }

-- ---- what was done

-- what it has done, and what its next quantiser follows
pub record Sent : Type 0 where
  pub run : SentRun
  pub aim : Aim

module _ (p : Params) where
  abbrev pub next_kind : SentRun → Kind
  next_kind run = kind_by (known_in p run)

  -- the quantiser after pictures of these sizes
  abbrev pub pace_by : Sent → List ℕ → ℕ
  pace_by s =
      quant_after_sizes (target_by s.aim.target s.aim.fit) (first_by s.aim.quant (next_kind s.run) s.aim.fit)

  -- the next picture, of this frame
  abbrev pub next_sent : Frame → Sent → Coded Style Mb Picture
  next_sent frame s = next_in p (pace_by s) frame s.run

  -- it is captured
  abbrev pub after_sent : Frame → Sent → Sent
  after_sent frame s =
      let run = after_code p (pace_by s) frame s.run in
      record { run = run; aim = aim_after (next_kind s.run) (counted_bytes (packets_after p run)) s.aim }

  -- the bytes of a message come back
  abbrev pub sent_after_heard : List ℕ → Sent → Sent
  sent_after_heard bytes s = record { run = after_message p bytes s.run; aim = s.aim }

  -- after these entries, the newest first
  abbrev pub sent_by : Aim → List (SenderEntry Frame) → Sent
  sent_by aim [] = record { run = nothing_done; aim = aim }
  sent_by aim (Capture frame ∷ past) = after_sent frame (sent_by aim past)
  sent_by aim (Feedback bytes ∷ past) = sent_after_heard bytes (sent_by aim past)

-- ---- without a pace that fits

-- the parameters' quantiser for each picture, or a target with it as the first
abbrev pub plain_aim : Params → Option ℕ → Aim
plain_aim p target = record { quant = p.quant; target = target; fit = None }

-- its run is that of the entries, with one target for all
abbrev pub PlainIsSenderRun : Type 0
PlainIsSenderRun = (p : Params) (target : Option ℕ) (entries : List (SenderEntry Frame)) →
    sent_by p (plain_aim p target) entries
    ≡ record { run = record { run = entries_run p (pace_of target p) entries; since = 0 }; aim = plain_aim p target }
