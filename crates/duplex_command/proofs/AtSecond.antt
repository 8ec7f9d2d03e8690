-- What a desk has of a call on it with both parties exchanged.
use Rattle.std.proofs.Common.{◌≡◌, ◌≢◌, ℕ, List, Result, OnErr, OnOk, Ok, Err, refl, sym, ap, ◌∙◌, subst}
use Rattle.h263_outside.specs.Desk.{OnlyReads, OnlyWrites, Outside, exchanged, exchanged_outside}
use Rattle.h263_outside.specs.Gains.{Front, gained}
use Rattle.h263_outside.specs.declared.desk.Role.{Role}
use Rattle.h263_outside.specs.declared.desk.Role.TheVariants.{Video, Events, Pictures, Wire, Report, Video2, Pictures2}
use Rattle.call_report.specs.declared.status.Status.{Status}
use Rattle.desk_program.specs.Ends.{Gains, GainsFronts}
use Rattle.desk_program.specs.Texts.{on}
use Rattle.duplex_command.proofs.Exchanging.{loans_below, twice, unexchanged}

-- a text on the first party's pictures is one on the second's
on_second : (text : List ℕ) (r : Role) → on Pictures text (exchanged r) ≡ on Pictures2 text r
on_second text Video = refl
on_second text Events = refl
on_second text Pictures = refl
on_second text Wire = refl
on_second text Report = refl
on_second text Video2 = refl
on_second text Pictures2 = refl

module _ (a b : ℕ) (old new : Outside) where
  pub reads_at_second : OnlyReads (exchanged_outside a old) (exchanged_outside b new) → OnlyReads old new
  reads_at_second kept = record {
    attached = unexchanged new.attached old.attached kept.attached;
    name = unexchanged new.name old.name kept.name;
    written = unexchanged new.written old.written kept.written;
    faults = kept.faults;
    flushed = kept.flushed;
    loans = ap loans_below kept.loans;
  }

  pub writes_at_second : OnlyWrites (exchanged_outside a old) (exchanged_outside b new) → OnlyWrites old new
  writes_at_second kept = record {
    attached = unexchanged new.attached old.attached kept.attached;
    name = unexchanged new.name old.name kept.name;
    left = unexchanged new.left old.left kept.left;
    faults = kept.faults;
    loans = ap loans_below kept.loans;
  }

  -- what is left of all inputs but the second video
  pub others_at_second : ((r : Role) → r ≢ Video → (exchanged_outside b new).left r ≡ (exchanged_outside a old).left r)
      → (r : Role) → r ≢ Video2 → new.left r ≡ old.left r
  others_at_second same r other = subst (λ (q : Role). new.left q ≡ old.left q) (twice r)
      (same (exchanged r) (λ is. other (sym (twice r) ∙ ap exchanged is)))

  gains : (text : List ℕ) → Gains (on Pictures text) (exchanged_outside a old).written (exchanged_outside b new).written
      → Gains (on Pictures2 text) old.written new.written
  gains text gained_so = λ r. subst (λ (t : List ℕ). new.written r ≡ gained (old.written r) t) (on_second text r)
      (subst (λ (q : Role). new.written q ≡ gained (old.written q) (on Pictures text (exchanged r))) (twice r)
      (gained_so (exchanged r)))

  fronts : (text : List ℕ)
      → GainsFronts (on Pictures text) (exchanged_outside a old).written (exchanged_outside b new).written
      → GainsFronts (on Pictures2 text) old.written new.written
  fronts text so = λ r. subst (λ (t : List ℕ). Front t (old.written r) (new.written r)) (on_second text r)
      (subst (λ (q : Role). Front (on Pictures text (exchanged r)) (old.written q) (new.written q)) (twice r)
      (so (exchanged r)))

  pub gains_at_second : {T : Type 0} (r : Result T Status) (text : List ℕ)
      → OnOk r (Gains (on Pictures text) (exchanged_outside a old).written (exchanged_outside b new).written)
      → OnOk r (Gains (on Pictures2 text) old.written new.written)
  gains_at_second (Ok x) text so = gains text so
  gains_at_second (Err x) text so = so

  pub fronts_at_second : {T : Type 0} (r : Result T Status) (text : List ℕ)
      → OnErr r (GainsFronts (on Pictures text) (exchanged_outside a old).written (exchanged_outside b new).written)
      → OnErr r (GainsFronts (on Pictures2 text) old.written new.written)
  fronts_at_second (Ok x) text so = so
  fronts_at_second (Err x) text so = fronts text so
