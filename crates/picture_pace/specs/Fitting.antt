-- Which quantiser fits the next picture to a target in bytes a picture.
use Rattle.std.specs.Prelude.{ℕ, ◌+◌, ◌-◌, ◌*◌, ◌/◌, min, max, nat_lt, if◌then◌else◌}
use Rattle.h263_types.specs.declared.format.Format.{Format}
use Rattle.h263_types.specs.declared.Kind.{Kind}
use Rattle.h263_types.specs.declared.Kind.TheVariants.{I, P}
use Rattle.h263_types.specs.Sizes.{mbs_of}
use Rattle.picture_pace.specs.declared.fit.FitPace.{FitPace}

-- before the first picture a macroblock's difficulty is taken for this much
abbrev pub pace_at_start : Format → ℕ → ℕ → FitPace
pace_at_start f target room =
    record {
      target = target;
      room = room;
      level = 0;
      intra = 200 * mbs_of f;
      predicted = 100 * mbs_of f;
      excess = 0;
    }

abbrev pub redirected : ℕ → ℕ → FitPace → FitPace
redirected target room p = record p { target = target; room = room }

-- The difficulty of a picture is its bytes times its quantiser. It is nearly that of the pictures of
-- its kind before it, since bytes fall as 1/Q.
abbrev pub difficulty_of : Kind → FitPace → ℕ
difficulty_of I p = p.intra
difficulty_of P p = p.predicted

-- What the next picture may have beyond the target: an intra picture two thirds of what the level is
-- below half of the room; a predicted one half of that, or of what the excess is below one target,
-- where that is less.
abbrev pub bytes_spared : Kind → FitPace → ℕ
bytes_spared I p = 2 * (p.room / 2 - p.level) / 3
bytes_spared P p = min (p.room / 2 - p.level) (p.target - p.excess) / 2

-- What it must save: half of what they are above.
abbrev pub bytes_to_save : Kind → FitPace → ℕ
bytes_to_save I p = (p.level - p.room / 2) / 2
bytes_to_save P p = max (p.level - p.room / 2) (p.excess - p.target) / 2

-- the target with that, but a quarter of the target at least
abbrev pub bytes_wanted : Kind → FitPace → ℕ
bytes_wanted kind p = max (max (p.target + bytes_spared kind p - bytes_to_save kind p) (p.target / 4)) 1

-- the finest from 2 to 30 with which fewer bytes than these are expected, or 31
abbrev pub fitting : ℕ → ℕ → ℕ
fitting difficulty wanted = min (max (difficulty / wanted) 1) 30 + 1

-- where the bucket holds more than the room it is 31
abbrev pub fitting_quant : Kind → FitPace → ℕ
fitting_quant kind p =
    if nat_lt p.room p.level then 31 else fitting (difficulty_of kind p) (bytes_wanted kind p)

-- ---- a picture was coded

-- the mean of what was known and of what it had
abbrev pub learnt : ℕ → ℕ → ℕ → ℕ
learnt quant bytes difficulty = difficulty / 2 + quant * bytes / 2

-- it pours its bytes into a bucket, and the target runs out
abbrev pub poured_into : ℕ → ℕ → ℕ → ℕ
poured_into target level bytes = min (level + bytes) 18446744073709551615 - target

-- The level is of all pictures, the excess of the predicted ones.
abbrev pub after_coded : Kind → ℕ → ℕ → FitPace → FitPace
after_coded I quant bytes p =
    record p {
      level = poured_into p.target p.level bytes;
      intra = learnt quant bytes p.intra;
    }
after_coded P quant bytes p =
    record p {
      level = poured_into p.target p.level bytes;
      predicted = learnt quant bytes p.predicted;
      excess = poured_into p.target p.excess bytes;
    }
