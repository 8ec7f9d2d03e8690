-- The number of a refusal tells it.
use Rattle.std.proofs.Common.{arith, ◌≡◌, refl}
use Rattle.h263rps_c.specs.declared.refusals.EndRefusal.{EndRefusal}
use Rattle.h263rps_c.specs.declared.refusals.EndRefusal.TheVariants.{NotStarted, Started, OtherEnd, BadParams, NoMemory, Ended, WrongLength, BadMessages, NoPacket, ShortRoom, NoStart, NoStream, NoReceiver}
use Rattle.h263rps_c.specs.Refusals.{refusal_number}

pub short_room : (r : EndRefusal) → refusal_number r ≡ 10 → r ≡ ShortRoom
short_room NotStarted e = absurd (omega (arith, e))
short_room Started e = absurd (omega (arith, e))
short_room OtherEnd e = absurd (omega (arith, e))
short_room BadParams e = absurd (omega (arith, e))
short_room NoMemory e = absurd (omega (arith, e))
short_room Ended e = absurd (omega (arith, e))
short_room WrongLength e = absurd (omega (arith, e))
short_room BadMessages e = absurd (omega (arith, e))
short_room NoPacket e = absurd (omega (arith, e))
short_room ShortRoom e = refl
short_room NoStart e = absurd (omega (arith, e))
short_room NoStream e = absurd (omega (arith, e))
short_room NoReceiver e = absurd (omega (arith, e))
