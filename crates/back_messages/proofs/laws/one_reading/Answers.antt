use Rattle.h263_bits.proofs.SyntaxLaws as general
use Rattle.back_messages.specs.Text.{message}
use Rattle.back_messages.proofs.Texts.{message_productive}
use Rattle.back_messages.proofs.laws.one_reading.Goals as goal

pub returns : goal.returns
returns c = λ clock m n x y more p q e. general.one_reading (message clock) m n x y more (message_productive clock) p q
    e
