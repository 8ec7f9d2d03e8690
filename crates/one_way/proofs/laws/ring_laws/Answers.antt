use Rattle.std.proofs.Common.{◌≡◌, ℕ, List, length, Option, refl, sym, ap, subst, ◌∙◌, arith}
use Rattle.std.specs.Prelude.{map}
use Rattle.h263_types.specs.declared.blocks.Mb.{Mb}
use Rattle.h263_planes.specs.Picture.{Picture}
use Rattle.call_model.specs.CodedPictures.{Coded}
use Rattle.call_decoding.specs.Styles.{Style}
use Rattle.receiver_end.specs.Answers.{said_by}
use Rattle.one_way.specs.References.{AreNoted}
use Rattle.one_way.proofs.Holding.{as_many}
use Rattle.one_way.proofs.Passing.{count_more}
use Rattle.one_way.proofs.Ring.{kept_in_ring}
use Rattle.one_way.proofs.Saying.{heard_told, told_is}
use Rattle.one_way.proofs.Sent.{has_one_more, none_sent, noted_is, noted_more}
use Rattle.one_way.proofs.laws.ring_laws.Goals as goal

pub returns : goal.returns
returns c = λ p. record {
  none = λ ring holds. record { pictures = _; keeps = holds; count = refl; each = none_sent p };
  packets = has_one_more p;
  kept = λ ring coded n has few near. kept_in_ring p ring coded n has few near;
  noted = λ old new coded x has notes.
      let references_of = λ (x : Coded Style Mb Picture). x.reference in
      subst (λ (l : List (Option ℕ)). AreNoted new l) (sym (noted_more coded x))
      (notes (map references_of coded) has (sym (as_many references_of coded)));
  reference = λ references coded n result has gives few near.
      let references_of = λ (x : Coded Style Mb Picture). x.reference in
      let long : length (map references_of coded) ≡ length coded = as_many references_of coded in
      gives (map references_of coded) has (omega (arith, few, long)) (omega (arith, near, long)) ∙ noted_is coded n;
  answered = λ n said answer says fit.
      told_is c.said_bytes.ensures.written p.clock n said (said_by answer) says fit ∙ sym (heard_told n answer);
  told = λ n said message says fit. told_is c.said_bytes.ensures.written p.clock n said message says fit;
  counted = count_more;
}
