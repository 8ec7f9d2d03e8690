-- Equal styles.
use Rattle.std.proofs.Common.{◌≡◌, ◌↔◌, ℕ, true, ◌&&◌, eqb, List, [], ◌∷◌, Option, Some, None, refl, ap, sym, ◌∙◌}
use Rattle.std.proofs.lemmas.Bool.{eqb-true, eq-eqb, and_parts, and_from}
use Rattle.h263_types.specs.declared.format.Format.{Format}
use Rattle.h263_types.specs.declared.format.Format.TheVariants as formats
use Rattle.h263_types.specs.declared.Kind.{Kind}
use Rattle.h263_types.specs.declared.Kind.TheVariants as kinds
use Rattle.back_messages.specs.declared.message.Message.{Message}
use Rattle.back_messages.specs.declared.message.Message.TheVariants as messages
use Rattle.call_decoding.specs.Styles.{Style}
use Rattle.receiver_end.specs.Decoding.{same_format, same_kind, same_marks, same_message, same_messages, same_style}

formats_are : (a b : Format) → same_format a b ≡ true → a ≡ b
formats_are formats.SubQcif formats.SubQcif e = refl
formats_are formats.Qcif formats.Qcif e = refl
formats_are formats.Cif formats.Cif e = refl
formats_are formats.SubQcif formats.Qcif e = absurd cc
formats_are formats.SubQcif formats.Cif e = absurd cc
formats_are formats.Qcif formats.SubQcif e = absurd cc
formats_are formats.Qcif formats.Cif e = absurd cc
formats_are formats.Cif formats.SubQcif e = absurd cc
formats_are formats.Cif formats.Qcif e = absurd cc

format_self : (a : Format) → same_format a a ≡ true
format_self formats.SubQcif = refl
format_self formats.Qcif = refl
format_self formats.Cif = refl

kinds_are : (a b : Kind) → same_kind a b ≡ true → a ≡ b
kinds_are kinds.I kinds.I e = refl
kinds_are kinds.P kinds.P e = refl
kinds_are kinds.I kinds.P e = absurd cc
kinds_are kinds.P kinds.I e = absurd cc

kind_self : (a : Kind) → same_kind a a ≡ true
kind_self kinds.I = refl
kind_self kinds.P = refl

marks_are : (a b : Option ℕ) → same_marks a b ≡ true → a ≡ b
marks_are None None e = refl
marks_are (Some a) (Some b) e = ap (λ (k : ℕ). Some k) (eqb-true a b e)
marks_are None (Some b) e = absurd cc
marks_are (Some a) None e = absurd cc

marks_self : (a : Option ℕ) → same_marks a a ≡ true
marks_self None = refl
marks_self (Some a) = eq-eqb a a refl

message_is : (a b : Option Message) → same_message a b ≡ true → a ≡ b
message_is None None e = refl
message_is None (Some (messages.Ack tr marks)) e = absurd cc
message_is None (Some (messages.Nack tr rtr marks)) e = absurd cc
message_is (Some (messages.Ack tr marks)) None e = absurd cc
message_is (Some (messages.Nack tr rtr marks)) None e = absurd cc
message_is (Some (messages.Ack tr marks)) (Some (messages.Ack tr' marks')) e =
    let parts = and_parts (eqb tr tr') (same_marks marks marks') e in
    ap (λ (k : ℕ). Some (messages.Ack k marks)) (eqb-true tr tr' parts.0)
    ∙ ap (λ (m : Option ℕ). Some (messages.Ack tr' m)) (marks_are marks marks' parts.1)
message_is (Some (messages.Nack tr rtr marks)) (Some (messages.Nack tr' rtr' marks')) e =
    let parts = and_parts (eqb tr tr') (eqb rtr rtr' && same_marks marks marks') e in
    let more = and_parts (eqb rtr rtr') (same_marks marks marks') parts.1 in
    ap (λ (k : ℕ). Some (messages.Nack k rtr marks)) (eqb-true tr tr' parts.0)
    ∙ ap (λ (k : ℕ). Some (messages.Nack tr' k marks)) (eqb-true rtr rtr' more.0)
    ∙ ap (λ (m : Option ℕ). Some (messages.Nack tr' rtr' m)) (marks_are marks marks' more.1)
message_is (Some (messages.Ack tr marks)) (Some (messages.Nack tr' rtr' marks')) e = absurd cc
message_is (Some (messages.Nack tr rtr marks)) (Some (messages.Ack tr' marks')) e = absurd cc

message_self : (a : Option Message) → same_message a a ≡ true
message_self None = refl
message_self (Some (messages.Ack tr marks)) = and_from _ _ (eq-eqb tr tr refl) (marks_self marks)
message_self (Some (messages.Nack tr rtr marks)) =
    and_from _ _ (eq-eqb tr tr refl) (and_from _ _ (eq-eqb rtr rtr refl) (marks_self marks))

messages_are : (a b : List (Option Message)) → same_messages a b ≡ true → a ≡ b
messages_are [] [] e = refl
messages_are [] (b ∷ bs) e = absurd cc
messages_are (a ∷ more) [] e = absurd cc
messages_are (a ∷ more) (b ∷ bs) e =
    let parts = and_parts (same_message a b) (same_messages more bs) e in
    ap (λ (m : Option Message). m ∷ more) (message_is a b parts.0)
    ∙ ap (λ (l : List (Option Message)). b ∷ l) (messages_are more bs parts.1)

messages_self : (a : List (Option Message)) → same_messages a a ≡ true
messages_self [] = refl
messages_self (a ∷ more) = and_from _ _ (message_self a) (messages_self more)

pub styles_are : (a b : Style) → same_style a b ≡ true → a ≡ b
unfolding same_style
styles_are a b e =
    let p = and_parts _ _ e in let q = and_parts _ _ p.1 in let r = and_parts _ _ q.1 in let s = and_parts _ _ r.1 in
    let t = and_parts _ _ s.1 in
    joined a b (formats_are _ _ p.0) (kinds_are _ _ q.0) (eqb-true _ _ r.0) (eqb-true _ _ s.0) (eqb-true _ _ t.0)
    (messages_are _ _ t.1)
  where
    joined : (a b : Style) → a.format ≡ b.format → a.kind ≡ b.kind → a.rounding ≡ b.rounding → a.channel ≡ b.channel
        → a.quant ≡ b.quant → a.back ≡ b.back → a ≡ b
    joined a b p q r s t u = λ i. record {
      format = p i;
      kind = q i;
      rounding = r i;
      channel = s i;
      quant = t i;
      back = u i;
    }

pub style_self : (a : Style) → same_style a a ≡ true
unfolding same_style
style_self a =
    and_from _ _ (format_self a.format)
    (and_from _ _ (kind_self a.kind) (and_from _ _ (eq-eqb a.rounding a.rounding refl)
    (and_from _ _ (eq-eqb a.channel a.channel refl) (and_from _ _ (eq-eqb a.quant a.quant refl)
    (messages_self a.back)))))

pub same_style_is : (a b : Style) → (same_style a b ≡ true) ↔ (a ≡ b)
same_style_is a b = (styles_are a b, λ e. ap (same_style a) (sym e) ∙ style_self a)
