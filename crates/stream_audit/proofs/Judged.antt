-- What is judged of a packet is what the rules say of it.
use Rattle.std.proofs.Common.{◌∙◌, ap, None, ◌≡◌, ℕ, zero, suc, ◌-◌, ◌<◌, true, false, refl, sym, arith, inl, inr, Some, Option, List, Ok, eqb}
use Rattle.std.specs.Option.{option_map, option_map_or}
use Rattle.std.proofs.lemmas.Bool.{cases_Bool, eq-eqb, false≢true}
use Rattle.h263_types.specs.declared.blocks.Mb.{Mb}
use Rattle.h263_types.specs.Clocks.{half_of}
use Rattle.packet_collector.specs.declared.piece.Piece.{Piece}
use Rattle.call_model.specs.Coding as call
use Rattle.call_model.specs.Lawful.{IsDecoding}
use Rattle.call_decoding.specs.Rules.{rules_of}
use Rattle.call_decoding.specs.Styles.{Style}
use Rattle.stream_audit.specs.declared.kept.Kept.{Kept}
use Rattle.stream_audit.specs.declared.verdict.Broken.{Broken}
use Rattle.stream_audit.specs.declared.verdict.Rule.{Rule}
use Rattle.stream_audit.specs.declared.verdict.Rule.TheVariants as rule
use Rattle.receiver_end.specs.Decoding.{decoding}
use Rattle.call_encoding.specs.Messages.{read_message}
use Rattle.stream_audit.specs.State.{AuditFits, AuditKeeps, SpellsSlice}
use Rattle.stream_audit.specs.Stream.{Item, StreamPart, StreamPicture, is_of_piece, last_picture, items_with_packet, items_with_part}
use Rattle.stream_audit.specs.Verdict.{broken_at, broken_by, broken_within, present}
use Rattle.stream_audit.proofs.Headers.{same_header_is}
use Rattle.stream_audit.proofs.Lists.{not_none}

positive : (n : ℕ) → (n ≡ 0 → ⊥) → 0 < n
positive zero none = absurd (none refl)
positive (suc n) none = omega arith

-- where a temporal reference is the last picture's, there is one
pub some_before : (k : Kept) → AuditFits k → (number : ℕ) → option_map_or (λ n. eqb n number) k.tr false ≡ true
    → 0 < k.pictures
some_before k fits number is =
    positive k.pictures (λ first. false≢true (ap (λ (o : Option ℕ). option_map_or (λ n. eqb n number) o false)
    (sym (fits.before_first first).0) ∙ is))

-- a packet is of the last picture where it has that one's temporal reference
pub last_own : (k : Kept) (items : List (Item Style Mb)) (piece : Piece) (q : call.Piece Style Mb) → AuditKeeps k items
    → SpellsSlice piece q
    → option_map_or (λ n. eqb n piece.header.tr) k.tr false ≡ is_of_piece (last_picture items) q
last_own k items piece q keeps spells =
    ap (λ (o : Option ℕ). option_map_or (λ n. eqb n piece.header.tr) o false) keeps.tr ∙ go (last_picture items)
  where
    number : piece.header.tr ≡ q.header.number
    number = ap (λ (h : call.Header Style). h.number) (sym spells.header)

    go : (o : Option (StreamPicture Style Mb))
        → option_map_or (λ n. eqb n piece.header.tr) (option_map (λ p. p.header.number) o) false ≡ is_of_piece o q
    go None = refl
    go (Some p) = ap (λ (n : ℕ). eqb p.header.number n) number

module _ (k : Kept) (items : List (Item Style Mb)) (part : StreamPart Style Mb) (piece : Piece)
    (keeps : AuditKeeps k items)
    (spells : SpellsSlice piece part.piece) where
  abbrev By : Option Broken
  By = broken_by (decoding k.params.format) (read_message k.params.clock) (rules_of k.params) items (Ok part.piece)

  here : present items ≡ k.pictures - 1
  here = ap (λ (n : ℕ). n - 1) (sym keeps.count)

  half : part.piece.header.half ≡ half_of piece.header.clock
  half = ap (λ (h : call.Header Style). h.half) spells.header

  same_half : piece.header.clock ≡ k.params.clock → eqb part.piece.header.half (half_of k.params.clock) ≡ true
  same_half same = eq-eqb part.piece.header.half (half_of k.params.clock) (half ∙ ap half_of same)

  pub own_picture : is_of_piece (last_picture items) part.piece ≡ true → (p : StreamPicture Style Mb)
      × (last_picture items ≡ Some p)
  own_picture own = go (last_picture items) refl own
    where
      go : (o : Option (StreamPicture Style Mb)) → last_picture items ≡ o → is_of_piece o part.piece ≡ true
          → (p : StreamPicture Style Mb) × (last_picture items ≡ Some p)
      go None is own = absurd (false≢true own)
      go (Some p) is own = (p, is)

  pub at_own : piece.header.clock ≡ k.params.clock → is_of_piece (last_picture items) part.piece ≡ true
      → (p : StreamPicture Style Mb) → last_picture items ≡ Some p
      → (o : Option Rule) → o ≡ broken_within (decoding k.params.format) (read_message k.params.clock)
      (rules_of k.params) (Some p) part.piece
      → option_map (broken_at (k.pictures - 1)) o ≡ By
  at_own same own p is o at =
      ap (λ (n : ℕ). option_map (broken_at n) o) (sym here)
      ∙ ap (option_map (broken_at (present items))) (at
      ∙ ap (λ (x : Option (StreamPicture Style Mb)). broken_within (decoding k.params.format)
      (read_message k.params.clock) (rules_of k.params) x part.piece) (sym is))
      ∙ sym (rw (same_half same, own) refl)

  pub kept_own : (new : Kept) → is_of_piece (last_picture items) part.piece ≡ true
      → AuditKeeps new (items_with_part items part)
      → AuditKeeps new (items_with_packet items part)
  kept_own new own keeps' = rw own keeps'

  -- a packet of the last picture that breaks nothing has its header
  pub one_header : IsDecoding (decoding k.params.format) (rules_of k.params) → (p : StreamPicture Style Mb)
      → None ≡ broken_within (decoding k.params.format) (read_message k.params.clock) (rules_of k.params)
      (Some p) part.piece → part.piece.header ≡ p.header
  one_header lawful p none =
      elim (cases_Bool (call.same_header (decoding k.params.format) p.header part.piece.header)) [
        | inl same ↦ sym (same_header_is (decoding k.params.format) (rules_of k.params) lawful p.header
            part.piece.header same)
        | inr other ↦ absurd (not_none rule.Header (sym (none ∙ rw other refl)))
      ]
