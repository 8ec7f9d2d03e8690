use Rattle.std.proofs.Common.{rules, ◌≡◌, ℕ, ◌%◌, ◌<◌, List, Option, Some, None, length, set, refl, sym, ap, ◌∙◌, arith}
use Rattle.std.proofs.lemmas.List.{set-get_or}
use Rattle.h263_types.specs.Sizes.{size_of_picture}
use Rattle.h263_types.specs.declared.format.Format.{Format}
use Rattle.h263_planes.specs.Layout.{picture_of}
use Rattle.h263_planes.specs.Picture.{Picture}
use Rattle.picture_recon.specs.Samples.{reconstruction}
use Rattle.picture_recon.specs.Undrawn.{undrawn_mbs}
use Rattle.picture_store.specs.Pictures.{picture_in, slot_of}
use Rattle.sender_end.proofs.Drawing.{drawn_later}
use Rattle.sender_end.proofs.Storing.{coded_into}
use Rattle.sender_end.proofs.late.draw_kept.Goals as goal

pub returns-clause-numbers : goal.returns-clause-numbers
returns-clause-numbers c =
    let store = c.args.store.now in
    let bytes = c.draw_into.new.bytes in
    let long : length bytes ≡ size_of_picture store.format = search rules in
    let lent = coded_into store bytes (picture_of store.format bytes) long c.requires.works refl in
    c.keep.ensures.numbers
    ∙ ap (λ (l : List (Option ℕ)). set l (c.args.number % length l) (Some c.args.number)) lent.numbers
    ∙ ap (λ (o : Option ℕ). set store.numbers (slot_of store c.args.number) o) (sym c.requires.kept)
    ∙ set-get_or store.numbers (slot_of store c.args.number) None

pub returns-clause-drawn : goal.returns-clause-drawn
returns-clause-drawn c =
    let store = c.args.store.now in
    let bytes = c.draw_into.new.bytes in
    let undrawn = c.pair-bytes.result.0.now in
    let quant = c.args.quant in
    let long : length bytes ≡ size_of_picture store.format = search rules in
    let lent = coded_into store bytes (picture_of store.format bytes) long c.requires.works refl in
    let shown : Picture → Picture = λ p. reconstruction p.format 0 None (undrawn_mbs quant p) in
    let some : 0 < quant = omega (arith, c.requires.undrawn.quant_is.low) in
    ap (λ (l : List (Option ℕ)). picture_in c.keep.new.self (c.args.number % length l)) (sym lent.numbers)
    ∙ c.keep.ensures.kept ∙ lent.work
    ∙ ap (λ (f : Format). picture_of f bytes) c.requires.format
    ∙ c.draw_into.ensures
    ∙ ap (λ (f : Format). shown (picture_of f undrawn)) (sym c.requires.format)
    ∙ ap shown c.pair-bytes.ensures.reference
    ∙ sym (drawn_later quant (picture_in store (slot_of store c.args.number)) some)
