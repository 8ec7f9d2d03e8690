-- The messages of the last four numbers are the last four messages that were said since the load.
use Rattle.std.proofs.Common.{◌≡◌, ℕ, zero, suc, ◌+◌, ◌-◌, ◌<◌, sym, ap, ◌∙◌, arith, Option, List, [], ◌∷◌, ◌++◌, length}
use Rattle.std.specs.Prelude.{drop, max, get_or}
use Rattle.std.specs.Option.{option_map_or}
use Rattle.std.specs.List.{range_with_len}
use Rattle.std.proofs.lemmas.List.{drop-drop, drop_more, drop_all}
use Rattle.std.proofs.lemmas.Option.{slice_get-get_or}
use Rattle.call_model.specs.Coding.{Message, Ack}
use Rattle.duplex_call.specs.Duplex.{messages_at}
use Rattle.duplex_call.specs.FourStores.{LastFourAre}

-- so many numbers up to the last
to_end : (said : List Message) (first count : ℕ) → first + count ≡ length said
    → messages_at said (range_with_len first count) ≡ drop first said
to_end said first zero is = sym (drop_all first said (omega (arith, is)))
to_end said first (suc count) is =
    let d : Message = Ack 0 [] in
    let below : first < length said = omega (arith, is) in
    ap (λ (o : Option Message). option_map_or (λ message. message ∷ []) o []
    ++ messages_at said (range_with_len (first + 1) count)) (slice_get-get_or said first d below)
    ∙ ap (λ (l : List Message). get_or said first d ∷ l) (to_end said (first + 1) count (omega (arith, is)))
    ∙ sym (drop_more said first d below)

pub last_four_are : LastFourAre
last_four_are said loaded few =
    let first = max loaded (length said - 4) in
    to_end said first (length said - first) (omega (arith, few))
    ∙ sym (drop-drop (length said - loaded - 4) loaded said ∙ ap (λ (k : ℕ). drop k said) (place (length said)))
  where
    place : (n : ℕ) → loaded + (n - loaded - 4) ≡ max loaded (n - 4)
    place n = omega (arith, few)
