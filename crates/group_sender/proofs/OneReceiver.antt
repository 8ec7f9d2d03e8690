-- A group of one, and a sender.
use Rattle.std.proofs.Common.{◌≡◌, ℕ, Bool, true, false, ◌&&◌, refl, ap, ◌∙◌, arith, zero, suc, List, [], ◌∷◌, ◌++◌, length, leb, set}
use Rattle.std.specs.Prelude.{replicate}
use Rattle.std.specs.List.{list_all}
use Rattle.std.specs.Result.{result_ok}
use Rattle.std.proofs.lemmas.Bool.{le-leb}
use Rattle.call_model.specs.Coding.{Rules, Pictures, Encoding}
use Rattle.call_model.specs.CodedPictures.{Coded, capture, depth_at, is_among, reference_for}
use Rattle.call_model.specs.Sending.{SenderEntry, SenderRun, Capture, Feedback, known_by_feedback, last_sizes, next_coded, sender_run}
use Rattle.group_sender.specs.Laws.{IsASender, in_group_of_one}
use Rattle.group_sender.specs.Parties.{Party, all_have, may_go_by, nobody, party_after_saying, party_at}
use Rattle.group_sender.specs.Running.{GroupRun, group_run}

-- one receiver, there from the start, which has said this, and nobody else
abbrev one_party : List ℕ → List Party
one_party told = record { present = true; since = 0; told = told } ∷ replicate 15 nobody

and_true : (b : Bool) → (b && true) ≡ b
and_true true = refl
and_true false = refl

nobody_matters : (m n : ℕ) → list_all (may_go_by m) (replicate n nobody) ≡ true
nobody_matters m zero = refl
nobody_matters m (suc n) = nobody_matters m n

one_has : (told : List ℕ) (m : ℕ) → all_have (one_party told) m ≡ is_among told m
one_has told m =
    ap (λ (b : Bool). (leb 0 m && is_among told m) && b) (nobody_matters m 15)
    ∙ and_true (leb 0 m && is_among told m)
    ∙ ap (λ (b : Bool). b && is_among told m) (le-leb 0 m (omega arith))

module _ {Frame Style Mb Picture MessageFault : Type 0} (pictures : Pictures Style Mb Picture)
    (encoding : Encoding Frame Style Mb Picture MessageFault) (rules : Rules) (pace : List ℕ → ℕ) where
  -- what a group of one has come to
  record IsOne (group : GroupRun Style Mb Picture) (alone : SenderRun Style Mb Picture) : Type 0 where
    coded : group.coded ≡ alone.coded
    parties : group.parties ≡ one_party alone.known

  next_is : (frame : Frame) (coded : List (Coded Style Mb Picture)) (known : List ℕ)
      → capture pictures encoding (pace (last_sizes encoding rules coded)) frame coded
      (reference_for rules (depth_at coded) (all_have (one_party known)) (length coded))
      ≡ next_coded pictures encoding rules pace frame coded known
  next_is frame coded known =
      ap (λ (f : ℕ → Bool). capture pictures encoding (pace (last_sizes encoding rules coded)) frame coded
      (reference_for rules (depth_at coded) f (length coded)))
      (λ i m. one_has known m i)

  is_one : (entries : List (SenderEntry Frame))
      → IsOne (group_run pictures encoding rules (in_group_of_one pictures encoding rules pace entries))
      (sender_run pictures encoding rules pace entries)
  is_one [] = record { coded = refl; parties = refl }
  is_one (Capture frame ∷ past) =
      let before = is_one past in
      let alone = sender_run pictures encoding rules pace past in
      record {
        coded =
            (λ i. before.coded i ++ capture pictures encoding (pace (last_sizes encoding rules (before.coded i))) frame
            (before.coded i)
            (reference_for rules (depth_at (before.coded i)) (all_have (before.parties i)) (length (before.coded i))) ∷
            [])
            ∙ ap (λ (x : Coded Style Mb Picture). alone.coded ++ x ∷ []) (next_is frame alone.coded alone.known);
        parties = before.parties;
      }
  is_one (Feedback bytes ∷ past) =
      let before = is_one past in
      record {
        coded = before.coded;
        parties = (λ i. set (before.parties i) 0
            (party_after_saying (known_by_feedback rules (length (before.coded i))
            (result_ok (encoding.read_message bytes))) (party_at (before.parties i) 0)));
      }

  pub one_is_a_sender : (entries : List (SenderEntry Frame)) → IsASender pictures encoding rules pace entries
  one_is_a_sender entries = record {
    coded = (is_one entries).coded;
    told = ap (λ (l : List Party). (party_at l 0).told) (is_one entries).parties;
  }
