-- The texts of a receiver's picture, and those of the counts.
use Rattle.std.proofs.Common.{◌≡◌, ◌⊎◌, inl, inr, ℕ, zero, suc, ◌+◌, ◌<◌, ◌≤◌, List, ◌∷◌, length, codes, Option, Some, Result, Ok, Err, OnErr, refl, subst, arith}
use Rattle.std.proofs.lemmas.Bool.{cases_lt}
use Rattle.h263_types.specs.declared.format.Format.{Format}
use Rattle.h263_types.specs.declared.params.Params.{Params}
use Rattle.h263_types.specs.declared.Mark.{Mark}
use Rattle.h263_planes.specs.Picture.{Picture}
use Rattle.h263_outside.specs.declared.desk.Role.{Role}
use Rattle.h263_outside.specs.declared.desk.Role.TheVariants.{Report}
use Rattle.y4m.specs.Text.{frame_text, head_text}
use Rattle.call_report.specs.Text.{picture_text}
use Rattle.desk_program.specs.Ends.{Gains, GainsFronts}
use Rattle.desk_program.specs.Laws.{TurnLaws}
use Rattle.desk_program.specs.Texts.{on, then_also}
use Rattle.call_model.specs.Receiving.{played_mark}
use Rattle.call_decoding.specs.Rules.{rules_of}
use Rattle.receiver_end.specs.Answers.{mark_from}
use Rattle.receiver_end.specs.Decoding.{decoding}
use Rattle.receiver_end.specs.State.{run_of}
use Rattle.one_way.specs.Seen.{reference_in}
use Rattle.one_way.specs.Counts.{AreCounted}
use Rattle.one_way.specs.declared.tally.Tally.{Tally}
use Rattle.call_command.specs.Counts.{counts_text_of, counts_with}
use Rattle.call_command.specs.Rows.{row_texts}
use Rattle.group_sender.specs.Holding.{Groups}
use Rattle.group_call.specs.Viewing.{ViewerRun, view_play}
use Rattle.group_command.specs.Group.{counts_of_view, viewers_heads, pictures_at, played_texts}

pub on_err : {T E P : Type 0} (r : Result T E) → P → OnErr r P
on_err (Ok x) p = tt
on_err (Err e) p = p

-- the row of a play that is told so
pub row_is : (p : Params) (k : ℕ) (run : Groups) (view : ViewerRun) (role : Role) (digit number : ℕ) (mark : Mark)
    (reference : Option ℕ)
    (picture : Picture) → role ≡ pictures_at k → digit ≡ 49 + k
    → number ≡ (run_of p view.entries).played
    → mark ≡ mark_from (played_mark (decoding p.format) (rules_of p) (run_of p view.entries))
    → reference ≡ reference_in run.coded (run_of p view.entries).played
    → picture ≡ (run_of p (view_play p view).entries).screen
    → row_texts (record {
      role = role;
      letter = Some digit;
      number = number;
      mark = mark;
      reference = reference;
    }) picture
    ≡ played_texts p k run view
row_is p k run view role digit number mark reference picture role_is digit_is number_is mark_is reference_is shown =
    λ i. then_also (on (role_is i) (frame_text (mark_is i) (shown i)))
    (on Report (picture_text (number_is i) (Some (mark_is i)) (Some (reference_is i)) (Some (digit_is i))))

-- the reference of the picture that is played next
pub reference_next : (run : Groups) (n played : ℕ) → n ≡ played → {reference : Option ℕ}
    → (n < length run.coded → length run.coded ≤ n + 512 → reference ≡ reference_in run.coded n)
    → played < length run.coded → length run.coded ≤ played + 512 → reference ≡ reference_in run.coded played
reference_next run n played is {reference} holds some near =
    subst (λ (m : ℕ). m < length run.coded → length run.coded ≤ m + 512
    → reference ≡ reference_in run.coded m) is holds some near

-- the line of a receiver's counts
pub counts_are : (p : Params) (k : ℕ) (run : Groups) (view : ViewerRun) (word : List ℕ) (tally : Tally)
    (played sent : ℕ) → word ≡ (49 + k) ∷ codes " played" → AreCounted tally view.plays
    → played ≡ (run_of p view.entries).played → sent ≡ length run.coded → counts_with word tally played sent
    ≡ counts_of_view p run k view
counts_are p k run view word tally played sent word_is marks played_is sent_is =
    λ i. counts_text_of (word_is i) (played_is i) (sent_is i) (marks.exact i) (marks.patched i) (marks.held i)

-- ---- the heads

module _ (turns : TurnLaws) (f : Format) (old mid : Role → Option (List ℕ)) where
  -- so many heads are written, and the next one, or a prefix of it
  pub head_more : (k : ℕ) (new : Role → Option (List ℕ)) → Gains (viewers_heads f k) old mid
      → Gains (on (pictures_at k) (head_text f)) mid new → Gains (viewers_heads f (suc k)) old new
  head_more k new before now = turns.both_texts (viewers_heads f k) (on (pictures_at k) (head_text f)) old mid new
      before
      now

  pub head_cut : (k : ℕ) (new : Role → Option (List ℕ)) → Gains (viewers_heads f k) old mid
      → GainsFronts (on (pictures_at k) (head_text f)) mid new → GainsFronts (viewers_heads f (suc k)) old new
  head_cut k new before now = turns.front_of_second (viewers_heads f k) (on (pictures_at k) (head_text f)) old mid new
      before now

  -- a prefix of the first ones is one of all
  pub head_front : (k : ℕ) → GainsFronts (viewers_heads f k) old mid → GainsFronts (viewers_heads f (suc k)) old mid
  head_front k fronts = turns.front_of_first (viewers_heads f k) (on (pictures_at k) (head_text f)) old mid fronts

module _ (turns : TurnLaws) (f : Format) (old mid : Role → Option (List ℕ)) where
  same : (k n : ℕ) → k ≤ n → n ≤ k → k ≡ n
  same k n le too = omega (arith, le, too)

  by_order : (k n : ℕ) → k ≤ suc n → (k < suc n → GainsFronts (viewers_heads f (suc n)) old mid)
      → GainsFronts (viewers_heads f k) old mid → (k < suc n) ⊎ (suc n ≤ k) → GainsFronts (viewers_heads f (suc n)) old
      mid
  by_order k n le goes fronts (inl less) = goes less
  by_order k n le goes fronts (inr more) = subst (λ (m : ℕ). GainsFronts (viewers_heads f m) old mid)
      (same k (suc n) le more) fronts

  pub heads_front : (k n : ℕ) → k ≤ n → GainsFronts (viewers_heads f k) old mid → GainsFronts (viewers_heads f n) old
      mid
  heads_front k zero le fronts = subst (λ (m : ℕ). GainsFronts (viewers_heads f m) old mid) (none k le) fronts
    where
      none : (k : ℕ) → k ≤ 0 → k ≡ 0
      none k le = omega (arith, le)
  heads_front k (suc n) le fronts =
      by_order k n le (λ less. head_front turns f old mid n (heads_front k n (omega (arith, less)) fronts)) fronts
      (cases_lt k (suc n))

  -- none was written before the first
  pub no_head : Gains (viewers_heads f 0) old old
  no_head = turns.no_text old old refl
