-- What is seen of a receiver of a group is what its ideal call says: its refusals, texts and counts.
use Rattle.std.proofs.Common.{◌≡◌, ℕ, zero, suc, ◌+◌, ◌<◌, Bool, true, false, List, [], ◌∷◌, ◌++◌, length, Option, Some, None, refl, sym, ap, ◌∙◌, arith, eqb, if◌then◌else◌}
use Rattle.std.specs.Prelude.{map, slice_get, nat_le, codes}
use Rattle.std.specs.Option.{option_map_or}
use Rattle.std.proofs.lemmas.List.{append-nil, length-map}
use Rattle.h263_types.specs.declared.blocks.Mb.{Mb}
use Rattle.h263_types.specs.declared.params.Params.{Params}
use Rattle.h263_planes.specs.Picture.{Picture}
use Rattle.h263_outside.specs.declared.desk.Role.TheVariants.{Report}
use Rattle.y4m.specs.Text.{frame_text}
use Rattle.h263_types.specs.Texts.{Text}
use Rattle.call_report.specs.Text.{picture_text}
use Rattle.call_model.specs.Coding.{Shown}
use Rattle.call_model.specs.CodedPictures.{Coded}
use Rattle.call_model.specs.IdealCall.{Call, Event, Send, Deliver, Play, Back, NumberedMessage, about, slices_at}
use Rattle.call_model.specs.JoinedRun.{SaidMessage}
use Rattle.call_model.specs.Refusals.{Refusal, Far, first_refusal, refusal_in}
use Rattle.call_model.specs.Sending.{header_of, packets_at}
use Rattle.call_model.specs.TwoStores.{told_of}
use Rattle.call_rings.specs.Messages.{kept_messages}
use Rattle.call_decoding.specs.Rules.{rules_of}
use Rattle.call_decoding.specs.Styles.{Style}
use Rattle.call_encoding.specs.Encoding.{encoding}
use Rattle.call_encoding.specs.Messages.{write_message}
use Rattle.call_command.specs.Counts.{counts_text_of}
use Rattle.call_command.specs.Recorded.{shown_text}
use Rattle.receiver_end.specs.Answers.{mark_from}
use Rattle.receiver_end.specs.State.{run_of}
use Rattle.one_way.specs.Counts.{plays_marked, one_exact, one_held, one_patched}
use Rattle.one_way.specs.Laws.{NetworkLaws}
use Rattle.one_way.specs.Seen.{reference_in}
use Rattle.group_sender.specs.Holding.{Groups, group_after_saying}
use Rattle.group_call.specs.Refused.{unless_left, view_refusal}
use Rattle.group_call.specs.Viewing.{ViewerRun, coded_packets}
use Rattle.call_command.specs.Rows.{shown_texts}
use Rattle.group_command.specs.Group.{counts_of_view, group_heard, pictures_at, played_texts}
use Rattle.group_command.specs.Recorded.{after_note, call_with, counts_line, if_own, next_shown}
use Rattle.group_command.proofs.Lives as life
use Rattle.group_command.proofs.Lives.{Lives, ViewLaws}

-- ---- messages

abouts_told : (write : _) (p : Params) (notes : List NumberedMessage)
    → map (λ (t : SaidMessage). t.about) (map (told_of write (rules_of p)) notes) ≡ map about notes
abouts_told write p [] = refl
abouts_told write p (note ∷ notes) = ap (λ (l : List ℕ). about note ∷ l) (abouts_told write p notes)

-- a message that is said comes back as it travels
note_heard : (p : Params) (k m : ℕ) (run : Groups) (notes : List NumberedMessage)
    → option_map_or (λ (told : SaidMessage). group_after_saying p k told.bytes run)
    (slice_get (map (told_of write_message (rules_of p)) notes) m) run ≡ after_note p k (slice_get notes m) run
note_heard p k m run [] = refl
note_heard p k zero run (note ∷ notes) = refl
note_heard p k (suc m) run (note ∷ notes) = note_heard p k m run notes

-- ---- packets

-- a picture has a packet for each slice
pub packets_count : (p : Params) → NetworkLaws p → (coded : List (Coded Style Mb Picture)) (n : ℕ)
    → length (coded_packets p coded n) ≡ length (slices_at coded n)
unfolding packets_at slices_at
packets_count p laws coded n = by_picture _ (slice_get coded n)
  where
    by_picture : (sequence : ℕ) (o : Option (Coded Style Mb Picture))
        → length (option_map_or (λ (x : Coded Style Mb Picture). (encoding p).packets n sequence
        (header_of (rules_of p) n x) x.slices) o []) ≡ length (option_map_or (λ (x : Coded Style Mb Picture). x.slices)
        o [])
    by_picture sequence None = refl
    by_picture sequence (Some x) = laws.count n sequence (header_of (rules_of p) n x) x.slices

-- ---- texts

-- where the texts of a play stand: the picture is its receiver's, the line the report's
abbrev pub if_shown : Bool → Shown Picture → Text
if_shown b shown = if b then frame_text (mark_from shown.mark) shown.picture else []

pub pictures_texts : (k j n : ℕ) (reference : Option ℕ) (shown : Shown Picture) → k < 3 → j < 3
    → shown_texts (pictures_at k) (Some (49 + k)) n reference shown (pictures_at j) ≡ if_shown (eqb k j) shown
pictures_texts zero zero n r shown low lower = append-nil _
pictures_texts zero (suc zero) n r shown low lower = refl
pictures_texts zero (suc (suc zero)) n r shown low lower = refl
pictures_texts (suc zero) zero n r shown low lower = refl
pictures_texts (suc zero) (suc zero) n r shown low lower = append-nil _
pictures_texts (suc zero) (suc (suc zero)) n r shown low lower = refl
pictures_texts (suc (suc zero)) zero n r shown low lower = refl
pictures_texts (suc (suc zero)) (suc zero) n r shown low lower = refl
pictures_texts (suc (suc zero)) (suc (suc zero)) n r shown low lower = append-nil _
pictures_texts (suc (suc (suc k))) j n r shown low lower = absurd (omega (arith, low))
pictures_texts k (suc (suc (suc j))) n r shown low lower = absurd (omega (arith, lower))

pub report_texts : (k n : ℕ) (reference : Option ℕ) (shown : Shown Picture)
    → shown_texts (pictures_at k) (Some (49 + k)) n reference shown Report
    ≡ picture_text n (Some (mark_from shown.mark)) (Some reference) (Some (49 + k))
report_texts zero n r shown = refl
report_texts (suc zero) n r shown = refl
report_texts (suc (suc k)) n r shown = refl

-- what the calls show with it
pub shown_more : (p : Params) (coded : List (Coded Style Mb Picture)) (events : List Event) (b : Bool)
    → shown_text (call_with p coded (if_own b Play events)).plays
    ≡ shown_text (call_with p coded events).plays ++ if_shown b (next_shown p (call_with p coded events))
shown_more p coded events true = refl
shown_more p coded events false = sym (append-nil _)

-- ---- refusals

-- how many pictures there are to be sent makes a difference to a capture alone
any_packet : (p : Params) (a b sent played : ℕ) (abouts : List ℕ) (n j : ℕ)
    → first_refusal (rules_of p) a sent played abouts (Deliver n j)
    ≡ first_refusal (rules_of p) b sent played abouts (Deliver n j)
unfolding first_refusal
any_packet p a b sent played abouts n j = refl

any_play : (p : Params) (a b sent played : ℕ) (abouts : List ℕ)
    → first_refusal (rules_of p) a sent played abouts Play ≡ first_refusal (rules_of p) b sent played abouts Play
unfolding first_refusal
any_play p a b sent played abouts = refl

any_message : (p : Params) (a b sent played : ℕ) (abouts : List ℕ) (m : ℕ)
    → first_refusal (rules_of p) a sent played abouts (Back m)
    ≡ first_refusal (rules_of p) b sent played abouts (Back m)
unfolding first_refusal
any_message p a b sent played abouts m = refl

-- one that has none is in its ring and has no other
pub in_ring : (said sent m : ℕ) (refusal : Option Refusal) → unless_left said sent m refusal ≡ None → refusal ≡ None
in_ring said sent m refusal is = by_test (nat_le said (m + kept_messages)) is
  where
    by_test : (b : Bool) → (if b then refusal else Some (Far m sent)) ≡ None → refusal ≡ None
    by_test true none = none
    by_test false none = absurd (cc none)

module _ (p : Params) (laws : ViewLaws p) (k : ℕ) (run : Groups) (events : List Event) (view : ViewerRun)
    (l : Lives p laws k run events view) where
  abbrev c : Call Style Mb Picture
  c = call_with p run.coded events

  abbrev played : ℕ
  played = (run_of p view.entries).played

  abbrev abouts : List ℕ
  abouts = map (λ (t : SaidMessage). t.about) view.told

  pub played_is : played ≡ c.played
  played_is = (life.follows p laws k run events view l).state.played

  pub coded_is : length run.coded ≡ length c.coded
  coded_is = sym (ap (λ (s : List (Coded Style Mb Picture)). length s) l.own)

  told_is : view.told ≡ map (told_of write_message (rules_of p)) c.said
  told_is = (life.heard p laws k run events view l).told

  abouts_are : abouts ≡ map about c.said
  abouts_are = ap (λ (t : List SaidMessage). map (λ (x : SaidMessage). x.about) t) told_is
      ∙ abouts_told write_message p c.said

  said_is : length view.told ≡ length c.said
  said_is = ap (λ (t : List SaidMessage). length t) told_is ∙ length-map c.said (told_of write_message (rules_of p))

  by_call : (left : ℕ) (e : Event) → first_refusal (rules_of p) left (length run.coded) played abouts e
      ≡ refusal_in (rules_of p) left c e
  by_call left e =
      let coded = coded_is in
      let plays = played_is in
      let told = abouts_are in
      λ i. first_refusal (rules_of p) left (coded i) (plays i) (told i) e

  pub send_is : view_refusal p run view Send ≡ refusal_in (rules_of p) (length run.coded + 1) c Send
  send_is = by_call (length run.coded + 1) Send

  pub packet_is : (left n j : ℕ) → view_refusal p run view (Deliver n j) ≡ refusal_in (rules_of p) left c (Deliver n j)
  packet_is left n j = any_packet p (length run.coded + 1) left (length run.coded) played abouts n j
      ∙ by_call left (Deliver n j)

  pub play_is : (left : ℕ) → view_refusal p run view Play ≡ refusal_in (rules_of p) left c Play
  play_is left = any_play p (length run.coded + 1) left (length run.coded) played abouts ∙ by_call left Play

  pub message_is : (left m : ℕ) → view_refusal p run view (Back m)
      ≡ unless_left (length c.said) (length run.coded) m (refusal_in (rules_of p) left c (Back m))
  message_is left m =
      let said = said_is in
      let same = any_message p (length run.coded + 1) left (length run.coded) played abouts m ∙ by_call left (Back m) in
      λ i. unless_left (said i) (length run.coded) m (same i)

  -- ---- what comes back, what is told and what is counted

  pub heard_is : (m : ℕ) → group_heard p k run view (slice_get view.told m) ≡ after_note p k (slice_get c.said m) run
  heard_is m =
      ap (λ (t : List SaidMessage). option_map_or (λ (told : SaidMessage). group_after_saying p k told.bytes run)
      (slice_get t m) run) told_is
      ∙ note_heard p k m run c.said

  pub texts_are : played < length run.coded → (place : ℕ)
      → played_texts p place run view ≡ shown_texts (pictures_at place) (Some (49 + place)) c.played
      (reference_in c.coded c.played) (next_shown p c)
  texts_are some place =
      let may : c.played < length c.coded = omega (arith, some, played_is, coded_is) in
      let shown = (life.follows p laws k run events view l).shows may in
      let plays = played_is in
      let own = sym l.own in
      λ i. shown_texts (pictures_at place) (Some (49 + place)) (plays i) (reference_in (own i) (plays i)) (shown i)

  pub counts_are : (place : ℕ) → counts_of_view p run place view ≡ counts_line place c
  counts_are place =
      let coded = coded_is in
      let plays = played_is in
      let shown = l.plays in
      λ i. counts_text_of ((49 + place) ∷ codes " played") (plays i) (coded i) (plays_marked one_exact (shown i))
      (plays_marked one_patched (shown i)) (plays_marked one_held (shown i))
