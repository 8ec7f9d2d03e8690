-- Each receiver of a group follows it, from its joining on.
use Rattle.std.proofs.Common.{Ok, ◌≡◌, ℕ, zero, suc, ◌+◌, ◌-◌, ◌<◌, ◌≤◌, Bool, true, false, ◌&&◌, ◌||◌, refl, sym, ap, ◌∙◌, subst, arith, inl, inr, Option, Some, None, List, [], ◌∷◌, ◌++◌, length, eqb, leb}
use Rattle.std.specs.Prelude.{if◌then◌else◌, slice_get, option_and_then, is_some}
use Rattle.std.specs.Option.{option_map, option_map_or}
use Rattle.std.specs.Result.{result_ok}
use Rattle.std.proofs.lemmas.Bool.{and_parts, leb-true, le-ltb, lt-ltb}
use Rattle.std.proofs.lemmas.List.{get_or-set_same, get_or-set_other, length-append, length-set}
use Rattle.std.proofs.lemmas.List.Folds.{list_any-append}
use Rattle.std.proofs.lemmas.List.FromFn.{length-map-range_with_len}
use Rattle.std.proofs.lemmas.Option.{slice_get_cases, slice_get_past, slice_get_within}
use Rattle.call_model.specs.Numbers.{GreatestIs}
use Rattle.call_model.specs.Coding.{Rules, Coding, Message, pictures_of, reconstruction_of_slices, window}
use Rattle.call_model.specs.CodedPictures.{Coded, capture, depth_at, is_among, picture_at, reference_for}
use Rattle.call_model.specs.IdealCall.{Event, Send, Play, Back, NumberedMessage, Call, Source, AllMayHappenFrom, about, call_from, told_full}
use Rattle.call_model.specs.Lawful.{IsChosen, IsCoding, IsMade, IsPace, IsRules}
use Rattle.call_model.specs.Sending.{bytes_together, known_by_feedback, last_sizes, made_known, packets_at}
use Rattle.call_model.specs.Says.{SaysAsTheCall}
use Rattle.call_model.specs.Sound.{AllSound, AnySoundSender, IsSoundPicture}
use Rattle.call_model.specs.TwoStores.{travelling}
use Rattle.group_sender.specs.Hearing.{GroupIsHeard}
use Rattle.group_sender.specs.InACall.{AreLived, Lived, Done, Arrives, Plays, ComesBack, GroupIsFollowed, began_at, group_entries, lived_events, lived_source}
use Rattle.group_sender.specs.Laws.{IsNewestOfAll}
use Rattle.group_sender.specs.Parties.{Party, all_have, nobody, party_after_saying, party_at, party_joined, with_party_at}
use Rattle.group_sender.specs.Running.{GroupEntry, CaptureAll, FeedbackOf, JoinsAt, LeavesAt, GroupRun, after_feedback_of, group_run, next_for_all}
use Rattle.group_sender.proofs.Encoded.{IsOfEncoder, packet_is_read, picture_by_slices, slice_get_both, slice_get_last, slice_get_left, slice_get_push}
use Rattle.group_sender.proofs.Hearing.{says_the_notes}
use Rattle.group_sender.proofs.Lawful.{all_have_is, reference_is}

both_true : (a b : Bool) → (a && b) ≡ true → (a ≡ true) × (b ≡ true)
both_true a b is = and_parts a b is

module _ {Frame Style Mb Picture Fault MessageFault : Type 0}
    (coding : Coding Frame Style Mb Picture Fault MessageFault) (rules : Rules) (lawful : IsCoding coding rules)
    (ruled : IsRules rules) where
  -- a picture that is coded with a reference from some number on is sound in a call that has the same pictures from
  -- there on, and made by the encoder
  module _ (quant : ℕ) (range : (0 < quant) × (quant < 32)) (frame : Frame) (coded : List (Coded Style Mb Picture))
      (reference : Option ℕ)
      (there : (m : ℕ) → reference ≡ Some m → (y : Coded Style Mb Picture) × (slice_get coded m ≡ Some y)
      × IsMade (pictures_of coding) y.picture) where
    abbrev before_of : Option Picture
    before_of = option_and_then (λ m. picture_at coded m) reference

    abbrev depth_of : ℕ
    depth_of = option_map_or (λ m. depth_at coded m + 1) reference 0

    abbrev style_of : Style
    style_of = coding.encoding.style frame (is_some reference) depth_of quant

    abbrev mbs_of : List Mb
    mbs_of = coding.encoding.choice frame before_of style_of

    has_before : (r : Option ℕ) → ((m : ℕ) → r ≡ Some m → (y : Coded Style Mb Picture) × (slice_get coded m ≡ Some y)
        × IsMade (pictures_of coding) y.picture)
        → is_some (option_and_then (λ m. picture_at coded m) r) ≡ is_some r
    has_before None at = refl
    has_before (Some m) at = let found = at m refl in rw found.1 refl

    before_made : (r : Option ℕ) → ((m : ℕ) → r ≡ Some m → (y : Coded Style Mb Picture) × (slice_get coded m ≡ Some y)
        × IsMade (pictures_of coding) y.picture)
        → (p : Picture) → option_and_then (λ m. picture_at coded m) r ≡ Some p → IsMade (pictures_of coding) p
    before_made None at p e = cc
    before_made (Some m) at p e =
        let found = at m refl in
        let is : (let o : Option Picture = Some found.0.picture in o)
        ≡ Some p = sym (ap (λ (o : Option (Coded Style Mb Picture)). option_map
        (λ (x : Coded Style Mb Picture). x.picture) o) found.1) ∙ e in
        let same : found.0.picture ≡ p = cc in
        subst (λ (q : Picture). IsMade (pictures_of coding) q) same found.2

    chosen_mbs : IsChosen (pictures_of coding) coding.encoding (is_some reference) style_of mbs_of
    chosen_mbs = record {
      frame = frame;
      reference = before_of;
      depth = depth_of;
      quant = quant;
      quant_range = range;
      has_reference = has_before reference there;
      reference_made = before_made reference there;
      style_is = refl;
      mbs_are = refl;
    }

    pub of_encoder : IsOfEncoder (pictures_of coding) coding.encoding
        (capture (pictures_of coding) coding.encoding quant frame coded reference)
    unfolding capture
    of_encoder = record { mbs = mbs_of; chosen = chosen_mbs; slices = refl; made = (_, refl) }

    pub is_sound : (c : Call Style Mb Picture)
        → ((m : ℕ) → reference ≡ Some m → slice_get c.coded m ≡ slice_get coded m)
        → ((m : ℕ) → reference ≡ Some m → (length c.coded ≤ m + window rules) × (is_among c.known m ≡ true))
        → IsSoundPicture (pictures_of coding) rules c (capture (pictures_of coding) coding.encoding quant frame coded
        reference)
    unfolding capture
    is_sound c same known =
        let divides = lawful.encodes.divides (is_some reference) style_of mbs_of chosen_mbs in
        record {
          covers = divides.covers;
          picture =
              picture_by_slices (pictures_of coding) coding.encoding rules lawful.decodes.pictures style_of before_of
              (coding.encoding.cut style_of mbs_of) mbs_of divides
              ∙ ap (λ (o : Option Picture). reconstruction_of_slices (pictures_of coding) style_of o
              (coding.encoding.cut style_of mbs_of)) (same_before reference same);
          reference = known;
        }
      where
        same_before : (r : Option ℕ) → ((m : ℕ) → r ≡ Some m → slice_get c.coded m ≡ slice_get coded m)
            → option_and_then (λ m. picture_at coded m) r ≡ option_and_then (λ m. picture_at c.coded m) r
        same_before None at = refl
        same_before (Some m) at =
            ap (λ (o : Option (Coded Style Mb Picture)). option_map (λ (x : Coded Style Mb Picture). x.picture) o)
            (sym (at m refl))

-- ---- small steps

none_some : {A : Type 0} {B : Type 0} (m : A) → (let o : Option A = None in o) ≡ Some m → B
none_some m e = cc

some_same : {A : Type 0} (x y : A) → Some x ≡ Some y → x ≡ y
some_same x y e = cc

or_known : (a b c d : Bool) → (a || b) ≡ true → (a ≡ true → c ≡ true) → (b ≡ true → d ≡ true) → (c || d) ≡ true
or_known true b c d is left right = ap (λ (x : Bool). x || d) (left refl)
or_known false b true d is left right = refl
or_known false b false d is left right = right is

found_at : {A : Type 0} (xs : List A) (i : ℕ) → i < length xs → (x : A) × (slice_get xs i ≡ Some x)
found_at xs i below = elim (slice_get_cases xs i).1 [
  | inl at ↦ (at.0, at.2)
  | inr far ↦ absurd (omega (arith, below, far.0))
]

module _ {Frame Style Mb Picture Fault MessageFault : Type 0}
    (coding : Coding Frame Style Mb Picture Fault MessageFault) (rules : Rules) (lawful : IsCoding coding rules)
    (ruled : IsRules rules)
    (greatest_is : GreatestIs) (follow : AnySoundSender coding.decoding rules)
    (k : ℕ) (before : List (GroupEntry Frame)) (frame : Frame) (quant : ℕ) (range : (0 < quant) × (quant < 32))
    (final : List (Coded Style Mb Picture)) (count : ℕ)
    (placed : k < length (group_run (pictures_of coding) coding.encoding rules before).parties) where
  abbrev first : GroupRun Style Mb Picture
  first = group_run (pictures_of coding) coding.encoding rules before

  abbrev joined : ℕ
  joined = length first.coded

  abbrev blank : Coded Style Mb Picture
  blank = capture (pictures_of coding) coding.encoding quant frame [] None

  abbrev source : Source Style Mb Picture
  source = lived_source joined blank final

  abbrev packets : List (Coded Style Mb Picture) → ℕ → List (List ℕ)
  packets coded n = packets_at coding.encoding rules final n

  abbrev call : List Event → Call Style Mb Picture
  call past = call_from (pictures_of coding) rules source past

  abbrev group : List (Lived Frame) → GroupRun Style Mb Picture
  group lived = group_run (pictures_of coding) coding.encoding rules (group_entries k before lived)

  -- the call and the group go together
  record Goes (c : Call Style Mb Picture) (g : GroupRun Style Mb Picture) (past : List Event) : Type 0 where
    counts : length c.coded ≡ length g.coded
    late : joined ≤ length g.coded
    same : (n : ℕ) → joined ≤ n → slice_get c.coded n ≡ slice_get g.coded n
    well : (n : ℕ) (x : Coded Style Mb Picture) → joined ≤ n → slice_get g.coded n ≡ Some x
        → IsOfEncoder (pictures_of coding) coding.encoding x
    there : k < length g.parties
    present : (party_at g.parties k).present ≡ true
    since : (party_at g.parties k).since ≡ joined
    told : (m : ℕ) → is_among (party_at g.parties k).told m ≡ true → is_among c.known m ≡ true
    knows : (party_at g.parties k).told ≡ c.known
    sound : AllSound coding.decoding rules source packets past

  blank_is_sound : (c : Call Style Mb Picture) → IsSoundPicture (pictures_of coding) rules c blank
  blank_is_sound c = is_sound coding rules lawful ruled quant range frame [] None (λ m e. none_some m e) c
      (λ m e. none_some m e) (λ m e. none_some m e)

  began : (n : ℕ) → n ≤ joined → (length (call (began_at n)).coded ≡ n)
      × AllSound coding.decoding rules source packets (began_at n)
  began zero low = (refl, tt)
  began (suc n) low =
      let earlier = began n (omega (arith, low)) in
      let c = call (began_at n) in
      let is : source c ≡ Some blank = ap (λ (b : Bool). if b then Some blank else slice_get final (length c.coded))
      (lt-ltb (length c.coded) joined (omega (arith, earlier.0, low))) in
      let long : length (call (Play ∷ Send ∷ began_at n)).coded ≡ length c.coded + 1 =
      ap (λ (o : Option (Coded Style Mb Picture)). length (c.coded ++ option_map_or (λ x. x ∷ []) o [])) is
      ∙ length-append c.coded (blank ∷ [])
      in (
        omega (arith, long, earlier.0),
        (
          tt,
          (
            λ x at. subst (λ (y : Coded Style Mb Picture). IsSoundPicture (pictures_of coding) rules c y)
                (some_same blank x (sym is ∙ at)) (blank_is_sound c),
            earlier.1,
          ),
        ),
      )

  -- before it joined nothing came back of it
  began_knows : (n : ℕ) → (call (began_at n)).known ≡ []
  began_knows zero = refl
  began_knows (suc n) = began_knows n

  -- another's place changes
  other_place : (c : Call Style Mb Picture) (g : GroupRun Style Mb Picture) (past : List Event) (j : ℕ) (p : Party)
      → (j ≡ k → ⊥) → Goes c g past
      → Goes c (record g { parties = with_party_at j p g.parties }) past
  other_place c g past j p apart at =
      let stays : party_at (with_party_at j p g.parties) k ≡ party_at g.parties k =
      get_or-set_other g.parties j k p nobody (λ e. apart (sym e)) in
      record {
        counts = at.counts;
        late = at.late;
        same = at.same;
        well = at.well;
        there = subst (λ (n : ℕ). k < n) (sym (length-set g.parties j p)) at.there;
        present = ap (λ (q : Party). q.present) stays ∙ at.present;
        since = ap (λ (q : Party). q.since) stays ∙ at.since;
        told = λ m is. at.told m (sym (ap (λ (q : Party). is_among q.told m) stays) ∙ is);
        knows = ap (λ (q : Party). q.told) stays ∙ at.knows;
        sound = at.sound;
      }

  reference_of : (q : ℕ) (f : Frame) (coded : List (Coded Style Mb Picture)) (r : Option ℕ)
      → (capture (pictures_of coding) coding.encoding q f coded r).reference ≡ r
  unfolding capture
  reference_of q f coded r = refl

  -- a pace is asked for 16 sizes at most
  sizes_few : (coded : List (Coded Style Mb Picture)) → length (last_sizes coding.encoding rules coded) ≤ 16
  sizes_few coded =
      let long : length (last_sizes coding.encoding rules coded) ≡ length coded - (length coded - 16) =
      length-map-range_with_len (λ n. bytes_together (packets_at coding.encoding rules coded n)) (length coded - 16)
      (length coded - (length coded - 16))
      in
      omega (arith, long)

  -- a picture is coded
  one_picture : (g : GroupRun Style Mb Picture) (past : List Event) (pace : List ℕ → ℕ) (f : Frame) → IsPace pace
      → Goes (call past) g past
      → slice_get final (length g.coded) ≡ Some (next_for_all (pictures_of coding) coding.encoding rules pace f g)
      → Goes (call (Send ∷ past)) (record g {
        coded = g.coded
            ++ next_for_all (pictures_of coding) coding.encoding rules pace f g ∷ [];
      }) (Send ∷ past)
  one_picture g past pace f paces at is_final =
      let c = call past in
      let n = length g.coded in
      let q = pace (last_sizes coding.encoding rules g.coded) in
      let r = reference_for rules (depth_at g.coded) (all_have g.parties) n in
      let x = next_for_all (pictures_of coding) coding.encoding rules pace f g in
      let source_is : source c ≡ Some x =
      ap (λ (b : Bool). if b then Some blank else slice_get final (length c.coded))
      (le-ltb (length c.coded) joined (omega (arith, at.late, at.counts)))
      ∙ ap (λ (i : ℕ). slice_get final i) at.counts ∙ is_final
      in
      let newest : (m : ℕ) → r ≡ Some m
      → IsNewestOfAll rules g m =
      λ m e. ((reference_is (pictures_of coding) coding.encoding rules greatest_is pace f g m).0
      (reference_of q f g.coded r ∙ e)).0 in
      let has : (m : ℕ) → r ≡ Some m → (joined ≤ m) × (is_among c.known m ≡ true) = λ m e.
      let parts = both_true (leb (party_at g.parties k).since m) (is_among (party_at g.parties k).told m)
      ((all_have_is g.parties m).0 (newest m e).all k at.there at.present) in
      (subst (λ (i : ℕ). i ≤ m) at.since (leb-true (party_at g.parties k).since m parts.0), at.told m parts.1)
      in
      let there : (m : ℕ) → r ≡ Some m → (y : Coded Style Mb Picture) × (slice_get g.coded m ≡ Some y)
      × IsMade (pictures_of coding) y.picture = λ m e.
      let found = found_at g.coded m (newest m e).sent in
      (found.0, found.1, (at.well m found.0 (has m e).0 found.1).made)
      in
      let in_range : (0 < q) × (q < 32) = paces (last_sizes coding.encoding rules g.coded) (sizes_few g.coded) in
      let sound_x : IsSoundPicture (pictures_of coding) rules c x =
      is_sound coding rules lawful ruled q in_range f g.coded r there c (λ m e. at.same m (has m e).0)
      (λ m e. (subst (λ (i : ℕ). i ≤ m + window rules) (sym at.counts) (newest m e).near, (has m e).1))
      in
      let with_x : (call (Send ∷ past)).coded ≡ c.coded ++ x ∷ [] = ap (λ (o : Option (Coded Style Mb Picture)). c.coded
      ++ option_map_or (λ y. y ∷ []) o []) source_is in
      record {
        counts = ap (λ (l : List (Coded Style Mb Picture)). length l) with_x ∙ length-append c.coded (x ∷ [])
            ∙ ap (λ (i : ℕ). i + 1) at.counts ∙ sym (length-append g.coded (x ∷ []));
        late = omega (arith, at.late, length-append g.coded (x ∷ []));
        same = λ m late. ap (λ (l : List (Coded Style Mb Picture)). slice_get l m) with_x
            ∙ slice_get_both c.coded g.coded x m at.counts (at.same m late);
        well = λ m y late is. elim (slice_get_push g.coded x m y is) [
          | inl old ↦ at.well m y late old
          | inr new ↦ subst (λ (z : Coded Style Mb Picture). IsOfEncoder (pictures_of coding) coding.encoding z)
              (sym new.1) (of_encoder coding rules lawful ruled q in_range f g.coded r there)
        ];
        there = at.there;
        present = at.present;
        since = at.since;
        told = at.told;
        knows = at.knows;
        sound = (
          λ y is. subst (λ (z : Coded Style Mb Picture). IsSoundPicture (pictures_of coding) rules c z)
              (some_same x y (sym source_is ∙ is)) sound_x,
          at.sound,
        );
      }

  -- a message of this receiver comes back
  one_message : (g : GroupRun Style Mb Picture) (past : List Event) (i : ℕ) (bytes : List ℕ) (note : NumberedMessage)
      → AllMayHappenFrom (pictures_of coding) rules source count past → slice_get (call past).said i ≡ Some note
      → length (call past).coded < about note + rules.half
      → bytes ≡ coding.encoding.write_message (travelling rules note) → Goes (call past) g past
      → Goes (call (Back i ∷ past)) (after_feedback_of (pictures_of coding) coding.encoding rules k bytes g)
      (Back i ∷ past)
  one_message g past i bytes note near said close bytes_are at =
      let c = call past in
      let n = length g.coded in
      let party = party_at g.parties k in
      let u = (follow source packets count past near at.sound).messages i note said in
      let read : coding.encoding.read_message bytes ≡ Ok (travelling rules note) =
      ap (λ (b : List ℕ). coding.encoding.read_message b) bytes_are
      ∙ lawful.encodes.message_again (travelling rules note) u.in_period u.flags
      in
      let made : made_known rules n (travelling rules note) ≡ Some (told_full note) =
      subst (λ (s : ℕ). made_known rules s (travelling rules note) ≡ Some (told_full note)) at.counts
      (u.known close) in
      let numbers = known_by_feedback rules n (result_ok (coding.encoding.read_message bytes)) in
      let are : numbers ≡ told_full note =
      ap (λ (o : Option Message). known_by_feedback rules n o) (ap result_ok read)
      ∙ ap (λ (o : Option (List ℕ)). option_map_or (λ (l : List ℕ). l) o []) made
      in
      let heard : Party = record party { told = numbers ++ party.told } in
      let here : party_at (with_party_at k (party_after_saying numbers party) g.parties) k ≡ heard =
      get_or-set_same g.parties k (party_after_saying numbers party) nobody at.there
      ∙ ap (λ (b : Bool). if b then heard else party) at.present
      in
      let known : (call (Back i ∷ past)).known ≡ told_full note
      ++ c.known = ap (λ (o : Option NumberedMessage). option_map_or told_full o [] ++ c.known) said in
      record {
        counts = at.counts;
        late = at.late;
        same = at.same;
        well = at.well;
        there = subst (λ (l : ℕ). k < l) (sym (length-set g.parties k (party_after_saying numbers party))) at.there;
        present = ap (λ (q : Party). q.present) here ∙ at.present;
        since = ap (λ (q : Party). q.since) here ∙ at.since;
        told = λ m is.
            let mine : (is_among numbers m || is_among party.told m)
            ≡ true = sym (list_any-append (λ j. eqb j m) numbers party.told)
            ∙ sym (ap (λ (q : Party). is_among q.told m) here) ∙ is in
            ap (λ (l : List ℕ). is_among l m) known ∙ list_any-append (λ j. eqb j m) (told_full note) c.known
            ∙ or_known (is_among numbers m) (is_among party.told m) (is_among (told_full note) m)
            (is_among c.known m) mine (λ t. sym (ap (λ (l : List ℕ). is_among l m) are) ∙ t) (at.told m);
        knows = ap (λ (q : Party). q.told) here ∙ (λ i. are i ++ at.knows i) ∙ sym known;
        sound = (tt, at.sound);
      }

  abbrev IsFront : List (Lived Frame) → Type 0
  IsFront lived = (n : ℕ) (x : Coded Style Mb Picture) → slice_get (group lived).coded n ≡ Some x
      → slice_get final n ≡ Some x

  goes : (lived : List (Lived Frame)) → AreLived coding rules k joined source lived
      → AllMayHappenFrom (pictures_of coding) rules source count (lived_events joined lived) → IsFront lived
      → Goes (call (lived_events joined lived)) (group lived) (lived_events joined lived)
  goes [] fair near front =
      let b = began joined (omega arith) in
      let here : party_at (with_party_at k (party_joined joined) first.parties) k
      ≡ party_joined joined = get_or-set_same first.parties k (party_joined joined) nobody placed in
      record {
        counts = b.0;
        late = omega arith;
        same = λ n late. slice_get_past (call (began_at joined)).coded n (omega (arith, b.0, late))
            ∙ sym (slice_get_past first.coded n late);
        well = λ n x late at. absurd (omega (arith, late, slice_get_within first.coded n x at));
        there = subst (λ (n : ℕ). k < n) (sym (length-set first.parties k (party_joined joined))) placed;
        present = ap (λ (q : Party). q.present) here;
        since = ap (λ (q : Party). q.since) here;
        told = λ m is. let wrong : false ≡ true = sym (ap (λ (q : Party). is_among q.told m) here) ∙ is in cc;
        knows = ap (λ (q : Party). q.told) here ∙ sym (began_knows joined);
        sound = b.1;
      }
  goes (Done (CaptureAll pace f) ∷ past) fair near front =
      let g = group past in
      let x = next_for_all (pictures_of coding) coding.encoding rules pace f g in
      one_picture g (lived_events joined past) pace f fair.0
      (goes past fair.1 near.1 (λ n y is. front n y (slice_get_left g.coded (x ∷ []) n y is)))
      (front (length g.coded) x (slice_get_last g.coded x))
  goes (Done (FeedbackOf j bytes) ∷ past) fair near front =
      other_place (call (lived_events joined past)) (group past) (lived_events joined past) j _ fair.0
      (goes past fair.1 near front)
  goes (Done (JoinsAt j) ∷ past) fair near front =
      other_place (call (lived_events joined past)) (group past) (lived_events joined past) j _ fair.0
      (goes past fair.1 near front)
  goes (Done (LeavesAt j) ∷ past) fair near front =
      other_place (call (lived_events joined past)) (group past) (lived_events joined past) j _ fair.0
      (goes past fair.1 near front)
  goes (Arrives n j ∷ past) fair near front =
      let at = goes past fair.1 near.1 front in
      record {
        counts = at.counts;
        late = at.late;
        same = at.same;
        well = at.well;
        there = at.there;
        present = at.present;
        since = at.since;
        told = at.told;
        knows = at.knows;
        sound = (
          λ x is.
              let own : slice_get (group past).coded n ≡ Some x = sym (at.same n fair.0) ∙ is in
              packet_is_read coding rules lawful ruled final n j x (front n x own) (at.well n x fair.0 own),
          at.sound,
        );
      }
  goes (Plays ∷ past) fair near front =
      let at = goes past fair near.1 front in
      record {
        counts = at.counts;
        late = at.late;
        same = at.same;
        well = at.well;
        there = at.there;
        present = at.present;
        since = at.since;
        told = at.told;
        knows = at.knows;
        sound = (tt, at.sound);
      }
  goes (ComesBack i bytes ∷ past) fair near front =
      one_message (group past) (lived_events joined past) i bytes near.0.0 near.1 near.0.1 near.0.2
      (fair.0 near.0.0 near.0.1) (goes past fair.1 near.1 front)

pub group_is_followed : {Frame Style Mb Picture Fault MessageFault : Type 0}
    (coding : Coding Frame Style Mb Picture Fault MessageFault) (rules : Rules)
    → IsCoding coding rules → IsRules rules → GreatestIs → AnySoundSender coding.decoding rules
    → GroupIsFollowed coding rules
group_is_followed coding rules lawful ruled greatest_is follow k before lived frame quant count placed range fair near =
    let coded = (group_run (pictures_of coding) coding.encoding rules (group_entries k before lived)).coded in
    let at = goes coding rules lawful ruled greatest_is follow k before frame quant range coded count placed lived fair
    near (λ n x is. is) in
    record {
      follows = follow _ _ count _ near at.sound;
      own = at.same;
    }

pub group_is_heard : {Frame Style Mb Picture Fault MessageFault : Type 0}
    (coding : Coding Frame Style Mb Picture Fault MessageFault) (rules : Rules)
    → IsCoding coding rules → IsRules rules → GreatestIs → AnySoundSender coding.decoding rules
    → SaysAsTheCall coding.decoding rules → GroupIsHeard coding rules
group_is_heard coding rules lawful ruled greatest_is follow says k before lived frame quant count placed range fair near
    =
    let coded = (group_run (pictures_of coding) coding.encoding rules (group_entries k before lived)).coded in
    let at = goes coding rules lawful ruled greatest_is follow k before frame quant range coded count placed lived fair
    near (λ n x is. is) in
    record {
      says = says_the_notes coding rules follow says _ (λ _ n. packets_at coding.encoding rules coded n) count _ near
          at.sound;
      knows = at.knows;
    }
