-- The first byte of a line that can't go on: the bytes before it begin a text, and with it they begin none.
use Rattle.std.proofs.Common.{◌≡◌, ℕ, zero, suc, ◌+◌, ◌-◌, ◌<◌, ◌≤◌, ◌==◌, min, Bool, true, false, cond, inl, inr, List, [], ◌∷◌, ◌++◌, length, take, drop, codes, Option, Some, None, Result, Ok, Err, refl, sym, ap, subst, ◌∙◌, append_assoc, arith, length-take}
use Rattle.std.specs.Prelude.{nat_lt, replicate}
use Rattle.std.specs.List.{flat_map}
use Rattle.std.proofs.lemmas.Bool.{cases_lt, cases_eq}
use Rattle.std.proofs.lemmas.Bool.Decides.{nat_tests}
use Rattle.std.proofs.lemmas.List.{append-nil, take-append-drop, length-replicate}
use Rattle.std.proofs.lemmas.List.Elements.{All-nil}
use Rattle.h263_types.specs.declared.format.Format.{Format}
use Rattle.h263_types.specs.declared.format.Format.TheVariants.{SubQcif}
use Rattle.h263_types.specs.Sizes.{size_of_picture}
use Rattle.y4m.specs.declared.fault.Y4mFault.{Y4mFault}
use Rattle.y4m.specs.declared.fault.Y4mFault.TheVariants.{NotY4m, ShortFrame}
use Rattle.h263_outside.specs.Lines.{NoNewline}
use Rattle.y4m.specs.Line.{Tag, is_gap, agreement, line_within, is_line_whole, tags_of}
use Rattle.y4m.specs.Head.{tag_fault, tags_fault, format_sized, format_in, format_of_line, head_line, head_of}
use Rattle.y4m.specs.Frame.{frame_line, line_stop, stop_fault, planes_of, frame_after_line, frame_of}
use Rattle.y4m.specs.Spelled.{StandsApart, IsTextLine, SpelledFrame, IsFrame, IsVideo}
use Rattle.y4m.specs.Text.{head_text}
use Rattle.y4m.specs.Begun.{BeginsVideo, BeginsFrame}
use Rattle.y4m.proofs.Spelling.{other_heads, same_heads_as, agreement-append}
use Rattle.y4m.proofs.Heads.{no_word, bad_tag, not_whole, whole_head}
use Rattle.y4m.proofs.Places.{agreed_free, free_last, open_line}
use Rattle.y4m.proofs.Videos.{free}
use Rattle.y4m.proofs.Written.{head_written}

-- ---- how far a line agrees with a word

agreed_within : (word line : List ℕ) → agreement word line ≤ length line
agreed_within word [] = omega arith
agreed_within [] (b ∷ line) = at (is_gap b)
  where
    at : (t : Bool) → cond t 1 0 ≤ length (b ∷ line)
    at true = omega arith
    at false = omega arith
agreed_within (a ∷ word) (b ∷ line) =
    elim (cases_eq a b) [
      | inl same ↦ omega (arith, same_heads_as a b word line same, agreed_within word line)
      | inr other ↦ omega (arith, other_heads a b word line other)
    ]

-- up to where it agrees a line is the word
same_front : (word line : List ℕ) → agreement word line ≤ length word → take (agreement word line) line
    ≡ take (agreement word line) word
same_front word [] le = refl
same_front [] (b ∷ line) le =
    let e : agreement [] (b ∷ line) ≡ 0 = omega (arith, le) in
    ap (λ (n : ℕ). take n (b ∷ line)) e ∙ sym (ap (λ (n : ℕ). take n []) e)
same_front (a ∷ word) (b ∷ line) le =
    elim (cases_eq a b) [
      | inl same ↦
          let k = agreement word line in
          let e : agreement (a ∷ word) (b ∷ line) ≡ suc k = same_heads_as a b word line same in
          let more : take k line ≡ take k word = same_front word line (omega (arith, le, e)) in
          ap (λ (n : ℕ). take n (b ∷ line)) e ∙ ap (λ (l : List ℕ). b ∷ l) more
          ∙ ap (λ (x : ℕ). x ∷ take k word) (sym same) ∙ sym (ap (λ (n : ℕ). take n (a ∷ word)) e)
      | inr other ↦
          let e : agreement (a ∷ word) (b ∷ line) ≡ 0 = other_heads a b word line other in
          ap (λ (n : ℕ). take n (b ∷ line)) e ∙ sym (ap (λ (n : ℕ). take n (a ∷ word)) e)
    ]

-- with the byte after that, a line agrees no further, whatever follows
kept : (word line more : List ℕ) → agreement word line < length line
    → agreement word (take (suc (agreement word line)) line ++ more) ≡ agreement word line
kept word [] more lt = absurd (omega arith)
kept [] (b ∷ line) more lt = refl
kept (a ∷ word) (b ∷ line) more lt =
    elim (cases_eq a b) [
      | inl same ↦
          let k = agreement word line in
          let e : agreement (a ∷ word) (b ∷ line) ≡ suc k = same_heads_as a b word line same in
          ap (λ (n : ℕ). agreement (a ∷ word) (take (suc n) (b ∷ line) ++ more)) e
          ∙ same_heads_as a b word (take (suc k) line ++ more) same
          ∙ ap (λ (n : ℕ). suc n) (kept word line more (omega (arith, lt, e))) ∙ sym e
      | inr other ↦
          let e : agreement (a ∷ word) (b ∷ line) ≡ 0 = other_heads a b word line other in
          ap (λ (n : ℕ). agreement (a ∷ word) (take (suc n) (b ∷ line) ++ more)) e
          ∙ other_heads a b word (take 0 line ++ more) other ∙ sym e
    ]

-- a prefix of a line is a prefix of its bytes
line_take : (m : ℕ) (bytes : List ℕ) (n : ℕ) → n ≤ length (line_within m bytes) → take n (line_within m bytes)
    ≡ take n bytes
line_take zero bytes zero le = refl
line_take zero bytes (suc n) le = absurd (omega arith)
line_take (suc m) [] n le = refl
line_take (suc m) (b ∷ bytes) zero le = refl
line_take (suc m) (b ∷ bytes) (suc n) le = ap (λ (l : List ℕ). b ∷ l)
    (at (b == 10) (omega (arith, le)) (λ more. line_take m bytes n more))
  where
    at : (t : Bool) → n ≤ length (cond t [] (line_within m bytes))
        → (n ≤ length (line_within m bytes) → take n (line_within m bytes) ≡ take n bytes)
        → take n (cond t [] (line_within m bytes)) ≡ take n bytes
    at true few more = let e : n ≡ 0 = omega (arith, few) in ap (λ (k : ℕ). take k []) e
        ∙ sym (ap (λ (k : ℕ). take k bytes) e)
    at false few more = more few

-- a line that agrees to its end is all of its bytes
all_there : (word : List ℕ) (m : ℕ) (bytes : List ℕ) → NoNewline word → length word < m
    → agreement word (line_within m bytes) ≤ length word → agreement word (line_within m bytes) < length bytes
    → agreement word (line_within m bytes) < length (line_within m bytes)
all_there word m bytes none few le lt =
    let line = line_within m bytes in
    let n = agreement word line in
    elim (cases_lt n (length line)) [
      | inl less ↦ less
      | inr whole ↦
          let all : n ≡ length line = omega (arith, whole, agreed_within word line) in
          let open_end : line ≡ take m bytes = open_line (take m bytes)
          (free_last line (agreed_free word line none all (omega (arith, le, all)))) in
          absurd (omega (arith, all, lt, le, few, ap length open_end, length-take m bytes))
    ]

-- a whole line agrees with its word and the gap after it, whatever follows
begun : (word line rest : List ℕ) → IsTextLine word line → agreement word (line ++ rest) ≡ length word + 1
begun word line rest l =
    let tail = l.tail ++ 10 ∷ [] in
    let parts : line ++ rest ≡ word ++ (tail ++ rest) = ap (λ (x : List ℕ). x ++ rest) (l.text
    ∙ append_assoc word l.tail (10 ∷ [])) ∙ append_assoc word tail rest in
    ap (agreement word) parts ∙ agreement-append word (tail ++ rest)
    ∙ ap (λ (n : ℕ). length word + n) (gap l.tail l.apart)
  where
    gap : (t : List ℕ) → StandsApart t → agreement [] ((t ++ 10 ∷ []) ++ rest) ≡ 1
    gap [] apart = refl
    gap (b ∷ t) apart = ap (λ (x : ℕ). agreement [] (x ∷ ((t ++ 10 ∷ []) ++ rest))) apart

-- where bytes stop agreeing inside the word, they go on to no whole line
no_line : (word bytes more line rest : List ℕ) (m n : ℕ) → n ≡ agreement word (line_within m bytes)
    → n < length (line_within m bytes) → n < length word + 1 → IsTextLine word line → take (suc n) bytes ++ more ≡ line
    ++ rest → ⊥
no_line word bytes more line rest m n is lt inside l whole =
    let taken : take (suc n) (line_within m bytes) ≡ take (suc n) bytes = line_take m bytes (suc n)
    (omega (arith, lt)) in
    let here : agreement word (take (suc n) (line_within m bytes) ++ more) ≡ n =
    ap (λ (k : ℕ). agreement word (take (suc k) (line_within m bytes) ++ more)) is
    ∙ kept word (line_within m bytes) more (omega (arith, is, lt)) ∙ sym is in
    let there : agreement word (take (suc n) bytes ++ more) ≡ length word + 1 = ap (agreement word) whole
    ∙ begun word line rest l in
    let same : agreement word (take (suc n) (line_within m bytes) ++ more) ≡ agreement word (take (suc n) bytes
    ++ more) = ap (λ (x : List ℕ). agreement word (x ++ more)) taken in
    omega (arith, here, there, same, inside)

-- up to there they are a prefix of the word
word_front : (word bytes : List ℕ) (m n : ℕ) → n ≡ agreement word (line_within m bytes) → n ≤ length word
    → take n bytes ≡ take n word
word_front word bytes m n is le =
    let line = line_within m bytes in
    let some : n ≤ length line = omega (arith, is, agreed_within word line) in
    sym (line_take m bytes n some) ∙ ap (λ (k : ℕ). take k line) is ∙ same_front word line (omega (arith, is, le))
    ∙ sym (ap (λ (k : ℕ). take k word) is)

-- ---- the head

abbrev head_word : List ℕ
head_word = codes "YUV4MPEG2"

not_of_tag : (tag : Tag) (n : ℕ) → tag_fault tag ≡ Some (NotY4m n) → ⊥
not_of_tag tag n e = grind arith

not_of_tags : (tags : List Tag) (n : ℕ) → tags_fault tags ≡ Some (NotY4m n) → ⊥
not_of_tags [] n e = cc
not_of_tags (tag ∷ tags) n e = at (tag_fault tag) refl e (not_of_tags tags n)
  where
    at : (o : Option Y4mFault) → tag_fault tag ≡ o → tags_fault (tag ∷ tags) ≡ Some (NotY4m n)
        → (tags_fault tags ≡ Some (NotY4m n) → ⊥) → ⊥
    at None is e more = more (let same : tags_fault (tag ∷ tags) ≡ tags_fault tags = rw is refl in sym same ∙ e)
    at (Some fault) is e more = not_of_tag tag n (let same : tags_fault (tag ∷ tags) ≡ Some fault = rw is refl in is
        ∙ sym same ∙ e)

not_of_size : (o : Option Format) (at n : ℕ) → format_sized o at ≡ Err (NotY4m n) → ⊥
not_of_size None at n e = cc
not_of_size (Some f) at n e = cc

not_y4m_is : (m n : ℕ) → NotY4m m ≡ NotY4m n → m ≡ n
not_y4m_is m n e = cc

err_fault : (a b : Y4mFault) (r : Result Format Y4mFault) → r ≡ Err a → r ≡ Err b → a ≡ b
err_fault a b r p q = cc

-- inside the word the fault stands where the line stops agreeing with it
head_agrees : (line : List ℕ) (n : ℕ) → format_of_line line ≡ Err (NotY4m n) → n < 10 → n ≡ agreement head_word line
head_agrees line n e lt =
    let k = agreement head_word line in
    elim (cases_lt k 10) [
      | inl inside ↦ sym (not_y4m_is k n (err_fault (NotY4m k) (NotY4m n) (format_of_line line)
          (no_word k line refl (omega (arith, inside))) e))
      | inr after ↦ absurd (at (tags_fault (tags_of line)) (is_line_whole line) refl refl (omega (arith, after)))
    ]
  where
    at : (o : Option Y4mFault) (t : Bool) → tags_fault (tags_of line) ≡ o → is_line_whole line ≡ t
        → 9 < agreement head_word line → ⊥
    at (Some fault) t p q more = not_of_tags (tags_of line) n (p
        ∙ ap (λ (x : Y4mFault). Some x) (err_fault fault (NotY4m n) (format_of_line line)
        (bad_tag (agreement head_word line) line fault refl more p) e))
    at None false p q more =
        let same : length line ≡ n = not_y4m_is (length line) n (err_fault (NotY4m (length line)) (NotY4m n)
        (format_of_line line) (not_whole (agreement head_word line) line refl more p q) e) in
        absurd (omega (arith, same, lt, more, agreed_within head_word line))
    at None true p q more = not_of_size (format_in (tags_of line)) (length line - 1) n
        (sym (whole_head (agreement head_word line) line (format_in (tags_of line)) refl more p q refl) ∙ e)

-- the text of a video with no frame
blank_video : IsVideo (head_text SubQcif) SubQcif []
blank_video = record {
  head = head_text SubQcif;
  frames = [];
  text = sym (append-nil (head_text SubQcif));
  of_head = head_written SubQcif;
  of_frames = All-nil (IsFrame SubQcif);
  of_planes = refl;
  count = omega arith;
}

pub head_place : (video : List ℕ) (n : ℕ) → head_of video ≡ Err (NotY4m n) → n < length video → n < 10
    → BeginsVideo (take n video) × (BeginsVideo (take (suc n) video) → ⊥)
head_place video n e lt inside =
    let is : n ≡ agreement head_word (line_within 256 video) = head_agrees (head_line video) n e inside in
    let less : n < length (line_within 256 video) =
    (let there = all_there head_word 256 video (free head_word refl) (omega arith) (omega (arith, is, inside))
    (omega (arith, is, lt)) in omega (arith, is, there)) in
    let front : take n video ≡ take n head_word = word_front head_word video 256 n is (omega (arith, inside)) in
    let rest = codes " W128 H96 F30000:1001 Ip C420jpeg" ++ 10 ∷ [] in
    let whole : take n video ++ (drop n head_word ++ rest) ≡ head_text SubQcif =
    ap (λ (l : List ℕ). l ++ (drop n head_word ++ rest)) front
    ∙ sym (append_assoc (take n head_word) (drop n head_word) rest)
    ∙ ap (λ (l : List ℕ). l ++ rest) (take-append-drop n head_word) in (
      (drop n head_word ++ rest, SubQcif, [], subst (λ (l : List ℕ). IsVideo l SubQcif []) (sym whole) blank_video),
      λ b. let v = b.3 in no_line head_word video b.0 v.head (flat_map (λ frame. frame.line ++ frame.planes) v.frames)
          256 n is less (omega (arith, inside)) v.of_head.spelled v.text,
    )

-- ---- a frame

abbrev frame_word : List ℕ
frame_word = codes "FRAME"

-- the stop of a line inside its word
stop_agrees : (k size n : ℕ) (whole : Bool) → k ≤ size
    → cond (nat_lt k 6) (Some k) (cond whole None (Some (min size 256))) ≡ Some n → n < 6 → n ≡ k
stop_agrees k size n whole le e lt =
    elim (cases_lt k 6) [
      | inl inside ↦ at_word (test k inside)
      | inr after ↦ absurd (by_whole whole
          (sym (ap (λ (b : Bool). cond b (Some k) (cond whole None (Some (min size 256)))) (above k after)) ∙ e) after)
    ]
  where
    test : (k : ℕ) → k < 6 → nat_lt k 6 ≡ true
    test k lt = grind (arith, nat_tests)

    above : (k : ℕ) → 6 ≤ k → nat_lt k 6 ≡ false
    above k le = grind (arith, nat_tests)

    at_word : nat_lt k 6 ≡ true → n ≡ k
    at_word t = let one : Some k
        ≡ Some n = sym (ap (λ (b : Bool). cond b (Some k) (cond whole None (Some (min size 256)))) t) ∙ e in
        let same : k ≡ n = cc one in sym same

    by_whole : (whole : Bool) → cond whole None (Some (min size 256)) ≡ Some n → 6 ≤ k → ⊥
    by_whole true e six = cc e
    by_whole false e six = let m : min size 256 ≡ n = cc e in absurd (omega (arith, m, le, six, lt))

stop_not : (at size stop n : ℕ) → stop_fault at size stop ≡ NotY4m (at + n) → stop ≡ n
stop_not at size stop n e = by (stop == size) e
  where
    by : (b : Bool) → cond b (ShortFrame (at + stop)) (NotY4m (at + stop)) ≡ NotY4m (at + n) → stop ≡ n
    by true e = absurd (cc e)
    by false e = let same : at + stop ≡ at + n = cc e in omega (arith, same)

planes_not : (f : Format) (at line n : ℕ) (rest : List ℕ) → planes_of f at line rest ≡ Err (NotY4m (at + n)) → ⊥
planes_not f at line n rest e = by (nat_lt (length rest) (line + size_of_picture f)) e
  where
    by : (b : Bool) → cond b (Err (ShortFrame (at + length rest))) (Ok (take (size_of_picture f) (drop line rest)))
        ≡ Err (NotY4m (at + n)) → ⊥
    by true e = cc e
    by false e = cc e

frame_agrees : (f : Format) (at n : ℕ) (rest : List ℕ) → frame_of f at rest ≡ Err (NotY4m (at + n)) → n < 6
    → n ≡ agreement frame_word (frame_line rest)
unfolding frame_of
frame_agrees f at n rest e lt = by (line_stop (frame_line rest)) refl e
  where
    by : (o : Option ℕ) → line_stop (frame_line rest) ≡ o → frame_after_line o f at (length (frame_line rest)) rest
        ≡ Err (NotY4m (at + n)) → n ≡ agreement frame_word (frame_line rest)
    by None is e = absurd (planes_not f at (length (frame_line rest)) n rest e)
    by (Some stop) is e =
        let fault : stop_fault at (length (frame_line rest)) stop ≡ NotY4m (at + n) = cc e in
        let here : line_stop (frame_line rest) ≡ Some n = is
        ∙ ap (λ (k : ℕ). Some k) (stop_not at (length (frame_line rest)) stop n fault) in
        stop_agrees (agreement frame_word (frame_line rest)) (length (frame_line rest)) n
        (is_line_whole (frame_line rest))
        (agreed_within frame_word (frame_line rest)) here lt

-- a frame with no tag and only zeros
abbrev blank_frame : Format → SpelledFrame
blank_frame f = record { line = frame_word ++ 10 ∷ []; planes = replicate (size_of_picture f) 0 }

blank_is : (f : Format) → IsFrame f (blank_frame f)
blank_is f = record {
  spelled = record { tail = []; text = refl; apart = tt; one = free [] refl; short = omega arith };
  size = length-replicate (size_of_picture f) 0;
}

pub frame_place : (f : Format) (at n : ℕ) (rest : List ℕ) → frame_of f at rest ≡ Err (NotY4m (at + n)) → n < length rest
    → n < 6 → BeginsFrame f (take n rest) × (BeginsFrame f (take (suc n) rest) → ⊥)
frame_place f at n rest e lt inside =
    let is : n ≡ agreement frame_word (line_within 257 rest) = frame_agrees f at n rest e inside in
    let less : n < length (line_within 257 rest) =
    (let there = all_there frame_word 257 rest (free frame_word refl) (omega arith) (omega (arith, is, inside))
    (omega (arith, is, lt)) in omega (arith, is, there)) in
    let front : take n rest ≡ take n frame_word = word_front frame_word rest 257 n is (omega (arith, inside)) in
    let frame = blank_frame f in
    let after = 10 ∷ frame.planes in
    let whole : take n rest ++ (drop n frame_word ++ after) ≡ frame.line ++ frame.planes =
    ap (λ (l : List ℕ). l ++ (drop n frame_word ++ after)) front
    ∙ sym (append_assoc (take n frame_word) (drop n frame_word) after)
    ∙ ap (λ (l : List ℕ). l ++ after) (take-append-drop n frame_word) in (
      (drop n frame_word ++ after, frame, blank_is f, whole),
      λ b. no_line frame_word rest b.0 b.1.line b.1.planes 257 n is less (omega (arith, inside)) b.2.spelled b.3,
    )
