-- What is written is a video.
use Rattle.std.proofs.Common.{◌≡◌, ℕ, suc, ◌≤◌, List, [], ◌∷◌, ◌++◌, length, map, codes, refl, ap, ◌∙◌, arith, All}
use Rattle.std.specs.List.{flat_map}
use Rattle.std.proofs.lemmas.List.Elements.{All-nil, All-cons, All-head, All-tail}
use Rattle.h263_types.specs.declared.format.Format.{Format}
use Rattle.h263_types.specs.declared.format.Format.TheVariants.{SubQcif, Qcif, Cif}
use Rattle.h263_types.specs.declared.Mark.{Mark}
use Rattle.h263_types.specs.declared.Mark.TheVariants.{Exact, Patched, Held}
use Rattle.h263_types.specs.Sizes.{size_of_picture}
use Rattle.h263_planes.specs.Picture.{Picture}
use Rattle.h263_planes.specs.Samples.{IsWhole, bytes_of}
use Rattle.y4m.specs.Line.{tags_of}
use Rattle.y4m.specs.Text.{head_text, mark_text, frame_text}
use Rattle.y4m.specs.Spelled.{IsTextLine, IsHead, SpelledFrame, IsFrame, IsVideo}
use Rattle.y4m.proofs.Videos.{free, tags_accepted}

head_spelled : (f : Format) → IsTextLine (codes "YUV4MPEG2") (head_text f)
head_spelled SubQcif = let tail = codes " W128 H96 F30000:1001 Ip C420jpeg" in
    record { tail = tail; text = refl; apart = refl; one = free tail refl; short = omega arith }
head_spelled Qcif = let tail = codes " W176 H144 F30000:1001 Ip C420jpeg" in
    record { tail = tail; text = refl; apart = refl; one = free tail refl; short = omega arith }
head_spelled Cif = let tail = codes " W352 H288 F30000:1001 Ip C420jpeg" in
    record { tail = tail; text = refl; apart = refl; one = free tail refl; short = omega arith }

pub head_written : (f : Format) → IsHead (head_text f) f
head_written SubQcif = record {
  spelled = head_spelled SubQcif;
  accepted = tags_accepted (tags_of (head_text SubQcif)) refl;
  sized = refl;
}
head_written Qcif = record {
  spelled = head_spelled Qcif;
  accepted = tags_accepted (tags_of (head_text Qcif)) refl;
  sized = refl;
}
head_written Cif = record {
  spelled = head_spelled Cif;
  accepted = tags_accepted (tags_of (head_text Cif)) refl;
  sized = refl;
}

mark_spelled : (mark : Mark) → IsTextLine (codes "FRAME") (mark_text mark)
mark_spelled Exact = let tail = codes " XEXACT" in record {
  tail = tail;
  text = refl;
  apart = refl;
  one = free tail refl;
  short = omega arith;
}
mark_spelled Patched = let tail = codes " XPATCHED" in record {
  tail = tail;
  text = refl;
  apart = refl;
  one = free tail refl;
  short = omega arith;
}
mark_spelled Held = let tail = codes " XHELD" in record {
  tail = tail;
  text = refl;
  apart = refl;
  one = free tail refl;
  short = omega arith;
}

abbrev frame_with : Mark × Picture → SpelledFrame
frame_with s = record { line = mark_text s.0; planes = bytes_of s.1 }

module _ (f : Format) (size : (p : Picture) → IsWhole p → length (bytes_of p) ≡ size_of_picture p.format) where
  abbrev OfFormat : Mark × Picture → Type 0
  OfFormat s = IsWhole s.1 × (s.1.format ≡ f)

  frame_written : (s : Mark × Picture) → OfFormat s → IsFrame f (frame_with s)
  frame_written s is = record { spelled = mark_spelled s.0; size = size s.1 is.0 ∙ ap size_of_picture is.1 }

  frames_written : (shown : List (Mark × Picture)) → All OfFormat shown → All (IsFrame f) (map frame_with shown)
  frames_written [] all = All-nil (IsFrame f)
  frames_written (s ∷ shown) all =
      All-cons (IsFrame f) (frame_with s) (map frame_with shown) (frame_written s (All-head OfFormat s shown all))
      (frames_written shown (All-tail OfFormat s shown all))

  texts_written : (shown : List (Mark × Picture)) → flat_map (λ s. frame_text s.0 s.1) shown
      ≡ flat_map (λ frame. frame.line ++ frame.planes) (map frame_with shown)
  texts_written [] = refl
  texts_written (s ∷ shown) = ap (λ (l : List ℕ). (mark_text s.0 ++ bytes_of s.1) ++ l) (texts_written shown)

  planes_written : (shown : List (Mark × Picture)) → map (λ s. bytes_of s.1) shown
      ≡ map (λ frame. frame.planes) (map frame_with shown)
  planes_written [] = refl
  planes_written (s ∷ shown) = ap (λ (l : List (List ℕ)). bytes_of s.1 ∷ l) (planes_written shown)

  count_written : (shown : List (Mark × Picture)) → length (map frame_with shown) ≡ length shown
  count_written [] = refl
  count_written (s ∷ shown) = ap (λ (n : ℕ). suc n) (count_written shown)

  pub video_written : (shown : List (Mark × Picture)) → All OfFormat shown → length shown ≤ 1048576
      → IsVideo (head_text f ++ flat_map (λ s. frame_text s.0 s.1) shown) f (map (λ s. bytes_of s.1) shown)
  video_written shown all count = record {
    head = head_text f;
    frames = map frame_with shown;
    text = ap (λ (l : List ℕ). head_text f ++ l) (texts_written shown);
    of_head = head_written f;
    of_frames = frames_written shown all;
    of_planes = planes_written shown;
    count = omega (arith, count_written shown, count);
  }
