-- What a sender holds after one more picture.
use Rattle.std.proofs.Common.{◌≡◌, ℕ, ◌+◌, ◌%◌, ◌<◌, ◌≤◌, refl, sym, ap, ◌∙◌, subst, arith, inl, inr, List, Option, Some, None, IfSome, length, ltb}
use Rattle.std.specs.Prelude.{if◌then◌else◌, slice_get}
use Rattle.std.specs.Option.{option_map, option_map_or}
use Rattle.std.proofs.lemmas.Option.{slice_get_cases}
use Rattle.h263_types.specs.declared.blocks.Mb.{Mb}
use Rattle.h263_types.specs.declared.params.Params.{Params}
use Rattle.h263_planes.specs.Picture.{Picture}
use Rattle.call_model.specs.CodedPictures.{Coded as CodedPicture, capture, depth_at, picture_at}
use Rattle.call_model.specs.Sending.{SenderEntry, SenderRun}
use Rattle.call_model.specs.Stands.{Sender, SenderStands}
use Rattle.call_model.specs.Steering.{SenderHolds, made_by_kept}
use Rattle.call_decoding.specs.Rules.{rules_of}
use Rattle.call_decoding.specs.Samples.{pictures}
use Rattle.call_decoding.specs.Styles.{Style}
use Rattle.call_encoding.specs.Encoding.{encoding}
use Rattle.call_encoding.specs.Frames.{Frame}
use Rattle.sender_end.specs.Selecting.{within_chain}
use Rattle.sender_end.specs.Stands.{Holds, IsSeen, SentRun, PacedStands}
use Rattle.sender_end.specs.State.{SenderState}
use Rattle.sender_end.proofs.Captured.{made, with_kept}

pub holds_as : {P : Type 0} (p : Params) (state : SenderState P) (run : SentRun) (t : Sender Picture) → state.params ≡ p
    → IsSeen state t → state.since ≡ run.since
    → SenderHolds (pictures p.format) (encoding p) (rules_of p) t run.run → Holds state run
holds_as p state run t same seen since holds = record {
  s = t;
  seen = seen;
  since = since;
  holds = subst (λ (q : Params). SenderHolds (pictures q.format) (encoding q) (rules_of q) t run.run) (sym same) holds;
}

pub stands_as : {P : Type 0} (p : Params) (pace : List ℕ
    → ℕ) (state : SenderState P) (entries : List (SenderEntry Frame)) (t : Sender Picture) → state.params ≡ p
    → IsSeen state t
    → state.since ≡ 0 → SenderStands (pictures p.format) (encoding p) (rules_of p) pace t entries
    → PacedStands pace state entries
stands_as p pace state entries t same seen since stands = record {
  s = t;
  seen = seen;
  since = since;
  stands = subst (λ (q : Params). SenderStands (pictures q.format) (encoding q) (rules_of q) pace t entries)
      (sym same) stands;
}

-- ---- a reference that was given, by what is kept of it

slice_found : {A : Type 0} (xs : List A) (k : ℕ) → k < length xs → (x : A) × (slice_get xs k ≡ Some x)
slice_found xs k below = elim (slice_get_cases xs k).1 [
  | inl at ↦ (at.0, at.2)
  | inr far ↦ absurd (omega (arith, below, far))
]

module _ (p : Params) (s : Sender Picture) (run : SenderRun Style Mb Picture)
    (holds : SenderHolds (pictures p.format) (encoding p) (rules_of p) s run) where
  -- one of the last pictures
  kept_at : (m : ℕ) → m < s.sent → s.sent ≤ m + p.slots
      → (x : CodedPicture Style Mb Picture) × (slice_get run.coded m ≡ Some x) × (s.depth (m % p.slots) ≡ x.depth)
      × (s.picture (m % p.slots) ≡ x.picture)
  kept_at m below last =
      let long : m < length run.coded = subst (λ (n : ℕ). m < n) holds.keeps.sent below in
      let late : length run.coded ≤ m + p.slots = subst (λ (n : ℕ). n ≤ m + p.slots) holds.keeps.sent last in
      let found = slice_found run.coded m long in (
        found.0,
        found.1,
        holds.keeps.depths m found.0 (long, late) found.1,
        holds.keeps.kept m found.0 (long, late) found.1,
      )

  depth_kept : (m : ℕ) → m < s.sent → s.sent ≤ m + p.slots → s.depth (m % p.slots) ≡ depth_at run.coded m
  depth_kept m below last =
      let at = kept_at m below last in
      at.2 ∙ sym (ap (λ (o : Option (CodedPicture Style Mb Picture)). option_map_or (λ x. x.depth) o 0) at.1)

  picture_kept : (m : ℕ) → m < s.sent → s.sent ≤ m + p.slots → Some (s.picture (m % p.slots)) ≡ picture_at run.coded m
  picture_kept m below last =
      let at = kept_at m below last in
      ap (λ (q : Picture). let o : Option Picture = Some q in o) at.3
      ∙ sym (ap (λ (o : Option (CodedPicture Style Mb Picture)). option_map (λ x. x.picture) o) at.1)

  pub chain_kept : (reference : Option ℕ) → IfSome reference (λ m. (m < s.sent) × (s.sent ≤ m + p.slots))
      → within_chain (rules_of p) (λ m. s.depth (m % p.slots)) reference
      ≡ within_chain (rules_of p) (depth_at run.coded) reference
  chain_kept None recent = refl
  chain_kept (Some m) recent = ap (λ (d : ℕ). if ltb d 131 then Some m else None) (depth_kept m recent.0 recent.1)

  -- a picture that is made by what is kept is that of the run
  pub kept_is_capture : (quant : ℕ) (frame : Frame) (reference : Option ℕ)
      → IfSome reference (λ m. (m < s.sent) × (s.sent ≤ m + p.slots))
      → with_kept p quant frame s reference ≡ capture (pictures p.format) (encoding p) quant frame run.coded reference
  unfolding made_by_kept capture
  kept_is_capture quant frame None recent = refl
  kept_is_capture quant frame (Some m) recent =
      ap (λ (d : ℕ). made p frame (Some m) (d + 1) quant (Some (s.picture (m % p.slots))))
      (depth_kept m recent.0 recent.1)
      ∙ ap (λ (o : Option Picture). made p frame (Some m) (depth_at run.coded m + 1) quant o)
      (picture_kept m recent.0 recent.1)
