-- What is true of each macroblock that may be chosen, and of the vectors of a search.
use Rattle.std.proofs.Common.{◌≡◌, sym, subst, ℕ, ◌<◌, Bool, true, false, cond, List, ◌∷◌, map, ◌↔◌, Option, None, Some}
use Rattle.std.specs.List.{All, Contains, filter}
use Rattle.std.proofs.lemmas.List.Elements.{All-cons, All-contains, All-map, filter_passes}
use Rattle.h263_types.specs.declared.Kind.{Kind}
use Rattle.h263_types.specs.declared.Kind.TheVariants.{I, P}
use Rattle.h263_types.specs.declared.blocks.Mb.{Mb}
use Rattle.h263_types.specs.declared.blocks.Mb.TheVariants.{Skip, Inter}
use Rattle.h263_types.specs.declared.format.Format.{Format}
use Rattle.h263_types.specs.declared.params.Params.{Params}
use Rattle.h263_types.specs.declared.vector.Vector.{Vector}
use Rattle.h263_types.specs.Blocks.{IsMb, IsQuant, IsVector}
use Rattle.h263_types.specs.References.{ReachesInside}
use Rattle.h263_types.specs.Sizes.{mbs_of}
use Rattle.h263_types.specs.Vectors.{InReach}
use Rattle.h263_planes.specs.Picture.{Picture}
use Rattle.h263_planes.specs.References.{HasReferenceOnlyInP}
use Rattle.motion_search.specs.Best.{best_vector, IsCandidate}
use Rattle.motion_search.specs.Cost as luma
use Rattle.motion_search.specs.Vectors.{in_reach}
use Rattle.picture_header.specs.declared.header.Header.{Header}
use Rattle.mode_choice.specs.Choice.{choice_in_p, choice_of, intra_of, residual_blocks_of}
use Rattle.mode_choice.proofs.Levels.{blocks_in_range, residual_blocks_in_range}

-- ---- vectors

pub one_of_two : {X : Type 0} (A : X → Type 0) (b : Bool) (x y : X) → A x → A y → A (cond b x y)
one_of_two A true x y hx hy = hx
one_of_two A false x y hx hy = hy

-- a fact of a first candidate, and of those of some vectors, is one of each among them
pub one_of_candidates : {X : Type 0} (candidate : Vector → X) (vs : List Vector) (first best : X)
    → Contains (first ∷ map candidate vs) best →
    (A : X → Type 0) → A first → All (λ v. A (candidate v)) vs → A best
one_of_candidates candidate vs first best has A h each =
    All-contains A (first ∷ map candidate vs) best (All-cons A first (map candidate vs) h (All-map A candidate vs each))
    has

-- the test of reach answers what it should
abbrev pub IsTested : Type 0
IsTested = (f : Format) (mb : ℕ) (v : Vector) → (in_reach f mb v ≡ true) ↔ InReach f mb v.x v.y

reaching : (f : Format) (mb : ℕ) (v : Vector) → InReach f mb v.x v.y → IsVector v
reaching f mb v h = record { x = record { low = h.0.0; high = h.0.1 }; y = record { low = h.1.0; high = h.1.1 } }

-- the vectors that are in reach
pub reaching_vectors : IsTested → (f : Format) (mb : ℕ) (vs : List Vector) → All IsVector (filter (in_reach f mb) vs)
reaching_vectors tested f mb vs = λ k d h. reaching f mb _ ((tested f mb _).0 (filter_passes (in_reach f mb) vs k d h))

abbrev pub IsInRange : Type 0
IsInRange = (frame reference : Picture) (mb radius r : ℕ) → IsVector (best_vector frame reference mb radius r).vector

-- ---- macroblocks

-- what is true of each macroblock that may be chosen where there is a reference is true of the choice
pub chosen_in_p : (A : Mb → Type 0) (frame reference : Picture) (h : Header) (params : Params) (mb : ℕ) →
    A (intra_of frame h.quant params.keep mb) → A Skip →
    A (Inter h.quant (best_vector frame reference mb params.radius h.rounding).vector
    (residual_blocks_of frame reference h.quant params.keep h.rounding mb
    (best_vector frame reference mb params.radius h.rounding).vector)) →
    A (choice_in_p frame reference h params mb)
chosen_in_p A frame reference h params mb intra skip inter = one_of_two A _ _ _ intra (one_of_two A _ _ _ skip inter)

pub chosen_in_range : IsInRange → (frame : Picture) (reference : Option Picture) (h : Header) (params : Params) (mb : ℕ)
    → IsQuant h.quant → IsMb (choice_of frame reference h params mb)
chosen_in_range vectors frame None h params mb quant = blocks_in_range frame h.quant params.keep mb quant
chosen_in_range vectors frame (Some reference) h params mb quant =
    chosen_in_p IsMb frame reference h params mb (blocks_in_range frame h.quant params.keep mb quant) tt
    (residual_blocks_in_range frame reference h.quant params.keep h.rounding mb _ quant
    (vectors frame reference mb params.radius h.rounding))

-- the best vector is one of the candidates
abbrev pub IsBestCandidate : Type 0
IsBestCandidate =
    (frame reference : Picture) (mb radius rounding : ℕ) → mb < mbs_of reference.format →
    IsCandidate (luma.samples_of frame mb) reference mb rounding (best_vector frame reference mb radius rounding)

pub chosen_reaches : IsBestCandidate → (frame : Picture) (reference : Option Picture) (h : Header) (params : Params)
    (mb : ℕ) → HasReferenceOnlyInP h.kind frame.format reference → mb < mbs_of frame.format →
    ReachesInside frame.format mb (choice_of frame reference h params mb)
chosen_reaches best frame None h params mb only here = tt
chosen_reaches best frame (Some reference) h params mb only here = reaches h.kind only
  where
    reaches : (k : Kind) → HasReferenceOnlyInP k frame.format (Some reference)
        → ReachesInside frame.format mb (choice_in_p frame reference h params mb)
    reaches I none = absurd none
    reaches P same =
        chosen_in_p (ReachesInside frame.format mb) frame reference h params mb tt tt
        (let v = (best_vector frame reference mb params.radius h.rounding).vector in
        subst (λ (f : Format). InReach f mb v.x v.y) same (best frame reference mb params.radius h.rounding
        (subst (λ (f : Format). mb < mbs_of f) (sym same) here)).reach)
