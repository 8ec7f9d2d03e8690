-- What deliveries keep of both ways of a call.
use Rattle.std.proofs.Common.{◌≡◌, ℕ, zero, suc, ◌<◌, ◌+◌, List, [], ◌∷◌, length, refl, sym, ap, subst, ◌∙◌}
use Rattle.std.specs.Prelude.{slice_index_or}
use Rattle.std.proofs.lemmas.List.{append-nil}
use Rattle.h263_types.specs.declared.blocks.Mb.{Mb}
use Rattle.h263_types.specs.declared.params.Params.{Params}
use Rattle.h263_planes.specs.Picture.{Picture}
use Rattle.call_model.specs.Before.{sent_before}
use Rattle.call_model.specs.CodedPictures.{Coded}
use Rattle.call_model.specs.IdealCall.{Call, Event, Deliver, Back, ideal}
use Rattle.call_decoding.specs.Rules.{rules_of}
use Rattle.call_decoding.specs.Styles.{Style}
use Rattle.call_encoding.specs.Frames.{Frame}
use Rattle.coded_call.specs.Coding.{coding}
use Rattle.one_way.specs.Both.{steady}
use Rattle.duplex_call.specs.declared.line.Party.{Party}
use Rattle.duplex_call.specs.declared.line.Party.TheVariants.{A, B}
use Rattle.duplex_call.specs.Duplex.{AllMayHappenOf, Lettered, MayBeBrought, MayHappenOf, WayRun, WayRuns, brings, brought, other, way, with_delivery}
use Rattle.duplex_ends.specs.Ways.{call_in, sides, with_places}
use Rattle.duplex_command.specs.Recorded.{told_lines, ways_of, with_party_packets}

-- ---- messages that are brought

sent_brought : (ks : List ℕ) (past : List Event) → sent_before (brought ks past) ≡ sent_before past
sent_brought [] past = refl
sent_brought (k ∷ ks) past = sent_brought ks (Back k ∷ past)

module _ (q : Params) (frames : List Frame) where
  abbrev call : List Event → Call Style Mb Picture
  call past = ideal (coding q) (rules_of q) (steady q) frames past

  plays_brought : (ks : List ℕ) (past : List Event) → (call (brought ks past)).plays ≡ (call past).plays
  plays_brought [] past = refl
  plays_brought (k ∷ ks) past = plays_brought ks (Back k ∷ past)

  coded_brought : (ks : List ℕ) (past : List Event) → (call (brought ks past)).coded ≡ (call past).coded
  coded_brought [] past = refl
  coded_brought (k ∷ ks) past = coded_brought ks (Back k ∷ past)

  played_brought : (ks : List ℕ) (past : List Event) → (call (brought ks past)).played ≡ (call past).played
  played_brought [] past = refl
  played_brought (k ∷ ks) past = played_brought ks (Back k ∷ past)

module _ (p : Party → Params) where
  -- what may be brought still may be, after another message
  one_heard : (y : Party) (w : WayRun Frame) (l : ℕ) (ks : List ℕ) → MayBeBrought (sides p) y w ks
      → MayBeBrought (sides p) y (record w { past = Back l ∷ w.past }) ks
  one_heard y w l [] may = may
  one_heard y w l (k ∷ ks) may = (may.0, one_heard y w l ks may.1)

  all_heard : (y : Party) (w : WayRun Frame) (ls ks : List ℕ) → MayBeBrought (sides p) y w ks
      → MayBeBrought (sides p) y (record w { past = brought ls w.past }) ks
  all_heard y w [] ks may = may
  all_heard y w (l ∷ ls) ks may = all_heard y (record w { past = Back l ∷ w.past }) ls ks (one_heard y w l ks may)

  -- ---- what is kept

  -- the frames and what was sent, coded, carried, played and shown
  pub record IsKept (now before : WayRuns Frame) : Type 0 where
    pub frames : (y : Party) → (way y now).frames ≡ (way y before).frames
    pub sent : (y : Party) → sent_before (way y now).past ≡ sent_before (way y before).past
    pub carried : (y : Party) → (way y now).carried ≡ (way y before).carried
    pub coded : (y : Party) → (call_in p y now).coded ≡ (call_in p y before).coded
    pub played : (y : Party) → (call_in p y now).played ≡ (call_in p y before).played
    pub plays : (y : Party) → (call_in p y now).plays ≡ (call_in p y before).plays

  pub kept_all : (ways : WayRuns Frame) → IsKept ways ways
  kept_all ways = record {
    frames = λ y. refl;
    sent = λ y. refl;
    carried = λ y. refl;
    coded = λ y. refl;
    played = λ y. refl;
    plays = λ y. refl;
  }

  both_kept : (a b c : WayRuns Frame) → IsKept a b → IsKept b c → IsKept a c
  both_kept a b c first second = record {
    frames = λ y. first.frames y ∙ second.frames y;
    sent = λ y. first.sent y ∙ second.sent y;
    carried = λ y. first.carried y ∙ second.carried y;
    coded = λ y. first.coded y ∙ second.coded y;
    played = λ y. first.played y ∙ second.played y;
    plays = λ y. first.plays y ∙ second.plays y;
  }

  -- the messages that a delivery brings
  abbrev heard_at : Party → WayRuns Frame → ℕ → ℕ → List ℕ
  heard_at x ways n j = brings (sides p) x (way x ways) n j

  pub kept_delivery : (x : Party) (n j : ℕ) (ways : WayRuns Frame) → IsKept (with_delivery (sides p) x n j ways) ways
  kept_delivery x n j ways = record {
    frames = frames x;
    sent = sent x;
    carried = carried x;
    coded = coded x;
    played = played x;
    plays = plays x;
  }
    where
      frames : (x y : Party) → (way y (with_delivery (sides p) x n j ways)).frames ≡ (way y ways).frames
      frames A A = refl
      frames A B = refl
      frames B A = refl
      frames B B = refl

      sent : (x y : Party) → sent_before (way y (with_delivery (sides p) x n j ways)).past
          ≡ sent_before (way y ways).past
      sent A A = refl
      sent A B = sent_brought (heard_at A ways n j) ways.b.past
      sent B A = sent_brought (heard_at B ways n j) ways.a.past
      sent B B = refl

      carried : (x y : Party) → (way y (with_delivery (sides p) x n j ways)).carried ≡ (way y ways).carried
      carried A A = refl
      carried A B = refl
      carried B A = refl
      carried B B = refl

      coded : (x y : Party) → (call_in p y (with_delivery (sides p) x n j ways)).coded ≡ (call_in p y ways).coded
      coded A A = refl
      coded A B = coded_brought (p B) ways.b.frames (heard_at A ways n j) ways.b.past
      coded B A = coded_brought (p A) ways.a.frames (heard_at B ways n j) ways.a.past
      coded B B = refl

      played : (x y : Party) → (call_in p y (with_delivery (sides p) x n j ways)).played ≡ (call_in p y ways).played
      played A A = refl
      played A B = played_brought (p B) ways.b.frames (heard_at A ways n j) ways.b.past
      played B A = played_brought (p A) ways.a.frames (heard_at B ways n j) ways.a.past
      played B B = refl

      plays : (x y : Party) → (call_in p y (with_delivery (sides p) x n j ways)).plays ≡ (call_in p y ways).plays
      plays A A = refl
      plays A B = plays_brought (p B) ways.b.frames (heard_at A ways n j) ways.b.past
      plays B A = plays_brought (p A) ways.a.frames (heard_at B ways n j) ways.a.past
      plays B B = refl

  -- of the other party what may be brought still may be
  heard_delivery : (x : Party) (n j : ℕ) (ways : WayRuns Frame) (ks : List ℕ)
      → MayBeBrought (sides p) (other x) (way (other x) ways) ks
      → MayBeBrought (sides p) (other x) (way (other x) (with_delivery (sides p) x n j ways)) ks
  heard_delivery A n j ways ks may = all_heard B ways.b (heard_at A ways n j) ks may
  heard_delivery B n j ways ks may = all_heard A ways.a (heard_at B ways n j) ks may

  -- ---- all packets of a picture

  pub kept_places : (x : Party) (n count : ℕ) (ways : WayRuns Frame) → IsKept (with_places p x n count ways) ways
  kept_places x n zero ways = kept_all ways
  kept_places x n (suc j) ways =
      both_kept (with_places p x n (suc j) ways) (with_places p x n j ways) ways
      (kept_delivery x n j (with_places p x n j ways)) (kept_places x n j ways)

  heard_places : (x : Party) (n count : ℕ) (ways : WayRuns Frame) (ks : List ℕ)
      → MayBeBrought (sides p) (other x) (way (other x) ways) ks
      → MayBeBrought (sides p) (other x) (way (other x) (with_places p x n count ways)) ks
  heard_places x n zero ways ks may = may
  heard_places x n (suc j) ways ks may = heard_delivery x n j (with_places p x n j ways) ks
      (heard_places x n j ways ks may)

  -- where a packet of the picture may be delivered, each may be after those at the places before it
  may_place : (x : Party) (n left i j count : ℕ) (ways : WayRuns Frame)
      → MayHappenOf (sides p) left x (Deliver n i) ways
      → MayHappenOf (sides p) left x (Deliver n j) (with_places p x n count ways)
  may_place x n left i j count ways may =
      let kept = kept_places x n count ways in
      let coded = kept.coded x in
      let played = kept.played x in (
        (
          subst (λ (l : List (Coded Style Mb Picture)). n < length l) (sym coded) may.0.0,
          subst (λ (m : ℕ). m < n + (rules_of (p x)).half) (sym played) may.0.1,
        ),
        heard_places x n count ways (slice_index_or (way x (with_places p x n count ways)).carried n [])
            (subst (λ (l : List (List ℕ)). MayBeBrought (sides p) (other x) (way (other x) ways)
            (slice_index_or l n [])) (sym (kept.carried x)) may.1),
      )

  module _ (captures : Party → List Picture) where
    pub ways_packets : (x : Party) (n count : ℕ) (past : List Lettered)
        → with_places p x n count (ways_of p captures past)
        ≡ ways_of p captures (with_party_packets p captures x n count past)
    ways_packets x n zero past = refl
    ways_packets x n (suc j) past = ap (with_delivery (sides p) x n j) (ways_packets x n j past)

    pub near_packets : (x : Party) (n i count : ℕ) (past : List Lettered)
        → MayHappenOf (sides p) (length (captures x)) x (Deliver n i) (ways_of p captures past)
        → AllMayHappenOf (sides p) captures past
        → AllMayHappenOf (sides p) captures (with_party_packets p captures x n count past)
    near_packets x n i zero past may near = near
    near_packets x n i (suc j) past may near = (
      subst (MayHappenOf (sides p) (length (captures x)) x (Deliver n j)) (ways_packets x n j past)
          (may_place x n (length (captures x)) i j j (ways_of p captures past) may),
      near_packets x n i j past may near,
    )

    -- nothing is told of them
    pub told_packets : (x : Party) (n count : ℕ) (past : List Lettered)
        → told_lines p captures (with_party_packets p captures x n count past) ≡ told_lines p captures past
    told_packets x n zero past = refl
    told_packets x n (suc j) past = append-nil (told_lines p captures (with_party_packets p captures x n j past))
        ∙ told_packets x n j past
