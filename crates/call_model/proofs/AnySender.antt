-- A receiver follows any sender whose pictures are sound.
use Rattle.std.proofs.Common.{Ok, ◌≡◌, ℕ, ◌+◌, ◌≤◌, Bool, true, false, refl, sym, ap, ◌∙◌, subst, arith, inl, inr, Option, Some, None, List, [], ◌∷◌, ◌++◌, length, ltb}
use Rattle.std.specs.Prelude.{slice_get, if◌then◌else◌}
use Rattle.std.specs.Option.{option_map_or}
use Rattle.std.proofs.lemmas.List.{append-nil}
use Rattle.std.proofs.lemmas.Option.{slice_get_cases}
use Rattle.call_model.specs.Coding.{Rules, Message, Decoding}
use Rattle.call_model.specs.CodedPictures.{Coded}
use Rattle.call_model.specs.IdealCall.{has_arrived, is_full, with_arrival, Event, Send, Deliver, Play, Back, NumberedMessage, Call, Source, slices_at, after, call_from, MayHappen, AllMayHappenFrom}
use Rattle.call_model.specs.Sending.{header_of}
use Rattle.call_model.specs.Receiving.{TakenSlice, ReceiverRun, Late, Early, Repeat, Completed, Taken, heard, after_packet, after_play}
use Rattle.call_model.specs.Sound.{IsSoundPicture, IsUnderstood, ReceiverIsAt, IsSoundEvent, AllSound, Packets, received, delivery_answer, AnySoundSender, NoneRefused, is_refused}
use Rattle.call_model.specs.Lawful.{IsDecoding, IsRules}
use Rattle.call_model.proofs.Matching.{slices_at_is}
use Rattle.call_model.proofs.Fullness.{full_is}
use Rattle.call_model.proofs.Growing.{whole_from, img_is}
use Rattle.call_model.proofs.Steps.{run_at, Good, step_send, step_back, full_below, flags_of_true, travelling_fits, travelling_flags, made_known_is}
use Rattle.call_model.proofs.Deliver.{step_deliver, step_no_slice}
use Rattle.call_model.proofs.Playing.{step_play}
use Rattle.call_model.proofs.TwoStores.{good_start}

module _ {Style Mb Picture Fault : Type 0} (decoding : Decoding Style Mb Picture Fault) (rules : Rules)
    (lawful : IsDecoding decoding rules) (ruled : IsRules rules) where
  -- the receiver is that of the call
  pub record IsAt (c : Call Style Mb Picture) (run : ReceiverRun Style Mb Picture) : Type 0 where
    pub taken : List (TakenSlice Style Mb)
    pub is : run ≡ run_at decoding c taken
    pub good : Good decoding rules c taken

  follows_at : (c : Call Style Mb Picture) (run : ReceiverRun Style Mb Picture) → IsAt c run
      → ReceiverIsAt decoding rules c run
  follows_at c run at = subst (ReceiverIsAt decoding rules c) (sym at.is) (record {
    played = refl;
    screen = refl;
    taken = at.good.match;
    complete = λ n. full_is rules c.coded c.arrivals at.taken n ruled
        (whole_from decoding rules lawful ruled c.coded c.arrivals at.good.fine) at.good.match;
    pictures = λ n x at_n full. img_is decoding rules lawful ruled c.coded c.arrivals at.taken n x at_n at.good.fine
        at.good.match at.good.samples full;
  })

  module _ (source : Source Style Mb Picture) (packets : Packets Style Mb Picture) (count : ℕ) where
    sends : (c : Call Style Mb Picture) (run : ReceiverRun Style Mb Picture)
        → IsSoundEvent decoding rules source packets c Send → MayHappen rules count c Send → IsAt c run
        → IsAt (after decoding.pictures rules source c Send) run
    sends c run sound near at = go (source c) sound
      where
        go : (o : Option (Coded Style Mb Picture)) → ((x : Coded Style Mb Picture) → o ≡ Some x
            → IsSoundPicture decoding.pictures rules c x)
            → IsAt (record c { coded = c.coded ++ option_map_or (λ x. x ∷ []) o [] }) run
        go None sound = record {
          taken = at.taken;
          is = at.is;
          good = subst (λ (xs : List (Coded Style Mb Picture)). Good decoding rules (record c { coded = xs })
              at.taken) (sym (append-nil c.coded)) at.good;
        }
        go (Some x) sound = record {
          taken = at.taken;
          is = at.is;
          good = step_send decoding rules lawful ruled c at.taken x at.good near.1 (sound x refl);
        }

    delivers : (c : Call Style Mb Picture) (run : ReceiverRun Style Mb Picture) (n j : ℕ)
        → IsSoundEvent decoding rules source packets c (Deliver n j) → MayHappen rules count c (Deliver n j)
        → IsAt c run → IsAt (after decoding.pictures rules source c (Deliver n j))
        (option_map_or (λ bytes. after_packet decoding rules bytes run) (slice_get (packets c.coded n) j) run)
    delivers c run n j sound near at =
        elim (slice_get_cases c.coded n).1 [ inl h ↦ of_picture h.0 h.2 | inr h ↦ absurd (omega (arith, h.0, near.0)) ]
      where
        of_picture : (x : Coded Style Mb Picture) → slice_get c.coded n ≡ Some x
            → IsAt (after decoding.pictures rules source c (Deliver n j))
            (option_map_or (λ bytes. after_packet decoding rules bytes run) (slice_get (packets c.coded n) j) run)
        of_picture x at_n =
            let packet = sound x at_n in
            elim (slice_get_cases x.slices j).1 [
              | inl h ↦
                  let got = packet.read_as h.0 h.2 in
                  let d = step_deliver decoding rules lawful ruled c at.taken n j x h.0 at.good near.0 near.1 at_n h.2
                  in
                  rw got.1 (record {
                    taken = d.taken;
                    is = ap (after_packet decoding rules got.0) at.is ∙ rw (got.2, d.takes) refl;
                    good = d.good;
                  })
              | inr h ↦
                  let slices = slices_at_is rules c.coded n x at_n in
                  let past : length (slices_at c.coded n) ≤ j = omega (arith, h.0, ap length slices) in
                  rw (packet.no_other h.1) (record {
                    taken = at.taken;
                    is = at.is;
                    good = step_no_slice decoding rules lawful ruled c at.taken n j at.good past;
                  })
            ]

    plays : (c : Call Style Mb Picture) (run : ReceiverRun Style Mb Picture) → MayHappen rules count c Play → IsAt c run
        → IsAt (after decoding.pictures rules source c Play) (after_play decoding rules run)
    plays c run near at =
        let p = step_play decoding rules lawful ruled c at.taken at.good near in
        record {
          taken = at.taken;
          is = ap (after_play decoding rules) at.is ∙ rw p.shows refl;
          good = p.good;
        }

    backs : (c : Call Style Mb Picture) (run : ReceiverRun Style Mb Picture) (k : ℕ) → MayHappen rules count c (Back k)
        → IsAt c run → IsAt (after decoding.pictures rules source c (Back k)) run
    backs c run k near at = rw near.1 (record {
      taken = at.taken;
      is = at.is;
      good = step_back decoding rules lawful ruled c at.taken k near.0 at.good near.1;
    })

    stays_at : (past : List Event) → AllMayHappenFrom decoding.pictures rules source count past
        → AllSound decoding rules source packets past
        → IsAt (call_from decoding.pictures rules source past) (received decoding rules source packets past)
    stays_at [] near sound = record { taken = []; is = refl; good = good_start decoding rules source }
    stays_at (Send ∷ past) near sound = sends _ _ sound.0 near.0 (stays_at past near.1 sound.1)
    stays_at (Deliver n j ∷ past) near sound = delivers _ _ n j sound.0 near.0 (stays_at past near.1 sound.1)
    stays_at (Play ∷ past) near sound = plays _ _ near.0 (stays_at past near.1 sound.1)
    stays_at (Back k ∷ past) near sound = backs _ _ k near.0 (stays_at past near.1 sound.1)

    pub answers_at : (c : Call Style Mb Picture) (run : ReceiverRun Style Mb Picture) (n j : ℕ) (bytes : List ℕ)
        → IsAt c run → MayHappen rules count c (Deliver n j)
        → IsSoundEvent decoding rules source packets c (Deliver n j) → slice_get (packets c.coded n) j ≡ Some bytes
        → heard decoding rules run (decoding.read bytes) ≡ delivery_answer rules c n j
    answers_at c run n j bytes at near sound packet =
        elim (slice_get_cases c.coded n).1 [ inl h ↦ of_picture h.0 h.2 | inr h ↦ absurd (omega (arith, h.0, near.0)) ]
      where
        of_picture : (x : Coded Style Mb Picture) → slice_get c.coded n ≡ Some x
            → heard decoding rules run (decoding.read bytes) ≡ delivery_answer rules c n j
        of_picture x at_n =
            let is_packet = sound x at_n in
            elim (slice_get_cases x.slices j).1 [
              | inl h ↦
                  let got = is_packet.read_as h.0 h.2 in
                  let same : got.0 ≡ bytes = let e : Some got.0 ≡ Some bytes = sym got.1 ∙ packet in cc in
                  let d = step_deliver decoding rules lawful ruled c at.taken n j x h.0 at.good near.0 near.1 at_n h.2
                  in
                  ap (λ (b : List ℕ). heard decoding rules run (decoding.read b)) (sym same)
                  ∙ ap (heard decoding rules run) got.2
                  ∙ ap (λ (r : ReceiverRun Style Mb Picture). heard decoding rules r
                  (Ok (record { header = header_of rules n x; slice = h.0 }))) at.is ∙ d.heard_so
              | inr h ↦ let none = is_packet.no_other h.1 in absurd (differ (sym none ∙ packet))
            ]
          where
            differ : None ≡ Some bytes → ⊥
            differ e = cc

  understood : (c : Call Style Mb Picture) (ts : List (TakenSlice Style Mb)) (k : ℕ) (note : NumberedMessage)
      → Good decoding rules c ts → slice_get c.said k ≡ Some note → IsUnderstood decoding rules c note
  understood c ts k note good there =
      let is_true = good.notes k note there in
      record {
        in_period = travelling_fits decoding rules lawful ruled note;
        flags = ap length (travelling_flags decoding rules lawful ruled note)
            ∙ (flags_of_true decoding rules lawful ruled (is_full c.coded c.arrivals)
            (length c.coded) note is_true).count;
        known = λ near. made_known_is decoding rules lawful ruled (is_full c.coded c.arrivals) (length c.coded) note
            (full_below decoding rules lawful ruled c) is_true near;
      }

  pub any_sound_sender : AnySoundSender decoding rules
  any_sound_sender source packets count past near sound =
      let at = stays_at source packets count past near sound in
      let c = call_from decoding.pictures rules source past in
      record {
        state = follows_at c (received decoding rules source packets past) at;
        answers = λ n j bytes near_now sound_now packet. answers_at source packets count c
            (received decoding rules source packets past) n j bytes at near_now sound_now packet;
        plays = λ near_now.
            let p = step_play decoding rules lawful ruled c at.taken at.good near_now in
            rw at.is (sym p.shows, p.says);
        messages = λ k note there. understood c at.taken k note at.good there;
      }

chain : (Fault : Type 0) (late early got whole : Bool) (m : Message)
    → is_refused {Fault = Fault} (if late then Late else if early then Early else if got then Repeat
    else if whole then Completed m else Taken) ≡ false
chain Fault true early got whole m = refl
chain Fault false true got whole m = refl
chain Fault false false true whole m = refl
chain Fault false false false true m = refl
chain Fault false false false false m = refl

pub none_refused : (Style Mb Picture Fault : Type 0) → NoneRefused Style Mb Picture Fault
unfolding delivery_answer
none_refused Style Mb Picture Fault rules c n j = chain Fault (ltb n c.played) (ltb (c.played + rules.lead) n)
    (has_arrived c.arrivals n j) (is_full c.coded (with_arrival c.arrivals n j) n) _
