-- The words by which a command's roles are attached.
use Rattle.std.proofs.Common.{◌≡◌, ℕ, Bool, true, false, ◌&&◌, List, [], ◌∷◌, Option, Some, None, refl, subst, sym}
use Rattle.std.specs.Prelude.{codes, is_some, option_and_then, option_map, if◌then◌else◌}
use Rattle.std.specs.List.{list_all}
use Rattle.std.specs.Str.{bytes_eq}
use Rattle.h263_types.specs.declared.params.Params.{Params}
use Rattle.h263_types.specs.Texts.{Text}
use Rattle.command_words.specs.Simple.{Given, Options, gives, value, is_once, are_words_whole, named as named_by, taken, whole_or_none}
use Rattle.command_words.specs.declared.command.Command.{Command}
use Rattle.command_words.specs.declared.command.Command.TheVariants.{Call, Send, Recv, Demo, Rate, Audit, Duplex, Group}
use Rattle.command_words.specs.Asked.{Asked, Row, call, send, recv, demo, rate, audit, duplex, group, call_given, send_of, send_with, target_or_none, recv_of, demo_of, seed_in, frames_in, rate_of, audit_of, duplex_of, group_of, receivers_by, target_in, bucket_in, asked_by, asked, asking, params_of, IsGiven, HasNames}

-- a value that is given is there
value_there : (name : Text) (given : List Given) → gives name given ≡ true → IsGiven (value given name)
value_there name [] h = absurd (cc h)
value_there name (g ∷ given) h = go (bytes_eq g.0 name) refl h (value_there name given)
  where
    go : (t : Bool) → bytes_eq g.0 name ≡ t → gives name (g ∷ given) ≡ true
        → (gives name given ≡ true → IsGiven (value given name)) → IsGiven (value (g ∷ given) name)
    go true e k rest = rw e tt
    go false e k rest = rw e (rest (rw e at k))

some_is : {T : Type 0} {x y : T} → Some x ≡ Some y → x ≡ y
some_is is = cc is

first_of_both : (a b : Bool) → (a && b) ≡ true → a ≡ true
first_of_both true b h = refl
first_of_both false b h = absurd (cc h)

second_of_both : (a b : Bool) → (a && b) ≡ true → b ≡ true
second_of_both true b h = h
second_of_both false b h = absurd (cc h)

-- what was taken gives each positional word
taken_gives : (places : List Text) (options : Options) (words : List Text) (given : List Given)
    → taken places options words ≡ Some given
    → list_all (λ name. gives name given) places ≡ true
taken_gives places options words given is = go (named_by options places None words) is
  where
    chosen : (found : List Given) (t : Bool) → are_words_whole places found ≡ t → (if t then Some found else None)
        ≡ Some given
        → list_all (λ name. gives name given) places ≡ true
    chosen found true whole same =
        subst (λ (l : List Given). list_all (λ name. gives name l) places ≡ true) (some_is same)
        (second_of_both (is_once found) (list_all (λ name. gives name found) places) whole)
    chosen found false whole same = absurd (cc same)

    go : (o : Option (List Given)) → whole_or_none places o ≡ Some given → list_all (λ name. gives name given) places
        ≡ true
    go None h = absurd (cc h)
    go (Some found) h = chosen found (are_words_whole places found) refl h

-- ---- command by command

module _ (given : List Given) where
  abbrev given_all : List Text → Type 0
  given_all places = list_all (λ name. gives name given) places ≡ true

  -- the words of this command's roles are there
  abbrev named : Command → Type 0
  named c = HasNames (asking (value given) c)

  first_there : (name : Text) (places : List Text) → given_all (name ∷ places) → IsGiven (value given name)
  first_there name places all = value_there name given (first_of_both (gives name given) _ all)

  rest_there : (name : Text) (places : List Text) → given_all (name ∷ places) → given_all places
  rest_there name places all = second_of_both (gives name given) _ all

  pub call_named : (c : Command) → given_all call.places → call_given (value given) ≡ Some c → named c
  call_named c all is = go (params_of (value given)) (value given (codes "trace")) refl is
    where
      video : IsGiven (value given (codes "in"))
      video = first_there (codes "in") (codes "out" ∷ []) all

      pictures : IsGiven (value given (codes "out"))
      pictures = first_there (codes "out") [] (rest_there (codes "in") (codes "out" ∷ []) all)

      go : (p : Option Params) (t : Option Text) → value given (codes "trace") ≡ t
          → option_map (λ (params : Params). Call params (is_some t)) p ≡ Some c → named c
      go None t e h = absurd (cc h)
      go (Some p) None e h = subst named (some_is h) (video, (pictures, tt))
      go (Some p) (Some x) e h = subst named (some_is h) (video, (subst IsGiven (sym e) tt, (pictures, tt)))

  pub send_named : (c : Command) → given_all send.places → send_of (value given) ≡ Some c → named c
  send_named c all is = go (is_some (value given (codes "target")) && is_some (value given (codes "fit"))) is
    where
      video : IsGiven (value given (codes "in"))
      video = first_there (codes "in") (codes "log" ∷ codes "wire" ∷ []) all

      others : given_all (codes "log" ∷ codes "wire" ∷ [])
      others = rest_there (codes "in") (codes "log" ∷ codes "wire" ∷ []) all

      events : IsGiven (value given (codes "log"))
      events = first_there (codes "log") (codes "wire" ∷ []) others

      wire : IsGiven (value given (codes "wire"))
      wire = first_there (codes "wire") [] (rest_there (codes "log") (codes "wire" ∷ []) others)

      with_params : (target fit : Option ℕ) (o : Option Params) → option_map (send_with target fit) o ≡ Some c → named c
      with_params target fit None h = absurd (cc h)
      with_params target fit (Some p) h = subst named (some_is h) (video, (events, (wire, tt)))

      with_fit : (target : Option ℕ) (o : Option (Option ℕ)) →
          option_and_then (λ fit. option_map (send_with target fit) (params_of (value given))) o ≡ Some c → named c
      with_fit target None h = absurd (cc h)
      with_fit target (Some fit) h = with_params target fit (params_of (value given)) h

      with_target : (o : Option (Option ℕ)) →
          option_and_then (λ target. option_and_then (λ fit. option_map (send_with target fit)
          (params_of (value given)))
          (target_or_none (value given (codes "fit")))) o ≡ Some c → named c
      with_target None h = absurd (cc h)
      with_target (Some target) h = with_fit target (target_or_none (value given (codes "fit"))) h

      go : (both : Bool) → (if both then None else
          option_and_then (λ target. option_and_then (λ fit. option_map (send_with target fit)
          (params_of (value given)))
          (target_or_none (value given (codes "fit")))) (target_or_none (value given (codes "target")))) ≡ Some c
          → named c
      go true h = absurd (cc h)
      go false h = with_target (target_or_none (value given (codes "target"))) h

  pub recv_named : (c : Command) → given_all recv.places → recv_of (value given) ≡ Some c → named c
  recv_named c all is = go (params_of (value given)) (is_some (value given (codes "join"))) is
    where
      events : IsGiven (value given (codes "log"))
      events = first_there (codes "log") (codes "out" ∷ codes "wire" ∷ []) all

      others : given_all (codes "out" ∷ codes "wire" ∷ [])
      others = rest_there (codes "log") (codes "out" ∷ codes "wire" ∷ []) all

      pictures : IsGiven (value given (codes "out"))
      pictures = first_there (codes "out") (codes "wire" ∷ []) others

      wire : IsGiven (value given (codes "wire"))
      wire = first_there (codes "wire") [] (rest_there (codes "out") (codes "wire" ∷ []) others)

      go : (p : Option Params) (join : Bool) → option_map (λ (params : Params). Recv params join) p ≡ Some c → named c
      go None join h = absurd (cc h)
      go (Some p) join h = subst named (some_is h) (events, (pictures, (wire, tt)))

  pub demo_named : (c : Command) → demo_of (value given) ≡ Some c → named c
  demo_named c is = with_params (params_of (value given)) is
    where
      with_frames : (p : Params) (seed : ℕ) (o : Option ℕ) → option_map (λ frames. Demo p seed frames) o ≡ Some c
          → named c
      with_frames p seed None h = absurd (cc h)
      with_frames p seed (Some n) h = subst named (some_is h) tt

      with_seed : (p : Params) (o : Option ℕ) →
          option_and_then (λ seed. option_map (λ frames. Demo p seed frames) (frames_in (value given (codes "frames"))))
          o ≡ Some c → named c
      with_seed p None h = absurd (cc h)
      with_seed p (Some seed) h = with_frames p seed (frames_in (value given (codes "frames"))) h

      with_params : (o : Option Params) →
          option_and_then (λ params. option_and_then (λ seed. option_map (λ frames. Demo params seed frames)
          (frames_in (value given (codes "frames")))) (seed_in (value given (codes "seed")))) o ≡ Some c → named c
      with_params None h = absurd (cc h)
      with_params (Some p) h = with_seed p (seed_in (value given (codes "seed"))) h

  pub rate_named : (c : Command) → given_all rate.places → rate_of (value given) ≡ Some c → named c
  rate_named c all is = with_target (target_in (value given (codes "target"))) is
    where
      with_bucket : (target : ℕ) (o : Option ℕ) → option_map (λ bucket. Rate target bucket) o ≡ Some c → named c
      with_bucket target None h = absurd (cc h)
      with_bucket target (Some n) h = subst named (some_is h) (first_there (codes "log") [] all, tt)

      with_target : (o : Option ℕ) →
          option_and_then (λ target. option_map (λ bucket. Rate target bucket)
          (bucket_in (value given (codes "bucket")))) o ≡ Some c → named c
      with_target None h = absurd (cc h)
      with_target (Some target) h = with_bucket target (bucket_in (value given (codes "bucket"))) h

  pub audit_named : (c : Command) → given_all audit.places → audit_of (value given) ≡ Some c → named c
  audit_named c all is = go (params_of (value given)) is
    where
      go : (p : Option Params) → option_map (λ (params : Params). Audit params) p ≡ Some c → named c
      go None h = absurd (cc h)
      go (Some p) h = subst named (some_is h) (first_there (codes "log") [] all, tt)

  pub duplex_named : (c : Command) → given_all duplex.places → duplex_of (value given) ≡ Some c → named c
  duplex_named c all is = go (params_of (value given)) (value given (codes "trace")) refl is
    where
      after_in1 : given_all (codes "in2" ∷ codes "out1" ∷ codes "out2" ∷ [])
      after_in1 = rest_there (codes "in1") (codes "in2" ∷ codes "out1" ∷ codes "out2" ∷ []) all

      after_in2 : given_all (codes "out1" ∷ codes "out2" ∷ [])
      after_in2 = rest_there (codes "in2") (codes "out1" ∷ codes "out2" ∷ []) after_in1

      video : IsGiven (value given (codes "in1"))
      video = first_there (codes "in1") (codes "in2" ∷ codes "out1" ∷ codes "out2" ∷ []) all

      video2 : IsGiven (value given (codes "in2"))
      video2 = first_there (codes "in2") (codes "out1" ∷ codes "out2" ∷ []) after_in1

      pictures : IsGiven (value given (codes "out1"))
      pictures = first_there (codes "out1") (codes "out2" ∷ []) after_in2

      pictures2 : IsGiven (value given (codes "out2"))
      pictures2 = first_there (codes "out2") [] (rest_there (codes "out1") (codes "out2" ∷ []) after_in2)

      go : (p : Option Params) (t : Option Text) → value given (codes "trace") ≡ t
          → option_and_then (λ (trace : Text). option_map (λ params. Duplex params) p) t ≡ Some c → named c
      go p None e h = absurd (cc h)
      go None (Some x) e h = absurd (cc h)
      go (Some p) (Some x) e h = subst named (some_is h) (
        video,
        (video2, (subst IsGiven (sym e) tt, (pictures, (pictures2, tt)))),
      )

  pub group_named : (c : Command) → given_all group.places → group_of (value given) ≡ Some c → named c
  group_named c all is = go (params_of (value given)) (value given (codes "trace")) (value given (codes "out2"))
      (value given (codes "out3")) refl refl refl is
    where
      video : IsGiven (value given (codes "in"))
      video = first_there (codes "in") (codes "out" ∷ []) all

      pictures : IsGiven (value given (codes "out"))
      pictures = first_there (codes "out") [] (rest_there (codes "in") (codes "out" ∷ []) all)

      go : (p : Option Params) (t second third : Option Text) → value given (codes "trace") ≡ t
          → value given (codes "out2") ≡ second → value given (codes "out3") ≡ third
          → option_and_then (λ (trace : Text). option_and_then (λ (params : Params). option_map
          (λ receivers. Group params receivers) (receivers_by second third)) p) t ≡ Some c → named c
      go p None second third e two three h = absurd (cc h)
      go None (Some x) second third e two three h = absurd (cc h)
      go (Some p) (Some x) None None e two three h = subst named (some_is h) (
        video,
        (subst IsGiven (sym e) tt, (pictures, tt)),
      )
      go (Some p) (Some x) None (Some z) e two three h = absurd (cc h)
      go (Some p) (Some x) (Some y) None e two three h = subst named (some_is h) (
        video,
        (subst IsGiven (sym e) tt, (pictures, (subst IsGiven (sym two) tt, tt))),
      )
      go (Some p) (Some x) (Some y) (Some z) e two three h =
          subst named (some_is h) (
            video,
            (subst IsGiven (sym e) tt, (pictures, (subst IsGiven (sym two) tt, (subst IsGiven (sym three) tt, tt)))),
          )

-- the row's words
by_row : (row : Row) (words : List Text) (a : Asked)
    → ((given : List Given) (c : Command) → list_all (λ name. gives name given) row.places ≡ true
    → row.asks (value given) ≡ Some c → HasNames (asking (value given) c))
    → asked_by row words ≡ Some a → HasNames a
by_row row words a names is = go (taken row.places row.options words) refl is
  where
    at_command : (given : List Given) → taken row.places row.options words ≡ Some given → (o : Option Command)
        → row.asks (value given) ≡ o
        → option_map (asking (value given)) o ≡ Some a → HasNames a
    at_command given e None found h = absurd (cc h)
    at_command given e (Some c) found h = subst HasNames (some_is h)
        (names given c (taken_gives row.places row.options words given e) found)

    go : (o : Option (List Given)) → taken row.places row.options words ≡ o
        → option_and_then (λ given. option_map (asking (value given)) (row.asks (value given))) o ≡ Some a → HasNames a
    go None e h = absurd (cc h)
    go (Some given) e h = at_command given e (row.asks (value given)) refl h

pub named_where_asked : (words : List Text) (a : Asked) → asked words ≡ Some a → HasNames a
named_where_asked [] a is = absurd (cc is)
named_where_asked (first ∷ words) a is =
    at_call (bytes_eq call.word first) (bytes_eq send.word first) (bytes_eq recv.word first) (bytes_eq demo.word first)
    (bytes_eq rate.word first) (bytes_eq audit.word first)
    (bytes_eq duplex.word first) (bytes_eq group.word first) is
  where
    at_call : (c s r d m u x g : Bool) →
        option_and_then (λ row. asked_by row words)
        (if c then Some call else if s then Some send else if r then Some recv else if d then Some demo
        else if m then Some rate else if u then Some audit
        else if x then Some duplex else if g then Some group else None) ≡ Some a → HasNames a
    at_call true s r d m u x g h = by_row call words a (λ given k all e. call_named given k all e) h
    at_call false true r d m u x g h = by_row send words a (λ given k all e. send_named given k all e) h
    at_call false false true d m u x g h = by_row recv words a (λ given k all e. recv_named given k all e) h
    at_call false false false true m u x g h = by_row demo words a (λ given k all e. demo_named given k e) h
    at_call false false false false true u x g h = by_row rate words a (λ given k all e. rate_named given k all e) h
    at_call false false false false false true x g h = by_row audit words a (λ given k all e. audit_named given k all e)
        h
    at_call false false false false false false true g h =
        by_row duplex words a (λ given k all e. duplex_named given k all e) h
    at_call false false false false false false false true h =
        by_row group words a (λ given k all e. group_named given k all e) h
    at_call false false false false false false false false h = absurd (cc h)
