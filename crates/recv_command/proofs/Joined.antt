-- What a receiver keeps in mind of the packets that a joiner gives it.
use Rattle.std.proofs.Common.{◌≡◌, ℕ, List, [], ◌∷◌, ◌++◌, map, Option, refl, sym, ap, subst, ◌∙◌, append_assoc}
use Rattle.std.proofs.lemmas.List.{reverse-append}
use Rattle.std.specs.Prelude.{reverse}
use Rattle.h263_types.specs.declared.params.Params.{Params}
use Rattle.desk_program.specs.Texts.{no_texts}
use Rattle.call_model.specs.Receiving.{ReceiverEntry, Packet, PlayNext}
use Rattle.payload_join.specs.Joining.{Joining, JoinerStands}
use Rattle.payload_join.specs.Packet as joins
use Rattle.payload_join.specs.Places.{Shows}
use Rattle.payload_join.specs.Run.{given_next, joined_by}
use Rattle.recv_command.specs.Join.{Delivering, JoinState, given_to, delivers_next, delivers_one, joined_state, packets_among, through}

pub reversed : (x : ReceiverEntry) (xs ys : List ReceiverEntry) → reverse xs ++ (x ∷ ys) ≡ reverse (x ∷ xs) ++ ys
reversed x xs ys = sym (ap (λ (l : List ReceiverEntry). l ++ ys) (reverse-append (x ∷ []) xs)
    ∙ append_assoc (reverse xs) (x ∷ []) ys)

-- the parameters stay
pub params_stay : (packets : List (List ℕ)) (h : Delivering) → (delivers_next h packets).state.params ≡ h.state.params
params_stay [] h = refl
params_stay (bytes ∷ packets) h = params_stay packets (delivers_one h bytes)

-- each packet joins the entries so far
pub entries_are : (packets : List (List ℕ)) (h : Delivering) → (delivers_next h packets).state.past
    ≡ reverse (map Packet packets) ++ h.state.past
entries_are [] h = refl
entries_are (bytes ∷ packets) h =
    entries_are packets (delivers_one h bytes) ∙ reversed (Packet bytes) (map Packet packets) h.state.past

-- before anything is said
abbrev begun : JoinState → Delivering
begun s = record { state = s.receiver; texts = no_texts }

params_are : (p : Params) (past : List ReceiverEntry) → (joined_state p past).receiver.params ≡ p
unfolding joined_state
params_are p [] = refl
params_are p (PlayNext ∷ past) = params_are p past
params_are p (Packet bytes ∷ past) = params_stay (given_to (joined_state p past) bytes) (begun (joined_state p past))
    ∙ params_are p past

packets_are : (p : Params) (past : List ReceiverEntry) → (joined_state p past).packets ≡ packets_among past
unfolding joined_state packets_among
packets_are p [] = refl
packets_are p (PlayNext ∷ past) = packets_are p past
packets_are p (Packet bytes ∷ past) = ap (λ (l : List (List ℕ)). bytes ∷ l) (packets_are p past)

pub past_is : (p : Params) (past : List ReceiverEntry) → (joined_state p past).receiver.past ≡ through p.format past
unfolding joined_state through
past_is p [] = refl
past_is p (PlayNext ∷ past) = ap (λ (l : List ReceiverEntry). PlayNext ∷ l) (past_is p past)
past_is p (Packet bytes ∷ past) =
    let given : given_next (joined_state p past).receiver.params.format (joined_state p past).packets bytes
    ≡ given_next p.format (packets_among past) bytes =
    λ i. given_next (params_are p past i).format (packets_are p past i) bytes in
    entries_are (given_to (joined_state p past) bytes) (begun (joined_state p past))
    ∙ (λ i. reverse (map Packet (given i)) ++ past_is p past i)

-- ---- the joiner, after what was left is given

pub stands_after : (a b : Joining) (past : List (List ℕ)) → a.top ≡ b.top → a.packets ≡ b.packets → JoinerStands b past
    → JoinerStands a past
stands_after a b past tops packets stands =
    subst (λ (o : Option ℕ). Shows o a.packets (joined_by past)) (sym tops)
    (subst (λ (l : List (Option joins.Packet)). Shows b.top l (joined_by past)) (sym packets) stands)
