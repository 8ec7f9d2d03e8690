-- An event of a call of two parties is refused exactly where it is not near.
use Rattle.std.proofs.Common.{◌≡◌, ℕ, refl, Option, Some, None, List, [], ◌∷◌}
use Rattle.std.specs.Prelude.{slice_index_or}
use Rattle.call_model.specs.Coding.{Rules}
use Rattle.call_model.specs.IdealCall.{Send, Deliver, Play, Back}
use Rattle.call_model.specs.Refusals.{Refusal, NoneWhereItMayHappen}
use Rattle.duplex_call.specs.declared.line.Party.{Party}
use Rattle.duplex_call.specs.Duplex.{other, WayRun, way, WayCoding, call_of, MayBeBrought}
use Rattle.duplex_call.specs.Refused.{earlier_refusal, own_refusal, heard_refusal, NoneWhereItMayHappenOf}

neither : (a b : Option Refusal) → earlier_refusal a b ≡ None → (a ≡ None) × (b ≡ None)
neither None b is = (refl, is)
neither (Some r) b is = cc

both_none : (a b : Option Refusal) → a ≡ None → b ≡ None → earlier_refusal a b ≡ None
both_none None b first second = second
both_none (Some r) b first second = cc

module _ {Captured Frame Style Mb Picture Fault MessageFault : Type 0} (none : (rules : Rules)
    → NoneWhereItMayHappen rules Style Mb Picture) (side : Party
    → WayCoding Captured Frame Style Mb Picture Fault MessageFault) where
  heard : (x : Party) (w : WayRun Frame) (ks : List ℕ) → heard_refusal side x w ks ≡ None → MayBeBrought side x w ks
  heard x w [] is = tt
  heard x w (k ∷ ks) is =
      let parts = neither (own_refusal side 0 x w (Back k)) (heard_refusal side x w ks) is in
      ((none (side x).rules 0 (call_of side x w) (Back k)).0 parts.0, heard x w ks parts.1)

  heard_back : (x : Party) (w : WayRun Frame) (ks : List ℕ) → MayBeBrought side x w ks → heard_refusal side x w ks
      ≡ None
  heard_back x w [] is = refl
  heard_back x w (k ∷ ks) is = both_none (own_refusal side 0 x w (Back k)) (heard_refusal side x w ks)
      ((none (side x).rules 0 (call_of side x w) (Back k)).1 is.0) (heard_back x w ks is.1)

  pub none_where_near_of : NoneWhereItMayHappenOf side
  none_where_near_of left x Send ways = none (side x).rules left (call_of side x (way x ways)) Send
  none_where_near_of left x Play ways = none (side x).rules left (call_of side x (way x ways)) Play
  none_where_near_of left x (Back k) ways = (λ is. cc, λ is. absurd is)
  none_where_near_of left x (Deliver n j) ways =
      let ks = slice_index_or (way x ways).carried n [] in
      let here = none (side x).rules left (call_of side x (way x ways)) (Deliver n j) in
      let own_is = own_refusal side left x (way x ways) (Deliver n j) in
      let far_is = heard_refusal side (other x) (way (other x) ways) ks in (
        λ is. (
          here.0 (neither own_is far_is is).0,
          heard (other x) (way (other x) ways) ks (neither own_is far_is is).1,
        ),
        λ near. both_none own_is far_is (here.1 near.0) (heard_back (other x) (way (other x) ways) ks near.1),
      )
