-- A sender as its contracts see it.
use Rattle.std.specs.Prelude.{ℕ, Bool, List}
use Rattle.h263_types.specs.declared.params.Params.{Params}
use Rattle.picture_store.specs.Pictures.{StoredPictures}
use Rattle.reference_selector.specs.declared.Selector.{Selector}

pub record SenderState (P : Type 0) : Type 0 where
  pub pace : P
  pub params : Params
  -- how many pictures were coded
  pub sent : ℕ
  -- the sequence number of the next packet, and the packets of the last picture: none before the
  -- first
  pub sequence : ℕ
  pub packets : List (List ℕ)
  -- the bytes of the last pictures, oldest first
  pub sizes : List ℕ
  -- the number of the first picture that may be a reference: how many were coded when it last
  -- forgot
  pub since : ℕ
  -- what is known of the last pictures, and the pictures themselves, as they are once
  -- all are drawn
  pub selector : Selector
  pub store : StoredPictures
  -- each picture is drawn as it is coded, so there is one to be shown
  pub draws_all : Bool
