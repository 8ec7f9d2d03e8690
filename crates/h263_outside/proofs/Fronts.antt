-- A prefix of a list, and the next piece of it.
use Rattle.std.proofs.Common.{◌≡◌, ℕ, ◌+◌, ◌-◌, ◌≤◌, List, ◌++◌, length, take, drop, sym, ap, ◌∙◌, subst, arith, length-take, length-drop, length-append, Option, Some, None, IfSome}
use Rattle.std.specs.Option.{option_map}
use Rattle.std.proofs.lemmas.List.{take_all, take-append-le}
use Rattle.std.proofs.Math.Seq.{take-add, take-append-add}
use borrow.Rule.Slice.PartMut.{put_mid}
use Rattle.h263_outside.specs.Desk.{IsFront}

-- `&xs[done..]`, as a goal writes it
pub rest_all : (xs : List ℕ) (done : ℕ) → take (length xs - done) (drop done xs) ≡ drop done xs
rest_all xs done = take_all (length xs - done) (drop done xs) (omega (arith, length-drop done xs))

pub rest_within : (xs : List ℕ) (done k : ℕ) → done ≤ length xs → k ≤ length (take (length xs - done) (drop done xs))
    → done + k ≤ length xs
rest_within xs done k le h =
    let h' : k ≤ length (drop done xs) = subst (λ (l : List ℕ). k ≤ length l) (rest_all xs done) h in
    omega (arith, length-drop done xs)

pub next_piece : (xs : List ℕ) (done k : ℕ) → take done xs ++ take k (take (length xs - done) (drop done xs))
    ≡ take (done + k) xs
next_piece xs done k = ap (λ (l : List ℕ). take done xs ++ take k l) (rest_all xs done) ∙ sym (take-add done k xs)

-- the start of a buffer after a read into what lay after it
take_grown : (done k n : ℕ) (xs ys : List ℕ) → done ≤ length xs → n ≤ length ys → take (done + n) (put_mid done k xs ys)
    ≡ take done xs ++ take n ys
take_grown done k n xs ys le within =
    let rest = ys ++ drop k (drop done xs) in
    let size : done ≡ length (take done xs) = omega (arith, length-take done xs) in
    ap (λ (m : ℕ). take (m + n) (take done xs ++ rest)) size
    ∙ take-append-add (take done xs) rest n
    ∙ ap (λ (l : List ℕ). take done xs ++ l) (take-append-le n ys (drop k (drop done xs)) within)

-- what was read lies within the buffer
pub grown_within : (done k n : ℕ) (xs ys : List ℕ) → done ≤ length xs → n ≤ length ys
    → done + n ≤ length (put_mid done k xs ys)
grown_within done k n xs ys le within =
    omega (
      arith,
      length-append (take done xs) (ys ++ drop k (drop done xs)),
      length-append ys (drop k (drop done xs)),
      length-take done xs,
    )

front_grown : (done k n : ℕ) (xs ys left : List ℕ) → done ≤ length xs → n ≤ length ys → take done xs ≡ take done left
    → take n ys ≡ take n (drop done left) → take (done + n) (put_mid done k xs ys) ≡ take (done + n) left
front_grown done k n xs ys left le within same more =
    take_grown done k n xs ys le within ∙ (λ i. same i ++ more i) ∙ sym (take-add done n left)

-- where what is left is told, what was read so far is its prefix
pub front_on : (o left : Option (List ℕ)) (done k n : ℕ) (xs ys : List ℕ) → left ≡ option_map (λ l. drop done l) o
    → done ≤ length xs → n ≤ length ys → IfSome o (λ l. (done ≤ length l) × (take done xs ≡ take done l))
    → IfSome left (λ l. IsFront l ys n)
    → IfSome o (λ l. (done + n ≤ length l) × (take (done + n) (put_mid done k xs ys) ≡ take (done + n) l))
front_on None left done k n xs ys is le within was read = tt
front_on (Some all) left done k n xs ys is le within was read =
    let now : IsFront (drop done all) ys n = subst (λ (o : Option (List ℕ)). IfSome o (λ l. IsFront l ys n)) is read in
    (omega (arith, now.within, was.0, length-drop done all), front_grown done k n xs ys all le within was.1 now.same)
