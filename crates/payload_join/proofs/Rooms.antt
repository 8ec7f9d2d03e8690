-- What is left in the room, after a part was given.
use Rattle.std.proofs.Common.{◌≡◌, ℕ, ◌+◌, ◌<◌, ◌≤◌, Bool, true, cond, List, [], ◌∷◌, ◌++◌, length, take, drop, refl, sym, ap, ◌∙◌, arith}
use Rattle.std.specs.Prelude.{map}
use Rattle.payload_join.specs.declared.giving.Giving.{Giving}
use Rattle.payload_join.specs.Packet.{bytes_between}
use Rattle.payload_join.specs.Split.{split_of}
use Rattle.payload_join.specs.Places.{put_at}
use Rattle.payload_join.specs.Fronts.{bytes_of_front}
use Rattle.payload_join.specs.Giving.{fronted, left_of_unit, left_in}
use Rattle.payload_join.proofs.Between.{between_put, between_after, between_take, between_drop}

-- after the first part all have the same front
pub fronted_same : (front : List ℕ) (parts : List (List ℕ)) → fronted front front parts ≡ map (λ p. front ++ p) parts
fronted_same front [] = refl
fronted_same front (part ∷ parts) = refl

-- the last part is given
pub built_last : (g : Giving) (room : List ℕ) (p : ℕ) → g.is_left ≡ true → p + length (bytes_of_front g.front) ≡ g.at
    → g.at ≤ g.to → g.to ≤ length room
    → left_of_unit g (bytes_between room g.at g.to) ≡ (bytes_of_front g.front ++ bytes_between room g.at g.to) ∷ []
    → left_in g room ≡ bytes_between (put_at room p (bytes_of_front g.front)) p g.to ∷ []
built_last g room p left at order end last =
    let f : List ℕ = bytes_of_front g.front in
    (ap (λ (b : Bool). cond b (left_of_unit g (bytes_between room g.at g.to)) []) left)
    ∙ last
    ∙ ap (λ (l : List ℕ). l ∷ []) (ap (λ (k : ℕ). f ++ bytes_between room k g.to) (sym at)
    ∙ sym (between_put room f p g.to (omega arith) end))

-- a part is given, and others are left
pub built_cut : (g : Giving) (room : List ℕ) (p len : ℕ) → g.is_left ≡ true → g.splits ≡ true
    → p + length (bytes_of_front g.front) ≡ g.at → g.at + len + 2 < g.to → g.to ≤ length room
    → split_of (bytes_between room g.at g.to) ≡ take len (bytes_between room g.at g.to) ∷ split_of
    (drop (len + 2) (bytes_between room g.at g.to))
    → left_in g room ≡ bytes_between (put_at room p (bytes_of_front g.front)) p (g.at + len) ∷ left_in
    (record g { at = g.at + len + 2; front = g.other }) (put_at room p (bytes_of_front g.front))
built_cut g room p len left splits at order end cut =
    let f : List ℕ = bytes_of_front g.front in
    let o : List ℕ = bytes_of_front g.other in
    let coded : List ℕ = bytes_between room g.at g.to in
    let new : List ℕ = put_at room p f in
    let rest : drop (len + 2) coded ≡ bytes_between new (g.at + len + 2) g.to =
    between_drop room g.at g.to (len + 2) (omega arith)
    ∙ (let e : g.at + (len + 2) ≡ g.at + len + 2 = omega arith in ap (λ (k : ℕ). bytes_between room k g.to) e)
    ∙ sym (between_after room f p (g.at + len + 2) g.to (omega arith) (omega arith)) in
    let part : f ++ take len coded ≡ bytes_between new p (g.at + len) =
    ap (λ (l : List ℕ). f ++ l) (between_take room g.at g.to len (omega arith))
    ∙ ap (λ (k : ℕ). f ++ bytes_between room k (g.at + len)) (sym at)
    ∙ sym (between_put room f p (g.at + len) (omega arith) (omega arith)) in
    let was : left_in g room ≡ fronted f o (split_of coded) = rw (left, splits) refl in
    let then_left : fronted o o (split_of (bytes_between new (g.at + len + 2) g.to))
    ≡ left_in (record g { at = g.at + len + 2; front = g.other }) new = rw (left, splits) refl in
    was
    ∙ ap (fronted f o) cut
    ∙ (λ i. part i ∷ map (λ q. o ++ q) (split_of (rest i)))
    ∙ ap (λ (l : List (List ℕ)). bytes_between new p (g.at + len) ∷ l)
    (sym (fronted_same o (split_of (bytes_between new (g.at + len + 2) g.to))) ∙ then_left)
