-- Lists of gaps.
use Rattle.std.proofs.Common.{◌≡◌, ℕ, zero, suc, ◌+◌, ◌-◌, ◌<◌, ◌≤◌, min, Bool, true, false, cond, List, [], ◌∷◌, ◌++◌, length, length-append, get_or, map, drop, take, Option, Some, None, refl, ap, sym, arith, ◌∙◌, ⊎_elim}
use Rattle.std.specs.Prelude.{find, is_some}
use Rattle.std.proofs.lemmas.Bool.{cases_lt, true≢false}
use Rattle.std.proofs.lemmas.List.{append_assoc, map-append, length-map}
use Rattle.packet_gaps.specs.declared.gap.Gap.{Gap}
use Rattle.packet_gaps.specs.Missing.{last_gaps, numbers_from}

-- ---- numbers in a row

pub numbers_push : (f n : ℕ) → numbers_from f (suc n) ≡ numbers_from f n ++ (f + n) ∷ []
numbers_push f zero =
    let e : f ≡ f + 0 = omega arith in
    ap (λ (k : ℕ). k ∷ []) e
numbers_push f (suc n) =
    let e : f + 1 + n ≡ f + suc n = omega arith in
    ap (λ (l : List ℕ). f ∷ l)
    (numbers_push (f + 1) n ∙ ap (λ (k : ℕ). numbers_from (f + 1) n ++ k ∷ []) e)

length_numbers : (f n : ℕ) → length (numbers_from f n) ≡ n
length_numbers f zero = refl
length_numbers f (suc n) =
    let e = length_numbers (f + 1) n in
    omega (arith, e)

-- m is n + k
drop_numbers : (k f n m : ℕ) → m ≡ n + k → drop k (numbers_from f m) ≡ numbers_from (f + k) n
drop_numbers zero f n m e =
    let s : m ≡ n = omega (arith, e) in
    let t : f ≡ f + 0 = omega arith in
    ap (numbers_from f) s ∙ ap (λ (k : ℕ). numbers_from k n) t
drop_numbers (suc k) f n zero e =
    let no : ⊥ = omega (arith, e) in
    absurd no
drop_numbers (suc k) f n (suc m) e =
    let t : f + 1 + k ≡ f + suc k = omega arith in
    drop_numbers k (f + 1) n m (omega (arith, e)) ∙ ap (λ (j : ℕ). numbers_from j n) t

-- ---- one more

pub pushed : (g : ℕ → Gap) (old : List Gap) (f n : ℕ)
    → (old ++ map g (numbers_from f n)) ++ g (f + n) ∷ [] ≡ old ++ map g (numbers_from f (n + 1))
pushed g old f n =
    let e : suc n ≡ n + 1 = omega arith in
    append_assoc old (map g (numbers_from f n)) (g (f + n) ∷ [])
    ∙ ap (λ (l : List Gap). old ++ l)
    (sym (map-append g (numbers_from f n) ((f + n) ∷ []))
    ∙ ap (map g) (sym (numbers_push f n) ∙ ap (numbers_from f) e))

-- ---- the last ones

drop_map : (g : ℕ → Gap) (k : ℕ) (ns : List ℕ) → drop k (map g ns) ≡ map g (drop k ns)
drop_map g zero ns = refl
drop_map g (suc k) [] = refl
drop_map g (suc k) (n ∷ ns) = drop_map g k ns

-- n is k + length xs
drop_past : (n k : ℕ) (xs ys : List Gap) → n ≡ k + length xs → drop n (xs ++ ys) ≡ drop k ys
drop_past n k [] ys e =
    let s : n ≡ k = omega (arith, e) in
    ap (λ (j : ℕ). drop j ys) s
drop_past zero k (x ∷ xs) ys e =
    let no : ⊥ = omega (arith, e) in
    absurd no
drop_past (suc n) k (x ∷ xs) ys e = drop_past n k xs ys (omega (arith, e))

drop_before : (k : ℕ) (xs ys : List Gap) → k ≤ length xs → drop k (xs ++ ys) ≡ drop k xs ++ ys
drop_before zero xs ys h = refl
drop_before (suc k) [] ys h =
    let no : ⊥ = omega arith in
    absurd no
drop_before (suc k) (x ∷ xs) ys h = drop_before k xs ys (omega arith)

drop_all : (xs : List Gap) → drop (length xs) xs ≡ []
drop_all [] = refl
drop_all (x ∷ xs) = drop_all xs

long : (g : ℕ → Gap) (xs : List Gap) (f n : ℕ) → length (xs ++ map g (numbers_from f n)) ≡ length xs + n
long g xs f n =
    length-append xs (map g (numbers_from f n))
    ∙ ap (λ (k : ℕ). length xs + k) (length-map (numbers_from f n) g ∙ length_numbers f n)

few : (g : ℕ → Gap) (xs : List Gap) (f n : ℕ) → n ≤ 64
    → last_gaps (64 - n) xs ++ map g (numbers_from f n) ≡ last_gaps 64 (xs ++ map g (numbers_from f n))
few g xs f n h =
    let ys = map g (numbers_from f n) in
    let l = long g xs f n in
    let e : length xs - (64 - n) ≡ length (xs ++ ys) - 64 = omega (arith, l, h) in
    sym (drop_before (length xs - (64 - n)) xs ys (omega arith))
    ∙ ap (λ (k : ℕ). drop k (xs ++ ys)) e

-- n is 64 + k
many : (g : ℕ → Gap) (xs : List Gap) (f k n : ℕ) → n ≡ 64 + k
    → map g (numbers_from (f + k) 64) ≡ last_gaps 64 (xs ++ map g (numbers_from f n))
many g xs f k n s =
    let ys = map g (numbers_from f n) in
    let l = long g xs f n in
    let e : length (xs ++ ys) - 64 ≡ k + length xs = omega (arith, l, s) in
    ap (map g) (sym (drop_numbers k f 64 n s))
    ∙ sym (drop_map g k (numbers_from f n))
    ∙ sym (drop_past (length (xs ++ ys) - 64) k xs ys e)

none_left : (n : ℕ) (xs : List Gap) → n ≡ 0 → last_gaps n xs ≡ []
none_left n xs e =
    let s : length xs - n ≡ length xs = omega (arith, e) in
    ap (λ (k : ℕ). drop k xs) s ∙ drop_all xs

pub filled : (g : ℕ → Gap) (xs : List Gap) (newest number count : ℕ) → newest < number
    → count ≡ min (number - newest - 1) 64
    → last_gaps (64 - count) xs ++ map g (numbers_from (number - count) count)
    ≡ last_gaps 64 (xs ++ map g (numbers_from (newest + 1) (number - newest - 1)))
filled g xs newest number count h e =
    ⊎_elim
    (λ (i : 64 < number - newest - 1).
    let k = number - newest - 1 - 64 in
    let c : count ≡ 64 = omega arith in
    let s : number - count ≡ newest + 1 + k = omega arith in
    let t : number - newest - 1 ≡ 64 + k = omega arith in
    ap (λ (l : List Gap). l ++ map g (numbers_from (number - count) count))
    (none_left (64 - count) xs (omega arith))
    ∙ ap (λ (n : ℕ). map g (numbers_from (number - count) n)) c
    ∙ ap (λ (n : ℕ). map g (numbers_from n 64)) s
    ∙ many g xs (newest + 1) k (number - newest - 1) t)
    (λ (i : number - newest - 1 ≤ 64).
    let c : count ≡ number - newest - 1 = omega arith in
    let s : number - count ≡ newest + 1 = omega arith in
    ap (λ (n : ℕ). last_gaps (64 - count) xs ++ map g (numbers_from n count)) s
    ∙ ap (λ (n : ℕ). last_gaps (64 - n) xs ++ map g (numbers_from (newest + 1) n)) c
    ∙ few g xs (newest + 1) (number - newest - 1) i)
    (cases_lt 64 (number - newest - 1))

-- ---- the first one

is_none : (b : Bool) (x : Gap) (o : Option Gap) → cond b (Some x) o ≡ None → (b ≡ false) × (o ≡ None)
is_none true x o e = absurd (true≢false (ap is_some e))
is_none false x o e = (refl, e)

pub find_at : (p : Gap → Bool) (xs : List Gap) (i : ℕ) (d : Gap) → i < length xs → find p (take i xs) ≡ None
    → p (get_or xs i d) ≡ true → find p xs ≡ Some (get_or xs i d)
find_at p [] i d h n e =
    let no : ⊥ = omega arith in
    absurd no
find_at p (x ∷ xs) zero d h n e = ap (λ (b : Bool). cond b (Some x) (find p xs)) e
find_at p (x ∷ xs) (suc i) d h n e =
    let k = is_none (p x) x (find p (take i xs)) n in
    ap (λ (b : Bool). cond b (Some x) (find p xs)) k.0 ∙ find_at p xs i d (omega arith) k.1 e

pub find_more : (p : Gap → Bool) (xs : List Gap) (y : Gap) → find p xs ≡ None → p y ≡ false
    → find p (xs ++ y ∷ []) ≡ None
find_more p [] y n e = ap (λ (b : Bool). cond b (Some y) None) e
find_more p (x ∷ xs) y n e =
    let k = is_none (p x) x (find p xs) n in
    ap (λ (b : Bool). cond b (Some x) (find p (xs ++ y ∷ []))) k.0 ∙ find_more p xs y k.1 e
