-- The first line of a text, as it is found byte by byte.
use Rattle.std.proofs.Common.{◌≡◌, ◌≢◌, ℕ, ◌+◌, ◌<◌, ◌≤◌, ◌++◌, min, true, false, List, [], ◌∷◌, length, take, drop, set, Option, Some, None, MatchOption, refl, sym, ap, subst, ◌∙◌, arith, append-nil, length-take, length-drop, length-append}
use Rattle.std.proofs.Math.Seq.{take-add}
use borrow.Author.Tests.{lt-ltb, le-ltb}
use Rattle.std.proofs.lemmas.Bool.Decides.{nat_tests}
use Rattle.std.proofs.lemmas.List.{take_more_set, drop-drop, take-append-drop}
use Rattle.std.proofs.lemmas.List.Elements.{All-nil, All-cons, All-head, All-tail, All-append}
use Rattle.h263_outside.specs.Lines.{NoNewline}
use Rattle.loss_trace.specs.Lines.{first_line, is_closed, after_long}
use Rattle.loss_trace.specs.Input.{IsFirstLine}

abbrev Other : ℕ → Type 0
Other b = b ≢ 10

first_newline : (b : ℕ) (text : List ℕ) → b ≡ 10 → first_line (b ∷ text) ≡ []
first_newline b text ten = grind (arith, nat_tests)

first_other : (b : ℕ) (text : List ℕ) → b ≢ 10 → first_line (b ∷ text) ≡ b ∷ first_line text
first_other b text other = grind (arith, nat_tests)

-- a line and its newline
pub first_found : (line more : List ℕ) (b : ℕ) → NoNewline line → b ≡ 10 → first_line (line ++ b ∷ more) ≡ line
first_found [] more b free ten = first_newline b more ten
first_found (x ∷ line) more b free ten =
    first_other x (line ++ b ∷ more) (All-head Other x line free)
    ∙ ap (λ (l : List ℕ). x ∷ l) (first_found line more b (All-tail Other x line free) ten)

-- a line that ends with the text
pub first_all : (line : List ℕ) → NoNewline line → first_line line ≡ line
first_all [] free = refl
first_all (x ∷ line) free = first_other x line (All-head Other x line free)
    ∙ ap (λ (l : List ℕ). x ∷ l) (first_all line (All-tail Other x line free))

-- a prefix of a line
pub first_past : (front more : List ℕ) → NoNewline front → first_line (front ++ more) ≡ front ++ first_line more
first_past [] more free = refl
first_past (x ∷ front) more free =
    first_other x (front ++ more) (All-head Other x front free)
    ∙ ap (λ (l : List ℕ). x ∷ l) (first_past front more (All-tail Other x front free))

-- what a byte that was read, or the end, says of what was left
abbrev pub Begins : Option ℕ → List ℕ → Type 0
Begins byte xs = MatchOption byte (xs ≡ []) (λ b. xs ≡ b ∷ drop 1 xs)

-- the byte that was read is the first one
pub byte_there : (byte : Option ℕ) (b : ℕ) (xs : List ℕ) → byte ≡ Some b → Begins byte xs → xs ≡ b ∷ drop 1 xs
byte_there byte b xs is begins = subst (λ (o : Option ℕ). Begins o xs) is begins

-- where none was read nothing is left
pub no_byte : (byte : Option ℕ) (xs : List ℕ) → byte ≡ None → Begins byte xs → xs ≡ []
no_byte byte xs is begins = subst (λ (o : Option ℕ). Begins o xs) is begins

-- i bytes of a line have come to a buffer
pub record Came (text buf : List ℕ) (i : ℕ) : Type 0 where
  pub within : i ≤ length text
  pub same : take i buf ≡ take i text
  pub free : NoNewline (take i text)

-- no byte is there at all
pub nothing : (text : List ℕ) (i : ℕ) → i ≡ 0 → drop i text ≡ [] → (left : Option (List ℕ))
    → left ≡ Some (drop 1 (drop i text)) → (text ≡ []) × (left ≡ Some [])
nothing text i is none left gone =
    (ap (λ (k : ℕ). drop k text) (sym is) ∙ none, gone ∙ ap (λ (l : List ℕ). Some (drop 1 l)) none)

some_of : (xs ys : List ℕ) (b : ℕ) → xs ≡ b ∷ ys → 0 < length xs
some_of xs ys b is = omega (arith, ap (λ (l : List ℕ). length l) is)

-- one byte more of a line
free_more : (front rest : List ℕ) (b : ℕ) → NoNewline front → b ≢ 10 → NoNewline (front ++ b ∷ [])
free_more front rest b free other = All-append Other front (b ∷ []) free (All-cons Other b [] other (All-nil Other))

module _ (text buf : List ℕ) (i : ℕ) (came : Came text buf i) (left : Option (List ℕ)) (gone : left
    ≡ Some (drop 1 (drop i text))) where
  after : (n : ℕ) → i ≡ n → left ≡ Some (drop (n + 1) text)
  after n is = gone ∙ ap (λ (l : List ℕ). Some l) (drop-drop 1 i text) ∙ ap (λ (k : ℕ). Some (drop (k + 1) text)) is

  size : length (take i text) ≡ i
  size = omega (arith, length-take i text, came.within)

  -- the text ends here
  pub unclosed : 0 < i → drop i text ≡ [] → IsFirstLine text buf i left × (is_closed text ≡ false)
  unclosed some none =
      let all : take i text ≡ text = sym (append-nil (take i text)) ∙ ap (λ (l : List ℕ). take i text ++ l) (sym none)
      ∙ take-append-drop i text in
      let line : first_line text ≡ take i text = first_all text (subst NoNewline all came.free) ∙ sym all in
      let long : length (first_line text) ≡ i = ap (λ (l : List ℕ). length l) line ∙ size in
      let end : length text ≡ i = ap (λ (l : List ℕ). length l) (sym all) ∙ size in
      let over : length text ≤ length (first_line text) = omega (arith, long, end) in (
        record {
          some = omega (arith, some, end);
          size = long;
          same = came.same ∙ sym line;
          gone = after (length (first_line text)) (sym long);
        },
        le-ltb (length (first_line text)) (length text) over,
      )

  module _ (b : ℕ) (there : drop i text ≡ b ∷ drop 1 (drop i text)) where
    parts : text ≡ take i text ++ b ∷ drop 1 (drop i text)
    parts = sym (take-append-drop i text) ∙ ap (λ (l : List ℕ). take i text ++ l) there

    longer : i < length text
    longer = omega (arith, some_of (drop i text) (drop 1 (drop i text)) b there, length-drop i text)

    -- its newline is here
    pub closed : b ≡ 10 → IsFirstLine text buf i left × (is_closed text ≡ true)
    closed ten =
        let line : first_line text ≡ take i text = ap first_line parts
        ∙ first_found (take i text) (drop 1 (drop i text)) b came.free ten in
        let long : length (first_line text) ≡ i = ap (λ (l : List ℕ). length l) line ∙ size in
        let more : length (first_line text) < length text = omega (arith, long, longer) in (
          record {
            some = omega (arith, longer);
            size = long;
            same = came.same ∙ sym line;
            gone = after (length (first_line text)) (sym long);
          },
          lt-ltb (length (first_line text)) (length text) more,
        )

    module _ (other : b ≢ 10) where
      front : take (i + 1) text ≡ take i text ++ b ∷ []
      front = take-add i 1 text ∙ ap (λ (l : List ℕ). take i text ++ take 1 l) there

      free_on : NoNewline (take (i + 1) text)
      free_on = subst NoNewline (sym front) (free_more (take i text) [] b came.free other)

      -- it goes on
      pub goes_on : i < length buf → Came text (set buf i b) (i + 1)
      goes_on lt = record {
        within = omega (arith, longer);
        same = take_more_set buf i b lt ∙ ap (λ (l : List ℕ). l ++ b ∷ []) came.same ∙ sym front;
        free = free_on;
      }

      -- it is longer than a line may be
      pub too_long : i ≡ 64 → (64 < length (first_line text)) × (left ≡ Some (after_long text))
      too_long is =
          let line : first_line text ≡ take (i + 1) text ++ first_line (drop (i + 1) text) =
          ap first_line (sym (take-append-drop (i + 1) text))
          ∙ first_past (take (i + 1) text) (drop (i + 1) text) free_on in
          let all : length (take (i + 1) text) ≡ i + 1 = omega (arith, length-take (i + 1) text, longer) in
          let long : 64 < length (first_line text) = omega (
            arith,
            ap (λ (l : List ℕ). length l) line,
            length-append (take (i + 1) text) (first_line (drop (i + 1) text)),
            all,
            is,
          ) in
          let most : min (length (first_line text) + 1) 65 ≡ 64 + 1 = omega (arith, long) in
          (long, after 64 is ∙ ap (λ (k : ℕ). Some (drop k text)) (sym most))
