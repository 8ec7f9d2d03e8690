-- THE FIRST FAULT, said of elements and not of a reader. An element is a field, a word, or several
-- pieces that a standard takes as one, as a word with its sign, or an escape with its fields. A
-- reading is a list of elements, each where those before it end, of which none has a fault. The
-- first fault is the one that the next element has after the longest reading: that element is cut
-- by the end of the bits, no word begins there, or its value is one that is refused.
use Rattle.std.specs.Prelude.{◌≡◌, ℕ, zero, suc, ◌+◌, ◌<◌, ◌^◌, List, [], ◌∷◌, ◌++◌, length, Bool, Some, None, ◌⊎◌, Err}
use Rattle.h263_bits.specs.declared.fault.Fault.{Fault}
use Rattle.h263_bits.specs.declared.fault.FaultKind.{FaultKind}
use Rattle.h263_bits.specs.declared.fault.FaultKind.TheVariants.{Ended, BadCode}
use Rattle.h263_bits.specs.Bits.{spelled}
use Rattle.h263_bits.specs.Reading.{Bits}
use Rattle.h263_bits.specs.Syntax.{Syntax, Allowed, IsIn, LoopTurn, again, done, field, code, part, element, repeat, Spells, reading}

-- ---- the fault of one element

-- a field whose bits are cut, or whose number is refused
abbrev pub IsFieldFault : ℕ → Allowed ℕ → List Bool → FaultKind → Type 0
IsFieldFault n allowed left kind =
    ((length left < n) × (kind ≡ Ended))
    ⊎ ((v : ℕ) × (rest : List Bool) × (v < 2 ^ n) × (left ≡ spelled n v ++ rest) × (allowed v ≡ Some kind))

-- a word of a table
abbrev pub IsWordOf : {S : Type 0} → List (List Bool × S) → List Bool → Type 0
IsWordOf {S} words w = (x : S) × IsIn (w, x) words

-- the bits end inside a word: they are a prefix of one, and not the whole
abbrev pub IsCutWord : (List Bool → Type 0) → List Bool → Type 0
IsCutWord IsWord left = (w : List Bool) × (next : Bool) × (more : List Bool) × IsWord w × (w ≡ left ++ next ∷ more)

-- no word begins the bits, and none goes on from them
abbrev pub IsNoWord : (List Bool → Type 0) → List Bool → Type 0
IsNoWord IsWord left =
    (w : List Bool) → IsWord w
    → ((rest : List Bool) → left ≡ w ++ rest → ⊥) × ((more : List Bool) → w ≡ left ++ more → ⊥)

-- a word that is cut, or none
abbrev pub IsWordFault : (List Bool → Type 0) → List Bool → FaultKind → Type 0
IsWordFault IsWord left kind = (IsCutWord IsWord left × (kind ≡ Ended)) ⊎ (IsNoWord IsWord left × (kind ≡ BadCode))

-- a part that rests on several elements, of which none has a fault, and whose value is refused
abbrev pub IsRefused : {S : Type 0} → (S → List Bool → Type 0) → Allowed S → List Bool → FaultKind → Type 0
IsRefused {S} spells allowed left kind =
    (x : S) × (text rest : List Bool) × spells x text × (left ≡ text ++ rest) × (allowed x ≡ Some kind)

-- ---- the fault after a reading

-- this many whole turns, and a turn with a fault
abbrev pub FaultTurns : {S A : Type 0} → (S → LoopTurn S A → List Bool → Type 0)
    → (S → List Bool → List Bool → Type 0) → ℕ → S → List Bool → List Bool → Type 0
FaultTurns turn fails zero s front left = fails s front left
FaultTurns {S} turn fails (suc n) s front left =
    (t : S) × (text rest : List Bool)
    × turn s (again t) text × (front ≡ text ++ rest) × FaultTurns turn fails n t rest left

-- `front` are the bits of elements that have no fault, and with what is left after them an element begins that has one
unfoldable pub ElementFaults : {A : Type 0} → Syntax A → List Bool → List Bool → FaultKind → Type 0
ElementFaults (done x) front left kind = ⊥
ElementFaults (field n allowed next) front left kind =
    ((front ≡ []) × IsFieldFault n allowed left kind)
    ⊎ ((v : ℕ) × (rest : List Bool) × (v < 2 ^ n)
    × (allowed v ≡ None) × (front ≡ spelled n v ++ rest) × ElementFaults (next v) rest left kind)
ElementFaults (code {S} words next) front left kind =
    ((front ≡ []) × IsWordFault (λ w. IsWordOf words.list w) left kind)
    ⊎ ((word : List Bool) × (x : S) × (rest : List Bool)
    × IsIn (word, x) words.list × (front ≡ word ++ rest) × ElementFaults (next x) rest left kind)
ElementFaults (part {S} s allowed next) front left kind =
    ElementFaults s front left kind
    ⊎ (((front ≡ []) × IsRefused (λ x text. Spells s x text) allowed left kind)
    ⊎ ((x : S) × (text rest : List Bool) × Spells s x text
    × (allowed x ≡ None) × (front ≡ text ++ rest) × ElementFaults (next x) rest left kind))
ElementFaults (element {S} s allowed next) front left kind =
    ((front ≡ []) × (inner behind : List Bool) × (left ≡ inner ++ behind) × ElementFaults s inner behind kind)
    ⊎ (((front ≡ []) × IsRefused (λ x text. Spells s x text) allowed left kind)
    ⊎ ((x : S) × (text rest : List Bool) × Spells s x text
    × (allowed x ≡ None) × (front ≡ text ++ rest) × ElementFaults (next x) rest left kind))
ElementFaults (repeat s body) front left kind =
    (n : ℕ) × FaultTurns (λ t x text. Spells (body t) x text) (λ t f l. ElementFaults (body t) f l kind) n s front left

-- the first fault of a syntax in bits from a place on: it stands after a reading
abbrev pub IsFirstFault : {A : Type 0} → Syntax A → Bits → Fault → Type 0
IsFirstFault s b fault =
    (front left : List Bool) × (b.bits ≡ front ++ left)
    × (fault.at ≡ b.at + length front) × ElementFaults s front left fault.kind

-- ---- a row of a table of faults

-- Bits that begin with this text have this fault first, whatever follows, this many bits after the text's first.
abbrev pub HasFault : {A : Type 0} → Syntax A → List Bool → FaultKind → ℕ → Type 0
HasFault s text kind place =
    (at : ℕ) (rest : List Bool) → reading s (record { at = at; bits = text ++ rest })
    ≡ Err (record { kind = kind; at = at + place })

-- Bits that are this text have this fault first.
abbrev pub EndsWithFault : {A : Type 0} → Syntax A → List Bool → FaultKind → ℕ → Type 0
EndsWithFault s text kind place =
    (at : ℕ) → reading s (record { at = at; bits = text }) ≡ Err (record { kind = kind; at = at + place })
