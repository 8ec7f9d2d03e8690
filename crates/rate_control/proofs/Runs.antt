-- The pictures of a log, one packet after another.
use Rattle.std.proofs.Common.{◌≡◌, ℕ, ◌+◌, ◌*◌, ◌≤◌, Bool, true, false, cond, eqb, List, [], ◌∷◌, ◌++◌, length, Some, Ok, Err, Result, sum, is_err, arith, refl, sym, ap, subst, ◌∙◌, ⊎_elim}
use Rattle.std.proofs.lemmas.Bool.{cases_Bool, eqb-true, eq-eqb}
use Rattle.std.proofs.lemmas.List.{append_assoc, flat_map_more, length-append, map-append}
use Rattle.std.proofs.lemmas.List.Sums.{sum_by-append, sum_by-cons, sum_by_push}
use Rattle.h263_bits.specs.declared.fault.Fault.{Fault}
use Rattle.rtp_header.specs.declared.rtp.Rtp.{Rtp}
use Rattle.rtp_header.specs.Faults.{rtp_in}
use Rattle.rtp_header.specs.Written.{IsPayloadWithin}
use Rattle.rate_control.specs.declared.meter.Picture.{Picture}
use Rattle.rate_control.specs.Pictures.{accepted, picture_alone, put_before, accepted_picture, metered_pictures, refused_in, timestamp_runs, sizes_in}
use Rattle.rate_control.specs.Metering.{pictures_joined, last_time}

-- ---- a packet after pictures

abbrev pushed : List Picture → Picture → List Picture
pushed [] x = x ∷ []
pushed (p ∷ []) x = put_before p (x ∷ [])
pushed (p ∷ q ∷ qs) x = p ∷ pushed (q ∷ qs) x

joins : (p q : Picture) (qs : List Picture) → eqb p.timestamp q.timestamp ≡ true → put_before p (q ∷ qs)
    ≡ pictures_joined p q ∷ qs
joins p q qs e = rw e

parts : (p q : Picture) (qs : List Picture) → eqb p.timestamp q.timestamp ≡ false → put_before p (q ∷ qs) ≡ p ∷ q ∷ qs
parts p q qs e = rw e

-- the same time three times
same_time : (a b c : ℕ) → eqb a b ≡ true → eqb b c ≡ true → eqb a c ≡ true
same_time a b c h k = eq-eqb a c (eqb-true a b h ∙ eqb-true b c k)

other_time : (a b c : ℕ) → eqb a b ≡ true → eqb b c ≡ false → eqb a c ≡ false
other_time a b c h k = subst (λ (n : ℕ). eqb n c ≡ false) (sym (eqb-true a b h)) k

joined_assoc : (p q x : Picture) → pictures_joined p (pictures_joined q x) ≡ pictures_joined (pictures_joined p q) x
joined_assoc p q x =
    let e : p.size + (q.size + x.size) ≡ (p.size + q.size) + x.size = omega arith in
    ap (λ (n : ℕ). record { timestamp = p.timestamp; size = n }) e

both : (p q x : Picture) → eqb p.timestamp q.timestamp ≡ true → eqb q.timestamp x.timestamp ≡ true
    → put_before p (pushed (q ∷ []) x) ≡ pushed (put_before p (q ∷ [])) x
both p q x h k =
    ap (λ (l : List Picture). put_before p l) (joins q x [] k)
    ∙ joins p (pictures_joined q x) [] h
    ∙ ap (λ (y : Picture). y ∷ []) (joined_assoc p q x)
    ∙ sym (joins (pictures_joined p q) x [] (same_time p.timestamp q.timestamp x.timestamp h k))
    ∙ sym (ap (λ (l : List Picture). pushed l x) (joins p q [] h))

first : (p q x : Picture) → eqb p.timestamp q.timestamp ≡ true → eqb q.timestamp x.timestamp ≡ false
    → put_before p (pushed (q ∷ []) x) ≡ pushed (put_before p (q ∷ [])) x
first p q x h k =
    ap (λ (l : List Picture). put_before p l) (parts q x [] k)
    ∙ joins p q (x ∷ []) h
    ∙ sym (parts (pictures_joined p q) x [] (other_time p.timestamp q.timestamp x.timestamp h k))
    ∙ sym (ap (λ (l : List Picture). pushed l x) (joins p q [] h))

second : (p q x : Picture) → eqb p.timestamp q.timestamp ≡ false → eqb q.timestamp x.timestamp ≡ true
    → put_before p (pushed (q ∷ []) x) ≡ pushed (put_before p (q ∷ [])) x
second p q x h k =
    ap (λ (l : List Picture). put_before p l) (joins q x [] k)
    ∙ parts p (pictures_joined q x) [] h
    ∙ sym (ap (λ (l : List Picture). p ∷ l) (joins q x [] k))
    ∙ sym (ap (λ (l : List Picture). pushed l x) (parts p q [] h))

neither : (p q x : Picture) → eqb p.timestamp q.timestamp ≡ false → eqb q.timestamp x.timestamp ≡ false
    → put_before p (pushed (q ∷ []) x) ≡ pushed (put_before p (q ∷ [])) x
neither p q x h k =
    ap (λ (l : List Picture). put_before p l) (parts q x [] k)
    ∙ parts p q (x ∷ []) h
    ∙ sym (ap (λ (l : List Picture). p ∷ l) (parts q x [] k))
    ∙ sym (ap (λ (l : List Picture). pushed l x) (parts p q [] h))

before_one : (p q x : Picture) → put_before p (pushed (q ∷ []) x) ≡ pushed (put_before p (q ∷ [])) x
before_one p q x =
    ⊎_elim
    (λ h. ⊎_elim (both p q x h) (first p q x h) (cases_Bool (eqb q.timestamp x.timestamp)))
    (λ h. ⊎_elim (second p q x h) (neither p q x h) (cases_Bool (eqb q.timestamp x.timestamp)))
    (cases_Bool (eqb p.timestamp q.timestamp))

joined_more : (p q r : Picture) (rs : List Picture) (x : Picture) → eqb p.timestamp q.timestamp ≡ true
    → put_before p (pushed (q ∷ r ∷ rs) x) ≡ pushed (put_before p (q ∷ r ∷ rs)) x
joined_more p q r rs x h =
    joins p q (pushed (r ∷ rs) x) h ∙ sym (ap (λ (l : List Picture). pushed l x) (joins p q (r ∷ rs) h))

parted_more : (p q r : Picture) (rs : List Picture) (x : Picture) → eqb p.timestamp q.timestamp ≡ false
    → put_before p (pushed (q ∷ r ∷ rs) x) ≡ pushed (put_before p (q ∷ r ∷ rs)) x
parted_more p q r rs x h =
    parts p q (pushed (r ∷ rs) x) h ∙ sym (ap (λ (l : List Picture). pushed l x) (parts p q (r ∷ rs) h))

before_pushed : (p : Picture) (qs : List Picture) (x : Picture) → put_before p (pushed qs x)
    ≡ pushed (put_before p qs) x
before_pushed p [] x = refl
before_pushed p (q ∷ []) x = before_one p q x
before_pushed p (q ∷ r ∷ rs) x =
    ⊎_elim (joined_more p q r rs x) (parted_more p q r rs x) (cases_Bool (eqb p.timestamp q.timestamp))

runs_push : (ps : List Picture) (x : Picture) → timestamp_runs (ps ++ x ∷ []) ≡ pushed (timestamp_runs ps) x
runs_push [] x = refl
runs_push (p ∷ ps) x =
    ap (λ (l : List Picture). put_before p l) (runs_push ps x) ∙ before_pushed p (timestamp_runs ps) x

-- after those that have ended and one that is going on
pushed_at : (past : List Picture) (p x : Picture) → pushed (past ++ p ∷ []) x ≡ past ++ put_before p (x ∷ [])
pushed_at [] p x = refl
pushed_at (a ∷ []) p x = refl
pushed_at (a ∷ b ∷ past) p x = ap (λ (l : List Picture). a ∷ l) (pushed_at (b ∷ past) p x)

-- ---- a packet after a log

accepted_push : (packets : List (List ℕ)) (bytes : List ℕ) → accepted (packets ++ bytes ∷ []) ≡ accepted packets
    ++ picture_alone bytes
accepted_push packets bytes = sym (flat_map_more picture_alone [] packets bytes)

alone_err : (bytes : List ℕ) (fault : Fault) → rtp_in bytes ≡ Err fault → picture_alone bytes ≡ []
alone_err bytes fault e = ap (λ (x : Result Rtp Fault). accepted_picture x (length bytes)) e

pub pictures_push : (packets : List (List ℕ)) (bytes : List ℕ) (x : Picture) → picture_alone bytes ≡ x ∷ []
    → metered_pictures (packets ++ bytes ∷ []) ≡ pushed (metered_pictures packets) x
unfolding metered_pictures
pictures_push packets bytes x e =
    ap (λ (l : List Picture). timestamp_runs l) (accepted_push packets bytes
    ∙ ap (λ (l : List Picture). accepted packets ++ l) e)
    ∙ runs_push (accepted packets) x

-- the first accepted packet
pub pictures_first : (packets : List (List ℕ)) (bytes : List ℕ) (x : Picture) → picture_alone bytes ≡ x ∷ []
    → metered_pictures packets ≡ [] → metered_pictures (packets ++ bytes ∷ []) ≡ x ∷ []
pictures_first packets bytes x e none =
    pictures_push packets bytes x e ∙ ap (λ (l : List Picture). pushed l x) none

-- one of the picture that is going on
pub pictures_same : (packets : List (List ℕ)) (bytes : List ℕ) (x : Picture) → picture_alone bytes ≡ x ∷ []
    → (past : List Picture) (p : Picture) → metered_pictures packets ≡ past ++ p ∷ [] → eqb p.timestamp x.timestamp
    ≡ true
    → metered_pictures (packets ++ bytes ∷ []) ≡ past ++ pictures_joined p x ∷ []
pictures_same packets bytes x e past p is h =
    pictures_push packets bytes x e ∙ ap (λ (l : List Picture). pushed l x) is ∙ pushed_at past p x
    ∙ ap (λ (l : List Picture). past ++ l) (joins p x [] h)

-- one of the next picture
pub pictures_next : (packets : List (List ℕ)) (bytes : List ℕ) (x : Picture) → picture_alone bytes ≡ x ∷ []
    → (past : List Picture) (p : Picture) → metered_pictures packets ≡ past ++ p ∷ [] → eqb p.timestamp x.timestamp
    ≡ false
    → metered_pictures (packets ++ bytes ∷ []) ≡ (past ++ p ∷ []) ++ x ∷ []
pictures_next packets bytes x e past p is h =
    pictures_push packets bytes x e ∙ ap (λ (l : List Picture). pushed l x) is ∙ pushed_at past p x
    ∙ ap (λ (l : List Picture). past ++ l) (parts p x [] h)
    ∙ sym (append_assoc past (p ∷ []) (x ∷ []))

-- one that is refused
append_none : (l : List Picture) → l ++ [] ≡ l
append_none [] = refl
append_none (p ∷ l) = ap (λ (m : List Picture). p ∷ m) (append_none l)

pub accepted_refused : (packets : List (List ℕ)) (bytes : List ℕ) (fault : Fault) → rtp_in bytes ≡ Err fault
    → accepted (packets ++ bytes ∷ []) ≡ accepted packets
accepted_refused packets bytes fault e =
    accepted_push packets bytes ∙ ap (λ (l : List Picture). accepted packets ++ l) (alone_err bytes fault e)
    ∙ append_none (accepted packets)

pub pictures_refused : (packets : List (List ℕ)) (bytes : List ℕ) (fault : Fault) → rtp_in bytes ≡ Err fault
    → metered_pictures (packets ++ bytes ∷ []) ≡ metered_pictures packets
unfolding metered_pictures
pictures_refused packets bytes fault e = ap (λ (l : List Picture). timestamp_runs l)
    (accepted_refused packets bytes fault e)

pub refused_more : (packets : List (List ℕ)) (bytes : List ℕ) (fault : Fault) → rtp_in bytes ≡ Err fault
    → refused_in (packets ++ bytes ∷ []) ≡ refused_in packets + 1
refused_more packets bytes fault e =
    sum_by_push (λ (b : List ℕ). cond (is_err (rtp_in b)) 1 0) packets bytes
    ∙ ap (λ (x : Result Rtp Fault). refused_in packets + cond (is_err x) 1 0) e

pub refused_same : (packets : List (List ℕ)) (bytes : List ℕ) (r : Rtp) → rtp_in bytes ≡ Ok r
    → refused_in (packets ++ bytes ∷ []) ≡ refused_in packets
refused_same packets bytes r e =
    let s = sum_by_push (λ (b : List ℕ). cond (is_err (rtp_in b)) 1 0) packets bytes in
    let k = ap (λ (x : Result Rtp Fault). refused_in packets + cond (is_err x) 1 0) e in
    omega (arith, s, k)

last_time_push : (ps : List Picture) (x : Picture) → last_time (ps ++ x ∷ []) ≡ Some x.timestamp
last_time_push [] x = refl
last_time_push (p ∷ []) x = refl
last_time_push (p ∷ q ∷ ps) x = last_time_push (q ∷ ps) x

pub time_push : (packets : List (List ℕ)) (bytes : List ℕ) (x : Picture) → picture_alone bytes ≡ x ∷ []
    → last_time (accepted (packets ++ bytes ∷ [])) ≡ Some x.timestamp
time_push packets bytes x e =
    ap (λ (l : List Picture). last_time l)
    (accepted_push packets bytes ∙ ap (λ (l : List Picture). accepted packets ++ l) e)
    ∙ last_time_push (accepted packets) x

-- ---- how many bytes and pictures there can be

-- a packet that is read has at most 65,535 bytes
abbrev pub ReadsShort : Type 0
ReadsShort = (r : Rtp) (bytes : List ℕ) → rtp_in bytes ≡ Ok r → IsPayloadWithin r bytes

bytes_cons : (p : Picture) (ps : List Picture) → sum (sizes_in (p ∷ ps)) ≡ p.size + sum (sizes_in ps)
bytes_cons p ps = sum_by-cons (λ (n : ℕ). n) p.size (sizes_in ps)

bytes_before_if : (b : Bool) (p q : Picture) (qs : List Picture)
    → sum (sizes_in (cond b (pictures_joined p q ∷ qs) (p ∷ q ∷ qs))) ≡ p.size + sum (sizes_in (q ∷ qs))
bytes_before_if true p q qs =
    let a = bytes_cons (pictures_joined p q) qs in
    let c = bytes_cons q qs in
    omega (arith, a, c)
bytes_before_if false p q qs = bytes_cons p (q ∷ qs)

bytes_before : (p : Picture) (qs : List Picture) → sum (sizes_in (put_before p qs)) ≡ p.size + sum (sizes_in qs)
bytes_before p [] = bytes_cons p []
bytes_before p (q ∷ qs) = bytes_before_if (eqb p.timestamp q.timestamp) p q qs

bytes_runs : (ps : List Picture) → sum (sizes_in (timestamp_runs ps)) ≡ sum (sizes_in ps)
bytes_runs [] = refl
bytes_runs (p ∷ ps) =
    let a = bytes_before p (timestamp_runs ps) in
    let b = bytes_runs ps in
    let c = bytes_cons p ps in
    omega (arith, a, b, c)

many_before_if : (b : Bool) (p q : Picture) (qs : List Picture)
    → length (cond b (pictures_joined p q ∷ qs) (p ∷ q ∷ qs)) ≤ length qs + 2
many_before_if true p q qs = omega arith
many_before_if false p q qs = omega arith

many_before : (p : Picture) (qs : List Picture) → length (put_before p qs) ≤ length qs + 1
many_before p [] = omega arith
many_before p (q ∷ qs) =
    let a = many_before_if (eqb p.timestamp q.timestamp) p q qs in
    omega (arith, a)

many_runs : (ps : List Picture) → length (timestamp_runs ps) ≤ length ps
many_runs [] = omega arith
many_runs (p ∷ ps) =
    let a = many_before p (timestamp_runs ps) in
    let b = many_runs ps in
    omega (arith, a, b)

short_in : (law : ReadsShort) (bytes : List ℕ) (x : Result Rtp Fault) → rtp_in bytes ≡ x
    → (sum (sizes_in (accepted_picture x (length bytes))) ≤ 65535) × (length (accepted_picture x (length bytes)) ≤ 1)
short_in law bytes (Ok r) e =
    let w = (law r bytes e).short in
    let s = bytes_cons (record { timestamp = r.timestamp; size = length bytes }) [] in
    (omega (arith, w, s), omega arith)
short_in law bytes (Err fault) e = (omega arith, omega arith)

bytes_append : (ps qs : List Picture) → sum (sizes_in (ps ++ qs)) ≡ sum (sizes_in ps) + sum (sizes_in qs)
bytes_append ps qs =
    ap (λ (l : List ℕ). sum l) (map-append (λ (p : Picture). p.size) ps qs)
    ∙ sum_by-append (λ (n : ℕ). n) (sizes_in ps) (sizes_in qs)

bytes_accepted : (law : ReadsShort) (packets : List (List ℕ))
    → (sum (sizes_in (accepted packets)) ≤ 65535 * length packets) × (length (accepted packets) ≤ length packets)
bytes_accepted law [] = (omega arith, omega arith)
bytes_accepted law (bytes ∷ packets) =
    let one = short_in law bytes (rtp_in bytes) refl in
    let rest = bytes_accepted law packets in
    let a = bytes_append (picture_alone bytes) (accepted packets) in
    let l = length-append (picture_alone bytes) (accepted packets) in
    (omega (arith, a, one, rest), omega (arith, l, one, rest))

pub bytes_short : (law : ReadsShort) (packets : List (List ℕ))
    → sum (sizes_in (metered_pictures packets)) ≤ 65535 * length packets
unfolding metered_pictures
bytes_short law packets =
    let a = bytes_runs (accepted packets) in
    let b = (bytes_accepted law packets).0 in
    omega (arith, a, b)

pub pictures_few : (law : ReadsShort) (packets : List (List ℕ)) → length (metered_pictures packets) ≤ length packets
unfolding metered_pictures
pictures_few law packets =
    let a = many_runs (accepted packets) in
    let b = (bytes_accepted law packets).1 in
    omega (arith, a, b)

pub bytes_past : (past : List Picture) (p : Picture) → sum (sizes_in (past ++ p ∷ [])) ≡ sum (sizes_in past) + p.size
bytes_past past p =
    let a = bytes_append past (p ∷ []) in
    let b = bytes_cons p [] in
    omega (arith, a, b)
