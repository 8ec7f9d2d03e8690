-- A picture, its samples and its bytes.
use Rattle.std.proofs.Common.{◌≡◌, ℕ, zero, suc, ◌+◌, ◌*◌, ◌-◌, ◌/◌, ◌%◌, ◌<◌, ◌≤◌, List, [], ◌∷◌, ◌++◌, length, get_or, take, drop, ap, ◌∙◌, arith, subst, sym, append_assoc, length-append, length-drop, lit<, slice_range}
use Rattle.std.proofs.Math.Seq.{take-add, drop-append_seam, take-append_seam}
use Rattle.std.proofs.Math.Nat.{div-lt_iff_lt-mul}
use Rattle.std.proofs.lemmas.List.{take-append-drop, take_all, append-nil}
use Rattle.std.proofs.lemmas.Grind.{same_number_lists}
use Rattle.h263_types.specs.declared.format.Format.{Format}
use Rattle.h263_types.specs.declared.format.Format.TheVariants.{SubQcif, Qcif, Cif}
use Rattle.h263_types.specs.Sizes.{width_of, height_of, size_of_picture}
use Rattle.h263_planes.specs.declared.Plane.{Plane}
use Rattle.h263_planes.specs.declared.Plane.TheVariants.{Y, Cb, Cr}
use Rattle.h263_planes.specs.Picture.{Picture}
use Rattle.h263_planes.specs.Layout.{picture_of, offset_of, width_in, height_in}
use Rattle.h263_planes.specs.Samples.{IsWhole, IsPicture, AreSamples, HasSameSamples, plane_of, sample_at, bytes_of}
use Rattle.h263_planes.proofs.Pictures.{plane_long, same_planes, chroma_fits}

-- ---- samples

some_columns : (f : Format) (plane : Plane) → 0 < width_in f plane
some_columns SubQcif Y = lit< tt
some_columns SubQcif Cb = lit< tt
some_columns SubQcif Cr = lit< tt
some_columns Qcif Y = lit< tt
some_columns Qcif Cb = lit< tt
some_columns Qcif Cr = lit< tt
some_columns Cif Y = lit< tt
some_columns Cif Cb = lit< tt
some_columns Cif Cr = lit< tt

-- two lists of h rows of w samples that are the same in each column of each row
same_rows : (w h : ℕ) (a b : List ℕ) → 0 < w → length a ≡ w * h → length b ≡ w * h →
    ((x y : ℕ) → x + 1 ≤ w → y < h → get_or a (w * y + x) 0 ≡ get_or b (w * y + x) 0) → a ≡ b
same_rows w h a b some ea eb same =
    same_number_lists a b (ea ∙ sym eb) (λ k below.
    let short : k < h * w = omega (arith, ea) in
    let row : k / w < h = (div-lt_iff_lt-mul {k = w} {x = k} {y = h} some).1 short in
    let e : w * (k / w) + k % w ≡ k = omega arith in
    let here : get_or a (w * (k / w) + k % w) 0 ≡ get_or b (w * (k / w) + k % w) 0 =
    same (k % w) (k / w) (omega arith) row in
    subst (λ (i : ℕ). get_or a i 0 ≡ get_or b i 0) e here)

same_plane_lists : (p q : Picture) (plane : Plane) → IsWhole p → IsWhole q → p.format ≡ q.format → HasSameSamples p q
    → plane_of p plane ≡ plane_of q plane
same_plane_lists p q plane hp hq e same =
    let w : ℕ = width_in p.format plane in
    let h : ℕ = height_in p.format plane in
    let eq : length (plane_of q plane) ≡ w * h = subst (λ (f : Format). length (plane_of q plane)
    ≡ width_in f plane * height_in f plane) (sym e) (hq.lengths plane) in
    same_rows w h (plane_of p plane) (plane_of q plane) (some_columns p.format plane) (hp.lengths plane) eq
    (λ x y hx hy.
    let there : sample_at p plane x y ≡ sample_at q plane x y = same.samples plane x y (record {
      in_row = hx;
      in_plane = hy;
    }) in
    there ∙ ap (λ (f : Format). get_or (plane_of q plane) (width_in f plane * y + x) 0) (sym e))

-- pictures with the same format and planes are the same
same_parts : (f f' : Format) (y y' b b' r r' : List ℕ) → f ≡ f' → y ≡ y' → b ≡ b' → r ≡ r' →
    let p : Picture = record { format = f; y = y; cb = b; cr = r } in let q : Picture = record {
      format = f';
      y = y';
      cb = b';
      cr = r';
    } in p ≡ q
same_parts f f' y y' b b' r r' hf hy hb hr = cc

-- whole pictures of one format with the same samples are the same
pub same_pictures : (p q : Picture) → IsWhole p → IsWhole q → p.format ≡ q.format → HasSameSamples p q → p ≡ q
same_pictures p q hp hq e same =
    same_parts p.format q.format p.y q.y p.cb q.cb p.cr q.cr e (same_plane_lists p q Y hp hq e same)
    (same_plane_lists p q Cb hp hq e same) (same_plane_lists p q Cr hp hq e same)

-- ---- bytes

pub whole_picture : (f : Format) (bytes : List ℕ) → length bytes ≡ size_of_picture f → IsWhole (picture_of f bytes)
whole_picture f bytes h = record { lengths = λ plane. plane_long f bytes plane h }

-- ---- samples from 0 to 255

first_samples : (n : ℕ) (samples : List ℕ) → AreSamples samples → AreSamples (take n samples)
first_samples zero samples fit k = lit< tt
first_samples (suc n) [] fit k = lit< tt
first_samples (suc n) (s ∷ samples) fit zero = fit zero
first_samples (suc n) (s ∷ samples) fit (suc k) = first_samples n samples (λ j. fit (suc j)) k

last_samples : (n : ℕ) (samples : List ℕ) → AreSamples samples → AreSamples (drop n samples)
last_samples zero samples fit k = fit k
last_samples (suc n) [] fit k = lit< tt
last_samples (suc n) (s ∷ samples) fit k = last_samples n samples (λ j. fit (suc j)) k

range_of_samples : (i j : ℕ) (samples : List ℕ) → AreSamples samples → AreSamples (slice_range samples i j)
range_of_samples i j samples fit = first_samples (j - i) (drop i samples) (last_samples i samples fit)

samples_of_planes : (f : Format) (bytes : List ℕ) (plane : Plane) → AreSamples bytes
    → AreSamples (plane_of (picture_of f bytes) plane)
samples_of_planes f bytes Y = range_of_samples (offset_of f Y) (offset_of f Cb) bytes
samples_of_planes f bytes Cb = range_of_samples (offset_of f Cb) (offset_of f Cr) bytes
samples_of_planes f bytes Cr = range_of_samples (offset_of f Cr) (offset_of f Cr + width_of f * height_of f / 4) bytes

pub is_picture : (f : Format) (bytes : List ℕ) → length bytes ≡ size_of_picture f → AreSamples bytes
    → IsPicture (picture_of f bytes)
is_picture f bytes long fit = record {
  whole = whole_picture f bytes long;
  samples = λ plane. samples_of_planes f bytes plane fit;
}

-- a prefix in two parts
front_of : (xs : List ℕ) (m n : ℕ) → m ≤ n → take m xs ++ take (n - m) (drop m xs) ≡ take n xs
front_of xs m n h = sym (take-add m (n - m) xs) ∙ ap (λ (k : ℕ). take k xs) (omega arith)

-- three parts one after the other
parts_of : (xs : List ℕ) (m n e : ℕ) → m ≤ n → n ≤ e → length xs ≡ e → slice_range xs 0 m ++ slice_range xs m n
    ++ slice_range xs n e ≡ xs
parts_of xs m n e hm hn whole =
    let front : take m xs ++ take (n - m) (drop m xs) ≡ take n xs = front_of xs m n hm in
    let rest : take (e - n) (drop n xs) ≡ drop n xs = take_all (e - n) (drop n xs) (omega (arith, length-drop n xs)) in
    let start : m - 0 ≡ m = omega arith in
    ap (λ (k : ℕ). take k xs ++ take (n - m) (drop m xs) ++ take (e - n) (drop n xs)) start
    ∙ ap (λ (l : List ℕ). l ++ take (e - n) (drop n xs)) front ∙ ap (λ (l : List ℕ). take n xs ++ l) rest
    ∙ take-append-drop n xs

-- the bytes of the picture that bytes give are these bytes
pub bytes_of_picture : (f : Format) (bytes : List ℕ) → length bytes ≡ size_of_picture f → bytes_of (picture_of f bytes)
    ≡ bytes
bytes_of_picture f bytes h =
    let e = chroma_fits f in
    parts_of bytes (offset_of f Cb) (offset_of f Cr) (offset_of f Cr + width_of f * height_of f / 4) (omega arith)
    (omega arith) (omega arith)

-- the part between two others
part_is : (a b c : List ℕ) (i j : ℕ) → i ≡ length a → j ≡ length a + length b → slice_range (a ++ b ++ c) i j ≡ b
part_is a b c i j ei ej =
    let n : j - i ≡ length b = omega arith in
    let rest : drop i (a ++ b ++ c) ≡ b ++ c = ap (λ (k : ℕ). drop k (a ++ b ++ c)) ei
    ∙ ap (drop (length a)) (append_assoc a b c) ∙ drop-append_seam a (b ++ c) in
    ap (λ (k : ℕ). take k (drop i (a ++ b ++ c))) n ∙ ap (take (length b)) rest ∙ take-append_seam b c

pub size_of_bytes : (p : Picture) → IsWhole p → length (bytes_of p) ≡ size_of_picture p.format
size_of_bytes p h =
    let e = chroma_fits p.format in
    let ly : length p.y ≡ width_of p.format * height_of p.format = h.lengths Y in
    let lb : length p.cb ≡ width_of p.format / 2 * (height_of p.format / 2) = h.lengths Cb in
    let lr : length p.cr ≡ width_of p.format / 2 * (height_of p.format / 2) = h.lengths Cr in
    omega (arith, length-append (p.y ++ p.cb) p.cr, length-append p.y p.cb)

pub picture_of_bytes : (p : Picture) → IsWhole p → picture_of p.format (bytes_of p) ≡ p
picture_of_bytes p h =
    let e = chroma_fits p.format in
    let ly : length p.y ≡ width_of p.format * height_of p.format = h.lengths Y in
    let lb : length p.cb ≡ width_of p.format / 2 * (height_of p.format / 2) = h.lengths Cb in
    let lr : length p.cr ≡ width_of p.format / 2 * (height_of p.format / 2) = h.lengths Cr in
    same_planes p.format _ _ _ _ _ _
    (ap (λ (l : List ℕ). slice_range l 0 (offset_of p.format Cb)) (append_assoc p.y p.cb p.cr)
    ∙ part_is [] p.y (p.cb ++ p.cr) 0 (offset_of p.format Cb) (omega arith) (omega arith))
    (part_is p.y p.cb p.cr (offset_of p.format Cb) (offset_of p.format Cr) (omega arith) (omega arith))
    (ap (λ (l : List ℕ). slice_range l (offset_of p.format Cr)
    (offset_of p.format Cr + width_of p.format * height_of p.format / 4)) (sym (append-nil (p.y ++ p.cb ++ p.cr)))
    ∙ part_is (p.y ++ p.cb) p.cr [] (offset_of p.format Cr) _ (omega (arith, length-append p.y p.cb))
    (omega (arith, length-append p.y p.cb)))
