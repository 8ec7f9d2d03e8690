-- The levels of blocks where their samples are to stand.
use Rattle.std.proofs.Common.{◌≡◌, ◌≢◌, ℕ, zero, suc, ◌+◌, ◌-◌, ◌*◌, ◌/◌, ◌%◌, ◌<◌, ◌≤◌, ℤ, pos, negsuc, ◌-ℤ◌, List, [], length, map, cond, ◌&&◌, nat_eq, nat_lt, refl, ap, sym, ◌∙◌, arith, lit<}
use Rattle.std.specs.List.{range_with_len}
use Rattle.std.proofs.lemmas.Int.{ints}
use Rattle.std.proofs.lemmas.List.FromFn.{fill_by_all, length-map-range_with_len, get_or-map-range_with_len}
use Rattle.std.proofs.lemmas.Bool.Decides.{nat_tests}
use Rattle.h263_types.specs.declared.blocks.Block.{Block}
use Rattle.h263_types.specs.declared.blocks.Mb.TheVariants.{Intra}
use Rattle.h263_types.specs.declared.format.Format.{Format}
use Rattle.h263_types.specs.declared.format.Format.TheVariants.{SubQcif, Qcif, Cif}
use Rattle.h263_types.specs.Blocks.{IsDc, IsIntraBlock, IsLevel, level_at}
use Rattle.h263_types.specs.Sizes.{columns_of, height_of, mbs_of, rows_of, width_of}
use Rattle.h263_planes.specs.declared.Plane.{Plane}
use Rattle.h263_planes.specs.declared.Plane.TheVariants.{Y, Cb, Cr}
use Rattle.h263_planes.specs.Blocks.{block_of, corner_of, mb_of}
use Rattle.h263_planes.specs.Picture.{Picture}
use Rattle.h263_planes.specs.Samples.{Inside, sample_at}
use Rattle.picture_recon.specs.Coded.{SetsBlocks}
use Rattle.picture_recon.specs.Samples.{block_in}
use Rattle.picture_recon.specs.Undrawn.{block_of_bytes, byte_in_block, byte_of_level, level_by_byte, undrawn_block, undrawn_mb}

-- ---- lists by functions of the place

same_map : {X : Type 0} (f g : ℕ → X) (n : ℕ) (d : X) → ((k : ℕ) → k < n → f k ≡ g k) → map f (range_with_len 0 n)
    ≡ map g (range_with_len 0 n)
same_map f g n d same =
    fill_by_all g (map f (range_with_len 0 n)) n d (length-map-range_with_len f 0 n)
    (λ k h. get_or-map-range_with_len f 0 n k k d h (omega arith) ∙ same k h)

abbrev block : List ℤ → Block
block levels = record { levels = levels }

abbrev none : Block
none = record { levels = [] }

pub same_bytes : (f g : ℕ → ℕ) → ((k : ℕ) → k < 64 → f k ≡ g k) → block_of_bytes f ≡ block_of_bytes g
same_bytes f g same =
    ap block (same_map (λ k. level_by_byte k (f k)) (λ k. level_by_byte k (g k)) 64 (pos 0)
    (λ k h. ap (level_by_byte k) (same k h)))

pub block_by_all : (b : Block) (f : ℕ → ℕ) → length b.levels ≡ 64
    → ((k : ℕ) → k < 64 → level_at b k ≡ level_by_byte k (f k)) → b ≡ block_of_bytes f
block_by_all b f long each = ap block (fill_by_all (λ k. level_by_byte k (f k)) b.levels 64 (pos 0) long each)

-- ---- a level comes back from its byte

pub later_byte : (k n : ℕ) → 1 ≤ k → level_by_byte 1 n ≡ level_by_byte k n
later_byte k n h = grind (arith, nat_tests)

dc_again : (z : ℤ) → IsDc z → z ≡ level_by_byte 0 (byte_of_level z)
dc_again (pos n) h = refl
dc_again (negsuc n) h = absurd (omega (arith, ints, h.low))

below_128 : (n : ℕ) → n ≤ 127 → pos n ≡ level_by_byte 1 n
below_128 n h = grind (arith, nat_tests)

from_128 : (n : ℕ) (z : ℤ) → 128 ≤ n → z ≡ pos n -ℤ pos 256 → z ≡ level_by_byte 1 n
from_128 n z h e = grind (arith, nat_tests)

level_again : (z : ℤ) → IsLevel z → z ≡ level_by_byte 1 (byte_of_level z)
level_again (pos n) h = below_128 n (omega (arith, ints, h.high))
level_again (negsuc n) h =
    let small : n ≤ 126 = omega (arith, ints, h.low) in
    from_128 (255 - n) (negsuc n) (omega (arith, small)) (omega (arith, ints, small))

again : (b : Block) (k : ℕ) → IsIntraBlock b → k < 64 → level_at b k ≡ level_by_byte k (byte_of_level (level_at b k))
again b zero is h = dc_again (level_at b 0) is.dc
again b (suc k) is h = level_again (level_at b (suc k)) (is.levels (suc k) (omega arith) h)
    ∙ later_byte (suc k) (byte_of_level (level_at b (suc k))) (omega arith)

-- ---- where a block stands

record IsAt (f : Format) (at : ℕ) : Type 0 where
  pub column : at % columns_of f < columns_of f
  pub row : at / columns_of f < rows_of f
  pub same : columns_of f * (at / columns_of f) + at % columns_of f ≡ at
  pub width : width_of f ≡ 16 * columns_of f
  pub height : height_of f ≡ 16 * rows_of f
  pub half_width : width_of f / 2 ≡ 8 * columns_of f
  pub half_height : height_of f / 2 ≡ 8 * rows_of f

is_at : (f : Format) (at : ℕ) → at < mbs_of f → IsAt f at
is_at SubQcif at h = record {
  column = omega (arith, h);
  row = omega (arith, h);
  same = omega (arith, h);
  width = refl;
  height = refl;
  half_width = refl;
  half_height = refl;
}
is_at Qcif at h = record {
  column = omega (arith, h);
  row = omega (arith, h);
  same = omega (arith, h);
  width = refl;
  height = refl;
  half_width = refl;
  half_height = refl;
}
is_at Cif at h = record {
  column = omega (arith, h);
  row = omega (arith, h);
  same = omega (arith, h);
  width = refl;
  height = refl;
  half_width = refl;
  half_height = refl;
}

-- the place of the byte of a level
pub record IsPlaced (f : Format) (plane : Plane) (x y at b k : ℕ) : Type 0 where
  pub inside : Inside f plane x y 1
  pub mb : mb_of f plane x y ≡ at
  pub block : block_of plane x y ≡ b
  pub place : 8 * (y % 8) + x % 8 ≡ k

column_16 : (m b k : ℕ) → b < 4 → k < 64 → (16 * m + 8 * (b % 2) + k % 8) / 16 ≡ m
column_16 m b k hb hk = omega (arith, hb, hk)

row_16 : (r b k : ℕ) → b < 4 → k < 64 → (16 * r + 8 * (b / 2) + k / 8) / 16 ≡ r
row_16 r b k hb hk = omega (arith, hb, hk)

block_16 : (m r b k : ℕ) → b < 4 → k < 64
    → 2 * ((16 * r + 8 * (b / 2) + k / 8) % 16 / 8) + (16 * m + 8 * (b % 2) + k % 8) % 16 / 8 ≡ b
block_16 m r b k hb hk = omega (arith, hb, hk)

place_16 : (m r b k : ℕ) → b < 4 → k < 64
    → 8 * ((16 * r + 8 * (b / 2) + k / 8) % 8) + (16 * m + 8 * (b % 2) + k % 8) % 8 ≡ k
place_16 m r b k hb hk = omega (arith, hb, hk)

across_16 : (m c w b k : ℕ) → m < c → w ≡ 16 * c → (16 * m + 8 * (b % 2) + k % 8) + 1 ≤ w
across_16 m c w b k less e = omega (arith, less, e)

down_16 : (r c h b k : ℕ) → r < c → h ≡ 16 * c → b < 4 → k < 64 → 16 * r + 8 * (b / 2) + k / 8 < h
down_16 r c h b k less e hb hk = omega (arith, less, e, hb, hk)

numbered : (c r m y x at : ℕ) → y ≡ r → x ≡ m → c * r + m ≡ at → c * y + x ≡ at
numbered c r m y x at ey ex e = ap (λ (n : ℕ). c * n + x) ey ∙ ap (λ (n : ℕ). c * r + n) ex ∙ e

luma : (f : Format) (at b k : ℕ) → IsAt f at → b < 4 → k < 64 →
    IsPlaced f Y (16 * (at % columns_of f) + 8 * (b % 2) + k % 8) (16 * (at / columns_of f) + 8 * (b / 2) + k / 8) at b
    k
luma f at b k is hb hk =
    let m = at % columns_of f in
    let r = at / columns_of f in
    record {
      inside = record {
        in_row = across_16 m (columns_of f) (width_of f) b k is.column is.width;
        in_plane = down_16 r (rows_of f) (height_of f) b k is.row is.height hb hk;
      };
      mb = numbered (columns_of f) r m _ _ at (row_16 r b k hb hk) (column_16 m b k hb hk) is.same;
      block = block_16 m r b k hb hk;
      place = place_16 m r b k hb hk;
    }

column_8 : (m k : ℕ) → (8 * m + k % 8) / 8 ≡ m
column_8 m k = omega arith

row_8 : (r k : ℕ) → k < 64 → (8 * r + k / 8) / 8 ≡ r
row_8 r k hk = omega (arith, hk)

place_8 : (m r k : ℕ) → k < 64 → 8 * ((8 * r + k / 8) % 8) + (8 * m + k % 8) % 8 ≡ k
place_8 m r k hk = omega (arith, hk)

across_8 : (m c w k : ℕ) → m < c → w ≡ 8 * c → (8 * m + k % 8) + 1 ≤ w
across_8 m c w k less e = omega (arith, less, e)

down_8 : (r c h k : ℕ) → r < c → h ≡ 8 * c → k < 64 → 8 * r + k / 8 < h
down_8 r c h k less e hk = omega (arith, less, e, hk)

cb : (f : Format) (at k : ℕ) → IsAt f at → k < 64
    → IsPlaced f Cb (8 * (at % columns_of f) + k % 8) (8 * (at / columns_of f) + k / 8) at 4 k
cb f at k is hk =
    let m = at % columns_of f in
    let r = at / columns_of f in
    record {
      inside = record {
        in_row = across_8 m (columns_of f) (width_of f / 2) k is.column is.half_width;
        in_plane = down_8 r (rows_of f) (height_of f / 2) k is.row is.half_height hk;
      };
      mb = numbered (columns_of f) r m _ _ at (row_8 r k hk) (column_8 m k) is.same;
      block = refl;
      place = place_8 m r k hk;
    }

cr : (f : Format) (at k : ℕ) → IsAt f at → k < 64
    → IsPlaced f Cr (8 * (at % columns_of f) + k % 8) (8 * (at / columns_of f) + k / 8) at 5 k
cr f at k is hk =
    let m = at % columns_of f in
    let r = at / columns_of f in
    record {
      inside = record {
        in_row = across_8 m (columns_of f) (width_of f / 2) k is.column is.half_width;
        in_plane = down_8 r (rows_of f) (height_of f / 2) k is.row is.half_height hk;
      };
      mb = numbered (columns_of f) r m _ _ at (row_8 r k hk) (column_8 m k) is.same;
      block = refl;
      place = place_8 m r k hk;
    }

abbrev Placed : Format → ℕ → ℕ → ℕ → Type 0
Placed f at b k = IsPlaced f (corner_of f at b).plane ((corner_of f at b).x + k % 8) ((corner_of f at b).y + k / 8) at b
    k

placed : (f : Format) (at b k : ℕ) → at < mbs_of f → b < 6 → k < 64 → Placed f at b k
placed f at zero k h hb hk = luma f at 0 k (is_at f at h) (lit< tt) hk
placed f at (suc zero) k h hb hk = luma f at 1 k (is_at f at h) (lit< tt) hk
placed f at (suc (suc zero)) k h hb hk = luma f at 2 k (is_at f at h) (lit< tt) hk
placed f at (suc (suc (suc zero))) k h hb hk = luma f at 3 k (is_at f at h) (lit< tt) hk
placed f at (suc (suc (suc (suc zero)))) k h hb hk = cb f at k (is_at f at h) hk
placed f at (suc (suc (suc (suc (suc zero))))) k h hb hk = cr f at k (is_at f at h) hk
placed f at (suc (suc (suc (suc (suc (suc b)))))) k h hb hk = absurd (omega (arith, hb))

abbrev byte_at : Format → Picture → ℕ → ℕ → ℕ → ℕ
byte_at f p at b k = sample_at p (corner_of f at b).plane ((corner_of f at b).x + k % 8) ((corner_of f at b).y + k / 8)

by_format : (f : Format) (p : Picture) (at b k : ℕ) → p.format ≡ f → byte_in_block p at b k ≡ byte_at f p at b k
by_format f p at b k e = ap (λ (g : Format). byte_at g p at b k) e

-- ---- the blocks of one macroblock are written

written : (m at bl now val old : ℕ) → now ≡ cond (nat_eq m at && nat_lt bl 6) val old → m ≡ at → bl < 6 → now ≡ val
written m at bl now val old h e less = grind (arith, nat_tests)

kept : (m at bl now val old : ℕ) → now ≡ cond (nat_eq m at && nat_lt bl 6) val old → m ≢ at → now ≡ old
kept m at bl now val old h e = grind (arith, nat_tests)

module _ (f : Format) (at : ℕ) (blocks : List Block) (p q : Picture)
    (sets : SetsBlocks f at 6 (λ (b old y x : ℕ). byte_of_level (level_at (block_in blocks b) (8 * y + x))) p q) where
  put_byte : (b k : ℕ) → at < mbs_of f → b < 6 → k < 64
      → byte_at f q at b k ≡ byte_of_level (level_at (block_in blocks b) k)
  put_byte b k h hb hk =
      let here = placed f at b k h hb hk in
      let corner = corner_of f at b in
      let x = corner.x + k % 8 in
      let y = corner.y + k / 8 in
      written (mb_of f corner.plane x y) at (block_of corner.plane x y) _ _ _ (sets corner.plane x y here.inside)
      here.mb (omega (arith, here.block, hb))
      ∙ ap (λ (n : ℕ). byte_of_level (level_at (block_in blocks n) (8 * (y % 8) + x % 8))) here.block
      ∙ ap (λ (n : ℕ). byte_of_level (level_at (block_in blocks b) n)) here.place

  other_byte : (other b k : ℕ) → other < mbs_of f → other ≢ at → b < 6 → k < 64
      → byte_at f q other b k ≡ byte_at f p other b k
  other_byte other b k h apart hb hk =
      let here = placed f other b k h hb hk in
      let corner = corner_of f other b in
      let x = corner.x + k % 8 in
      let y = corner.y + k / 8 in
      kept (mb_of f corner.plane x y) at (block_of corner.plane x y) _ _ _ (sets corner.plane x y here.inside)
      (λ e. apart (sym here.mb ∙ e))

  put_block : (b : ℕ) → q.format ≡ f → at < mbs_of f → b < 6 → IsIntraBlock (block_in blocks b)
      → length (block_in blocks b).levels ≡ 64 →
      block_in blocks b ≡ undrawn_block q at b
  unfolding undrawn_block
  put_block b e h hb is long =
      block_by_all (block_in blocks b) (byte_in_block q at b) long
      (λ k hk. again (block_in blocks b) k is hk
      ∙ ap (level_by_byte k) (sym (by_format f q at b k e ∙ put_byte b k h hb hk)))

  other_block : (other b : ℕ) → p.format ≡ f → q.format ≡ f → other < mbs_of f → other ≢ at → b < 6
      → undrawn_block q other b ≡ undrawn_block p other b
  unfolding undrawn_block
  other_block other b ep eq h apart hb =
      same_bytes (byte_in_block q other b) (byte_in_block p other b)
      (λ k hk. by_format f q other b k eq ∙ other_byte other b k h apart hb hk ∙ sym (by_format f p other b k ep))

  pub put_blocks : q.format ≡ f → at < mbs_of f → length blocks ≡ 6
      → ((b : ℕ) → b < 6 → IsIntraBlock (block_in blocks b))
      → ((b : ℕ) → b < 6 → length (block_in blocks b).levels ≡ 64) →
      blocks ≡ map (undrawn_block q at) (range_with_len 0 6)
  put_blocks e h six is long = fill_by_all (undrawn_block q at) blocks 6 none six (λ b hb. put_block b e h hb (is b hb)
      (long b hb))

  pub other_mb : (quant other : ℕ) → p.format ≡ f → q.format ≡ f → other < mbs_of f → other ≢ at
      → undrawn_mb quant q other ≡ undrawn_mb quant p other
  unfolding undrawn_mb
  other_mb quant other ep eq h apart =
      ap (Intra quant) (same_map (undrawn_block q other) (undrawn_block p other) 6 none
      (λ b hb. other_block other b ep eq h apart hb))
