use Rattle.std.proofs.Common.{◌≡◌, ◌^◌, ◌+ℤ◌, ◌*ℤ◌, lit<, refl}
use Rattle.idct8.specs.Ranges.{Within}
use Rattle.idct8.specs.Vectors.{lane}
use Rattle.idct8.proofs.Products.{each_lane, number_at, number_small}
use Rattle.idct8.proofs.terms.four_products.Goals as goal

pub returns-clause-sums : goal.returns-clause-sums
returns-clause-sums c =
    let m = c.args.m in
    let at = number_at m.0 m.1 m.2 m.3 c.args.a c.args.b c.args.c c.args.d c.requires.m0 c.requires.m1 c.requires.m2
    c.requires.m3 c.requires.a c.requires.b c.requires.c c.requires.d in
    each_lane (λ i z. z ≡ m.0 *ℤ lane c.args.a i +ℤ m.1 *ℤ lane c.args.b i +ℤ
    (m.2 *ℤ lane c.args.c i +ℤ m.3 *ℤ lane c.args.d i))
    (at 0 (lit< tt)) (at 1 (lit< tt)) (at 2 (lit< tt)) (at 3 (lit< tt)) (at 4 (lit< tt)) (at 5 (lit< tt))
    (at 6 (lit< tt)) (at 7 (lit< tt))

pub returns-clause-size : goal.returns-clause-size
returns-clause-size c =
    let m = c.args.m in
    let at = number_at m.0 m.1 m.2 m.3 c.args.a c.args.b c.args.c c.args.d c.requires.m0 c.requires.m1 c.requires.m2
    c.requires.m3 c.requires.a c.requires.b c.requires.c c.requires.d in
    let small = number_small m.0 m.1 m.2 m.3 c.args.a c.args.b c.args.c c.args.d c.requires.m0 c.requires.m1
    c.requires.m2 c.requires.m3 c.requires.a c.requires.b c.requires.c c.requires.d in
    record {
      long = refl;
      within = each_lane (λ _ z. Within (2 ^ 29) z)
          (small _ 0 (lit< tt) (at 0 (lit< tt))) (small _ 1 (lit< tt) (at 1 (lit< tt)))
          (small _ 2 (lit< tt) (at 2 (lit< tt))) (small _ 3 (lit< tt) (at 3 (lit< tt)))
          (small _ 4 (lit< tt) (at 4 (lit< tt))) (small _ 5 (lit< tt) (at 5 (lit< tt)))
          (small _ 6 (lit< tt) (at 6 (lit< tt))) (small _ 7 (lit< tt) (at 7 (lit< tt)));
    }
