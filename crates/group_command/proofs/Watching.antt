-- Receivers, one by one and all of them.
use Rattle.std.proofs.Common.{◌≡◌, ℕ, zero, suc, ◌+◌, ◌-◌, ◌<◌, ◌≤◌, true, false, List, [], ◌∷◌, length, Option, Some, None, refl, sym, ap, subst, ◌∙◌, arith}
use Rattle.std.specs.Prelude.{IfSome, is_some, nat_le, replicate, slice_get, slice_set}
use Rattle.h263_types.specs.declared.params.Params.{Params}
use Rattle.group_sender.specs.Holding.{Groups}
use Rattle.group_call.specs.declared.viewer.Viewer.{Viewer}
use Rattle.group_call.specs.Holding.{HoldsViewer, told_count}
use Rattle.group_call.specs.Viewing.{ViewerRun, no_view}
use Rattle.one_way.specs.Counts.{total_of}
use Rattle.group_command.specs.declared.viewers.Viewers.{Viewers}
use Rattle.group_command.specs.Group.{view_in}
use Rattle.group_command.specs.Standing.{AllWatch, AreViewing, IsViewing, Watches, and_then}

-- ---- their counts

one_later : (sent before lines : ℕ) (viewer : Viewer) → before ≤ lines → IsViewing sent before viewer
    → IsViewing sent lines viewer
one_later sent before lines viewer le v = record {
  played = v.played;
  counted = v.counted;
  told = omega (arith, v.told, le);
}

pub if_later : (sent before lines : ℕ) (viewer : Option Viewer) → before ≤ lines → IfSome viewer (IsViewing sent before)
    → IfSome viewer (IsViewing sent lines)
if_later sent before lines None le v = tt
if_later sent before lines (Some viewer) le v = one_later sent before lines viewer le v

pub viewing_later : (sent before lines : ℕ) (viewers : Viewers) → before ≤ lines → AreViewing sent before viewers
    → AreViewing sent lines viewers
viewing_later sent before lines viewers le v = record {
  first = one_later sent before lines viewers.first le v.first;
  second = if_later sent before lines viewers.second le v.second;
  third = if_later sent before lines viewers.third le v.third;
  in_order = v.in_order;
}

-- one picture more was sent
one_sent : (sent more lines : ℕ) (viewer : Viewer) → sent ≤ more → IsViewing sent lines viewer
    → IsViewing more lines viewer
one_sent sent more lines viewer le v = record {
  played = omega (arith, v.played, le);
  counted = v.counted;
  told = v.told;
}

if_sent : (sent more lines : ℕ) (viewer : Option Viewer) → sent ≤ more → IfSome viewer (IsViewing sent lines)
    → IfSome viewer (IsViewing more lines)
if_sent sent more lines None le v = tt
if_sent sent more lines (Some viewer) le v = one_sent sent more lines viewer le v

pub viewing_sent : (sent more lines : ℕ) (viewers : Viewers) → sent ≤ more → AreViewing sent lines viewers
    → AreViewing more lines viewers
viewing_sent sent more lines viewers le v = record {
  first = one_sent sent more lines viewers.first le v.first;
  second = if_sent sent more lines viewers.second le v.second;
  third = if_sent sent more lines viewers.third le v.third;
  in_order = v.in_order;
}

-- ---- their runs

pub watched_count : (p : Params) (run : Groups) (viewers : List Viewer) (views : List ViewerRun)
    → AllWatch p run viewers views → length views ≡ length viewers
watched_count p run [] [] w = refl
watched_count p run (viewer ∷ viewers) (view ∷ views) w = ap suc (watched_count p run viewers views w.1)
watched_count p run [] (view ∷ views) w = absurd w
watched_count p run (viewer ∷ viewers) [] w = absurd w

-- what another does, by which no picture is coded, is all the same to a receiver
pub watch_still : (p : Params) (run later : Groups) (viewers : List Viewer) (views : List ViewerRun)
    → length later.coded ≡ length run.coded → AllWatch p run viewers views → AllWatch p later viewers views
watch_still p run later [] [] same w = tt
watch_still p run later (viewer ∷ viewers) (view ∷ views) same w = (
  record { holds = w.0.holds; near = omega (arith, w.0.near, same) },
  watch_still p run later viewers views same w.1,
)
watch_still p run later [] (view ∷ views) same w = absurd w
watch_still p run later (viewer ∷ viewers) [] same w = absurd w

-- one receiver has done something, and the group has coded nothing
pub watch_set : (p : Params) (run later : Groups) (k : ℕ) (viewer : Viewer) (view : ViewerRun) (viewers : List Viewer)
    (views : List ViewerRun) → length later.coded ≡ length run.coded
    → Watches p later viewer view → AllWatch p run viewers views
    → AllWatch p later (slice_set viewers k viewer) (slice_set views k view)
watch_set p run later k viewer view [] [] same one w = tt
watch_set p run later zero viewer view (other ∷ viewers) (before ∷ views) same one w =
    (one, watch_still p run later viewers views same w.1)
watch_set p run later (suc k) viewer view (other ∷ viewers) (before ∷ views) same one w = (
  record { holds = w.0.holds; near = omega (arith, w.0.near, same) },
  watch_set p run later k viewer view viewers views same one w.1,
)
watch_set p run later k viewer view [] (before ∷ views) same one w = absurd w
watch_set p run later k viewer view (other ∷ viewers) [] same one w = absurd w

-- receivers that have done nothing, where nothing was coded
pub none_watched : (p : Params) (run : Groups) (viewer : Viewer) → length run.coded ≡ 0 → HoldsViewer p viewer no_view
    → Watches p run viewer no_view
none_watched p run viewer none holds = record { holds = holds; near = omega (arith, none) }

-- ---- what an event leaves of a receiver's counts

pub one_line_later : (sent line : ℕ) (viewer : Viewer) → IsViewing sent (line - 1) viewer → IsViewing sent line viewer
one_line_later sent line viewer v = one_later sent (line - 1) line viewer (omega arith) v

pub line_before : (line : ℕ) → line - 1 ≤ line
line_before line = omega arith

-- receivers that are there and have done nothing, where nothing was coded
if_new : (p : Params) (run : Groups) (viewer : Option Viewer) (rest : List Viewer) (views : List ViewerRun)
    → length run.coded ≡ 0 → is_some viewer ≡ true → IfSome viewer (λ v. HoldsViewer p v no_view)
    → AllWatch p run rest views
    → AllWatch p run (and_then viewer rest) (no_view ∷ views)
if_new p run None rest views none there holds w = absurd (cc there)
if_new p run (Some viewer) rest views none there holds w = (none_watched p run viewer none holds, w)

if_none : (viewer : Option Viewer) (rest : List Viewer) → is_some viewer ≡ false → and_then viewer rest ≡ rest
if_none None rest is = refl
if_none (Some viewer) rest is = absurd (cc is)

pub all_new : (p : Params) (run : Groups) (count : ℕ) (a : Viewer) (second third : Option Viewer) → length run.coded ≡ 0
    → 1 ≤ count → count ≤ 3
    → is_some second ≡ nat_le 2 count → is_some third ≡ nat_le 3 count
    → HoldsViewer p a no_view → IfSome second (λ v. HoldsViewer p v no_view)
    → IfSome third (λ v. HoldsViewer p v no_view)
    → AllWatch p run (a ∷ and_then second (and_then third [])) (replicate count no_view)
all_new p run zero a second third none some few two three first next last = absurd (omega (arith, some))
all_new p run (suc zero) a second third none some few two three first next last = (
  none_watched p run a none first,
  subst (λ (l : List Viewer). AllWatch p run l [])
      (sym (if_none second (and_then third []) two)) (subst (λ (l : List Viewer). AllWatch p run l [])
      (sym (if_none third [] three)) tt),
)
all_new p run (suc (suc zero)) a second third none some few two three first next last = (
  none_watched p run a none first,
  if_new p run second (and_then third []) [] none two next
      (subst (λ (l : List Viewer). AllWatch p run l []) (sym (if_none third [] three)) tt),
)
all_new p run (suc (suc (suc zero))) a second third none some few two three first next last = (
  none_watched p run a none first,
  if_new p run second (and_then third []) (no_view ∷ []) none two next
      (if_new p run third [] [] none three last tt),
)
all_new p run (suc (suc (suc (suc n)))) a second third none some few two three first next last =
    absurd (omega (arith, few))
