-- What is left of a room by the window where it begins.
use Rattle.std.proofs.Common.{◌≡◌, ℕ, zero, suc, ◌+◌, ◌-◌, ◌<◌, ◌≤◌, List, [], ◌∷◌, ◌++◌, length, map, sum, take, drop, refl, sym, ap, ◌∙◌}
use Rattle.std.proofs.Common.{arith, length-append, Ok, Err, true, Bool, min, subst, get_or, ⊎_elim}
use Rattle.std.specs.Prelude.{◌^◌, Option, nat_le, nat_lt, if◌then◌else◌}
use Rattle.std.proofs.lemmas.Bool.{cases_lt}
use Rattle.std.proofs.lemmas.List.{drop-drop, drop-append-le, drop_all, drop_at, length-drop, take-append-le}
use Rattle.fuse_fs.specs.Lengths.{filled, first, past}
use Rattle.fuse_fs.proofs.Lengths.{filled-filled, filled-past, first_of, past_behind, past_first, sum-cons, sum-filled, sum-past}
use Rattle.vm_memory_core.specs.declared.error.VolatileMemoryError.{VolatileMemoryError}
use Rattle.vm_memory_core.specs.declared.window.IoMarks.{IoMarks}
use Rattle.vm_memory_core.specs.Parts.{part_of, sub_window}
use Rattle.vm_memory_core.specs.Window.{AllLieIn, LiesIn, Window, places, places_of, span}
use Rattle.vm_memory_core.proofs.WindowLemmas.{length-span, places-part}
use Rattle.fs_device.specs.Behind.{IsFrontWindow, RoomLeft}

abbrev rooms_of : List Window → List ℕ
rooms_of ws = filled (map (λ w. w.len) ws)

-- what follows the first places of a span
span-behind : (n m b o : ℕ) (io : Option IoMarks) → n ≤ m → span b (o + n) io (m - n) ≡ drop n (span b o io m)
unfolding span
span-behind zero m b o io h =
    let at : o + 0 ≡ o = omega arith in
    let long : m - 0 ≡ m = omega arith in
    rw (at, long) refl
span-behind (suc n) zero b o io h = absurd (omega (arith, h))
span-behind (suc n) (suc m) b o io h =
    let at : o + suc n ≡ o + 1 + n = omega arith in
    let long : suc m - suc n ≡ m - n = omega arith in
    rw (at, long) (span-behind n m b (o + 1) io (omega (arith, h)))

-- a part of a window
part-places : (w : Window) (at n : ℕ) → at + n ≤ w.len → places_of (part_of w at n) ≡ take n (drop at (places_of w))
part-places w at n le =
    let begins : w.offset + at + 0 ≡ w.offset + at = omega arith in
    ap (λ o. span w.block o w.io n) (sym begins) ∙ places-part (part_of w at (w.len - at)) n (omega (arith, le))
    ∙ ap (take n) (span-behind at w.len w.block w.offset w.io (omega (arith, le)))

-- windows that have a place are some
pub some_there : (ws : List Window) (i at : ℕ) → at < length (places (drop i ws)) → i < length ws
some_there ws i at lt =
    ⊎_elim (λ (l : i < length ws). l) (λ (none : length ws ≤ i).
    absurd (omega (arith, lt, ap (λ (l : List Window). length (places l)) (drop_all i ws none)))) (cases_lt i (length ws))

-- the window that was read
pub same_window : (ws : List Window) (i : ℕ) (w v : Window) → drop i ws ≡ w ∷ drop (i + 1) ws → drop i ws ≡ v ∷ drop (i + 1) ws → w ≡ v
same_window ws i w v at here = ap (λ l. get_or l 0 w) (sym at ∙ here)

-- one window further
module _ (ws : List Window) (i : ℕ) (w : Window) (next : drop i ws ≡ w ∷ drop (i + 1) ws) where
  count : length (places_of w) ≡ w.len
  count = length-span w.len w.block w.offset w.io

  pub more_there : (at k : ℕ) → k ≡ w.len → at < length (places (drop i ws)) → w.len ≤ at → at - k < length (places (drop (i + 1) ws))
  more_there at k is lt le =
      omega (arith, is, lt, le, count, ap (λ l. length (places l)) next, length-append (places_of w) (places (drop (i + 1) ws)))

  pub places_next : (at k : ℕ) → k ≡ w.len → w.len ≤ at → drop (at - k) (places (drop (i + 1) ws)) ≡ drop at (places (drop i ws))
  places_next at k is le =
      ap (λ n. drop (at - n) (places (drop (i + 1) ws))) is ∙ sym (ap (λ l. drop at (places l)) next
      ∙ ap (λ n. drop n (places_of w ++ places (drop (i + 1) ws))) (let e : at ≡ w.len + (at - w.len) = omega (arith, le) in e)
      ∙ sym (drop-drop (at - w.len) w.len (places_of w ++ places (drop (i + 1) ws)))
      ∙ ap (drop (at - w.len)) (drop_at (places_of w) (places (drop (i + 1) ws)) w.len count))

  pub rooms_next : (at k : ℕ) → k ≡ w.len → w.len ≤ at → past (at - k) (rooms_of (drop (i + 1) ws)) ≡ past at (rooms_of (drop i ws))
  rooms_next at k is le = ap (λ n. past (at - n) (rooms_of (drop (i + 1) ws))) is
      ∙ sym (ap (λ l. past at (rooms_of l)) next ∙ past_behind at w.len (map (λ v. v.len) (drop (i + 1) ws)) le)

  -- the part of a window that is left
  pub part_there : (at n : ℕ) → at + n ≤ w.len → places_of (part_of w at n) ≡ take n (drop at (places (drop i ws)))
  part_there at n le =
      part-places w at n le
      ∙ sym (ap (λ l. take n (drop at (places l))) next
      ∙ ap (take n) (drop-append-le at (places_of w) (places (drop (i + 1) ws)) (omega (arith, le, count)))
      ∙ take-append-le n (drop at (places_of w)) (places (drop (i + 1) ws)) (omega (arith, le, count, length-drop at (places_of w))))

  pub first_there : (at : ℕ) → at < w.len → first (past at (rooms_of (drop i ws))) ≡ w.len - at
  first_there at lt =
      ap (λ l. first (past at (rooms_of l))) next ∙ ap first (past_first at w.len (map (λ v. v.len) (drop (i + 1) ws)) (omega (arith, lt)))
      ∙ first_of (w.len - at) (map (λ v. v.len) (drop (i + 1) ws)) (λ z. absurd (omega (arith, z, lt)))

  pub as_many : (at : ℕ) → at < w.len → w.len - at ≤ length (drop at (places (drop i ws)))
  as_many at lt = omega (
    arith,
    lt,
    count,
    length-drop at (places (drop i ws)),
    ap (λ l. length (places l)) next,
    length-append (places_of w) (places (drop (i + 1) ws)),
  )

  -- the part of a window that is left, or the front of it, of what is left of a room
  pub front_of : (r : RoomLeft) (at n most : ℕ) (f : Window) → drop at (places (drop i ws)) ≡ r.places →
      past at (rooms_of (drop i ws)) ≡ r.rooms → at < w.len → n ≡ min most (w.len - at) →
      f ≡ part_of w at n → IsFrontWindow r most f
  front_of r at n most f left rooms lt is part =
      let size : f.len ≡ n = ap (λ (v : Window). v.len) part in
      let most_there : first r.rooms ≡ w.len - at = ap first (sym rooms) ∙ first_there at lt in
      let within : w.len - at ≤ length r.places = omega (arith, as_many at lt, ap length left) in
      record {
        places = ap places_of part ∙ part_there at n (omega (arith, is, lt)) ∙ ap (take n) left ∙ ap (λ k. take k r.places) (sym size);
        len = omega (arith, size, is, most_there);
        some = omega (arith, most_there, lt);
        within = omega (arith, most_there, within);
      }

-- a part of a window lies where the window does
pub part_lies : (ws : List Window) (i : ℕ) (d f : Window) (at n : ℕ) → i < length ws → at + n ≤ (get_or ws i d).len →
    f ≡ part_of (get_or ws i d) at n → (lengths : List ℕ) → AllLieIn lengths ws → LiesIn lengths f
unfolding AllLieIn
part_lies ws i d f at n lt le part lengths all =
    let here : LiesIn lengths (get_or ws i d) = all i d lt in
    let lies : LiesIn lengths (part_of (get_or ws i d) at n) = (here.0, omega (arith, here.1, le)) in
    subst (LiesIn lengths) (sym part) lies

-- how many places windows have
sum_lens : (ws : List Window) → sum (map (λ w. w.len) ws) ≡ length (places ws)
sum_lens [] = refl
sum_lens (w ∷ ws) =
    omega (
      arith,
      sum-cons w.len (map (λ v. v.len) ws),
      sum_lens ws,
      length-append (places_of w) (places ws),
      length-span w.len w.block w.offset w.io,
    )

pub sum_left : (ws : List Window) (at : ℕ) → sum (past at (rooms_of ws)) ≡ length (drop at (places ws))
sum_left ws at = omega (arith, sum-past at (rooms_of ws), sum-filled (map (λ v. v.len) ws), sum_lens ws, length-drop at (places ws))

pub filled_left : (ws : List Window) (at : ℕ) → filled (past at (rooms_of ws)) ≡ past at (rooms_of ws)
filled_left ws at = filled-past at (rooms_of ws) (filled-filled (map (λ v. v.len) ws))

sub_by : (a b : Bool) (w f : Window) (at n : ℕ) (d e : VolatileMemoryError) →
    Ok f ≡ (if a then if b then Ok (part_of w at n) else Err d else Err e) → f ≡ part_of w at n
sub_by true true w f at n d e h = let same : f ≡ part_of w at n = cc in same
sub_by _ _ w f at n d e h = absurd (cc)

-- a part of a window that it has
pub sub_is : (w f : Window) (at n : ℕ) → Ok f ≡ sub_window w at n → f ≡ part_of w at n
sub_is w f at n h = sub_by (nat_lt (at + n) (2 ^ 64)) (nat_le (at + n) w.len) w f at n _ _ h
