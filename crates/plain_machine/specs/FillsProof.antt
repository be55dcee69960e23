-- A proof: a reply buffer that is filled part by part. It is in `specs/` since `RoomWriter` cites it.
-- Nobody has to believe it.
use Rattle.std.proofs.Common.{◌≡◌, ℕ, zero, suc, ◌≤◌, List, [], ◌∷◌, ◌++◌, length, take, drop, refl, sym, ap}
use Rattle.std.proofs.Common.{◌∙◌, arith, length-append}
use Rattle.std.specs.List.{zip}
use Rattle.std.proofs.lemmas.List.{take_at, drop_at, drop-drop, length-drop, length-take-le, take-append-drop}
use Rattle.vm_memory_core.specs.Host.{Host, Place}
use Rattle.vm_memory_core.specs.Window.{put_all}
use Rattle.vm_memory_core.proofs.WindowLemmas.{put_all-append, zip-append}
use Rattle.plain_machine.specs.Fills.{Fills}

zip_nothing : (ps : List Place) → zip {X = ℕ} ps [] ≡ []
zip_nothing [] = refl
zip_nothing (p ∷ ps) = refl

-- a list of bytes, zipped in two parts
pub zip-both : (ps : List Place) (xs ys : List ℕ) → length xs ≤ length ps →
    zip ps (xs ++ ys) ≡ zip (take (length xs) ps) xs ++ zip (drop (length xs) ps) ys
zip-both ps xs ys h =
    let n = length xs in
    let long : length (take n ps) ≡ n = length-take-le n ps h in
    ap (λ (l : List Place). zip l (xs ++ ys)) (sym (take-append-drop n ps))
    ∙ zip-append (take n ps) (drop n ps) (xs ++ ys) n (omega (arith, long, length-append xs ys))
    ∙ ap (λ (l : List ℕ). zip (take n ps) l ++ zip (drop n ps) (drop n (xs ++ ys))) (take_at xs ys n refl)
    ∙ ap (λ (l : List ℕ). zip (take n ps) xs ++ zip (drop n ps) l) (drop_at xs ys n refl)

-- bytes that need only the first places
pub zip-front : (n : ℕ) (ps : List Place) (xs : List ℕ) → length xs ≤ n → zip (take n ps) xs ≡ zip ps xs
zip-front zero ps [] h = sym (zip_nothing ps)
zip-front zero ps (x ∷ xs) h = absurd (omega (arith, h))
zip-front (suc n) [] xs h = refl
zip-front (suc n) (p ∷ ps) [] h = refl
zip-front (suc n) (p ∷ ps) (x ∷ xs) h = ap (λ l. (p, x) ∷ l) (zip-front n ps xs (omega (arith, h)))

-- storing more bytes behind stored ones
pub stored_more : (a b c : Host) (ps : List Place) (xs ys : List ℕ) → length xs ≤ length ps →
    b ≡ put_all a (zip ps xs) → c ≡ put_all b (zip (drop (length xs) ps) ys) →
    c ≡ put_all a (zip ps (xs ++ ys))
stored_more a b c ps xs ys h e f =
    f ∙ ap (λ k. put_all k (zip (drop (length xs) ps) ys))
    (e ∙ ap (put_all a) (sym (zip-front (length xs) ps xs (omega arith))))
    ∙ sym (put_all-append (zip (take (length xs) ps) xs) (zip (drop (length xs) ps) ys) a)
    ∙ ap (put_all a) (sym (zip-both ps xs ys h))

-- storing no byte
pub stored_none : (h : Host) (ps : List Place) → h ≡ put_all h (zip ps [])
unfolding put_all
stored_none h [] = refl
stored_none h (p ∷ ps) = refl

pub fills_none : (h : Host) (ps : List Place) → Fills h ps [] h ps
fills_none h ps = record { stored = stored_none h ps; left = refl; fits = omega arith; shape = refl }

pub fills_more : (a b c : Host) (ps qs rs : List Place) (xs ys : List ℕ) → Fills a ps xs b qs →
    Fills b qs ys c rs → Fills a ps (xs ++ ys) c rs
fills_more a b c ps qs rs xs ys f g =
    let long = length-append xs ys in
    record {
      stored = stored_more a b c ps xs ys f.fits f.stored (g.stored ∙ ap (λ l. put_all b (zip l ys)) f.left);
      left = g.left ∙ ap (drop (length ys)) f.left ∙ drop-drop (length ys) (length xs) ps
          ∙ ap (λ n. drop n ps) (sym long);
      fits = omega (arith, f.fits, g.fits, ap length f.left, length-drop (length xs) ps, long);
      shape = g.shape ∙ f.shape;
    }
