-- a run goes on by one command
use Rattle.std.proofs.Common.{◌≡◌, suc, List, [], ◌∷◌, ◌++◌, length, map, zip, append_assoc, append-nil, ◌∙◌, arith, sym, refl, ap, subst}
use Rattle.server_meanings.specs.Serving.{May}
use Rattle.plain_machine.specs.Step.{State}
use Rattle.plain_machine.specs.Run.{Command, Answer, Turns, Performs, RunReported, Run}

-- one more of each
zip_more : {X Y A B : Type 0} (f : X → A) (g : Y → B) (xs : List X) (ys : List Y) (x : X) (y : Y) → length ys ≡ length xs →
    zip (map f (xs ++ x ∷ [])) (map g (ys ++ y ∷ [])) ≡ zip (map f xs) (map g ys) ++ (f x, g y) ∷ []
zip_more f g [] [] x y same = refl
zip_more {X} {Y} {A} {B} f g (a ∷ xs) (b ∷ ys) x y same = ap (λ (l : List (A × B)). (f a, g b) ∷ l) (zip_more f g xs ys x y (omega arith))
zip_more f g _ _ x y same = absurd (omega arith)

-- what a run comes to, given that it goes on so
abbrev Proceeds : {F : Type 0} → May F → State F → List (Command × Answer) → State F → Type 0
Proceeds {F} may s done mid =
    (events : List (Command × Answer)) (after : State F) → Run may mid events after → Run may s (done ++ events) after

pub run_more : {F X Y : Type 0} (may : May F) (f : X → Command) (g : Y →
    Answer) (s mid next : State F) (xs : List X) (ys : List Y) (x : X) (y : Y) → length ys ≡ length xs →
    Proceeds may s (zip (map f xs) (map g ys)) mid → (turns : Turns) × Performs may mid (f x) turns (g y) next →
    Proceeds may s (zip (map f (xs ++ x ∷ [])) (map g (ys ++ y ∷ []))) next
unfolding RunReported
run_more may f g s mid next xs ys x y same proceeds (turns, done) events after (all_turns, run) =
    let one : zip (map f (xs ++ x ∷ [])) (map g (ys ++ y ∷ [])) ++ events ≡ zip (map f xs) (map g ys) ++ (f x, g y) ∷ events =
    ap (λ (l : List (Command × Answer)). l ++ events) (zip_more f g xs ys x y same)
    ∙ append_assoc (zip (map f xs) (map g ys)) ((f x, g y) ∷ []) events in
    subst (λ (l : List (Command × Answer)). Run may s l after) (sym one)
    (proceeds ((f x, g y) ∷ events) after (turns ∷ all_turns, (next, done, run)))

pub run_ends : {F : Type 0} (may : May F) (s mid : State F) (done : List (Command × Answer)) → Proceeds may s done mid → Run may s done mid
unfolding RunReported
run_ends may s mid done proceeds = subst (λ (l : List (Command × Answer)). Run may s l mid) (append-nil done) (proceeds [] mid ([], refl))

pub nothing_left : {X : Type 0} (l : List X) → length l ≡ 0 → l ≡ []
nothing_left [] h = refl
nothing_left (x ∷ xs) h = absurd (omega arith)

pub count_more :
    {X Y : Type 0} (xs : List X) (ys : List Y) (x : X) (y : Y) → length ys ≡ length xs → length (ys ++ y ∷ []) ≡ length (xs ++ x ∷ [])
count_more [] [] x y same = refl
count_more (a ∷ xs) (b ∷ ys) x y same = ap suc (count_more xs ys x y (omega arith))
count_more _ _ x y same = absurd (omega arith)
