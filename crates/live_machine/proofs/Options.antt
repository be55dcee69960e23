-- The options that serving leaves, where those that stand by an answer aren't those of the asking.
use Rattle.std.proofs.Common.{◌≡◌, ℕ, Bool, List, [], ◌∷◌, ◌++◌, length, refl, subst, sym, ap, ◌∙◌, true, false, nat_lt}
use Rattle.std.proofs.lemmas.Bool.{true≢false}
use Rattle.fuse_fs.specs.Calls.{FileCall, FileAnswer}
use Rattle.fuse_fs.specs.Calls as file
use Rattle.server_calls.specs.Requests.{options_after}
use Rattle.server_meanings.specs.Grammar.{Meaning, Replies, Asks, One, Starts, Lists}
use Rattle.server_meanings.specs.Listings.{ListRequest}
use Rattle.server_meanings.specs.Serving.{Setting, agreed, served, setting, replied, start_options, list_answered}
use Rattle.live_machine.specs.Options.{OptionsStay, agrees, changes_options, is_destroy}

-- as the options of a setting alone
pub left_of : Meaning → List FileAnswer → ℕ → ℕ
left_of (Asks (One unique call)) (a ∷ answers) o = options_after o call
left_of (Asks (Starts unique capable readahead)) (a ∷ answers) o = start_options o capable a
left_of m answers o = o

by_room : (room : ℕ) (calls : List FileCall) (o : ℕ) (bytes : List ℕ) (b : Bool) → nat_lt room (length bytes) ≡ b →
    (replied room calls o bytes).options ≡ o
by_room room calls o bytes true is = rw is refl
by_room room calls o bytes false is = rw is refl

reply_leaves : (room : ℕ) (calls : List FileCall) (o : ℕ) (bytes : List ℕ) → (replied room calls o bytes).options ≡ o
reply_leaves room calls o bytes = by_room room calls o bytes (nat_lt room (length bytes)) refl

list_leaves : (s : Setting) (unique : ℕ) (l : ListRequest) (answer : FileAnswer) (answers : List FileAnswer) →
    (list_answered s unique l answer answers).options ≡ s.options
list_leaves s unique l (file.Failed a) answers = reply_leaves _ _ _ _
list_leaves s unique l (file.Entries a) answers = reply_leaves _ _ _ _
list_leaves s unique l answer answers = refl

pub leaves : (s : Setting) (m : Meaning) (answers : List FileAnswer) → (served s m answers).options ≡ left_of m answers s.options
unfolding left_of
leaves s (Replies bytes) answers = reply_leaves s.room [] s.options bytes
leaves s (Asks (One unique call)) (a ∷ answers) = reply_leaves _ _ _ _
leaves s (Asks (Starts unique capable readahead)) (a ∷ answers) = reply_leaves _ _ _ _
leaves s (Asks (Lists unique l)) (a ∷ answers) = list_leaves s unique l a answers
leaves s m answers = refl

call_twice : (o : ℕ) (call : FileCall) → options_after (options_after o call) call ≡ options_after o call
call_twice o file.Destroy = refl
call_twice o call = refl

start_twice :
    (o capable : ℕ) (answer : FileAnswer) → start_options (start_options o capable answer) capable answer ≡ start_options o capable answer
start_twice o capable (file.Wants a) = refl
start_twice o capable answer = refl

twice : (m : Meaning) (a : FileAnswer) (some more : List FileAnswer) (o : ℕ) →
    left_of m (a ∷ more) (left_of m (a ∷ some) o) ≡ left_of m (a ∷ more) o
unfolding left_of
twice (Asks (One unique call)) a some more o = call_twice o call
twice (Asks (Starts unique capable readahead)) a some more o = start_twice o capable a
twice m a some more o = refl

none_yet : (m : Meaning) (o : ℕ) → left_of m [] o ≡ o
unfolding left_of
none_yet (Asks (One unique call)) o = refl
none_yet m o = refl

-- before an answer it leaves those of its setting
pub leaves_none : (s : Setting) (m : Meaning) → (served s m []).options ≡ s.options
leaves_none s m = leaves s m [] ∙ none_yet m s.options

again : (m : Meaning) (some more : List FileAnswer) (o : ℕ) → left_of m (some ++ more) (left_of m some o) ≡ left_of m (some ++ more) o
again m [] more o = ap (left_of m more) (none_yet m o)
again m (a ∷ some) more o = twice m a some (some ++ more) o

-- one more answer leaves the same in the options that the earlier ones left
pub leaves_again : (page_size options now room : ℕ) (m : Meaning) (some more : List FileAnswer)
    → now ≡ (served (setting page_size options room) m some).options
    → (served (setting page_size now room) m (some ++ more)).options ≡ (served (setting page_size options room) m (some ++ more)).options
leaves_again page_size options now room m some more is =
    leaves (setting page_size now room) m (some ++ more)
    ∙ ap (left_of m (some ++ more)) (is ∙ leaves (setting page_size options room) m some)
    ∙ again m some more options
    ∙ sym (leaves (setting page_size options room) m (some ++ more))

-- ---- the options after an answer

abbrev Stays : (changes : Bool) (now asked now' asked' : ℕ) → Type 0
Stays changes now asked now' asked' = (changes ≡ false → (now' ≡ now) × (asked' ≡ asked)) × (changes ≡ true → now' ≡ asked')

stay : (now asked : ℕ) → Stays false now asked now asked
stay now asked = (λ is. (refl, refl), λ is. absurd (true≢false (sym is)))

change : (now asked left : ℕ) → Stays true now asked left left
change now asked left = (λ is. absurd (true≢false is), λ is. refl)

by_one : (now asked : ℕ) (call : FileCall) → Stays (is_destroy call) now asked (options_after now call) (options_after asked call)
by_one now asked file.Destroy = change now asked 0
by_one now asked call = stay now asked

by_start : (now asked capable : ℕ) (answer : FileAnswer) →
    Stays (agrees answer) now asked (start_options now capable answer) (start_options asked capable answer)
by_start now asked capable (file.Wants a) = change now asked (agreed capable a)
by_start now asked capable answer = stay now asked

left_stays : (now asked : ℕ) (m : Meaning) (answers : List FileAnswer) →
    Stays (changes_options m answers) now asked (left_of m answers now) (left_of m answers asked)
unfolding left_of
left_stays now asked (Asks (One unique call)) (a ∷ answers) = by_one now asked call
left_stays now asked (Asks (Starts unique capable readahead)) (a ∷ answers) = by_start now asked capable a
left_stays now asked m answers = stay now asked

pub options_stay : OptionsStay
options_stay page_size asked now room m answers =
    let here = leaves (setting page_size now room) m answers in
    let there = leaves (setting page_size asked room) m answers in
    subst (λ (x : ℕ). Stays (changes_options m answers) now asked x (served (setting page_size asked room) m answers).options) (sym here)
    (subst (λ (x : ℕ). Stays (changes_options m answers) now asked (left_of m answers now) x) (sym there) (left_stays now asked m answers))
