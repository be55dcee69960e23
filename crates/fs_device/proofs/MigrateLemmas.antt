-- a machine that is moved
use Rattle.std.proofs.Common.{◌≡◌, ◌^◌, ℕ, ◌+◌, ◌≤◌, ◌<◌, Bool, true, false, List, [], ◌∷◌, ◌++◌, map, length, drop, get_or, Option, Some}
use Rattle.std.proofs.Common.{None, Ok, Err, inl, inr, refl, ap, sym, ◌∙◌, subst, append_assoc, append-nil, arith}
use Rattle.std.specs.Prelude.{if◌then◌else◌, slice_get, option_map, nat_le, Result, is_err, IfErr, IfOk, IfSome, IsTrue, OnOk}
use Rattle.std.specs.List.{AllByRecursion, zip}
use Rattle.std.proofs.lemmas.List.{drop_all, drop_more, length-map}
use Rattle.std.proofs.lemmas.Option.{same_Some, slice_get-get_or}
use Rattle.vm_bitmaps.specs.Pages.{pages_of}
use Rattle.vm_memory_core.specs.Host.{Host, Block, Shape, lengths, page_count, shape}
use Rattle.fs_device.specs.declared.applying.ApplyError.{ApplyError}
use Rattle.fs_device.specs.declared.applying.ApplyError.TheVariants.{OutOfRange}
use Rattle.fs_device.specs.declared.harvested.HarvestedPage.{HarvestedPage}
use Rattle.plain_machine.specs.Harvested.{Page}
use Rattle.fs_device.specs.PageView.{page_view}
use Rattle.fs_device.specs.Applying.{applied, first_refused, pages_put, refused_by}
use Rattle.fs_device.proofs.CatchUpLemmas.{pages_put-append}
use Rattle.fs_device.proofs.HarvestLemmas.{no_block}
use Rattle.fs_device.proofs.TrackLemmas.{HavePlaces, IsSized, both_none, neither_none}
use Rattle.fs_queue.specs.Queue.{Queue}
use Rattle.fs_record.specs.Laws.{OneReading}
use Rattle.fs_record.specs.Record.{Second, IsRecordFor, IsSavable}
use Rattle.fs_device.specs.DevicePartsView.{DeviceParts, device_bytes}
use Rattle.fs_record.specs.Streams.{Leaves}
use Rattle.server_meanings.specs.Serving.{May}
use Rattle.fs_device.specs.declared.command.Answer as said
use Rattle.fs_device.specs.declared.command.Command as fetched
use Rattle.plain_machine.specs.Step.{State}
use Rattle.plain_machine.specs.Run as run
use Rattle.plain_machine.specs.Run.{Command, Answer, Turns, Performs, RunReported, Run, with_host}
use Rattle.fs_device.specs.CommandView.{answer_of, command_of}
use Rattle.fs_device.specs.Moving.{CanMoveAgain, HasItsMarks, ImageCatchesUp, RunsFromImage, follows_image, pages_answered, pages_of_answer}
use Rattle.fs_device.proofs.LayoutLemmas.{page_count-is}
use Rattle.fs_device.specs.Migrating.{IsMoved, StaysHere, pages_of_answers, until_harvest}

-- ---- each block has its marks

-- what was looked at of a block
sized_there : {X : Type 0} (o : Option X) (f : X → List ℕ) (m : X → List Bool) (b : Block) → option_map f o ≡ Some b.bytes →
    option_map m o ≡ Some b.marks →
    IfSome o (λ x. length (m x) ≡ pages_of 4096 (length (f x))) → IsSized b
sized_there None f m b eb em h = absurd (cc)
sized_there (Some x) f m b eb em h = ap length (sym (same_Some (m x) b.marks em)) ∙ h ∙ page_count-is (length (f x))
    ∙ ap (λ (l : List ℕ). page_count (length l)) (same_Some (f x) b.bytes eb)

-- one block further
pub sized_next : {X : Type 0} (o : Option X) (f : X → List ℕ) (m : X → List Bool) (blocks : List Block) (i : ℕ) → i < length blocks →
    option_map f o ≡ option_map (λ b. b.bytes) (slice_get blocks i) → option_map m o ≡ option_map (λ b. b.marks) (slice_get blocks i) →
    IfSome o (λ x. length (m x) ≡ pages_of 4096 (length (f x))) →
    (AllByRecursion IsSized (drop i blocks) → AllByRecursion IsSized blocks) → AllByRecursion IsSized (drop (i + 1) blocks) →
    AllByRecursion IsSized blocks
sized_next o f m blocks i lt eb em h all rest =
    let b : Block = get_or blocks i no_block in
    let found : slice_get blocks i ≡ Some b = slice_get-get_or blocks i no_block lt in
    let here = sized_there o f m b (eb ∙ ap (option_map (λ (k : Block). k.bytes)) found)
    (em ∙ ap (option_map (λ (k : Block). k.marks)) found) h in
    all (subst (AllByRecursion IsSized) (sym (drop_more blocks i no_block lt)) (here, rest))

pub sized_all : (blocks : List Block) (i : ℕ) → length blocks ≤ i →
    (AllByRecursion IsSized (drop i blocks) → AllByRecursion IsSized blocks) → AllByRecursion IsSized blocks
sized_all blocks i h all = all (subst (AllByRecursion IsSized) (sym (drop_all i blocks h)) tt)

-- ---- the pages of answers

if_none : (b : Bool) (i j : ℕ) → (if b then None else Some (OutOfRange i)) ≡ None → (if b then None else Some (OutOfRange j)) ≡ None
if_none true i j e = refl
if_none false i j e = absurd (cc)

renumbered_one : (o : Option ℕ) (i j : ℕ) (p : Page) → refused_by o i p ≡ None → refused_by o j p ≡ None
renumbered_one None i j p e = absurd (cc)
renumbered_one (Some len) i j p e = if_none (nat_le (p.offset + length p.bytes) len) i j e

-- however pages are numbered, none is refused
pub renumbered : (ls : List ℕ) (ps : List Page) (i j : ℕ) → first_refused ls i ps ≡ None → first_refused ls j ps ≡ None
unfolding first_refused
renumbered ls [] i j e = refl
renumbered ls (p ∷ ps) i j e =
    let both = both_none (refused_by (slice_get ls p.block) i p) (first_refused ls (i + 1) ps) e in
    neither_none (refused_by (slice_get ls p.block) j p) (first_refused ls (j + 1) ps) (renumbered_one (slice_get ls p.block) i j p both.0)
    (renumbered ls ps (i + 1) (j + 1) both.1)

places_front : (ls : List ℕ) (xs ys : List Page) (i : ℕ) → first_refused ls i (xs ++ ys) ≡ None → first_refused ls i xs ≡ None
unfolding first_refused
places_front ls [] ys i e = refl
places_front ls (p ∷ xs) ys i e =
    let here = refused_by (slice_get ls p.block) i p in
    let both = both_none here (first_refused ls (i + 1) (xs ++ ys)) e in
    neither_none here (first_refused ls (i + 1) xs) both.0 (places_front ls xs ys (i + 1) both.1)

places_back : (ls : List ℕ) (xs ys : List Page) (i : ℕ) → first_refused ls i (xs ++ ys) ≡ None → HavePlaces ls ys
unfolding first_refused
places_back ls [] ys i e j = renumbered ls ys i j e
places_back ls (p ∷ xs) ys i e j =
    places_back ls xs ys (i + 1) (both_none (refused_by (slice_get ls p.block) i p) (first_refused ls (i + 1) (xs ++ ys)) e).1 j

pub places_split : (ls : List ℕ) (xs ys : List Page) → first_refused ls 0 (xs ++ ys) ≡ None →
    (first_refused ls 0 xs ≡ None) × (first_refused ls 0 ys ≡ None)
places_split ls xs ys e = (places_front ls xs ys 0 e, places_back ls xs ys 0 e 0)

pub put_all : {P : Type 0} (r : Result (Unit {0}) ApplyError) (o : Option ApplyError) → r ≡ applied o → o ≡ None → OnOk r P → P
put_all (Ok tt) o e none p = p
put_all (Err x) o e none p =
    let no = e ∙ ap applied none in
    absurd (cc)

-- what is left of answers' pages: it leaves the whole, has its places, and the host its shape
abbrev pub LeftAnswered : (first now whole : Host) → List said.Answer → ℕ → Type 0
LeftAnswered first now whole answers i = (pages_put now (pages_of_answers (drop i answers)) ≡ whole)
    × HavePlaces (lengths now) (pages_of_answers (drop i answers)) × (shape now ≡ shape first)

-- the pages of the answers from one on are its own and then the others'
pages_from : (answers : List said.Answer) (i : ℕ) (a : said.Answer) (ps : List Page) → i < length answers → a ≡ get_or answers i a →
    pages_of_answer (answer_of a) ≡ ps →
    pages_of_answers (drop i answers) ≡ ps ++ pages_of_answers (drop (i + 1) answers)
pages_from answers i a ps lt is has =
    let rest = pages_of_answers (drop (i + 1) answers) in
    ap pages_of_answers (drop_more answers i a lt) ∙ ap (λ (x : said.Answer). pages_of_answer (answer_of x) ++ rest) (sym is)
    ∙ ap (λ (l : List Page). l ++ rest) has

-- one answer further
answered_next : (first now new whole : Host) (answers : List said.Answer) (i : ℕ) (a : said.Answer) (ps : List Page) → i < length answers →
    a ≡ get_or answers i a →
    pages_of_answer (answer_of a) ≡ ps → new ≡ pages_put now ps → shape new ≡ shape now → LeftAnswered first now whole answers i →
    LeftAnswered first new whole answers (i + 1)
answered_next first now new whole answers i a ps lt is has put same left =
    let rest = pages_of_answers (drop (i + 1) answers) in
    let next = pages_from answers i a ps lt is has in
    let kept : lengths new ≡ lengths now = ap (λ (s : Shape). s.block_lengths) same in
    let there = subst (HavePlaces (lengths now)) next left.1 in (
      ap (λ (h : Host). pages_put h rest) put ∙ sym (pages_put-append now ps rest) ∙ sym (ap (pages_put now) next) ∙ left.0,
      subst (λ (ls : List ℕ). HavePlaces ls rest) (sym kept) (places_back (lengths now) ps rest 0 (there 0)),
      same ∙ left.2,
    )

-- an answer with pages, which are put in
pub answered_put : (first now new whole : Host) (answers : List said.Answer) (i : ℕ) (a : said.Answer) (pages : List HarvestedPage)
    (r : Result (Unit {0}) ApplyError) →
    i < length answers → a ≡ get_or answers i a →
    pages_of_answer (answer_of a) ≡ map page_view pages → r ≡ applied (first_refused (lengths now) 0 (map page_view pages)) →
    OnOk r (new ≡ pages_put now (map page_view pages)) → shape new ≡ shape now →
    LeftAnswered first now whole answers i → LeftAnswered first new whole answers (i + 1)
answered_put first now new whole answers i a pages r lt is has outcome ok same left =
    let ps = map page_view pages in
    let rest = pages_of_answers (drop (i + 1) answers) in
    let there = subst (HavePlaces (lengths now)) (pages_from answers i a ps lt is has) left.1 in
    answered_next first now new whole answers i a ps lt is has
    (put_all r _ outcome (places_front (lengths now) ps rest 0 (there 0)) ok) same left

pub answered_passed :
    (first now whole : Host) (answers : List said.Answer) (i : ℕ) (a : said.Answer) → i < length answers → a ≡ get_or answers i a →
    pages_of_answer (answer_of a) ≡ [] → LeftAnswered first now whole answers i → LeftAnswered first now whole answers (i + 1)
unfolding pages_put
answered_passed first now whole answers i a lt is none left = answered_next first now now whole answers i a [] lt is none refl refl left

pub answered_all : (first now whole : Host) (answers : List said.Answer) (i : ℕ) → length answers ≤ i →
    LeftAnswered first now whole answers i → now ≡ whole
unfolding pages_put
answered_all first now whole answers i ge left =
    sym (ap (λ (l : List said.Answer). pages_put now (pages_of_answers l)) (drop_all i answers ge)) ∙ left.0

-- ---- runs

-- one run after another
runs_joined :
    {F : Type 0} (may : May F) (s mid after : State F) (es fs : List (Command × Answer)) (ts us : List Turns) → RunReported may s es ts mid
    → RunReported may mid fs us after → RunReported may s (es ++ fs) (ts ++ us) after
unfolding RunReported
runs_joined may s mid after [] fs [] us one other = subst (λ k. RunReported may k fs us after) one other
runs_joined may s mid after (e ∷ es) fs (t ∷ ts) us (k, performs, rest) other =
    (k, performs, runs_joined may k mid after es fs ts us rest other)
runs_joined may s mid after _ fs _ us one other = absurd one

one_command : {F : Type 0} (may : May F) (s after : State F) (e : Command × Answer) → Performs may s e.0 [] e.1 after →
    RunReported may s (e ∷ []) ([] ∷ []) after
unfolding RunReported
one_command may s after e performs = (after, performs, refl)

one_before : {F : Type 0} (may : May F) (s mid after : State F) (e : Command × Answer) (es : List (Command × Answer)) (ts : List Turns) →
    Performs may s e.0 [] e.1 mid → RunReported may mid es ts after →
    RunReported may s (e ∷ es) ([] ∷ ts) after
unfolding RunReported
one_before may s mid after e es ts performs rest = (mid, performs, rest)

-- commands between an image and a harvest
between : {F : Type 0} (may : May F) (s began mid after : State F) (image harvest : Answer) (events : List (Command × Answer)) →
    Performs may s run.Image [] image began → Run may began events mid → Performs may mid run.Harvest [] harvest after →
    Run may s ((run.Image, image) ∷ events ++ (run.Harvest, harvest) ∷ []) after
between may s began mid after image harvest events imaged (all_turns, did) harvested =
    let all = runs_joined may began mid after events _ all_turns _ did (one_command may mid after (run.Harvest, harvest) harvested) in
    ([] ∷ (all_turns ++ [] ∷ []), one_before may s began after (run.Image, image) _ _ imaged all)

-- each command may follow an image
abbrev CanFollow : List fetched.Command → Type 0
CanFollow cs = AllByRecursion (λ c. IsTrue (follows_image (command_of c))) cs

-- commands, each with what it was answered
abbrev with_answers : List fetched.Command → List said.Answer → List (Command × Answer)
with_answers cs answers = zip (map command_of cs) (map answer_of answers)

all_follow : (cs : List fetched.Command) (answers : List said.Answer) → CanFollow cs →
    AllByRecursion (λ (e : Command × Answer). IsTrue (follows_image e.0)) (with_answers cs answers)
all_follow (c ∷ cs) (a ∷ answers) f = (f.0, all_follow cs answers f.1)
all_follow _ _ f = tt

harvest_follows :
    (events : List (Command × Answer)) (last : List Page) → AllByRecursion (λ (e : Command × Answer). IsTrue (follows_image e.0)) events →
    AllByRecursion (λ (e : Command × Answer). IsTrue (follows_image e.0)) (until_harvest events last)
harvest_follows [] last f = (refl, tt)
harvest_follows (e ∷ events) last f = (f.0, harvest_follows events last f.1)

pub is_run_from_image : {F : Type 0} (may : May F) (s began mid here : State F) (copy : Host) (cs : List fetched.Command)
    (answers : List said.Answer) (last : List Page) →
    s.memory.translates ≡ false → HasItsMarks s.memory.host → CanFollow cs →
    Performs may s run.Image [] (run.Copied copy) began → Run may began (with_answers cs answers) mid →
    Performs may mid run.Harvest [] (run.Pages last) here →
    RunsFromImage may s copy (until_harvest (with_answers cs answers) last) here
is_run_from_image may s began mid here copy cs answers last off marks follow imaged did harvested = record {
  off = off;
  marks = marks;
  follow = harvest_follows (with_answers cs answers) last (all_follow cs answers follow);
  run = between may s began mid here (run.Copied copy) (run.Pages last) (with_answers cs answers) imaged did harvested;
}

-- the IOMMU stays off
pub stays_off : {F : Type 0} (may : May F) (s began mid : State F) (copy : Host) (cs : List fetched.Command) (answers : List said.Answer) →
    CanMoveAgain may →
    s.memory.translates ≡ false → HasItsMarks s.memory.host → CanFollow cs →
    Performs may s run.Image [] (run.Copied copy) began → Run may began (with_answers cs answers) mid → mid.memory.translates ≡ false
stays_off may s began mid copy cs answers law off marks follow imaged (all_turns, did) =
    let from : RunsFromImage may s copy (with_answers cs answers) mid = record {
      off = off;
      marks = marks;
      follow = all_follow cs answers follow;
      run = ([] ∷ all_turns, one_before may s began mid (run.Image, run.Copied copy) _ _ imaged did);
    } in
    (law s mid copy (with_answers cs answers) from).0

-- ---- a machine that stays

no_answer : (answers : List said.Answer) → answers ≡ [] → map answer_of answers ≡ []
no_answer answers e = ap (map answer_of) e

-- an image was made or refused, and nothing more was done
pub stays_at_once : {F : Type 0} (may : May F) (s after : State F) (image : Answer) (cs : List fetched.Command)
    (answers : List said.Answer) → answers ≡ [] → Performs may s run.Image [] image after →
    StaysHere may s (map command_of cs) (map answer_of answers) after
stays_at_once may s after image cs answers empty performs =
    inl (no_answer answers empty, image, ([] ∷ [], one_command may s after (run.Image, image) performs))

-- all was done, and a last harvest made or refused
pub stays_at_last : {F : Type 0} (may : May F) (s began mid after : State F) (copy : Host) (harvest : Answer) (cs : List fetched.Command)
    (answers : List said.Answer) → length answers ≡ length cs →
    Performs may s run.Image [] (run.Copied copy) began → Run may began (with_answers cs answers) mid →
    Performs may mid run.Harvest [] harvest after →
    StaysHere may s (map command_of cs) (map answer_of answers) after
stays_at_last may s began mid after copy harvest cs answers count imaged did harvested =
    let many = length-map answers answer_of ∙ count ∙ sym (length-map cs command_of) in
    inr (many, copy, harvest, between may s began mid after (run.Copied copy) harvest (with_answers cs answers) imaged did harvested)

-- all was done, and a last harvest made
pub stays_after : {F : Type 0} (may : May F) (s here : State F) (copy : Host) (cs : List fetched.Command) (answers : List said.Answer)
    (last : List Page) → length answers ≡ length cs →
    RunsFromImage may s copy (until_harvest (with_answers cs answers) last) here →
    StaysHere may s (map command_of cs) (map answer_of answers) here
stays_after may s here copy cs answers last count from =
    inr (length-map answers answer_of ∙ count ∙ sym (length-map cs command_of), copy, run.Pages last, from.run)

pub both_ok : {X E : Type 0} {P Q R : X → Type 0} (r : Result X E) → ((x : X) → P x → Q x → R x) → IfOk r P → IfOk r Q → IfOk r R
both_ok (Ok x) f p q = f x p q
both_ok (Err e) f p q = tt

pub both_err : {X E : Type 0} {P Q R : E → Type 0} (r : Result X E) → ((e : E) → P e → Q e → R e) → IfErr r P → IfErr r Q → IfErr r R
both_err (Ok x) f p q = tt
both_err (Err e) f p q = f e p q

-- ---- records

-- what was saved and read back is what was saved
pub brought : {F E : Type 0} (r : Result (Unit {0}) E) (d : DeviceParts F) (page_size limit options : ℕ) (queues : List Queue)
    (had has left rest taken : List ℕ) (failed fails : Bool)
    → OneReading → is_err r ≡ false → had ≡ [] → Leaves (device_bytes d) (Some had) failed r (Some has) fails
    → OnOk r (IsSavable d.options d.queues) → d.page_size < 2 ^ 32 → d.limit < 2 ^ 64
    → left ≡ has → left ≡ taken ++ rest → IsRecordFor taken page_size limit options queues → (options ≡ d.options) × (queues ≡ d.queues)
brought (Err x) d page_size limit options queues had has left rest taken failed fails law ok none out savable small low same read is =
    absurd (cc)
brought (Ok u) d page_size limit options queues had has left rest taken failed fails law ok none out savable small low same read is =
    let bytes = device_bytes d in
    let all : has ≡ bytes = out.0 ∙ ap (λ (l : List ℕ). l ++ bytes) none in
    let one = law is.0 (Second d.page_size d.limit) options d.options queues d.queues taken bytes rest [] is.2 (refl, (small, low), savable)
    (sym read ∙ same ∙ all ∙ sym (append-nil bytes)) in
    (one.1, one.2)

-- ---- the machine there

-- some pages and then others, put into a copy
pub put_whole : (copy one two : Host) (xs ys : List Page) (r : Result (Unit {0}) ApplyError) → one ≡ pages_put copy xs →
    shape one ≡ shape copy → first_refused (lengths copy) 0 (xs ++ ys) ≡ None →
    r ≡ applied (first_refused (lengths one) 0 ys) → OnOk r (two ≡ pages_put one ys) → two ≡ pages_put copy (xs ++ ys)
put_whole copy one two xs ys r put same places outcome ok =
    let kept : lengths one ≡ lengths copy = ap (λ (s : Shape). s.block_lengths) same in
    let none = ap (λ (ls : List ℕ). first_refused ls 0 ys) kept ∙ (places_split (lengths copy) xs ys places).1 in
    put_all r _ outcome none ok ∙ ap (λ (h : Host). pages_put h ys) put ∙ sym (pages_put-append copy xs ys)

-- the pages of answers and of a last harvest are those that the run answered
pub all_pages : (cs : List fetched.Command) (answers : List said.Answer) (last : List Page) → length answers ≡ length cs →
    pages_answered (until_harvest (with_answers cs answers) last) ≡ pages_of_answers answers ++ last
all_pages [] [] last e = append-nil last
all_pages (c ∷ cs) (a ∷ answers) last e =
    ap (λ (l : List Page). pages_of_answer (answer_of a) ++ l) (all_pages cs answers last (omega arith))
    ∙ sym (append_assoc (pages_of_answer (answer_of a)) (pages_of_answers answers) last)
all_pages _ _ last e = absurd (omega arith)

-- the machine over the copy with these pages put in is the one here, so whatever runs there could have run here
pub is_moved : {F : Type 0} (may : May F) (s here there : State F) (copy : Host) (events : List (Command × Answer)) (last ps : List Page) →
    ImageCatchesUp may →
    RunsFromImage may s copy (until_harvest events last) here → pages_answered (until_harvest events last) ≡ ps →
    there ≡ with_host here (pages_put copy ps) → IsMoved may s events there
is_moved {F} may s here there copy events last ps law from same is =
    let over = is ∙ ap (λ (l : List Page). with_host here (pages_put copy l)) (sym same) in
    let whole : there ≡ here = over ∙ ap (with_host here) (law s here copy events last from) in
    let done = from.run in record {
      copy = copy;
      last = last;
      here = here;
      from = from;
      over = over;
      same = whole;
      carries_on = λ later all_turns end ran.
          runs_joined may s here end ((run.Image, run.Copied copy) ∷ until_harvest events last) later done.0 all_turns done.1
          (subst (λ (k : State F). RunReported may k later all_turns end) whole ran);
    }
