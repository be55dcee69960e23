-- The options of a session that an answer leaves.
use Rattle.std.specs.Prelude.{◌≡◌, ℕ, Bool, true, false, List, ◌∷◌}
use Rattle.fuse_fs.specs.Calls.{FileCall, FileAnswer, Destroy, Wants}
use Rattle.server_meanings.specs.Grammar.{Meaning, One, Starts}
use Rattle.server_meanings.specs.Grammar as grammar
use Rattle.server_meanings.specs.Serving.{served, setting}

-- DESTROY ends the negotiated options
abbrev pub is_destroy : FileCall → Bool
is_destroy Destroy = true
is_destroy _ = false

-- the answer to INIT with which options are negotiated
abbrev pub agrees : FileAnswer → Bool
agrees (Wants wanted) = true
agrees _ = false

-- whether the answers to a request change the session's options: the one to DESTROY does, and the one to INIT
-- with which options are negotiated
abbrev pub changes_options : Meaning → List FileAnswer → Bool
changes_options (grammar.Asks (One unique call)) (a ∷ answers) = is_destroy call
changes_options (grammar.Asks (Starts unique capable readahead)) (a ∷ answers) = agrees a
changes_options m answers = false

-- the options of the session after an answer. An answer that doesn't change them leaves those of this moment,
-- not those of the decoding. An answer that changes them leaves the same options from both
abbrev pub OptionsStay : Type 0
OptionsStay =
    (page_size asked now room : ℕ) (m : Meaning) (answers : List FileAnswer) →
    let left = (served (setting page_size now room) m answers).options in
    let alone = (served (setting page_size asked room) m answers).options in
    (changes_options m answers ≡ false → (left ≡ now) × (alone ≡ asked))
    × (changes_options m answers ≡ true → left ≡ alone)
