-- an entry that is given back counts as often as it was answered
use Rattle.std.proofs.Common.{◌≡◌, ℕ, false, List, [], ◌∷◌, refl, ap, sym, ◌∙◌, arith, subst, IsTrue}
use Rattle.fuse_fs.specs.declared.answers.Context.{Context}
use Rattle.fuse_fs.specs.Calls.{FileCall, FileAnswer, suits, kind_of}
use Rattle.fuse_fs.specs.Calls as call
use Rattle.server_calls.specs.Requests.{entry_node, forget_node, forget_entry}
use Rattle.plain_machine.specs.Step.{Calls, EachSuits, calls_alone}
use Rattle.fs_device.specs.Books.{entry_count, forget_count}
use Rattle.fs_device.proofs.MeaningLemmas.{no_entry, has_entry}
use Rattle.fs_device.proofs.ListBooks.{entries_in, counts_in, entries_more, counts_more, no_step, one_step}

-- calls that give an answered entry back: there is none in their answers, and they take back as many counts as entries were answered
abbrev GivesBack : (node : ℕ) → FileAnswer → List FileCall → Type 0
GivesBack n a undo =
    (steps : Calls) → EachSuits steps → undo ≡ calls_alone steps → (entries_in n steps ≡ 0) × (counts_in n steps ≡ entry_count n a)

nothing_back : (n : ℕ) (a : FileAnswer) → entry_count n a ≡ 0 → GivesBack n a []
nothing_back n a none steps suit asks =
    let empty = no_step steps asks in
    (ap (entries_in n) empty, ap (counts_in n) empty ∙ sym none)

node_back : (n : ℕ) (who : Context) (x : ℕ) (a : FileAnswer) → entry_count n a ≡ forget_count n (call.Forget who x 1) →
    GivesBack n a (call.Forget who x 1 ∷ [])
node_back n who x a counts steps suit asks =
    let one = one_step (call.Forget who x 1) steps asks in
    let only : EachSuits ((call.Forget who x 1, one.0) ∷ []) = subst EachSuits one.1 suit in
    let none : entry_count n one.0 ≡ 0 = no_entry n (call.Forget who x 1) one.0 refl only.0 in
    let e = entries_more n (call.Forget who x 1, one.0) [] in
    rw one.1 (omega (arith, e, none), omega (arith, counts_more n (call.Forget who x 1, one.0) [], counts))

-- by the answer
entry_back : (n : ℕ) (who : Context) (a : FileAnswer) → GivesBack n a (forget_node who (entry_node a))
entry_back n who (call.HasEntry e) = node_back n who e.inode (call.HasEntry e) refl
entry_back n who (call.Created e handle options) = node_back n who e.inode (call.Created e handle options) refl
entry_back n who a = nothing_back n a refl

other_back : (n : ℕ) (c : FileCall) (a : FileAnswer) → has_entry (kind_of c) ≡ false → IsTrue (suits c a) → GivesBack n a []
other_back n c a without suit = nothing_back n a (no_entry n c a without suit)

-- by the call
pub gives_back : (n : ℕ) (c : FileCall) (a : FileAnswer) → IsTrue (suits c a) → GivesBack n a (forget_entry c a)
gives_back n (call.Lookup who p q) a suit = entry_back n who a
gives_back n (call.Symlink who p q r s) a suit = entry_back n who a
gives_back n (call.Mknod who p q r s t u) a suit = entry_back n who a
gives_back n (call.Mkdir who p q r s t) a suit = entry_back n who a
gives_back n (call.Link who p q r) a suit = entry_back n who a
gives_back n (call.Create who p q r s t u v) a suit = entry_back n who a
gives_back n c a suit = other_back n c a refl suit
