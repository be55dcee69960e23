-- Entries of a directory as their bytes.
use Rattle.std.proofs.Common.{◌≡◌, ℕ, List, ◌++◌, append_assoc}

-- the bytes of an entry, one after another
pub entry_joined : (w0 w1 w2 w3 w4 node head name zeros : List ℕ) → w1 ≡ w0 ++ node → w2 ≡ w1 ++ head → w3 ≡ w2 ++ name → w4 ≡ w3 ++ zeros
    → w4 ≡ w0 ++ (node ++ (head ++ name ++ zeros))
entry_joined w0 w1 w2 w3 w4 node head name zeros a b c d = rw (d, c, b, a) (simp append_assoc)
