use Rattle.std.proofs.Common.{◌≡◌, ◌∙◌, ℕ, Some, ap, refl, sym, subst, arith}
use Rattle.vm_memory_core.specs.Window.{places_of}
use Rattle.vm_memory.specs.Layout.{left_at, place}
use Rattle.vm_memory.specs.Memory.{addresses, located}
use Rattle.vm_memory.proofs.TranslatedLemmas.{first_lost, first_piece, pieces_left, run_len-most, run_len-some, translated_len}
use Rattle.vm_memory.proofs.TranslatedLemmas.{window_translated}
use Rattle.vm_memory.proofs.translated.PiecesLeft.next_window.Goals as goal

pub window_at-requires : goal.window_at-requires
window_at-requires g c =
    let table = c.requires.0 in
    let n = c.requires.2 in
    let ready = c.requires.3 in
    let first = c.in-Some.ensures.first table c.args.addr n ready.0 ready.3 in
    let piece = first_piece n c.args.addr table c.in-Some.piece _ ready.0 first in
    rw piece.1 (run_len-some n c.args.addr table ready.0)

pub returns-in_default-window_at-clause-none : goal.returns-in_default-window_at-clause-none
returns-in_default-window_at-clause-none g c table access n ready none =
    let layout = g.M.GuestMemoryBackend.layout c.args.backend.now in
    let first = c.in-Some.ensures.first table c.args.addr n ready.0 ready.3 in
    let piece = first_piece n c.args.addr table c.in-Some.piece _ ready.0 first in
    first_lost n c.args.addr table access layout c.args.set ready.0 ready.2
    (sym (ap (place layout) piece.0) ∙ c.window_at.ensures.none c.in_default-window_at.is)

pub returns-clause-some : goal.returns-clause-some
returns-clause-some g c table access n ready =
    let first = c.in-Some.ensures.first table c.args.addr n ready.0 ready.3 in
    let piece = first_piece n c.args.addr table c.in-Some.piece _ ready.0 first in
    let most = run_len-most n c.args.addr table in
    let w = c.in-Some-window_at.window in
    let some = c.in-Some-window_at.ensures.some in
    let there = subst (λ (t : ℕ). located (place (g.M.GuestMemoryBackend.layout c.args.backend.now)) (addresses t w.len)
    ≡ Some (places_of w)) piece.0 some.3 in
    rw c.replace_bitmap.ensures.window (
      some.0,
      omega (arith, some.1, piece.1, most),
      omega (arith, some.1, piece.1, most, ready.1),
      window_translated n c.args.addr w.len table access (g.M.GuestMemoryBackend.layout c.args.backend.now) c.args.set w ready.2
          (omega (arith, some.1, piece.1)) refl there,
    )

pub returns-clause-longest : goal.returns-clause-longest
returns-clause-longest g c table access n ready =
    let layout = g.M.GuestMemoryBackend.layout c.args.backend.now in
    let first = c.in-Some.ensures.first table c.args.addr n ready.0 ready.3 in
    let piece = first_piece n c.args.addr table c.in-Some.piece _ ready.0 first in
    let len = c.in-Some-window_at.ensures.longest in
    rw c.replace_bitmap.ensures.window (translated_len n c.args.addr c.in-Some-window_at.window.len (left_at layout c.in-Some.piece.base.0)
    table layout (omega (arith, ready.1))
    (ap (left_at layout) piece.0) (omega (arith, len, piece.1)))

pub returns-clause-left : goal.returns-clause-left
returns-clause-left g c table access n ready =
    let first = c.in-Some.ensures.first table c.args.addr n ready.0 ready.3 in
    let piece = first_piece n c.args.addr table c.in-Some.piece _ ready.0 first in
    let most = run_len-most n c.args.addr table in
    let some = c.in-Some-window_at.ensures.some in
    rw (c.replace_bitmap.ensures.window, c.len.ensures.len, c.len-2.ensures.len)
    (pieces_left c.in-Some-window_at.window.len n c.args.addr table access c.in-Some.piece c.first.new.self.rest
    (omega (arith, some.1, piece.1, most)) some.1 (omega (arith, some.0, some.1)) c.in-Some.ensures.fits ready.2 first)
