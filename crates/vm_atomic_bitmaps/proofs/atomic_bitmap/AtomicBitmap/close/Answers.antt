use Rattle.std.proofs.Common.{◌≡◌, ℕ, ◌++◌, List, length, take, drop, ap, sym, subst, ◌∙◌, rules}
use Rattle.std.specs.Int.{div_ceil}
use Rattle.std.specs.Mem.Slots.{slots_items}
use Rattle.std.proofs.lemmas.List.{length-replicate}
use Rattle.std.proofs.Math.Seq.{take-append_seam}
use Rattle.vm_atomic_bitmaps.specs.Rule.{Stands}
use Rattle.vm_atomic_bitmaps.specs.Passes.{SharedPages, Pass}
use Rattle.vm_atomic_bitmaps.proofs.PageRuns.{closes, settles_closed}
use Rattle.vm_atomic_bitmaps.proofs.atomic_bitmap.AtomicBitmap.close.Goals as goal

pub returns-clause-rule : goal.returns-clause-rule
returns-clause-rule c =
    let f = c.close_with-closed.ensures.values.2 in
    let new = c.copy_words.new.words in
    let len : c.self.inside.len ≡ c.args.self.len = ap (λ (b : SharedPages). b.len) c.self.view_is in
    let key : c.self.inside.table.shared.key ≡ c.self.inside.len = c.self.invariant.2 in
    let size : c.in-Ok.words.len ≡ length new = search rules in
    let zeros : length c.in-Ok.words.items ≡ c.words-count.result =
    ap length c.in-Ok.ensures ∙ length-replicate {A = ℕ} c.words-count.result 0 in
    let items : length c.deref_mut.result.now ≡ length c.in-Ok.words.items = ap length c.deref_mut.ensures.value in
    let count : length new ≡ div_ceil c.args.self.len 64 = c.copy_words.ensures.count ∙ items ∙ zeros ∙ c.words-count.ensures in
    let words : take c.in-Ok.words.len (new ++ drop (length new) c.in-Ok.words.items) ≡ new =
    ap (λ (n : ℕ). take n (new ++ drop (length new) c.in-Ok.words.items)) size
    ∙ take-append_seam new (drop (length new) c.in-Ok.words.items) in
    let stands = closes c.self.inside.table.shared.key c.args.self.len f.0 c.pass.inside.seat.id c.pass.inside.seat.me.0
    (slots_items c.close_with-closed.result.words) new
    (key ∙ len) f.1.0 f.1.1 f.2 count c.copy_words.ensures.same in
    let counts : c.pass.inside.seat.me.0 ≡ c.args.pass.counts = ap (λ (p : Pass). p.counts) c.pass.view_is in
    subst (λ (ws : List ℕ). Stands c.args.self.len ws c.args.pass.counts) (sym words) (subst (Stands c.args.self.len new) counts stands)

pub returns-clause-whole : goal.returns-clause-whole
returns-clause-whole c = settles_closed c.args.self.len _ c.args.pass.counts c.requires.1 (returns-clause-rule c)

pub returns-clause-past : goal.returns-clause-past
returns-clause-past c p l = let stands = returns-clause-rule c in stands.1.counted.rest p l
