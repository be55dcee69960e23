use Rattle.std.proofs.Common.{◌≡◌, ℕ, ◌+◌, ◌-◌, ◌/◌, ◌^◌, ◌<◌, ap, sym, ◌∙◌, subst, length, min, inl, arith}
use Rattle.vm_atomic_bitmaps.specs.Passes.{SharedPages, ByChange, changes_page}
use Rattle.vm_atomic_bitmaps.proofs.RangePages.{is_between, between-not, changes_page-is, changes_page-none, range_changes, no_changes}
use Rattle.vm_atomic_bitmaps.proofs.atomic_bitmap.AtomicBitmap.change_addr_range.Goals as goal

pub returns-then-len-eq0-clause-pages : goal.returns-then-len-eq0-clause-pages
returns-then-len-eq0-clause-pages c =
    let b = c.args.self.now in
    let long = c.requires.1 in
    no_changes (ByChange c.args.change c.args.pass.now.counts) (changes_page c.args.change b.page_size b.len c.args.start c.args.len)
    c.args.pass.now.counts.pages
    (λ p within. ap (λ (n : ℕ). changes_page c.args.change b.page_size b.len c.args.start n p) c.if-len-eq0.true
    ∙ changes_page-none c.args.change b.page_size b.len c.args.start p (omega arith))

pub returns-then-first-self-clause-pages : goal.returns-then-first-self-clause-pages
returns-then-first-self-clause-pages c =
    let b = c.args.self.now in
    let long = c.requires.1 in
    let some = c.if-len-eq0.false in
    let past = c.if-first-self.true in
    let len : c.self.inside.len ≡ b.len = ap (λ (s : SharedPages). s.len) c.self.view_is in
    let size : c.self.inside.page_size ≡ b.page_size = ap (λ (s : SharedPages). s.page_size) c.self.view_is in
    let first : c.page_of-first.result ≡ c.args.start / b.page_size = c.page_of-first.ensures ∙ ap (λ (k : ℕ). c.args.start / k) size in
    let positive : 0 < b.page_size = subst (λ (k : ℕ). 0 < k) size c.self.invariant.0 in
    no_changes (ByChange c.args.change c.args.pass.now.counts) (changes_page c.args.change b.page_size b.len c.args.start c.args.len)
    c.args.pass.now.counts.pages
    (λ p within. changes_page-is c.args.change b.page_size b.len c.args.start c.args.len p positive (omega arith) c.ranges.start.fits
    (omega arith)
    ∙ between-not (c.args.start / b.page_size) ((min (c.args.start + c.args.len) (2 ^ 64) - 1) / b.page_size) p (inl (omega arith)))

pub returns-clause-pages : goal.returns-clause-pages
returns-clause-pages c =
    let b = c.args.self.now in
    let old = c.args.pass.now.counts.pages in
    let long : length old ≡ b.len = c.requires.1 in
    let some = c.if-len-eq0.false in
    let len : c.self.inside.len ≡ b.len = ap (λ (s : SharedPages). s.len) c.self.view_is in
    let size : c.self.inside.page_size ≡ b.page_size = ap (λ (s : SharedPages). s.page_size) c.self.view_is in
    let first : c.page_of-first.result ≡ c.args.start / b.page_size = c.page_of-first.ensures ∙ ap (λ (k : ℕ). c.args.start / k) size in
    let far : c.last_page.result ≡ (min (c.args.start + c.args.len) (2 ^ 64) - 1) / b.page_size =
    c.last_page.ensures ∙ ap (λ (k : ℕ). (min (c.args.start + c.args.len) (2 ^ 64) - 1) / k) size in
    let last : c.min-last.result ≡ min c.last_page.result (c.self.inside.len - 1) = c.min-last.ensures in
    let positive : 0 < b.page_size = subst (λ (k : ℕ). 0 < k) size c.self.invariant.0 in
    range_changes (ByChange c.args.change c.args.pass.now.counts) (changes_page c.args.change b.page_size b.len c.args.start c.args.len) old
    c.change_run.new.pass.counts.pages c.page_of-first.result
    c.last_page.result c.min-last.result
    (last ∙ ap (λ (k : ℕ). min c.last_page.result (k - 1)) (len ∙ sym long))
    (λ p within. changes_page-is c.args.change b.page_size b.len c.args.start c.args.len p positive (omega arith) c.ranges.start.fits
    (omega arith)
    ∙ sym (ap (λ (k : ℕ). is_between k c.last_page.result p) first ∙ ap (λ (k : ℕ). is_between (c.args.start / b.page_size) k p) far))
    c.change_run.ensures.pages
