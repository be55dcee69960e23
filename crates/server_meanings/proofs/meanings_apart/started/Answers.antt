use Rattle.std.proofs.Common.{sym, ap, ◌∙◌}
use Rattle.server_meanings.specs.Grammar.{Asks, Starts}
use Rattle.server_meanings.proofs.Rows.{start_old, start_later, start_minor, start_asks}
use Rattle.server_meanings.proofs.meanings_apart.started.Goals as goal

pub returns-then-request-lt-KERNEL_VERSION : goal.returns-then-request-lt-KERNEL_VERSION
returns-then-request-lt-KERNEL_VERSION c = λ g more. start_old g c.args.request.now c.args.flags2 more c.if-request-lt-KERNEL_VERSION.true

pub returns-then-request-gt-KERNEL_VERSION : goal.returns-then-request-gt-KERNEL_VERSION
returns-then-request-gt-KERNEL_VERSION c = λ g more.
    start_later g c.args.request.now c.args.flags2 more c.if-request-lt-KERNEL_VERSION.false c.if-request-gt-KERNEL_VERSION.true

pub returns-then-request-lt-MIN_KERNEL_MINOR_VERSION : goal.returns-then-request-lt-MIN_KERNEL_MINOR_VERSION
returns-then-request-lt-MIN_KERNEL_MINOR_VERSION c = λ g more.
    start_minor g c.args.request.now c.args.flags2 more c.if-request-lt-KERNEL_VERSION.false c.if-request-gt-KERNEL_VERSION.false
    c.if-request-lt-MIN_KERNEL_MINOR_VERSION.true

pub returns : goal.returns
returns c = λ g more. (
  start_asks g c.args.request.now c.args.flags2 more c.if-request-lt-KERNEL_VERSION.false c.if-request-gt-KERNEL_VERSION.false
      c.if-request-lt-MIN_KERNEL_MINOR_VERSION.false
      ∙ ap (λ k. Asks (Starts g.header.unique k c.args.request.now.max_readahead)) (sym c.known-capable.ensures.options),
  c.known-capable.ensures.known,
)
