-- A run over any files.
use Rattle.std.proofs.Common.{ℕ, List, [], ◌∷◌, ap, ◌∙◌}
use Rattle.fs_queue.specs.Chain.{Descriptor}
use Rattle.fs_regions.specs.declared.step.CourseStep as comes
use Rattle.fs_regions.specs.declared.step.CourseStep.TheVariants as step
use Rattle.fs_regions.specs.Walks.{Loaded}
use Rattle.server_meanings.specs.Serving.{May}
use Rattle.live_machine.specs.Files.{RunsOverFiles, any_files, over}
use Rattle.live_machine.specs.Several.{LiveQueue}
use Rattle.live_machine.specs.Live.{Abandons, DecodesRequest, EndsPop, EndsPopIn, FillsBuffer, GivesUpChain, Happens, LiveEvent, HasEffect}
use Rattle.live_machine.specs.Live.{LiveState, MovesDevice, PushesChain, ReceivesAnswer, RefusesPop, Remaps, RepliesOwnBytes, ResetsQueue}
use Rattle.live_machine.specs.Live.{SetsOptions, StoresNotification}

module _ {F : Type 0} (may : May F) where
  ends : (s after : LiveState (Unit {0})) (files : F) (i : ℕ) (w : LiveQueue) (loaded : Loaded) (ds : List Descriptor)
      (came : comes.CourseStep) → EndsPopIn s i w loaded ds came after → EndsPopIn (over s files) i w loaded ds came (over after files)
  ends s after files i w loaded ds step.Idle h = (h.0, ap (λ (k : LiveState (Unit {0})). over k files) h.1)
  ends s after files i w loaded ds (step.Refused e) h = (h.0, ap (λ (k : LiveState (Unit {0})). over k files) h.1, h.2)
  ends s after files i w loaded ds (step.Chain head fault) h = (h.0, ap (λ (k : LiveState (Unit {0})). over k files) h.1, h.2)
  ends s after files i w loaded ds _ h = h

  -- an event without a file call
  abbrev IsNoAnswer : LiveEvent → Type 0
  IsNoAnswer (ReceivesAnswer c call answer) = ⊥
  IsNoAnswer (HasEffect call answer) = ⊥
  IsNoAnswer e = Unit {0}

  happens : (s after : LiveState (Unit {0})) (files : F) (e : LiveEvent) → IsNoAnswer e → Happens any_files s e after →
      Happens may (over s files) e (over after files)
  happens s after files (EndsPop i loaded ds came) isnt h = record {
    w = h.w;
    there = h.there;
    room = h.room;
    proceeds = h.proceeds;
    mapped = h.mapped;
    ends = ends s after files i h.w loaded ds came h.ends;
  }
  happens s after files (RefusesPop i e) isnt h = record {
    w = h.w;
    there = h.there;
    room = h.room;
    why = h.why;
    no_miss = h.no_miss;
    state = ap (λ (k : LiveState (Unit {0})). over k files) h.state;
  }
  happens s after files (DecodesRequest c request decoded) isnt h = record {
    before = h.before;
    behind = h.behind;
    out = h.out;
    fresh = h.fresh;
    whole = h.whole;
    reports = h.reports;
    state = ap (λ (k : LiveState (Unit {0})). over k files) h.state;
  }
  happens s after files (PushesChain c x notice last used seen) isnt h = record {
    before = h.before;
    behind = h.behind;
    out = h.out;
    w = h.w;
    there = h.there;
    proceeds = h.proceeds;
    used_is = h.used_is;
    two = h.two;
    reported = h.reported;
    state = ap (λ (k : LiveState (Unit {0})). over k files) h.state;
  }
  happens s after files (StoresNotification i store) isnt h = record {
    w = h.w;
    there = h.there;
    wanted = h.wanted;
    stores = h.stores;
    place = h.place;
    state = ap (λ (k : LiveState (Unit {0})). over k files) h.state;
  }
  happens s after files (ResetsQueue i w) isnt h = record {
    old = h.old;
    there = h.there;
    positions_agree = h.positions_agree;
    few = h.few;
    state = ap (λ (k : LiveState (Unit {0})). over k files) h.state;
  }
  happens s after files (FillsBuffer c stores) isnt h = record {
    before = h.before;
    behind = h.behind;
    out = h.out;
    within = h.within;
    state = ap (λ (k : LiveState (Unit {0})). over k files) h.state;
  }
  happens s after files (GivesUpChain c) isnt h = record {
    before = h.before;
    behind = h.behind;
    out = h.out;
    fresh = h.fresh;
    w = h.w;
    there = h.there;
    is_last = h.is_last;
    state = ap (λ (k : LiveState (Unit {0})). over k files) h.state;
  }
  happens s after files (Abandons c) isnt h =
      record { before = h.before; behind = h.behind; out = h.out; state = ap (λ (k : LiveState (Unit {0})). over k files) h.state }
  happens s after files (RepliesOwnBytes c request reply options) isnt h = record {
    before = h.before;
    behind = h.behind;
    out = h.out;
    unreplied = h.unreplied;
    fits = h.fits;
    counts = h.counts;
    state = ap (λ (k : LiveState (Unit {0})). over k files) h.state;
  }
  happens s after files (SetsOptions options) isnt h = record { state = ap (λ (k : LiveState (Unit {0})). over k files) h.state }
  happens s after files (Remaps m) isnt h =
      record { keeps = h.keeps; state = ap (λ (k : LiveState (Unit {0})). over k files) h.state }
  happens s after files (MovesDevice m queues) isnt h = record {
    none_in_flight = h.none_in_flight;
    same = h.same;
    positions_agree = h.positions_agree;
    few = h.few;
    state = ap (λ (k : LiveState (Unit {0})). over k files) h.state;
  }
  happens s after files _ isnt h = absurd isnt

  pub runs_over_files : RunsOverFiles may
  runs_over_files s after [] files left run calls =
      ap (λ (k : LiveState (Unit {0})). over k left) run ∙ ap (λ (f : F). over s f) calls
  runs_over_files s after (ReceivesAnswer c call answer ∷ es) files left run calls = (
    over run.0 calls.0,
    record {
      before = run.1.before;
      behind = run.1.behind;
      out = run.1.out;
      request = run.1.request;
      options = run.1.options;
      calls = run.1.calls;
      asked = run.1.asked;
      pending = run.1.pending;
      is_one = run.1.is_one;
      files = calls.0;
      may_so = calls.2;
      state = ap (λ (k : LiveState (Unit {0})). over k calls.0) run.1.state;
    },
    runs_over_files run.0 after es calls.0 left run.2 calls.3,
  )
  runs_over_files s after (HasEffect call answer ∷ es) files left run calls = (
    over run.0 calls.0,
    record {
      is_one = run.1.is_one;
      files = calls.0;
      may_so = calls.2;
      state = ap (λ (k : LiveState (Unit {0})). over k calls.0) run.1.state;
    },
    runs_over_files run.0 after es calls.0 left run.2 calls.3,
  )
  runs_over_files s after (e ∷ es) files left run calls =
      (over run.0 files, happens s run.0 files e tt run.1, runs_over_files run.0 after es files left run.2 calls)
