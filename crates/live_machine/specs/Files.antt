-- A run whose files may answer anything is a run over any files of which its calls are a run.
use Rattle.std.specs.Prelude.{List}
use Rattle.fuse_fs.specs.Calls.{FileRun}
use Rattle.server_meanings.specs.Serving.{May}
use Rattle.live_machine.specs.Live.{LiveEvent, LiveRun, LiveState, calls_among}

-- files that may answer anything
abbrev pub any_files : May (Unit {0})
any_files before call answer after = Unit {0}

-- the same state over other files
abbrev pub over : {E F : Type 0} → LiveState E → F → LiveState F
over s files =
    record {
      places = s.places;
      limit = s.limit;
      page_size = s.page_size;
      queues = s.queues;
      options = s.options;
      chains = s.chains;
      files = files;
    }

abbrev pub RunsOverFiles : {F : Type 0} → May F → Type 0
RunsOverFiles {F} may =
    (s after : LiveState (Unit {0})) (es : List LiveEvent) (files left : F) →
    LiveRun any_files s es after →
    FileRun may files (calls_among es) left →
    LiveRun may (over s files) es (over after left)
