use Rattle.std.proofs.Common.{◌≡◌, ◌-◌, Ok, drop, length, refl, sym, subst, arith, List, ℕ}
use Rattle.std.proofs.lemmas.List.{drop-drop, length-drop}
use Rattle.fuse_in.specs.Records.{in_header}
use Rattle.server_requests.specs.Reading.{record_parser}
use Rattle.server_meanings.proofs.Rows.{meaning_head}
use Rattle.server_phases.specs.Asking.{BeginsRecord}
use Rattle.server_phases.proofs.Fronts.{behind, front_begins, record_begins, record_by_front}
use Rattle.server_phases.proofs.Reporting.{has_asker}
use Rattle.server_phases.proofs.asking.ask_write_front.Goals as goal

pub returns-in-Ok-clause-decoded : goal.returns-in-Ok-clause-decoded
returns-in-Ok-clause-decoded c = λ page_size options request len is.
    let front = c.args.front.now in
    let head = c.in-Ok.head in
    let left = c.record.new.self.bytes.now in
    let long = c.requires.front in
    let reads : Ok (head, left) ≡ record_parser in_header front = c.in-Ok.ensures.reads in
    let begins = record_by_front in_header front request left head (front_begins 40 front request is (omega arith)) reads in
    let same = behind in_header front left head reads in
    let joined : drop 40 (drop 40 request) ≡ drop 80 request = drop-drop 40 40 request in
    let count : c.args.len - 80 ≡ length (drop 40 (drop 40 request)) = rw (joined, length-drop 80 request, len) refl in
    rw (meaning_head options c.args.room request (drop 40 request) head begins, sym joined)
    (c.ask_write_head.ensures.decoded page_size options (drop 40 request)
    (subst (λ (x : List ℕ). BeginsRecord x (drop 40 request)) same (record_begins front request is long)) count)

pub returns-in-Ok-clause-asker : goal.returns-in-Ok-clause-asker
returns-in-Ok-clause-asker c = λ request is.
    let front = c.args.front.now in
    let head = c.in-Ok.head in
    let long = c.requires.front in
    let reads : Ok (head, c.record.new.self.bytes.now) ≡ record_parser in_header front = c.in-Ok.ensures.reads in
    let begins = record_by_front in_header front request c.record.new.self.bytes.now head
    (front_begins 40 front request is (omega arith)) reads in
    has_asker request (drop 40 request) head c.ask_write_head.result begins c.ask_write_head.ensures.asker
