use Rattle.std.proofs.Common.{◌≡◌, Some, sym, subst, arith}
use Rattle.std.specs.Prelude.{slice_get}
use Rattle.std.proofs.lemmas.Option.{slice_get_past}
use Rattle.job_handle.specs.Sets.{jobs_of}
use Rattle.safety_handle.specs.Entries.{state_in, set_in, conflicting_in}
use Rattle.safety_handle.proofs.Conflicting.{no_user}
use Rattle.safety_handle.proofs.Tables.{here}
use Rattle.safety_handle.proofs.book.SafetyBook.set_to_conflicting.Goals as goal

pub returns : goal.returns
returns c =
    let rows = c.args.self.now.entries in
    let e = c.index-entry.result.now in
    let size = rows.ok.0 in
    let them = set_in (slice_get c.args.self.now.readers.items c.args.slot.0) in
    let all = jobs_of c.set_to_conflicting.new.all in
    subst (λ o. all ≡ conflicting_in (state_in o them).latest c.args.writes)
    (sym (here rows.items c.args.slot.0 e (omega arith) c.index-entry.ensures))
    (subst (λ r. all ≡ conflicting_in (state_in (Some e) r).latest c.args.writes) c.readers_of-readers.ensures c.set_to_conflicting.ensures)

pub returns-then-at-len : goal.returns-then-at-len
returns-then-at-len c =
    let rows = c.args.self.now.entries in
    let size = rows.ok.0 in
    let them = set_in (slice_get c.args.self.now.readers.items c.args.slot.0) in
    subst (λ o. jobs_of c.clear.new.self ≡ conflicting_in (state_in o them).latest c.args.writes) (sym (slice_get_past rows.items c.args.slot.0 (omega arith)))
    (no_user c.clear.new.self c.args.writes c.clear.ensures)
