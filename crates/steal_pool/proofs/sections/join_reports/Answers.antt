use Rattle.std.proofs.Common.{◌+◌, refl, arith}
use Rattle.steal_pool.proofs.Joining.{join_on, join_first}
use Rattle.steal_pool.proofs.sections.join_reports.Goals as goal

pub returns-then-section-eq0-clause-traps : goal.returns-then-section-eq0-clause-traps
returns-then-section-eq0-clause-traps c =
    let none = c.if-section-eq0.true in
    let r = c.args.earlier.now in
    let s = c.args.section.now in
    λ a b p q. join_on a b c.args.jobs_before r s (record r { refused = r.refused + s.refused }) (omega (arith, none)) refl refl refl
    (λ e. omega (arith, none)) p q

pub returns-then-earlier-gt0-clause-traps : goal.returns-then-earlier-gt0-clause-traps
returns-then-earlier-gt0-clause-traps c =
    let some = c.if-earlier-gt0.true in
    let r = c.args.earlier.now in
    let s = c.args.section.now in
    λ a b p q. join_on a b c.args.jobs_before r s (record r { traps = r.traps + s.traps; refused = r.refused + s.refused }) refl refl refl refl
    (λ e. omega (arith, some, e)) p q

pub returns-clause-traps : goal.returns-clause-traps
returns-clause-traps c =
    let none = c.if-earlier-gt0.false in
    let r = c.args.earlier.now in
    let s = c.args.section.now in
    λ a b p q. join_first a b c.args.jobs_before r s (record s {
      traps = r.traps + s.traps;
      refused = r.refused + s.refused;
      job = record { 0 = s.job.0 + c.args.jobs_before };
    }) refl refl refl refl (omega (arith, none)) p q
