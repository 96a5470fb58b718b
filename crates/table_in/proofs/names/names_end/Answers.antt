use Rattle.std.proofs.Common.{◌≡◌, refl, [], subst, length, arith}
use Rattle.table_in.specs.Plain.{FirstEnds}
use Rattle.table_in.proofs.NameLemmas.{scan_more, scan_stops, scan_ends}
use Rattle.table_in.proofs.names.names_end.Goals as goal

pub loop-end-init : goal.loop-end-init
loop-end-init c = record { fields = []; field = []; same = refl }

pub loop-end-preserved : goal.loop-end-preserved
loop-end-preserved c = scan_more c.args.text.now c.loop-end.place c.in-Some.after c.loop-end.end c.loop-end.invariant (omega arith) c.in-Some.ensures

pub returns-in-None : goal.returns-in-None
returns-in-None c = scan_stops c.args.text.now c.loop-end.place c.loop-end.end c.loop-end.invariant (omega arith) c.in-None.ensures

pub returns : goal.returns
returns c =
    let all : c.loop-end.end ≡ length c.args.text.now = omega arith in
    subst (λ n. FirstEnds c.args.text.now n) all (scan_ends c.args.text.now c.loop-end.place c.loop-end.end c.loop-end.invariant all)
