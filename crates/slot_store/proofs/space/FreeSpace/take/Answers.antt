use Rattle.std.proofs.Common.{◌<◌, ◌≤◌, ◌+◌, Fits, w32, length, arith, subst}
use Rattle.slot_store.specs.Spaces.{AreSmall, len_of, start_of}
use Rattle.slot_store.specs.Blocks.{AreBounded}
use Rattle.slot_store.proofs.Words.{raise}
use Rattle.slot_store.proofs.Cuts.{fit_above, live_above, cut_of, cut_live_of, fit_of, end_below, same_hole}
use Rattle.job_base.specs.declared.Span.{Span}
use Rattle.slot_store.proofs.Bounding.{bounded_cut}
use Rattle.slot_store.proofs.space.FreeSpace.take.Goals as goal

pub cut-requires-clause-fits : goal.cut-requires-clause-fits
cut-requires-clause-fits c =
    let lt : c.in-Some.at < length c.args.self.now.holes.items = subst (λ l. c.in-Some.at < length l) c.as_slice.ensures.value c.in-Some.ensures.some.0 in
    let e = end_below c.args.self.now.holes.items 0 c.in-Some.at c.args.self.now.top c.args.self.now.apart lt in
    omega arith

pub overflow_add-hole : goal.overflow_add-hole
overflow_add-hole c =
    let xs = c.args.self.now.holes.items in
    let lt : c.in-Some.at < length xs = subst (λ l. c.in-Some.at < length l) c.as_slice.ensures.value c.in-Some.ensures.some.0 in
    let enough : c.args.len ≤ len_of xs c.in-Some.at = subst (λ l. c.args.len ≤ len_of l c.in-Some.at) c.as_slice.ensures.value c.in-Some.ensures.some.1 in
    let e = end_below xs 0 c.in-Some.at c.args.self.now.top c.args.self.now.apart lt in
    let h : Fits w32 (start_of xs c.in-Some.at + c.args.len) = omega arith in
    subst (λ (x : Span). Fits w32 (x.start + c.args.len)) (same_hole xs c.in-Some.at c.index-hole.result.now lt c.index-hole.ensures) h

pub invariant_of-self : goal.invariant_of-self
invariant_of-self c = record {
  apart = cut_of c.args.self.now.holes.items c.as_slice.result.now c.cut.new.holes.items c.in-Some.at c.args.len c.args.self.now.top c.index-hole.result.now
      c.args.self.now.apart c.as_slice.ensures.value c.in-Some.ensures.some.0 (omega arith) c.in-Some.ensures.some.1 c.cut.ensures.items;
  bounded = let z = c.args.self.now in
      bounded_cut c.first_fit.new.bounds.lens.items c.note.new.self.lens.items z.holes.items c.as_slice.result.now c.cut.new.holes.items c.in-Some.at c.args.len
      c.index-hole.result.now
      (subst (λ l. AreBounded c.first_fit.new.bounds.lens.items l) c.as_slice.ensures.value c.first_fit.ensures.bounded)
      c.note.ensures.others c.as_slice.ensures.value c.in-Some.ensures.some.0 c.index-hole.ensures c.note.ensures.within c.cut.ensures.items;
}

pub invariant_of-self-in-None : goal.invariant_of-self-in-None
invariant_of-self-in-None c = record {
  apart = raise c.args.self.now.holes.items 0 c.args.self.now.top (c.args.self.now.top + c.args.len) c.args.self.now.apart (omega arith);
  bounded = subst (λ l. AreBounded c.first_fit.new.bounds.lens.items l) c.as_slice.ensures.value c.first_fit.ensures.bounded;
}

pub returns-in-Some-clause-fit : goal.returns-in-Some-clause-fit
returns-in-Some-clause-fit c = fit_of c.args.self.now.holes.items c.as_slice.result.now c.in-Some.at c.args.len c.args.self.now.top c.index-hole.result.now
    c.args.self.now.apart c.as_slice.ensures.value c.in-Some.ensures.some.0 (omega arith) c.in-Some.ensures.some.1 c.in-Some.ensures.some.2 c.index-hole.ensures

pub returns-in-Some-clause-live : goal.returns-in-Some-clause-live
returns-in-Some-clause-live c = cut_live_of c.args.self.now.holes.items c.as_slice.result.now c.cut.new.holes.items c.in-Some.at c.args.len c.args.self.now.top
    c.index-hole.result.now c.args.self.now.apart c.as_slice.ensures.value c.in-Some.ensures.some.0
    (omega arith) c.in-Some.ensures.some.1 c.index-hole.ensures c.cut.ensures.items

pub returns-in-None-clause-fit : goal.returns-in-None-clause-fit
returns-in-None-clause-fit c = fit_above c.args.self.now.holes.items c.args.self.now.top c.args.len c.args.self.now.apart (omega arith)
    (subst (λ l. AreSmall l c.args.len (length l)) c.as_slice.ensures.value c.in-None.ensures.none)

pub returns-in-None-clause-live : goal.returns-in-None-clause-live
returns-in-None-clause-live c = λ w. live_above c.args.self.now.holes.items c.args.self.now.top c.args.len w c.args.self.now.apart

pub returns-in-Some-clause-at : goal.returns-in-Some-clause-at
returns-in-Some-clause-at c =
    let lt : c.in-Some.at < length c.args.self.now.holes.items = subst (λ l. c.in-Some.at < length l) c.as_slice.ensures.value c.in-Some.ensures.some.0 in
    let e = end_below c.args.self.now.holes.items 0 c.in-Some.at c.args.self.now.top c.args.self.now.apart lt in
    let q = same_hole c.args.self.now.holes.items c.in-Some.at c.index-hole.result.now lt c.index-hole.ensures in
    subst (λ (x : Span). x.start ≤ c.args.self.now.top) q (omega arith)
