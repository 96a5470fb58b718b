use Rattle.std.proofs.Common.{◌<◌, length, arith, subst}
use Rattle.slot_store.specs.Spaces.{end_of}
use Rattle.slot_store.proofs.Cuts.{end_below}
use Rattle.slot_store.proofs.Bounding.{bounded_given, bounded_lower}
use Rattle.slot_store.proofs.Gives.{end_within, top_holes, top_live, in_holes, in_live}
use Rattle.slot_store.proofs.space.FreeSpace.give.Goals as goal

pub overflow_add-end : goal.overflow_add-end
overflow_add-end c = let e = end_within c.args.self.now.holes.items c.args.self.now.top c.args.span c.args.self.now.apart (omega arith) c.requires.live in
    omega arith

pub joined_before-from-requires-clause-fits : goal.joined_before-from-requires-clause-fits
joined_before-from-requires-clause-fits c = λ k lt.
    let l : k < length c.args.self.now.holes.items = subst (λ xs. k < length xs) c.as_slice-2.ensures.value lt in
    let e = end_below c.args.self.now.holes.items 0 k c.args.self.now.top c.args.self.now.apart l in
    let h : end_of c.args.self.now.holes.items k < 4294967296 = omega arith in
    rw c.as_slice-2.ensures.value h

pub invariant_of-self : goal.invariant_of-self
invariant_of-self c = record {
  apart = top_holes c.args.self.now.holes.items c.args.self.now.top c.args.span c.args.self.now.apart (omega arith) c.requires.live
      c.as_slice.result.now c.as_slice-2.result.now c.holes_before-at.result c.joined_before-from.result.0 c.joined_before-from.result.1
      c.as_slice.ensures.value c.holes_before-at.ensures c.as_slice-2.ensures.value c.joined_before-from.ensures
      c.truncate.new.self.items c.truncate.ensures.items;
  bounded = bounded_lower c.args.self.now.bounds.lens.items c.args.self.now.holes.items c.truncate.new.self.items c.joined_before-from.result.0
      c.args.self.now.bounded c.truncate.ensures.items;
}

pub returns-then-end-top-clause-live : goal.returns-then-end-top-clause-live
returns-then-end-top-clause-live c = top_live c.args.self.now.holes.items c.args.self.now.top c.args.span c.args.self.now.apart (omega arith) c.requires.live
    c.as_slice.result.now c.as_slice-2.result.now c.holes_before-at.result c.joined_before-from.result.0 c.joined_before-from.result.1 c.as_slice.ensures.value
    c.holes_before-at.ensures c.as_slice-2.ensures.value c.joined_before-from.ensures
    c.truncate.new.self.items c.truncate.ensures.items c.if-end-top.true

pub joined_after-to-requires : goal.joined_after-to-requires
joined_after-to-requires c = record {
  fits = λ k lt.
      let l : k < length c.args.self.now.holes.items = subst (λ xs. k < length xs) c.as_slice-else-end-top.ensures.value lt in
      let e = end_below c.args.self.now.holes.items 0 k c.args.self.now.top c.args.self.now.apart l in
      let h : end_of c.args.self.now.holes.items k < 4294967296 = omega arith in
      rw c.as_slice-else-end-top.ensures.value h;
}

pub invariant_of-self-else-end-top : goal.invariant_of-self-else-end-top
invariant_of-self-else-end-top c = record {
  apart = in_holes c.args.self.now.holes.items c.args.self.now.top c.args.span c.args.self.now.apart (omega arith) c.requires.live
      c.as_slice.result.now c.as_slice-2.result.now c.holes_before-at.result c.joined_before-from.result.0 c.joined_before-from.result.1
      c.as_slice.ensures.value c.holes_before-at.ensures c.as_slice-2.ensures.value c.joined_before-from.ensures
      c.as_slice-else-end-top.result.now c.joined_after-to.result.0 c.joined_after-to.result.1 c.as_slice-else-end-top.ensures.value c.if-end-top.false
      c.joined_after-to.ensures
      c.replace.new.holes.items c.replace.ensures.items;
  bounded = bounded_given c.args.self.now.bounds.lens.items c.note.new.self.lens.items c.args.self.now.holes.items c.replace.new.holes.items
      c.joined_before-from.result.0 c.joined_after-to.result.0 _
      c.args.self.now.bounded c.note.ensures.others c.note.ensures.within c.replace.ensures.items;
}

pub returns-else-end-top-clause-live : goal.returns-else-end-top-clause-live
returns-else-end-top-clause-live c = in_live c.args.self.now.holes.items c.args.self.now.top c.args.span c.args.self.now.apart (omega arith) c.requires.live
    c.as_slice.result.now c.as_slice-2.result.now c.holes_before-at.result c.joined_before-from.result.0 c.joined_before-from.result.1 c.as_slice.ensures.value
    c.holes_before-at.ensures c.as_slice-2.ensures.value c.joined_before-from.ensures
    c.as_slice-else-end-top.result.now c.joined_after-to.result.0 c.joined_after-to.result.1 c.as_slice-else-end-top.ensures.value c.if-end-top.false
    c.joined_after-to.ensures
    c.replace.new.holes.items c.replace.ensures.items
