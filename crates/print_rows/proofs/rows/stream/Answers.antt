use Rattle.std.proofs.Common.{rules, ◌<◌, None, replicate, sym, refl, subst, arith}
use Rattle.job_base.specs.Forms.{AreAllowed}
use Rattle.frame_ast.specs.Contents.{Entries}
use Rattle.native_stream.proofs.Places.{in_place, may_use}
use Rattle.print_rows.proofs.Held.{within, kept}
use Rattle.print_rows.proofs.rows.stream.Goals as goal

pub begin-requires-clause-readable : goal.begin-requires-clause-readable
begin-requires-clause-readable c = λ k e. let h : k < 3 = search (rules, in_place) in
    may_use (record { start = 0; count = 3; room = 2 }) _ c.loop-i.invariant.allowed k h

pub begin-requires-clause-writable : goal.begin-requires-clause-writable
begin-requires-clause-writable c = λ k e. let h : k < 3 = search (rules, in_place) in
    may_use (record { start = 0; count = 3; room = 2 }) _ c.loop-i.invariant.allowed k h

pub loop-i-init : goal.loop-i-init
loop-i-init c = record {
  allowed = within c.in_ok-mem.mem _ 0 9 refl (omega (arith, c.in_ok-mem.ensures.length, c.words_of.ensures.number));
  stands = (Entries 2 (replicate 3 None), c.words_of.ensures.unwritten (record { start = 0; count = 3; room = 2 }) _ (λ w lo hi. c.in_ok-mem.ensures.zero w));
}

pub loop-i-preserved : goal.loop-i-preserved
loop-i-preserved c = record {
  allowed = subst (AreAllowed 0 9) (sym c.begin.ensures.readable) c.loop-i.invariant.allowed;
  stands = kept _ _ _ _ _ _ _ _ c.begin.ensures.form c.begin.ensures.words c.loop-i.invariant.stands;
}

pub write-requires-clause-readable : goal.write-requires-clause-readable
write-requires-clause-readable c = may_use (record { start = 0; count = 3; room = 2 }) _ c.loop-i-2.invariant.allowed _ (omega arith)

pub write-requires-clause-writable : goal.write-requires-clause-writable
write-requires-clause-writable c = may_use (record { start = 0; count = 3; room = 2 }) _ c.loop-i-2.invariant.allowed _ (omega arith)

pub loop-i-2-preserved : goal.loop-i-2-preserved
loop-i-2-preserved c = record {
  allowed = subst (AreAllowed 0 9) (sym c.write.ensures.readable) c.loop-i-2.invariant.allowed;
  stands = kept _ _ _ _ _ _ _ _ c.write.ensures.form c.write.ensures.words c.loop-i-2.invariant.stands;
}
