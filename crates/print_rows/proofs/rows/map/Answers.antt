use Rattle.std.proofs.Common.{[], sym, refl, subst, arith, length, nat_lt}
use Rattle.job_base.specs.Cells.{cells_of}
use Rattle.job_base.specs.Forms.{AreAllowed}
use Rattle.frame_ast.specs.Contents.{Pairs}
use Rattle.native_map.specs.declared.MapAt.{MapAt}
use Rattle.native_map.specs.Table.{end_of, map_at}
use Rattle.native_map.specs.Layout.{StandsFor}
use Rattle.print_rows.proofs.Held.{within, kept}
use Rattle.print_rows.proofs.rows.map.Goals as goal

pub put-requires-clause-readable : goal.put-requires-clause-readable
put-requires-clause-readable c = c.loop-key.invariant.allowed

pub put-requires-clause-writable : goal.put-requires-clause-writable
put-requires-clause-writable c = c.loop-key.invariant.allowed

pub loop-key-init : goal.loop-key-init
loop-key-init c = record {
  allowed = subst (λ (at : MapAt). AreAllowed at.start (end_of at) (λ w. nat_lt w (length c.in_ok-mem.mem))) (sym c.new-at.ensures)
      (within c.in_ok-mem.mem _ 0 (end_of (map_at 0 c.args.cap)) refl (omega (arith, c.in_ok-mem.ensures.length, c.words_of.ensures.places)));
  stands = (
    Pairs c.args.cap [],
    subst (λ at. StandsFor at (cells_of c.in_ok-mem.mem) (Pairs c.args.cap [])) (sym c.new-at.ensures)
        (c.words_of.ensures.empty (map_at 0 c.args.cap) _ (λ w lo hi. c.in_ok-mem.ensures.zero w)),
  );
}

pub loop-key-preserved : goal.loop-key-preserved
loop-key-preserved c = record {
  allowed = subst (AreAllowed c.new-at.result.start (end_of c.new-at.result)) (sym c.put.ensures.readable) c.loop-key.invariant.allowed;
  stands = kept _ _ _ _ _ _ _ _ c.put.ensures.form c.put.ensures.words c.loop-key.invariant.stands;
}
