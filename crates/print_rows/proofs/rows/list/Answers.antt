use Rattle.std.proofs.Common.{ℕ, ℤ, ◌+◌, [], sym, refl, subst, arith}
use Rattle.job_base.specs.Cells.{cells_of}
use Rattle.job_base.specs.Forms.{AreAllowed}
use Rattle.frame_ast.specs.Contents.{Cells, Items}
use Rattle.native_list.specs.Layout.{HoldsItems}
use Rattle.native_list.specs.Words.{len_words}
use Rattle.print_rows.proofs.Held.{within, kept}
use Rattle.print_rows.proofs.rows.list.Goals as goal

pub add-requires-clause-readable_length : goal.add-requires-clause-readable_length
add-requires-clause-readable_length c = c.loop-value.invariant.allowed 0 (omega arith) (omega arith)

pub add-requires-clause-writable : goal.add-requires-clause-writable
add-requires-clause-writable c = record {
  length = λ h. c.loop-value.invariant.allowed 0 (omega arith) (omega arith);
  element = λ h. c.loop-value.invariant.allowed (0 + 1 + len_words (record { start = 0; cap = c.args.cap }) (cells_of c.loop-value.mem)) (omega arith)
      (omega arith);
}

pub loop-value-init : goal.loop-value-init
loop-value-init c = record {
  allowed = within c.in_ok-mem.mem _ 0 (0 + (c.args.cap + 1)) refl (omega (arith, c.in_ok-mem.ensures.length));
  stands = (Items c.args.cap [], c.zero_words_are_empty.ensures _ _ (λ w lo hi. c.in_ok-mem.ensures.zero w));
}

pub loop-value-preserved : goal.loop-value-preserved
loop-value-preserved c = record {
  allowed = subst (AreAllowed 0 (0 + (c.args.cap + 1))) (sym c.add.ensures.readable) c.loop-value.invariant.allowed;
  stands = kept _ _ _ _ _ _ _ _ c.add.ensures.form c.add.ensures.words c.loop-value.invariant.stands;
}

pub line-requires-2-clause-readable : goal.line-requires-2-clause-readable
line-requires-2-clause-readable c = subst (AreAllowed 0 (0 + (c.args.cap + 1))) (sym c.line.ensures.readable) c.loop-value.invariant.allowed

pub line-requires-2-clause-stands : goal.line-requires-2-clause-stands
line-requires-2-clause-stands c =
    let s = c.loop-value.invariant.stands.1 in
    (Cells s.0, (s.0, refl, subst (λ (f : ℕ → ℤ). HoldsItems (record { start = 0; cap = c.args.cap }) f s.0) (sym c.line.ensures.cells) s.2))
