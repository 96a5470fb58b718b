use Rattle.std.proofs.Common.{[], sym, ap, subst, ◌∙◌}
use Rattle.frame_ast.specs.declared.kernel.Stmt.{out-Stmt}
use Rattle.frame_ast.specs.declared.kernel.Stmt.TheViews.{outs-Assign, outs-SetValue, outs-Add, outs-RemoveAt, outs-RemoveKey, outs-Write, outs-Store, outs-AddPair, outs-TryAdd, outs-Clear, outs-Begin, outs-If, outs-For, outs-While}
use Rattle.tree_laws.specs.Same.{SameStmt, SameBody}
use Rattle.kernel_trees.proofs.Copied.{block_inner, block_more}
use Rattle.kernel_trees.proofs.copies.+copy.Goals as goal

pub copy_statements-loop-s-init : goal.copy_statements-loop-s-init
copy_statements-loop-s-init t c = subst (λ xs. SameBody [] xs) (sym c.new-copy.ensures.items) SameBody.nothing

pub copy_statements-loop-s-preserved : goal.copy_statements-loop-s-preserved
copy_statements-loop-s-preserved t c =
    block_more c.args.body.now c.loop-s.s-index _ c.loop-s.copy.items _ c.in_ok-statement.field-0
    c.loop-s-test.true c.s-item.is c.loop-s.invariant c.in_ok-statement.ensures c.in_ok-push.ensures.items

pub statement-returns-in_ok-expr-in-Assign : goal.statement-returns-in_ok-expr-in-Assign
statement-returns-in_ok-expr-in-Assign t c =
    SameStmt.assign (ap out-Stmt c.in-Assign.is ∙ outs-Assign _ _) (outs-Assign _ _) c.in_ok-expr-in-Assign.ensures

pub statement-returns-in_ok-expr-in-SetValue : goal.statement-returns-in_ok-expr-in-SetValue
statement-returns-in_ok-expr-in-SetValue t c =
    SameStmt.set_value (ap out-Stmt c.in-SetValue.is ∙ outs-SetValue _ _)
    (outs-SetValue _ _) c.in_ok-expr-in-SetValue.ensures

pub statement-returns-in_ok-expr-in-Add : goal.statement-returns-in_ok-expr-in-Add
statement-returns-in_ok-expr-in-Add t c =
    SameStmt.add (ap out-Stmt c.in-Add.is ∙ outs-Add _ _) (outs-Add _ _) c.in_ok-expr-in-Add.ensures

pub statement-returns-in_ok-expr-in-RemoveAt : goal.statement-returns-in_ok-expr-in-RemoveAt
statement-returns-in_ok-expr-in-RemoveAt t c =
    SameStmt.remove_at (ap out-Stmt c.in-RemoveAt.is ∙ outs-RemoveAt _ _)
    (outs-RemoveAt _ _) c.in_ok-expr-in-RemoveAt.ensures

pub statement-returns-in_ok-expr-in-RemoveKey : goal.statement-returns-in_ok-expr-in-RemoveKey
statement-returns-in_ok-expr-in-RemoveKey t c =
    SameStmt.remove_key (ap out-Stmt c.in-RemoveKey.is ∙ outs-RemoveKey _ _ _)
    (outs-RemoveKey _ _ _) c.in_ok-expr-in-RemoveKey.ensures

pub statement-returns-in_ok-expr-in-Write : goal.statement-returns-in_ok-expr-in-Write
statement-returns-in_ok-expr-in-Write t c =
    SameStmt.write (ap out-Stmt c.in-Write.is ∙ outs-Write _ _) (outs-Write _ _) c.in_ok-expr-in-Write.ensures

pub statement-returns-in_ok-expr-in-Store-2 : goal.statement-returns-in_ok-expr-in-Store-2
statement-returns-in_ok-expr-in-Store-2 t c =
    SameStmt.store (ap out-Stmt c.in-Store.is ∙ outs-Store _ _ _)
    (outs-Store _ _ _) c.in_ok-expr-in-Store.ensures c.in_ok-expr-in-Store-2.ensures

pub statement-returns-in_ok-expr-in-AddPair-2 : goal.statement-returns-in_ok-expr-in-AddPair-2
statement-returns-in_ok-expr-in-AddPair-2 t c =
    SameStmt.add_pair (ap out-Stmt c.in-AddPair.is ∙ outs-AddPair _ _ _)
    (outs-AddPair _ _ _) c.in_ok-expr-in-AddPair.ensures c.in_ok-expr-in-AddPair-2.ensures

pub statement-returns-in_ok-expr-in-TryAdd-2 : goal.statement-returns-in_ok-expr-in-TryAdd-2
statement-returns-in_ok-expr-in-TryAdd-2 t c =
    SameStmt.try_add (ap out-Stmt c.in-TryAdd.is ∙ outs-TryAdd _ _ _ _)
    (outs-TryAdd _ _ _ _) c.in_ok-expr-in-TryAdd.ensures c.in_ok-expr-in-TryAdd-2.ensures

pub statement-returns-in-Clear : goal.statement-returns-in-Clear
statement-returns-in-Clear t c = SameStmt.clear (ap out-Stmt c.in-Clear.is ∙ outs-Clear _) (outs-Clear _)

pub statement-returns-in_ok-copy_statements-in-Begin : goal.statement-returns-in_ok-copy_statements-in-Begin
statement-returns-in_ok-copy_statements-in-Begin t c =
    SameStmt.begin (ap out-Stmt c.in-Begin.is ∙ outs-Begin _ _ _) (outs-Begin _ _ _) c.in_ok-expr-in-Begin.ensures
    (block_inner c.deref.ensures.value c.in_ok-copy_statements-in-Begin.ensures)

pub statement-returns-in_ok-copy_statements-in-If : goal.statement-returns-in_ok-copy_statements-in-If
statement-returns-in_ok-copy_statements-in-If t c =
    SameStmt.if_ (ap out-Stmt c.in-If.is ∙ outs-If _ _ _) (outs-If _ _ _) c.in_ok-e-in-If.ensures
    (block_inner c.deref-in-If.ensures.value c.in_ok-body-in-If.ensures)
    (block_inner c.deref-in-If-2.ensures.value c.in_ok-copy_statements-in-If.ensures)

pub statement-returns-in_ok-copy_statements-in-For : goal.statement-returns-in_ok-copy_statements-in-For
statement-returns-in_ok-copy_statements-in-For t c =
    SameStmt.for (ap out-Stmt c.in-For.is ∙ outs-For _ _ _ _)
    (outs-For _ _ _ _) c.in_ok-e-in-For.ensures c.in_ok-f-in-For.ensures
    (block_inner c.deref-in-For.ensures.value c.in_ok-copy_statements-in-For.ensures)

pub statement-returns-in_ok-copy_statements-in-While : goal.statement-returns-in_ok-copy_statements-in-While
statement-returns-in_ok-copy_statements-in-While t c =
    SameStmt.while (ap out-Stmt c.in-While.is ∙ outs-While _ _) (outs-While _ _) c.in_ok-expr-in-While.ensures
    (block_inner c.deref-in-While.ensures.value c.in_ok-copy_statements-in-While.ensures)
