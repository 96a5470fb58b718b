use Rattle.std.proofs.Common.{rules, refl, ap}
use Rattle.frame_ast.specs.declared.kernel.Expr.{Expr}
use Rattle.tree_laws.specs.Same.{SameExpr}
use Rattle.kernel_trees.proofs.Copied.{number_same, inner}
use Rattle.kernel_trees.proofs.copies.+expr.Goals as goal

pub expr-returns-in-Number : goal.expr-returns-in-Number
expr-returns-in-Number t c = rw (c.in-Number.is) (number_same (search rules))

pub expr-returns-in-Index : goal.expr-returns-in-Index
expr-returns-in-Index t c = rw (c.in-Index.is) SameExpr.itself

pub expr-returns-in-Local : goal.expr-returns-in-Local
expr-returns-in-Local t c = rw (c.in-Local.is) SameExpr.itself

pub expr-returns-in-Value : goal.expr-returns-in-Value
expr-returns-in-Value t c = rw (c.in-Value.is) SameExpr.itself

pub expr-returns-in-Length : goal.expr-returns-in-Length
expr-returns-in-Length t c = rw (c.in-Length.is) SameExpr.itself

pub expr-returns-in_ok-new-in-Element : goal.expr-returns-in_ok-new-in-Element
expr-returns-in_ok-new-in-Element t c =
    rw (c.in-Element.is) (SameExpr.element
    (inner c.deref.ensures c.in_ok-expr-in-Element.ensures c.in_ok-new-in-Element.ensures.ok))

pub expr-returns-in_ok-new-in-Has : goal.expr-returns-in_ok-new-in-Has
expr-returns-in_ok-new-in-Has t c =
    rw (c.in-Has.is) (SameExpr.has
    (inner c.deref-in-Has.ensures c.in_ok-expr-in-Has.ensures c.in_ok-new-in-Has.ensures.ok))

pub expr-returns-in_ok-new-in-Count : goal.expr-returns-in_ok-new-in-Count
expr-returns-in_ok-new-in-Count t c =
    rw (c.in-Count.is) (SameExpr.count
    (inner c.deref-in-Count.ensures c.in_ok-expr-in-Count.ensures c.in_ok-new-in-Count.ensures.ok))

pub expr-returns-in_ok-new-in-Negative : goal.expr-returns-in_ok-new-in-Negative
expr-returns-in_ok-new-in-Negative t c =
    rw (c.in-Negative.is) (SameExpr.negative
    (inner c.deref-in-Negative.ensures c.in_ok-expr-in-Negative.ensures c.in_ok-new-in-Negative.ensures.ok))

pub expr-returns-in_ok-new-in-Not : goal.expr-returns-in_ok-new-in-Not
expr-returns-in_ok-new-in-Not t c =
    rw (c.in-Not.is) (SameExpr.not
    (inner c.deref-in-Not.ensures c.in_ok-expr-in-Not.ensures c.in_ok-new-in-Not.ensures.ok))

pub expr-returns-in_ok-pair-in-Item : goal.expr-returns-in_ok-pair-in-Item
expr-returns-in_ok-pair-in-Item t c = rw (c.in-Item.is) (SameExpr.item
    (inner (ap (λ (x : Expr × Expr). x.0) c.deref-in-Item.ensures) c.in_ok-pair-in-Item.ensures.0 refl)
    (inner (ap (λ (x : Expr × Expr). x.1) c.deref-in-Item.ensures) c.in_ok-pair-in-Item.ensures.1 refl))

pub expr-returns-in_ok-pair-in-And : goal.expr-returns-in_ok-pair-in-And
expr-returns-in_ok-pair-in-And t c = rw (c.in-And.is) (SameExpr.both
    (inner (ap (λ (x : Expr × Expr). x.0) c.deref-in-And.ensures) c.in_ok-pair-in-And.ensures.0 refl)
    (inner (ap (λ (x : Expr × Expr). x.1) c.deref-in-And.ensures) c.in_ok-pair-in-And.ensures.1 refl))

pub expr-returns-in_ok-pair-in-Or : goal.expr-returns-in_ok-pair-in-Or
expr-returns-in_ok-pair-in-Or t c = rw (c.in-Or.is) (SameExpr.either
    (inner (ap (λ (x : Expr × Expr). x.0) c.deref-in-Or.ensures) c.in_ok-pair-in-Or.ensures.0 refl)
    (inner (ap (λ (x : Expr × Expr). x.1) c.deref-in-Or.ensures) c.in_ok-pair-in-Or.ensures.1 refl))

pub expr-returns-in_ok-pair-in-Binary : goal.expr-returns-in_ok-pair-in-Binary
expr-returns-in_ok-pair-in-Binary t c = rw (c.in-Binary.is) (SameExpr.binary
    (inner (ap (λ (x : Expr × Expr). x.0) c.deref-in-Binary.ensures) c.in_ok-pair-in-Binary.ensures.0 refl)
    (inner (ap (λ (x : Expr × Expr). x.1) c.deref-in-Binary.ensures) c.in_ok-pair-in-Binary.ensures.1 refl))

pub pair-returns : goal.pair-returns
pair-returns t c = (
  inner refl c.in_ok-first.ensures (ap (λ (x : Expr × Expr). x.0) c.in_ok-new.ensures.ok),
  inner refl c.in_ok-second.ensures (ap (λ (x : Expr × Expr). x.1) c.in_ok-new.ensures.ok),
)
