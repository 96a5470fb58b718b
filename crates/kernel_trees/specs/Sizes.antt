-- How many nodes expressions, statements and kernels have, and how deep they are.
use Rattle.std.specs.Prelude.{ℕ, ◌+◌, max, List}
use Rattle.frame_ast.specs.declared.kernel.Expr.{Expr}
use Rattle.frame_ast.specs.declared.kernel.Stmt.{Stmt}
use Rattle.frame_ast.specs.declared.kernel.Stmt.TheFolds.{fold-Stmt}
use Rattle.frame_ast.specs.declared.kernel.Kernel.{Kernel}
use Rattle.frame_ast.specs.Checked.{measured, expr_nodes, expr_depth, body_nodes, body_depth}
use Rattle.kernel_trees.specs.declared.sizes.Size.{Size}

abbrev pub expr_size : Expr → Size
expr_size e = record { nodes = expr_nodes e; depth = expr_depth e }

abbrev pub statement_nodes : Stmt → ℕ
statement_nodes = fold-Stmt ℕ (measured expr_nodes (λ m n. m + n))

abbrev pub statement_depth : Stmt → ℕ
statement_depth = fold-Stmt ℕ (measured expr_depth max)

abbrev pub statement_size : Stmt → Size
statement_size s = record { nodes = statement_nodes s; depth = statement_depth s }

abbrev pub body_size : List Stmt → Size
body_size body = record { nodes = body_nodes body; depth = body_depth body }

-- the size of two trees side by side, and of a node over them

abbrev pub beside : Size → Size → Size
beside a b = record { nodes = a.nodes + b.nodes; depth = max a.depth b.depth }

abbrev pub over : Size → Size
over a = record { nodes = 1 + a.nodes; depth = 1 + a.depth }

-- KERNELS

abbrev pub size_of : Kernel → Size
size_of k = body_size k.body.statements.items
