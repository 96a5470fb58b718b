-- The raw form of a kernel as a tree, and the nodes that it has.
use Rattle.std.specs.Prelude.{◌<◌, ℕ, ◌+◌, List, [], ◌∷◌, ◌++◌, Option, None, Some, IfSome}
use Rattle.kernel_raw.specs.declared.raw.RawForm.{RawForm}
use Rattle.kernel_raw.specs.declared.raw.RawForm.TheVariants as form
use Rattle.kernel_raw.specs.declared.raw.RawNode.{RawNode}
use Rattle.kernel_raw.specs.declared.raw.RawParam.{RawParam}

-- TREES. Numbers are places of tokens.

-- an expression: an atom or a unary operator with the expressions under it, or an operator between two sides
pub data RawExpr : Type 0 where
  Leaf : (f : RawForm) (at name : ℕ) → RawExpr
  One : (f : RawForm) (at name : ℕ) → RawExpr → RawExpr
  Two : (f : RawForm) (at name : ℕ) → RawExpr → RawExpr → RawExpr
  Infix : (at : ℕ) → RawExpr → RawExpr → RawExpr

-- the statements of a block: none, or a first one without a block, with one, or with two, and those behind it
pub data RawBlock : Type 0 where
  Nothing : RawBlock
  Simple : (f : RawForm) (at name : ℕ) → List RawExpr → RawBlock → RawBlock
  Nested : (f : RawForm) (at name : ℕ) → List RawExpr → (inner : RawBlock) → RawBlock → RawBlock
  Branched : (at : ℕ) → RawExpr → (first second : RawBlock) → RawBlock → RawBlock

-- NODES

abbrev pub expr_size : RawExpr → ℕ
expr_size (Leaf f at name) = 1
expr_size (One f at name e) = 1 + expr_size e
expr_size (Two f at name e g) = 1 + (expr_size e + expr_size g)
expr_size (Infix at e g) = expr_size e + (1 + expr_size g)

abbrev pub parts_size : List RawExpr → ℕ
parts_size [] = 0
parts_size (e ∷ more) = expr_size e + parts_size more

abbrev pub block_size : RawBlock → ℕ
block_size Nothing = 0
block_size (Simple f at name parts more) = 1 + (parts_size parts + block_size more)
block_size (Nested f at name parts inner more) = 1 + (parts_size parts + (block_size inner + block_size more))
block_size (Branched at e first second more) =
    1 + (expr_size e + (block_size first + (block_size second + block_size more)))

-- how many statements a block has, those within them aside
abbrev pub statement_count : RawBlock → ℕ
statement_count Nothing = 0
statement_count (Simple f at name parts more) = 1 + statement_count more
statement_count (Nested f at name parts inner more) = 1 + statement_count more
statement_count (Branched at e first second more) = 1 + statement_count more

-- a node of an expression, with so many nodes under it before and behind it
abbrev pub expr_node : RawForm → (at name before after : ℕ) → RawNode
expr_node f at name before after =
    record { form = f; at = at; name = name; owner = None; before = before; after = after; heads = 0; inside = 0 }

-- the nodes of an expression, in the order of their tokens
abbrev pub expr_nodes : RawExpr → List RawNode
expr_nodes (Leaf f at name) = expr_node f at name 0 0 ∷ []
expr_nodes (One f at name e) = expr_node f at name 0 (expr_size e) ∷ expr_nodes e
expr_nodes (Two f at name e g) = expr_node f at name 0 (expr_size e + expr_size g) ∷ expr_nodes e ++ expr_nodes g
expr_nodes (Infix at e g) = expr_nodes e ++ expr_node form.Binary at at (expr_size e) (expr_size g) ∷ expr_nodes g

abbrev pub parts_nodes : List RawExpr → List RawNode
parts_nodes [] = []
parts_nodes (e ∷ more) = expr_nodes e ++ parts_nodes more

-- a node of a statement, with so many nodes of expressions, of its first block and of its second one behind it
abbrev pub statement_node : RawForm → (at name : ℕ) → Option ℕ → (heads first second : ℕ) → RawNode
statement_node f at name owner heads first second =
    record {
      form = f;
      at = at;
      name = name;
      owner = owner;
      before = 0;
      after = heads + (first + second);
      heads = heads;
      inside = first;
    }

-- the nodes of a block of this owner, of which so many nodes of the kernel stand before the first
abbrev pub block_nodes : Option ℕ → ℕ → RawBlock → List RawNode
block_nodes owner n Nothing = []
block_nodes owner n (Simple f at name parts more) =
    statement_node f at name owner (parts_size parts) 0 0
    ∷ parts_nodes parts ++ block_nodes owner (n + (1 + parts_size parts)) more
block_nodes owner n (Nested f at name parts inner more) =
    statement_node f at name owner (parts_size parts) (block_size inner) 0
    ∷ parts_nodes parts
    ++ (block_nodes (Some n) (n + (1 + parts_size parts)) inner
    ++ block_nodes owner (n + (1 + parts_size parts + block_size inner)) more)
block_nodes owner n (Branched at e first second more) =
    statement_node form.IfElse at at owner (expr_size e) (block_size first) (block_size second)
    ∷ expr_nodes e
    ++ (block_nodes (Some n) (n + (1 + expr_size e)) first
    ++ (block_nodes (Some n) (n + (1 + expr_size e + block_size first)) second
    ++ block_nodes owner (n + (1 + expr_size e + block_size first + block_size second)) more))

-- PLACES

-- every place that an expression tells is below n
abbrev pub ExprBelow : ℕ → RawExpr → Type 0
ExprBelow n (Leaf f at name) = (at < n) × (name < n)
ExprBelow n (One f at name e) = (at < n) × (name < n) × ExprBelow n e
ExprBelow n (Two f at name e g) = (at < n) × (name < n) × ExprBelow n e × ExprBelow n g
ExprBelow n (Infix at e g) = (at < n) × ExprBelow n e × ExprBelow n g

abbrev pub PartsBelow : ℕ → List RawExpr → Type 0
PartsBelow n [] = Unit {0}
PartsBelow n (e ∷ more) = ExprBelow n e × PartsBelow n more

-- every place that the statements of a block tell is below n
abbrev pub BlockBelow : ℕ → RawBlock → Type 0
BlockBelow n Nothing = Unit {0}
BlockBelow n (Simple f at name parts more) = (at < n) × (name < n) × PartsBelow n parts × BlockBelow n more
BlockBelow n (Nested f at name parts inner more) =
    (at < n) × (name < n) × PartsBelow n parts × BlockBelow n inner × BlockBelow n more
BlockBelow n (Branched at e first second more) =
    (at < n) × ExprBelow n e × BlockBelow n first × BlockBelow n second × BlockBelow n more

-- every place that parameters tell is below n
abbrev pub ParamsBelow : ℕ → List RawParam → Type 0
ParamsBelow n [] = Unit {0}
ParamsBelow n (p ∷ more) = (p.name < n) × (p.word < n) × IfSome p.width (λ w. w < n) × ParamsBelow n more
