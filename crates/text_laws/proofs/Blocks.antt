-- A raw block means one block, but for where its parts lie in memory.
use Rattle.std.proofs.Common.{ℕ, ◌≡◌, List, [], sym, ap, ◌∙◌, subst}
use Rattle.frame_ast.specs.declared.kernel.Stmt.{Stmt}
use Rattle.frame_ast.specs.declared.kernel.Stmt.TheOpen.{Assign, SetValue, Store, Add, AddPair, TryAdd, RemoveAt, RemoveKey, Clear, Write, Begin, For}
use Rattle.kernel_raw.specs.declared.raw.RawKernel.{RawKernel}
use Rattle.kernel_raw.specs.Raw.{RawBlock}
use Rattle.kernel_code.specs.Trees.{BlockOf}
use Rattle.kernel_code.specs.Trees as tree
use Rattle.tree_laws.specs.Same.{SameStmt, SameBody}
use Rattle.text_laws.proofs.Raws.{parts_of}
use Rattle.text_laws.proofs.Trees.{named, parameter, variable, declared, expr_once}

nothing_else : (s : List Stmt) (t : List Stmt) → s ≡ [] → t ≡ [] → SameBody s t
nothing_else s t a b = subst (λ z. SameBody s z) (sym b) (subst (λ z. SameBody z []) (sym a) SameBody.nothing)

module _ (r t : RawKernel) (same : parts_of r ≡ parts_of t) where
  pub block_once : {i : ℕ} {b : RawBlock} {xs ys : List Stmt} → BlockOf r i b xs → BlockOf t i b ys → SameBody xs ys
  block_once tree.nothing tree.nothing = SameBody.nothing
  block_once (tree.var {i = i} k is e a more) (tree.var {y = y'} l is' e' b more') =
      SameBody.followed (SameStmt.assign a (b ∙ ap (λ m. Assign m y') (sym (declared r t same i k l is is'))) (expr_once r t same e e')) (block_once more more')
  block_once (tree.set_local {i = i} {name = name} k is e a more) (tree.set_local {y = y'} l is' e' b more') =
      SameBody.followed (SameStmt.assign a (b ∙ ap (λ m. Assign m y') (sym (variable r t same i name k l is is'))) (expr_once r t same e e'))
      (block_once more more')
  block_once (tree.set_local {i = i} {name = name} k is e a more) (tree.set_value l is' e' b more') = let c = named r t same i name _ _ is is' in absurd cc
  block_once (tree.set_value {i = i} {name = name} k is e a more) (tree.set_local l is' e' b more') = let c = named r t same i name _ _ is is' in absurd cc
  block_once (tree.set_value {i = i} {name = name} k is e a more) (tree.set_value {y = y'} l is' e' b more') =
      SameBody.followed (SameStmt.set_value a (b ∙ ap (λ m. SetValue m y') (sym (parameter r t same i name k l is is'))) (expr_once r t same e e'))
      (block_once more more')
  block_once (tree.set_place {i = i} {name = name} k is e g a more) (tree.set_place {y = y'} {z = z'} l is' e' g' b more') =
      SameBody.followed (SameStmt.store a (b ∙ ap (λ m. Store m y' z') (sym (parameter r t same i name k l is is'))) (expr_once r t same e e')
      (expr_once r t same g g')) (block_once more more')
  block_once (tree.set_try_add {i = i} {at = at} {name = name} k x is is2 e g a more) (tree.set_try_add {y = y'} {z = z'} k' x' is' is2' e' g' b more') =
      let ks = variable r t same i at k k' is is' in
      let ps = parameter r t same i name x x' is2 is2' in
      SameBody.followed (SameStmt.try_add a (b ∙ ap (λ m. TryAdd m x' y' z') (sym ks) ∙ ap (λ m. TryAdd k m y' z') (sym ps)) (expr_once r t same e e')
      (expr_once r t same g g')) (block_once more more')
  block_once (tree.set_remove {i = i} {at = at} {name = name} k x is is2 e a more) (tree.set_remove {y = y'} k' x' is' is2' e' b more') =
      let ks = variable r t same i at k k' is is' in
      let ps = parameter r t same i name x x' is2 is2' in
      SameBody.followed (SameStmt.remove_key a (b ∙ ap (λ m. RemoveKey m x' y') (sym ks) ∙ ap (λ m. RemoveKey k m y') (sym ps)) (expr_once r t same e e'))
      (block_once more more')
  block_once (tree.add_item {i = i} {name = name} k is e a more) (tree.add_item {y = y'} l is' e' b more') =
      SameBody.followed (SameStmt.add a (b ∙ ap (λ m. Add m y') (sym (parameter r t same i name k l is is'))) (expr_once r t same e e')) (block_once more more')
  block_once (tree.add_pair {i = i} {name = name} k is e g a more) (tree.add_pair {y = y'} {z = z'} l is' e' g' b more') =
      SameBody.followed (SameStmt.add_pair a (b ∙ ap (λ m. AddPair m y' z') (sym (parameter r t same i name k l is is'))) (expr_once r t same e e')
      (expr_once r t same g g')) (block_once more more')
  block_once (tree.remove {i = i} {name = name} k is e a more) (tree.remove {y = y'} l is' e' b more') =
      SameBody.followed (SameStmt.remove_at a (b ∙ ap (λ m. RemoveAt m y') (sym (parameter r t same i name k l is is'))) (expr_once r t same e e'))
      (block_once more more')
  block_once (tree.clear {i = i} {name = name} k is a more) (tree.clear l is' b more') =
      SameBody.followed (SameStmt.clear a (b ∙ ap (λ m. Clear m) (sym (parameter r t same i name k l is is')))) (block_once more more')
  block_once (tree.write {i = i} {name = name} k is e a more) (tree.write {y = y'} l is' e' b more') =
      SameBody.followed (SameStmt.write a (b ∙ ap (λ m. Write m y') (sym (parameter r t same i name k l is is'))) (expr_once r t same e e'))
      (block_once more more')
  block_once (tree.begun {i = i} {name = name} k is e a inner more) (tree.begun {y = y'} {body = body'} l is' e' b inner' more') =
      SameBody.followed (SameStmt.begin a (b ∙ ap (λ m. Begin m y' body') (sym (parameter r t same i name k l is is'))) (expr_once r t same e e')
      (block_once inner inner')) (block_once more more')
  block_once (tree.tested {other = other} e a inner none more) (tree.tested {other = other'} e' b inner' none' more') =
      SameBody.followed (SameStmt.if_ a b (expr_once r t same e e') (block_once inner inner') (nothing_else other.items other'.items none none'))
      (block_once more more')
  block_once (tree.counted {i = i} k is e g a inner more) (tree.counted {y = y'} {z = z'} {body = body'} l is' e' g' b inner' more') =
      SameBody.followed (SameStmt.for a (b ∙ ap (λ m. For m y' z' body') (sym (declared r t same i k l is is'))) (expr_once r t same e e')
      (expr_once r t same g g') (block_once inner inner')) (block_once more more')
  block_once (tree.looped e a inner more) (tree.looped e' b inner' more') =
      SameBody.followed (SameStmt.while a b (expr_once r t same e e') (block_once inner inner')) (block_once more more')
  block_once (tree.branched e a first second more) (tree.branched e' b first' second' more') =
      SameBody.followed (SameStmt.if_ a b (expr_once r t same e e') (block_once first first') (block_once second second')) (block_once more more')
