-- The size of statements that are measured one after another.
use Rattle.std.proofs.Common.{arith, ◌≡◌, ◌≤◌, ◌<◌, ◌+◌, ◌∙◌, ℕ, List, [], ◌∷◌, length, max, drop, get_or, add-one, drop-cons, refl, ap, sym}
use Rattle.std.proofs.lemmas.List.{drop_all}
use Rattle.frame_ast.specs.declared.kernel.Stmt.{Stmt}
use Rattle.frame_ast.specs.Checked.{body_nodes, body_depth}
use Rattle.kernel_trees.specs.declared.sizes.Size.{Size}
use Rattle.kernel_trees.specs.Sizes.{statement_nodes, statement_depth, statement_size, body_size, beside}

-- so much is measured of the statements up to a place
pub record IsSizeUpTo (body : List Stmt) (at : ℕ) (size : Size) : Type 0 where
  pub nodes : size.nodes + body_nodes (drop at body) ≡ body_nodes body
  pub depth : max size.depth (body_depth (drop at body)) ≡ body_depth body
  pub shallow : size.depth ≤ size.nodes

front : (body : List Stmt) (at : ℕ) (d : Stmt) → at < length body → drop at body ≡ get_or body at d ∷ drop (at + 1) body
front body at d within = rw (add-one at) (drop-cons body at d within)

nodes_at : (body : List Stmt) (at : ℕ) (s : Stmt) → at < length body → s ≡ get_or body at s
    → body_nodes (drop at body) ≡ statement_nodes s + body_nodes (drop (at + 1) body)
nodes_at body at s within is = ap body_nodes (front body at s within) ∙ ap (λ x. statement_nodes x + body_nodes (drop (at + 1) body)) (sym is)

depth_at : (body : List Stmt) (at : ℕ) (s : Stmt) → at < length body → s ≡ get_or body at s
    → body_depth (drop at body) ≡ max (statement_depth s) (body_depth (drop (at + 1) body))
depth_at body at s within is = ap body_depth (front body at s within) ∙ ap (λ x. max (statement_depth x) (body_depth (drop (at + 1) body))) (sym is)

pub size_at_start : (body : List Stmt) → IsSizeUpTo body 0 (record { nodes = 0; depth = 0 })
size_at_start body = record { nodes = omega arith; depth = omega arith; shallow = omega arith }

pub statement_small : (body : List Stmt) (at : ℕ) (s : Stmt) → at < length body → s ≡ get_or body at s → body_nodes body ≤ 4096 → (size : Size)
    → IsSizeUpTo body at size →
    size.nodes + statement_nodes s ≤ 4096
statement_small body at s within is small size so_far = omega (arith, nodes_at body at s within is, so_far.nodes, small)

pub size_more : (body : List Stmt) (at : ℕ) (s : Stmt) (size one next : Size) → at < length body → s ≡ get_or body at s → IsSizeUpTo body at size →
    one ≡ statement_size s → next ≡ beside size one → next.depth ≤ next.nodes → IsSizeUpTo body (at + 1) next
size_more body at s size one next within is so_far one_is next_is shallow = record {
  nodes = omega (arith, nodes_at body at s within is, so_far.nodes, ap (λ z. z.nodes) one_is, ap (λ z. z.nodes) next_is);
  depth = omega (arith, depth_at body at s within is, so_far.depth, ap (λ z. z.depth) one_is, ap (λ z. z.depth) next_is);
  shallow = shallow;
}

pub size_at_end : (body : List Stmt) (at : ℕ) (size : Size) → length body ≤ at → IsSizeUpTo body at size → size ≡ body_size body
size_at_end body at size past so_far =
    let left : drop at body ≡ [] = drop_all at body past in
    let nodes : size.nodes ≡ body_nodes body = omega (arith, so_far.nodes, ap body_nodes left) in
    let depth : size.depth ≡ body_depth body = omega (arith, so_far.depth, ap body_depth left) in
    rw (sym nodes, sym depth) refl
