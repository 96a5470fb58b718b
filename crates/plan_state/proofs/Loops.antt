-- Statements that are looked at one after another, up to the first that repeats others.
use Rattle.std.proofs.Common.{◌≡◌, ◌≤◌, ◌<◌, ◌+◌, ◌∙◌, ℕ, true, false, List, ◌∷◌, length, drop, get_or, add-one, drop-cons, ap, sym}
use Rattle.std.specs.Prelude.{◌||◌}
use Rattle.std.proofs.lemmas.List.{drop_all}
use Rattle.frame_ast.specs.declared.kernel.Stmt.{Stmt}
use Rattle.plan_state.specs.Works.{has_loop, body_has_loop}

module _ (body : List Stmt) (at : ℕ) (s : Stmt) (within : at < length body) (is : s ≡ get_or body at s)
    (so_far : body_has_loop (drop at body) ≡ body_has_loop body) where
  front : drop at body ≡ get_or body at s ∷ drop (at + 1) body
  front = rw (add-one at) (drop-cons body at s within)

  next : body_has_loop body ≡ (has_loop s || body_has_loop (drop (at + 1) body))
  next =
      sym so_far
      ∙ ap body_has_loop front
      ∙ ap (λ x. has_loop x || body_has_loop (drop (at + 1) body)) (sym is)

  pub loop_here : has_loop s ≡ true → true ≡ body_has_loop body
  loop_here e = sym (next ∙ ap (λ b. b || body_has_loop (drop (at + 1) body)) e)

  pub no_loop_here : has_loop s ≡ false → body_has_loop (drop (at + 1) body) ≡ body_has_loop body
  no_loop_here e = sym (next ∙ ap (λ b. b || body_has_loop (drop (at + 1) body)) e)

pub no_loop : (body : List Stmt) (at : ℕ) → length body ≤ at → body_has_loop (drop at body) ≡ body_has_loop body → false ≡ body_has_loop body
no_loop body at past so_far = sym (ap body_has_loop (drop_all at body past)) ∙ so_far
