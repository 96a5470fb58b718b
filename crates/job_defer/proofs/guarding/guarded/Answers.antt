use Rattle.std.proofs.Common.{◌≡◌, [], ◌∷◌, ◌++◌, List, length, refl, ap, subst, ◌∙◌, arith}
use Rattle.frame_ast.specs.declared.kernel.Param.{Param}
use Rattle.frame_ast.specs.declared.kernel.Stmt.{Stmt, If as Stmt-If}
use Rattle.frame_ast.specs.declared.kernel.Stmt.TheViews.{outs-If}
use Rattle.tree_laws.specs.Same.{SameBody, SameParam, Pairwise}
use Rattle.job_defer.specs.Guarded.{IsBelow}
use Rattle.job_defer.proofs.guarding.guarded.Goals as goal

pub returns : goal.returns
returns c =
    let k = c.args.kernel.now in
    record {
      name = c.in_ok-from_str.ensures.ok ∙ c.as_str.ensures.value;
      parallel = refl;
      locals = refl;
      same = c.in_ok-params.params.items;
      last = c.in_ok-length_param.field-0;
      params = c.in_ok-push.ensures.items;
      are_same = subst (λ (xs : List Param). Pairwise SameParam xs c.in_ok-params.params.items)
          c.deref.ensures.value c.in_ok-params.ensures;
      is_length = c.in_ok-length_param.ensures;
      body = record {
        statement = Stmt-If c.in_ok-test.test c.in_ok-body.body c.new.result;
        only = ◌∙◌ {A = List Stmt} c.in_ok-push-2.ensures.items
            (ap (λ (xs : List Stmt). xs ++ Stmt-If c.in_ok-test.test c.in_ok-body.body c.new.result ∷ [])
            c.new-statements.ensures.items);
        test = c.in_ok-test.test;
        body = c.in_ok-body.body;
        other = c.new.result;
        is = outs-If _ _ _;
        below = let l = c.len.ensures in let size = c.args.kernel.now.params.ok.0 in
            subst (λ n. IsBelow n c.in_ok-test.test)
            (let e : c.len.result ≡ length k.params.items = omega arith in e) c.in_ok-test.ensures;
        same = subst (λ (xs : List Stmt). SameBody xs c.in_ok-body.body.items)
            c.deref-2.ensures.value c.in_ok-body.ensures;
        nothing_else = c.new.ensures.items;
      };
    }
