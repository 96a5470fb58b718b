-- The kernels are checked; their nodes and depths are counted by hand from their texts.
use Rattle.std.proofs.Common.{◌≡◌, refl, ap, ◌∙◌, ℕ, ◌+◌, max, Bool, true, false, ◌&&◌, List, [], take, length, nat_le, IsTrue}
use Rattle.std.specs.List.{list_all}
use Rattle.job_base.specs.declared.limits.TheConstants.{MOST_PARAMS, MOST_LOCALS, MOST_NODES, MOST_DEPTH}
use Rattle.job_base.specs.declared.Access.{Access}
use Rattle.frame_ast.specs.declared.kernel.ParamKind.{ParamKind}
use Rattle.frame_ast.specs.declared.kernel.Param.{Param}
use Rattle.frame_ast.specs.Checked.{IsChecked, param_fits, width_fits, all_fit, statement_fits, expr_fits, all_joined, measured, expr_nodes, expr_depth, body_nodes, body_depth}
use Rattle.ast_rows.proofs.Trees.{Place}
use Rattle.ast_rows.proofs.Kernel.{Text, ro, wo, wo_by, rw_by, kernel, all_folded, same_folds, taken}
use Rattle.ast_rows.proofs.Kernels.{scale, total, bump, peek, shift, pair, both, emit, slow, quick, keys, push, triple, edge, twice, pairs, over, grow, cap, signs, logic, edit, lookup, again, missed, mark, cross, spin, loop}

abbrev params : Place → Text → List Param
params at k = (kernel at k).params.items

-- whether it fits, its nodes and its depth, by computation

abbrev fits : Place → Text → Bool
fits at k =
    all_fit (take 1000 (all_folded at (statement_fits (params at k) k.locals (expr_fits k.parallel (params at k) k.locals)) k.body)) []

abbrev nodes : Place → Text → ℕ
nodes at k = all_joined (λ m n. m + n) (take 1000 (all_folded at (measured expr_nodes (λ m n. m + n)) k.body))

abbrev depth : Place → Text → ℕ
depth at k = all_joined max (take 1000 (all_folded at (measured expr_depth max) k.body))

abbrev measures : Place → Text → Bool × ℕ × ℕ
measures at k = (fits at k, nodes at k, depth at k)

-- A kernel is checked, with so many nodes and such a depth.
pub record Passes (k : Text) (count deepest : ℕ) : Type 0 where
  pub checked : (at : Place) → IsChecked (kernel at k)
  pub nodes : (at : Place) → body_nodes (kernel at k).body.statements.items ≡ count
  pub depth : (at : Place) → body_depth (kernel at k).body.statements.items ≡ deepest

passes : {k : Text} {count deepest : ℕ} → ((at : Place) → measures at k ≡ (true, count, deepest)) → ((at : Place) → IsTrue (list_all param_fits (params at k)))
    → ((at : Place) → IsTrue (list_all (width_fits k.parallel) (params at k))) → ((at : Place) → IsTrue (nat_le (length (params at k)) MOST_PARAMS))
    → IsTrue (nat_le k.locals MOST_LOCALS) → IsTrue (nat_le count MOST_NODES) → IsTrue (nat_le deepest MOST_DEPTH) → Passes k count deepest
passes {k} {count} {deepest} same params_fit placed few_params few_locals few_nodes not_deep =
    let counted : (at : Place) → body_nodes (kernel at k).body.statements.items ≡ count =
    λ at. ap (all_joined (λ m n. m + n)) (taken at _ k.body (same_folds at (measured expr_nodes (λ m n. m + n)) k.body)) ∙ ap (λ c. c.1) (same at) in
    let measured_depth : (at : Place) → body_depth (kernel at k).body.statements.items ≡ deepest =
    λ at. ap (all_joined max) (taken at _ k.body (same_folds at (measured expr_depth max) k.body)) ∙ ap (λ c. c.2) (same at) in
    record {
      checked = λ at. record {
        fits = ap (λ fs. all_fit fs []) (taken at _ k.body (same_folds at
            (statement_fits (params at k) k.locals (expr_fits k.parallel (params at k) k.locals)) k.body)) ∙ ap (λ c. c.0) (same at);
        params = params_fit at;
        widths = placed at;
        count = few_params at;
        locals = few_locals;
        nodes = ap (λ n. nat_le n MOST_NODES) (counted at) ∙ few_nodes;
        depth = ap (λ n. nat_le n MOST_DEPTH) (measured_depth at) ∙ not_deep;
      };
      nodes = counted;
      depth = measured_depth;
    }

pub checked_scale : Passes scale 6 4
checked_scale = passes (λ at. refl) (λ at. refl) (λ at. refl) (λ at. refl) refl refl refl

pub checked_total : Passes total 12 5
checked_total = passes (λ at. refl) (λ at. refl) (λ at. refl) (λ at. refl) refl refl refl

pub checked_bump : Passes bump 6 4
checked_bump = passes (λ at. refl) (λ at. refl) (λ at. refl) (λ at. refl) refl refl refl

pub checked_peek : Passes peek 3 3
checked_peek = passes (λ at. refl) (λ at. refl) (λ at. refl) (λ at. refl) refl refl refl

pub checked_shift : Passes shift 8 4
checked_shift = passes (λ at. refl) (λ at. refl) (λ at. refl) (λ at. refl) refl refl refl

pub checked_pair : Passes pair 4 3
checked_pair = passes (λ at. refl) (λ at. refl) (λ at. refl) (λ at. refl) refl refl refl

pub checked_both : Passes both 6 4
checked_both = passes (λ at. refl) (λ at. refl) (λ at. refl) (λ at. refl) refl refl refl

pub checked_emit : Passes emit 9 4
checked_emit = passes (λ at. refl) (λ at. refl) (λ at. refl) (λ at. refl) refl refl refl

pub checked_slow : Passes slow 15 4
checked_slow = passes (λ at. refl) (λ at. refl) (λ at. refl) (λ at. refl) refl refl refl

pub checked_quick : Passes quick 3 2
checked_quick = passes (λ at. refl) (λ at. refl) (λ at. refl) (λ at. refl) refl refl refl

pub checked_keys : Passes keys 10 2
checked_keys = passes (λ at. refl) (λ at. refl) (λ at. refl) (λ at. refl) refl refl refl

pub checked_push : Passes push 2 2
checked_push = passes (λ at. refl) (λ at. refl) (λ at. refl) (λ at. refl) refl refl refl

pub checked_triple : Passes triple 9 5
checked_triple = passes (λ at. refl) (λ at. refl) (λ at. refl) (λ at. refl) refl refl refl

pub checked_edge : Passes edge 12 4
checked_edge = passes (λ at. refl) (λ at. refl) (λ at. refl) (λ at. refl) refl refl refl

pub checked_twice : Passes twice 8 3
checked_twice = passes (λ at. refl) (λ at. refl) (λ at. refl) (λ at. refl) refl refl refl

pub checked_pairs : Passes pairs 14 4
checked_pairs = passes (λ at. refl) (λ at. refl) (λ at. refl) (λ at. refl) refl refl refl

pub checked_over : Passes over 12 4
checked_over = passes (λ at. refl) (λ at. refl) (λ at. refl) (λ at. refl) refl refl refl

pub checked_grow : Passes grow 4 2
checked_grow = passes (λ at. refl) (λ at. refl) (λ at. refl) (λ at. refl) refl refl refl

pub checked_spin : Passes spin 5 2
checked_spin = passes (λ at. refl) (λ at. refl) (λ at. refl) (λ at. refl) refl refl refl

pub checked_loop : Passes loop 5 2
checked_loop = passes (λ at. refl) (λ at. refl) (λ at. refl) (λ at. refl) refl refl refl

pub checked_cap : Passes cap 17 6
checked_cap = passes (λ at. refl) (λ at. refl) (λ at. refl) (λ at. refl) refl refl refl

pub checked_signs : Passes signs 24 4
checked_signs = passes (λ at. refl) (λ at. refl) (λ at. refl) (λ at. refl) refl refl refl

pub checked_logic : Passes logic 39 4
checked_logic = passes (λ at. refl) (λ at. refl) (λ at. refl) (λ at. refl) refl refl refl

pub checked_edit : Passes edit 18 5
checked_edit = passes (λ at. refl) (λ at. refl) (λ at. refl) (λ at. refl) refl refl refl

pub checked_lookup : Passes lookup 9 5
checked_lookup = passes (λ at. refl) (λ at. refl) (λ at. refl) (λ at. refl) refl refl refl

pub checked_again : Passes again 6 2
checked_again = passes (λ at. refl) (λ at. refl) (λ at. refl) (λ at. refl) refl refl refl

pub checked_missed : Passes missed 3 3
checked_missed = passes (λ at. refl) (λ at. refl) (λ at. refl) (λ at. refl) refl refl refl

pub checked_mark : Passes mark 3 2
checked_mark = passes (λ at. refl) (λ at. refl) (λ at. refl) (λ at. refl) refl refl refl

pub checked_cross : Passes cross 2 2
checked_cross = passes (λ at. refl) (λ at. refl) (λ at. refl) (λ at. refl) refl refl refl

-- A width other than 1 stands at a `wo` or `rw` array of a parallel kernel, and nowhere else: `a: rw array by 2` in a
-- parallel kernel and in a job; `by 2` of an `ro` array and of a `wo` list; and width 1, which is what no width means,
-- at both.

width_of_an_array : (at : Place) → width_fits true (rw_by 2 "a" at) && width_fits true (wo_by 2 "a" at) ≡ true
width_of_an_array at = refl

no_width_in_a_job : (at : Place) → width_fits false (rw_by 2 "a" at) ≡ false
no_width_in_a_job at = refl

no_width_of_a_reader : (at : Place) → width_fits true (record (wo_by 2 "a" at) { access = Access.Read }) ≡ false
no_width_of_a_reader at = refl

no_width_of_a_list : (at : Place) → width_fits true (record (wo_by 2 "a" at) { kind = ParamKind.List }) ≡ false
no_width_of_a_list at = refl

no_width_is_1 : (at : Place) → width_fits false (ro ParamKind.Array "a" at) && width_fits true (wo ParamKind.List "l" at) ≡ true
no_width_is_1 at = refl
