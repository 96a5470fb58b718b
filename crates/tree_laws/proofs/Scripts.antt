-- Scripts that are the same run alike.
use Rattle.std.proofs.Common.{◌≡◌, refl, ap, sym, ◌∙◌, ℕ, zero, suc, ◌+◌, true, List, [], ◌∷◌, ◌++◌, Option, None, Some}
use Rattle.job_base.specs.declared.Refusal.{Refusal}
use Rattle.frame_ast.specs.declared.kernel.Kernel.{Kernel}
use Rattle.frame_ast.specs.declared.script.Order.{Order}
use Rattle.frame_ast.specs.declared.script.Statement.{Statement}
use Rattle.frame_ast.specs.declared.script.Script.{Script}
use Rattle.frame_ast.specs.Contents.{words_of}
use Rattle.frame_ast.specs.States.{Value, ScriptState, at_start, with_name}
use Rattle.frame_ast.specs.Schedules.{need_of, givens}
use Rattle.frame_ast.specs.Jobs.{nobody}
use Rattle.frame_ast.specs.Lists.{first_some}
use Rattle.frame_ast.specs.Refusals.{Refused, disposed, pending, jobs_named, store_full, schedule_refusal}
use Rattle.frame_ast.specs.Orders.{Table, no_table, Setting, setting, name_text, params_of, is_parallel, new_column}
use Rattle.frame_ast.specs.Texts.{refused_line}
use Rattle.frame_ast.specs.Checks.{refusal}
use Rattle.frame_ast.specs.Effects.{lost, make, accept, dispose, effect}
use Rattle.frame_ast.specs.Scripts.{decided, act_or_pass, act, act_all, final, output_at, status_at}
use Rattle.tree_laws.specs.Same.{SameKernel, SameOrder, SameStatement, SameScript, Pairwise}
use Rattle.tree_laws.specs.Laws.{SameScriptsRunAlike, SameScriptsHaveNoTrap}
use Rattle.tree_laws.proofs.Runs.{same_runs}
use Rattle.tree_laws.proofs.Settings.{same_refusal, same_effect}

-- statements that are the same, in one setting

order_refusal : (g : Setting) (s : ScriptState) (x y : Order) → SameOrder x y → refusal g s x ≡ refusal g s y
order_refusal g s x y SameOrder.itself = refl
order_refusal g s _ _ (SameOrder.column {name = name} bytes) = λ i. store_full s (words_of (new_column g (bytes i))) name
order_refusal g s _ _ (SameOrder.schedule same) =
    λ i. schedule_refusal s (is_parallel g (same.kernel i)) (same.auto i) (givens s (params_of g (same.kernel i)) (same.args i) (same.defer i)) (same.after i)
order_refusal g s _ _ (SameOrder.combine of) = refl
order_refusal g s _ _ (SameOrder.dispose {name = name} after) =
    λ i. first_some (disposed s (name ∷ []) ∷ pending s (jobs_named s (after i)) (need_of s name true ∷ []) ∷ [])

order_loss : (r : Refusal) (s : ScriptState) (x y : Order) → SameOrder x y → lost r x s ≡ lost r y s
order_loss r s x y SameOrder.itself = refl
order_loss r s _ _ (SameOrder.column bytes) = refl
order_loss r s _ _ (SameOrder.schedule same) = λ i. with_name (same.handle i) (Value.Handle nobody) s
order_loss r s _ _ (SameOrder.combine of) = refl
order_loss r s _ _ (SameOrder.dispose {handle = None} after) = refl
order_loss r s _ _ (SameOrder.dispose {handle = Some handle} after) = refl

order_effect : (g : Setting) (line : ℕ) (s : ScriptState) (x y : Order) → SameOrder x y → effect g line s x ≡ effect g line s y
order_effect g line s x y SameOrder.itself = refl
order_effect g line s _ _ (SameOrder.column {name = name} {life = life} bytes) = λ i. make line name life (new_column g (bytes i)) s
order_effect g line s _ _ (SameOrder.schedule same) =
    λ i. accept g s (same.auto i) (same.handle i) (same.kernel i) (same.args i) (same.cut i) (same.defer i) (same.waive i) (same.after i)
order_effect g line s _ _ (SameOrder.combine {name = name} of) = λ i. with_name name (Value.Handle (jobs_named s (of i))) s
order_effect g line s _ _ (SameOrder.dispose {handle = None} after) = refl
order_effect g line s _ _ (SameOrder.dispose {name = name} {handle = Some handle} after) =
    λ i. with_name handle (Value.Handle (jobs_named s (after i))) (dispose name s)

module _ (g : Setting) (ls : List Kernel) (same : Pairwise SameKernel g.kernels ls) where
  abbrev h : Setting
  h = record g { kernels = ls }

  same_decided : (o : Option Refused) (s : ScriptState) (x y : Statement) → SameStatement x y → decided o g s x ≡ decided o h s y
  same_decided None s x y alike =
      same_effect g ls same x.line s x.act ∙ order_effect h x.line s x.act y.act alike.act ∙ ap (λ line. effect h line s y.act) alike.line
  same_decided (Some r) s x y alike =
      let told : ℕ → ScriptState → ScriptState = λ line after. record after {
        refused = s.refused + 1;
        lines = s.lines ++ refused_line line r.cause (name_text g r.name);
      } in
      ap (told x.line) (order_loss r.cause s x.act y.act alike.act) ∙ ap (λ line. told line (lost r.cause y.act s)) alike.line

  pub same_act_at : (n : ℕ) (s : ScriptState) (x y : Statement) → SameStatement x y → act_or_pass n g s x ≡ act_or_pass n h s y
  same_act_at zero s x y alike =
      same_decided (refusal g s x.act) s x y alike
      ∙ ap (λ o. decided o h s y) (same_refusal g ls same s x.act ∙ order_refusal h s x.act y.act alike.act)
  same_act_at (suc n) s x y alike = refl

  same_all : (xs ys : List Statement) → Pairwise SameStatement xs ys → (s : ScriptState) → act_all g xs s ≡ act_all h ys s
  same_all [] [] alike s = refl
  same_all [] (y ∷ ys) alike s = absurd alike
  same_all (x ∷ xs) [] alike s = absurd alike
  same_all (x ∷ xs) (y ∷ ys) alike s =
      same_all xs ys alike.1 (act g s x) ∙ ap (λ t. act_all h ys t) (same_act_at s.passing s x y alike.0)

same_setting : (s t : Script) (table : Table) → SameScript s t → record (setting s table) { kernels = t.kernels.items } ≡ setting t table
same_setting s t table same = λ i. record {
  names = same.names i;
  literals = same.literals i;
  kernels = t.kernels.items;
  table = table;
  runs = same_runs s.kernels.items t.kernels.items same.kernels i;
}

same_final : (s t : Script) (table : Table) → SameScript s t → final (setting s table) s.statements.items ≡ final (setting t table) t.statements.items
same_final s t table same =
    same_all (setting s table) t.kernels.items same.kernels s.statements.items t.statements.items same.statements at_start
    ∙ ap (λ g. act_all g t.statements.items at_start) (same_setting s t table same)

pub same_scripts_run_alike : SameScriptsRunAlike
same_scripts_run_alike s t same table =
    let e = same_final s t table same in
    record { output = ap output_at e; status = ap status_at e; traps = ap (λ z. z.traps) e }

pub same_scripts_have_no_trap : SameScriptsHaveNoTrap
same_scripts_have_no_trap s t same none = sym (same_scripts_run_alike s t same no_table).traps ∙ none
