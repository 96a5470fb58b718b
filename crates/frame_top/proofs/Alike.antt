-- Scripts that are the same but for where their parts lie in memory are refused alike.
use Rattle.std.proofs.Common.{◌≡◌, refl, ap, ◌∙◌, ℕ, ◌+◌, Bool, true, false, List, [], ◌∷◌, None, Some, option_map}
use Rattle.std.specs.Prelude.{if◌then◌else◌, ◌||◌}
use Rattle.std.specs.List.{list_any}
use Rattle.frame_ast.specs.declared.kernel.Kernel.{Kernel}
use Rattle.frame_ast.specs.declared.kernel.FaultKind.TheVariants.{Limit}
use Rattle.frame_ast.specs.declared.script.Order.{Order}
use Rattle.frame_ast.specs.declared.script.Order.TheVariants.{Array, Column, List as NewList, Reference, Map, Stream, Slice, View, Copy, Set, Add, Put, Remove, Clear, SetCapacity, Schedule, Combine, Complete, CompleteAuto, Dispose, DisposeAuto, Print, Flush, Frame, When}
use Rattle.frame_ast.specs.declared.script.Statement.{Statement}
use Rattle.frame_ast.specs.declared.script.Script.{Script}
use Rattle.frame_ast.specs.Accepted.{is_when}
use Rattle.frame_ast.specs.Answers.{no_column_line, limit_line, script_refused_line}
use Rattle.frame_ast.specs.Contents.{words_of}
use Rattle.frame_ast.specs.Limits.{passed, limit_by_run, limit_by_text, limit_of, job_of, words_by}
use Rattle.frame_ast.specs.States.{ScriptState, at_start}
use Rattle.frame_ast.specs.Lists.{first_some}
use Rattle.frame_ast.specs.Orders.{Table, Setting, setting, new_column}
use Rattle.frame_ast.specs.Scripts.{act}
use Rattle.tree_laws.specs.Same.{SameKernel, SameOrder, SameStatement, SameScript, Pairwise}
use Rattle.tree_laws.proofs.Runs.{same_runs}
use Rattle.tree_laws.proofs.Scripts.{same_act_at}
use Rattle.frame_plan.specs.Missing.{lacks_column, is_none}
use Rattle.frame_top.specs.Refusals.{answer, column_name, column_refusal, first_when, depth_refusal, limit_refusal, frame_refusal}
use Rattle.frame_top.specs.declared.status.TheConstants.{TABLE_REFUSED, SCRIPT_REFUSED, PAST_LIMIT}

-- STATEMENTS THAT ARE THE SAME, in one setting

order_when : (x y : Order) → SameOrder x y → is_when x ≡ is_when y
order_when x y SameOrder.itself = refl
order_when _ _ (SameOrder.column bytes) = refl
order_when _ _ (SameOrder.schedule same) = refl
order_when _ _ (SameOrder.combine of) = refl
order_when _ _ (SameOrder.dispose after) = refl

order_jobs : (x y : Order) → SameOrder x y → job_of x ≡ job_of y
order_jobs x y SameOrder.itself = refl
order_jobs _ _ (SameOrder.column bytes) = refl
order_jobs _ _ (SameOrder.schedule same) = refl
order_jobs _ _ (SameOrder.combine of) = refl
order_jobs _ _ (SameOrder.dispose after) = refl

order_words : (g : Setting) (x y : Order) → SameOrder x y → words_by g x ≡ words_by g y
order_words g x y SameOrder.itself = refl
order_words g _ _ (SameOrder.column bytes) = λ i. words_of (new_column g (bytes i))
order_words g _ _ (SameOrder.schedule same) = refl
order_words g _ _ (SameOrder.combine of) = refl
order_words g _ _ (SameOrder.dispose after) = refl

order_lacks : (table : Table) (x y : Order) → SameOrder x y → lacks_column table x ≡ lacks_column table y
order_lacks table x y SameOrder.itself = refl
order_lacks table _ _ (SameOrder.column bytes) = λ i. is_none (table (bytes i))
order_lacks table _ _ (SameOrder.schedule same) = refl
order_lacks table _ _ (SameOrder.combine of) = refl
order_lacks table _ _ (SameOrder.dispose after) = refl

order_column : (x y : Order) → SameOrder x y → column_name x ≡ column_name y
order_column x y SameOrder.itself = refl
order_column _ _ (SameOrder.column bytes) = bytes
order_column _ _ (SameOrder.schedule same) = refl
order_column _ _ (SameOrder.combine of) = refl
order_column _ _ (SameOrder.dispose after) = refl

-- COLUMNS AND TESTS

same_columns : (table : Table) (xs ys : List Statement) → Pairwise SameStatement xs ys → column_refusal table xs ≡ column_refusal table ys
same_columns table [] [] alike = refl
same_columns table [] (y ∷ ys) alike = absurd alike
same_columns table (x ∷ xs) [] alike = absurd alike
same_columns table (x ∷ xs) (y ∷ ys) alike = λ i.
    if order_lacks table x.act y.act alike.0.act i
    then Some (answer TABLE_REFUSED (no_column_line (order_column x.act y.act alike.0.act i)))
    else same_columns table xs ys alike.1 i

same_first : (xs ys : List Statement) → Pairwise SameStatement xs ys → first_when xs ≡ first_when ys
same_first [] [] alike = refl
same_first [] (y ∷ ys) alike = absurd alike
same_first (x ∷ xs) [] alike = absurd alike
same_first (x ∷ xs) (y ∷ ys) alike =
    λ i. if order_when x.act y.act alike.0.act i then Some (alike.0.line i) else same_first xs ys alike.1 i

same_depth : (depth : Bool) (xs ys : List Statement) → Pairwise SameStatement xs ys → depth_refusal depth xs ≡ depth_refusal depth ys
same_depth true xs ys alike = ap (option_map (λ line. answer SCRIPT_REFUSED (script_refused_line line Limit))) (same_first xs ys alike)
same_depth false xs ys alike = refl

same_any : (xs ys : List Statement) → Pairwise SameStatement xs ys → list_any (λ x. is_when x.act) xs ≡ list_any (λ x. is_when x.act) ys
same_any [] [] alike = refl
same_any [] (y ∷ ys) alike = absurd alike
same_any (x ∷ xs) [] alike = absurd alike
same_any (x ∷ xs) (y ∷ ys) alike = λ i. order_when x.act y.act alike.0.act i || same_any xs ys alike.1 i

-- LIMITS

module _ (g : Setting) (ls : List Kernel) (same : Pairwise SameKernel g.kernels ls) where
  abbrev h : Setting
  h = record g { kernels = ls }

  same_by_run : (xs ys : List Statement) → Pairwise SameStatement xs ys → (s t : ScriptState) → s ≡ t → limit_by_run g xs s ≡ limit_by_run h ys t
  same_by_run [] [] alike s t e = refl
  same_by_run [] (y ∷ ys) alike s t e = absurd alike
  same_by_run (x ∷ xs) [] alike s t e = absurd alike
  same_by_run (x ∷ xs) (y ∷ ys) alike s t e =
      let after : act g s x ≡ act h t y = same_act_at g ls same s.passing s x y alike.0 ∙ ap (λ u. act h u y) e in
      λ i. first_some (passed (after i).book.count (after i).created ∷ same_by_run xs ys alike.1 (act g s x) (act h t y) after i ∷ [])

  -- what a statement would take doesn't rest on kernels
  words_alike : (x : Order) → words_by g x ≡ words_by h x
  words_alike (Array name len life None) = refl
  words_alike (Array name len life (Some n)) = refl
  words_alike (Column name column life) = refl
  words_alike (NewList name cap life) = refl
  words_alike (Reference name life value) = refl
  words_alike (Map name cap life) = refl
  words_alike (Stream name count room life) = refl
  words_alike (Slice name of start len) = refl
  words_alike (View name of) = refl
  words_alike (Copy name of) = refl
  words_alike (Set name at value) = refl
  words_alike (Add name first second) = refl
  words_alike (Put name key value) = refl
  words_alike (Remove name at) = refl
  words_alike (Clear name) = refl
  words_alike (SetCapacity name cap) = refl
  words_alike (Schedule job) = refl
  words_alike (Combine name of) = refl
  words_alike (Complete name) = refl
  words_alike (CompleteAuto name) = refl
  words_alike (Dispose name after handle) = refl
  words_alike (DisposeAuto name handle) = refl
  words_alike (Print name) = refl
  words_alike Flush = refl
  words_alike Frame = refl
  words_alike (When name sign value count) = refl

  same_by_text : (xs ys : List Statement) → Pairwise SameStatement xs ys → (a b c d : ℕ) → a ≡ b → c ≡ d → limit_by_text g xs a c ≡ limit_by_text h ys b d
  same_by_text [] [] alike a b c d e f = refl
  same_by_text [] (y ∷ ys) alike a b c d e f = absurd alike
  same_by_text (x ∷ xs) [] alike a b c d e f = absurd alike
  same_by_text (x ∷ xs) (y ∷ ys) alike a b c d e f =
      let jobs : a + job_of x.act ≡ b + job_of y.act = λ i. e i + order_jobs x.act y.act alike.0.act i in
      let words : c + words_by g x.act ≡ d + words_by h y.act = λ i. f i + (words_alike x.act ∙ order_words h x.act y.act alike.0.act) i in
      λ i. first_some (passed (jobs i) (words i) ∷ same_by_text xs ys alike.1 _ _ _ _ jobs words i ∷ [])

  same_limit : (xs ys : List Statement) → Pairwise SameStatement xs ys → limit_of g xs ≡ limit_of h ys
  same_limit xs ys alike = λ i.
      if same_any xs ys alike i
      then same_by_text xs ys alike 0 0 0 0 refl refl i
      else same_by_run xs ys alike at_start at_start refl i

same_setting : (s t : Script) (table : Table) → SameScript s t → record (setting s table) { kernels = t.kernels.items } ≡ setting t table
same_setting s t table same = λ i. record {
  names = same.names i;
  literals = same.literals i;
  kernels = t.kernels.items;
  table = table;
  runs = same_runs s.kernels.items t.kernels.items same.kernels i;
}

same_limits : (s t : Script) (table : Table) → SameScript s t → limit_refusal s table ≡ limit_refusal t table
same_limits s t table same =
    let one = same_limit (setting s table) t.kernels.items same.kernels s.statements.items t.statements.items same.statements in
    ap (option_map (λ limit. answer PAST_LIMIT (limit_line limit))) (one ∙ ap (λ g. limit_of g t.statements.items) (same_setting s t table same))

pub same_frame_refusal : (s t : Script) (table : Table) (depth : Bool) → SameScript s t → frame_refusal s table depth ≡ frame_refusal t table depth
same_frame_refusal s t table depth same = λ i. first_some (
    same_columns table s.statements.items t.statements.items same.statements i
    ∷ same_depth depth s.statements.items t.statements.items same.statements i
    ∷ same_limits s t table same i
    ∷ []
    )
