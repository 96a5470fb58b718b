-- A statement asks a table for the column that it names, and for nothing else.
use Rattle.std.proofs.Common.{◌≡◌, refl, ap, ap₂, subst, ◌∙◌, ℕ, zero, suc, ◌+◌, List, [], ◌∷◌, take, Option, None, Some}
use Rattle.std.specs.Prelude.{if◌then◌else◌, unwrap_or, slice_get}
use Rattle.std.specs.List.{list_any}
use Rattle.frame_ast.specs.declared.script.Order.{Order}
use Rattle.frame_ast.specs.declared.script.Order.TheVariants.{Column}
use Rattle.frame_ast.specs.declared.script.Statement.{Statement}
use Rattle.frame_ast.specs.Accepted.{is_when}
use Rattle.frame_ast.specs.Checks.{refusal}
use Rattle.frame_ast.specs.Contents.{Contents, words_of}
use Rattle.frame_ast.specs.Effects.{make, effect}
use Rattle.frame_ast.specs.Lists.{first_some}
use Rattle.frame_ast.specs.Limits.{Limit, passed, job_of, words_by, limit_by_run, limit_by_text, limit_of}
use Rattle.frame_ast.specs.Orders.{Table, Setting, setting, new_column}
use Rattle.frame_ast.specs.Refusals.{Refused, store_full}
use Rattle.frame_ast.specs.Scripts.{decided, act_or_pass, act, act_all, final, output_at, status_at}
use Rattle.frame_ast.specs.States.{ScriptState, at_start}
use Rattle.table_laws.specs.Laws.{AnswerAlike, AnswerAllAlike, with_table, StatementsSeeTheirColumns, ScriptsSeeTheirColumns}

module _ (g : Setting) (u : Table) where
  abbrev h : Setting
  h = with_table g u

  same_column : (column : List ℕ) → g.table column ≡ u column → new_column g column ≡ new_column h column
  same_column column same = ap (λ xs. Contents.Cells (unwrap_or xs [])) same

  pub same_refusal : (s : ScriptState) (x : Order) → AnswerAlike g.table u x → refusal g s x ≡ refusal h s x
  same_refusal s (Column name column life) same = ap (λ c. store_full s (words_of c) name) (same_column column.items same)
  same_refusal s x same = refl

  pub same_words : (x : Order) → AnswerAlike g.table u x → words_by g x ≡ words_by h x
  same_words (Column name column life) same = ap words_of (same_column column.items same)
  same_words x same = refl

  same_effect : (line : ℕ) (s : ScriptState) (x : Order) → AnswerAlike g.table u x → effect g line s x ≡ effect h line s x
  same_effect line s (Column name column life) same = ap (λ c. make line name life c s) (same_column column.items same)
  same_effect line s x same = refl

  same_decided : (o : Option Refused) (s : ScriptState) (x : Statement) → AnswerAlike g.table u x.act → decided o g s x ≡ decided o h s x
  same_decided None s x same = same_effect x.line s x.act same
  same_decided (Some r) s x same = refl

  same_act_at : (n : ℕ) (s : ScriptState) (x : Statement) → AnswerAlike g.table u x.act → act_or_pass n g s x ≡ act_or_pass n h s x
  same_act_at zero s x same = same_decided (refusal g s x.act) s x same ∙ ap (λ o. decided o h s x) (same_refusal s x.act same)
  same_act_at (suc n) s x same = refl

  pub same_act : (s : ScriptState) (x : Statement) → AnswerAlike g.table u x.act → act g s x ≡ act h s x
  same_act s x same = same_act_at s.passing s x same

  same_all : (xs : List Statement) → AnswerAllAlike g.table u xs → (s : ScriptState) → act_all g xs s ≡ act_all h xs s
  same_all [] same s = refl
  same_all (x ∷ xs) same s = same_all xs same.1 (act g s x) ∙ ap (act_all h xs) (same_act s x same.0)

  same_limit_by_run : (xs : List Statement) → AnswerAllAlike g.table u xs → (s : ScriptState) → limit_by_run g xs s ≡ limit_by_run h xs s
  same_limit_by_run [] same s = refl
  same_limit_by_run (x ∷ xs) same s =
      ap (λ o. first_some (passed (act g s x).book.count (act g s x).created ∷ o ∷ [])) (same_limit_by_run xs same.1 (act g s x))
      ∙ ap (λ after. first_some (passed after.book.count after.created ∷ limit_by_run h xs after ∷ [])) (same_act s x same.0)

  same_limit_by_text : (xs : List Statement) → AnswerAllAlike g.table u xs → (jobs created : ℕ)
      → limit_by_text g xs jobs created ≡ limit_by_text h xs jobs created
  same_limit_by_text [] same jobs created = refl
  same_limit_by_text (x ∷ xs) same jobs created =
      let now = jobs + job_of x.act in
      ap (λ o. first_some (passed now (created + words_by g x.act) ∷ o ∷ [])) (same_limit_by_text xs same.1 now (created + words_by g x.act))
      ∙ ap (λ n. first_some (passed now (created + n) ∷ limit_by_text h xs now (created + n) ∷ [])) (same_words x.act same.0)

  same_limit : (xs : List Statement) → AnswerAllAlike g.table u xs → limit_of g xs ≡ limit_of h xs
  same_limit xs same =
      let tested = list_any (λ (x : Statement). is_when x.act) xs in
      ap₂ (λ (a b : Option Limit). if tested then a else b) (same_limit_by_text xs same 0 0) (same_limit_by_run xs same at_start)

pub statements_see_their_columns : StatementsSeeTheirColumns
statements_see_their_columns g u s x same =
    record { refused = same_refusal g u s x.act same; words = same_words g u x.act same; state = same_act g u s x same }

-- the first statements, and one of them

pub alike_take : (t u : Table) (xs : List Statement) (n : ℕ) → AnswerAllAlike t u xs → AnswerAllAlike t u (take n xs)
alike_take t u xs zero same = tt
alike_take t u [] (suc n) same = tt
alike_take t u (x ∷ xs) (suc n) same = (same.0, alike_take t u xs n same.1)

pub alike_at : (t u : Table) (xs : List Statement) (n : ℕ) (x : Statement) → AnswerAllAlike t u xs
    → slice_get xs n ≡ Some x → AnswerAlike t u x.act
alike_at t u [] n x same e = absurd (let bad : None ≡ Some x = e in cc)
alike_at t u (y ∷ xs) zero x same e =
    let is : y ≡ x = cc in
    subst (λ (z : Statement). AnswerAlike t u z.act) is same.0
alike_at t u (y ∷ xs) (suc n) x same e = alike_at t u xs n x same.1 e

pub scripts_see_their_columns : ScriptsSeeTheirColumns
scripts_see_their_columns script t u same =
    let g = setting script t in
    let xs = script.statements.items in
    let whole : final (setting script t) xs ≡ final (setting script u) xs = same_all g u xs same at_start in
    record {
      states = λ n. same_all g u (take n xs) (alike_take t u xs n same) at_start;
      last = whole;
      output = ap output_at whole;
      status = ap status_at whole;
      limit = same_limit g u xs same;
    }
