-- Laws of two tables that answer alike for a script, as statements.
use Rattle.std.specs.Prelude.{◌≡◌, ℕ, List, [], ◌∷◌, take}
use Rattle.frame_ast.specs.declared.script.Order.{Order}
use Rattle.frame_ast.specs.declared.script.Order.TheVariants.{Column}
use Rattle.frame_ast.specs.declared.script.Statement.{Statement}
use Rattle.frame_ast.specs.declared.script.Script.{Script}
use Rattle.frame_ast.specs.Checks.{refusal}
use Rattle.frame_ast.specs.Limits.{limit_of, words_by}
use Rattle.frame_ast.specs.Orders.{Table, Setting, setting}
use Rattle.frame_ast.specs.Scripts.{act, final, output_of, status_of}
use Rattle.frame_ast.specs.States.{ScriptState}

-- both tables answer the same for the column that a statement names; any two do where it names none
abbrev pub AnswerAlike : Table → Table → Order → Type 0
AnswerAlike t u (Column name column life) = t column.items ≡ u column.items
AnswerAlike t u _ = Unit {0}

-- and so for each statement
abbrev pub AnswerAllAlike : Table → Table → List Statement → Type 0
AnswerAllAlike t u [] = Unit {0}
AnswerAllAlike t u (x ∷ more) = AnswerAlike t u x.act × AnswerAllAlike t u more

-- the same setting with another table
abbrev pub with_table : Setting → Table → Setting
with_table g u = record g { table = u }

-- In both settings the statement is refused alike, takes as many words, and leaves the same state.
pub record ActsAlike (g h : Setting) (s : ScriptState) (x : Statement) : Type 0 where
  pub refused : refusal g s x.act ≡ refusal h s x.act
  pub words : words_by g x.act ≡ words_by h x.act
  pub state : act g s x ≡ act h s x

abbrev pub StatementsSeeTheirColumns : Type 0
StatementsSeeTheirColumns = (g : Setting) (u : Table) (s : ScriptState) (x : Statement)
    → AnswerAlike g.table u x.act
    → ActsAlike g (with_table g u) s x

-- With both tables the script has the same state after each statement and at its end, prints the same, ends with the
-- same status, and passes the same limit.
pub record MeansAlike (script : Script) (t u : Table) : Type 0 where
  pub states : (n : ℕ) → final (setting script t) (take n script.statements.items)
      ≡ final (setting script u) (take n script.statements.items)
  pub last : final (setting script t) script.statements.items ≡ final (setting script u) script.statements.items
  pub output : output_of script t ≡ output_of script u
  pub status : status_of script t ≡ status_of script u
  pub limit : limit_of (setting script t) script.statements.items ≡ limit_of (setting script u) script.statements.items

abbrev pub ScriptsSeeTheirColumns : Type 0
ScriptsSeeTheirColumns = (script : Script) (t u : Table)
    → AnswerAllAlike t u script.statements.items
    → MeansAlike script t u
