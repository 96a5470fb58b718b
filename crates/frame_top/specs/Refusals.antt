-- For what a frame is refused before it is run, in the order in which the work is done.
--
-- First the script's bytes are asked for, then the table's, then the columns that the script names. With `--depth` a
-- script with a `when` is refused next. The limits on jobs and words come last. The first that refuses decides the
-- status and its text.
use Rattle.std.specs.Prelude.{◌≡◌, ◌≢◌, ℕ, ◌<◌, ◌≤◌, nat_lt, Bool, true, false, if◌then◌else◌, List, [], ◌∷◌, length, Option, None, Some, option_map}
use Rattle.job_base.specs.declared.limits.TheConstants.{MOST_SCRIPT_BYTES, MOST_TABLE_BYTES}
use Rattle.frame_ast.specs.declared.kernel.FaultKind.{FaultKind}
use Rattle.frame_ast.specs.declared.kernel.FaultKind.TheVariants.{Limit, TooLong}
use Rattle.frame_ast.specs.declared.script.Order.{Order}
use Rattle.frame_ast.specs.declared.script.Order.TheVariants.{Column}
use Rattle.frame_ast.specs.declared.script.Script.{Script}
use Rattle.frame_ast.specs.declared.script.Statement.{Statement}
use Rattle.frame_ast.specs.Accepted.{is_when}
use Rattle.frame_ast.specs.Answers.{script_refused_line, script_size_line, statements_line, table_size_line, table_empty_line, unequal_row_line, not_number_line, no_column_line, limit_line}
use Rattle.frame_ast.specs.Limits.{limit_of}
use Rattle.frame_ast.specs.Lists.{first_some}
use Rattle.frame_ast.specs.Orders.{Table, setting}
use Rattle.frame_script.specs.Loading.{IsRefused}
use Rattle.table_in.specs.declared.TableFault.{TableFault}
use Rattle.table_in.specs.declared.TableFault.TheVariants.{Empty, Unequal, NotNumber, NoMemory}
use Rattle.table_in.specs.Columns.{NamedColumn, columns_in}
use Rattle.table_in.specs.Rows.{rows_in, table_fault}
use Rattle.frame_plan.specs.Missing.{lacks_column}
use Rattle.plan_statements.specs.Tables.{columns_of}
use Rattle.command_words.specs.Words.{Text}
use Rattle.frame_top.specs.declared.status.TheConstants.{SCRIPT_REFUSED, TABLE_REFUSED, PAST_LIMIT}

-- a status and its text
pub record Answer : Type 0 where
  pub status : ℕ
  pub text : Text

abbrev pub answer : ℕ → Text → Answer
answer status text = record { status = status; text = text }

-- THE SCRIPT'S BYTES: too many for a file, or refused at a line, or for too many statements.
pub data Refuses (source : Text) (a : Answer) : Type 0 where
  Size : MOST_SCRIPT_BYTES < length source → a ≡ answer PAST_LIMIT script_size_line → Refuses source a
  Fault : (line : ℕ) (kind : FaultKind) → length source ≤ MOST_SCRIPT_BYTES → IsRefused source line kind
      → kind ≢ TooLong → a ≡ answer SCRIPT_REFUSED (script_refused_line line kind) → Refuses source a
  Statements : (line : ℕ) → length source ≤ MOST_SCRIPT_BYTES → IsRefused source line TooLong
      → a ≡ answer PAST_LIMIT statements_line → Refuses source a

-- THE TABLE'S BYTES

-- `NoMemory` isn't a fault of bytes; it stands here to make the function total.
abbrev pub table_text : TableFault → Text
table_text Empty = table_empty_line
table_text (Unequal row) = unequal_row_line row
table_text (NotNumber row) = not_number_line row
table_text NoMemory = []

abbrev pub refused_table : TableFault → Answer
refused_table fault = answer TABLE_REFUSED (table_text fault)

-- a table that isn't given isn't refused
abbrev pub table_refusal : Option Text → Option Answer
table_refusal None = None
table_refusal (Some bytes) = if nat_lt MOST_TABLE_BYTES (length bytes)
    then Some (answer PAST_LIMIT table_size_line)
    else option_map refused_table (table_fault (rows_in bytes))

abbrev pub named_columns : Option Text → List NamedColumn
named_columns None = []
named_columns (Some bytes) = columns_in (rows_in bytes)

-- the table of these bytes, as a script's meaning asks for its columns
abbrev pub table_of : Option Text → Table
table_of bytes = columns_of (named_columns bytes)

-- SCRIPT AND TABLE TOGETHER

-- the name of the column that a statement asks for
abbrev pub column_name : Order → Text
column_name (Column name column life) = column.items
column_name _ = []

-- the first statement whose column the table lacks
abbrev pub column_refusal : Table → List Statement → Option Answer
column_refusal table [] = None
column_refusal table (x ∷ more) = if lacks_column table x.act
    then Some (answer TABLE_REFUSED (no_column_line (column_name x.act)))
    else column_refusal table more

-- the line of the first `when`
abbrev pub first_when : List Statement → Option ℕ
first_when [] = None
first_when (x ∷ more) = if is_when x.act then Some x.line else first_when more

-- A script with a `when` has no one plan whose depth could be reported.
abbrev pub depth_refusal : Bool → List Statement → Option Answer
depth_refusal true xs = option_map (λ line. answer SCRIPT_REFUSED (script_refused_line line Limit)) (first_when xs)
depth_refusal false xs = None

abbrev pub limit_refusal : Script → Table → Option Answer
limit_refusal script table =
    option_map (λ limit. answer PAST_LIMIT (limit_line limit)) (limit_of (setting script table) script.statements.items)

-- the first of them; `depth` says whether the depth report is asked for
abbrev pub frame_refusal : Script → Table → Bool → Option Answer
frame_refusal script table depth = first_some (
    column_refusal table script.statements.items
    ∷ depth_refusal depth script.statements.items
    ∷ limit_refusal script table
    ∷ []
    )
