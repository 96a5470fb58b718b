-- What each status says by itself.
use Rattle.std.proofs.Common.{◌≡◌, ◌≢◌, ◌⊎◌, inl, inr, ⊎_elim, refl, sym, ap, ◌∙◌, subst, ℕ, zero, suc, ◌≤◌, Bool, true, false, List, [], ◌∷◌, length, take, Option, None, Some, arith}
use Rattle.std.specs.Prelude.{if◌then◌else◌, nat_lt, option_map}
use Rattle.std.specs.Io.KnownBytes.{Appends}
use Rattle.job_base.specs.declared.limits.TheConstants.{MOST_TABLE_BYTES}
use Rattle.job_base.specs.Faults.{Rose}
use Rattle.frame_ast.specs.declared.kernel.FaultKind.TheVariants.{Limit}
use Rattle.frame_ast.specs.declared.script.Script.{Script}
use Rattle.frame_ast.specs.declared.script.Statement.{Statement}
use Rattle.frame_ast.specs.Answers.{script_refused_line, limit_line, no_column_line, table_size_line}
use Rattle.frame_ast.specs.Limits.{Limit as PlanLimit, limit_of}
use Rattle.frame_ast.specs.Lists.{first_some}
use Rattle.frame_ast.specs.Orders.{Table, setting}
use Rattle.frame_ast.specs.Scripts.{final, status_by, status_of, output_of}
use Rattle.frame_ast.specs.States.{JobTrap}
use Rattle.frame_plan.specs.Missing.{lacks_column}
use Rattle.table_in.specs.declared.TableFault.{TableFault}
use Rattle.table_in.specs.Rows.{rows_in, table_fault}
use Rattle.command_words.specs.Words.{Text, is_of_command}
use Rattle.frame_top.specs.Words.{asks_depth}
use Rattle.frame_top.specs.Inputs.{Told, IsUnreadOf, OfScript, OfTable}
use Rattle.frame_top.specs.Refusals.{Answer, answer, Refuses, Size, Fault, Statements, table_refusal, refused_table, column_name, column_refusal, depth_refusal, limit_refusal, frame_refusal, first_when}
use Rattle.frame_top.specs.Answers.{Cause, Usage, NoScript, BadScript, NoTable, BadTable, OfFrame, Refused, Ran, Reported, Whole, Part, Answers, Caused, Early, Midway, Hindered, NotRead, NotTaken, NotFound}
use Rattle.frame_top.specs.declared.status.TheConstants.{USAGE, SCRIPT_REFUSED, TABLE_REFUSED, UNREAD, UNWRITTEN, NO_MEMORY, PAST_LIMIT}

-- THE STATUSES

-- of an answer that refuses
abbrev IsRefusing : ℕ → Type 0
IsRefusing n = (n ≡ SCRIPT_REFUSED) ⊎ ((n ≡ TABLE_REFUSED) ⊎ (n ≡ PAST_LIMIT))

-- of a run
abbrev IsRunning : ℕ → Type 0
IsRunning n = (n ≡ 0) ⊎ ((n ≡ 1) ⊎ (n ≡ 5))

status_is : (a : Answer) (status : ℕ) (text : Text) → a ≡ answer status text → a.status ≡ status
status_is a status text e = ap (λ (x : Answer). x.status) e

source_status : (source : Text) (a : Answer) → Refuses source a → IsRefusing a.status
source_status source a (Size p is) = inr (inr (status_is a _ _ is))
source_status source a (Fault line kind within r other is) = inl (status_is a _ _ is)
source_status source a (Statements line within r is) = inr (inr (status_is a _ _ is))

fault_status : (o : Option TableFault) (a : Answer) → option_map refused_table o ≡ Some a → IsRefusing a.status
fault_status None a e = absurd cc
fault_status (Some f) a e = let same : refused_table f ≡ a = cc in inr (inl (sym (ap (λ (x : Answer). x.status) same)))

size_status : (b : Bool) (o : Option TableFault) (a : Answer) → (if b then Some (answer PAST_LIMIT table_size_line) else option_map refused_table o) ≡ Some a
    → IsRefusing a.status
size_status true o a e = let same : answer PAST_LIMIT table_size_line ≡ a = cc in inr (inr (sym (ap (λ (x : Answer). x.status) same)))
size_status false o a e = fault_status o a e

table_status : (table : Option Text) (a : Answer) → table_refusal table ≡ Some a → IsRefusing a.status
table_status None a e = absurd cc
table_status (Some bytes) a e = size_status (nat_lt MOST_TABLE_BYTES (length bytes)) (table_fault (rows_in bytes)) a e

column_status : (table : Table) (xs : List Statement) (a : Answer) → column_refusal table xs ≡ Some a → IsRefusing a.status
column_status table [] a e = absurd cc
column_status table (x ∷ xs) a e = by (lacks_column table x.act) e (column_status table xs a)
  where
    by : (b : Bool) → (if b then Some (answer TABLE_REFUSED (no_column_line (column_name x.act))) else column_refusal table xs) ≡ Some a
        → (column_refusal table xs ≡ Some a → IsRefusing a.status) → IsRefusing a.status
    by true e rest = let same : answer TABLE_REFUSED (no_column_line (column_name x.act)) ≡ a = cc in inr (inl (sym (ap (λ (y : Answer). y.status) same)))
    by false e rest = rest e

line_status : (o : Option ℕ) (a : Answer) → option_map (λ line. answer SCRIPT_REFUSED (script_refused_line line Limit)) o ≡ Some a → IsRefusing a.status
line_status None a e = absurd cc
line_status (Some line) a e = let same : answer SCRIPT_REFUSED (script_refused_line line Limit) ≡ a = cc in inl (sym (ap (λ (y : Answer). y.status) same))

depth_status : (depth : Bool) (xs : List Statement) (a : Answer) → depth_refusal depth xs ≡ Some a → IsRefusing a.status
depth_status true xs a e = line_status (first_when xs) a e
depth_status false xs a e = absurd cc

limit_status : (o : Option PlanLimit) (a : Answer) → option_map (λ limit. answer PAST_LIMIT (limit_line limit)) o ≡ Some a → IsRefusing a.status
limit_status None a e = absurd cc
limit_status (Some limit) a e = let same : answer PAST_LIMIT (limit_line limit) ≡ a = cc in inr (inr (sym (ap (λ (y : Answer). y.status) same)))

first_status : (a b c : Option Answer) (x : Answer) → (a ≡ Some x → IsRefusing x.status) → (b ≡ Some x → IsRefusing x.status)
    → (c ≡ Some x → IsRefusing x.status) → first_some (a ∷ b ∷ c ∷ []) ≡ Some x → IsRefusing x.status
unfolding first_some
first_status (Some y) b c x f g h e = f e
first_status None (Some y) c x f g h e = g e
first_status None None (Some y) x f g h e = h e
first_status None None None x f g h e = absurd cc

frame_status : (script : Script) (table : Table) (depth : Bool) (a : Answer) → frame_refusal script table depth ≡ Some a → IsRefusing a.status
frame_status script table depth a e =
    first_status (column_refusal table script.statements.items) (depth_refusal depth script.statements.items) (limit_refusal script table) a
    (column_status table script.statements.items a) (depth_status depth script.statements.items a)
    (limit_status (limit_of (setting script table) script.statements.items) a) e

run_by : (ts : List JobTrap) (refused : ℕ) → IsRunning (status_by ts refused)
run_by [] zero = inl refl
run_by [] (suc n) = inr (inl refl)
run_by (t ∷ ts) zero = inr (inr refl)
run_by (t ∷ ts) (suc n) = inr (inr refl)

run_status : (script : Script) (table : Table) (a : Answer) → a ≡ answer (status_of script table) (output_of script table) → IsRunning a.status
run_status script table a is = subst IsRunning (sym (status_is a _ _ is))
    (run_by (final (setting script table) script.statements.items).traps (final (setting script table) script.statements.items).refused)

pub data IsStatusOf (words : List Text) (risen : Type 0) (failed : Option Text) (n : ℕ) : Type 0 where
  usage : is_of_command words ≡ false → n ≡ USAGE → IsStatusOf words risen failed n
  unread : IsUnreadOf words risen failed → n ≡ UNREAD → IsStatusOf words risen failed n
  refusing : IsRefusing n → IsStatusOf words risen failed n
  running : IsRunning n → IsStatusOf words risen failed n

pub status_of_cause : (words : List Text) (told : Told) (risen : Type 0) (failed : Option Text) (a : Answer) → Cause words told risen failed a
    → IsStatusOf words risen failed a.status
status_of_cause words told risen failed a (Usage p is) = usage p (status_is a _ _ is)
status_of_cause words told risen failed a (NoScript p u is) = unread (OfScript p u) (status_is a _ _ is)
status_of_cause words told risen failed a (BadScript source read r) = refusing (source_status source a r)
status_of_cause words told risen failed a (NoTable script read u is) = unread (OfTable read.read.of_command u) (status_is a _ _ is)
status_of_cause words told risen failed a (BadTable script table read r) = refusing (table_status table a r)
status_of_cause words told risen failed a (OfFrame script table read none (Refused r)) = refusing (frame_status script _ (asks_depth words) a r)
status_of_cause words told risen failed a (OfFrame script table read none (Ran r d is)) = running (run_status script _ a is)
status_of_cause words told risen failed a (OfFrame script table read none (Reported r d text report is)) = running (inl (status_is a _ _ is))

-- it is that of a row, and none of those that keep an answer from being given
module _ (words : List Text) (risen : Type 0) (failed : Option Text) (n : ℕ) where
  pub at_most : IsStatusOf words risen failed n → n ≤ PAST_LIMIT
  at_most (usage p is) = omega (arith, is)
  at_most (unread u is) = omega (arith, is)
  at_most (refusing r) = ⊎_elim (λ e. omega (arith, e)) (λ q. ⊎_elim (λ e. omega (arith, e)) (λ e. omega (arith, e)) q) r
  at_most (running r) = ⊎_elim (λ e. omega (arith, e)) (λ q. ⊎_elim (λ e. omega (arith, e)) (λ e. omega (arith, e)) q) r

  pub not_unwritten : IsStatusOf words risen failed n → n ≢ UNWRITTEN
  not_unwritten (usage p is) e = absurd (omega (arith, is, e))
  not_unwritten (unread u is) e = absurd (omega (arith, is, e))
  not_unwritten (refusing r) e = ⊎_elim (λ f. absurd (omega (arith, e, f)))
      (λ q. ⊎_elim (λ f. absurd (omega (arith, e, f))) (λ f. absurd (omega (arith, e, f))) q) r
  not_unwritten (running r) e = ⊎_elim (λ f. absurd (omega (arith, e, f)))
      (λ q. ⊎_elim (λ f. absurd (omega (arith, e, f))) (λ f. absurd (omega (arith, e, f))) q) r

  pub not_none : IsStatusOf words risen failed n → n ≢ NO_MEMORY
  not_none (usage p is) e = absurd (omega (arith, is, e))
  not_none (unread u is) e = absurd (omega (arith, is, e))
  not_none (refusing r) e = ⊎_elim (λ f. absurd (omega (arith, e, f))) (λ q. ⊎_elim (λ f. absurd (omega (arith, e, f))) (λ f. absurd (omega (arith, e, f))) q) r
  not_none (running r) e = ⊎_elim (λ f. absurd (omega (arith, e, f))) (λ q. ⊎_elim (λ f. absurd (omega (arith, e, f))) (λ f. absurd (omega (arith, e, f))) q) r

  pub usage_only : IsStatusOf words risen failed n → n ≡ USAGE → is_of_command words ≡ false
  usage_only (usage p is) e = p
  usage_only (unread u is) e = absurd (omega (arith, is, e))
  usage_only (refusing r) e = absurd (⊎_elim (λ f. omega (arith, e, f)) (λ q. ⊎_elim (λ f. omega (arith, e, f)) (λ f. omega (arith, e, f)) q) r)
  usage_only (running r) e = absurd (⊎_elim (λ f. omega (arith, e, f)) (λ q. ⊎_elim (λ f. omega (arith, e, f)) (λ f. omega (arith, e, f)) q) r)

  pub unread_only : IsStatusOf words risen failed n → n ≡ UNREAD → IsUnreadOf words risen failed
  unread_only (usage p is) e = absurd (omega (arith, is, e))
  unread_only (unread u is) e = u
  unread_only (refusing r) e = absurd (⊎_elim (λ f. omega (arith, e, f)) (λ q. ⊎_elim (λ f. omega (arith, e, f)) (λ f. omega (arith, e, f)) q) r)
  unread_only (running r) e = absurd (⊎_elim (λ f. omega (arith, e, f)) (λ q. ⊎_elim (λ f. omega (arith, e, f)) (λ f. omega (arith, e, f)) q) r)

-- ANSWERS, by their result

module _ (words : List Text) (told : Told) (risen : Type 0) (failed : Option Text) (cut : Text → Type 0) (old new : Option Text) (before now result : ℕ) where
  abbrev All : Type 0
  All = Answers (Cause words told risen failed) cut old new before now result

  pub status_fits : All → result ≤ PAST_LIMIT
  status_fits (Caused a why (Whole is app same)) = subst (λ n. n ≤ PAST_LIMIT) (sym is)
      (at_most words risen failed a.status (status_of_cause words told risen failed a why))
  status_fits (Caused a why (Part is n app rose)) = omega (arith, is)
  status_fits (Early is app same) = omega (arith, is)
  status_fits (Midway is text why n app same) = omega (arith, is)

  pub caused_by : All → result ≢ UNWRITTEN → result ≢ NO_MEMORY → (text : Text) × Cause words told risen failed (answer result text) × Appends old new text
  caused_by (Caused a why (Whole is app same)) p q = (a.text, subst (λ n. Cause words told risen failed (answer n a.text)) (sym is) why, app)
  caused_by (Caused a why (Part is n app rose)) p q = absurd (p is)
  caused_by (Early is app same) p q = absurd (q is)
  caused_by (Midway is text why n app same) p q = absurd (q is)

  row : (h : All) → result ≢ UNWRITTEN → result ≢ NO_MEMORY → IsStatusOf words risen failed result
  row h p q = let c = caused_by h p q in status_of_cause words told risen failed (answer result c.0) c.1

  pub usage_row : All → result ≡ USAGE → is_of_command words ≡ false
  usage_row h e = usage_only words risen failed result (row h (λ f. omega (arith, e, f)) (λ f. omega (arith, e, f))) e

  pub unread_row : All → result ≡ UNREAD → IsUnreadOf words risen failed
  unread_row h e = unread_only words risen failed result (row h (λ f. omega (arith, e, f)) (λ f. omega (arith, e, f))) e

  pub unwritten_row : All → result ≡ UNWRITTEN → Rose before now × ((a : Answer) × Cause words told risen failed a
      × ((n : ℕ) × Appends old new (take n a.text)))
  unwritten_row (Caused a why (Whole is app same)) e = absurd (not_unwritten words risen failed a.status (status_of_cause words told risen failed a why)
      (sym is ∙ e))
  unwritten_row (Caused a why (Part is n app rose)) e = (rose, (a, why, (n, app)))
  unwritten_row (Early is app same) e = absurd (omega (arith, is, e))
  unwritten_row (Midway is text why n app same) e = absurd (omega (arith, is, e))

  pub none_row : All → result ≡ NO_MEMORY → Appends old new [] ⊎ ((text : Text) × cut text × ((n : ℕ) × Appends old new (take n text)))
  none_row (Caused a why (Whole is app same)) e = absurd (not_none words risen failed a.status (status_of_cause words told risen failed a why) (sym is ∙ e))
  none_row (Caused a why (Part is n app rose)) e = absurd (omega (arith, is, e))
  none_row (Early is app same) e = inl app
  none_row (Midway is text why n app same) e = inr (text, why, (n, app))

  pub taken_row : All → result ≢ UNWRITTEN → now ≡ before
  taken_row (Caused a why (Whole is app same)) e = same
  taken_row (Caused a why (Part is n app rose)) e = absurd (e is)
  taken_row (Early is app same) e = same
  taken_row (Midway is text why n app same) e = same

  -- what is settled is given, unless it was hindered
  pub settled : (P : Answer → Type 0) → ((b : Answer) → Cause words told risen failed b → P b ⊎ (b.status ≡ UNREAD) × risen) → All
      → ((b : Answer) × P b × (result ≡ b.status) × Appends old new b.text) ⊎ Hindered risen (Rose before now) result
  settled P f (Caused a why (Whole is app same)) = ⊎_elim (λ p. inl (a, p, is, app)) (λ u. inr (NotRead (is ∙ u.0) u.1)) (f a why)
  settled P f (Caused a why (Part is n app rose)) = inr (NotTaken is rose)
  settled P f (Early is app same) = inr (NotFound is)
  settled P f (Midway is text why n app same) = inr (NotFound is)

  pub gives : (a : Answer) → ((b : Answer) → Cause words told risen failed b → (b ≡ a) ⊎ (b.status ≡ UNREAD) × risen) → All
      → ((result ≡ a.status) × Appends old new a.text) ⊎ Hindered risen (Rose before now) result
  gives a f h = ⊎_elim (λ p. inl (subst (λ (x : Answer). (result ≡ x.status) × Appends old new x.text) p.1 (p.2, p.3))) (λ x. inr x) (settled (λ b. b ≡ a) f h)
