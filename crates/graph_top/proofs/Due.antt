-- What is given settles how a command line ends.
use Rattle.std.proofs.Common.{◌≡◌, ◌≢◌, ◌⊎◌, ◌≤◌, length, inl, inr, ⊎_elim, refl, sym, ap, subst, ◌∙◌, ℕ, Bool, true, false, ◌&&◌, not, List, Option, None, Some, Result, Err, ◌↔◌, arith}
use Rattle.std.specs.Io.KnownBytes.{Appends}
use Rattle.job_base.specs.Faults.{Rose}
use Rattle.frame_ast.specs.declared.script.Script.{Script}
use Rattle.frame_ast.specs.Limits.{limit_of}
use Rattle.frame_ast.specs.Orders.{Table, setting}
use Rattle.command_words.specs.declared.command.WordsFault.{WordsFault}
use Rattle.command_words.specs.declared.command.WordsFault.TheVariants.{Usage, NoMemory as NoWords}
use Rattle.command_words.specs.Words.{Text, is_of_command}
use Rattle.graph_words.specs.GraphWords.{is_of_graph, plain_words, names_depth}
use Rattle.frame_top.specs.Answers.{Answers, Caused, Early, Midway, FrameCause, Refused, Ran, Reported, IsCut, Said, Whole, Part, Hindered, NotRead, NotTaken, NotFound, Cause, NoScript as NoScriptRead, BadScript as BadScriptRead, NoTable as NoTableRead, BadTable as BadTableRead}
use Rattle.job_base.specs.declared.limits.TheConstants.{MOST_SCRIPT_BYTES}
use Rattle.frame_ast.specs.declared.kernel.FaultKind.{FaultKind}
use Rattle.frame_ast.specs.declared.kernel.FaultKind.TheVariants.{TooLong}
use Rattle.frame_ast.specs.Answers.{script_refused_line, statements_line}
use Rattle.frame_script.specs.Loading.{IsRefused}
use Rattle.table_in.specs.declared.TableFault.{TableFault}
use Rattle.table_in.specs.declared.TableFault.TheVariants.{NoMemory}
use Rattle.frame_top.specs.Inputs.{Told, IsGiven, IsSource, Reads, ReadsSource}
use Rattle.frame_top.proofs.Telling.{is_many}
use Rattle.frame_top.specs.Refusals.{Answer, answer, Refuses, Fault, Statements, refused_table, column_refusal, first_when, frame_refusal, table_of, table_refusal}
use Rattle.frame_top.specs.declared.status.TheConstants.{DONE, USAGE, SCRIPT_REFUSED, UNREAD, NO_MEMORY, PAST_LIMIT}
use Rattle.frame_top.proofs.Alike.{same_frame_refusal}
use Rattle.frame_top.proofs.Framing.{no_refusal, no_first}
use Rattle.frame_top.proofs.Settling.{IsSettled, none_some, some_once, script_settles, table_settles, accepts_same, refuses_same, same_script, same_table, unread_status}
use Rattle.graph_top.specs.Due.{Reason, NoScript, BadScript, NoTable, BadTable, FrameEnds, FrameRefused, FrameShown, FrameWanting, CommandEnds, ByReason, ByFrame, Wanting, GraphEnds, ByUsage, ByCommand, ByNone, graph_usage_line}

-- A FRAME

differ : (b : Bool) → b ≡ true → b ≡ false → ⊥
differ b p q = cc

-- A COMMAND

-- what was read before doesn't matter
pub moved : (words : List Text) (told told' : Told) (m m' n : ℕ) (failed : Option Text) (old new : Option Text) (before now : ℕ) (untaken : Type 0) (result : ℕ)
    → told' ≡ told → m' ≡ m → CommandEnds words told' (Rose m' n) failed old new before now untaken result
    → CommandEnds words told (Rose m n) failed old new before now untaken result
moved words told told' m m' n failed old new before now untaken result e f ends =
    subst (λ k. CommandEnds words told (Rose k n) failed old new before now untaken result) f
    (subst (λ (t : Told). CommandEnds words t (Rose m' n) failed old new before now untaken result) e ends)

module _ (words : List Text) (told : Told) (risen : Type 0) (failed : Option Text) where
  as_cause : (a : Answer) → Reason words told risen failed a → Cause words told risen failed a
  as_cause a (NoScript p u is) = NoScriptRead p u is
  as_cause a (BadScript source read r) = BadScriptRead source read r
  as_cause a (NoTable script read u is) = NoTableRead script read u is
  as_cause a (BadTable script table read r) = BadTableRead script table read r

  module _ (old new : Option Text) (before now : ℕ) (untaken : Type 0) (result : ℕ) where
    -- what was said is given
    said_gives : (a b : Answer) → Said old new before now b result → b ≡ a
        → (result ≡ a.status) × Appends old new a.text ⊎ Hindered risen (Rose before now ⊎ untaken) result
    said_gives a b (Whole is app same) e = inl (is ∙ ap (λ (x : Answer). x.status) e, subst (λ (x : Answer). Appends old new x.text) e app)
    said_gives a b (Part is n app rose) e = inr (NotTaken is (inl rose))

    -- or it was that a read failed
    unread_gives : (a b : Answer) → Said old new before now b result → (b.status ≡ UNREAD) × risen
        → (result ≡ a.status) × Appends old new a.text ⊎ Hindered risen (Rose before now ⊎ untaken) result
    unread_gives a b (Whole is app same) u = inr (NotRead (is ∙ u.0) u.1)
    unread_gives a b (Part is n app rose) u = inr (NotTaken is (inl rose))

    settled_gives : (a b : Answer) → Said old new before now b result → IsSettled risen a b
        → (result ≡ a.status) × Appends old new a.text ⊎ Hindered risen (Rose before now ⊎ untaken) result
    settled_gives a b said h = ⊎_elim (λ e. said_gives a b said e) (λ u. unread_gives a b said u) h

    pub script_gives : (source : Text) (a : Answer) → IsSource words told source → Refuses source a
        → CommandEnds words told risen failed old new before now (Rose before now ⊎ untaken) result
        → (result ≡ a.status) × Appends old new a.text ⊎ Hindered risen (Rose before now ⊎ untaken) result
    script_gives source a given r (ByReason b why said) =
        settled_gives a b said (script_settles words told risen failed source a b given r (as_cause b why))
    script_gives source a given r (ByFrame script table read stands ends) =
        absurd (refuses_same words told risen failed source a given r script read.script_is)
    script_gives source a given r (Wanting is) = inr (NotFound is)

    module _ (script : Script) (table : Option Text) (given : IsGiven words told script table) where
      pub table_gives : (a : Answer) → table_refusal table ≡ Some a
          → CommandEnds words told risen failed old new before now (Rose before now ⊎ untaken) result
          → (result ≡ a.status) × Appends old new a.text ⊎ Hindered risen (Rose before now ⊎ untaken) result
      table_gives a r (ByReason b why said) =
          settled_gives a b said (table_settles words told risen failed script table given a b r (as_cause b why))
      table_gives a r (ByFrame other t read stands ends) =
          absurd (none_some a (sym stands ∙ ap table_refusal (same_table words told risen failed script table given other t read) ∙ r))
      table_gives a r (Wanting is) = inr (NotFound is)

      -- where the table stands, a reason is that a read failed
      unread : (b : Answer) → table_refusal table ≡ None → Reason words told risen failed b → (b.status ≡ UNREAD) × risen
      unread b stands (NoScript p u is) = (unread_status b _ is, u.0)
      unread b stands (BadScript other read r) =
          absurd (accepts_same words told risen failed given.source script given.given given.accepted other b read r)
      unread b stands (NoTable other read u is) = (unread_status b _ is, u.0)
      unread b stands (BadTable other t read r) =
          absurd (none_some b (sym stands
          ∙ sym (ap table_refusal (same_table words told risen failed script table given other t read)) ∙ r))

      -- what was read is refused as what is given
      refused_as : (other : Script) (t : Option Text) → Reads words told other t
          → frame_refusal other (table_of t) false ≡ frame_refusal script (table_of table) false
      refused_as other t read =
          ap (λ u. frame_refusal other (table_of u) false) (same_table words told risen failed script table given other t read)
          ∙ sym (same_frame_refusal script other (table_of table) false
          (same_script words told risen failed script table given other read.script_is))

      frame_gives_by : (a : Answer) (other : Script) (t : Option Text) → frame_refusal other (table_of t) false ≡ Some a
          → FrameEnds other (table_of t) old new before now (Rose before now ⊎ untaken) result
          → (result ≡ a.status) × Appends old new a.text ⊎ Hindered risen (Rose before now ⊎ untaken) result
      frame_gives_by a other t r (FrameRefused b r' said) = said_gives a b said (some_once (frame_refusal other (table_of t) false) b a r' r)
      frame_gives_by a other t r (FrameShown none shown) = absurd (none_some a (sym none ∙ r))
      frame_gives_by a other t r (FrameWanting is) = inr (NotFound is)

      pub frame_gives : (a : Answer) → table_refusal table ≡ None → frame_refusal script (table_of table) false ≡ Some a
          → CommandEnds words told risen failed old new before now (Rose before now ⊎ untaken) result
          → (result ≡ a.status) × Appends old new a.text ⊎ Hindered risen (Rose before now ⊎ untaken) result
      frame_gives a stands r (ByReason b why said) = unread_gives a b said (unread b stands why)
      frame_gives a stands r (ByFrame other t read none ends) = frame_gives_by a other t (refused_as other t read ∙ r) ends
      frame_gives a stands r (Wanting is) = inr (NotFound is)

      unread_shows : (b : Answer) → Said old new before now b result → (b.status ≡ UNREAD) × risen
          → (result ≡ DONE) ⊎ Hindered risen (Rose before now ⊎ untaken) result
      unread_shows b (Whole is app same) u = inr (NotRead (is ∙ u.0) u.1)
      unread_shows b (Part is n app rose) u = inr (NotTaken is (inl rose))

      shown_by : (other : Script) (t : Option Text) → frame_refusal other (table_of t) false ≡ None
          → FrameEnds other (table_of t) old new before now (Rose before now ⊎ untaken) result
          → (result ≡ DONE) ⊎ Hindered risen (Rose before now ⊎ untaken) result
      shown_by other t none (FrameRefused b r said) = absurd (none_some b (sym none ∙ r))
      shown_by other t none (FrameShown none' shown) = ⊎_elim (λ e. inl e) (λ w. inr (NotTaken w.0 w.1)) shown
      shown_by other t none (FrameWanting is) = inr (NotFound is)

      pub shows : table_refusal table ≡ None → frame_refusal script (table_of table) false ≡ None
          → CommandEnds words told risen failed old new before now (Rose before now ⊎ untaken) result
          → (result ≡ DONE) ⊎ Hindered risen (Rose before now ⊎ untaken) result
      shows stands none (ByReason b why said) = unread_shows b said (unread b stands why)
      shows stands none (ByFrame other t read none' ends) = shown_by other t (refused_as other t read ∙ none) ends
      shows stands none (Wanting is) = inr (NotFound is)

-- the table is refused, or memory was wanting
pub of_fault : (words : List Text) (told : Told) (risen : Type 0) (failed : Option Text) (old new : Option Text) (before now : ℕ) (untaken : Type 0)
    (result : ℕ) {script : Script} {table : Option Text} {fault : TableFault} → Reads words told script table
    → (fault ≡ NoMemory) ⊎ (fault ≢ NoMemory) × (table_refusal table ≡ Some (refused_table fault))
    → (fault ≢ NoMemory → Said old new before now (refused_table fault) result) → (fault ≡ NoMemory → result ≡ NO_MEMORY)
    → CommandEnds words told risen failed old new before now untaken result
of_fault words told risen failed old new before now untaken result {script} {table} {fault} read why said none = ⊎_elim
    (λ e. Wanting (none e))
    (λ w. ByReason _ (BadTable script table read w.1) (said w.0))
    why

-- the script is refused
pub of_source : (words : List Text) (told : Told) (risen : Type 0) (failed : Option Text) (old new : Option Text) (before now : ℕ) (untaken : Type 0)
    (result : ℕ) (source : Text) (line : ℕ) (kind : FaultKind) → ReadsSource words told source → length source ≤ MOST_SCRIPT_BYTES → IsRefused source line kind
    → (kind ≢ TooLong → Said old new before now (answer SCRIPT_REFUSED (script_refused_line line kind)) result)
    → (kind ≡ TooLong → Said old new before now (answer PAST_LIMIT statements_line) result)
    → CommandEnds words told risen failed old new before now untaken result
of_source words told risen failed old new before now untaken result source line kind read within refused fault many = ⊎_elim
    (λ e. ByReason _ (BadScript source read (Statements line within (subst (IsRefused source line) e refused) refl)) (many e))
    (λ other. ByReason _ (BadScript source read (Fault line kind within refused other refl)) (fault other))
    (is_many kind)

-- A COMMAND LINE

pub of_graph : (words : List Text) → names_depth (plain_words words) ≡ false → is_of_command (plain_words words) ≡ true → is_of_graph words ≡ true
of_graph words p q = ap (λ d. not d && is_of_command (plain_words words)) p ∙ q

pub by_command : (words : List Text) (told : Told) (risen : Type 0) (failed : Option Text) (old new : Option Text) (before now : ℕ) (untaken : Type 0)
    (result : ℕ) (goal : Type 0) → is_of_graph words ≡ true
    → (CommandEnds (plain_words words) told risen failed old new before now untaken result → goal) → (result ≡ NO_MEMORY → goal)
    → GraphEnds words told risen failed old new before now untaken result → goal
by_command words told risen failed old new before now untaken result goal of command none (ByUsage bad said) = absurd (differ (is_of_graph words) of bad)
by_command words told risen failed old new before now untaken result goal of command none (ByCommand good ends) = command ends
by_command words told risen failed old new before now untaken result goal of command none (ByNone of' is) = none is

pub usage_gives : (words : List Text) (told : Told) (risen : Type 0) (failed : Option Text) (old new : Option Text) (before now : ℕ) (untaken : Type 0)
    (result : ℕ) → is_of_graph words ≡ false → GraphEnds words told risen failed old new before now (Rose before now ⊎ untaken) result
    → (result ≡ USAGE) × Appends old new graph_usage_line ⊎ Hindered risen (Rose before now ⊎ untaken) result
usage_gives words told risen failed old new before now untaken result bad (ByUsage b (Whole is app same)) = inl (is, app)
usage_gives words told risen failed old new before now untaken result bad (ByUsage b (Part is n app rose)) = inr (NotTaken is (inl rose))
usage_gives words told risen failed old new before now untaken result bad (ByCommand good ends) = absurd (differ (is_of_graph words) good bad)
usage_gives words told risen failed old new before now untaken result bad (ByNone of is) = absurd (differ (is_of_graph words) of bad)

-- WANT OF MEMORY

-- words whose fault is another one are of the command
pub not_fault : {T : Type 0} (b : Bool) {r : Result T WordsFault} → (r ≡ Err Usage ↔ (b ≡ false)) → r ≡ Err NoWords → b ≡ true
not_fault true h e = refl
not_fault false h e = let f = sym e ∙ h.1 refl in absurd cc

pub none_of_graph : (words : List Text) (told : Told) (risen : Type 0) (failed : Option Text) (old new : Option Text) (before now : ℕ) (untaken : Type 0)
    (result : ℕ) → GraphEnds words told risen failed old new before now untaken result → result ≡ NO_MEMORY → is_of_graph words ≡ true
none_of_graph words told risen failed old new before now untaken result (ByUsage bad (Whole is app same)) none = absurd (omega (arith, is, none))
none_of_graph words told risen failed old new before now untaken result (ByUsage bad (Part is n app rose)) none = absurd (omega (arith, is, none))
none_of_graph words told risen failed old new before now untaken result (ByCommand good ends) none = good
none_of_graph words told risen failed old new before now untaken result (ByNone of is) none = of
