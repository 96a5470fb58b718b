-- The pictures of a run, one section after another.
use Rattle.std.proofs.Common.{◌≡◌, ◌⊎◌, inl, inr, ⊎_elim, refl, sym, ap, ◌∙◌, subst, ℕ, ◌≤◌, Bool, true, false, List, [], ◌∷◌, ◌++◌, length, Option, None, Some, append-nil, append_assoc}
use Rattle.std.specs.Prelude.{if◌then◌else◌, ◌||◌}
use Rattle.std.specs.List.{list_any}
use Rattle.job_base.specs.Faults.{Rose}
use Rattle.frame_ast.specs.declared.script.Script.{Script}
use Rattle.frame_ast.specs.declared.script.Statement.{Statement}
use Rattle.frame_ast.specs.Accepted.{is_when}
use Rattle.frame_ast.specs.Answers.{limit_line}
use Rattle.frame_ast.specs.Limits.{Limit, limit_of}
use Rattle.frame_ast.specs.Orders.{Table, setting}
use Rattle.plan_state.specs.declared.state.PlanFault.{PlanFault}
use Rattle.plan_state.specs.declared.state.PlanFault.TheVariants.{NoMemory}
use Rattle.frame_plan.specs.Sections.{limit_told}
use Rattle.command_words.specs.Words.{Text}
use Rattle.frame_view.specs.declared.part.Part.{Part}
use Rattle.frame_view.specs.Parts.{part_of}
use Rattle.frame_top.specs.Answers.{Said}
use Rattle.frame_top.specs.Refusals.{Answer, answer, column_refusal, first_when, frame_refusal}
use Rattle.frame_top.specs.Seen.{SectionAt, HasSeen}
use Rattle.frame_top.specs.declared.status.TheConstants.{DONE, UNWRITTEN, NO_MEMORY, PAST_LIMIT}
use Rattle.frame_top.proofs.Framing.{column_refuses, limit_refuses, no_refusal}
use Rattle.graph_top.specs.Drawn.{number_after, number_past, head_of, IsSectionDrawn, AreDrawn, HasDrawn, IsRunDrawn}
use Rattle.graph_top.specs.Due.{FrameEnds, FrameRefused, FrameShown, FrameWanting, IsShown}

-- THE STATEMENTS OF A SECTION

part_ends : (script : Script) (from to : ℕ) (held : Option Bool) → (part_of script from to held).to ≡ to
part_ends script from to None = refl
part_ends script from to (Some true) = refl
part_ends script from to (Some false) = refl

pub part_within : (script : Script) (from to : ℕ) (held : Option Bool) (part : Part) → part ≡ part_of script from to held
    → to ≤ length script.statements.items → part.to ≤ length script.statements.items
part_within script from to held part is within =
    subst (λ n. n ≤ length script.statements.items) (sym (ap (λ (p : Part). p.to) is ∙ part_ends script from to held)) within

-- ONE MORE SECTION

past_on : (number : ℕ) (sections : List SectionAt) (s : SectionAt) → number_past number (sections ++ s ∷ []) ≡ number_after (number_past number sections)
past_on number [] s = refl
past_on number (x ∷ sections) s = past_on (number_after number) sections s

module _ (script : Script) (workers : ℕ) (dot : Bool) where
  drawn_on : (number : ℕ) (sections : List SectionAt) (text : List ℕ) (s : SectionAt) (one : List ℕ) → AreDrawn script workers dot number sections text
      → IsSectionDrawn script workers dot (number_past number sections) s one
      → AreDrawn script workers dot number (sections ++ s ∷ []) (text ++ one)
  drawn_on number [] text s one none is = (one, [], is, refl, ap (λ t. t ++ one) none ∙ sym (append-nil one))
  drawn_on number (x ∷ sections) text s one are is =
      let rest = drawn_on (number_after number) sections are.1 s one are.3 is in
      (are.0, are.1 ++ one, are.2, rest, ap (λ t. t ++ one) are.4 ∙ append_assoc are.0 are.1 one)

  pub begun_drawn : (number : ℕ) (text : List ℕ) → number ≡ 1 → text ≡ head_of dot → HasDrawn script workers dot number text []
  begun_drawn number text first head = record {
    pictures = [];
    are_drawn = refl;
    text_is = head ∙ sym (append-nil (head_of dot));
    number_is = first;
  }

  pub one_drawn : (number : ℕ) (text : List ℕ) (sections : List SectionAt) (s : SectionAt) (one : List ℕ) (number' : ℕ) (text' : List ℕ)
      → HasDrawn script workers dot number text sections → IsSectionDrawn script workers dot number s one
      → number' ≡ number_after number → text' ≡ text ++ one
      → HasDrawn script workers dot number' text' (sections ++ s ∷ [])
  one_drawn number text sections s one number' text' has is next more = record {
    pictures = has.pictures ++ one;
    are_drawn = drawn_on 1 sections has.pictures s one has.are_drawn (subst (λ n. IsSectionDrawn script workers dot n s one) has.number_is is);
    text_is = more ∙ (ap (λ t. t ++ one) has.text_is ∙ append_assoc (head_of dot) has.pictures one);
    number_is = next ∙ (ap number_after has.number_is ∙ sym (past_on 1 sections s));
  }

  -- a whole run, by one that began with these workers and that form
  pub run_drawn : (table : Table) (first : ℕ) (form : Bool) → first ≡ workers → form ≡ dot → (workers' : ℕ) (dot' : Bool) (number : ℕ) (text : List ℕ)
      → HasSeen (λ sections. (workers' ≡ first) × (dot' ≡ form) × HasDrawn script workers' dot' number text sections) script table
      → (text' : List ℕ) → text' ≡ text → IsRunDrawn script table workers dot text'
  run_drawn table first form e d workers' dot' number text seen text' same =
      let has : HasDrawn script workers dot number text seen.sections =
      subst (λ w. HasDrawn script w dot number text seen.sections) (seen.seen.0 ∙ e)
      (subst (λ f. HasDrawn script workers' f number text seen.sections) (seen.seen.1 ∙ d) seen.seen.2) in
      record { sections = seen.sections; are = seen.are; pictures = has.pictures; are_drawn = has.are_drawn; text_is = same ∙ has.text_is }

-- WHICH SCRIPTS ARE RUN

pub some_first : (xs : List Statement) (line : ℕ) → first_when xs ≡ Some line → list_any (λ x. is_when x.act) xs ≡ true
some_first [] line h = absurd cc
some_first (x ∷ xs) line h = by (is_when x.act) refl h (some_first xs line)
  where
    by : (b : Bool) → is_when x.act ≡ b → (if b then Some x.line else first_when xs) ≡ Some line
        → (first_when xs ≡ Some line → list_any (λ (x : Statement). is_when x.act) xs ≡ true) → list_any (λ (x : Statement). is_when x.act) (x ∷ xs) ≡ true
    by true e h rest = ap (λ b. b || list_any (λ (x : Statement). is_when x.act) xs) e
    by false e h rest = ap (λ b. b || list_any (λ (x : Statement). is_when x.act) xs) e ∙ rest h

-- HOW A FRAME ENDS

module _ (script : Script) (table : Table) (old new : Option Text) (before now : ℕ) (untaken : Type 0) (result : ℕ) where
  -- a column is missing
  pub missing_ends : (a : Answer) × (column_refusal table script.statements.items ≡ Some a) × Said old new before now a result
      → FrameEnds script table old new before now untaken result
  missing_ends said = FrameRefused said.0 (column_refuses script table false said.0 said.1) said.2

  no_limit : (f : PlanFault) → f ≡ NoMemory → (limit : Limit) → limit_told f ≡ Some limit → ⊥
  no_limit f e limit told = let bad : None ≡ Some limit = sym (ap limit_told e) ∙ told in cc

  -- there is no plan
  pub planless_ends : (fault : PlanFault) → column_refusal table script.statements.items ≡ None
      → (fault ≡ NoMemory) ⊎ (limit_of (setting script table) script.statements.items ≡ limit_told fault)
      → ((limit : Limit) → limit_told fault ≡ Some limit → Said old new before now (answer PAST_LIMIT (limit_line limit)) result)
      → (limit_told fault ≡ None → result ≡ NO_MEMORY)
      → FrameEnds script table old new before now untaken result
  planless_ends fault columns limits said none = by (limit_told fault) refl
    where
      by : (o : Option Limit) → limit_told fault ≡ o → FrameEnds script table old new before now untaken result
      by None e = FrameWanting (none e)
      by (Some limit) e = FrameRefused (answer PAST_LIMIT (limit_line limit))
          (limit_refuses script table false limit columns refl (⊎_elim (λ m. absurd (no_limit fault m limit e)) (λ l. l ∙ e) limits)) (said limit e)

-- a picture was shown
pub shown_ends : (script : Script) (table : Table) (old new : Option Text) (before now : ℕ) (more untaken : Type 0) (result : ℕ)
    → column_refusal table script.statements.items ≡ None → limit_of (setting script table) script.statements.items ≡ None → IsShown untaken result
    → FrameEnds script table old new before now (more ⊎ untaken) result
shown_ends script table old new before now more untaken result columns limits shown =
    FrameShown (no_refusal script table false columns refl limits) (⊎_elim (λ e. inl e) (λ w. inr (w.0, inr w.1)) shown)
