-- What whoever looks on has seen of a run.
use Rattle.std.proofs.Common.{◌≡◌, ◌⊎◌, ⊎_elim, refl, sym, ap, ◌∙◌, subst, ℕ, zero, suc, ◌<◌, ◌≤◌, Bool, true, false, List, [], ◌∷◌, ◌++◌, length, Option, None, Some, is_some}
use Rattle.frame_ast.specs.declared.script.Script.{Script}
use Rattle.frame_ast.specs.Orders.{Table}
use Rattle.merge_laws.specs.Graph.{Cells}
use Rattle.frame_core.specs.declared.report.Report.{Report}
use Rattle.frame_plan.specs.declared.section.Section.{Section}
use Rattle.frame_plan.specs.declared.sections.SectionBook.{SectionBook}
use Rattle.frame_plan.specs.Sections.{IsAt, IsOutcome, IsSectionOf, place_of}
use Rattle.plan_statements.specs.Tables.{columns_of}
use Rattle.table_in.specs.Columns.{NamedColumn}
use Rattle.command_words.specs.Words.{Text}
use Rattle.frame_top.specs.declared.extent.Extent.{Extent}
use Rattle.frame_top.specs.declared.sections.Progress.{Progress}
use Rattle.frame_top.specs.declared.status.TheConstants.{UNWRITTEN}
use Rattle.frame_top.specs.Inputs.{Told, Reads}
use Rattle.frame_top.specs.Refusals.{table_refusal, table_of}
use Rattle.table_laws.specs.Laws.{AnswerAllAlike}
use Rattle.frame_top.proofs.Tables.{same_seen}
use Rattle.frame_top.specs.Running.{Closes, GoesOn, HasRun, IsMade}
use Rattle.frame_top.specs.Seen.{SectionAt, section_at, IsSectionAt, IsTested, Lead, HasSeenTo, SeesOne, HasSeen, HasSeenAsked, has_run}

-- WHERE THE NEXT SECTION BEGINS

some_none : (held : Option Bool) → held ≡ None → is_some held ≡ true → ⊥
some_none held e some = let bad : false ≡ true = sym (ap is_some e) ∙ some in cc

none_some : (held : Option Bool) (b : Bool) → held ≡ Some b → is_some held ≡ false → ⊥
none_some held b e none = let bad : true ≡ false = sym (ap is_some e) ∙ none in cc

later_at : (from : ℕ) (book : SectionBook) (script : Script) (table : Table) (carried : Cells) (len : ℕ) (held : Option Bool)
    → IsAt book script table from carried len → IsOutcome script table from held → is_some held ≡ true → place_of book ≡ from
later_at zero book script table carried len held at outcome some = absurd (some_none held outcome some)
later_at (suc n) book script table carried len held at outcome some = ap place_of at.taken_back ∙ at.handed_out.at

first_at : (from : ℕ) (script : Script) (table : Table) (held : Option Bool) → IsOutcome script table from held → is_some held ≡ false → 0 ≡ from
first_at zero script table held outcome none = refl
first_at (suc n) script table held outcome none = absurd (none_some held _ outcome none)

pub later_place : (script : Script) (table : Table) (sections from : ℕ) (book : SectionBook) (p : Progress) → HasRun script table sections from book p
    → is_some p.held ≡ true → place_of book ≡ from
later_place script table sections from book p was some = later_at from book script table was.carried was.len p.held was.at was.outcome some

pub first_place : (script : Script) (table : Table) (sections from : ℕ) (book : SectionBook) (p : Progress) → HasRun script table sections from book p
    → is_some p.held ≡ false → 0 ≡ from
first_place script table sections from book p was none = first_at from script table p.held was.outcome none

-- SECTION AFTER SECTION

module _ (script : Script) (table : Table) where
  -- the section that was made is the one that was told
  pub one_seen : (saw : List SectionAt → Type 0) (sections from : ℕ) (book : SectionBook) (section : Section) (so_far : Report) (extent : Extent)
      (earlier : List SectionAt) (more : Bool) → IsMade script table sections from book section so_far
      → extent.from ≡ from → extent.to ≡ place_of book → IsOutcome script table from extent.held → more ≡ is_some section.test
      → (after : SectionBook) → place_of after ≡ place_of book → saw (earlier ++ section_at extent section ∷ [])
      → SeesOne saw script table from after earlier more
  one_seen saw sections from book section so_far extent earlier more made begins ends outcome is after stays seen =
      let there : extent.to ≡ made.next.to = ends ∙ made.next.place in
      record {
        s = section_at extent section;
        is_section = record {
          begins = begins;
          outcome = outcome;
          is_section = subst (λ n. IsSectionOf script table from n section) (sym there) made.next.is_section;
        };
        place = stays ∙ sym ends;
        tested = λ e. (sym is ∙ e, subst (λ n. from < n) (sym there) (made.next.later (sym is ∙ e)));
        seen = seen;
      }

  pub told_within : (sections from : ℕ) (book : SectionBook) (section : Section) (so_far : Report) (to : ℕ)
      → IsMade script table sections from book section so_far → to ≡ place_of book → to ≤ length script.statements.items
  told_within sections from book section so_far to made ends =
      subst (λ n. n ≤ length script.statements.items) (sym (ends ∙ made.next.place)) made.next.is_section.rising.1

  -- one more section
  lead_on : (from at : ℕ) (earlier : List SectionAt) (s : SectionAt) → Lead script table from earlier at → IsSectionAt script table at s → IsTested at s
      → Lead script table from (earlier ++ s ∷ []) s.to
  lead_on from at [] s lead is tested =
      (subst (λ n. IsSectionAt script table n s) lead is, subst (λ n. IsTested n s) lead tested, refl)
  lead_on from at (x ∷ earlier) s lead is tested = (lead.0, lead.1, lead_on x.to at earlier s lead.2 is tested)

  module _ (saw saw' : List SectionAt → Type 0) (sections from : ℕ) (lines : List ℕ) (book : SectionBook) (q : Progress)
      (before : HasSeenTo saw script table from) where
    pub more_seen : (goes : GoesOn script table sections from lines book q true) (more : Bool) → more ≡ true → (to : ℕ) → to ≡ goes.to
        → SeesOne saw' script table from book before.sections more → HasSeenTo saw' script table to
    more_seen goes more e to there one = record {
      sections = before.sections ++ one.s ∷ [];
      lead = subst (λ n. Lead script table 0 (before.sections ++ one.s ∷ []) n) (sym one.place ∙ (goes.place ∙ sym there))
          (lead_on 0 from before.sections one.s before.lead one.is_section (one.tested e));
      seen = one.seen;
    }

    pub all_seen : (goes : GoesOn script table sections from lines book q false) (more : Bool)
        → SeesOne saw' script table from book before.sections more → HasSeen saw' script table
    all_seen goes more one = record {
      sections = before.sections ++ one.s ∷ [];
      are = record {
        earlier = before.sections;
        last = one.s;
        are = refl;
        from = from;
        lead = before.lead;
        is_last = one.is_section;
        ends = sym one.place ∙ (goes.place ∙ goes.last refl);
      };
      seen = one.seen;
    }

  pub none_seen : (saw : List SectionAt → Type 0) (to : ℕ) → to ≡ 0 → saw [] → HasSeenTo saw script table to
  none_seen saw to none seen = record { sections = []; lead = none; seen = seen }

-- the script and the table that the words ask for
pub asked_seen : (saw : Script → List SectionAt → Type 0) (words : List Text) (told : Told) (script : Script) (table : Option Text)
    (columns : List NamedColumn) → Reads words told script table → table_refusal table ≡ None
    → AnswerAllAlike (columns_of columns) (table_of table) script.statements.items
    → HasSeen (saw script) script (columns_of columns) → HasSeenAsked saw words told
asked_seen saw words told script table columns read stands same seen = record {
  script = script;
  table = table;
  read = read;
  table_stands = stands;
  has_seen = same_seen script (columns_of columns) (table_of table) same (saw script) seen;
}

-- WHERE NO SCRIPT RAN

pub true_false : (b : Bool) → b ≡ true → b ≡ false → ⊥
true_false b p q = let bad : true ≡ false = sym p ∙ q in cc

pub no_run : (status result : ℕ) → result ≡ status → has_run status ≡ false → has_run result ≡ true → ⊥
no_run status result is none ran = let bad : false ≡ true = sym none ∙ (sym (ap has_run is) ∙ ran) in cc

pub neither_run : (first second result : ℕ) → (result ≡ first) ⊎ (result ≡ second) → has_run first ≡ false → has_run second ≡ false
    → has_run result ≡ true → ⊥
neither_run first second result is none none' ran = ⊎_elim (λ e. no_run first result e none ran) (λ e. no_run second result e none' ran) is

pub none_run : (first second third result : ℕ) → (result ≡ first) ⊎ ((result ≡ second) ⊎ (result ≡ third)) → has_run first ≡ false
    → has_run second ≡ false → has_run third ≡ false → has_run result ≡ true → ⊥
none_run first second third result is none none' none'' ran =
    ⊎_elim (λ e. no_run first result e none ran) (λ e. neither_run second third result e none' none'' ran) is

pub closed_none : {S : Type 0} (taken : S → Option (List ℕ)) (faults : S → ℕ) (old : S) (p : Progress) (new : S) (q : Progress) (text : List ℕ)
    (status result : ℕ) → Closes taken faults old p new q text status result → has_run status ≡ false → has_run result ≡ true → ⊥
closed_none taken faults old p new q text status result closes none ran = by q.failed refl
  where
    by : (b : Bool) → q.failed ≡ b → ⊥
    by true e = no_run UNWRITTEN result (closes.unwritten e) refl ran
    by false e = no_run status result (closes.whole e) none ran
