-- A planner at a script's beginning.
use Rattle.std.proofs.Common.{◌≡◌, ℕ, zero, suc, Bool, true, false, ◌&&◌, List, [], ◌++◌, length, Option, None, Some, refl, sym, ap, subst, ◌∙◌, arith}
use Rattle.std.specs.Prelude.{nat_lt, replicate, slice_get}
use Rattle.std.proofs.lemmas.List.{length-replicate}
use Rattle.frame_ast.specs.declared.script.Script.{Script}
use Rattle.frame_ast.specs.Jobs.{empty_book}
use Rattle.frame_ast.specs.Orders.{Table, Setting, setting}
use Rattle.frame_ast.specs.States.{at_start}
use Rattle.frame_ast.proofs.Known.{jobs_are_known}
use Rattle.job_handle.specs.Books.{StandsFor}
use Rattle.slot_store.specs.declared.place.Place.{Place}
use Rattle.slot_store.specs.Places.{unused, in_use}
use Rattle.slot_store.specs.Stores.{place_of, peak_of, live_words_of, slots_in_use}
use Rattle.frame_core.specs.declared.plan.JobPlan.{JobPlan}
use Rattle.frame_core.specs.Names.{has_job, pieces_before}
use Rattle.frame_core.proofs.Small.{some_is, none_some, not_both}
use Rattle.plan_laws.specs.Drafts.{empty_draft}
use Rattle.plan_laws.specs.Planned.{Outline, IsPlanned}
use Rattle.plan_laws.proofs.AtStart.{nothing_is_planned}
use Rattle.plan_state.specs.declared.state.Value.{Value}
use Rattle.plan_state.specs.declared.state.Value.TheVariants.{Dead, Jobs}
use Rattle.plan_state.specs.declared.state.Planner.{Planner}
use Rattle.plan_state.specs.Growth.{given_from, given_in, waits_in, waits_of, unless_none}
use Rattle.frame_plan.specs.Runs.{HasBegun}
use Rattle.plan_state.specs.Stands.{value_for, IsThere, Agrees, draft_of}
use Rattle.plan_state.specs.Steps.{StandsAt}

pub none_in : {A : Type 0} (xs : List A) (n : ℕ) (x : A) → xs ≡ [] → slice_get xs n ≡ Some x → ⊥
none_in xs n x e h = none_some (sym (ap (λ l. slice_get l n) e) ∙ h)

pub none_long : {A : Type 0} (xs : List A) → xs ≡ [] → length xs ≡ 0
none_long xs e = ap length e

pub all_alike : {A : Type 0} (n k : ℕ) (x y : A) → slice_get (replicate n x) k ≡ Some y → y ≡ x
all_alike zero k x y e = absurd (none_some e)
all_alike (suc n) zero x y e = sym (some_is e)
all_alike (suc n) (suc k) x y e = all_alike n k x y e

pub record IsNew (p : Planner) (script : Script) : Type 0 where
  pub values : p.world.values.items ≡ replicate (length script.names) Dead
  pub handles : p.world.handles.items ≡ []
  pub containers : p.world.containers.items ≡ []
  pub temps : p.world.temps.items ≡ []
  pub tempjobs : p.world.tempjobs.items ≡ []
  pub overdue : p.world.overdue ≡ 0
  pub frame : p.world.frame ≡ 0
  pub jobs : StandsFor p.world.jobs empty_book
  pub places : (slot : ℕ) → place_of p.world.store slot ≡ unused
  pub live : live_words_of p.world.store ≡ 0
  pub used : slots_in_use p.world.store ≡ 0
  pub peak : peak_of p.world.store ≡ 0
  pub created : p.world.created ≡ 0
  pub passing : p.world.passing ≡ 0
  pub before : p.world.jobs_before ≡ 0
  pub kernels : p.draft.copies_of.items ≡ replicate (length script.kernels.items) None
  pub guards : p.draft.guards_of.items ≡ replicate (length script.kernels.items) None
  pub plan_kernels : p.draft.kernels.items ≡ []
  pub plan_codes : p.draft.codes.items ≡ []
  pub literals : p.draft.literals.items ≡ []
  pub segments : p.draft.segments.items ≡ []
  pub plan_jobs : p.draft.jobs.items ≡ []
  pub waits : p.draft.waits.items ≡ []
  pub ops : p.draft.ops.items ≡ []
  pub pieces : p.draft.pieces ≡ 0
  pub first : p.draft.first.items ≡ []

-- no copy of a kernel
pub no_copy : (xs : List (Option ℕ)) (n k place : ℕ) → xs ≡ replicate n None → slice_get xs k ≡ Some (Some place) → ⊥
no_copy xs n k place e h = none_some (sym (all_alike n k None (Some place) (sym (ap (λ l. slice_get l k) e) ∙ h)))

pub no_pieces : (jobs : List JobPlan) → jobs ≡ [] → pieces_before jobs (length jobs) ≡ 0
no_pieces jobs e = ap (λ l. pieces_before l (length l)) e

module _ (script : Script) (table : Table) (p : Planner) (new : IsNew p script) where
  g : Setting
  g = setting script table

  is_dead : (n : ℕ) (v : Value) → slice_get p.world.values.items n ≡ Some v → v ≡ Dead
  is_dead n v e = all_alike (length script.names) n Dead v (sym (ap (λ l. slice_get l n) new.values) ∙ e)

  draft_is : empty_draft ≡ draft_of p
  draft_is =
      let a = sym new.segments in
      let b = sym new.plan_jobs in
      let c = sym new.waits in
      let d = sym new.ops in
      λ i. record { segments = a i; jobs = b i; waits = c i; ops = d i }

  planned : (x : Outline) → Agrees p (setting script table) at_start [] x → IsPlanned x at_start (draft_of p)
  planned x a =
      let b = sym a.begins in
      let x_is : record { plan = x.plan; starts = x.starts; begun = at_start } ≡ x = λ i. record { plan = x.plan; starts = x.starts; begun = b i } in
      subst (λ d. IsPlanned x at_start d) draft_is (subst (λ y. IsPlanned y at_start empty_draft) x_is (nothing_is_planned x.plan x.starts a.small
      (let none = ap length (a.first ∙ new.first) in omega arith)))

  pub stands_new : StandsAt p script table at_start 0 []
  stands_new = record {
    knows = record {
      known = jobs_are_known (setting script table) [];
      names = record {
        are = λ n v e. ap (value_for p.world.handles.items) (is_dead n v e);
        there = λ n v e. subst (IsThere (length p.world.containers.items) (length p.world.handles.items)) (sym (is_dead n v e)) tt;
        apart = λ n m k e f. absurd (not_dead k (is_dead n (Jobs k) e));
      };
      each = ap length new.values ∙ length-replicate (length script.names) Dead;
      containers = record {
        made = none_long p.world.containers.items new.containers;
        each = λ c it e. absurd (none_in p.world.containers.items c it new.containers e);
        slots = λ slot e. absurd (not_both (sym (ap (λ (place : Place). in_use place.state) (new.places slot)) ∙ e) refl);
        once = λ c d it other e f lc ld s. absurd (none_in p.world.containers.items c it new.containers e);
        versions = λ slot. (let e = ap (λ (place : Place). place.version) (new.places slot) in omega arith);
      };
      takes = refl;
      temps = record { all = λ c lt t a. absurd (omega arith); each = λ k c e. absurd (none_in p.world.temps.items k c new.temps e) };
      tempjobs = record {
        all = λ c lt t. absurd (omega arith);
        each = λ k c e. absurd (none_in p.world.tempjobs.items k c new.tempjobs e);
        rising = λ k l c d lt e f. absurd (none_in p.world.tempjobs.items k c new.tempjobs e);
        within = (let e = new.overdue in omega arith);
        past = λ k c lt e. absurd (none_in p.world.tempjobs.items k c new.tempjobs e);
        ahead = λ k c le e. absurd (none_in p.world.tempjobs.items k c new.tempjobs e);
      };
      frames = record { order = λ c d le lt. absurd (omega arith); past = λ c lt. absurd (omega arith) };
      jobs = new.jobs;
    };
    numbers = record {
      frame = new.frame;
      passing = new.passing;
      created = new.created;
      before = new.before;
      pieces = new.pieces ∙ sym (no_pieces p.draft.jobs.items new.plan_jobs);
      live_words = new.live;
      frames_few = omega arith;
      made_few = omega arith;
      created_few = omega arith;
      peak_low = (let e = new.peak in omega arith);
      slots_few = (let e = new.used in omega arith);
      ops_few = (let e = ap Rattle.frame_core.specs.Ordered.ops_count new.segments in let f = none_long p.draft.ops.items new.ops in omega arith);
      segments_few = (let e = none_long p.draft.segments.items new.segments in omega arith);
      literals_few = (let e = none_long p.draft.literals.items new.literals in omega arith);
      kernels_few = (let e = none_long p.draft.kernels.items new.plan_kernels in omega arith);
      handles_few = (let e = none_long p.world.handles.items new.handles in omega arith);
    };
    kernels = record {
      each = ap length new.kernels ∙ length-replicate (length script.kernels.items) None;
      each_guard = ap length new.guards ∙ length-replicate (length script.kernels.items) None;
      copies = λ k place e. absurd (no_copy p.draft.copies_of.items (length script.kernels.items) k place new.kernels e);
      guards = λ k place e. absurd (no_copy p.draft.guards_of.items (length script.kernels.items) k place new.guards e);
      checked = λ place k e. absurd (none_in p.draft.kernels.items place k new.plan_kernels e);
      coded = record {
        each = none_long p.draft.codes.items new.plan_codes ∙ sym (none_long p.draft.kernels.items new.plan_kernels);
        coded = λ place k code e f. absurd (none_in p.draft.kernels.items place k new.plan_kernels e);
      };
    };
    planned = planned;
  }
    where
      not_dead : (k : ℕ) → Jobs k ≡ Dead → ⊥
      not_dead k e = cc

  pub begun_new : HasBegun script table p
  begun_new = record {
    stands = stands_new;
    grown = λ starts. record {
      ranges = record { fits = tt; peak = new.peak };
      spans = (let a = new.segments in let b = new.ops in λ i. given_from (a i) ++ given_in (b i));
      jobs = λ n x low high here. absurd (omega arith);
      waited = λ j pos. (let a = new.segments in let b = new.waits in λ i. has_job (waits_in (a i) ++ b i) j) ∙ none (nat_lt 0 j);
      waits = (let a = new.segments in let b = new.waits in λ i. waits_of (a i) ++ unless_none (b i));
    };
  }
    where
      none : (b : Bool) → false ≡ (b && false)
      none true = refl
      none false = refl
