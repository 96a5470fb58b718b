-- Without `defer` the kernel of an accepted schedule stands in for itself.
use Rattle.std.proofs.Common.{◌≡◌, ℕ, List, Some, None, refl, sym, ap, subst, ◌∙◌}
use Rattle.std.specs.Prelude.{slice_get}
use Rattle.frame_ast.specs.declared.kernel.Kernel.{Kernel}
use Rattle.frame_ast.specs.declared.kernel.Param.{Param}
use Rattle.frame_ast.specs.Conflicts.{uses_it, writes_it}
use Rattle.frame_ast.specs.Jobs.{Jobs}
use Rattle.frame_ast.specs.Schedules.{arguments_of, widths_from}
use Rattle.frame_ast.specs.States.{ScriptState, container_at}
use Rattle.kernel_exec.specs.Binds.{widths}
use Rattle.kernel_exec.specs.Conditions.{BindsFit}
use Rattle.kernel_exec.specs.Laws.{HaveOwnParts}
use Rattle.frame_core.specs.declared.plan.JobPlan.{JobPlan}
use Rattle.frame_core.specs.Ordered.{JobFits}
use Rattle.frame_core.specs.Touched.{IsBound, IsBoundToWrite}
use Rattle.plan_laws.specs.Accepting.{Schedule, deps_of, argument_binds, plain_kernel, IsPlannedJob, needs_of, StandsIn, PlainKernelsStandIn}
use Rattle.plan_laws.specs.Drafts.{Draft}
use Rattle.plan_laws.specs.Enrolling.{IsOfArgument}
use Rattle.plan_laws.specs.Planned.{Outline}
use Rattle.plan_laws.proofs.Schedules.AtHand as at_hand
use Rattle.plan_laws.proofs.Schedules.AtHand.{IsAtHand}
use Rattle.plan_laws.proofs.Schedules.LeftWords.{argument_word, any_by, writes_by}
use Rattle.plan_laws.proofs.Owners.{word_has}
use Rattle.plan_laws.proofs.Schedules.Uses.{argument_used, argument_written}

-- a word of an argument's bind is one of a container that the schedule uses
module _ (x : Outline) (s : ScriptState) (o : Schedule) (k : Kernel) (d : Draft) (is : IsAtHand x s o d (Some k)) where
  abbrev ps : List Param
  ps = k.params.items

  abbrev ws : List ℕ
  ws = widths_from k.parallel o.waive 0 ps

  pub of_bound : (w : ℕ) → IsBound ps (argument_binds x.starts s o k) w → IsOfArgument x s (uses_it (needs_of s o k)) w
  of_bound w b =
      let a = argument_word x.starts s ps ws o.args b.number w b.bind (at_hand.all_fit x s o k d is) b.has_bind b.word in
      record {
        container = container_at s a.name;
        below = a.below;
        alive = a.alive;
        is_of = argument_used s o.defer ps o.args (container_at s a.name)
            (any_by s ps o.args b.number a.name (container_at s a.name) b.param b.has_param a.has refl);
        word = word_has x.starts s (container_at s a.name) w a.word;
      }

  pub of_written : (w : ℕ) → IsBoundToWrite ps (argument_binds x.starts s o k) w → IsOfArgument x s (writes_it (needs_of s o k)) w
  of_written w b =
      let a = argument_word x.starts s ps ws o.args b.bound.number w b.bound.bind (at_hand.all_fit x s o k d is) b.bound.has_bind b.bound.word in
      record {
        container = container_at s a.name;
        below = a.below;
        alive = a.alive;
        is_of = argument_written s o.defer ps o.args (container_at s a.name)
            (writes_by s ps o.args b.bound.number a.name (container_at s a.name) b.bound.param b.bound.has_param a.has refl b.writes);
        word = word_has x.starts s (container_at s a.name) w a.word;
      }

module _ (x : Outline) (s : ScriptState) (k : Kernel) (d : Draft) (deps : Jobs) (job : JobPlan) where
  abbrev StandIn : Schedule → Type 0
  StandIn o = IsAtHand x s o d (Some k) → IsPlannedJob x d o (plain_kernel x.starts s o k) deps job → StandsIn x s d o k (plain_kernel x.starts s o k) job

  -- without `defer`
  module _ (o : Schedule) where
    abbrev plain : Schedule
    plain = record o { defer = None }

    job_fits : IsAtHand x s plain d (Some k) → IsPlannedJob x d plain (plain_kernel x.starts s plain k) deps job → JobFits x.plan job k
    job_fits is pj = record {
      binds = subst (BindsFit k) (sym pj.binds) (at_hand.binds_fit x s plain k d is);
      within = λ y b h. at_hand.within x s plain k d is y b (ap (λ bs. slice_get bs y) (sym pj.binds) ∙ h);
      widths = record { waived = o.waive; widths_are = ap widths pj.binds ∙ at_hand.widths_are x s plain k d is };
      cut = pj.cut;
      one = pj.one;
      deps = pj.known_deps;
      is_parallel = λ h. (pj.parallel h).0;
      parts = λ h. subst (HaveOwnParts k) (sym pj.binds) (at_hand.own_parts x s plain k d is (pj.parallel h).0 (pj.parallel h).1);
    }

    stands : StandIn plain
    stands is pj = record {
      fits = job_fits is pj;
      checked = pj.checked;
      alike = refl;
      contents = arguments_of s k.params.items o.args;
      stand = at_hand.stand x s plain k d is;
      bound = of_bound x s plain k d is;
      bound_to_write = of_written x s plain k d is;
    }

pub plain_kernels_stand_in : PlainKernelsStandIn
plain_kernels_stand_in x g s o k d job small was a none has pj =
    let same : record o { defer = None } ≡ o = λ i. record o { defer = sym none i } in
    subst (StandIn x s k d (deps_of g s o) job) same (stands x s k d (deps_of g s o) job o)
    (at_hand.at_hand x g s o k d small was a has) pj
