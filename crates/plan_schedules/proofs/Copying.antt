-- A kernel's copy in its place: the schedule does the same, so the laws of planning hold of the copy too.
use Rattle.std.proofs.Common.{◌≡◌, ℕ, zero, suc, ◌<◌, Bool, true, false, List, [], ◌∷◌, ◌++◌, length, map, Some, None, refl, sym, ap, subst, ◌∙◌}
use Rattle.std.specs.Prelude.{Box, slice_get, slice_set, if◌then◌else◌}
use Rattle.std.specs.declared.alloc.Global.{Global}
use Rattle.frame_ast.specs.declared.kernel.Kernel.{Kernel}
use Rattle.frame_ast.specs.declared.kernel.Param.{Param}
use Rattle.frame_ast.specs.declared.script.Arg.{Arg}
use Rattle.frame_ast.specs.declared.script.Arg.TheVariants.{Name, Number}
use Rattle.frame_ast.specs.declared.script.Order.{Order}
use Rattle.frame_ast.specs.declared.script.Order.TheVariants.{Schedule as Scheduled}
use Rattle.frame_ast.specs.Arguments.{width_of}
use Rattle.frame_ast.specs.Fitting.{ArgsFit}
use Rattle.frame_ast.specs.Forms.{form_of}
use Rattle.frame_ast.specs.Orders.{Setting, kernel_params, kernel_parallel, params_of}
use Rattle.frame_ast.specs.Refusals.{jobs_named}
use Rattle.frame_ast.specs.Schedules.{need_of, given_args, givens, widths_from, writes_to}
use Rattle.frame_ast.specs.Conflicts.{automatic}
use Rattle.frame_ast.specs.Jobs.{both}
use Rattle.frame_ast.specs.States.{ScriptState}
use Rattle.frame_core.proofs.Small.{some_is}
use Rattle.plan_laws.specs.Accepting.{Schedule, accepted, deps_of, IsAcceptedSchedule}
use Rattle.tree_laws.specs.Same.{SameKernel, SameParam, Pairwise}
use Rattle.tree_laws.proofs.Itself.{kernels_are_themselves}
use Rattle.tree_laws.proofs.Runs.{same_runs}
use Rattle.tree_laws.proofs.Settings.{same_refusal, same_effect}
use Rattle.plan_schedules.proofs.Arguments.{same_args_fit, same_widths, same_at}
use Rattle.plan_state.proofs.Naming.{get_set}
use Rattle.frame_ast.specs.declared.script.NewJob.{NewJob}
use Rattle.plan_schedules.specs.Starting.{in_box, undeferred}

same_given_args : (s : ScriptState) (ps qs : List Param) → Pairwise SameParam ps qs → (args : List Arg) → given_args s ps args ≡ given_args s qs args
same_given_args s [] [] same args = refl
same_given_args s [] (q ∷ qs) same args = absurd same
same_given_args s (p ∷ ps) [] same args = absurd same
same_given_args s (p ∷ ps) (q ∷ qs) same [] = refl
same_given_args s (p ∷ ps) (q ∷ qs) same (Name n ∷ as_) =
    let access = same.0.access in
    let kinds = same.0.kind in
    let more = same_given_args s ps qs same.1 as_ in
    λ i. record { need = need_of s n (writes_to (access i)); kind = kinds i; is_length = false } ∷ more i
same_given_args s (p ∷ ps) (q ∷ qs) same (Number z ∷ as_) = same_given_args s ps qs same.1 as_

all_same : (ks : List Kernel) → Pairwise SameKernel ks ks
all_same [] = tt
all_same (k ∷ ks) = (kernels_are_themselves k, all_same ks)

pub set_same : (ks : List Kernel) (n : ℕ) (old new : Kernel) → slice_get ks n ≡ Some old → SameKernel old new → Pairwise SameKernel ks (slice_set ks n new)
set_same [] n old new h same = tt
set_same (k ∷ ks) zero old new h same = (subst (λ (k : Kernel). SameKernel k new) (sym (some_is h)) same, all_same ks)
set_same (k ∷ ks) (suc n) old new h same = (kernels_are_themselves k, set_same ks n old new h same)

module _ (g : Setting) (s : ScriptState) (home : Box NewJob Global) (asked : NewJob)
    (old new : Kernel) (is_old : slice_get g.kernels asked.kernel ≡ Some old) (below : asked.kernel < length g.kernels) (same : SameKernel old new) where
  -- the setting with the copy
  abbrev pub h : Setting
  h = record g { kernels = slice_set g.kernels asked.kernel new }

  abbrev pub o : Schedule
  o = record {
    auto = asked.auto;
    handle = asked.handle;
    kernel = asked.kernel;
    args = asked.args.items;
    cut = asked.cut;
    defer = None;
    waive = asked.waive.items;
    after = asked.after.items;
  }

  abbrev order : Order
  order = Scheduled (in_box home (undeferred asked))

  pairs : Pairwise SameKernel g.kernels h.kernels
  pairs = set_same g.kernels asked.kernel old new is_old same

  pub has_new : slice_get h.kernels asked.kernel ≡ Some new
  has_new = get_set g.kernels asked.kernel new below

  pub new_accepted : accepted g s o ≡ accepted h s o
  new_accepted = same_effect g h.kernels pairs 0 s order

  -- what is asked of the parameters
  abbrev Widths : List Param → Bool → Type 0
  Widths ps parallel = (n : ℕ) (q : Param) → parallel ≡ true → asked.waive.items ≡ [] → slice_get ps n ≡ Some q → writes_to q.access ≡ true
      → 0 < width_of (widths_from parallel asked.waive.items 0 ps) n

  new_widths : Widths old.params.items old.parallel → Widths new.params.items new.parallel
  new_widths w n r par none at wr =
      let q = same_at old.params.items new.params.items n r same.params at in
      subst (λ ws. 0 < width_of ws n) (same_widths old.parallel asked.waive.items 0 old.params.items new.params.items same.params
      ∙ ap (λ b. widths_from b asked.waive.items 0 new.params.items) same.parallel)
      (w n q.0 (same.parallel ∙ par) none q.1 (ap writes_to q.2 ∙ wr))

  pub new_is_accepted : IsAcceptedSchedule g s o → IsAcceptedSchedule h s o
  new_is_accepted a = record {
    runs = a.runs ∙ same_runs g.kernels h.kernels pairs;
    deferrable = tt;
    unrefused = sym (same_refusal g h.kernels pairs s order) ∙ a.unrefused;
    args_fit = subst (λ k. ArgsFit s None (kernel_params k) asked.args.items) (sym has_new)
        (same_args_fit s old.params.items new.params.items asked.args.items same.params
        (subst (λ k. ArgsFit s None (kernel_params k) asked.args.items) is_old a.args_fit));
    list_fits = tt;
    widths = subst (λ k. Widths (kernel_params k) (kernel_parallel k)) (sym has_new)
        (new_widths (subst (λ k. Widths (kernel_params k) (kernel_parallel k)) is_old a.widths));
    forms = λ c lt. ap (λ (t : ScriptState). form_of (t.contents c)) (sym new_accepted) ∙ a.forms c lt;
  }

  -- the dependency set is that of the script
  pub new_deps : deps_of g s o ≡ deps_of h s o
  new_deps =
      let gives : givens s (params_of g asked.kernel) asked.args.items None ≡ givens s (params_of h asked.kernel) asked.args.items None =
      ap (λ k. givens s (kernel_params k) asked.args.items None) is_old
      ∙ (λ i. same_given_args s old.params.items new.params.items same.params asked.args.items i ++ [])
      ∙ sym (ap (λ k. givens s (kernel_params k) asked.args.items None) has_new) in
      λ i.
      let named = jobs_named s asked.after.items in
      let needs = map (λ v. v.need) (gives i) in
      if asked.auto then both named (automatic s.book s.uses named needs) else named
