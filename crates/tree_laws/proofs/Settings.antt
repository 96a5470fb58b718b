-- A statement does the same in two settings whose kernels are the same.
use Rattle.std.proofs.Common.{◌≡◌, refl, ap, ◌∙◌, ℕ, zero, suc, ◌+◌, Bool, false, List, [], ◌∷◌, ◌++◌, map, get_or, Option, slice_get}
use Rattle.std.specs.Prelude.{if◌then◌else◌}
use Rattle.frame_ast.specs.declared.kernel.Param.{Param}
use Rattle.frame_ast.specs.declared.kernel.Kernel.{Kernel}
use Rattle.frame_ast.specs.declared.script.Arg.{Arg}
use Rattle.frame_ast.specs.declared.script.Arg.TheVariants.{Name, Number}
use Rattle.frame_ast.specs.declared.script.Order.{Order}
use Rattle.frame_ast.specs.declared.script.Order.TheVariants.{Schedule}
use Rattle.frame_ast.specs.Contents.{Contents}
use Rattle.frame_ast.specs.JobRuns.{no_run}
use Rattle.frame_ast.specs.Jobs.{only, both, with_job}
use Rattle.frame_ast.specs.Conflicts.{automatic, with_uses}
use Rattle.frame_ast.specs.States.{Value, ScriptState, with_at, with_contents, container_at, contents_at}
use Rattle.frame_ast.specs.Schedules.{writes_to, need_of, given_by, given_args, given_length, givens, seen_as, argument_of, arguments_of, left_in, leave, leave_all, width_by, width_at, widths_from}
use Rattle.frame_ast.specs.Refusals.{jobs_named, schedule_refusal}
use Rattle.frame_ast.specs.Orders.{Setting, kernel_params, params_of, kernel_parallel, is_parallel, job_length}
use Rattle.frame_ast.specs.Checks.{refusal}
use Rattle.frame_ast.specs.Effects.{all_broken, steps_by, accept, effect}
use Rattle.tree_laws.specs.Same.{SameParam, SameKernel, Pairwise}

-- parameters that are the same

same_given : (s : ScriptState) (p q : Param) → SameParam p q → (a : Arg) → given_by s p a ≡ given_by s q a
same_given s p q same (Name n) = λ i. record { need = need_of s n (writes_to (same.access i)); kind = same.kind i; is_length = false } ∷ []
same_given s p q same (Number z) = refl

same_given_args : (s : ScriptState) (ps qs : List Param) → Pairwise SameParam ps qs → (args : List Arg) → given_args s ps args ≡ given_args s qs args
same_given_args s [] [] same args = refl
same_given_args s [] (q ∷ qs) same args = absurd same
same_given_args s (p ∷ ps) [] same args = absurd same
same_given_args s (p ∷ ps) (q ∷ qs) same [] = refl
same_given_args s (p ∷ ps) (q ∷ qs) same (a ∷ as_) = λ i. same_given s p q same.0 a i ++ same_given_args s ps qs same.1 as_ i

same_argument : (s : ScriptState) (p q : Param) → SameParam p q → (a : Arg) → argument_of s p a ≡ argument_of s q a
same_argument s p q same (Name n) = λ i. seen_as (same.kind i) (s.values n) (contents_at s n)
same_argument s p q same (Number z) = refl

same_arguments : (s : ScriptState) (ps qs : List Param) → Pairwise SameParam ps qs → (args : List Arg) → arguments_of s ps args ≡ arguments_of s qs args
same_arguments s [] [] same args = refl
same_arguments s [] (q ∷ qs) same args = absurd same
same_arguments s (p ∷ ps) [] same args = absurd same
same_arguments s (p ∷ ps) (q ∷ qs) same [] = refl
same_arguments s (p ∷ ps) (q ∷ qs) same (a ∷ as_) = λ i. same_argument s p q same.0 a i ∷ same_arguments s ps qs same.1 as_ i

same_leave : (p q : Param) → SameParam p q → (a : Arg) (new : Contents) (s : ScriptState) → leave p a new s ≡ leave q a new s
same_leave p q same (Name n) new s =
    λ i. if writes_to (same.access i) then with_contents (container_at s n) (left_in (same.kind i) (s.values n) new (contents_at s n)) s else s
same_leave p q same (Number z) new s = refl

same_leave_all : (ps qs : List Param) → Pairwise SameParam ps qs → (args : List Arg) (news : List Contents) (s : ScriptState)
    → leave_all ps args news s ≡ leave_all qs args news s
same_leave_all [] [] same args news s = refl
same_leave_all [] (q ∷ qs) same args news s = absurd same
same_leave_all (p ∷ ps) [] same args news s = absurd same
same_leave_all (p ∷ ps) (q ∷ qs) same [] news s = refl
same_leave_all (p ∷ ps) (q ∷ qs) same (a ∷ as_) [] s = refl
same_leave_all (p ∷ ps) (q ∷ qs) same (a ∷ as_) (new ∷ news) s = λ i. same_leave_all ps qs same.1 as_ news (same_leave p q same.0 a new s i) i

same_width_by : (waived : Bool) (p q : Param) → SameParam p q → width_by waived p p.kind ≡ width_by waived q q.kind
same_width_by waived p q same = λ i. width_by waived (record p { by = same.by i }) (same.kind i)

same_width : (parallel : Bool) (waive : List ℕ) (x : ℕ) (p q : Param) → SameParam p q → width_at parallel waive x p ≡ width_at parallel waive x q
same_width parallel waive x p q same =
    λ i. width_at parallel waive x (record p { kind = same.kind i; access = same.access i; by = same.by i })

same_widths : (parallel : Bool) (waive : List ℕ) (x : ℕ) (ps qs : List Param) → Pairwise SameParam ps qs
    → widths_from parallel waive x ps ≡ widths_from parallel waive x qs
same_widths parallel waive x [] [] same = refl
same_widths parallel waive x [] (q ∷ qs) same = absurd same
same_widths parallel waive x (p ∷ ps) [] same = absurd same
same_widths parallel waive x (p ∷ ps) (q ∷ qs) same = λ i. same_width parallel waive x p q same.0 i ∷ same_widths parallel waive (x + 1) ps qs same.1 i

-- kernels that are the same

same_params : (ks ls : List Kernel) → Pairwise SameKernel ks ls → (n : ℕ) → Pairwise SameParam (kernel_params (slice_get ks n)) (kernel_params (slice_get ls n))
same_params [] [] same n = tt
same_params [] (l ∷ ls) same n = absurd same
same_params (k ∷ ks) [] same n = absurd same
same_params (k ∷ ks) (l ∷ ls) same zero = same.0.params
same_params (k ∷ ks) (l ∷ ls) same (suc n) = same_params ks ls same.1 n

same_parallel : (ks ls : List Kernel) → Pairwise SameKernel ks ls → (n : ℕ) → kernel_parallel (slice_get ks n) ≡ kernel_parallel (slice_get ls n)
same_parallel [] [] same n = refl
same_parallel [] (l ∷ ls) same n = absurd same
same_parallel (k ∷ ks) [] same n = absurd same
same_parallel (k ∷ ks) (l ∷ ls) same zero = same.0.parallel
same_parallel (k ∷ ks) (l ∷ ls) same (suc n) = same_parallel ks ls same.1 n

module _ (g : Setting) (ls : List Kernel) (same : Pairwise SameKernel g.kernels ls) where
  abbrev h : Setting
  h = record g { kernels = ls }

  params : (n : ℕ) → Pairwise SameParam (params_of g n) (params_of h n)
  params = same_params g.kernels ls same

  same_givens : (s : ScriptState) (n : ℕ) (args : List Arg) (defer : Option (ℕ × ℕ)) → givens s (params_of g n) args defer ≡ givens s (params_of h n) args defer
  same_givens s n args defer = λ i. same_given_args s (params_of g n) (params_of h n) (params n) args i ++ given_length s defer

  pub same_refusal : (s : ScriptState) (x : Order) → refusal g s x ≡ refusal h s x
  same_refusal s (Schedule job) =
      λ i. schedule_refusal s (same_parallel g.kernels ls same job.value.kernel i) job.value.auto
      (same_givens s job.value.kernel job.value.args.items job.value.defer i) job.value.after.items
  same_refusal s x = refl

  same_accept : (s : ScriptState) (auto : Bool) (handle kernel : ℕ) (args : List Arg) (cut defer : Option (ℕ × ℕ)) (waive after : List ℕ)
      → accept g s auto handle kernel args cut defer waive after ≡ accept h s auto handle kernel args cut defer waive after
  same_accept s auto handle kernel args cut defer waive after = λ i.
      let ps = params_of g kernel in
      let qs = params_of h kernel in
      let gs = same_givens s kernel args defer i in
      let needs = map (λ v. v.need) gs in
      let job = s.book.count + 1 in
      let named = jobs_named s after in
      let deps = if auto then both named (automatic s.book s.uses named needs) else named in
      let widths = (same_widths (is_parallel g kernel) waive 0 ps qs (params kernel)
      ∙ ap (λ b. widths_from b waive 0 qs) (same_parallel g.kernels ls same kernel)) i in
      let ran = get_or g.runs kernel no_run widths (steps_by defer) (job_length s cut defer) (same_arguments s ps qs (params kernel) args i) in
      let left = all_broken gs (same_leave_all ps qs (params kernel) args ran.store s i) in
      record left {
        values = with_at s.values handle (Value.Handle (only job));
        uses = with_uses s.uses job needs;
        book = with_job s.book deps;
        traps = s.traps ++ map (λ t. record { job = job; index = t.0; trap = t.1 }) ran.traps;
      }

  pub same_effect : (line : ℕ) (s : ScriptState) (x : Order) → effect g line s x ≡ effect h line s x
  same_effect line s (Schedule job) = same_accept s job.value.auto job.value.handle job.value.kernel job.value.args.items job.value.cut job.value.defer
      job.value.waive.items job.value.after.items
  same_effect line s x = refl
