-- A worked plan is well ordered: the one with a parallel job in three pieces.
use Rattle.std.proofs.Common.{◌≡◌, ◌≢◌, ℕ, zero, suc, ◌<◌, ◌≤◌, ⊎_elim, true, IsTrue, List, [], ◌∷◌, length, Some, refl, sym, ap, subst, ◌∙◌, arith, All}
use Rattle.std.specs.Prelude.{slice_get}
use Rattle.job_base.specs.declared.JobId.{JobId}
use Rattle.frame_ast.specs.declared.kernel.Kernel.{Kernel}
use Rattle.frame_ast.specs.declared.kernel.Param.{Param}
use Rattle.frame_ast.specs.Checked.{IsChecked, may_write}
use Rattle.frame_ast.specs.Contents.{Contents}
use Rattle.kernel_bytecode.specs.declared.code.Code.{Code}
use Rattle.kernel_bytecode.specs.Codes.{IsCodeOf}
use Rattle.kernel_exec.specs.declared.binds.Bind.{Bind}
use Rattle.kernel_exec.specs.Binds.{IsWordOf, kind_of, end_of, own_of}
use Rattle.kernel_exec.specs.Footprint.{IsLength}
use Rattle.kernel_exec.specs.Conditions.{BindsFit}
use Rattle.kernel_exec.specs.Layout.{Holds, StandFor}
use Rattle.kernel_exec.specs.Laws.{HaveOwnParts}
use Rattle.merge_laws.specs.Graph.{Cells, LeadsTo, Conflicts}
use Rattle.merge_laws.specs.Graph.LeadsTo.{directly, further}
use Rattle.job_base.specs.Cells.{cell_list}
use Rattle.frame_ast.specs.Arguments.{argument}
use Rattle.frame_core.specs.declared.piece.Piece.TheVariants.{OfScript, OfJob}
use Rattle.frame_core.specs.Graphs.{before_piece}
use Rattle.frame_core.proofs.Parts.{parts_are_apart}
use Rattle.ast_rows.proofs.Trees.{Place, vec}
use Rattle.ast_rows.proofs.Kernel.{kernel}
use Rattle.ast_rows.proofs.Kernels.{scale}
use Rattle.ast_rows.proofs.CheckedKernels.{checked_scale}
use Rattle.frame_core.specs.declared.plan.JobPlan.{JobPlan}
use Rattle.frame_core.specs.declared.plan.Segment.{Segment}
use Rattle.frame_core.specs.declared.plan.Plan.{Plan}
use Rattle.frame_core.specs.Names.{job_at, segment_at, kernel_of, waits_in, has_job, pieces_of}
use Rattle.frame_core.specs.Graphs.{graph_of}
use Rattle.frame_core.specs.Pieces.{script_order}
use Rattle.frame_core.specs.Ordered.{OpsStand, WordsStand, IsWellOrderedPlan, IsSized, IsCutIn, JobFits, AreJobsFitting, OpFits, AreOpsFitting, AreInOrder, AreJobs, HasWidths}
use Rattle.frame_core.proofs.Small.{some_is, none_some, not_both}
use Rattle.plan_rows.proofs.Plans.{past_the_end, array, plan}

-- with any code of its kernel beside it
module _ (at : Place) (code : Code) (is_code : IsCodeOf (kernel at scale) code) where
  abbrev p : Plan
  p = record (past_the_end at) { codes = vec at (code ∷ []) }

  sized : IsSized p
  sized = record { jobs = omega arith; words_are = refl; words = omega arith; first = omega arith; pieces = omega arith; ops = omega arith }

  abbrev k : Kernel
  k = kernel at scale

  abbrev bs : List Bind
  bs = array 0 5 0 ∷ array 5 4 1 ∷ []

  kinds : (x : ℕ) (q : Param) (b : Bind) → slice_get k.params.items x ≡ Some q → slice_get bs x ≡ Some b → kind_of b ≡ q.kind
  kinds zero q b hq hb = ap kind_of (sym (some_is hb)) ∙ ap (λ (r : Param). r.kind) (some_is hq)
  kinds (suc zero) q b hq hb = ap kind_of (sym (some_is hb)) ∙ ap (λ (r : Param). r.kind) (some_is hq)
  kinds (suc (suc x)) q b hq hb = absurd (none_some hb)

  ends : (n x : ℕ) (b : Bind) → 9 ≤ n → slice_get bs x ≡ Some b → end_of b ≤ n
  ends n zero b le h = subst (λ (c : Bind). end_of c ≤ n) (some_is h) (omega arith)
  ends n (suc zero) b le h = subst (λ (c : Bind). end_of c ≤ n) (some_is h) (omega arith)
  ends n (suc (suc x)) b le h = absurd (none_some h)

  away : (w : ℕ) → IsWordOf (array 0 5 0) w → IsWordOf (array 5 4 1) w → ⊥
  away w u v = let hi = u.below in let lo = v.from in omega arith

  apart : (x y : ℕ) (a b : Bind) (w : ℕ) → IsTrue (may_write k.params.items x) → x ≢ y → slice_get bs x ≡ Some a → slice_get bs y ≡ Some b → IsWordOf a w
      → (IsLength a w → ⊥) → IsWordOf b w → ⊥
  apart zero zero a b w m ne ha hb u l v = ne refl
  apart zero (suc zero) a b w m ne ha hb u l v = away w (subst (λ (c : Bind). IsWordOf c w) (sym (some_is ha)) u)
      (subst (λ (c : Bind). IsWordOf c w) (sym (some_is hb)) v)
  apart (suc zero) zero a b w m ne ha hb u l v = away w (subst (λ (c : Bind). IsWordOf c w) (sym (some_is hb)) v)
      (subst (λ (c : Bind). IsWordOf c w) (sym (some_is ha)) u)
  apart (suc zero) (suc zero) a b w m ne ha hb u l v = ne refl
  apart (suc (suc x)) y a b w m ne ha hb u l v = absurd (none_some ha)
  apart zero (suc (suc y)) a b w m ne ha hb u l v = absurd (none_some hb)
  apart (suc zero) (suc (suc y)) a b w m ne ha hb u l v = absurd (none_some hb)

  parts : HaveOwnParts k bs
  parts zero b m h = absurd (not_both refl (sym m))
  parts (suc zero) b m h = subst (λ (c : Bind). own_of c ≢ 0) (some_is h) (λ e. omega arith)
  parts (suc (suc x)) b m h = absurd (none_some h)

  fit : BindsFit k bs
  fit = record { count = refl; kinds = kinds; ends = λ x b h. (let le = ends 9 x b (omega arith) h in omega arith); apart = apart }

  abbrev x : JobPlan
  x = Rattle.plan_rows.proofs.Plans.parallel_job at 0 (array 0 5 0 ∷ array 5 4 1 ∷ []) 5 2 [] 0

  fits : JobFits p x k
  fits = record {
    binds = fit;
    within = λ y b h. ends 9 y b (omega arith) h;
    widths = record { waived = []; widths_are = refl };
    cut = record { step = (omega arith, omega arith); pieces = omega arith; indexes = omega arith };
    one = λ e. absurd (not_both refl e);
    deps = (tt, λ i d lt. absurd (omega arith));
    is_parallel = λ e. refl;
    parts = λ e. parts;
  }

  jobs : AreJobsFitting p
  jobs = record {
    checked = checked;
    coded = record { each = refl; coded = coded };
    has_kernel = has_kernel;
    fits = each;
  }
    where
      checked : (n : ℕ) (it : Kernel) → slice_get p.kernels.items n ≡ Some it → IsChecked it
      checked zero it h = subst IsChecked (some_is h) (checked_scale.checked at)
      checked (suc n) it h = absurd (none_some h)

      coded : (n : ℕ) (it : Kernel) (c : Code) → slice_get p.kernels.items n ≡ Some it → slice_get p.codes.items n ≡ Some c → IsCodeOf it c
      coded zero it c h g = subst (λ (of : Kernel). IsCodeOf of c) (some_is h) (subst (IsCodeOf k) (some_is g) is_code)
      coded (suc n) it c h g = absurd (none_some h)

      has_kernel : (j : ℕ) (y : JobPlan) → job_at p j ≡ Some y → y.kernel < length p.kernels.items
      has_kernel zero y h = subst (λ (z : JobPlan). z.kernel < 1) (some_is h) (omega arith)
      has_kernel (suc j) y h = absurd (none_some h)

      each : (j : ℕ) (y : JobPlan) (it : Kernel) → job_at p j ≡ Some y → kernel_of p y ≡ Some it → JobFits p y it
      each zero y it h g =
          let same : x ≡ y = some_is h in
          let kin : Some k ≡ Some it = ap (kernel_of p) same ∙ g in
          subst (λ (z : JobPlan). JobFits p z it) same (subst (λ (c : Kernel). JobFits p x c) (some_is kin) fits)
      each (suc j) y it h g = absurd (none_some h)

  -- OPERATIONS

  fits_op : (name : ℕ) → name < 3 → (line : ℕ) (act : Rattle.frame_core.specs.declared.plan.Act.Act) → Rattle.frame_core.specs.Ordered.ActFits p act
      → OpFits p (record { line = line; name = name; act = act })
  fits_op name lt line act h = record { name = lt; act = h }

  ops : AreOpsFitting p
  ops zero s h = subst (λ (t : Segment). All (OpFits p) t.ops.items) (some_is h) first
    where
      first : All (OpFits p) (Rattle.plan_rows.proofs.Plans.fill_of 13 0 0 5 0 ∷ Rattle.plan_rows.proofs.Plans.fill 14 1 5 4 ∷ [])
      first zero d lt = record { name = omega arith; act = (omega arith, (omega arith, refl)) }
      first (suc zero) d lt = record { name = omega arith; act = (omega arith, tt) }
      first (suc (suc m)) d lt = absurd (omega arith)
  ops (suc zero) s h = subst (λ (t : Segment). All (OpFits p) t.ops.items) (some_is h) second
    where
      second : All (OpFits p) (Rattle.plan_rows.proofs.Plans.print 17 1 (array 5 4 0) ∷ [])
      second zero d lt = record { name = omega arith; act = ((omega arith, refl), tt) }
      second (suc m) d lt = absurd (omega arith)
  ops (suc (suc zero)) s h = subst (λ (t : Segment). All (OpFits p) t.ops.items) (some_is h) (λ m d lt. absurd (omega arith))
  ops (suc (suc (suc m))) s h = absurd (none_some h)

  -- ORDER

  earlier : (q r : ℕ) → r < (graph_of p).count → (graph_of p).precedes q r ≡ true → q < r
  unfolding graph_of script_order
  earlier zero zero lt e = absurd (not_both e refl)
  earlier (suc zero) zero lt e = absurd (not_both e refl)
  earlier (suc (suc zero)) zero lt e = absurd (not_both e refl)
  earlier (suc (suc (suc zero))) zero lt e = absurd (not_both e refl)
  earlier (suc (suc (suc (suc zero)))) zero lt e = absurd (not_both e refl)
  earlier (suc (suc (suc (suc (suc zero))))) zero lt e = absurd (not_both e refl)
  earlier (suc (suc (suc (suc (suc (suc q)))))) zero lt e = absurd (not_both e refl)
  earlier zero (suc zero) lt e = omega arith
  earlier (suc zero) (suc zero) lt e = absurd (not_both e refl)
  earlier (suc (suc zero)) (suc zero) lt e = absurd (not_both e refl)
  earlier (suc (suc (suc zero))) (suc zero) lt e = absurd (not_both e refl)
  earlier (suc (suc (suc (suc zero)))) (suc zero) lt e = absurd (not_both e refl)
  earlier (suc (suc (suc (suc (suc zero))))) (suc zero) lt e = absurd (not_both e refl)
  earlier (suc (suc (suc (suc (suc (suc q)))))) (suc zero) lt e = absurd (not_both e refl)
  earlier zero (suc (suc zero)) lt e = omega arith
  earlier (suc zero) (suc (suc zero)) lt e = omega arith
  earlier (suc (suc zero)) (suc (suc zero)) lt e = absurd (not_both e refl)
  earlier (suc (suc (suc zero))) (suc (suc zero)) lt e = absurd (not_both e refl)
  earlier (suc (suc (suc (suc zero)))) (suc (suc zero)) lt e = absurd (not_both e refl)
  earlier (suc (suc (suc (suc (suc zero))))) (suc (suc zero)) lt e = absurd (not_both e refl)
  earlier (suc (suc (suc (suc (suc (suc q)))))) (suc (suc zero)) lt e = absurd (not_both e refl)
  earlier zero (suc (suc (suc zero))) lt e = omega arith
  earlier (suc zero) (suc (suc (suc zero))) lt e = omega arith
  earlier (suc (suc zero)) (suc (suc (suc zero))) lt e = omega arith
  earlier (suc (suc (suc zero))) (suc (suc (suc zero))) lt e = absurd (not_both e refl)
  earlier (suc (suc (suc (suc zero)))) (suc (suc (suc zero))) lt e = absurd (not_both e refl)
  earlier (suc (suc (suc (suc (suc zero))))) (suc (suc (suc zero))) lt e = absurd (not_both e refl)
  earlier (suc (suc (suc (suc (suc (suc q)))))) (suc (suc (suc zero))) lt e = absurd (not_both e refl)
  earlier zero (suc (suc (suc (suc zero)))) lt e = omega arith
  earlier (suc zero) (suc (suc (suc (suc zero)))) lt e = omega arith
  earlier (suc (suc zero)) (suc (suc (suc (suc zero)))) lt e = omega arith
  earlier (suc (suc (suc zero))) (suc (suc (suc (suc zero)))) lt e = omega arith
  earlier (suc (suc (suc (suc zero)))) (suc (suc (suc (suc zero)))) lt e = absurd (not_both e refl)
  earlier (suc (suc (suc (suc (suc zero))))) (suc (suc (suc (suc zero)))) lt e = absurd (not_both e refl)
  earlier (suc (suc (suc (suc (suc (suc q)))))) (suc (suc (suc (suc zero)))) lt e = absurd (not_both e refl)
  earlier zero (suc (suc (suc (suc (suc zero))))) lt e = omega arith
  earlier (suc zero) (suc (suc (suc (suc (suc zero))))) lt e = omega arith
  earlier (suc (suc zero)) (suc (suc (suc (suc (suc zero))))) lt e = omega arith
  earlier (suc (suc (suc zero))) (suc (suc (suc (suc (suc zero))))) lt e = omega arith
  earlier (suc (suc (suc (suc zero)))) (suc (suc (suc (suc (suc zero))))) lt e = omega arith
  earlier (suc (suc (suc (suc (suc zero))))) (suc (suc (suc (suc (suc zero))))) lt e = absurd (not_both e refl)
  earlier (suc (suc (suc (suc (suc (suc q)))))) (suc (suc (suc (suc (suc zero))))) lt e = absurd (not_both e refl)
  earlier q (suc (suc (suc (suc (suc (suc r)))))) lt e = absurd (omega arith)

  order : AreInOrder p
  order = record {
    last = 2;
    last_is = refl;
    starts = refl;
    waits = waits;
    last_waits = last_waits;
    firsts = firsts;
    earlier = earlier;
  }
    where
      one : AreJobs p (record { 0 = 1 } ∷ [])
      one = ((omega arith, tt), ones)
        where
          ones : All (λ (id : JobId). id.0 ≤ 1) (record { 0 = 1 } ∷ [])
          ones zero d lt = omega arith
          ones (suc m) d lt = absurd (omega arith)

      none : AreJobs p []
      none = (tt, λ m d lt. absurd (omega arith))

      waits : (m : ℕ) (s : Segment) → segment_at p m ≡ Some s → AreJobs p s.waits.items
      waits zero s h = subst (λ (t : Segment). AreJobs p t.waits.items) (some_is h) none
      waits (suc zero) s h = subst (λ (t : Segment). AreJobs p t.waits.items) (some_is h) one
      waits (suc (suc zero)) s h = subst (λ (t : Segment). AreJobs p t.waits.items) (some_is h) one
      waits (suc (suc (suc m))) s h = absurd (none_some h)

      last_waits : (j : ℕ) → j < 1 → has_job (waits_in (segment_at p 2)) (suc j) ≡ true
      last_waits zero lt = refl
      last_waits (suc j) lt = absurd (omega arith)

      firsts : (j : ℕ) (y : JobPlan) → job_at p j ≡ Some y → y.first.0 ≡ Rattle.frame_core.specs.Names.pieces_before p.jobs.items j
      firsts zero y h = ap (λ (z : JobPlan). z.first.0) (sym (some_is h))
      firsts (suc j) y h = absurd (none_some h)

  -- CONFLICTS

  lead : (q r w : ℕ) → q < r → r < (graph_of p).count → Conflicts (graph_of p) q r w → LeadsTo (graph_of p) q r
  unfolding graph_of script_order
  lead q zero w lt n con = absurd (omega arith)
  lead zero (suc zero) w lt n con = directly refl
  lead (suc q) (suc zero) w lt n con = absurd (omega arith)
  lead zero (suc (suc zero)) w lt n con = directly refl
  lead (suc zero) (suc (suc zero)) w lt n con = ⊎_elim (λ c. absurd (parts_are_apart p jobs 0 0 1 w x refl (omega arith) (omega arith)
      (λ e. omega arith) c.0 c.1)) (λ c. absurd (parts_are_apart p jobs 0 1 0 w x refl (omega arith) (omega arith) (λ e. omega arith) c.1 c.0)) con
  lead (suc (suc q)) (suc (suc zero)) w lt n con = absurd (omega arith)
  lead zero (suc (suc (suc zero))) w lt n con = directly refl
  lead (suc zero) (suc (suc (suc zero))) w lt n con = ⊎_elim (λ c. absurd
      (parts_are_apart p jobs 0 0 2 w x refl (omega arith) (omega arith) (λ e. omega arith) c.0 c.1))
      (λ c. absurd (parts_are_apart p jobs 0 2 0 w x refl (omega arith) (omega arith) (λ e. omega arith) c.1 c.0)) con
  lead (suc (suc zero)) (suc (suc (suc zero))) w lt n con = ⊎_elim (λ c. absurd
      (parts_are_apart p jobs 0 1 2 w x refl (omega arith) (omega arith) (λ e. omega arith) c.0 c.1))
      (λ c. absurd (parts_are_apart p jobs 0 2 1 w x refl (omega arith) (omega arith) (λ e. omega arith) c.1 c.0)) con
  lead (suc (suc (suc q))) (suc (suc (suc zero))) w lt n con = absurd (omega arith)
  lead zero (suc (suc (suc (suc zero)))) w lt n con = further {q = 1} (directly refl) refl
  lead (suc zero) (suc (suc (suc (suc zero)))) w lt n con = directly refl
  lead (suc (suc zero)) (suc (suc (suc (suc zero)))) w lt n con = directly refl
  lead (suc (suc (suc zero))) (suc (suc (suc (suc zero)))) w lt n con = directly refl
  lead (suc (suc (suc (suc q)))) (suc (suc (suc (suc zero)))) w lt n con = absurd (omega arith)
  lead zero (suc (suc (suc (suc (suc zero))))) w lt n con = further {q = 1} (directly refl) refl
  lead (suc zero) (suc (suc (suc (suc (suc zero))))) w lt n con = directly refl
  lead (suc (suc zero)) (suc (suc (suc (suc (suc zero))))) w lt n con = directly refl
  lead (suc (suc (suc zero))) (suc (suc (suc (suc (suc zero))))) w lt n con = directly refl
  lead (suc (suc (suc (suc zero)))) (suc (suc (suc (suc (suc zero))))) w lt n con = directly refl
  lead (suc (suc (suc (suc (suc q))))) (suc (suc (suc (suc (suc zero))))) w lt n con = absurd (omega arith)
  lead q (suc (suc (suc (suc (suc (suc r)))))) w lt n con = absurd (omega arith)

  -- WORDS

  stand : WordsStand p
  stand = record { ops = ops_stand; binds = binds_stand }
    where
      ops_stand : (m : ℕ) (s : Segment) → segment_at p m ≡ Some s → OpsStand p s.ops.items (before_piece p (OfScript m))
      ops_stand zero s h = subst (λ (t : Segment). OpsStand p t.ops.items (before_piece p (OfScript 0))) (some_is h) (tt, (tt, tt))
      ops_stand (suc zero) s h = subst (λ (t : Segment). OpsStand p t.ops.items (before_piece p (OfScript 1))) (some_is h)
          ((Contents.Cells (cell_list (before_piece p (OfScript 1)) 5 4), refl), tt)
      ops_stand (suc (suc zero)) s h = subst (λ (t : Segment). OpsStand p t.ops.items (before_piece p (OfScript 2))) (some_is h) tt
      ops_stand (suc (suc (suc m))) s h = absurd (none_some h)

      given : Cells → List Contents
      given c = Contents.Cells (cell_list c 0 5) ∷ Contents.Cells (cell_list c 5 4) ∷ []

      holds : (c : Cells) (y : ℕ) (b : Bind) → slice_get bs y ≡ Some b → Holds c b (argument (given c) y)
      holds c zero b h = subst (λ (d : Bind). Holds c d (argument (given c) 0)) (some_is h) refl
      holds c (suc zero) b h = subst (λ (d : Bind). Holds c d (argument (given c) 1)) (some_is h) refl
      holds c (suc (suc y)) b h = absurd (none_some h)

      binds_stand : (j i : ℕ) (y : JobPlan) → job_at p j ≡ Some y → i < pieces_of y
          → (contents : List Contents) × StandFor y.binds.items (before_piece p (OfJob j i)) contents
      binds_stand zero i y h lt = subst (λ (z : JobPlan). (contents : List Contents) × StandFor z.binds.items (before_piece p (OfJob 0 i)) contents) (some_is h)
          (given (before_piece p (OfJob 0 i)), record { count = refl; each = holds (before_piece p (OfJob 0 i)) })
      binds_stand (suc j) i y h lt = absurd (none_some h)

  -- The plan is well ordered.
  pub well_ordered : IsWellOrderedPlan p
  well_ordered = record { sized = sized; jobs = jobs; ops = ops; order = order; conflicts = lead; stand = stand }
