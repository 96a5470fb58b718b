-- A planner that scheduled a job: it stands for the state afterwards.
use Rattle.std.proofs.Common.{◌≡◌, ℕ, zero, suc, ◌+◌, ◌<◌, ◌≤◌, Bool, true, false, cond, ◌&&◌, ◌||◌, not, List, [], ◌∷◌, ◌++◌, length, Option, Some, refl, sym, ap, ◌∙◌, arith}
use Rattle.std.specs.Prelude.{Vec, nat_eq, nat_lt, slice_get, get_or, if◌then◌else◌}
use Rattle.std.specs.declared.alloc.Global.{Global}
use Rattle.std.proofs.lemmas.List.{length-append}
use Rattle.job_base.specs.declared.JobId.{JobId}
use Rattle.job_base.specs.declared.Span.{Span}
use Rattle.frame_ast.specs.declared.kernel.Kernel.{Kernel}
use Rattle.frame_ast.specs.Conflicts.{Uses, has_pending}
use Rattle.frame_ast.specs.Contents.{Contents, words_of}
use Rattle.frame_ast.specs.Jobs.{Jobs, greatest, with_job}
use Rattle.frame_ast.specs.Laws.{IsKnown}
use Rattle.frame_ast.specs.Orders.{Setting}
use Rattle.frame_ast.specs.States as states
use Rattle.frame_ast.specs.States.{ScriptState, JobTrap, is_live}
use Rattle.job_handle.specs.declared.book.JobBook.{JobBook}
use Rattle.job_handle.specs.declared.handle.Handle.{Handle}
use Rattle.job_handle.specs.Books.{StandsFor}
use Rattle.kernel_bytecode.specs.declared.code.Code.{Code}
use Rattle.safety_handle.specs.declared.book.SafetyBook.{SafetyBook}
use Rattle.safety_handle.specs.Entries.{state_of}
use Rattle.safety_handle.specs.Uses.{Latest, StandForUses}
use Rattle.frame_core.specs.declared.plan.JobPlan.{JobPlan}
use Rattle.frame_core.specs.declared.plan.Op.{Op}
use Rattle.frame_core.specs.declared.plan.Segment.{Segment}
use Rattle.frame_core.specs.Names.{pieces_of, pieces_before}
use Rattle.frame_core.specs.Ordered.{ops_count}
use Rattle.frame_core.proofs.Small.{get_below}
use Rattle.plan_laws.specs.Binds.{bind_of}
use Rattle.plan_laws.specs.Planned.{Outline, IsPlanned}
use Rattle.plan_state.specs.declared.state.Value.{Value}
use Rattle.plan_state.specs.declared.state.Container.{Container}
use Rattle.plan_state.specs.declared.state.Planner.{Planner}
use Rattle.plan_state.specs.Stands.{AreNames, AreKernels, IsContainer, IsOwned, Agrees, Stands, draft_of}
use Rattle.plan_state.proofs.Restating.{words_kept}

pub pieces_more : (xs : List JobPlan) (y : JobPlan) → pieces_before (xs ++ y ∷ []) (length (xs ++ y ∷ [])) ≡ pieces_before xs (length xs) + pieces_of y
pieces_more [] y = omega arith
pieces_more (x ∷ xs) y = let e = pieces_more xs y in omega arith

ops_more : (xs : List Segment) (y : Segment) → ops_count (xs ++ y ∷ []) ≡ ops_count xs + length y.ops.items
ops_more [] y = omega arith
ops_more (x ∷ xs) y = let e = ops_more xs y in omega arith

module _ (p : Planner) (g : Setting) (begun : ScriptState) (n : ℕ) (s : ScriptState) (found : List ℕ) (st : Stands p g begun n s found)
    (values : Vec Value Global) (handles : Vec Handle Global) (jobs : JobBook) (safety : SafetyBook) (kernels guards : Vec (Option ℕ) Global)
    (copies : Vec Kernel Global) (codes : Vec Code Global)
    (segments : Vec Segment Global) (plan_jobs : Vec JobPlan Global) (waits : Vec JobId Global) (ops : Vec Op Global) (pieces : ℕ)
    (names : ℕ → states.Value) (contents : ℕ → Contents) (view : ℕ → ℕ) (uses : ℕ → Uses) (deps : Jobs) (traps : List JobTrap) where
  abbrev pub q : Planner
  q = record p {
    world = record p.world {
      values = values;
      handles = handles;
      jobs = jobs;
      safety = safety;
    };
    draft = record p.draft {
      kernels = copies;
      codes = codes;
      segments = segments;
      jobs = plan_jobs;
      waits = waits;
      ops = ops;
      pieces = pieces;
      copies_of = kernels;
      guards_of = guards;
    };
  }

  abbrev pub t : ScriptState
  t = record s { values = names; contents = contents; view = view; uses = uses; book = with_job s.book deps; traps = traps }

  -- what changed, and how
  pub record IsWithJob (segment : Segment) (job : JobPlan) : Type 0 where
    pub known : IsKnown t
    pub named : AreNames values.items handles.items (length p.world.containers.items) t
    pub values_long : length values.items ≡ length p.world.values.items
    pub handles_few : length handles.items ≤ suc (length p.world.handles.items)
    pub form : (c start : ℕ) → c < s.made → bind_of start (contents c) ≡ bind_of start (s.contents c)
    pub lives : (k : ℕ) → (state_of safety k).live ≡ (state_of p.world.safety k).live
    pub versions : (k : ℕ) → (state_of safety k).version ≡ (state_of p.world.safety k).version
    pub stand : (c : ℕ) (it : Container) → slice_get p.world.containers.items c ≡ Some it → s.alive c ≡ true
        → StandForUses (with_job s.book deps) (state_of safety it.slot.0).latest (uses c)
    pub views : (c : ℕ) (it : Container) → slice_get p.world.containers.items c ≡ Some it → s.alive c ≡ true → (state_of safety it.slot.0).view ≡ view c
    pub unused : (c : ℕ) → s.alive c ≡ false → (j : ℕ) → (uses c).users j ≡ (s.uses c).users j
    pub held : (c : ℕ) (l : Latest) → s.alive c ≡ false → StandForUses s.book l (s.uses c) → StandForUses (with_job s.book deps) l (uses c)
    pub book : StandsFor jobs (with_job s.book deps)
    pub kernels_are : AreKernels q g
    pub copies_few : length copies.items ≤ suc (length p.draft.kernels.items)
    pub segments_are : segments.items ≡ p.draft.segments.items ++ segment ∷ []
    pub ops_were : segment.ops.items ≡ p.draft.ops.items
    pub ops_are : ops.items ≡ []
    pub jobs_are : plan_jobs.items ≡ p.draft.jobs.items ++ job ∷ []
    pub pieces_are : pieces ≡ p.draft.pieces + pieces_of job
    pub planned : (x : Outline) → Agrees q g begun found x → IsPlanned x t (draft_of q)

  module _ (segment : Segment) (job : JobPlan) (is : IsWithJob segment job) where
    pending_same : (c : ℕ) → s.alive c ≡ false → has_pending (with_job s.book deps) (uses c) ≡ has_pending s.book (s.uses c)
    pending_same c dead =
        let count = s.book.count in
        let set : Jobs = λ j. (s.uses c).users j && not (s.book.completed j) in
        let same : (λ j. (uses c).users j && not (s.book.completed j)) ≡ set = λ i j. is.unused c dead j i && not (s.book.completed j) in
        ap (λ f. not (nat_eq (greatest f (suc count)) 0)) same
        ∙ ap (λ b. not (nat_eq (if b && not (s.book.completed (suc count)) then suc count else greatest set count) 0))
        (none ((s.uses c).users (suc count)) refl)
      where
        none : (b : Bool) → (s.uses c).users (suc s.book.count) ≡ b → b ≡ false
        none true e = let up = ((st.knows.known.uses c).users (suc s.book.count) e).1 in absurd (omega arith)
        none false e = refl

    live_same : (c : ℕ) → is_live t c ≡ is_live s c
    live_same c = by (s.alive c) refl
      where
        by : (b : Bool) → s.alive c ≡ b → is_live t c ≡ is_live s c
        by true e = (λ i. nat_lt c s.made && (e i || has_pending (with_job s.book deps) (uses c)))
            ∙ sym (λ i. nat_lt c s.made && (e i || has_pending s.book (s.uses c)))
        by false e = ap (λ b. nat_lt c s.made && (s.alive c || b)) (pending_same c e)

    was_live : (c : ℕ) → is_live t c ≡ true → is_live s c ≡ true
    was_live c e = sym (live_same c) ∙ e

    words : (c : ℕ) → c < s.made → words_of (contents c) ≡ words_of (s.contents c)
    words c below = words_kept (contents c) (s.contents c) (λ start. is.form c start below)

    below_made : (c : ℕ) (it : Container) → slice_get p.world.containers.items c ≡ Some it → c < s.made
    below_made c it h = let lt = get_below p.world.containers.items c it h in let e = st.knows.containers.made in omega arith

    container_kept : (c : ℕ) (it : Container) → slice_get p.world.containers.items c ≡ Some it → IsContainer p.world s found c it
        → IsContainer q.world t found c it
    container_kept c it h k =
        let span : ℕ → Span = λ w. record { start = get_or found (s.range c) 0; len = w } in
        let live = is.lives it.slot.0 in
        let version = is.versions it.slot.0 in
        record {
          bind = k.bind ∙ sym (is.form c (get_or found (s.range c) 0) (below_made c it h));
          range = k.range;
          life = k.life;
          making = k.making;
          named = (let lt = k.named in let e = is.values_long in omega arith);
          alive = (λ i. live i && nat_eq (version i) it.version.0) ∙ k.alive;
          uses = λ e. is.stand c it h e;
          view = λ e. is.views c it h e;
          in_use = λ e. k.in_use (was_live c e);
          span = λ e. k.span (was_live c e) ∙ ap span (sym (words c (below_made c it h)));
          taken = k.taken;
          older = k.older;
          low = k.low;
          held = λ dead e. (let h = k.held dead (was_live c e) in record {
            held = h.held;
            latest = h.latest;
            stands = is.held c h.latest dead h.stands;
            users = h.users;
          });
        }

    owned_kept : (slot : ℕ) → IsOwned p.world s slot → IsOwned q.world t slot
    owned_kept slot o = record { container = o.container; it = o.it; has = o.has; slot_is = o.slot_is; live = live_same o.container ∙ o.live }

    live_kept : (m : ℕ) → m ≤ s.made → states.live_below t m ≡ states.live_below s m
    live_kept zero le = refl
    live_kept (suc m) le = λ i. live_kept m (omega arith) i + cond (live_same m i) (words m (omega arith) i) 0

    pieces_is : pieces ≡ pieces_before plan_jobs.items (length plan_jobs.items)
    pieces_is =
        is.pieces_are
        ∙ ap (λ k. k + pieces_of job) st.numbers.pieces
        ∙ sym (pieces_more p.draft.jobs.items job)
        ∙ sym (ap (λ js. pieces_before js (length js)) is.jobs_are)

    pub with_job_stands : Stands q g begun (suc n) t found
    with_job_stands =
        let m = st.numbers in
        let ops_long : ops_count segments.items ≡ ops_count p.draft.segments.items + length p.draft.ops.items =
        ap ops_count is.segments_are ∙ ops_more p.draft.segments.items segment ∙ ap (λ os. ops_count p.draft.segments.items + length os) is.ops_were in
        let no_ops : length ops.items ≡ 0 = ap length is.ops_are in
        let more_segments : length segments.items ≡ length p.draft.segments.items + 1 = ap length is.segments_are
        ∙ length-append p.draft.segments.items (segment ∷ []) in
        record {
          knows = record {
            known = is.known;
            names = is.named;
            each = is.values_long ∙ st.knows.each;
            containers = record {
              made = st.knows.containers.made;
              each = λ c it h. container_kept c it h (st.knows.containers.each c it h);
              slots = λ slot u. owned_kept slot (st.knows.containers.slots slot u);
              once = λ c d it other hc hd lc ld e. st.knows.containers.once c d it other hc hd (was_live c lc) (was_live d ld) e;
              versions = st.knows.containers.versions;
            };
            takes = st.knows.takes;
            temps = record { all = st.knows.temps.all; each = st.knows.temps.each };
            tempjobs = (let o = st.knows.tempjobs in record {
              all = o.all;
              each = o.each;
              rising = o.rising;
              within = o.within;
              past = o.past;
              ahead = o.ahead;
            });
            frames = record { order = st.knows.frames.order; past = st.knows.frames.past };
            jobs = is.book;
          };
          numbers = record {
            frame = m.frame;
            passing = m.passing;
            created = m.created;
            before = m.before;
            pieces = pieces_is;
            live_words = m.live_words ∙ sym (live_kept s.made (omega arith));
            frames_few = (let le = m.frames_few in omega arith);
            made_few = (let le = m.made_few in omega arith);
            created_few = m.created_few;
            peak_low = m.peak_low;
            slots_few = m.slots_few;
            ops_few = (let le = m.ops_few in omega arith);
            segments_few = (let le = m.segments_few in omega arith);
            literals_few = (let le = m.literals_few in omega arith);
            kernels_few = (let le = m.kernels_few in let few = is.copies_few in omega arith);
            handles_few = (let le = m.handles_few in let few = is.handles_few in omega arith);
          };
          kernels = is.kernels_are;
          planned = λ x a. is.planned x a;
        }
